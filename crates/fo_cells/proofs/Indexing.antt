-- A block that was made gets its index; and a doubt that is overruled.
use Rattle.std.proofs.Common.{◌≡◌, ◌≢◌, ◌⊎◌, inl, inr, ⊎_elim, ℕ, ◌<◌, ◌≤◌, false, List, [], ◌∷◌, length, sym, ◌∙◌, ap, subst, arith}
use Rattle.std.specs.List.{Contains}
use Rattle.fo_image.specs.declared.types.Label.{Label}
use Rattle.fo_image.specs.declared.types.Pointer.TheVariants.{Local}
use Rattle.fo_image.specs.Usable.{is_usable}
use Rattle.fo_crash.specs.declared.slot.Slot.{Slot}
use Rattle.fo_crash.specs.declared.place.Place.{Place}
use Rattle.fo_crash.specs.Images.{Content, Image, SameContent, Reaches, target, to_block}
use Rattle.fo_crash.specs.Places.{place_below}
use Rattle.fo_crash.specs.Steps.{AddsNothing}
use Rattle.fo_crash.proofs.Sure.{same_joins, same_if}
use Rattle.fo_cells.specs.Known.{Known, Wait, Clear, IsWait, IsClear, IsSince, MaySlot, Remains, IsKept, Leads, Stands, written}
use Rattle.fo_cells.specs.Calls.{Indexes}
use Rattle.fo_cells.specs.Safe.{super_top, IsLive, IsSafe}
use Rattle.fo_cells.proofs.Standing.{at_b, stands_top, stands_below, written_may}
use Rattle.fo_cells.proofs.Keeping.{may_name_still}
use Rattle.fo_cells.proofs.Settling.{Fewer, fewer_adds, may_fewer, same_seen, same_written}
use Rattle.fo_cells.proofs.Super.{remains_nothing, supers_still}

module _ {at : ℕ} {q : Place} {old new : Known} (x : Indexes at q old new) where
  index_fewer : Fewer old new
  index_fewer = record {
    memory = x.memory;
    stood = λ b c h. subst (λ (cs : List Content). Contains cs c) (same_seen old new x.memory x.device.newborn x.device.late x.device.versions b) h;
    waits = λ leaf on j h. inl (subst (λ (ws : List Wait). IsWait ws leaf on j) (sym x.waits) h);
    clears = λ b i leaf h. subst (λ (cs : List Clear). IsClear cs b i leaf) x.clears h;
    since = λ b i leaf bytes h. subst (λ (cs : List Clear). IsSince cs b i leaf bytes) x.clears h;
  }

  -- The images stay.
  pub index_adds : AddsNothing (Remains old) (Remains new)
  index_adds = remains_nothing (fewer_adds index_fewer) (record {
    memory = same_if (at_b 1 x.memory);
    versions = λ c h. inl (subst (λ (cs : List Content). Contains cs c) (at_b 1 x.device.versions) h);
  })

  pub may_index : (a i : ℕ) (s : Slot) → MaySlot new a i s → MaySlot old a i s
  may_index a i s h = may_fewer index_fewer a i s h

  -- A block stands where it stood, or is this one at its place.
  pub stands_index : (b : ℕ) (r : Place) → Stands new b r → (Stands old b r × (b ≢ at)) ⊎ ((b ≡ at) × (r ≡ q))
  stands_index b r st = ⊎_elim
      (λ was. inl (along st.path st.top.at st.top.place (stands_top st.top was.0) was.1 st.leads))
      (λ is. from st.path st.leads is)
      (x.tops st.top st.is_top)
    where
      along : (path : List (ℕ × Slot)) (a : ℕ) (p : Place) → Stands old a p → (a ≢ at) → Leads new path a p b r → Stands old b r × (b ≢ at)
      along [] a p st ne l = (subst (λ y. Stands old y r) l.0 (subst (λ y. Stands old a y) l.1 st), λ e. ne (l.0 ∙ e))
      along ((i, s) ∷ path) a p st ne l =
          let m = may_index a i s l.0 in
          along path l.1.0 (place_below p i s) (stands_below i s l.1.0 st m l.1.1) (λ e. x.unled a i s p st m (l.1.1 ∙ ap (λ y. Local y) e)) l.1.2

      from : (path : List (ℕ × Slot)) → Leads new path st.top.at st.top.place b r → (st.top.at ≡ at) × (st.top.place ≡ q) → (Stands old b r × (b ≢ at)) ⊎ ((b ≡ at) × (r ≡ q))
      from [] l is = inr (sym l.0 ∙ is.0, sym l.1 ∙ is.1)
      from ((i, s) ∷ path) l is = absurd (x.empty i l.1.0 s (subst (λ y. MaySlot old y i s) is.0 (may_index st.top.at i s l.0)) l.1.1)

  led_on : (a i b : ℕ) (s : Slot) → a ≡ at → MaySlot new a i s → target s ≡ Local b → ⊥
  led_on a i b s is may e = x.empty i b s (subst (λ y. MaySlot old y i s) is (may_index a i s may)) e

  pub index_keeps : IsKept old → IsKept new
  index_keeps kept = record {
    one = λ b p r h k. ⊎_elim
        (λ was. ⊎_elim (λ also. kept.one b p r was.0 also.0) (λ is. absurd (was.1 is.0)) (stands_index b r k))
        (λ is. ⊎_elim (λ also. absurd (also.1 is.0)) (λ here. is.1 ∙ sym here.1) (stands_index b r k))
        (stands_index b p h);
    falls = λ a i b s p st may e. ⊎_elim
        (λ was. kept.falls a i b s p was.0 (may_index a i s may) e)
        (λ is. absurd (led_on a i b s is.0 may e))
        (stands_index a p st);
    labelled = λ b p ne st. ⊎_elim
        (λ was. let h = kept.labelled b p ne was.0 in (
          ap (λ (l : Label). l.kind) (at_b b x.label) ∙ h.0,
          ap (λ (l : Label). l.tag) (at_b b x.label) ∙ h.1,
          subst (λ n. is_usable n (new.label b) ≡ false) (sym x.low) (subst (λ (l : Label). is_usable old.low l ≡ false) (sym (at_b b x.label)) h.2),
        ))
        (λ is. (
          ap (λ (l : Label). l.kind) (at_b b x.label) ∙ ap (λ y. (old.label y).kind) is.0 ∙ x.fits.0 ∙ ap (λ (y : Place). y.kind) (sym is.1),
          ap (λ (l : Label). l.tag) (at_b b x.label) ∙ ap (λ y. (old.label y).tag) is.0 ∙ x.fits.1 ∙ ap (λ (y : Place). y.tag) (sym is.1),
          subst (λ n. is_usable n (new.label b) ≡ false) (sym x.low) (subst (λ (l : Label). is_usable old.low l ≡ false) (sym (at_b b x.label)) (subst (λ y. is_usable old.low (old.label y) ≡ false) (sym is.0) x.fits.2)),
        ))
        (stands_index b p st);
    named = λ a i t c p st h e.
        let was : Contains (written old a) c = subst (λ (cs : List Content). Contains cs c) (same_written old new x.device.newborn x.device.late x.device.versions a) h in
        let n = ⊎_elim
        (λ there. kept.named a i t c p there.0 was e)
        (λ is. absurd (x.empty i t (c.slot i) (subst (λ y. MaySlot old y i (c.slot i)) is.0 (written_may old a i c was)) e))
        (stands_index a p st) in (
          n.0,
          may_name_still old new t x.label x.low (at_b t x.device.newborn ∙ n.1.settled) (λ l k. n.1.labels l (subst (λ (g : ℕ → List Label). Contains (g t) l) x.device.labels k)),
        );
  }

  -- The whole invariant is kept, where the block is of the high epoch and waits for nothing.
  pub index_safe : {high : ℕ} {doubt : Content → Type 0} → (Contains old.tops super_top → Contains new.tops super_top) → (old.label at).epoch ≡ high → ((leaf on j : ℕ) → IsWait old.waits leaf on j → (leaf ≢ at) × (on ≢ at)) → IsSafe old high doubt → IsSafe new high doubt
  index_safe {high} {doubt} top epoch unwaited safe = record {
    kept = index_keeps safe.kept;
    of_device = record {
      blocks = λ b p st. subst (λ (cs : List Content). 0 < length cs) (sym (at_b b x.device.versions)) (⊎_elim
          (λ was. safe.of_device.blocks b p was.0)
          (λ is. subst (λ y. 0 < length (old.versions y)) (sym is.0) x.of_device.0)
          (stands_index b p st));
      labels = λ b p ne st. subst (λ (ls : List Label). 0 < length ls) (sym (at_b b x.device.labels)) (⊎_elim
          (λ was. safe.of_device.labels b p ne was.0)
          (λ is. subst (λ y. 0 < length (old.labels y)) (sym is.0) x.of_device.1)
          (stands_index b p st));
    };
    top = top safe.top;
    old = λ b p ne st young. ⊎_elim
        (λ was. let set = safe.old b p ne was.0 (subst (λ (l : Label). l.epoch < high) (at_b b x.label) young) in record {
          newborn = at_b b x.device.newborn ∙ set.newborn;
          versions = λ c h. same_joins (set.versions c (subst (λ (cs : List Content). Contains cs c) (at_b b x.device.versions) h)) (same_if (sym (at_b b x.memory)));
          clears = λ i leaf h. set.clears i leaf (subst (λ (cs : List Clear). IsClear cs b i leaf) x.clears h);
        })
        (λ is. let e : (new.label b).epoch ≡ high = ap (λ (l : Label). l.epoch) (at_b b x.label) ∙ ap (λ y. (old.label y).epoch) is.0 ∙ epoch in absurd (omega (arith, e, young)))
        (stands_index b p st);
    epochs = λ a i b s p ne st may e. ⊎_elim
        (λ was. subst (λ (l : Label). l.epoch ≤ (new.label a).epoch) (sym (at_b b x.label)) (subst (λ (l : Label). (old.label b).epoch ≤ l.epoch) (sym (at_b a x.label)) (safe.epochs a i b s p ne was.0 (may_index a i s may) e)))
        (λ is. absurd (led_on a i b s is.0 may e))
        (stands_index a p st);
    live = λ b ne r. subst (λ (l : Label). IsLive high l) (sym (at_b b x.label)) (safe.live b ne (subst (λ (m : Image). Reaches m (to_block 1) b) x.memory r));
    settled = at_b 1 x.device.newborn ∙ safe.settled;
    supers = supers_still (record {
      memory = same_if (at_b 1 x.memory);
      versions = λ c h. inl (subst (λ (cs : List Content). Contains cs c) (at_b 1 x.device.versions) h);
    }) safe.supers;
    waits = λ leaf on j h.
        let was = subst (λ (ws : List Wait). IsWait ws leaf on j) x.waits h in
        let m = safe.waits leaf on j was in
        let away = unwaited leaf on j was in (
          at_b leaf x.device.newborn ∙ m.0,
          m.1,
          m.2,
          subst (λ (cs : List Content). 0 < length cs) (sym (at_b leaf x.device.versions)) m.3,
          λ p r sp sr. m.4 p r (⊎_elim (λ y. y.0) (λ is. absurd (away.0 is.0)) (stands_index leaf p sp)) (⊎_elim (λ y. y.0) (λ is. absurd (away.1 is.0)) (stands_index on r sr)),
        );
    clears = λ b i leaf h. let m = safe.clears b i leaf (subst (λ (cs : List Clear). IsClear cs b i leaf) x.clears h) in (at_b b x.device.newborn ∙ m.0, m.1, m.2, ap (λ (l : Label). l.kind) (at_b b x.label) ∙ m.3, ap (λ (l : Label). l.epoch) (at_b b x.label) ∙ m.4);
  }

-- A DOUBT IS OVERRULED: block 1 was written anew with what memory has, and settled.
pub no_doubt : {k : Known} {high : ℕ} {doubt : Content → Type 0} → ((c : Content) → Contains (k.versions 1) c → SameContent c (k.memory 1)) → IsSafe k high doubt → IsSafe k high (λ c. ⊥)
no_doubt {k} {high} {doubt} all safe = record {
  kept = safe.kept;
  of_device = safe.of_device;
  top = safe.top;
  old = safe.old;
  epochs = safe.epochs;
  live = safe.live;
  settled = safe.settled;
  supers = record { versions = λ c h. inl (all c h) };
  waits = safe.waits;
  clears = safe.clears;
}
