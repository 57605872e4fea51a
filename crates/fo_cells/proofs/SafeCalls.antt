-- The whole invariant is kept where a block is given out, and where a super block is tried or counts.
use Rattle.std.proofs.Common.{◌≡◌, ◌≢◌, inl, ⊎_elim, ℕ, ◌<◌, ◌≤◌, List, [], ◌∷◌, length, refl, sym, ◌∙◌, ap, subst, arith}
use Rattle.std.proofs.lemmas.Bool.{cases_eq}
use Rattle.std.specs.List.{Contains}
use Rattle.fo_image.specs.declared.types.Label.{Label}
use Rattle.fo_image.specs.declared.types.Pointer.{Pointer}
use Rattle.fo_image.specs.declared.types.Pointer.TheVariants.{Nil, Local, Score as Held}
use Rattle.fo_crash.specs.declared.slot.Slot.{Slot}
use Rattle.fo_crash.specs.declared.place.Place.{Place}
use Rattle.fo_crash.specs.Images.{Content, Image, SameContent, Reaches, target, local, walk, to_block}
use Rattle.fo_crash.specs.Places.{super_place, place_below}
use Rattle.fo_crash.proofs.Sure.{same_joins, same_back, same_if}
use Rattle.fo_crash.proofs.Reach.{same_walk}
use Rattle.fo_cells.specs.Known.{Known, Top, Wait, Clear, IsWait, IsClear, IsKept, MaySlot, Stands}
use Rattle.fo_cells.specs.Writes.{Gives}
use Rattle.fo_cells.specs.Calls.{SameButSuper, TriesSuper, CountsSuper, HasSupers}
use Rattle.fo_cells.specs.Safe.{super_top, IsSet, IsLive, IsSafe}
use Rattle.fo_cells.proofs.Standing.{at_b, stands_below, stands_top}
use Rattle.fo_cells.proofs.Giving.{stands_new, stood, may_there, may_here, give_adds, give_keeps}
use Rattle.fo_cells.proofs.Known.{memory_may}
use Rattle.fo_cells.proofs.Super.{supers_still, may_other, super_stands, super_keeps, super_doubt, counts_stands, counts_keeps, counts_doubt}

-- Two images that are the same but for one block are walked alike from where no path leads to it.
pub walk_beside : (old new : Image) (at : ℕ) → ((b : ℕ) → b ≢ at → SameContent (new b) (old b)) → (path : List ℕ) (s : Slot) → ((rest : List ℕ) → target (walk new s rest) ≡ Local at → ⊥) → walk new s path ≡ walk old s path
walk_beside old new at same [] s never = refl
walk_beside old new at same (i ∷ path) s never =
    walk_beside old new at same path ((local new (target s)).slot i) (λ rest e. never (i ∷ rest) e)
    ∙ ap (λ x. walk old x path) (one (target s) (λ e. never [] e))
  where
    one : (p : Pointer) → (p ≡ Local at → ⊥) → (local new p).slot i ≡ (local old p).slot i
    one Nil h = refl
    one (Held x) h = refl
    one (Local a) h = (same a (λ e. h (ap (λ y. Local y) e))).slots i

-- A BLOCK IS GIVEN OUT, of the high epoch or, the root of a snapshot's new tree, of the next
pub give_over : {at : ℕ} {c : Content} {p : Place} {old new : Known} {high : ℕ} {doubt : Content → Type 0} → Gives at c p old new → at ≢ 1 → high ≤ (new.label at).epoch → ((i t : ℕ) → target (c.slot i) ≡ Local t → (old.label t).epoch ≤ (new.label at).epoch) → (Contains old.tops super_top → Contains new.tops super_top) → ((leaf on j : ℕ) → IsWait new.waits leaf on j → IsWait old.waits leaf on j) → IsSafe old high doubt → IsSafe new high doubt
give_over {at} {c} {p} {old} {new} {high} {doubt} g other up below top waits safe = record {
  kept = give_keeps g safe.kept;
  of_device = record {
    blocks = λ b q st. subst (λ (cs : List Content). 0 < length cs) (sym (at_b b g.versions)) (⊎_elim
        (λ was. safe.of_device.blocks b q was)
        (λ n. subst (λ y. 0 < length (old.versions y)) (sym n.0) g.of_device.0)
        (stands_new g b q st));
    labels = λ b q ne st. subst (λ (ls : List Label). 0 < length ls) (sym (at_b b g.labels)) (⊎_elim
        (λ was. safe.of_device.labels b q ne was)
        (λ n. subst (λ y. 0 < length (old.labels y)) (sym n.0) g.of_device.1)
        (stands_new g b q st));
  };
  top = top safe.top;
  old = λ b q ne st young. ⊎_elim
      (λ was. let away = stood g b q was in
      let set = safe.old b q ne was (subst (λ (l : Label). l.epoch < high) (g.label b away) young) in record {
        newborn = g.newborn b away ∙ set.newborn;
        versions = λ d h. same_joins (set.versions d (subst (λ (cs : List Content). Contains cs d) (at_b b g.versions) h)) (same_back (g.memory.others b away));
        clears = λ i leaf h. set.clears i leaf (g.clears b i leaf h).0;
      })
      (λ n. let e : (new.label b).epoch ≡ (new.label at).epoch = ap (λ y. (new.label y).epoch) n.0 in absurd (omega (arith, e, young, up)))
      (stands_new g b q st);
  epochs = λ a i b s q ne st may e. ⊎_elim
      (λ was. let away = stood g a q was in
      let m = may_there g a i s away may in
      let b_away = stood g b (place_below q i s) (stands_below i s b was m e) in
      subst (λ (l : Label). l.epoch ≤ (new.label a).epoch) (sym (g.label b b_away)) (subst (λ (l : Label). (old.label b).epoch ≤ l.epoch) (sym (g.label a away)) (safe.epochs a i b s q ne was m e)))
      (λ n. let is : s ≡ c.slot i = may_here g i s (subst (λ y. MaySlot new y i s) n.0 may) in
      let led : target (c.slot i) ≡ Local b = ap target (sym is) ∙ e in
      let b_away = stood g b (place_below p i (c.slot i)) (g.fits i b led) in
      subst (λ (l : Label). l.epoch ≤ (new.label a).epoch) (sym (g.label b b_away)) (subst (λ k. (old.label b).epoch ≤ k) (sym (ap (λ y. (new.label y).epoch) n.0)) (below i b led)))
      (stands_new g a q st);
  live = λ b ne r.
      let was : Reaches old.memory (to_block 1) b = record { path = r.path; leads = ap target (sym (walk_beside old.memory new.memory at g.memory.others r.path (to_block 1) never)) ∙ r.leads } in
      ⊎_elim
      (λ e. absurd (never r.path (r.leads ∙ ap (λ y. Local y) e)))
      (λ away. subst (λ (l : Label). IsLive high l) (sym (g.label b away)) (safe.live b ne was))
      (cases_eq b at);
  settled = g.newborn 1 (λ e. other (sym e)) ∙ safe.settled;
  supers = supers_still (record {
    memory = g.memory.others 1 (λ e. other (sym e));
    versions = λ d h. inl (subst (λ (cs : List Content). Contains cs d) (at_b 1 g.versions) h);
  }) safe.supers;
  waits = λ leaf on j h.
      let was = waits leaf on j h in
      let away = g.waits leaf on j was in
      let m = safe.waits leaf on j was in (
        g.newborn leaf away.1 ∙ m.0,
        m.1,
        m.2,
        subst (λ (cs : List Content). 0 < length cs) (sym (at_b leaf g.versions)) m.3,
        λ q r sq sr. m.4 q r (⊎_elim (λ x. x) (λ n. absurd (away.1 n.0)) (stands_new g leaf q sq)) (⊎_elim (λ x. x) (λ n. absurd (away.2 n.0)) (stands_new g on r sr)),
      );
  clears = λ b i leaf h.
      let was = g.clears b i leaf h in
      let m = safe.clears b i leaf was.0 in (
        g.newborn b was.1 ∙ m.0,
        m.1,
        m.2,
        ap (λ (l : Label). l.kind) (g.label b was.1) ∙ m.3,
        ap (λ (l : Label). l.epoch) (g.label b was.1) ∙ m.4,
      );
}
  where
    never : (rest : List ℕ) → target (walk new.memory (to_block 1) rest) ≡ Local at → ⊥
    never rest e = (give_adds g (λ t. t ≡ 1) (λ t is. subst (λ y. (q : Place) × Stands old y q) (sym is) (super_place, stands_top super_top safe.top))).apart new.memory (memory_may new) 1 refl (record { path = rest; leads = e })

pub give_safe : {at : ℕ} {c : Content} {p : Place} {old new : Known} {high : ℕ} {doubt : Content → Type 0} → Gives at c p old new → at ≢ 1 → (new.label at).epoch ≡ high → ((i t : ℕ) → target (c.slot i) ≡ Local t → (old.label t).epoch ≤ high) → (Contains old.tops super_top → Contains new.tops super_top) → ((leaf on j : ℕ) → IsWait new.waits leaf on j → IsWait old.waits leaf on j) → IsSafe old high doubt → IsSafe new high doubt
give_safe {at} {c} {p} {old} {new} {high} {doubt} g other epoch below top waits safe = give_over g other (subst (λ n. high ≤ n) (sym epoch) (omega arith)) (λ i t e. subst (λ n. (old.label t).epoch ≤ n) (sym epoch) (below i t e)) top waits safe

-- all but block 1 stays
pub set_beside : {old new : Known} → SameButSuper old new → (b : ℕ) → b ≢ 1 → IsSet old b → IsSet new b
set_beside {old} {new} w b ne set = record {
  newborn = at_b b w.newborn ∙ set.newborn;
  versions = λ c h. same_joins (set.versions c (w.versions b c ne h)) (same_if (sym (w.memory b ne)));
  clears = λ i leaf h. set.clears i leaf (subst (λ (cs : List Clear). IsClear cs b i leaf) w.clears h);
}

-- What is left of the invariant, where block 1 alone changes: the tree of memory is asked for.
super_safe : {old new : Known} {high : ℕ} {before after : Content → Type 0} → SameButSuper old new → IsKept new → ((b : ℕ) (q : Place) → Stands new b q → Stands old b q) → ((b : ℕ) → b ≢ 1 → Reaches new.memory (to_block 1) b → IsLive high (old.label b)) → HasSupers new after → IsSafe old high before → IsSafe new high after
super_safe {old} {new} {high} {before} {after} w kept stands live supers safe = record {
  kept = kept;
  of_device = record {
    blocks = λ b q st. w.some.versions b (safe.of_device.blocks b q (stands b q st));
    labels = λ b q ne st. w.some.labels b (safe.of_device.labels b q ne (stands b q st));
  };
  top = subst (λ (ts : List Top). Contains ts super_top) (sym w.tops) safe.top;
  old = λ b q ne st young. set_beside w b ne (safe.old b q ne (stands b q st) (subst (λ (l : Label). l.epoch < high) (at_b b w.label) young));
  epochs = λ a i b s q ne st may e. subst (λ (l : Label). l.epoch ≤ (new.label a).epoch) (sym (at_b b w.label)) (subst (λ (l : Label). (old.label b).epoch ≤ l.epoch) (sym (at_b a w.label)) (safe.epochs a i b s q ne (stands a q st) (may_other w a i s ne may) e));
  live = λ b ne r. subst (λ (l : Label). IsLive high l) (sym (at_b b w.label)) (live b ne r);
  settled = at_b 1 w.newborn ∙ w.settled;
  supers = supers;
  waits = λ leaf on j h. let m = safe.waits leaf on j (subst (λ (ws : List Wait). IsWait ws leaf on j) w.waits h) in (at_b leaf w.newborn ∙ m.0, m.1, m.2, w.some.versions leaf m.3, λ p q sp sq. m.4 p q (stands leaf p sp) (stands on q sq));
  clears = λ b i leaf h. let m = safe.clears b i leaf (subst (λ (cs : List Clear). IsClear cs b i leaf) w.clears h) in (at_b b w.newborn ∙ m.0, m.1, m.2, ap (λ (l : Label). l.kind) (at_b b w.label) ∙ m.3, ap (λ (l : Label). l.epoch) (at_b b w.label) ∙ m.4);
}

-- A SUPER BLOCK IS TRIED: it is the doubt now
pub tries_safe : {d : Content} {old new : Known} {high : ℕ} {doubt : Content → Type 0} → TriesSuper d old new → IsSafe old high doubt → IsSafe new high (λ c. SameContent c d)
tries_safe {d} {old} {new} {high} {doubt} t safe = super_safe t.same (super_keeps t safe.kept) (super_stands t) (λ b ne r. safe.live b ne (record { path = r.path; leads = ap target (same_walk old.memory new.memory same r.path (to_block 1)) ∙ r.leads })) (super_doubt t) safe
  where
    same : (a i : ℕ) → (old.memory a).slot i ≡ (new.memory a).slot i
    same a i = ⊎_elim
        (λ e. subst (λ y. (old.memory y).slot i ≡ (new.memory y).slot i) (sym e) (ap (λ (c : Content). c.slot i) (sym t.here)))
        (λ ne. ap (λ (c : Content). c.slot i) (sym (t.same.memory a ne)))
        (cases_eq a 1)

-- A SUPER BLOCK COUNTS: what it leads to is live
pub counts_safe : {d : Content} {old new : Known} {high : ℕ} {doubt : Content → Type 0} → CountsSuper d old new → ((b : ℕ) → b ≢ 1 → Reaches new.memory (to_block 1) b → IsLive high (old.label b)) → IsSafe old high doubt → IsSafe new high (λ c. ⊥)
counts_safe {d} {old} {new} {high} {doubt} t live safe = super_safe t.same (counts_keeps t safe.kept) (counts_stands t) live (counts_doubt t) safe
