-- Each step keeps the whole invariant.
use Rattle.std.proofs.Common.{◌≡◌, ◌≢◌, ◌⊎◌, inl, inr, ⊎_elim, ℕ, ◌<◌, ◌≤◌, List, [], sym, ◌∙◌, ap, subst, arith}
use Rattle.std.specs.List.{Contains}
use Rattle.fo_image.specs.declared.types.Label.{Label}
use Rattle.fo_image.specs.declared.types.Pointer.TheVariants.{Local}
use Rattle.fo_crash.specs.declared.slot.Slot.{Slot}
use Rattle.fo_crash.specs.Images.{Content, Image, SameContent, Reaches, target, to_block}
use Rattle.fo_crash.specs.Steps.{Brings, cleared}
use Rattle.fo_crash.proofs.Sure.{same_joins, same_back, same_if}
use Rattle.fo_crash.proofs.Covers.{slot_reaches, bytes_reach}
use Rattle.fo_crash.proofs.Reach.{lost}
use Rattle.fo_cells.specs.Known.{Known, Wait, Clear, Top, IsWait, IsClear, IsKept, Stands}
use Rattle.fo_cells.specs.Writes.{SameDevice, Writes, WritesLabels, Syncs, Ends, Puts, Relabels, Fires}
use Rattle.fo_cells.specs.Calls.{PutsInto, Awaits, WaitsMore, SuperStays}
use Rattle.fo_cells.specs.Safe.{super_top, IsSet, IsLive, KeepsSafe, IsCurrent, MayWait, MayClear}
use Rattle.fo_cells.proofs.Standing.{at_b, stands_by, stands_top, stands_below}
use Rattle.fo_cells.proofs.Keeping.{stands_fewer, device_some}
use Rattle.fo_cells.proofs.Settling.{may_fewer, labels_fewer, sync_fewer, ends_fewer, label_keeps, sync_keeps, settled_still, end_keeps}
use Rattle.fo_cells.proofs.Writing.{write_keeps}

-- A WRITE OF A BLOCK: of the active epoch, or of block 1 with what memory has
pub write_safe : {at : ℕ} {f : Content} {old new : Known} {high : ℕ} → Writes at f old new → IsCurrent old high at → (at ≡ 1 → SameContent f (old.memory 1)) → ((leaf on j : ℕ) → IsWait new.waits leaf on j → IsWait old.waits leaf on j) → KeepsSafe old new high
write_safe {at} {f} {old} {new} {high} w current super waits = record {
  kept = λ k. write_keeps w k;
  some = w.some;
  top = λ h. subst (λ (ts : List Top). Contains ts super_top) (sym w.same.tops) h;
  stands = stands_fewer (λ t h. subst (λ (ts : List Top). Contains ts t) w.same.tops h) (Rattle.fo_cells.proofs.Writing.may_old w);
  label = λ b q st. ap (λ (l : Label). l.epoch) (at_b b w.same.label);
  set = λ b q ne st young set. record {
    newborn = at_b b w.newborn ∙ set.newborn;
    versions = λ c h. ⊎_elim
        (λ was. same_joins (set.versions c was) (same_if (sym (at_b b w.same.memory))))
        (λ n. absurd (current.young q (λ e. ne (n.0 ∙ e)) (subst (λ y. Stands old y q) n.0 st) (subst (λ y. (old.label y).epoch < high) n.0 young)))
        (w.versions b c h);
    clears = λ i leaf h. set.clears i leaf (w.clears b i leaf h);
  };
  may = λ a i b s p ne st m e. inl (Rattle.fo_cells.proofs.Writing.may_old w a i s m);
  live = λ b ne r. inl (subst (λ (m : Image). Reaches m (to_block 1) b) w.same.memory r, at_b b w.same.label);
  newborn = λ b e. at_b b w.newborn ∙ e;
  supers = record {
    memory = same_if (at_b 1 w.same.memory);
    versions = λ c h. ⊎_elim (λ was. inl was) (λ n. inr (same_joins (same_if n.1) (super (sym n.0)))) (w.versions 1 c h);
  };
  waits = λ leaf on j h. inl (waits leaf on j h);
  clears = λ b i leaf h. (inl (w.clears b i leaf h), at_b b w.same.label);
}

-- A WRITE OF A BLOCK OF LABELS
pub label_safe : {old new : Known} {high : ℕ} → WritesLabels old new → KeepsSafe old new high
label_safe {old} {new} {high} w = record {
  kept = λ k. label_keeps w k;
  some = w.some;
  top = λ h. subst (λ (ts : List Top). Contains ts super_top) (sym w.same.tops) h;
  stands = stands_fewer (λ t h. subst (λ (ts : List Top). Contains ts t) w.same.tops h) (may_fewer (labels_fewer w));
  label = λ b q st. ap (λ (l : Label). l.epoch) (at_b b w.same.label);
  set = λ b q ne st young set. record {
    newborn = at_b b w.newborn ∙ set.newborn;
    versions = λ c h. same_joins (set.versions c (w.versions b c h)) (same_if (sym (at_b b w.same.memory)));
    clears = λ i leaf h. set.clears i leaf (w.clears b i leaf h);
  };
  may = λ a i b s p ne st m e. inl (may_fewer (labels_fewer w) a i s m);
  live = λ b ne r. inl (subst (λ (m : Image). Reaches m (to_block 1) b) w.same.memory r, at_b b w.same.label);
  newborn = λ b e. at_b b w.newborn ∙ e;
  supers = record { memory = same_if (at_b 1 w.same.memory); versions = λ c h. inl (w.versions 1 c h) };
  waits = λ leaf on j h. inl (subst (λ (ws : List Wait). IsWait ws leaf on j) w.waits h);
  clears = λ b i leaf h. (inl (w.clears b i leaf h), at_b b w.same.label);
}

-- A SYNC
pub sync_safe : {old new : Known} {high : ℕ} → Syncs old new → ((leaf on j : ℕ) → IsWait new.waits leaf on j → IsWait old.waits leaf on j) → KeepsSafe old new high
sync_safe {old} {new} {high} w waits = record {
  kept = λ k. sync_keeps w k;
  some = w.some;
  top = λ h. subst (λ (ts : List Top). Contains ts super_top) (sym w.same.tops) h;
  stands = stands_fewer (λ t h. subst (λ (ts : List Top). Contains ts t) w.same.tops h) (may_fewer (sync_fewer w));
  label = λ b q st. ap (λ (l : Label). l.epoch) (at_b b w.same.label);
  set = λ b q ne st young set. record {
    newborn = settled_still w b set.newborn;
    versions = λ c h. same_joins (set.versions c (w.versions b c h)) (same_if (sym (at_b b w.same.memory)));
    clears = λ i leaf h. set.clears i leaf (w.clears b i leaf h);
  };
  may = λ a i b s p ne st m e. inl (may_fewer (sync_fewer w) a i s m);
  live = λ b ne r. inl (subst (λ (m : Image). Reaches m (to_block 1) b) w.same.memory r, at_b b w.same.label);
  newborn = λ b e. settled_still w b e;
  supers = record { memory = same_if (at_b 1 w.same.memory); versions = λ c h. inl (w.versions 1 c h) };
  waits = λ leaf on j h. inl (waits leaf on j h);
  clears = λ b i leaf h. (inl (w.clears b i leaf h), at_b b w.same.label);
}

-- where the device and the labels stay, and slots that wait are those of before
module _ {old new : Known} (device : SameDevice old new) (label : new.label ≡ old.label) (clears : (b i leaf : ℕ) → IsClear new.clears b i leaf → IsClear old.clears b i leaf) where
  set_still : (b : ℕ) → SameContent (old.memory b) (new.memory b) → IsSet old b → IsSet new b
  set_still b same set = record {
    newborn = at_b b device.newborn ∙ set.newborn;
    versions = λ c h. same_joins (set.versions c (subst (λ (cs : List Content). Contains cs c) (at_b b device.versions) h)) same;
    clears = λ i leaf h. set.clears i leaf (clears b i leaf h);
  }

  supers_same : SameContent (new.memory 1) (old.memory 1) → SuperStays old new
  supers_same same = record { memory = same; versions = λ c h. inl (subst (λ (cs : List Content). Contains cs c) (at_b 1 device.versions) h) }

-- THE END OF A WAIT
pub end_safe : {old new : Known} {high : ℕ} → Ends old new → ((leaf on j : ℕ) → IsWait new.waits leaf on j → IsWait old.waits leaf on j) → KeepsSafe old new high
end_safe {old} {new} {high} w waits =
    let clears : (b i leaf : ℕ) → IsClear new.clears b i leaf → IsClear old.clears b i leaf = λ b i leaf h. subst (λ (cs : List Clear). IsClear cs b i leaf) w.clears h in record {
      kept = λ k. end_keeps w k;
      some = device_some w.device;
      top = λ h. subst (λ (ts : List Top). Contains ts super_top) (sym w.same.tops) h;
      stands = stands_fewer (λ t h. subst (λ (ts : List Top). Contains ts t) w.same.tops h) (may_fewer (ends_fewer w));
      label = λ b q st. ap (λ (l : Label). l.epoch) (at_b b w.same.label);
      set = λ b q ne st young set. set_still w.device w.same.label clears b (same_if (sym (at_b b w.same.memory))) set;
      may = λ a i b s p ne st m e. inl (may_fewer (ends_fewer w) a i s m);
      live = λ b ne r. inl (subst (λ (m : Image). Reaches m (to_block 1) b) w.same.memory r, at_b b w.same.label);
      newborn = λ b e. at_b b w.device.newborn ∙ e;
      supers = supers_same w.device w.same.label clears (same_if (at_b 1 w.same.memory));
      waits = λ leaf on j h. inl (waits leaf on j h);
      clears = λ b i leaf h. (inl (clears b i leaf h), at_b b w.same.label);
    }

-- BYTES ARE PUT
pub bytes_safe : {at : ℕ} {bytes : List ℕ} {old new : Known} {high : ℕ} → PutsInto at bytes old new → IsCurrent old high at → at ≢ 1 → KeepsSafe old new high
bytes_safe {at} {bytes} {old} {new} {high} u current other =
    let clears : (b i leaf : ℕ) → IsClear new.clears b i leaf → IsClear old.clears b i leaf = λ b i leaf h. subst (λ (cs : List Clear). IsClear cs b i leaf) u.clears h in
    let same : (b : ℕ) → b ≢ at → SameContent (old.memory b) (new.memory b) = λ b ne. record { bytes = sym (u.memory.others b ne); slots = λ j. sym (u.memory.slots b j) } in record {
      kept = λ k. Rattle.fo_cells.proofs.Bytes.bytes_keeps u k;
      some = device_some u.device;
      top = λ h. subst (λ (ts : List Top). Contains ts super_top) (sym u.tops) h;
      stands = stands_fewer (λ t h. subst (λ (ts : List Top). Contains ts t) u.tops h) (Rattle.fo_cells.proofs.Bytes.may_bytes u);
      label = λ b q st. ap (λ (l : Label). l.epoch) (at_b b u.label);
      set = λ b q ne st young set. set_still u.device u.label clears b (same b (λ e. current.young q other (subst (λ y. Stands old y q) e st) (subst (λ y. (old.label y).epoch < high) e young))) set;
      may = λ a i b s p ne st m e. inl (Rattle.fo_cells.proofs.Bytes.may_bytes u a i s m);
      live = λ b ne r. inl (bytes_reach u.memory r, at_b b u.label);
      newborn = λ b e. at_b b u.device.newborn ∙ e;
      supers = supers_same u.device u.label clears (same_back (same 1 (λ e. other (sym e))));
      waits = λ leaf on j h. inl (subst (λ (ws : List Wait). IsWait ws leaf on j) u.waits h);
      clears = λ b i leaf h. (inl (clears b i leaf h), at_b b u.label);
    }

-- A SLOT IS PUT: what it leads to is live, and of no later epoch
pub put_safe : {at i : ℕ} {s : Slot} {old new : Known} {high : ℕ} → Puts at i s old new → IsKept old → (Contains old.tops super_top → Contains new.tops super_top) → IsCurrent old high at → at ≢ 1 → (old.label at).epoch ≡ high → Brings old.memory s (λ b. IsLive high (old.label b)) → KeepsSafe old new high
put_safe {at} {i} {s} {old} {new} {high} u was top current other epoch brings =
    let clears : (b j leaf : ℕ) → IsClear new.clears b j leaf → IsClear old.clears b j leaf = λ b j leaf h. subst (λ (cs : List Clear). IsClear cs b j leaf) u.clears h in
    let same : (b : ℕ) → b ≢ at → SameContent (old.memory b) (new.memory b) = λ b ne. record { bytes = sym (u.memory.bytes b); slots = λ j. sym (u.memory.others b j (inl ne)) } in record {
      kept = λ k. Rattle.fo_cells.proofs.Putting.put_keeps u k;
      some = device_some u.device;
      top = top;
      stands = Rattle.fo_cells.proofs.Putting.stands_put u was;
      label = λ b q st. ap (λ (l : Label). l.epoch) (at_b b u.label);
      set = λ b q ne st young set. set_still u.device u.label clears b (same b (λ e. current.young q other (subst (λ y. Stands old y q) e st) (subst (λ y. (old.label y).epoch < high) e young))) set;
      may = λ a j b x p ne st m e. ⊎_elim
          (λ before. inl before)
          (λ n. inr (
          let led : target s ≡ Local b = ap target (sym n.2) ∙ e in
          let top = (brings.each b (record { path = []; leads = led })).1 in
          subst (λ (l : Label). l.epoch ≤ (new.label a).epoch) (sym (at_b b u.label)) (subst (λ k. (old.label b).epoch ≤ k) (sym (ap (λ (l : Label). l.epoch) (at_b a u.label) ∙ ap (λ y. (old.label y).epoch) n.0 ∙ epoch)) top)))
          (Rattle.fo_cells.proofs.Putting.may_put u a j x m);
      live = λ b ne r. ⊎_elim
          (λ before. inl (before, at_b b u.label))
          (λ n. inr (subst (λ (l : Label). IsLive high l) (sym (at_b b u.label)) (brings.each b n)))
          (slot_reaches u.memory r);
      newborn = λ b e. at_b b u.device.newborn ∙ e;
      supers = supers_same u.device u.label clears (same_back (same 1 (λ e. other (sym e))));
      waits = λ leaf on j h. inl (subst (λ (ws : List Wait). IsWait ws leaf on j) u.waits h);
      clears = λ b j leaf h. (inl (clears b j leaf h), at_b b u.label);
    }

-- A SLOT THAT WAITED IS CLEARED
pub fire_safe : {at i leaf : ℕ} {old new : Known} {high : ℕ} → Fires at i leaf old new → at ≢ 1 → ((l on j : ℕ) → IsWait new.waits l on j → IsWait old.waits l on j) → KeepsSafe old new high
fire_safe {at} {i} {leaf} {old} {new} {high} r other waits =
    let clears : (b j l : ℕ) → IsClear new.clears b j l → IsClear old.clears b j l = λ b j l h. (r.clears b j l h).0 in
    let same : (b : ℕ) → b ≢ at → SameContent (old.memory b) (new.memory b) = λ b ne. record { bytes = sym (r.memory.bytes b); slots = λ j. sym (r.memory.others b j (inl ne)) } in record {
      kept = λ k. Rattle.fo_cells.proofs.Firing.fire_keeps r k;
      some = device_some r.device;
      top = λ h. subst (λ (ts : List Top). Contains ts super_top) (sym r.tops) h;
      stands = stands_fewer (λ t h. subst (λ (ts : List Top). Contains ts t) r.tops h) (Rattle.fo_cells.proofs.Firing.may_old r);
      label = λ b q st. ap (λ (l : Label). l.epoch) (at_b b r.label);
      set = λ b q ne st young set. set_still r.device r.label clears b (same b (λ e. set.clears i leaf (subst (λ y. IsClear old.clears y i leaf) (sym e) r.waited))) set;
      may = λ a j b x p ne st m e. inl (Rattle.fo_cells.proofs.Firing.may_old r a j x m);
      live = λ b ne q. ⊎_elim
          (λ before. inl (before, at_b b r.label))
          (λ n. absurd (lost old.memory n.path (cleared ((old.memory at).slot i)) (λ c e. Rattle.fo_cells.proofs.Waiting.cleared_leads ((old.memory at).slot i) c e) b n.leads))
          (slot_reaches r.memory q);
      newborn = λ b e. at_b b r.device.newborn ∙ e;
      supers = supers_same r.device r.label clears (same_back (same 1 (λ e. other (sym e))));
      waits = λ l on j h. inl (waits l on j h);
      clears = λ b j l h. (inl (clears b j l h), at_b b r.label);
    }

-- A BLOCK IS CLOSED that isn't in the tree of memory and has no slot that waits
pub close_safe : {b : ℕ} {l : Label} {old new : Known} {high : ℕ} → Relabels b l old new → (Reaches old.memory (to_block 1) b → ⊥) → ((i leaf : ℕ) → IsClear old.clears b i leaf → ⊥) → KeepsSafe old new high
close_safe {b} {l} {old} {new} {high} r outside unclear =
    let clears : (a j leaf : ℕ) → IsClear new.clears a j leaf → IsClear old.clears a j leaf = λ a j leaf h. subst (λ (cs : List Clear). IsClear cs a j leaf) r.clears h in record {
      kept = λ k. Rattle.fo_cells.proofs.Closing.relabel_keeps r k;
      some = device_some r.device;
      top = λ h. subst (λ (ts : List Top). Contains ts super_top) (sym r.tops) h;
      stands = Rattle.fo_cells.proofs.Closing.stands_old r;
      label = λ a q st. ⊎_elim (λ same. ap (λ (x : Label). x.epoch) same) (λ fits. fits.epoch) (Rattle.fo_cells.proofs.Closing.label_fits r a q st);
      set = λ a q ne st young set. record {
        newborn = at_b a r.device.newborn ∙ set.newborn;
        versions = λ c h. same_joins (set.versions c (subst (λ (cs : List Content). Contains cs c) (at_b a r.device.versions) h)) (same_if (sym (at_b a r.memory)));
        clears = λ i leaf h. set.clears i leaf (clears a i leaf h);
      };
      may = λ a i c s p ne st m e. inl (Rattle.fo_cells.proofs.Closing.may_old r a i s m);
      live = λ a ne q.
          let was = subst (λ (m : Image). Reaches m (to_block 1) a) r.memory q in
          inl (was, r.others a (λ e. outside (subst (λ y. Reaches old.memory (to_block 1) y) e was)));
      newborn = λ a e. at_b a r.device.newborn ∙ e;
      supers = record { memory = same_if (at_b 1 r.memory); versions = λ c h. inl (subst (λ (cs : List Content). Contains cs c) (at_b 1 r.device.versions) h) };
      waits = λ leaf on j h. inl (subst (λ (ws : List Wait). IsWait ws leaf on j) r.waits h);
      clears = λ a i leaf h. let was = clears a i leaf h in (inl was, r.others a (λ e. unclear i leaf (subst (λ y. IsClear old.clears y i leaf) e was)));
    }

-- A SLOT BEGINS TO WAIT
pub await_safe : {at i leaf : ℕ} {old new : Known} {high : ℕ} → Awaits at i leaf old new → MayClear old high at leaf → KeepsSafe old new high
await_safe {at} {i} {leaf} {old} {new} {high} w may = record {
  kept = λ k. Rattle.fo_cells.proofs.Waiting.await_keeps w k;
  some = device_some w.device;
  top = λ h. subst (λ (ts : List Top). Contains ts super_top) (sym w.same.tops) h;
  stands = stands_by (λ t h. stands_top t (subst (λ (ts : List Top). Contains ts t) w.same.tops h)) (λ a j s p b st m e. stands_below j s b st (Rattle.fo_cells.proofs.Waiting.may_await w a j s b m e) e);
  label = λ b q st. ap (λ (l : Label). l.epoch) (at_b b w.same.label);
  set = λ b q ne st young set. record {
    newborn = at_b b w.device.newborn ∙ set.newborn;
    versions = λ c h. same_joins (set.versions c (subst (λ (cs : List Content). Contains cs c) (at_b b w.device.versions) h)) (same_if (sym (at_b b w.same.memory)));
    clears = λ j l h. ⊎_elim
        (λ was. set.clears j l was)
        (λ n. let e : (old.label b).epoch ≡ high = ap (λ y. (old.label y).epoch) n.0 ∙ may.4 in absurd (omega (arith, e, young)))
        (w.clears b j l h);
  };
  may = λ a j b s p ne st m e. inl (Rattle.fo_cells.proofs.Waiting.may_await w a j s b m e);
  live = λ b ne r. inl (subst (λ (m : Image). Reaches m (to_block 1) b) w.same.memory r, at_b b w.same.label);
  newborn = λ b e. at_b b w.device.newborn ∙ e;
  supers = record { memory = same_if (at_b 1 w.same.memory); versions = λ c h. inl (subst (λ (cs : List Content). Contains cs c) (at_b 1 w.device.versions) h) };
  waits = λ l on j h. inl (subst (λ (ws : List Wait). IsWait ws l on j) w.waits h);
  clears = λ b j l h. (⊎_elim (λ was. inl was) (λ n. inr (subst (λ y. MayClear old high y l) (sym n.0) (subst (λ y. MayClear old high at y) (sym n.2) may))) (w.clears b j l h), at_b b w.same.label);
}

-- LEAVES WAIT FOR MORE
pub more_safe : {old new : Known} {high : ℕ} → WaitsMore old new → ((leaf on j : ℕ) → IsWait new.waits leaf on j → IsWait old.waits leaf on j ⊎ MayWait old leaf on) → KeepsSafe old new high
more_safe {old} {new} {high} w waits =
    let clears : (b i leaf : ℕ) → IsClear new.clears b i leaf → IsClear old.clears b i leaf = λ b i leaf h. subst (λ (cs : List Clear). IsClear cs b i leaf) w.clears h in record {
      kept = λ k. Rattle.fo_cells.proofs.Waiting.more_keeps w k;
      some = device_some w.device;
      top = λ h. subst (λ (ts : List Top). Contains ts super_top) (sym w.same.tops) h;
      stands = stands_fewer (λ t h. subst (λ (ts : List Top). Contains ts t) w.same.tops h) (may_fewer (Rattle.fo_cells.proofs.Waiting.more_fewer w));
      label = λ b q st. ap (λ (l : Label). l.epoch) (at_b b w.same.label);
      set = λ b q ne st young set. set_still w.device w.same.label clears b (same_if (sym (at_b b w.same.memory))) set;
      may = λ a i b s p ne st m e. inl (may_fewer (Rattle.fo_cells.proofs.Waiting.more_fewer w) a i s m);
      live = λ b ne r. inl (subst (λ (m : Image). Reaches m (to_block 1) b) w.same.memory r, at_b b w.same.label);
      newborn = λ b e. at_b b w.device.newborn ∙ e;
      supers = supers_same w.device w.same.label clears (same_if (at_b 1 w.same.memory));
      waits = waits;
      clears = λ b i leaf h. (inl (clears b i leaf h), at_b b w.same.label);
    }
