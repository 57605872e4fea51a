-- The whole invariant is kept by each step after which nothing stands anew; and what it gives.
use Rattle.std.proofs.Common.{◌≡◌, ◌≢◌, inl, inr, ⊎_elim, ℕ, ◌<◌, ◌≤◌, List, refl, sym, ◌∙◌, ap, subst}
use Rattle.std.specs.List.{Contains}
use Rattle.fo_image.specs.declared.types.Label.{Label}
use Rattle.fo_image.specs.declared.types.Pointer.TheVariants.{Local}
use Rattle.fo_crash.specs.declared.place.Place.{Place}
use Rattle.fo_crash.specs.Images.{Content, target}
use Rattle.fo_crash.specs.Places.{place_below}
use Rattle.fo_crash.specs.Steps.{AllAre, IsSure, HasSuper}
use Rattle.fo_cells.specs.Known.{Known, Remains, Stands}
use Rattle.fo_cells.specs.Safe.{IsSet, IsLive, IsSafe, KeepsSafe}
use Rattle.fo_cells.proofs.Standing.{seen_is, stands_below}
use Rattle.fo_cells.proofs.Known.{sure}
use Rattle.fo_cells.proofs.Super.{super_known, supers_still}

pub safe_step : {old new : Known} {high : ℕ} {doubt : Content → Type 0} → KeepsSafe old new high → IsSafe old high doubt → IsSafe new high doubt
safe_step {old} {new} {high} {doubt} k safe = record {
  kept = k.kept safe.kept;
  of_device = record {
    blocks = λ b p st. k.some.versions b (safe.of_device.blocks b p (k.stands b p st));
    labels = λ b p ne st. k.some.labels b (safe.of_device.labels b p ne (k.stands b p st));
  };
  top = k.top safe.top;
  old = λ b p ne st young. let was = k.stands b p st in
      let before : (old.label b).epoch < high = subst (λ n. n < high) (k.label b p was) young in
      k.set b p ne was before (safe.old b p ne was before);
  epochs = λ a i b s p ne st may e.
      let was = k.stands a p st in
      ⊎_elim
      (λ m. subst (λ n. n ≤ (new.label a).epoch) (sym (k.label b (place_below p i s) (stands_below i s b was m e))) (subst (λ n. (old.label b).epoch ≤ n) (sym (k.label a p was)) (safe.epochs a i b s p ne was m e)))
      (λ n. n)
      (k.may a i b s p ne was may e);
  live = λ b ne r. ⊎_elim
      (λ was. subst (λ (l : Label). IsLive high l) (sym was.1) (safe.live b ne was.0))
      (λ is. is)
      (k.live b ne r);
  settled = k.newborn 1 safe.settled;
  supers = supers_still k.supers safe.supers;
  waits = λ leaf on j h. let m = ⊎_elim (λ was. safe.waits leaf on j was) (λ n. n) (k.waits leaf on j h) in (k.newborn leaf m.0, m.1, m.2, k.some.versions leaf m.3, λ p q sp sq. m.4 p q (k.stands leaf p sp) (k.stands on q sq));
  clears = λ at i leaf h.
      let c = k.clears at i leaf h in
      let m = ⊎_elim (λ was. safe.clears at i leaf was) (λ n. n) c.0 in (
        k.newborn at m.0,
        m.1,
        m.2,
        ap (λ (l : Label). l.kind) c.1 ∙ m.3,
        ap (λ (l : Label). l.epoch) c.1 ∙ m.4,
      );
}

-- WHAT IT GIVES
-- A block that is set is in every image what memory has.
pub set_sure : {k : Known} {b : ℕ} → IsSet k b → IsSure k.memory b (Remains k)
set_sure {k} {b} set =
    let all = sure k b (λ c h. set.versions c (subst (λ (cs : List Content). Contains cs c) (seen_is k b set.newborn) h)) set.clears in
    record { each = λ image r. all.each image r.cells }

-- `old_is_sure`
pub old_sure : {k : Known} {high : ℕ} {doubt : Content → Type 0} → IsSafe k high doubt → (b : ℕ) (p : Place) → b ≢ 1 → Stands k b p → (k.label b).epoch < high → IsSure k.memory b (Remains k)
old_sure safe b p ne st young = set_sure (safe.old b p ne st young)

-- `super_known`
pub safe_super : {k : Known} {high : ℕ} {doubt : Content → Type 0} → IsSafe k high doubt → HasSuper k.memory doubt (Remains k)
safe_super safe = super_known safe.supers

-- `falls`: in memory a block is of no later epoch than the one above it
pub memory_falls : {k : Known} {high : ℕ} {doubt : Content → Type 0} → IsSafe k high doubt → (a i b : ℕ) (p : Place) → a ≢ 1 → Stands k a p → target ((k.memory a).slot i) ≡ Local b → (k.label b).epoch ≤ (k.label a).epoch
memory_falls {k} safe a i b p ne st e = safe.epochs a i b ((k.memory a).slot i) p ne st (inr (inl refl)) e

-- Where each block is set, memory is the only image.
pub all_set : {k : Known} → ((b : ℕ) → IsSet k b) → AllAre k.memory (Remains k)
all_set set = record { each = λ image r. record { each = λ b. (set_sure (set b)).each image r } }
