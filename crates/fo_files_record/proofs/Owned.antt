-- Leaves stay owned.
use Rattle.std.proofs.Common.{◌≡◌, ℕ, length, sym, ap, ◌∙◌}
use Rattle.fo_base.specs.Cause.{Rose}
use Rattle.fo_image.specs.declared.types.Label.{Label}
use Rattle.fo_ports.specs.declared.error.BlockError.{BlockError}
use Rattle.fo_ports.specs.declared.error.BlockError.TheVariants.{Full, Damaged, Fault, Arena, Memory}
use Rattle.fo_ports.specs.Causes.{Caused}
use Rattle.fo_ports.specs.State.{State, KeepsAll}
use Rattle.fo_dir_remove.proofs.of_looks.Looks.{rose_later}
use Rattle.fo_files_record.specs.Leaf.{IsRecordsAt, IsEntriesAt}
use Rattle.fo_files_record.specs.Stays.{Rewrites}

-- a leaf of records, where its label and pin stay
pub records_stay : {s u : State} (leaf : ℕ) → (s.tells → ⊥) → (u.covered leaf → u.tells) → KeepsAll s u → u.label leaf ≡ s.label leaf → (s.pinned leaf → u.pinned leaf) → length ((u.now leaf).bytes) ≡ 8192 → IsRecordsAt s leaf → IsRecordsAt u leaf
records_stay leaf silent told all same pin whole is =
    let quiet : _ → ⊥ = λ h. silent (all.still_tells.0 h) in
    record {
      is_one = (all.same_blocks leaf).1 is.is_one;
      owned = record {
        is_pinned = pin is.owned.is_pinned;
        current = ap (λ (z : Label). z.epoch) same ∙ is.owned.current ∙ sym all.same_high;
        leaf_kind = ap (λ (z : Label). z.kind) same ∙ is.owned.leaf_kind;
        whole = whole;
        uncovered = λ h. quiet (told h);
        other = λ h. absurd (quiet h);
      };
    }

-- a leaf of entries
pub entries_stay : {s u : State} {leaves : ℕ → Type 0} {clears : ℕ → ℕ → Type 0} (entries : ℕ) → KeepsAll s u → Rewrites leaves clears s u → IsEntriesAt s entries → IsEntriesAt u entries
entries_stay entries all x is =
    let same = x.labels entries in
    record {
      is_one = (all.same_blocks entries).1 is.is_one;
      is_pinned = (x.marks entries).0 is.is_pinned;
      live = ap (λ (z : Label). z.state) same ∙ is.live;
      current = ap (λ (z : Label). z.epoch) same ∙ is.current ∙ sym all.same_high;
      leaf_kind = ap (λ (z : Label). z.kind) same ∙ is.leaf_kind;
    }

-- so has a refused settling
pub settle_failed : (a c : State) (why : BlockError) → Caused ⊥ (λ x. ⊥) (Rose a.faults c.faults) ⊥ why → Caused ⊥ a.is_block (Rose a.faults c.faults) ⊥ why
settle_failed a c Full cause = cause
settle_failed a c (Damaged x) cause = absurd cause
settle_failed a c (Fault which) cause = cause
settle_failed a c (Arena which) cause = absurd cause
settle_failed a c Memory cause = cause

-- and a later call
pub later_failed : (a b c : State) → KeepsAll a b → (why : BlockError) → Caused ⊥ b.is_block (Rose b.faults c.faults) ⊥ why → Caused ⊥ a.is_block (Rose a.faults c.faults) ⊥ why
later_failed a b c all Full cause = cause
later_failed a b c all (Damaged x) cause = (all.same_blocks x).0 cause
later_failed a b c all (Fault which) cause = rose_later a.faults b.faults c.faults all.more_faults cause
later_failed a b c all (Arena which) cause = absurd cause
later_failed a b c all Memory cause = cause
