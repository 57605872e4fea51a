-- A leaf of a directory's records is made ready, and then changed.
use Rattle.std.proofs.Common.{◌≡◌, ◌⊎◌, ◌+◌, ◌-◌, ◌%◌, ◌≤◌, ℕ, false, inl, sym, ap, subst, ◌∙◌, arith}
use Rattle.fo_base.specs.Cause.{Rose}
use Rattle.fo_image.specs.declared.types.Label.{Label}
use Rattle.fo_ports.specs.declared.error.BlockError.{BlockError}
use Rattle.fo_ports.specs.declared.error.BlockError.TheVariants.{Full, Damaged, Fault, Arena, Memory}
use Rattle.fo_ports.specs.Causes.{Caused}
use Rattle.fo_ports.specs.State.{State, KeepsAll}
use Rattle.fo_ports.specs.Sources.{Made}
use Rattle.fo_files_leaf.proofs.of_looks.Looks.{rose_later}
use Rattle.fo_files_dir.specs.of_tree_open.Open.{HasEntry}
use Rattle.fo_files_dir.specs.declared.dir.DirAt.{DirAt}
use Rattle.fo_files_dir.specs.Dir.{IsDirAt}
use Rattle.fo_files_leaf.specs.Leaf.{IsOwnLeaf}
use Rattle.fo_files_record.specs.Leaf.{IsRecordsAt, IsEntriesAt}
use Rattle.fo_files_record.specs.Stays.{Rewrites}
use Rattle.fo_files_change.specs.Records.{AltersRecords}

-- the directory stays where labels and pins of what was there do
dir_kept : {s u : State} (d : DirAt) → KeepsAll s u → u.label d.at ≡ s.label d.at → (s.pinned d.at → u.pinned d.at) → IsDirAt s d → IsDirAt u d
dir_kept d all same pin is =
    let p = is.pair in
    record {
      pair = record {
        is_one = (all.same_blocks d.at).1 p.is_one;
        is_pinned = pin p.is_pinned;
        live = ap (λ (z : Label). z.state) same ∙ p.live;
        current = ap (λ (z : Label). z.epoch) same ∙ p.current ∙ sym all.same_high;
        first = subst (λ (z : Label). HasEntry z.kind d.slot) (sym same) p.first;
        second = subst (λ (z : Label). HasEntry z.kind (d.slot + 1)) (sym same) p.second;
      };
      ranked = is.ranked;
      least = is.least;
      most = is.most;
    }

pub dir_readied : {s u : State} (d : DirAt) → KeepsAll s u → AltersRecords d s u → IsDirAt s d → IsDirAt u d
dir_readied {s = s} {u = u} d all x is = let none : Made s u d.at → ⊥ = λ made. made.0 is.pair.live in dir_kept d all (x.labels d.at none) (x.marks d.at none).0 is

pub dir_rewritten : {s u : State} {leaves : ℕ → Type 0} {clears : ℕ → ℕ → Type 0} (d : DirAt) → KeepsAll s u → Rewrites leaves clears s u → IsDirAt s d → IsDirAt u d
dir_rewritten d all x is = dir_kept d all (x.labels d.at) (x.marks d.at).0 is

-- so does a leaf of entries
pub entries_readied : {s u : State} (d : DirAt) (e : ℕ) → KeepsAll s u → AltersRecords d s u → IsEntriesAt s e → IsEntriesAt u e
entries_readied {s = s} {u = u} d e all x is =
    let none : Made s u e → ⊥ = λ made. made.0 is.live in
    let same = x.labels e none in
    record {
      is_one = (all.same_blocks e).1 is.is_one;
      is_pinned = (x.marks e none).0 is.is_pinned;
      live = ap (λ (z : Label). z.state) same ∙ is.live;
      current = ap (λ (z : Label). z.epoch) same ∙ is.current ∙ sym all.same_high;
      leaf_kind = ap (λ (z : Label). z.kind) same ∙ is.leaf_kind;
    }

-- a leaf that was made ready is one of records that may be changed
pub records_ready : {u : State} (tag leaf : ℕ) → (u.tells → ⊥) → (u.covered leaf → u.tells) → IsOwnLeaf u tag false leaf → IsRecordsAt u leaf
records_ready tag leaf silent told is = record {
  is_one = is.is_one;
  owned = record { is_pinned = is.is_pinned; current = is.current; leaf_kind = is.leaf_kind; whole = is.whole; uncovered = λ h. silent (told h); other = λ h. absurd (silent h) };
}

-- the rank of a leaf of records
pub records_rank : (rank : ℕ) → rank % 32 ≡ 8 → 40 ≤ rank → (rank - 24) % 32 ≡ 16
records_rank rank is high = omega (arith, is, high)

-- a later refusal has its cause
pub later_failed : (a b c : State) → KeepsAll a b → (why : BlockError) → Caused ⊥ b.is_block (Rose b.faults c.faults) ⊥ why → Caused ⊥ (λ x. a.is_block x ⊎ (x ≡ 1)) (Rose a.faults c.faults) (Rose a.arena_faults c.arena_faults) why
later_failed a b c all Full cause = cause
later_failed a b c all (Damaged x) cause = inl ((all.same_blocks x).0 cause)
later_failed a b c all (Fault which) cause = rose_later a.faults b.faults c.faults all.more_faults cause
later_failed a b c all (Arena which) cause = absurd cause
later_failed a b c all Memory cause = cause
