-- A leaf of a directory's records that was made ready, and then changed.
use Rattle.std.specs.Prelude.{◌≡◌, ◌+◌, ◌-◌, ◌*◌, ◌^◌, ◌≤◌, ℕ, false}
use Rattle.fo_image.specs.declared.types.Entry.{Entry}
use Rattle.fo_crash.specs.declared.slot.Slot.TheVariants.{Entry as Head}
use Rattle.fo_ports.specs.State.{State, none}
use Rattle.fo_files_dir.specs.declared.dir.DirAt.{DirAt}
use Rattle.fo_files_leaf.specs.declared.open.LeafOf.{LeafOf}
use Rattle.fo_files_leaf.specs.Alters.{Alters}
use Rattle.fo_files_leaf.specs.Leaf.{IsAbove}

-- leaf i of a directory's records
abbrev pub records_of : DirAt → ℕ → LeafOf
records_of d i = record { at = d.at; slot = d.slot + 1; is_dir = false; tag = 33 + 2 * d.number; rank = d.rank - 24; limit = 2 ^ 40; leaf = i }

-- The entry of a directory's records says that they have leaf i.
pub record HasLeaf (s : State) (d : DirAt) (i : ℕ) : Type 0 where
  pub entry : Entry
  pub is : (s.now d.at).slot (d.slot + 1) ≡ Head entry
  pub within : 8192 * (i + 1) ≤ entry.size

-- A leaf of a directory's records was made ready: all else stays, but for the slot with the directory's second entry, and current blocks above the
-- leaves.
abbrev pub AltersRecords : DirAt → State → State → Type 0
AltersRecords d s u = Alters d.at (λ k. k ≡ d.slot + 1) (λ t. t ≡ 33 + 2 * d.number) (IsAbove (33 + 2 * d.number) false) none s u
