-- Which blocks a removal closes, in which order.
use Rattle.std.specs.Prelude.{◌≡◌, ℕ, ◌+◌, ◌*◌, ◌<◌, List, [], ◌∷◌, ◌++◌, length, zero, suc, Option, Some, None, if◌then◌else◌, slice_index_or, slice_range}
use Rattle.std.specs.List.{flat_map, filter_map}
use Rattle.fo_image.specs.declared.types.Kind.{Kind}
use Rattle.fo_image.specs.declared.types.Kind.TheVariants.{Data, Dir, Root}
use Rattle.fo_image.specs.declared.types.Pointer.{Pointer}
use Rattle.fo_image.specs.declared.types.Pointer.TheVariants.{Nil, Local, Score}
use Rattle.fo_image.specs.Format.{SpellsPointer}
use Rattle.fo_unlink.specs.declared.removal.Removal.{Removal}

-- A pointer block is 409 pointers of 20 bytes.
pub record HoldsPointers (pointers : List Pointer) (block : List ℕ) : Type 0 where
  pub count : length pointers ≡ 409
  pub spelled : (slot : ℕ) → slot < 409 → SpellsPointer (slice_index_or pointers slot Nil) (slice_range block (20 * slot) (20 * slot + 20))

-- the block of the main device that a pointer leads to: a score leads to the arena
abbrev pub target : Pointer → Option ℕ
target Nil = None
target (Local address) = Some address
target (Score score) = None

abbrev pub targets : List Pointer → List ℕ
targets pointers = filter_map target pointers

-- what each pointer block holds, by its address
abbrev pub Tree : Type 0
Tree = ℕ → List Pointer

abbrev pub level_of : Kind → ℕ
level_of (Data level) = level
level_of (Dir level) = level
level_of Root = 0

-- A block and all blocks below it down to the leaves, children before their parents. What the entries of a leaf lead to
-- is not among them.
abbrev pub blocks_under : Tree → ℕ → ℕ → List ℕ
blocks_under tree zero at = at ∷ []
blocks_under tree (suc level) at = flat_map (blocks_under tree level) (targets (tree at)) ++ at ∷ []

abbrev pub blocks_of : Tree → Removal → List ℕ
blocks_of tree r = if r.whole then blocks_under tree (level_of r.kind) r.at else r.at ∷ []
