-- The removals that wait, and what they have left to close.
use Rattle.std.specs.Prelude.{◌≡◌, ℕ, ◌-◌, Bool, true, false, List, [], ◌∷◌, ◌++◌, map, drop, Option, Some, None, slice_get, if◌then◌else◌}
use Rattle.std.specs.List.{flat_map}
use Rattle.fo_image.specs.declared.types.Kind.TheVariants.{Root}
use Rattle.fo_image.specs.Format.{KindHolds}
use Rattle.fo_unlink.specs.declared.removal.Removal.{Removal}
use Rattle.fo_unlink.specs.declared.way.Frame.{Frame}
use Rattle.fo_unlink.specs.Closing.{Tree, targets, level_of, blocks_under, blocks_of, HoldsPointers}

-- The removals in the order in which they came; the way down in the first of them, the innermost pointer block first;
-- whether the content of that innermost block was asked for; and for how many more removals there is room.
pub record Pending : Type 0 where
  pub removals : List Removal
  pub way : List Frame
  pub asked : Bool
  pub room : ℕ

-- ---- what is left

-- what a pointer block of the way has left: what is below its slots that are not done, and then the block itself
abbrev pub frame_left : Tree → Frame → List ℕ
frame_left tree f = flat_map (blocks_under tree (f.level - 1)) (targets (drop f.done (tree f.at))) ++ f.at ∷ []

-- what the first removal has left: all of it before it has begun
abbrev pub first_left : Tree → Removal → List Frame → List ℕ
first_left tree r [] = blocks_of tree r
first_left tree r (f ∷ fs) = flat_map (frame_left tree) (f ∷ fs)

-- blocks with the epoch at which they are closed
abbrev pub at_epoch : ℕ → List ℕ → List (ℕ × ℕ)
at_epoch epoch blocks = map (λ b. (b, epoch)) blocks

abbrev pub closes_of : Tree → Removal → List (ℕ × ℕ)
closes_of tree r = at_epoch r.epoch (blocks_of tree r)

abbrev pub left_of : Tree → List Removal → List Frame → List (ℕ × ℕ)
left_of tree [] way = []
left_of tree (r ∷ rs) way = at_epoch r.epoch (first_left tree r way) ++ flat_map (closes_of tree) rs

-- The blocks that are still to be closed, each with its epoch, in the order in which they are closed.
abbrev pub left : Tree → Pending → List (ℕ × ℕ)
left tree q = left_of tree q.removals q.way

-- ---- what is asked

abbrev pub innermost : List Frame → Option ℕ
innermost [] = None
innermost (f ∷ fs) = Some f.at

abbrev pub wanted_of : Bool → List Frame → Option ℕ
wanted_of true way = innermost way
wanted_of false way = None

-- the block of which the next step needs the content
abbrev pub wanted : Pending → Option ℕ
wanted q = wanted_of q.asked q.way

-- the level of the innermost pointer block on the way
abbrev pub way_level : List Frame → Option ℕ
way_level [] = None
way_level (f ∷ fs) = Some f.level

-- the content that a step is given is that of the block that was asked for
pub record IsContent (tree : Tree) (q : Pending) (block : List ℕ) : Type 0 where
  pub content : (b : ℕ) → wanted q ≡ Some b → HoldsPointers (tree b) block

abbrev pub reads_of : Bool → List Frame → ℕ
reads_of true [] = 5
reads_of true (f ∷ fs) = f.level
reads_of false way = 5

-- how many blocks at most are asked for one after the other before one is closed
abbrev pub reads_left : Pending → ℕ
reads_left q = reads_of q.asked q.way

-- the removals after a block was closed: the first one is gone once it has nothing left
abbrev pub remaining : List Removal → List Frame → List Removal
remaining removals [] = drop 1 removals
remaining removals (f ∷ fs) = removals

-- the first removal is gone, with all that it has left
abbrev pub dropped : Pending → Pending
dropped q = record q { removals = drop 1 q.removals; way = []; asked = false }

-- ---- what may be queued

-- A kind has a level of at most 4, and a root block is closed alone: a root of a snapshot shares what is below it.
pub record IsRemoval (r : Removal) : Type 0 where
  pub kind : KindHolds r.kind
  pub root : r.kind ≡ Root → r.whole ≡ false

abbrev pub first_removal : Pending → Option Removal
first_removal q = slice_get q.removals 0

-- A removal begins with its block: at the level of a leaf where the block is closed alone.
abbrev pub start_level : Removal → ℕ
start_level r = if r.whole then level_of r.kind else 0

-- a block was closed, and the first removal is over where no way is left
abbrev pub closed : Pending → Pending
closed q = record q { removals = remaining q.removals q.way }

-- the content of a pointer block is asked for, with none of its slots done
abbrev pub entered : Pending → ℕ → ℕ → Pending
entered q at level = record q { way = record { at = at; level = level; done = 0 } ∷ q.way; asked = true }
