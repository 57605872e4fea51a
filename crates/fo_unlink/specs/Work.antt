-- How many steps the removals that wait can take at most, whatever the blocks hold that are read for them.
use Rattle.std.specs.Prelude.{◌≡◌, ℕ, zero, suc, ◌+◌, ◌-◌, ◌*◌, ◌<◌, Bool, true, false, List, [], ◌∷◌, Option, Some, None}
use Rattle.fo_unlink.specs.declared.removal.Removal.{Removal}
use Rattle.fo_unlink.specs.declared.removal.Step.{Step}
use Rattle.fo_unlink.specs.declared.removal.Step.TheVariants.{Closes, Reads, Waits, Empty}
use Rattle.fo_unlink.specs.declared.way.Frame.{Frame}
use Rattle.fo_unlink.specs.Pending.{Pending, wanted, reads_left, start_level}

-- A leaf is closed. A pointer block is asked for; for each of its 409 slots there is the block below it, and then it is asked for
-- again; and it is closed.
abbrev pub block_work : ℕ → ℕ
block_work zero = 1
block_work (suc level) = 409 * (block_work level + 1) + 2

abbrev pub work_of : Removal → ℕ
work_of r = block_work (start_level r)

-- what is below the slots of a pointer block that are not done
abbrev pub slots_work : Frame → ℕ
slots_work f = (409 - f.done) * (block_work (f.level - 1) + 1)

-- pointer blocks of which none was asked for
abbrev pub frames_work : List Frame → ℕ
frames_work [] = 0
frames_work (f ∷ fs) = slots_work f + 2 + frames_work fs

-- a way, the innermost block of which was asked for or not
abbrev pub way_work : Bool → List Frame → ℕ
way_work true [] = 0
way_work true (f ∷ fs) = slots_work f + 1 + frames_work fs
way_work false way = frames_work way

-- what the first removal has left: all of it before it has begun
abbrev pub first_work : Removal → Bool → List Frame → ℕ
first_work r asked [] = work_of r
first_work r asked (f ∷ fs) = way_work asked (f ∷ fs)

abbrev pub removals_work : List Removal → ℕ
removals_work [] = 0
removals_work (r ∷ rs) = work_of r + removals_work rs

abbrev pub work_left : List Removal → Bool → List Frame → ℕ
work_left [] asked way = 0
work_left (r ∷ rs) asked way = first_work r asked way + removals_work rs

-- How many steps close or read at most, until no removal is left.
abbrev pub work : Pending → ℕ
work q = work_left q.removals q.asked q.way

-- one reading, where the content of a block was asked for
abbrev pub readings : Option ℕ → ℕ
readings None = 0
readings (Some b) = 1

-- A step that closes or reads lowers the work, whatever it was given as a content. One that waits takes back what was asked for. Of
-- the steps that read, at most five follow one another.
abbrev pub Lowers : Pending → Pending → Step → Type 0
Lowers old new (Closes b) = work new < work old
Lowers old new (Reads b) = (work new < work old) × (reads_left new < reads_left old)
Lowers old new Waits = work new ≡ work old + readings (wanted old)
Lowers old new Empty = (work old ≡ 0) × (work new ≡ 0)
