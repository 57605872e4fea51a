-- Removals of a put, each by its shape; and that they are ones that leave.
use Rattle.std.specs.Prelude.{◌≡◌, ◌⊎◌, ℕ, Bool, List, [], ◌∷◌, ◌++◌}
use Rattle.std.specs.List.{Contains}
use Rattle.fo_disk.specs.Disk.{Content as Holds}
use Rattle.fo_crash.specs.declared.slot.Slot.{Slot}
use Rattle.fo_cells.specs.Known.{Known}
use Rattle.fo_cells_out.specs.Removals.{Pending}
use Rattle.fo_cells_out.specs.Parents.{Tree, Points, AllLeaving, HangsTogether, IsHead, blocks_of}
use Rattle.fo_cells_out.specs.Origins.{Origins, Out, Goes, CopyBy, PutsMade, LosesMany}
use Rattle.fo_cells_queue.specs.Queue.{past_blocks}
use Rattle.fo_cells_all.specs.All.{Kept, Format}
use Rattle.fo_cells_steps.specs.Division.{HoldsMade, division}
use Rattle.fo_cells_puts.specs.Putting.{seen_from}

-- queued before, or the block put into
abbrev pub IsBefore : List ℕ → ℕ → ℕ → Type 0
IsBefore earlier at g = Contains earlier g ⊎ (g ≡ at)

-- A level that a source loses: the first hung from the slot that is put, each next one in slot 0 of a level that was queued before.
pub data IsLevel (k : Known) (t : Tree) (at i : ℕ) (earlier : List ℕ) : ℕ → Type 0 where
  first : (b : ℕ) → IsHead k t at i b → IsLevel k t at i earlier b
  next : (c b : ℕ) → t.Within c → Points k c 0 b → Contains earlier c → IsLevel k t at i earlier c → IsLevel k t at i earlier b

-- One removal, after the block put into: of a block that has a copy, of a set that hangs together, or of a level. `Leaves` is what leaves the
-- tree of memory with the put.
pub data IsShaped (k : Known) (t : Tree) (Copied Leaves : ℕ → Type 0) (at i : ℕ) (earlier : List ℕ) (r : Pending) : Type 0 where
  copied : (b g l : ℕ) → r ≡ record { blocks = b ∷ []; after = at } → Copied b → t.Within g → Points k g l b → IsBefore earlier at g → IsShaped k t Copied Leaves at i earlier r
  whole : (root g l : ℕ) → r.after ≡ at → IsHead k t g l root → HangsTogether k t root r.blocks → ((b : ℕ) → Contains r.blocks b → Leaves b) → IsBefore earlier at g → IsShaped k t Copied Leaves at i earlier r
  level : (b : ℕ) → r ≡ record { blocks = b ∷ []; after = at } → Leaves b → IsLevel k t at i earlier b → IsShaped k t Copied Leaves at i earlier r

-- the removals of one put, in order
abbrev pub AllShaped : Known → Tree → (ℕ → Type 0) → (ℕ → Type 0) → ℕ → ℕ → List ℕ → List Pending → Type 0
AllShaped k t Copied Leaves at i earlier [] = Unit {0}
AllShaped k t Copied Leaves at i earlier (r ∷ rs) = IsShaped k t Copied Leaves at i earlier r × AllShaped k t Copied Leaves at i (earlier ++ r.blocks) rs

-- what is queued already
abbrev pub queued : Kept → List ℕ
queued c = past_blocks c.past ++ blocks_of c.queue

-- A MADE BLOCK COMES IN THE PLACE OF ANOTHER: what has a copy, what leaves whole, levels that go.
abbrev pub ComesLeave : (ℕ → Type 0) → Origins → (ℕ → Type 0) → Type 0
ComesLeave Made h Lost = (at i top x y : ℕ) (s : Slot) (rs : List Pending) (c d : Kept) (f : Format) (unsure : List Bool) (holds : Holds) → PutsMade at i s (seen_from c holds) (seen_from d holds) (division c Made) h top x y Lost → AllShaped (seen_from c holds) (division c Made) (λ b. (z : ℕ) × CopyBy (seen_from c holds) (division c Made) h y b z) (Out (seen_from c holds) (division c Made) top y) at i (queued c) rs → HoldsMade c f Made h unsure holds → AllLeaving s (seen_from c holds) (seen_from d holds) (division c Made) (queued c) rs

-- LEVELS ARE LOST: nothing has a copy.
abbrev pub LevelsLeave : (ℕ → Type 0) → Origins → (ℕ → Type 0) → Type 0
LevelsLeave Made h Lost = (at i x b : ℕ) (s : Slot) (rs : List Pending) (c d : Kept) (f : Format) (unsure : List Bool) (holds : Holds) → LosesMany at i s (seen_from c holds) (seen_from d holds) (division c Made) h x b Lost → AllShaped (seen_from c holds) (division c Made) (λ z. ⊥) (Goes (seen_from c holds) x b) at i (queued c) rs → HoldsMade c f Made h unsure holds → AllLeaving s (seen_from c holds) (seen_from d holds) (division c Made) (queued c) rs
