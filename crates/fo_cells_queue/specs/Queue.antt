-- Removals of the active epoch and of earlier ones, each seen from the tops of its epoch.
use Rattle.std.specs.Prelude.{◌≡◌, ◌≢◌, ◌⊎◌, ◌<◌, ◌≤◌, ℕ, cond, nat_le, List, [], ◌∷◌, ◌++◌}
use Rattle.std.specs.List.{Contains}
use Rattle.fo_image.specs.declared.types.Label.{Label}
use Rattle.fo_image.specs.declared.types.State.TheVariants.{Live, Closed}
use Rattle.fo_image.specs.declared.types.Pointer.TheVariants.{Local}
use Rattle.fo_crash.specs.declared.slot.Slot.{Slot}
use Rattle.fo_crash.specs.Images.{Reaches, target, to_block}
use Rattle.fo_cells_epochs.specs.of_cells.Known.{Known, Top, MaySlot}
use Rattle.fo_cells_epochs.specs.of_cells.Writes.{SameDevice}
use Rattle.fo_cells_epochs.specs.of_cells_out.Removals.{Pending, IsBehind, IsCovered}
use Rattle.fo_cells_epochs.specs.of_cells_out.Parents.{Tree, Moves, IsDivided, blocks_of, view}
use Rattle.fo_cells_epochs.specs.Epochs.{Root, root_top}

-- a removal, with the epoch in which its blocks left the tree
pub record Queued : Type 0 where
  pub pending : Pending
  pub epoch : ℕ

-- The tops from which a removal of this epoch is seen: those of the active trees, and the kept roots of epochs from that one on. Older
-- snapshots may still hold what it closes.
abbrev pub tops_from : List Top → List Root → ℕ → List Top
tops_from active [] epoch = active
tops_from active (r ∷ rs) epoch = cond (nat_le epoch r.epoch) (root_top r ∷ tops_from active rs epoch) (tops_from active rs epoch)

abbrev pub past_blocks : List Queued → List ℕ
past_blocks [] = []
past_blocks (r ∷ rs) = r.pending.blocks ++ past_blocks rs

-- Removals of earlier epochs, in order.
abbrev pub ArePast : Known → List Top → List Root → List ℕ → List Queued → Type 0
ArePast k active roots earlier [] = Unit {0}
ArePast k active roots earlier (r ∷ rs) = IsBehind (view k (tops_from active roots r.epoch)) earlier r.pending × ArePast k active roots (earlier ++ r.pending.blocks) rs

-- Epochs of removals don't fall.
abbrev pub InOrder : ℕ → List Queued → Type 0
InOrder epoch [] = Unit {0}
InOrder epoch (r ∷ rs) = (epoch ≤ r.epoch) × InOrder r.epoch rs

-- none is there twice
abbrev pub IsOnce : List ℕ → Type 0
IsOnce [] = Unit {0}
IsOnce (x ∷ xs) = (Contains xs x → ⊥) × IsOnce xs

-- ALL REMOVALS: those of earlier epochs, and those of the active one. No block waits twice. What waits to be closed, and what was made, is
-- live; what waits was given out by the epoch of its removal. (What is within is what block 1 reaches in memory.)
pub record IsQueue (k : Known) (t : Tree) (high : ℕ) (active : List Top) (roots : List Root) (past : List Queued) (queue : List Pending) : Type 0 where
  pub now : IsDivided (view k active) t (past_blocks past) queue
  pub behind : ArePast k active roots [] past
  pub order : InOrder 0 past
  pub before : (r : Queued) → Contains past r → r.epoch < high
  pub within : (b : ℕ) → t.Within b → Reaches k.memory (to_block 1) b
  pub once : IsOnce (past_blocks past ++ blocks_of queue)
  pub live : (b : ℕ) → t.Covered b ⊎ t.Made b → (k.label b).state ≡ Live
  pub begun : (r : Queued) (b : ℕ) → Contains past r → Contains r.pending.blocks b → (k.label b).epoch ≤ r.epoch

-- the label of a block that is closed at this epoch
abbrev pub closed_at : Label → ℕ → Label
closed_at l epoch = record l { state = Closed; closing = epoch }

-- A label changes in memory, and nothing else.
pub record NewLabel (b : ℕ) (l : Label) (old new : Known) : Type 0 where
  pub memory : new.memory ≡ old.memory
  pub tops : new.tops ≡ old.tops
  pub low : new.low ≡ old.low
  pub device : SameDevice old new
  pub waits : new.waits ≡ old.waits
  pub clears : new.clears ≡ old.clears
  pub here : new.label b ≡ l
  pub others : (a : ℕ) → a ≢ b → new.label a ≡ old.label a

-- All slots that may be there of the block are those of memory.
abbrev pub IsSetAfter : Known → ℕ → Type 0
IsSetAfter k after = (i : ℕ) (s : Slot) → MaySlot k after i s → s ≡ (k.memory after).slot i

-- what is left to close, of the removals of earlier epochs and of the active one
abbrev pub uncovering : Tree → List ℕ → List Pending → Tree
uncovering t before queue = record t { Covered = λ a. Contains before a ⊎ IsCovered queue a }

abbrev pub first_past : ℕ → List ℕ → ℕ → Queued
first_past epoch bs after = record { pending = record { blocks = bs; after = after }; epoch = epoch }

-- A SLOT MOVES: what a put or a clearing queues was within
pub record MovesQueue (at i : ℕ) (s : Slot) (old new : Known) (t u : Tree) (after : List Top) (past : List Queued) (queue rs : List Pending) : Type 0 where
  pub moves : Moves at i s old new
  pub label : new.label ≡ old.label
  pub uncovered : (b : ℕ) → target s ≡ Local b → t.Covered b → ⊥
  pub now : IsDivided (view new after) u (past_blocks past) (queue ++ rs)
  pub reached : (b : ℕ) → u.Within b → Reaches new.memory (to_block 1) b
  pub made : (b : ℕ) → u.Made b → t.Made b
  pub inside : (b : ℕ) → IsCovered rs b → t.Within b
  pub once : IsOnce (blocks_of rs)
