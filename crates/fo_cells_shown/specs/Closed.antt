-- What was closed and may not be given out yet; what left the tree and was not closed; and what a low epoch that rises loses.
use Rattle.std.specs.Prelude.{◌≡◌, ◌≢◌, ◌⊎◌, ◌≤◌, ℕ, suc, false, List, ◌++◌, map}
use Rattle.std.specs.List.{Contains}
use Rattle.fo_image.specs.declared.types.State.TheVariants.{Live, Closed}
use Rattle.fo_image.specs.Usable.{is_usable}
use Rattle.fo_crash.specs.declared.place.Place.{Place}
use Rattle.fo_crash.specs.Images.{Content}
use Rattle.fo_cells.specs.Known.{Known, Top, Stands}
use Rattle.fo_cells.specs.Writes.{Gives}
use Rattle.fo_cells_out.specs.Removals.{Pending}
use Rattle.fo_cells_out.specs.Parents.{Tree}
use Rattle.fo_cells_out.specs.Origins.{Decided}
use Rattle.fo_cells_epochs.specs.Epochs.{Root, HasEpochs, KeepsTrees, RaisesLow, from_tops, root_top, tree_of}
use Rattle.fo_cells_queue.specs.Queue.{Queued}
use Rattle.fo_cells_lost.specs.Lost.{IsLost, KeepsKept, MovesOnly, AreShared, ClosesOne}

-- the tree of a root that is kept has this block
abbrev pub IsKeptBy : Known → List Root → ℕ → Type 0
IsKeptBy k roots b = (r : Root) × Contains roots r × ((q : Place) × Stands (tree_of k r) b q)

-- WHAT IS CLOSED and may not be given out yet is in the kept tree of the epoch before that at which it was closed.
pub record ClosedAreKept (k : Known) (roots : List Root) : Type 0 where
  pub closed : (b : ℕ) → b ≢ 1 → (k.label b).state ≡ Closed → is_usable k.low (k.label b) ≡ false → (r : Root) × Contains roots r × (suc r.epoch ≡ (k.label b).closing) × ((q : Place) × Stands (tree_of k r) b q)

-- A block that left the tree without being closed: a live one that is in no tree of memory, was not made just now, waits in no removal, and
-- is in a kept tree still.
pub record IsStray (k : Known) (t : Tree) (roots : List Root) (b : ℕ) : Type 0 where
  pub live : (k.label b).state ≡ Live
  pub outside : (t.Within b → ⊥) × (t.Made b → ⊥) × (t.Covered b → ⊥)
  pub kept : IsKeptBy k roots b

-- All roots from this low epoch on are kept.
pub record KeepsFrom (low : ℕ) (roots kept : List Root) : Type 0 where
  pub raises : RaisesLow low roots kept
  pub all : (r : Root) → Contains roots r → low ≤ r.epoch → Contains kept r

abbrev pub raised : Known → ℕ → List Top → List Root → Known
raised k low active kept = from_tops k (active ++ map root_top kept) low

-- LAWS
-- What is closed stays so over a step after which labels are as they were, and kept trees and their roots are there still.
abbrev pub MoveKeepsClosed : Type 0
MoveKeepsClosed = (old new : Known) (high : ℕ) (high_of : Content → ℕ) (doubts : List Content) (active : List Top) (roots after : List Root) → KeepsKept old new roots → ((r : Root) → Contains roots r → Contains after r) → new.low ≡ old.low → new.label ≡ old.label → HasEpochs old high high_of doubts active roots → ClosedAreKept old roots → ClosedAreKept new after

-- So it does where a block is given out, and where the next one is closed.
abbrev pub GiveKeepsClosed : Type 0
GiveKeepsClosed = (at high : ℕ) (c : Content) (p : Place) (high_of : Content → ℕ) (doubts : List Content) (active : List Top) (roots : List Root) (old new : Known) → Gives at c p old new → (new.label at).state ≡ Live → HasEpochs old high high_of doubts active roots → ClosedAreKept old roots → ClosedAreKept new roots

abbrev pub CloseKeepsClosed : Tree → Tree → Type 0
CloseKeepsClosed t u = (b epoch high : ℕ) (high_of : Content → ℕ) (doubts : List Content) (active : List Top) (roots : List Root) (past : List Queued) (queue : List Pending) (old new : Known) → ClosesOne b epoch old new t u high past queue → HasEpochs old high high_of doubts active roots → AreShared old t high roots past queue → ClosedAreKept old roots → ClosedAreKept new roots

-- And where the low epoch rises.
abbrev pub RaiseKeepsClosed : Type 0
RaiseKeepsClosed = (low : ℕ) (active : List Top) (roots kept : List Root) (k : Known) → KeepsFrom low roots kept → k.low ≤ low → ClosedAreKept k roots → ClosedAreKept (raised k low active kept) kept

-- A LOW EPOCH THAT RISES loses what was lost, and what left the tree without being closed: no block else.
abbrev pub RaiseLoses : Tree → Type 0
RaiseLoses t = (low high : ℕ) (high_of : Content → ℕ) (doubts : List Content) (active : List Top) (roots kept : List Root) (k : Known) → KeepsFrom low roots kept → k.low ≤ low → HasEpochs k high high_of doubts active roots → ClosedAreKept k roots → ((b : ℕ) → Decided (IsKeptBy k roots b)) → (b : ℕ) → b ≢ 1 → IsLost (raised k low active kept) t kept b → IsLost k t roots b ⊎ IsStray k t roots b

-- What strays did before, or is in the gap of a step after which labels are as they were.
abbrev pub MoveStrays : Tree → Tree → (ℕ → Type 0) → Type 0
MoveStrays t u Gap = (old new : Known) (before after : List Top) (roots : List Root) → MovesOnly t u Gap → KeepsTrees old new before after roots → new.label ≡ old.label → (b : ℕ) → IsStray new u roots b → IsStray old t roots b ⊎ Gap b

-- No block strays where one is closed.
abbrev pub CloseStrays : Tree → Tree → Type 0
CloseStrays t u = (b epoch high : ℕ) (before after : List Top) (roots : List Root) (past : List Queued) (queue : List Pending) (old new : Known) → ClosesOne b epoch old new t u high past queue → KeepsTrees old new before after roots → (a : ℕ) → IsStray new u roots a → IsStray old t roots a
