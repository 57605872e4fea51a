-- What a block has to be so that something is taken out below it, or so that it is closed itself.
use Rattle.std.specs.Prelude.{◌≡◌, ◌≢◌, ◌<◌, ℕ}
use Rattle.fo_image.specs.declared.types.Kind.TheVariants.{Data, Root}
use Rattle.fo_image.specs.declared.types.State.TheVariants.{Live}
use Rattle.fo_image.specs.declared.types.Pointer.TheVariants.{Local}
use Rattle.fo_crash.specs.declared.slot.Slot.TheVariants.{Pointer as To}
use Rattle.fo_ports.specs.State.{State}

-- Slot 0 of a block of pointers of the current epoch leads to a block. Nobody waits for it, and it doesn't wait.
pub record HasBelow (s : State) (at : ℕ) : Type 0 where
  pub pinned : s.pinned at
  pub kind : (s.label at).kind ≡ Data 1
  pub current : (s.label at).epoch ≡ s.high
  pub settled : s.clearing at 0 → ⊥
  pub quiet : (a : ℕ) → s.waits a at 0 → ⊥
  pub below : ℕ
  pub leads : (s.now at).slot 0 ≡ To (Local below)

-- A root block of an earlier epoch that is no top and isn't to be closed, and room for a removal. Nothing was made to come in the place
-- of a block.
pub record HasOldRoot (s : State) (at : ℕ) : Type 0 where
  pub is_one : s.is_block at
  pub no_top : s.tops at → ⊥
  pub live : (s.label at).state ≡ Live
  pub kind : (s.label at).kind ≡ Root
  pub other : s.root ≢ at
  pub older : (s.label at).epoch < s.high
  pub uncovered : s.covered at → ⊥
  pub room : 0 < s.room
  pub none : (y x : ℕ) → s.instead y x → ⊥
