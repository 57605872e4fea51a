-- A cache opens over a device that is settled.
use Rattle.std.specs.Prelude.{◌≡◌, ℕ, Bool, List, [], ◌∷◌}
use Rattle.fo_disk.specs.Disk.{Content as Holds}
use Rattle.fo_image.specs.declared.types.Pointer.TheVariants.{Local}
use Rattle.fo_crash.specs.declared.slot.Slot.{Slot}
use Rattle.fo_crash.specs.Images.{Reaches, target, to_block}
use Rattle.fo_cells.specs.Known.{MaySlot}
use Rattle.fo_cells.specs.Safe.{super_top}
use Rattle.fo_cells.specs.Device.{known}
use Rattle.fo_cells_out.specs.Origins.{Origins}
use Rattle.fo_cells_epochs.specs.Epochs.{HasEpochs}
use Rattle.fo_cells_steps.specs.of_cells_all.All.{Kept, Format, HoldsBeside}
use Rattle.fo_cells_steps.specs.Division.{HoldsMade}

-- Each slot that may be there is memory's; nothing is made, and nothing waits to be closed; each block of the tree has one parent there.
pub record Opens (c : Kept) (f : Format) (unsure : List Bool) (holds : Holds) : Type 0 where
  pub epochs : HasEpochs (known c.mind holds) c.high f.high_of c.doubts c.active c.roots
  pub beside : HoldsBeside c f unsure holds
  pub settled : (a i : ℕ) (s : Slot) → MaySlot (known c.mind holds) a i s → s ≡ (c.mind.memory a).slot i
  pub active : c.active ≡ super_top ∷ []
  pub past : c.past ≡ []
  pub queue : c.queue ≡ []
  pub one : (a b i j z : ℕ) → Reaches c.mind.memory (to_block 1) a → Reaches c.mind.memory (to_block 1) b → target ((c.mind.memory a).slot i) ≡ Local z → target ((c.mind.memory b).slot j) ≡ Local z → (a ≡ b) × (i ≡ j)

-- nothing is made
abbrev pub none_made : ℕ → Type 0
none_made b = ⊥

abbrev pub no_origins : Origins
no_origins = record { Apart = λ b. ⊥; Copied = λ b x. ⊥; Instead = λ b x. ⊥ }

abbrev pub OpeningHolds : Type 0
OpeningHolds = (c : Kept) (f : Format) (unsure : List Bool) (holds : Holds) → Opens c f unsure holds → HoldsMade c f none_made no_origins unsure holds
