-- A step to a block: whether the block and its label may stand where the step leads.
use Rattle.std.specs.Prelude.{◌≡◌, ℕ}
use Rattle.std.specs.List.{Any}
use Rattle.fo_image.specs.declared.types.Label.{Label}
use Rattle.fo_crash.specs.declared.place.Place.{Place}
use Rattle.fo_sound.specs.Image.{IsDataBlock}
use Rattle.fo_good.specs.Trees.{MayHave}
use Rattle.fo_check_labels.specs.declared.error.TreeError.{TreeError}
use Rattle.fo_check_labels.specs.declared.error.TreeError.TheVariants.{Label as BadLabel, Read, Memory}
use Rattle.fo_check_tree.specs.declared.walk.Step.{Step}
use Rattle.fo_check_tree.specs.declared.walk.Walk.{Walk}
use Rattle.fo_check_labels.specs.Known.{IsKnown}

-- the place to which a step leads; of its rank nothing is asked
abbrev pub place_of : Step → Place
place_of step = record { kind = step.kind; tag = step.tag; index = step.index; rank = 0 }

-- The block at this address is a data block with this label, which may stand where the step leads.
pub record IsAllowed (walk : Walk) (step : Step) (address : ℕ) (label : Label) : Type 0 where
  pub place : IsDataBlock walk.blocks address
  pub known : Any (IsKnown address label) walk.labels.known.items
  pub may : MayHave walk.epoch walk.active (place_of step) step.holder.label label

-- S4: the block that holds the pointer where it leads to no data block, else the block that it leads to.
pub data BreaksStep (walk : Walk) (step : Step) (address block : ℕ) : Type 0 where
  outside : block ≡ step.holder.block → ¬ IsDataBlock walk.blocks address → BreaksStep walk step address block
  label : block ≡ address → IsDataBlock walk.blocks address → ((l : Label) → Any (IsKnown address l) walk.labels.known.items → ¬ MayHave walk.epoch walk.active (place_of step) step.holder.label l) → BreaksStep walk step address block

abbrev pub RefusesStep : Walk → Step → ℕ → TreeError → Type 0
RefusesStep walk step address (BadLabel block) = BreaksStep walk step address block
RefusesStep walk step address Read = ⊥
RefusesStep walk step address Memory = ⊥
