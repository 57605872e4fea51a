-- The laws of blocks, of one state, where the device tells nothing.
use Rattle.std.specs.Prelude.{◌≡◌, ◌^◌, ◌-◌, ◌<◌, ◌≤◌, ℕ}
use Rattle.fo_image.specs.declared.types.Kind.TheVariants.{Dir}
use Rattle.fo_image.specs.declared.types.Pointer.TheVariants.{Local}
use Rattle.fo_crash.specs.Images.{Content, Image, SameContent, target}
use Rattle.fo_ports.specs.Blocks.{slot_count, SlotFits}
use Rattle.fo_ports.specs.State.{State, IsPairUsed}

-- There is no image, and nothing is to be closed; the other laws speak of data that are kept.
pub record IsLawful (s : State) : Type 0 where
  pub silent : s.tells → ⊥
  pub no_image : (image : Image) → s.may_leave image → ⊥
  pub uncovered : (at : ℕ) → s.covered at → ⊥
  pub enough : s.spare ≤ s.usable
  pub active : s.tops 1 × (s.is_block 1 → ⊥)
  pub root_is : s.is_block s.root
  pub root_linked : s.newborn s.root → ⊥
  pub within : (at i below : ℕ) → s.pinned at → target ((s.now at).slot i) ≡ Local below → s.is_block below
  pub small : (at : ℕ) → s.is_block at → at < 2 ^ 32 - 1
  pub spelled : (at i : ℕ) → s.pinned at → i < slot_count (s.label at).kind → SlotFits (s.label at).kind i ((s.now at).slot i)
  pub one_doubt : (c d : Content) → s.doubt c → s.doubt d → SameContent c d
  pub waits_in_use : (a on j : ℕ) → s.waits a on j → IsPairUsed s.now on j
  pub waits_within : (a on j : ℕ) → s.waits a on j → (s.label on).kind ≡ Dir 0
  pub clears_entries : (at j : ℕ) → s.clearing at j → ((s.label at).kind ≡ Dir 0) × ((s.label at).epoch ≡ s.high)
