-- A new device.
use Rattle.std.specs.Prelude.{◌≡◌, ◌+◌, ◌-◌, ◌^◌, ℕ, false, length}
use Rattle.fo_image.specs.declared.types.Kind.TheVariants.{Root}
use Rattle.fo_image.specs.declared.types.State.TheVariants.{Live}
use Rattle.fo_crash.specs.Places.{root_place}
use Rattle.fo_ports.specs.Blocks.{blank_slot}
use Rattle.fo_ports_plain.specs.Plain.{block_at, slot_of, label_at, Stands}
use Rattle.fo_ports_plain.specs.Meaning.{Plain}

-- So many blocks may be made, block 2 is the root block of an empty tree, nothing is apart and nothing was taken out.
pub record IsFresh (count : ℕ) (p : Plain) : Type 0 where
  pub as_long : length p.blocks ≡ count + 3
  pub numbers : (p.made ≡ 3) × (p.high ≡ 1) × (p.root ≡ 2) × (p.next ≡ 1) × (p.queued ≡ 0)
  pub nothing : (p.spare ≡ 0) × (p.room ≡ 0)
  pub none : (b : ℕ) → ((block_at p.blocks b).apart ≡ false) × ((block_at p.blocks b).taken ≡ false)
  pub slots : (i : ℕ) → slot_of (block_at p.blocks 2) i ≡ blank_slot Root i
  pub at_root : Stands p.blocks p.made 2 root_place
  pub root_label : label_at p.blocks p.made 2 ≡ record { state = Live; kind = Root; tag = 1; epoch = 1; closing = 2 ^ 32 - 1 }
