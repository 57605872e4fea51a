-- What is known of the bytes of a block besides.
use Rattle.std.specs.Prelude.{◌≡◌, ℕ, Bool, true, List}
use Rattle.fo_slots.specs.of_image.declared.types.Kind.TheVariants.{Root}
use Rattle.fo_slots.specs.of_meta.Leaf.{IsLeaf}
use Rattle.fo_slots.specs.of_ports.Blocks.{IsFormed}

-- What was found out is so: they are a leaf of records, or those of a root block.
pub record IsKnown (leaf root : Bool) (bytes : List ℕ) : Type 0 where
  pub is_leaf : leaf ≡ true → IsLeaf bytes
  pub is_root : root ≡ true → IsFormed Root 0 bytes
