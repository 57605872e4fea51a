-- Two images of a root directory with one leaf of entries and one of records: before a record was put, and after.
use Rattle.std.specs.Prelude.{◌≡◌, ◌⊎◌, ◌-◌, ℕ, zero, suc, true, false, cond, nat_eq, List, [], ◌∷◌, ◌++◌, length, codes}
use Rattle.fo_image.specs.Field.{Two, number, zeros}
use Rattle.fo_image.specs.declared.record.Record.{Record}
use Rattle.fo_image.specs.declared.types.Kind.TheVariants.{Data}
use Rattle.fo_image.specs.declared.types.Pointer.TheVariants.{Nil, Local}
use Rattle.fo_crash.specs.declared.slot.Slot.{Slot}
use Rattle.fo_crash.specs.declared.slot.Slot.TheVariants.{Pointer as To, Entry as Head}
use Rattle.fo_crash.specs.Images.{Image, to_block}
use Rattle.fo_crash.specs.Places.{place}
use Rattle.fo_crash.specs.Spots.{Spot}
use Rattle.fo_meta.specs.Leaf.{records_bytes}
use Rattle.fo_ports.specs.Blocks.{no_entry}

-- a file of number 1, with pair 0
abbrev pub first : Record
first = record {
  name = codes "a";
  number = 1;
  slot = 0;
  generation = 1;
  vers = 0;
  mode = 420;
  atime = 0;
  mtime = 0;
  uid = codes "u";
  gid = codes "u";
  muid = codes "u";
}

-- a leaf of these records
unfoldable pub leaf_of : List Record → List ℕ
leaf_of rs = number Two (length rs) ++ (number Two (length (records_bytes rs)) ++ (records_bytes rs ++ zeros (8188 - length (records_bytes rs))))

-- the slots of block 1, of the root block 2, and of block 3, the leaf of its entries
abbrev pub super_slots : ℕ → Slot
super_slots zero = to_block 2
super_slots (suc i) = To Nil

abbrev pub root_slots : ℕ → Slot
root_slots zero = Head (record { generation = 0; active = true; dir = true; depth = 0; tag = 32; size = 8192; top = Local 3 })
root_slots (suc zero) = Head (record { generation = 0; active = true; dir = false; depth = 0; tag = 33; size = 8192; top = Local 4 })
root_slots (suc (suc i)) = To Nil

abbrev pub entry_slots : ℕ → Slot
entry_slots zero = Head (record { generation = 1; active = true; dir = false; depth = 0; tag = 34; size = 0; top = Nil })
entry_slots (suc i) = Head no_entry

abbrev pub slots : ℕ → ℕ → Slot
slots b i = cond (nat_eq b 1) (super_slots i) (cond (nat_eq b 2) (root_slots i) (cond (nat_eq b 3) (entry_slots i) (To Nil)))

-- the image whose leaf of records, block 4, has these
abbrev pub one_leaf : List Record → Image
one_leaf rs = λ b. record { bytes = cond (nat_eq b 4) (leaf_of rs) (leaf_of []); slot = slots b }

abbrev pub later : Image
later = one_leaf (first ∷ [])

abbrev pub both : Image → Type 0
both image = (image ≡ one_leaf []) ⊎ (image ≡ later)

-- the spot of the root's leaf of records
abbrev pub leaf_spot : Spot
leaf_spot = record { place = place (Data 0) 33 0 2096; trail = 1 ∷ 0 ∷ [] }
