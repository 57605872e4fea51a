-- Two images with two leaves of records in the root directory: a record stands in the first leaf, and another in the second of the later image.
use Rattle.std.specs.Prelude.{◌≡◌, ◌⊎◌, ◌-◌, ℕ, zero, suc, true, false, cond, nat_eq, List, [], ◌∷◌, ◌++◌, length, codes}
use Rattle.fo_image.specs.Field.{Two, number, zeros}
use Rattle.fo_image.specs.declared.record.Record.{Record}
use Rattle.fo_image.specs.declared.types.Kind.TheVariants.{Data}
use Rattle.fo_image.specs.declared.types.Pointer.TheVariants.{Nil, Local}
use Rattle.fo_crash.specs.declared.slot.Slot.{Slot}
use Rattle.fo_crash.specs.declared.slot.Slot.TheVariants.{Pointer as To, Entry as Head}
use Rattle.fo_crash.specs.Images.{Image, Arena, Link, step, from_block, to_block}
use Rattle.fo_crash.specs.Places.{place}
use Rattle.fo_crash.specs.Spots.{Spot}
use Rattle.fo_meta.specs.Leaf.{records_bytes}
use Rattle.fo_ports.specs.Blocks.{no_entry}

-- a file of this name, number and pair
abbrev pub file : List ℕ → ℕ → ℕ → Record
file name number slot = record {
  name = name;
  number = number;
  slot = slot;
  generation = 1;
  vers = 0;
  mode = 420;
  atime = 0;
  mtime = 0;
  uid = codes "u";
  gid = codes "u";
  muid = codes "u";
}

abbrev pub first : Record
first = file (codes "a") 1 0

abbrev pub second : Record
second = file (codes "b") 2 1

-- a leaf of these records
unfoldable pub leaf_of : List Record → List ℕ
leaf_of rs = number Two (length rs) ++ (number Two (length (records_bytes rs)) ++ (records_bytes rs ++ zeros (8188 - length (records_bytes rs))))

-- the slots of block 1, of the root block 2, of block 3, the leaf of its entries, and of block 5, the top of its records
abbrev pub super_slots : ℕ → Slot
super_slots zero = to_block 2
super_slots (suc i) = To Nil

abbrev pub root_slots : ℕ → Slot
root_slots zero = Head (record { generation = 0; active = true; dir = true; depth = 0; tag = 32; size = 8192; top = Local 3 })
root_slots (suc zero) = Head (record { generation = 0; active = true; dir = false; depth = 1; tag = 33; size = 16384; top = Local 5 })
root_slots (suc (suc i)) = To Nil

abbrev pub empty_file : ℕ → Slot
empty_file tag = Head (record { generation = 1; active = true; dir = false; depth = 0; tag = tag; size = 0; top = Nil })

abbrev pub entry_slots : ℕ → Slot
entry_slots zero = empty_file 34
entry_slots (suc zero) = Head no_entry
entry_slots (suc (suc zero)) = empty_file 36
entry_slots (suc (suc (suc i))) = Head no_entry

abbrev pub top_slots : ℕ → Slot
top_slots zero = to_block 4
top_slots (suc zero) = to_block 6
top_slots (suc (suc i)) = To Nil

abbrev pub slots : ℕ → ℕ → Slot
slots b i = cond (nat_eq b 1) (super_slots i) (cond (nat_eq b 2) (root_slots i) (cond (nat_eq b 3) (entry_slots i) (cond (nat_eq b 5) (top_slots i) (To Nil))))

-- the image whose second leaf, block 6, has these records
abbrev pub two_leaves : List Record → Image
two_leaves rs = λ b. record { bytes = cond (nat_eq b 4) (leaf_of (first ∷ [])) (cond (nat_eq b 6) (leaf_of rs) (leaf_of [])); slot = slots b }

-- after the second record was put
abbrev pub later : Image
later = two_leaves (second ∷ [])

-- before it, or after
abbrev pub both : Image → Type 0
both image = (image ≡ two_leaves []) ⊎ (image ≡ later)

-- the root directory's records in the later image
abbrev pub records_of : Arena → Link
records_of arena = step arena later (from_block 2) 1

-- the spot of leaf n of the root's records
abbrev pub leaf_spot : ℕ → Spot
leaf_spot n = record { place = place (Data 0) 33 n 2096; trail = 1 ∷ 0 ∷ [] }
