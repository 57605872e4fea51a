-- Images of a device, and what is found in one along a path of slots.
use Rattle.std.specs.Prelude.{◌≡◌, ◌≢◌, ℕ, ◌*◌, ◌/◌, ◌%◌, suc, zero, cond, List, [], ◌∷◌, ◌++◌, slice_index_or, if◌then◌else◌, nat_eq}
use Rattle.fo_image.specs.declared.types.Score.{Score}
use Rattle.fo_image.specs.declared.types.Kind.{Kind}
use Rattle.fo_image.specs.declared.types.Kind.TheVariants.{Data, Dir, Root}
use Rattle.fo_image.specs.declared.types.Pointer.{Pointer}
use Rattle.fo_image.specs.declared.types.Pointer.TheVariants.{Nil, Local, Score as Held}
use Rattle.fo_crash.specs.declared.slot.Slot.{Slot}
use Rattle.fo_crash.specs.declared.slot.Slot.TheVariants.{Pointer as To, Entry as Head, Prev}

-- what a block holds: its slots by number, and the bytes that spell no slot
pub record Content : Type 0 where
  pub bytes : List ℕ
  pub slot : ℕ → Slot

-- one content for each block of the device: block 1 is the super block, whose slot 0 leads to the active root
abbrev pub Image : Type 0
Image = ℕ → Content

-- what an arena holds under each kind and score
abbrev pub Arena : Type 0
Arena = Kind → Score → Content

abbrev pub nothing : Content
nothing = record { bytes = []; slot = λ _. To Nil }

-- Where a slot leads within one tree: the root block before is not followed.
abbrev pub target : Slot → Pointer
target (To p) = p
target (Head e) = e.top
target (Prev epoch at) = Nil

-- all of a slot but where it leads
abbrev pub note : Slot → Slot
note (To p) = To Nil
note (Head e) = Head (record e { top = Nil })
note (Prev epoch at) = Prev epoch at

-- a slot with the kind of the block that it leads to
pub record Link : Type 0 where
  pub kind : Kind
  pub slot : Slot

-- the kind of the block at the top of a source, or of the root block
abbrev pub kind_of_top : Slot → Kind
kind_of_top (Head e) = cond e.dir (Dir e.depth) (Data e.depth)
kind_of_top (To p) = Root
kind_of_top (Prev epoch at) = Root

-- the kind of the block to which a slot of a block of this kind leads
abbrev pub kind_below : Kind → Slot → Kind
kind_below (Data zero) s = Data zero
kind_below (Data (suc level)) s = Data level
kind_below (Dir zero) s = kind_of_top s
kind_below (Dir (suc level)) s = Dir level
kind_below Root s = kind_of_top s

-- the content that a pointer to a block of this kind means
abbrev pub meant : Arena → Image → Kind → Pointer → Content
meant arena image kind Nil = nothing
meant arena image kind (Local at) = image at
meant arena image kind (Held score) = arena kind score

-- the content to which a link leads
abbrev pub found : Arena → Image → Link → Content
found arena image w = meant arena image w.kind (target w.slot)

-- slot i of the block to which a link leads
abbrev pub step : Arena → Image → Link → ℕ → Link
step arena image w i = record { kind = kind_below w.kind ((found arena image w).slot i); slot = (found arena image w).slot i }

-- the link that a path of slot numbers comes to
abbrev pub goes : Arena → Image → Link → List ℕ → Link
goes arena image w [] = w
goes arena image w (i ∷ path) = goes arena image (step arena image w i) path

-- the bytes of the block to which a path leads
abbrev pub bytes_at : Arena → Image → Link → List ℕ → List ℕ
bytes_at arena image w path = (found arena image (goes arena image w path)).bytes

-- the way from block 1 or from a root block
abbrev pub to_block : ℕ → Slot
to_block at = To (Local at)

abbrev pub from_block : ℕ → Link
from_block at = record { kind = Root; slot = to_block at }

-- A path finds the same in two images: the same slot but for its address, and the same bytes below it.
pub record Same (arena : Arena) (image : Image) (w : Link) (other : Image) (v : Link) (path : List ℕ) : Type 0 where
  pub notes : note ((goes arena image w path).slot) ≡ note ((goes arena other v path).slot)
  pub bytes : bytes_at arena image w path ≡ bytes_at arena other v path

-- The trees below two links are the same: every path finds the same.
pub record SameTree (arena : Arena) (image : Image) (w : Link) (other : Image) (v : Link) : Type 0 where
  pub each : (path : List ℕ) → Same arena image w other v path

-- The two contents are the same.
pub record SameContent (c d : Content) : Type 0 where
  pub bytes : c.bytes ≡ d.bytes
  pub slots : (i : ℕ) → c.slot i ≡ d.slot i

-- The two images have the same content in each block.
pub record SameImage (image other : Image) : Type 0 where
  pub each : (at : ℕ) → SameContent (image at) (other at)

-- the slot that a path through blocks of the device alone comes to
abbrev pub local : Image → Pointer → Content
local image Nil = nothing
local image (Local at) = image at
local image (Held score) = nothing

abbrev pub walk : Image → Slot → List ℕ → Slot
walk image s [] = s
walk image s (i ∷ path) = walk image ((local image (target s)).slot i) path

-- A path from a slot leads to this block.
pub record Reaches (image : Image) (s : Slot) (at : ℕ) : Type 0 where
  pub path : List ℕ
  pub leads : target (walk image s path) ≡ Local at

-- What an arena holds leads to no block of the device.
pub record IsArena (arena : Arena) : Type 0 where
  pub apart : (kind : Kind) (score : Score) (i at : ℕ) → target ((arena kind score).slot i) ≢ Local at

-- the slot numbers on the way to leaf k of a source of this depth, before a further path
abbrev pub way : ℕ → ℕ → List ℕ → List ℕ
way zero k path = path
way (suc depth) k path = way depth (k / 409) (k % 409 ∷ path)

abbrev pub depth_of : Slot → ℕ
depth_of (Head e) = e.depth
depth_of (To p) = 0
depth_of (Prev epoch at) = 0

-- the path to leaf k of the source of an entry
abbrev pub leaf_path : Slot → ℕ → List ℕ
leaf_path s k = way (depth_of s) k []

-- byte j of the source of an entry
abbrev pub source_byte : Arena → Image → Link → ℕ → ℕ
source_byte arena image w j = slice_index_or (bytes_at arena image w (leaf_path w.slot (j / 8192))) (j % 8192) 0

-- entry j of a directory's source of entries
abbrev pub entry_of : Arena → Image → Link → ℕ → Link
entry_of arena image w j = goes arena image w (leaf_path w.slot (j / 204) ++ (j % 204) ∷ [])

-- the first entry of the slot pair at the end of a trail of slot pairs
abbrev pub file_link : Arena → Image → Link → List ℕ → Link
file_link arena image w [] = w
file_link arena image w (pair ∷ trail) = file_link arena image (entry_of arena image w (2 * pair)) trail

-- the image with another slot, with other bytes, and with another block
abbrev pub with_slot : Image → ℕ → ℕ → Slot → Image
with_slot image at i s = λ b. if nat_eq b at then record { bytes = (image b).bytes; slot = λ j. if nat_eq j i then s else (image b).slot j } else image b

abbrev pub with_bytes : Image → ℕ → List ℕ → Image
with_bytes image at bytes = λ b. if nat_eq b at then record { bytes = bytes; slot = (image b).slot } else image b

abbrev pub with_block : Image → ℕ → Content → Image
with_block image at c = λ b. if nat_eq b at then c else image b
