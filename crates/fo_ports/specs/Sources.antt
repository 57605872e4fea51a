-- Sources of bytes over blocks: what is read through leaves, and what the calls on a source do to the blocks.
use Rattle.std.specs.Prelude.{◌≡◌, ◌≢◌, ◌⊎◌, ◌+◌, ◌-◌, ◌*◌, ◌/◌, ◌%◌, ◌^◌, ◌<◌, ◌≤◌, ◌↔◌, ℕ, Bool, true, false, cond, nat_le, List, ◌++◌, length, map, take, slice_index, Option, Some, None, MatchOption}
use Rattle.std.specs.List.{Contains, range_with_len}
use Rattle.fo_meta.specs.of_image.declared.types.Kind.{Kind}
use Rattle.fo_meta.specs.of_image.declared.types.Score.{Score}
use Rattle.fo_meta.specs.of_image.declared.types.Kind.TheVariants.{Data, Dir, Root}
use Rattle.fo_meta.specs.of_image.declared.types.State.TheVariants.{Live}
use Rattle.fo_meta.specs.of_image.declared.types.Pointer.{Pointer}
use Rattle.fo_meta.specs.of_image.declared.types.Pointer.TheVariants.{Local}
use Rattle.fo_meta.specs.of_image.Usable.{is_usable}
use Rattle.fo_crash.specs.declared.place.Place.{Place}
use Rattle.fo_crash.specs.Images.{Image, SameContent, Reaches, to_block}
use Rattle.fo_sparse.specs.Written.{resized}
use Rattle.fo_ports.specs.Blocks.{blank, zero_bytes}
use Rattle.fo_ports.specs.State.{State, KeepsNumbers, AddsNoWait, IsRooted, none}

-- What stays of a source: the kind, tag and rank of its leaves, the generation of its entry, and the length up to which it can grow.
pub record Form : Type 0 where
  pub kind : Kind
  pub tag : ℕ
  pub rank : ℕ
  pub generation : ℕ
  pub limit : ℕ

-- the source is one of entries
abbrev pub is_dir : Kind → Bool
is_dir (Dir level) = true
is_dir (Data level) = false
is_dir Root = false

-- A byte of a leaf: as memory has it where the leaf stands on the device, as it is held where the leaf is named by its score, and 0
-- where there is no leaf.
abbrev pub byte_at : Image → Option ℕ → Option (List ℕ) → ℕ → ℕ
byte_at now (Some at) held k = slice_index ((now at).bytes) k
byte_at now None (Some bytes) k = slice_index bytes k
byte_at now None None k = 0

-- the bytes at all places below a length, by the leaves that stand on the device and those that are held
abbrev pub source_bytes : (ℕ → Option ℕ) → (ℕ → Option (List ℕ)) → Image → ℕ → List ℕ
source_bytes leaves held now len = map (λ k. byte_at now (leaves (k / 8192)) (held (k / 8192)) (k % 8192)) (range_with_len 0 len)

-- Under a score that names a block of the source nothing is held.
abbrev pub Lacks : (named : Score → ℕ → Type 0) (held : Score → ℕ → Option (List ℕ)) → Type 0
Lacks named held = (score : Score) × (kind : ℕ) × named score kind × (held score kind ≡ None)

-- the least depth of a tree of blocks of 8192 bytes, with 409 pointers in a block, that has room for so many bytes, up to 2^47
abbrev pub depth_for : ℕ → ℕ
depth_for size = cond (nat_le size 8192) 0 (cond (nat_le size (8192 * 409)) 1 (cond (nat_le size (8192 * 409 ^ 2)) 2 (cond (nat_le size (8192 * 409 ^ 3)) 3 4)))

-- how many blocks stand on the way to a leaf of a source that ends there, the leaf among them
abbrev pub way_for : ℕ → ℕ
way_for end = depth_for end + 1

-- how many blocks so many bytes of a source that ends there touch at most: a leaf for each 8192 bytes, blocks of pointers above
-- these, and the ways to both ends and to the leaf that was the last
abbrev pub most_for : (end n : ℕ) → ℕ
most_for end n = n / 8192 + n / 2 ^ 21 + 3 * way_for end

-- how many blocks it takes to own leaf i: the way to it, and where the source grows that to its last leaf
abbrev pub most_to_own : (size i : ℕ) → ℕ
most_to_own size i = cond (nat_le (8192 * (i + 1)) size) (way_for size) (2 * way_for (8192 * (i + 1)))

-- So many blocks are enough to own leaf i: one less where the source's top is of the current epoch.
abbrev pub IsEnough : (current : Type 0) → (size i blocks : ℕ) → Type 0
IsEnough current size i blocks = (most_to_own size i ≤ blocks) ⊎ (current × (most_to_own size i ≤ blocks + 1))

-- What a call on a source finds is what memory has: the device tells, or pins are left for the blocks on the way, or these were
-- prepared.
abbrev pub Finds : (tells : Type 0) (needed left : ℕ) (prepared : Type 0) → Type 0
Finds tells needed left prepared = tells ⊎ ((needed ≤ left) ⊎ prepared)

-- Each leaf that has some of these bytes stands on the device.
abbrev pub AreLocal : (leaves : ℕ → Option ℕ) → (size offset n : ℕ) → Type 0
AreLocal leaves size offset n = (k : ℕ) → offset ≤ k → k < offset + n → k < size → (b : ℕ) × (leaves (k / 8192) ≡ Some b)

-- In memory a block hangs from one that was made and put into no slot yet, which stands at a place and is not to be closed.
pub record HangsApart (s : State) (at : ℕ) : Type 0 where
  pub top : ℕ
  pub is_apart : s.apart top
  pub place : Place
  pub stands : s.stands top place
  pub uncovered : s.covered top → ⊥
  pub reaches : Reaches s.now (to_block top) at

-- A block hangs from block 1, or from such a one: something may be put into it.
abbrev pub IsHung : State → ℕ → Type 0
IsHung s at = Reaches s.now (to_block 1) at ⊎ HangsApart s at

-- A block was made to come in the place of that to which an entry leads, if to any. What the entry leads to is an older block, or hangs
-- from this one: so no slot that waits leaves with it.
pub record IsInstead (s : State) (from : Pointer) (at : ℕ) : Type 0 where
  pub is_apart : s.apart at
  pub place : Place
  pub stands : s.stands at place
  pub uncovered : s.covered at → ⊥
  pub instead : (x : ℕ) → s.instead at x ↔ (from ≡ Local x)
  pub live : (x : ℕ) → from ≡ Local x → (s.label x).state ≡ Live
  pub keeps : (x : ℕ) → from ≡ Local x → ((s.label x).epoch < s.high) ⊎ Reaches s.now (to_block at) x

-- A source with this top may come in the place of what its entry leads to: that is its top, which was put, or its top was made for it.
abbrev pub ComesFor : State → (top from : Pointer) → Type 0
ComesFor s top from = ((top ≡ from) × ((b : ℕ) → top ≡ Local b → s.apart b → ⊥)) ⊎ ((at : ℕ) × (top ≡ Local at) × IsInstead s from at)

-- A block stays in place: its slots where it is no leaf of entries, how long it is, its label and its places stay, it hangs in memory and
-- from block 1 where it did, one that was put into no slot yet was at most linked into the tree, no removal is to close it that was not,
-- and nothing more was made to come in its place.
pub record StaysInPlace (old new : State) (at : ℕ) : Type 0 where
  pub same_slots : ((old.label at).kind ≡ Dir 0) ⊎ ((j : ℕ) → (new.now at).slot j ≡ (old.now at).slot j)
  pub same_length : length ((new.now at).bytes) ≡ length ((old.now at).bytes)
  pub same_label : new.label at ≡ old.label at
  pub same_places : IsHung old at → (p : Place) → old.stands at p → new.stands at p
  pub in_tree : Reaches old.now (to_block 1) at → Reaches new.now (to_block 1) at
  pub hung : IsHung old at → IsHung new at
  pub linked : old.apart at → new.apart at ⊎ Reaches new.now (to_block 1) at
  pub uncovered : (old.covered at → ⊥) → new.covered at → ⊥
  pub instead : (b : ℕ) → new.instead b at → old.instead b at

-- A block that may be prepared: pinned, live, and with a label of this tag. Over a device that tells nothing, too, two sources of two
-- tags have none in common.
pub record IsReady (tag : ℕ) (on : State) (at : ℕ) : Type 0 where
  pub is_pinned : on.pinned at
  pub live : (on.label at).state ≡ Live
  pub tagged : (on.label at).tag ≡ tag

-- A block stays prepared: it stays pinned, and its label, its slots where it is no leaf of entries, and how long it is stay.
pub record StaysReady (old new : State) (at : ℕ) : Type 0 where
  pub is_pinned : new.pinned at
  pub same_label : new.label at ≡ old.label at
  pub same_slots : ((old.label at).kind ≡ Dir 0) ⊎ ((j : ℕ) → (new.now at).slot j ≡ (old.now at).slot j)
  pub same_length : length ((new.now at).bytes) ≡ length ((old.now at).bytes)

-- A block keeps its bytes, or is a leaf that ends within this length.
abbrev pub KeepsBytes : (ℕ → Option ℕ) → ℕ → Image → Image → ℕ → Type 0
KeepsBytes leaves size old new at = ((new at).bytes ≡ (old at).bytes) ⊎ ((i : ℕ) × (leaves i ≡ Some at) × (8192 * (i + 1) ≤ size))

-- A block was given out: it was not live, and is.
abbrev pub Made : (old new : State) → ℕ → Type 0
Made old new b = ((old.label b).state ≢ Live) × ((new.label b).state ≡ Live)

-- All was settled in between, or blocks were closed: a slot of this block that waited was cleared, or the block has the label of one that was
-- live and isn't.
abbrev pub IsRested : (old new : State) → ℕ → Type 0
IsRested old new b = ((j : ℕ) × old.clearing b j × (new.clearing b j → ⊥)) ⊎ ((x : ℕ) × ((old.label x).state ≡ Live) × ((new.label x).state ≢ Live) × (b ≡ old.label_block x))

-- Beside what settling and closing left to be written, the blocks that are dirty now and weren't are among these. So are each block that was
-- given out, with the block of its label, and each in which a slot begins to wait.
pub record DirtiesIn (blocks : List ℕ) (old new : State) : Type 0 where
  pub dirty : (b : ℕ) → new.dirty b → old.dirty b ⊎ (Contains blocks b ⊎ IsRested old new b)
  pub made : (b : ℕ) → Made old new b → Contains blocks b × Contains blocks (new.label_block b)
  pub clearing : (b j : ℕ) → new.clearing b j → old.clearing b j ⊎ Contains blocks b
  pub places : (b : ℕ) → new.label_block b ≡ old.label_block b

-- They are among so many at most, with these.
pub record Dirties (most : ℕ) (counted : ℕ → Type 0) (old new : State) : Type 0 where
  pub blocks : List ℕ
  pub few : length blocks ≤ most
  pub within : DirtiesIn blocks old new
  pub each : (b : ℕ) → counted b → Contains blocks b

-- Beside these blocks so many more at most, with this one.
pub record AddsDirty (most : ℕ) (blocks : List ℕ) (at : ℕ) (old new : State) : Type 0 where
  pub more : List ℕ
  pub few : length more ≤ most
  pub within : DirtiesIn (more ++ blocks) old new
  pub here : Contains (more ++ blocks) at

-- A block that was given out, or one of these that is of the current epoch and has a label of this tag.
abbrev pub Touched : (old new : State) → (tag : ℕ) → (ℕ → Type 0) → ℕ → Type 0
Touched old new tag mine b = Made old new b ⊎ (mine b × ((old.label b).epoch ≡ old.high) × ((old.label b).tag ≡ tag))

-- An image is one of before, but for these blocks; each slot of a block that was there before is that of the image of before, or is what
-- memory has now; and no path from a top led to a block that was given out.
pub record Undone (touched : ℕ → Type 0) (old new : State) (image : Image) : Type 0 where
  pub other : Image
  pub was : old.may_leave other
  pub same : (b : ℕ) → (touched b → ⊥) → SameContent (image b) (other b)
  pub slots : (b j : ℕ) → (Made old new b → ⊥) → ((image b).slot j ≡ (other b).slot j) ⊎ ((image b).slot j ≡ (new.now b).slot j)
  pub apart : (t b : ℕ) → old.tops t → Made old new b → Reaches other (to_block t) b → ⊥

-- A block that was given out: by its label it was usable, so it stood nowhere (the law `standing`), it was no top, is of the current epoch
-- and of this tag, pinned, and in every image what memory has. (That no image led to it is said of each of them, by `Undone`.)
pub record IsMade (tag : ℕ) (old new : State) (b : ℕ) : Type 0 where
  pub free : is_usable old.low (old.label b) ≡ true
  pub was : (b ≢ 1) × (old.tells → old.tops b → ⊥)
  pub labelled : ((new.label b).epoch ≡ old.high) × ((new.label b).tag ≡ tag)
  pub is_one : new.is_block b
  pub is_pinned : new.pinned b
  pub is_fresh : new.fresh b

-- A block that was not given out keeps its label and its marks.
pub record StaysMarked (old new : State) (b : ℕ) : Type 0 where
  pub label : new.label b ≡ old.label b
  pub marks : (old.pinned b → new.pinned b) × (old.sealed b → new.sealed b) × (old.fresh b → new.fresh b)

-- One of these blocks, or one in whose place one of these was made to come.
abbrev pub Stead : State → (ℕ → Type 0) → ℕ → Type 0
Stead s mine x = mine x ⊎ ((y : ℕ) × mine y × s.instead y x)

-- A call on a source with these blocks changes blocks that it gives out, and those of its own that are inner ones, of the current
-- epoch and of its tag, in memory and in every image; all else stays. Only blocks of the source are to be closed, and all are that leave
-- the tree. Only blocks of the source are put below what was given out, and what was given out comes in the place of these alone, or of
-- what they came in the place of. What hangs in memory at the end hung before, or was given out. No device call is made.
pub record Changes (tag : ℕ) (mine inner : ℕ → Type 0) (old new : State) : Type 0 where
  pub memory : (b : ℕ) → (Touched old new tag inner b → ⊥) → SameContent (new.now b) (old.now b)
  pub images : (image : Image) → new.may_leave image → Undone (Touched old new tag inner) old new image
  pub made : (b : ℕ) → Made old new b → IsMade tag old new b
  pub others : (b : ℕ) → (Made old new b → ⊥) → StaysMarked old new b
  pub apart : (b : ℕ) → (Made old new b → ⊥) → (new.apart b → old.apart b) × (old.apart b → new.apart b ⊎ mine b)
  pub places : old.tells → (b : ℕ) (p : Place) → (Made old new b → ⊥) → (mine b → ⊥) → (new.covered b → ⊥) → IsRooted new b → old.stands b p → new.stands b p
  pub rooted : old.tells → (b : ℕ) → (Made old new b → ⊥) → IsRooted new b → IsRooted old b
  pub instead : (b x : ℕ) → new.instead b x → old.instead b x ⊎ (Made old new b × Stead old mine x)
  pub covers : (b : ℕ) → (old.covered b → new.covered b) × ((old.covered b → ⊥) → (mine b → ⊥) → new.covered b → ⊥)
  pub leaves : old.tells → (b : ℕ) → Reaches old.now (to_block 1) b → (Reaches new.now (to_block 1) b → ⊥) → new.covered b
  pub in_tree : old.tells → (b : ℕ) → (mine b → ⊥) → Reaches old.now (to_block 1) b → Reaches new.now (to_block 1) b
  pub waits : (a on j : ℕ) → (Made old new a → ⊥) → (Made old new on → ⊥) → old.waits a on j → new.waits a on j
  pub no_wait : AddsNoWait none old new
  pub clearing : (b j : ℕ) → new.clearing b j → (Made old new b → ⊥) × old.clearing b j
  pub goes_on : (b j : ℕ) → (Made old new b → ⊥) → old.clearing b j → new.clearing b j
  pub dirty : (b : ℕ) → new.dirty b → old.dirty b ⊎ (Touched old new tag mine b ⊎ ((x : ℕ) × Made old new x × (b ≡ new.label_block x)))
  pub moments : new.moments ≡ old.moments
  pub left : (k : ℕ) (image : Image) → new.left k image → old.left k image
  pub pins : new.pins_left ≡ old.pins_left
  pub usable : old.usable + new.spare ≡ new.usable + old.spare
  pub numbers : KeepsNumbers old new

-- What a source has over blocks.
pub record Leaves : Type 1 where
  -- the address of each leaf, None where no local leaf stands; and the bytes of each leaf that is named by its score, as they are held
  pub at : ℕ → Option ℕ
  pub held : ℕ → Option (List ℕ)
  -- a block of the source is named by this score, under this kind
  pub named : Score → ℕ → Type 0
  -- the bytes that memory reads through the source
  pub bytes : List ℕ
  -- the source's blocks: its leaves and what leads to them
  pub owns : ℕ → Type 0
  -- so many bytes from an offset on are prepared: the blocks on the way to them are pinned
  pub prepared : ℕ → ℕ → Type 0
  -- the block from which all others hang is of the current epoch, so owning a leaf takes one block less
  pub current : Type 0

-- A source was only looked at, over a device that tells or not.
pub record SameLeaves (tells : Type 0) (old new : Leaves) : Type 0 where
  pub bytes : tells → new.bytes ≡ old.bytes
  pub leaves : tells → (i : ℕ) → (new.at i ≡ old.at i) × (new.held i ≡ old.held i)
  pub owns : tells → (b : ℕ) → new.owns b ↔ old.owns b
  pub still : (o n : ℕ) → old.prepared o n → new.prepared o n
  pub current : old.current → new.current

-- A source was changed: it has its old blocks and all that were given out, or fewer of the old ones; what was prepared stays so.
pub record Grows (old_on new_on : State) (old new : Leaves) : Type 0 where
  pub owns : old_on.tells → (b : ℕ) → (new.owns b → old.owns b ⊎ Made old_on new_on b) × (Made old_on new_on b → new.owns b)
  pub still : (o n : ℕ) → old.prepared o n → new.prepared o n

-- A source of data that holds no records, whose bytes are put by `write`.
abbrev pub IsPlain : Form → Type 0
IsPlain form = (form.kind ≡ Data 0) × (form.rank % 32 ≢ 16)

-- A plain source ends within leaf j: what stands behind its end there is zeroed before the source grows.
abbrev pub EndsWithin : Form → (size j : ℕ) → Type 0
EndsWithin form size j = IsPlain form × (8192 * j < size) × (size < 8192 * (j + 1))

-- The bytes of leaf j are what they were; but where the source ended within the leaf, zeros stand behind that end.
pub record IsCut (form : Form) (size j : ℕ) (now was : List ℕ) : Type 0 where
  pub whole : (EndsWithin form size j → ⊥) → now ≡ was
  pub cut : EndsWithin form size j → now ≡ resized (take (size - 8192 * j) was) 8192

-- A leaf stays at its address; or it is held as it was, and where that was zeros it may be nothing now.
pub record StaysLeaf (old new : Leaves) (j : ℕ) : Type 0 where
  pub at : new.at j ≡ old.at j
  pub held : (new.held j ≡ old.held j) ⊎ ((old.held j ≡ Some zero_bytes) × (new.held j ≡ None))

-- The last leaf of a source that grows was given out: it was of an older epoch, or held under a score with the source's end within it.
-- It has what it had, with zeros behind that end.
pub record Renewed (form : Form) (size j : ℕ) (old_on new_on : State) (old new : Leaves) : Type 0 where
  pub last : (8192 * j < size) × (size ≤ 8192 * (j + 1))
  pub block : ℕ
  pub is : (new.at j ≡ Some block) × (new.held j ≡ None)
  pub made : Made old_on new_on block
  pub content : MatchOption (old.at j) (MatchOption (old.held j) ⊥ (λ bytes. EndsWithin form size j × IsCut form size j ((new_on.now block).bytes) bytes)) (λ b. ((old_on.label b).epoch < old_on.high) × IsCut form size j ((new_on.now block).bytes) ((old_on.now b).bytes) × ((k : ℕ) → (new_on.now block).slot k ≡ (old_on.now b).slot k))

-- Leaf i is owned: at this address, of the current epoch, pinned and whole; it is what was there, or was given out. The other leaves
-- stay, but for the last one where the source grows.
pub record Owned (form : Form) (size i at : ℕ) (old_on new_on : State) (old new : Leaves) : Type 0 where
  pub is : new.at i ≡ Some at
  pub others : old_on.tells → (j : ℕ) → j ≢ i → StaysLeaf old new j ⊎ ((size < 8192 * (i + 1)) × Renewed form size j old_on new_on old new)
  pub content : MatchOption (old.at i) (MatchOption (old.held i) (SameContent (new_on.now at) (blank form.kind)) (λ bytes. IsCut form size i ((new_on.now at).bytes) bytes)) (λ b. IsCut form size i ((new_on.now at).bytes) ((old_on.now b).bytes) × ((k : ℕ) → (new_on.now at).slot k ≡ (old_on.now b).slot k))
  pub copied : MatchOption (old.at i) (Made old_on new_on at) (λ b. ((b ≡ at) × ((old_on.label b).epoch ≡ old_on.high)) ⊎ (((old_on.label b).epoch < old_on.high) × Made old_on new_on at))
  pub label : ((new_on.label at).state ≡ Live) × ((new_on.label at).kind ≡ form.kind) × ((new_on.label at).tag ≡ form.tag) × ((new_on.label at).epoch ≡ new_on.high)
  pub ready : new.owns at × new_on.pinned at × (length ((new_on.now at).bytes) ≡ 8192)

-- Beside its blocks that are no leaves, a source that grows to the end of leaf i changes the leaf within which it ended.
abbrev pub MayZero : Form → (size i : ℕ) → State → Leaves → ℕ → Type 0
MayZero form size i on leaves b = (leaves.owns b × ((on.label b).kind ≢ form.kind)) ⊎ ((j : ℕ) × EndsWithin form size j × (size < 8192 * (i + 1)) × (leaves.at j ≡ Some b))

-- What a source stands on stays in place.
pub record Undisturbed (leaves : Leaves) (size : ℕ) (old new : State) : Type 0 where
  pub each : (at : ℕ) → leaves.owns at → StaysInPlace old new at × KeepsBytes leaves.at size old.now new.now at
