-- Blocks in memory.
use Rattle.std.specs.Prelude.{◌≡◌, ◌≢◌, ◌⊎◌, ◌^◌, ◌-◌, ◌/◌, ◌<◌, ℕ, Bool, true, false, cond, nat_eq, nat_lt, ◌&&◌, List, [], ◌∷◌, length, slice_index_or, Option, Some, None}
use Rattle.fo_image.specs.declared.types.Kind.{Kind}
use Rattle.fo_image.specs.declared.types.Kind.TheVariants.{Data, Dir, Root}
use Rattle.fo_image.specs.declared.types.State.{State}
use Rattle.fo_image.specs.declared.types.State.TheVariants.{Free, Live}
use Rattle.fo_image.specs.declared.types.Score.{Score}
use Rattle.fo_image.specs.declared.types.Label.{Label}
use Rattle.fo_image.specs.declared.types.Pointer.TheVariants.{Nil}
use Rattle.fo_crash.specs.declared.slot.Slot.{Slot}
use Rattle.fo_crash.specs.declared.slot.Slot.TheVariants.{Pointer as To, Entry as Head, Prev}
use Rattle.fo_crash.specs.declared.place.Place.{Place}
use Rattle.fo_crash.specs.Images.{Content, Image, to_block, Reaches}
use Rattle.fo_crash.specs.Places.{place, place_below}
use Rattle.std.specs.Str.{bytes_eq}
use Rattle.fo_ports_plain.specs.declared.home.Home.{Home}
use Rattle.fo_ports_plain.specs.declared.block.PlainBlock.{PlainBlock}
use Rattle.fo_ports_plain.specs.declared.held.HeldBlock.{HeldBlock}
use Rattle.fo_ports_plain.specs.declared.wait.Wait.{Wait}

abbrev pub nowhere : Home
nowhere = record { hangs = false; source = 0; index = 0; slot = 0 }

-- what stands past the end of the list of blocks
abbrev pub no_block : PlainBlock
no_block = record { place = place (Data 0) 0 0 0; epoch = 0; apart = false; origin = 0; source = 0; home = nowhere; taken = false; retired = false; kept = false; bytes = []; slots = [] }

abbrev pub block_at : List PlainBlock → ℕ → PlainBlock
block_at blocks b = slice_index_or blocks b no_block

abbrev pub slot_of : PlainBlock → ℕ → Slot
slot_of block i = slice_index_or block.slots i (To Nil)

abbrev pub content_of : PlainBlock → Content
content_of block = record { bytes = block.bytes; slot = slot_of block }

-- what memory has
abbrev pub memory : List PlainBlock → Image
memory blocks = λ b. content_of (block_at blocks b)

abbrev pub label_of : State → ℕ → ℕ → PlainBlock → Label
label_of state epoch closing block = record { state = state; kind = block.place.kind; tag = block.place.tag; epoch = epoch; closing = closing }

-- whether a block is a data block that was made
abbrev pub is_live : ℕ → ℕ → Bool
is_live made b = nat_lt 1 b && nat_lt b made

-- the label of a block: all that were made are live
abbrev pub label_at : List PlainBlock → ℕ → ℕ → Label
label_at blocks made b = cond (is_live made b) (label_of Live (block_at blocks b).epoch (2 ^ 32 - 1) (block_at blocks b)) (label_of Free 0 0 (block_at blocks b))

-- A block that was made stands at its place.
pub record Stands (blocks : List PlainBlock) (made b : ℕ) (p : Place) : Type 0 where
  pub above : 0 < b
  pub was_made : b < made
  pub is : (block_at blocks b).place ≡ p

-- the addresses of data blocks, and of those that were given out
abbrev pub IsData : List PlainBlock → ℕ → Type 0
IsData blocks b = (1 < b) × (b < length blocks)

abbrev pub IsMade : ℕ → ℕ → Type 0
IsMade made b = (1 < b) × (b < made)

-- a block that was made and put into no slot yet; and the block in whose place it is to come
abbrev pub IsApart : List PlainBlock → ℕ → Type 0
IsApart blocks b = (block_at blocks b).apart ≡ true

pub record Instead (blocks : List PlainBlock) (y x : ℕ) : Type 0 where
  pub apart : (block_at blocks y).apart ≡ true
  pub origin : (block_at blocks y).origin ≡ x
  pub some : x ≢ 0

-- block 1, and the roots that are kept
abbrev pub IsTop : List PlainBlock → ℕ → Type 0
IsTop blocks t = (t ≡ 1) ⊎ ((block_at blocks t).kept ≡ true)

-- A slot that led to a block was taken out; this one hangs from that block, and from block 1 no more.
pub record TakenOut (blocks : List PlainBlock) (b : ℕ) : Type 0 where
  pub top : ℕ
  pub taken : (block_at blocks top).taken ≡ true
  pub below : Reaches (memory blocks) (to_block top) b
  pub gone : Reaches (memory blocks) (to_block 1) b → ⊥

-- A root block is to be closed alone, and hangs from block 1 no more.
pub record Retired (blocks : List PlainBlock) (b : ℕ) : Type 0 where
  pub is : (block_at blocks b).retired ≡ true
  pub gone : Reaches (memory blocks) (to_block 1) b → ⊥

abbrev pub Covered : List PlainBlock → ℕ → Type 0
Covered blocks b = TakenOut blocks b ⊎ Retired blocks b

abbrev pub is_active : Slot → Bool
is_active (Head e) = e.active
is_active (To p) = false
is_active (Prev epoch at) = false

abbrev pub no_wait : Wait
no_wait = record { at = 0; on = 0; pairs = [] }

abbrev pub wait_at : List Wait → ℕ → Wait
wait_at waits n = slice_index_or waits n no_wait

abbrev pub pair_of : Wait → ℕ → Bool
pair_of wait k = slice_index_or wait.pairs k false

-- Block `a` waits for an entry of block `on`: its pair is on a list of pairs.
pub record Awaits (waits : List Wait) (a on j : ℕ) : Type 0 where
  pub number : ℕ
  pub within : number < length waits
  pub is_at : (wait_at waits number).at ≡ a
  pub is_on : (wait_at waits number).on ≡ on
  pub pair : pair_of (wait_at waits number) (j / 2) ≡ true

-- One block is put in place of another.
pub record Updates (at : ℕ) (block : PlainBlock) (old new : List PlainBlock) : Type 0 where
  pub here : block_at new at ≡ block
  pub others : (b : ℕ) → b ≢ at → block_at new b ≡ block_at old b
  pub as_long : length new ≡ length old

-- the index of the place below slot i
abbrev pub index_below : Place → ℕ → ℕ
index_below p i = (place_below p i (To Nil)).index

-- the index that counts the entries of a block among those of its source
abbrev pub index_in : Place → ℕ
index_in p = by p.kind
  where
    by : Kind → ℕ
    by (Data level) = p.index
    by (Dir level) = p.index
    by Root = 0

-- the block is held under this score and kind
abbrev pub is_under : Score → ℕ → Score → ℕ → Bool
is_under score kind other other_kind = bytes_eq score.0 other.0 && nat_eq kind other_kind

-- what is held under a score and kind: the last that was given
abbrev pub held_in : List HeldBlock → Score → ℕ → Option (List ℕ)
held_in [] score kind = None
held_in (h ∷ held) score kind = cond (is_under h.score h.kind score kind) (Some h.bytes) (held_in held score kind)
