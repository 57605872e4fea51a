-- What stays true of blocks in memory.
use Rattle.std.specs.Prelude.{◌≡◌, ◌≢◌, ◌*◌, ◌<◌, ◌≤◌, ℕ, Bool, true, false, nat_eq, List, length}
use Rattle.fo_image.specs.declared.types.Pointer.TheVariants.{Local}
use Rattle.fo_image.specs.declared.types.Kind.TheVariants.{Dir}
use Rattle.fo_crash.specs.declared.slot.Slot.{Slot}
use Rattle.fo_crash.specs.declared.slot.Slot.TheVariants.{Pointer as To}
use Rattle.fo_crash.specs.Images.{target}
use Rattle.fo_crash.specs.Places.{place_below, super_place, root_place}
use Rattle.fo_ports.specs.Blocks.{slot_count, SlotFits, IsInner, IsFormed}
use Rattle.fo_ports_plain.specs.declared.home.Home.{Home}
use Rattle.fo_ports_plain.specs.declared.block.PlainBlock.{PlainBlock}
use Rattle.fo_ports_plain.specs.declared.wait.Wait.{Wait}
use Rattle.fo_ports_plain.specs.Plain.{block_at, slot_of, index_in, is_active, wait_at, pair_of}

-- where the source of a block hangs, by the number of the source
abbrev pub home_of : List PlainBlock → ℕ → Home
home_of blocks s = (block_at blocks s).home

-- A source hangs from this slot of a block of this index in this source.
pub record HangsAt (home : Home) (s n j : ℕ) : Type 0 where
  pub hangs : home.hangs ≡ true
  pub source : home.source ≡ s
  pub index : home.index ≡ n
  pub slot : home.slot ≡ j

-- Slot i of a block leads to another, of the same source, or of the source that hangs from that slot.
pub record InSource (i : ℕ) (above below : PlainBlock) (home : Home) : Type 0 where
  pub inner : IsInner above.place.kind → below.source ≡ above.source
  pub outer : (IsInner above.place.kind → ⊥) → HangsAt home above.source (index_in above.place) i

-- Slot i of block `a` leads to block `b`: it was made, is apart no more, stands at the place below, of a lower rank, and is of the
-- source of that place. Below block 1 it is of no later epoch.
pub record Linked (made a i b : ℕ) (above below : PlainBlock) (home : Home) : Type 0 where
  pub past : 1 < b
  pub was_made : b < made
  pub few : i < slot_count above.place.kind
  pub place : below.place ≡ place_below above.place i (slot_of above i)
  pub falls : below.place.rank < above.place.rank
  pub joined : below.apart ≡ false
  pub source : InSource i above below home
  pub ages : a ≢ 1 → below.epoch ≤ above.epoch

-- Every slot that leads on is a link.
abbrev pub Links : List PlainBlock → ℕ → Type 0
Links blocks made = (a i b : ℕ) → target (slot_of (block_at blocks a) i) ≡ Local b → Linked made a i b (block_at blocks a) (block_at blocks b) (home_of blocks (block_at blocks b).source)

-- A block's slots are such as its kind can spell.
abbrev pub IsSpelled : PlainBlock → Type 0
IsSpelled block = (i : ℕ) → i < slot_count block.place.kind → SlotFits block.place.kind i (slot_of block i)

-- the slot leads to this block, and is a pointer
abbrev pub leads_to : ℕ → Slot → Bool
leads_to root (To (Local at)) = nat_eq at root
leads_to root _ = false

-- block 1 is the super block
pub record IsSuper (root : ℕ) (block : PlainBlock) : Type 0 where
  pub place : block.place ≡ super_place
  pub way : leads_to root (slot_of block 0) ≡ true
  pub joined : block.apart ≡ false
  pub source : block.source ≡ 1
  pub ends : block.home.hangs ≡ false
  pub others : (i b : ℕ) → i ≢ 0 → target (slot_of block i) ≢ Local b

-- a root block that is kept
pub record IsKept (made b : ℕ) (block : PlainBlock) : Type 0 where
  pub past : 1 < b
  pub was_made : b < made
  pub place : block.place ≡ root_place
  pub joined : block.apart ≡ false
  pub source : block.source ≡ 2

-- A block that was not made yet.
pub record IsUnmade (block : PlainBlock) : Type 0 where
  pub joined : block.apart ≡ false
  pub stays : block.taken ≡ false
  pub goes_on : block.retired ≡ false
  pub loses : block.kept ≡ false
  pub ends : block.home.hangs ≡ false
  pub unused : (i : ℕ) → is_active (slot_of block i) ≡ false

-- A block that was made and put into no slot yet, and comes in the place of no other.
abbrev pub IsFirst : PlainBlock → Type 0
IsFirst block = (block.apart ≡ true) × (block.origin ≡ 0)

-- What is to come in the place of another block is of its source, and that one is apart no more.
pub record IsStead (made : ℕ) (block other : PlainBlock) : Type 0 where
  pub was_made : block.origin < made
  pub joined : other.apart ≡ false
  pub source : other.source ≡ block.source

-- Sources: each block that was made has one; block 1 alone has that of number 1. A source of which a block is the first hangs nowhere
-- yet, and is that of no other such block.
pub record Sources (blocks : List PlainBlock) (made : ℕ) : Type 0 where
  pub apart : (b : ℕ) → (block_at blocks b).apart ≡ true → (1 < b) × (b < made)
  pub numbered : (b : ℕ) → 1 < b → b < made → (1 < (block_at blocks b).source) × ((block_at blocks b).source < made)
  pub free : (b : ℕ) → IsFirst (block_at blocks b) → (home_of blocks (block_at blocks b).source).hangs ≡ false
  pub one : (b c : ℕ) → IsFirst (block_at blocks b) → IsFirst (block_at blocks c) → (block_at blocks b).source ≡ (block_at blocks c).source → b ≡ c
  pub steads : (b : ℕ) → (block_at blocks b).apart ≡ true → (block_at blocks b).origin ≢ 0 → IsStead made (block_at blocks b) (block_at blocks (block_at blocks b).origin)

pub record Sound (blocks : List PlainBlock) (made high root : ℕ) : Type 0 where
  pub super_at : IsSuper root (block_at blocks 1)
  pub root_kept : ((block_at blocks root).kept ≡ true) × ((block_at blocks root).epoch ≡ high)
  pub links : Links blocks made
  pub spelled : (a : ℕ) → 1 < a → IsSpelled (block_at blocks a)
  pub aged : (b : ℕ) → b < made → (block_at blocks b).epoch ≤ high
  pub tops : (b : ℕ) → (block_at blocks b).kept ≡ true → IsKept made b (block_at blocks b)
  pub rest : (b : ℕ) → made ≤ b → IsUnmade (block_at blocks b)
  pub sources : Sources blocks made

-- Each block that was made is of its format.
abbrev pub Formed : List PlainBlock → ℕ → Type 0
Formed blocks made = (b : ℕ) → 1 < b → b < made → ∥ IsFormed (block_at blocks b).place.kind (block_at blocks b).place.rank (block_at blocks b).bytes ∥₁

-- What is waited for was made, is a leaf of entries, and is in use.
pub record IsUsed (blocks : List PlainBlock) (made : ℕ) (wait : Wait) (k : ℕ) : Type 0 where
  pub was_made : wait.on < made
  pub entries : (block_at blocks wait.on).place.kind ≡ Dir 0
  pub used : is_active (slot_of (block_at blocks wait.on) (2 * k)) ≡ true

abbrev pub Waiting : List PlainBlock → ℕ → List Wait → Type 0
Waiting blocks made waits = (n k : ℕ) → n < length waits → pair_of (wait_at waits n) k ≡ true → IsUsed blocks made (wait_at waits n) k

-- Where nothing was queued, no slot that led to a block was taken out, and no root block is to be closed.
abbrev pub Queue : List PlainBlock → ℕ → Type 0
Queue blocks queued = queued ≡ 0 → (b : ℕ) → ((block_at blocks b).taken ≡ false) × ((block_at blocks b).retired ≡ false)

-- All that is kept of the blocks of a device.
pub record Well (blocks : List PlainBlock) (made high root : ℕ) (waits : List Wait) (queued : ℕ) : Type 0 where
  pub sound : Sound blocks made high root
  pub formed : Formed blocks made
  pub waiting : Waiting blocks made waits
  pub queue : Queue blocks queued
