-- What the private calls on blocks in memory do.
use Rattle.std.specs.Prelude.{◌≡◌, ◌≢◌, ◌⊎◌, ◌-◌, ◌*◌, ◌^◌, ◌<◌, ◌≤◌, ℕ, Bool, true, false, cond, nat_eq, List, length, slice_set}
use Rattle.fo_image.specs.declared.types.Pointer.{Pointer}
use Rattle.fo_image.specs.declared.types.Pointer.TheVariants.{Nil, Local, Score as Held}
use Rattle.fo_crash.specs.declared.slot.Slot.{Slot}
use Rattle.fo_crash.specs.Images.{target}
use Rattle.fo_crash.specs.Places.{place_below, FitsAt}
use Rattle.fo_ports.specs.Blocks.{IsInner, slot_count, SlotFits}
use Rattle.fo_ports_plain.specs.declared.block.PlainBlock.{PlainBlock}
use Rattle.fo_ports_plain.specs.declared.wait.Wait.{Wait}
use Rattle.fo_ports_plain.specs.Plain.{block_at, slot_of, index_in, is_active, wait_at, pair_of, IsMade}
use Rattle.fo_ports_plain.specs.Sound.{IsFirst, HangsAt, InSource, home_of}

-- a block that may get another index: it was put nowhere, comes in the place of none, and leads nowhere
abbrev pub IsFree : PlainBlock → Type 0
IsFree block = IsFirst block × ((j x : ℕ) → target (slot_of block j) ≢ Local x)

-- A slot of block `at` is put, and the block below it is put at an index of a source; `at` may get another source and origin.
pub record PutsLink (at i below : ℕ) (s : Slot) (index under source origin : ℕ) (old new : List PlainBlock) : Type 0 where
  pub as_long : length new ≡ length old
  pub under_is : block_at new below ≡ record (block_at old below) { place = record ((block_at old below).place) { index = index }; apart = false; origin = 0; source = under }
  pub at_is : block_at new at ≡ record (block_at old at) { slots = slice_set ((block_at old at).slots) i s; source = source; origin = origin }
  pub put : slot_of (block_at new at) i ≡ s
  pub others : (b : ℕ) → b ≢ at → b ≢ below → block_at new b ≡ block_at old b

-- The block below comes to be of the source of a block of pointers.
pub record JoinsInner (at i below : ℕ) (old new : List PlainBlock) : Type 0 where
  pub inner : IsInner (block_at old at).place.kind
  pub not_raised : i ≡ 0 → IsFree (block_at old at) → ⊥
  pub under : (block_at new below).source ≡ (block_at old at).source
  pub source : (block_at new at).source ≡ (block_at old at).source
  pub origin : (block_at new at).origin ≡ (block_at old at).origin
  pub homes : (s : ℕ) → home_of new s ≡ home_of old s

-- The source of the block below hangs from the slot.
pub record JoinsOuter (at i below : ℕ) (old new : List PlainBlock) : Type 0 where
  pub outer : IsInner (block_at old at).place.kind → ⊥
  pub under : (block_at new below).source ≡ (block_at old below).source
  pub source : (block_at new at).source ≡ (block_at old at).source
  pub origin : (block_at new at).origin ≡ (block_at old at).origin
  pub hangs : HangsAt (home_of new (block_at old below).source) (block_at old at).source (index_in (block_at old at).place) i
  pub homes : (s : ℕ) → s ≢ (block_at old below).source → home_of new s ≡ home_of old s

-- A new block of pointers is raised over the block below: it is of that one's source, and comes in the place of it, or of what it comes
-- in the place of.
pub record Raises (at i below : ℕ) (old new : List PlainBlock) : Type 0 where
  pub inner : IsInner (block_at old at).place.kind
  pub first : i ≡ 0
  pub free : IsFree (block_at old at)
  pub under : (block_at new below).source ≡ (block_at old below).source
  pub source : (block_at new at).source ≡ (block_at old below).source
  pub origin : (block_at new at).origin ≡ cond (block_at old below).apart (block_at old below).origin below
  pub homes : (s : ℕ) → home_of new s ≡ home_of old s

-- A slot that leads to a block was put, block by block.
pub record Linking (at i below : ℕ) (s : Slot) (old new : List PlainBlock) : Type 0 where
  pub as_long : length new ≡ length old
  pub place : (block_at new below).place ≡ place_below (block_at old at).place i s
  pub places : (b : ℕ) → b ≢ below → (block_at new b).place ≡ (block_at old b).place
  pub kinds : (b : ℕ) → ((block_at new b).place.kind ≡ (block_at old b).place.kind) × ((block_at new b).place.tag ≡ (block_at old b).place.tag) × ((block_at new b).place.rank ≡ (block_at old b).place.rank)
  pub same : (b : ℕ) → ((block_at new b).epoch ≡ (block_at old b).epoch) × ((block_at new b).bytes ≡ (block_at old b).bytes) × ((block_at new b).taken ≡ (block_at old b).taken) × ((block_at new b).kept ≡ (block_at old b).kept) × ((block_at new b).retired ≡ (block_at old b).retired)
  pub put : slot_of (block_at new at) i ≡ s
  pub slots : (b j : ℕ) → (b ≢ at) ⊎ (j ≢ i) → slot_of (block_at new b) j ≡ slot_of (block_at old b) j
  pub joined : (block_at new below).apart ≡ false
  pub aparts : (b : ℕ) → b ≢ below → (block_at new b).apart ≡ (block_at old b).apart
  pub origins : (b : ℕ) → b ≢ at → b ≢ below → ((block_at new b).origin ≡ (block_at old b).origin) × ((block_at new b).source ≡ (block_at old b).source)
  pub way : JoinsInner at i below old new ⊎ (JoinsOuter at i below old new ⊎ Raises at i below old new)

-- the pointer leads to no block, or to another one
abbrev pub elsewhere : ℕ → Pointer → Bool
elsewhere x (Local y) = cond (nat_eq y x) false true
elsewhere x Nil = true
elsewhere x (Held score) = true

-- A block that was led to by a slot is marked as taken out, if the slot to be put leads elsewhere.
pub record Takes (old_slot s : Slot) (old new : List PlainBlock) : Type 0 where
  pub as_long : length new ≡ length old
  pub same : (b : ℕ) → block_at new b ≡ record (block_at old b) { taken = (block_at new b).taken }
  pub taken : (x : ℕ) → target old_slot ≡ Local x → target s ≢ target old_slot → (block_at new x).taken ≡ true
  pub still : (b : ℕ) → (block_at old b).taken ≡ true → (block_at new b).taken ≡ true
  pub only : (b : ℕ) → (block_at new b).taken ≡ true → ((block_at old b).taken ≡ true) ⊎ ((target old_slot ≡ Local b) × (target s ≢ target old_slot))

-- How a block comes to a slot of which it will hang: it is of the source of that slot already; its index and source are free; it is the
-- first of a new source, and the slot an entry; or a new block of pointers is raised over it.
abbrev pub Joins : List PlainBlock → (at i below : ℕ) → Type 0
Joins blocks at i below = InSource i above under (home_of blocks under.source) ⊎ (IsFree under ⊎ ((IsFirst under × (IsInner above.place.kind → ⊥)) ⊎ (IsFree above × IsInner above.place.kind × (i ≡ 0))))
  where
    above : PlainBlock
    above = block_at blocks at

    under : PlainBlock
    under = block_at blocks below

-- One more removal is queued, or as many as can be counted.
abbrev pub CountsOne : (old new : ℕ) → Type 0
CountsOne old new = (old < new) ⊎ (2 ^ 32 - 1 ≤ new)

-- A slot that leads to a block may be put.
pub record MayLink (blocks : List PlainBlock) (made at i below : ℕ) (s : Slot) : Type 0 where
  pub at_made : IsMade made at
  pub below_made : IsMade made below
  pub few : i < slot_count (block_at blocks at).place.kind
  pub spelled : SlotFits (block_at blocks at).place.kind i s
  pub leads : target s ≡ Local below
  pub fits : FitsAt (IsFree (block_at blocks below)) (block_at blocks below).place (place_below (block_at blocks at).place i s)
  pub lower : (place_below (block_at blocks at).place i s).rank < (block_at blocks at).place.rank
  pub ages : (block_at blocks below).epoch ≤ (block_at blocks at).epoch
  pub joins : Joins blocks at i below

-- A slot that is waited for stays in use.
pub record KeepsUse (waits : List Wait) (at i : ℕ) (s : Slot) : Type 0 where
  pub each : (n k : ℕ) → n < length waits → (wait_at waits n).on ≡ at → i ≡ 2 * k → pair_of (wait_at waits n) k ≡ true → is_active s ≡ true

-- Waits for the pair of which this entry is the first are over.
pub record EndsWaits (at i : ℕ) (old new : List Wait) : Type 0 where
  pub as_long : length new ≡ length old
  pub same : (n : ℕ) → ((wait_at new n).at ≡ (wait_at old n).at) × ((wait_at new n).on ≡ (wait_at old n).on)
  pub fewer : (n k : ℕ) → pair_of (wait_at new n) k ≡ true → pair_of (wait_at old n) k ≡ true
  pub others : (n k : ℕ) → ((wait_at old n).on ≢ at) ⊎ (i ≢ 2 * k) → pair_of (wait_at new n) k ≡ pair_of (wait_at old n) k
  pub ended : (n k : ℕ) → (wait_at old n).on ≡ at → i ≡ 2 * k → pair_of (wait_at new n) k ≡ false
