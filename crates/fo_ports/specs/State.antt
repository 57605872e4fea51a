-- What blocks are at one moment, and what each kind of call leaves as it was.
use Rattle.std.specs.Prelude.{◌≡◌, ◌≢◌, ◌⊎◌, ◌↔◌, ◌+◌, ◌-◌, ◌*◌, ◌^◌, ◌<◌, ◌≤◌, ℕ, Bool, false, List, Option, true}
use Rattle.fo_meta.specs.of_image.declared.types.Score.{Score}
use Rattle.fo_meta.specs.of_image.declared.types.Label.{Label}
use Rattle.fo_meta.specs.of_image.declared.types.State.TheVariants.{Closed, Live}
use Rattle.fo_meta.specs.of_image.declared.types.Pointer.{Pointer}
use Rattle.fo_meta.specs.of_image.declared.types.Pointer.TheVariants.{Local}
use Rattle.fo_meta.specs.of_image.Usable.{is_usable}
use Rattle.fo_crash.specs.declared.slot.Slot.{Slot}
use Rattle.fo_crash.specs.declared.place.Place.{Place}
use Rattle.fo_crash.specs.Images.{Content, Image, SameContent, SameImage, Reaches, target, walk, to_block}
use Rattle.fo_crash.specs.Steps.{AddsNothing, AddsBlock, AllAre, Passes, PutsBlock, Brings, Through, Fills, cleared}
use Rattle.fo_crash.specs.Places.{Fits, place_below}
use Rattle.fo_crash.specs.Names.{IsInUse, SameUse}
use Rattle.fo_ports.specs.Blocks.{KeepsParent, IsInner, dropped, zeros, cost}

pub record State : Type 1 where
  -- what each block holds in memory: block 1 is the super block, whose slot 0 leads to the active root block
  pub now : Image
  -- the label of each block in memory
  pub label : ℕ → Label
  -- the place at which a block stands in some image, or was made for
  pub stands : ℕ → Place → Type 0
  -- a block that was made and put into no slot yet; and the block in whose place it was made to come
  pub apart : ℕ → Type 0
  pub instead : ℕ → ℕ → Type 0
  -- a block that was given out, and put below nothing that the tree has, as far as calls say: it need not be written yet
  pub newborn : ℕ → Type 0
  -- the epoch of the active tree (blocks of older epochs are never changed), the lowest that is kept, by which a label says whether its
  -- block is usable, and the root block of the active tree
  pub high : ℕ
  pub low : ℕ
  pub root : ℕ
  -- block 1, from which the active tree hangs, and the root blocks of the snapshots that are kept
  pub tops : ℕ → Type 0
  -- the addresses of data blocks
  pub is_block : ℕ → Type 0
  -- what is held under each score and kind
  pub held : Score → ℕ → Option (List ℕ)
  -- the next file number, whether it was granted, and the limit of file numbers that a super block says
  pub next : ℕ
  pub grants : Type 0
  pub limit : Content → ℕ
  -- the devices tell what they hold, that of the arena too
  pub tells : Type 0
  -- every image that a crash may leave, now or after whatever is flushed later
  pub may_leave : Image → Type 0
  -- how many moments have passed, and what images a crash could have left at each of them
  pub moments : ℕ
  pub left : ℕ → Image → Type 0
  -- the super block that was last tried, while it is not known to be settled or overruled
  pub doubt : Content → Type 0
  -- blocks that are in every image what memory has: as far as is known, and because they were given out and none was written since
  pub sure : ℕ → Type 0
  pub fresh : ℕ → Type 0
  -- blocks that hung from block 1 when all was settled
  pub sealed : ℕ → Type 0
  -- how many blocks may still be made, how many more may be pinned by `get`, and how many removals and waits are left
  pub spare : ℕ
  pub pins_left : ℕ
  pub room : ℕ
  pub pinned : ℕ → Type 0
  -- how many blocks are usable by the labels that memory has
  pub usable : ℕ
  -- the block that holds the label of a data block; and which of data blocks and blocks of labels are to be written
  pub label_block : ℕ → ℕ
  pub dirty : ℕ → Type 0
  -- how many removals are queued; and of which block, to be closed at which epoch, with what hangs below it or alone
  pub queued : ℕ
  pub removes : ℕ → ℕ → Bool → Type 0
  -- what is put into this leaf from now on is in an image only with this entry in use as memory has it
  pub waits : ℕ → ℕ → ℕ → Type 0
  -- this slot is cleared when the leaf that it waits for is settled
  pub clearing : ℕ → ℕ → Type 0
  -- a removal is to close this block
  pub covered : ℕ → Type 0
  -- the versions of each block that the main device tells it holds, oldest first; none where it tells nothing
  pub holds : List (List (List ℕ))
  -- how many faults the main device and the arena's had, up to 2^64 - 1
  pub faults : ℕ
  pub arena_faults : ℕ

-- What every call keeps.
pub record KeepsAll (old new : State) : Type 0 where
  pub same_high : new.high ≡ old.high
  pub same_low : new.low ≡ old.low
  pub same_root : new.root ≡ old.root
  pub same_tops : (t : ℕ) → new.tops t ↔ old.tops t
  pub same_blocks : (b : ℕ) → new.is_block b ↔ old.is_block b
  pub same_held : (score : Score) (kind : ℕ) → new.held score kind ≡ old.held score kind
  pub same_limit : (c : Content) → new.limit c ≡ old.limit c
  pub same_label_blocks : (b : ℕ) → new.label_block b ≡ old.label_block b
  pub still_tells : new.tells ↔ old.tells
  pub more_faults : old.faults ≤ new.faults
  pub more_arena_faults : old.arena_faults ≤ new.arena_faults

-- In memory the block hangs from a top, or from a block that is apart. One that older versions alone lead to hangs from none.
abbrev pub IsRooted : State → ℕ → Type 0
IsRooted s b = (t : ℕ) × (s.tops t ⊎ s.apart t) × Reaches s.now (to_block t) b

-- no block
abbrev pub none : ℕ → Type 0
none b = ⊥

-- Blocks stay as they are, but for those that a call gives out (`made`), and but for the places of those that it puts (`put`). What
-- hangs in memory keeps its place, and hung there before; what left with a leaf of entries need stand nowhere. Nothing becomes newborn.
pub record Stays (made put : ℕ → Type 0) (old new : State) : Type 0 where
  pub labels : (b : ℕ) → (made b → ⊥) → new.label b ≡ old.label b
  pub marks : (b : ℕ) → (made b → ⊥) → (old.pinned b → new.pinned b) × (old.sealed b → new.sealed b) × (old.fresh b → new.fresh b)
  pub places : old.tells → (b : ℕ) (p : Place) → (made b → ⊥) → (put b → ⊥) → (new.covered b → ⊥) → IsRooted new b → old.stands b p → new.stands b p
  pub rooted : old.tells → (b : ℕ) → (made b → ⊥) → IsRooted new b → IsRooted old b
  pub newborn : (b : ℕ) → (made b → ⊥) → new.newborn b → old.newborn b
  pub apart : (b : ℕ) → (made b → ⊥) → (put b → ⊥) → new.apart b ↔ old.apart b
  pub instead : (b x : ℕ) → (made b → ⊥) → (put b → ⊥) → new.instead b x ↔ old.instead b x
  pub waits : (a on j : ℕ) → (made a → ⊥) → (made on → ⊥) → (put on → ⊥) → old.waits a on j → new.waits a on j

-- Nothing begins to wait, but what these put.
pub record AddsNoWait (but : ℕ → Type 0) (old new : State) : Type 0 where
  pub each : (a on j : ℕ) → (but a → ⊥) → new.waits a on j → old.waits a on j

-- No removal is queued that wasn't.
pub record AddsNoRemoval (old new : State) : Type 0 where
  pub each : (b e : ℕ) (whole : Bool) → new.removes b e whole → old.removes b e whole

-- Removals that are queued now and weren't are of blocks to which this slot leads through what memory has, and of this epoch.
pub record AddsRemovals (slot : Slot) (old new : State) : Type 0 where
  pub each : (b e : ℕ) (whole : Bool) → new.removes b e whole → old.removes b e whole ⊎ ((e ≡ old.high) × Reaches new.now slot b)

-- No slot begins to wait to be cleared, and one that waits goes on to.
pub record KeepsOrder (made : ℕ → Type 0) (old new : State) : Type 0 where
  pub clearing : (b j : ℕ) → new.clearing b j → (made b → ⊥) × old.clearing b j
  pub goes_on : (b j : ℕ) → (made b → ⊥) → old.clearing b j → new.clearing b j

-- The same blocks are to be closed.
pub record KeepsCovered (old new : State) : Type 0 where
  pub covered : (b : ℕ) → new.covered b ↔ old.covered b

-- A call makes no device call, and uses so many blocks and so many removals or waits.
pub record Uses (blocks removals : ℕ) (old new : State) : Type 0 where
  pub spare : new.spare + blocks ≡ old.spare
  pub usable : new.usable + blocks ≡ old.usable
  pub room : new.room + removals ≡ old.room
  pub pins : new.pins_left ≡ old.pins_left
  pub moments : new.moments ≡ old.moments
  pub left : (k : ℕ) (image : Image) → new.left k image → old.left k image

-- File numbers stay.
pub record KeepsNumbers (old new : State) : Type 0 where
  pub next : new.next ≡ old.next
  pub grants : old.grants → new.grants

-- A change of one block: beside what the call says of memory, images and what is to be closed, all stays.
pub record Frame (here put : ℕ → Type 0) (removals : ℕ) (old new : State) : Type 0 where
  pub stays : Stays none put old new
  pub dirty : (b : ℕ) → new.dirty b → old.dirty b ⊎ here b
  pub uses : Uses 0 removals old new
  pub numbers : KeepsNumbers old new

-- A change of one block, or of none, after which the same slots wait to be cleared, and the same blocks are to be closed and newborn.
pub record Calm (here : ℕ → Type 0) (removals : ℕ) (old new : State) : Type 0 where
  pub frame : Frame here none removals old new
  pub order : KeepsOrder none old new
  pub covered : KeepsCovered old new
  pub newborn : (b : ℕ) → old.newborn b → new.newborn b
  pub queued : new.queued ≡ old.queued
  pub no_removal : AddsNoRemoval old new

-- A block was given out with this content and label, for a place: by its label it was usable, it hung nowhere, no image leads to it, it is
-- pinned, and fresh.
pub record Gives (at : ℕ) (c : Content) (l : Label) (old new : State) : Type 0 where
  pub memory : PutsBlock at c old.now new.now
  pub images : AddsBlock old.tops at c old.may_leave new.may_leave
  pub label : new.label at ≡ l
  pub free : is_usable old.low (old.label at) ≡ true
  pub was : ((old.label at).state ≢ Live) × (at ≢ 1) × (old.covered at → ⊥) × (old.tells → (old.tops at → ⊥) × ((p : Place) → old.stands at p → ⊥))
  pub alone : old.tells → (y : ℕ) → new.instead y at → ⊥
  pub is : new.is_block at × new.pinned at × new.fresh at × new.apart at × (new.covered at → ⊥) × ((a j : ℕ) → new.waits a at j → ⊥)
  pub stays : Stays (λ b. b ≡ at) none old new
  pub order : KeepsOrder (λ b. b ≡ at) old new
  pub covered : (b : ℕ) → b ≢ at → new.covered b ↔ old.covered b
  pub no_wait : AddsNoWait none old new
  pub dirty : (b : ℕ) → new.dirty b → old.dirty b ⊎ ((b ≡ at) ⊎ (b ≡ new.label_block at))
  pub uses : Uses 1 0 old new
  pub queued : new.queued ≡ old.queued
  pub no_removal : AddsNoRemoval old new
  pub numbers : KeepsNumbers old new

-- A call only looks: what memory is known to have stays, no image is added, and marks stay.
pub record Looks (old new : State) : Type 0 where
  pub memory : old.tells → SameImage new.now old.now
  pub holds : new.holds ≡ old.holds
  pub known : (b : ℕ) → old.pinned b → SameContent (new.now b) (old.now b)
  pub images : AddsNothing old.may_leave new.may_leave
  pub passes : Passes old.tops old.may_leave old.moments new.moments old.left new.left
  pub stays : Stays none none old new
  pub order : KeepsOrder none old new
  pub covered : KeepsCovered old new
  pub newborn : (b : ℕ) → old.newborn b → new.newborn b
  pub no_wait : AddsNoWait none old new
  pub dirty : (b : ℕ) → new.dirty b → old.dirty b
  pub room : (new.spare ≡ old.spare) × (new.room ≡ old.room)
  pub usable : (new.usable ≡ old.usable) × (new.queued ≡ old.queued)
  pub no_removal : AddsNoRemoval old new
  pub numbers : KeepsNumbers old new

-- A call for a file number leaves all but block 1 as it is.
pub record Numbers (old new : State) : Type 0 where
  pub label : (b : ℕ) → new.label b ≡ old.label b
  pub marks : (b : ℕ) → (old.pinned b → new.pinned b) × (old.sealed b → new.sealed b)
  pub places : old.tells → (b : ℕ) (p : Place) → IsRooted old b → old.stands b p → new.stands b p
  pub apart : (b : ℕ) → new.apart b ↔ old.apart b
  pub instead : (b x : ℕ) → new.instead b x ↔ old.instead b x
  pub newborn : (b : ℕ) → new.newborn b ↔ old.newborn b
  pub waits : (a on j : ℕ) → old.waits a on j → new.waits a on j
  pub order : KeepsOrder none old new
  pub covered : KeepsCovered old new
  pub no_wait : AddsNoWait none old new
  pub dirty : (b : ℕ) → new.dirty b → old.dirty b
  pub room : (new.spare ≡ old.spare) × (new.pins_left ≡ old.pins_left) × (new.room ≡ old.room) × (new.next ≡ old.next)
  pub usable : (new.usable ≡ old.usable) × (new.queued ≡ old.queued)
  pub no_removal : AddsNoRemoval old new

-- A block hangs from one that was made and put into no slot yet, and, as far as the device tells, not from block 1.
pub record IsUnlinked (s : State) (b : ℕ) : Type 0 where
  pub maker : ℕ
  pub apart : s.apart maker
  pub hangs : Reaches s.now (to_block maker) b
  pub free : s.tells → Reaches s.now (to_block 1) b → ⊥

-- a block of pointers
abbrev pub IsPointers : State → ℕ → Type 0
IsPointers s b = IsInner (s.label b).kind

-- A block may be closed by what is queued and waits: a removal is to close it, or it hangs from a slot that waits to be cleared.
abbrev pub IsDoomed : State → ℕ → Type 0
IsDoomed s b = s.covered b ⊎ ((at : ℕ) × (j : ℕ) × s.clearing at j × Reaches s.now ((s.now at).slot j) b)

-- a slot waited, and was cleared
abbrev pub WasCleared : (old new : State) → ℕ → ℕ → Type 0
WasCleared old new at j = old.clearing at j × (new.clearing at j → ⊥) × ((new.now at).slot j ≡ cleared ((old.now at).slot j))

-- A slot stays, and waits on where it waited; or it waited, and was cleared.
abbrev pub KeepsSlot : (old new : State) → ℕ → ℕ → Type 0
KeepsSlot old new b j = (((new.now b).slot j ≡ (old.now b).slot j) × (old.clearing b j → new.clearing b j)) ⊎ WasCleared old new b j

-- Memory keeps a block, but for slots that waited.
pub record StaysKnown (old new : State) (b : ℕ) : Type 0 where
  pub bytes : (new.now b).bytes ≡ (old.now b).bytes
  pub slots : (j : ℕ) → KeepsSlot old new b j

-- A block that is not doomed stays, but for slots that waited. It keeps its place where it hangs in memory.
pub record StaysUndoomed (old new : State) (b : ℕ) : Type 0 where
  pub bytes : (new.now b).bytes ≡ (old.now b).bytes
  pub slots : (j : ℕ) → KeepsSlot old new b j
  pub label : new.label b ≡ old.label b
  pub sealed : old.sealed b → new.sealed b
  pub uncovered : new.covered b → ⊥
  pub places : IsRooted old b → (p : Place) → old.stands b p → new.stands b p

-- A block that is to be written, or in which a slot waits to be cleared: memory has it, whatever the device tells.
abbrev pub IsChanging : State → ℕ → Type 0
IsChanging s b = s.dirty b ⊎ ((j : ℕ) × s.clearing b j)

-- All is settled, nothing is to be written but what is newborn, no slot waits to be cleared, and no removal is queued.
pub record IsSettled (s : State) : Type 0 where
  pub settled : AllAre s.now s.may_leave
  pub clean : (b : ℕ) → s.dirty b → s.newborn b × (s.tells → IsUnlinked s b)
  pub empty : s.queued ≡ 0
  pub cleared : (b j : ℕ) → s.clearing b j → ⊥

-- Something may be closed: a removal is queued, or a slot waits to be cleared.
abbrev pub IsClosing : State → Type 0
IsClosing s = (0 < s.queued) ⊎ ((at : ℕ) × (j : ℕ) × s.clearing at j)

-- A removal of this block is queued, to be closed at this epoch; or a slot waits to be cleared that leads there.
abbrev pub MayRemove : State → ℕ → ℕ → Bool → Type 0
MayRemove s r e whole = s.removes r e whole ⊎ ((at : ℕ) × (j : ℕ) × s.is_block at × s.clearing at j × (target ((s.now at).slot j) ≡ Local r) × (e ≡ s.high))

-- A live block was closed, and else its label stays: at the epoch of a removal that was queued, or came with a slot that waited. It is of the
-- tag of the block with which that removal begins, and is that block where it goes alone; of no later epoch; not the root; and it wasn't
-- newborn.
pub record IsShut (old new : State) (b : ℕ) : Type 0 where
  pub closing : IsClosing old
  pub removal : ℕ
  pub epoch : ℕ
  pub whole : Bool
  pub may : MayRemove old removal epoch whole
  pub alone : whole ≡ false → b ≡ removal
  pub live : (old.label b).state ≡ Live
  pub is : new.label b ≡ record (old.label b) { state = Closed; closing = epoch }
  pub tag : (old.label b).tag ≡ (old.label removal).tag
  pub begun : (old.label b).epoch ≤ epoch
  pub other : b ≢ old.root
  pub linked : old.newborn b → ⊥

-- Flushing, settling and closing: no image is added, slots that waited may be cleared, and blocks that were doomed may be closed. What
-- hung from a slot that was cleared, through blocks of pointers, and hangs from block 1 no more is to be closed, until it is closed.
-- What was settled stays so, and then no block is closed. Over any device a label stays, or its block is closed by a removal that was queued,
-- or comes with a slot that waited; no other removal is queued; a block is dirty that wasn't only where a slot of it was cleared, or a label in
-- it changed; and a block that was to be changed on the device, and still is, is what memory had.
pub record Rests (old new : State) : Type 0 where
  pub blocks : old.tells → (b : ℕ) → (IsDoomed old b → ⊥) → StaysUndoomed old new b
  pub images : AddsNothing old.may_leave new.may_leave
  pub passes : Passes old.tops old.may_leave old.moments new.moments old.left new.left
  pub fills : old.tells → Fills (WasCleared old new) old.now old.may_leave new.may_leave
  pub order : (b j : ℕ) → new.clearing b j → old.clearing b j
  pub no_wait : AddsNoWait none old new
  pub dirty : (b : ℕ) → new.dirty b → old.dirty b ⊎ (((j : ℕ) × old.clearing b j × (new.clearing b j → ⊥)) ⊎ ((x : ℕ) × (new.label x ≢ old.label x) × (b ≡ old.label_block x)))
  pub closes : old.tells → (b : ℕ) → old.covered b → new.covered b ⊎ ((new.label b).state ≢ Live)
  pub leaves : old.tells → (at j b : ℕ) → WasCleared old new at j → Through (IsPointers old) old.now ((old.now at).slot j) b → Reaches old.now (to_block 1) b → (Reaches new.now (to_block 1) b → ⊥) → new.covered b ⊎ ((new.label b).state ≢ Live)
  pub apart : (b : ℕ) → new.apart b ↔ old.apart b
  pub instead : (b x : ℕ) → new.instead b x ↔ old.instead b x
  pub newborn : (b : ℕ) → new.newborn b → old.newborn b
  pub newborns : (b : ℕ) → old.newborn b → new.newborn b
  pub kept : (b : ℕ) → old.is_block b → IsChanging old b → IsChanging new b → StaysKnown old new b
  pub labels : (b : ℕ) → (new.label b ≡ old.label b) ⊎ IsShut old new b
  pub removes : (r e : ℕ) (whole : Bool) → new.removes r e whole → MayRemove old r e whole
  pub queues : 0 < new.queued → IsClosing old
  pub usable : old.usable ≤ new.usable
  pub settled : IsSettled old → IsSettled new × (new.usable ≡ old.usable)
  pub numbers : KeepsNumbers old new

-- One more removal is queued, or as many as can be counted.
abbrev pub QueuesOne : State → State → Type 0
QueuesOne old new = (old.queued < new.queued) ⊎ (2 ^ 32 - 1 ≤ new.queued)

-- where a slot led, below the levels that its source loses
abbrev pub led_to : Image → Slot → Slot → Pointer
led_to now old new = target (walk now old (zeros (dropped old new)))

-- A block that was made, put nowhere yet, and not to come in the place of another; and one of which no slot leads on, so that the index
-- of its place is still free.
abbrev pub IsNew : State → ℕ → Type 0
IsNew s b = s.apart b × ((x : ℕ) → s.instead b x → ⊥)

abbrev pub IsLoose : State → ℕ → Type 0
IsLoose s b = IsNew s b × ((j x : ℕ) → target ((s.now b).slot j) ≢ Local x)

-- slot 0 of a new block of pointers, which is raised over what is put there
abbrev pub IsRaised : State → ℕ → ℕ → Type 0
IsRaised s at i = IsLoose s at × IsInner (s.label at).kind × (i ≡ 0)

-- What may be put into a slot, so that each block is found at one spot: what hangs there already, below the levels that go; what was
-- made to come in the place of that; and where nothing hangs a loose block, the top of a new source, and what a new top is raised over.
abbrev pub Comes : State → (at i : ℕ) (old new : Slot) → ℕ → Type 0
Comes s at i old new b = (led_to s.now old new ≡ Local b) ⊎ (((x : ℕ) × s.instead b x × (led_to s.now old new ≡ Local x)) ⊎ (((x : ℕ) → target old ≢ Local x) × IsFirst))
  where
    IsFirst : Type 0
    IsFirst = IsLoose s b ⊎ ((IsNew s b × (IsInner (s.label at).kind → ⊥)) ⊎ (IsRaised s at i × (s.apart b ⊎ Reaches s.now (to_block 1) b)))

-- Nothing that leaves hangs below a block that was made to come in its place and comes not with this slot; and no slot of what leaves
-- waits to be cleared.
pub record LeavesNone (s : State) (old new : Slot) : Type 0 where
  pub each : (y x : ℕ) → s.instead y x → Reaches s.now old x → Reaches s.now new x ⊎ Reaches s.now new y
  pub still : (b j : ℕ) → s.clearing b j → Reaches s.now old b → Reaches s.now new b

-- a block hangs from block 1 in memory, or from a block that was made and put into no slot yet
abbrev pub IsHeld : State → ℕ → Type 0
IsHeld s at = Reaches s.now (to_block 1) at ⊎ ((w : ℕ) × s.apart w × Reaches s.now (to_block w) at)

-- A slot may be put, where the device tells: what it brings is live and not to be closed, it fits its place and is lower, an older
-- block keeps its parent, it comes to its one spot, the block that it is put into is in the tree or made and not to be closed, and no
-- block that was made is let go. Where the put takes removals it is into a block of the tree: what leaves a block that was made is
-- queued when that block is put, which takes none. So is a put that leads an entry to another block: what is queued when a leaf of entries
-- is put follows no entry.
pub record MayPutSlot (s : State) (at i : ℕ) (slot : Slot) : Type 0 where
  pub brings : Brings s.now slot (λ b. ((s.label b).state ≡ Live) × ((s.label b).epoch ≤ s.high) × (s.covered b → ⊥))
  pub fits : Fits s.stands (IsLoose s) at i slot
  pub lower : (b : ℕ) (p : Place) → s.stands at p → target slot ≡ Local b → (place_below p i slot).rank < p.rank
  pub parent : KeepsParent s.now ((s.now at).slot i) slot (λ b. (s.label b).epoch < s.high)
  pub comes : (b : ℕ) → target slot ≡ Local b → Comes s at i ((s.now at).slot i) slot b
  pub leaves : LeavesNone s ((s.now at).slot i) slot
  pub uncovered : s.covered at → ⊥
  pub first : IsInner (s.label at).kind → i ≡ 0 → (x : ℕ) → target ((s.now at).slot i) ≡ Local x → (b : ℕ) × (target slot ≡ Local b)
  pub holder : IsHeld s at
  pub linked : 0 < cost ((s.now at).slot i) slot → Reaches s.now (to_block 1) at
  pub entry : (IsInner (s.label at).kind → ⊥) → (c : ℕ) → target ((s.now at).slot i) ≡ Local c → target slot ≢ Local c → Reaches s.now (to_block 1) at
  pub keeps : (c : ℕ) → target ((s.now at).slot i) ≡ Local c → (target slot ≡ Local c) ⊎ Reaches s.now (to_block 1) c

-- A slot may be cleared, where the device tells; one that leads to a block only in a block of the tree.
pub record MayRemoveSlot (s : State) (at i : ℕ) : Type 0 where
  pub leaves : LeavesNone s ((s.now at).slot i) (cleared ((s.now at).slot i))
  pub uncovered : s.covered at → ⊥
  pub first : IsInner (s.label at).kind → i ≢ 0
  pub holder : IsHeld s at
  pub linked : (c : ℕ) → target ((s.now at).slot i) ≡ Local c → Reaches s.now (to_block 1) at
  pub keeps : (c : ℕ) → target ((s.now at).slot i) ≡ Local c → Reaches s.now (to_block 1) c

-- entry j is the second of the pair whose first is i
abbrev pub IsSecondOf : ℕ → ℕ → Type 0
IsSecondOf i j = (k : ℕ) × (i ≡ 2 * k) × (j ≡ 2 * k + 1)

-- What was put hangs now at its place, and is apart no more; a new top that was raised over a block comes in its place.
pub record Hangs (at i : ℕ) (slot : Slot) (old new : State) : Type 0 where
  pub place : old.tells → (b : ℕ) (p : Place) → old.stands at p → target slot ≡ Local b → new.stands b (place_below p i slot)
  pub put : (b : ℕ) → target slot ≡ Local b → (new.apart b → ⊥) × ((x : ℕ) → new.instead b x → ⊥)
  pub at_place : old.tells → (p : Place) → (new.covered at → ⊥) → old.stands at p → new.stands at p
  pub at_apart : target slot ≢ Local at → new.apart at ↔ old.apart at
  pub raised : (x : ℕ) → new.instead at x → old.instead at x ⊎ (IsRaised old at i × ((b : ℕ) × (target slot ≡ Local b) × (((b ≡ x) × (old.apart b → ⊥)) ⊎ old.instead b x)))
  pub raises : (b x : ℕ) → IsRaised old at i → target slot ≡ Local b → (old.instead b x ⊎ ((b ≡ x) × (old.apart b → ⊥))) → new.instead at x
  pub still : (x : ℕ) → old.instead at x → new.instead at x
  pub waits : (a on j : ℕ) → (on ≢ at) ⊎ (((j ≢ i) × (IsSecondOf i j → ⊥)) ⊎ SameUse slot ((old.now at).slot i)) → old.waits a on j → new.waits a on j

-- An entry that is waited for is in use, or is the second of a pair whose first is.
abbrev pub IsPairUsed : Image → ℕ → ℕ → Type 0
IsPairUsed now on j = ((g : ℕ) × IsInUse ((now on).slot j) g) ⊎ ((k : ℕ) × (j ≡ 2 * k + 1) × ((g : ℕ) × IsInUse ((now on).slot (2 * k)) g))

-- A leaf waits for both entries of each pair whose first is in use and waits for no clearing.
pub record WaitsForPairs (at on : ℕ) (old new : State) : Type 0 where
  pub each : (k g : ℕ) → IsInUse ((old.now on).slot (2 * k)) g → (old.clearing on (2 * k) → ⊥) → new.waits at on (2 * k) × new.waits at on (2 * k + 1)

-- What waits to be cleared is in use in memory, or stands beside an entry that is: so a pair with no entry in use doesn't wait.
pub record WaitsInUse (s : State) : Type 0 where
  pub first : (at k : ℕ) → s.clearing at (2 * k + 1) → s.clearing at (2 * k)
  pub used : (at k : ℕ) → s.clearing at (2 * k) → (g : ℕ) × IsInUse ((s.now at).slot (2 * k)) g

-- A slot may wait to be cleared: the first entry of a pair, in use, or the second of one whose first waits. (What is in no use, or whose
-- first was cleared, has nothing to wait for.)
abbrev pub MayClearLater : State → ℕ → ℕ → Type 0
MayClearLater s at i = ((k : ℕ) × (i ≡ 2 * k) × ((g : ℕ) × IsInUse ((s.now at).slot i) g)) ⊎ ((k : ℕ) × (i ≡ 2 * k + 1) × s.clearing at (2 * k))

-- A block that nothing uses and nothing will close: live, below no top, and not to be closed.
pub record IsLost (s : State) (b : ℕ) : Type 0 where
  pub is_one : s.is_block b
  pub live : (s.label b).state ≡ Live
  pub unreached : (t : ℕ) → s.tops t → Reaches s.now (to_block t) b → ⊥
  pub uncovered : s.covered b → ⊥
