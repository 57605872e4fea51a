-- What blocks that tell nothing keep, and what the calls on blocks see of it.
use Rattle.std.specs.Prelude.{◌≡◌, ◌≢◌, ◌⊎◌, ◌+◌, ◌-◌, ◌*◌, ◌/◌, ◌^◌, ◌<◌, ℕ, zero, suc, Bool, true, false, List, drop, [], ◌∷◌, length, slice_index_or, Option, Some, None, not, ◌||◌, ◌==◌}
use Rattle.fo_image.specs.declared.types.Kind.{Kind}
use Rattle.fo_image.specs.declared.types.Kind.TheVariants.{Data, Dir, Root}
use Rattle.fo_image.specs.declared.types.State.TheVariants.{Free, Live}
use Rattle.fo_image.specs.declared.types.Pointer.TheVariants.{Local}
use Rattle.fo_crash.specs.declared.slot.Slot.{Slot}
use Rattle.fo_crash.specs.declared.slot.Slot.TheVariants.{Pointer as To, Entry as Head, Prev}
use Rattle.fo_crash.specs.Images.{Content, Image, target}
use Rattle.fo_ports.specs.Blocks.{AreZeros, IsFormed, IsInner, IsLevel, Reads, ReadsSlots, no_entry, slots_to}
use Rattle.fo_ports.specs.State.{State}
use Rattle.fo_slots.specs.Read.{read}
use Rattle.test_blocks.specs.declared.silent.Block.{Block}
use Rattle.test_blocks.specs.declared.silent.Wait.{Wait}

-- the fields, without what is known of them
pub record Silent : Type 0 where
  pub blocks : List Block
  pub waits : List Wait
  pub count : ℕ
  pub high : ℕ
  pub next : ℕ
  pub room : ℕ
  pub queued : ℕ

-- a block that was not given out
abbrev pub no_block : Block
no_block = record { label = record { state = Free; kind = Data 0; tag = 0; epoch = 0; closing = 0 }; apart = false; origin = None; bytes = [] }

abbrev pub block_at : List Block → ℕ → Block
block_at blocks b = slice_index_or blocks b no_block

abbrev pub content_of : Block → Content
content_of block = read block.label.kind block.bytes

abbrev pub memory : List Block → Image
memory blocks = λ b. content_of (block_at blocks b)

-- Blocks 0 and 1 are never given out.
abbrev pub IsMade : List Block → ℕ → Type 0
IsMade blocks b = (1 < b) × (b < length blocks)

abbrev pub IsData : ℕ → ℕ → Type 0
IsData count b = (1 < b) × (b < count)

abbrev pub IsApart : List Block → ℕ → Type 0
IsApart blocks b = (block_at blocks b).apart ≡ true

abbrev pub Instead : List Block → ℕ → ℕ → Type 0
Instead blocks y x = ((block_at blocks y).apart ≡ true) × ((block_at blocks y).origin ≡ Some x)

abbrev pub is_active : Slot → Bool
is_active (Head e) = e.active
is_active (To p) = false
is_active (Prev epoch at) = false

-- This block waits for this pair of entries of that one.
abbrev pub Listed : List Wait → ℕ → ℕ → ℕ → Type 0
Listed [] a on k = ⊥
Listed (w ∷ ws) a on k = ((w.at ≡ a) × (w.on ≡ on) × (w.pair ≡ k)) ⊎ Listed ws a on k

abbrev pub Awaits : List Wait → ℕ → ℕ → ℕ → Type 0
Awaits waits a on j = Listed waits a on (j / 2)

-- At the start block 2 alone is there, the root block, with the label of a leaf of entries of which none is in use.
pub record IsBegun (blocks : List Block) : Type 0 where
  pub as_long : length blocks ≡ 3
  pub label : (block_at blocks 2).label ≡ record { state = Live; kind = Dir 0; tag = 1; epoch = 1; closing = 2 ^ 32 - 1 }
  pub slot : (memory blocks 2).slot 0 ≡ Head no_entry

-- An epoch begins: the root block is of it, and all else stays.
pub record BeginsEpoch (old new : Silent) : Type 0 where
  pub high : new.high ≡ old.high + 1
  pub count : new.count ≡ old.count
  pub as_long : length new.blocks ≡ length old.blocks
  pub root : block_at new.blocks 2 ≡ record (block_at old.blocks 2) { label = record (block_at old.blocks 2).label { epoch = new.high } }
  pub others : (b : ℕ) → b ≢ 2 → block_at new.blocks b ≡ block_at old.blocks b
  pub rest : (new.waits ≡ old.waits) × (new.next ≡ old.next) × (new.room ≡ old.room) × (new.queued ≡ old.queued)

-- Each slot leads to a data block, if to any.
pub record LeadsWithin (count : ℕ) (kind : Kind) (bytes : List ℕ) : Type 0 where
  pub each : (j b : ℕ) → target ((read kind bytes).slot j) ≡ Local b → IsData count b

-- behind pointers and entries there are zeros
abbrev pub HasZeros : Kind → List ℕ → Type 0
HasZeros (Data zero) bytes = Unit {0}
HasZeros (Data (suc level)) bytes = AreZeros (drop (slots_to (Data (suc level))) bytes)
HasZeros (Dir level) bytes = AreZeros (drop (slots_to (Dir level)) bytes)
HasZeros Root bytes = Unit {0}

-- These bytes of a block, which is no root block, spell its slots, which lead to data blocks.
pub record Good (count : ℕ) (kind : Kind) (bytes : List ℕ) : Type 0 where
  pub level : IsLevel kind
  pub long : length bytes ≡ 8192
  pub slots : ReadsSlots kind (read kind bytes) bytes
  pub within : LeadsWithin count kind bytes
  pub zeros : HasZeros kind bytes

pub record Sound (count : ℕ) (blocks : List Block) : Type 0 where
  pub each : (b : ℕ) → b < length blocks → Good count (block_at blocks b).label.kind (block_at blocks b).bytes

-- What is waited for is in use.
pub record Waiting (blocks : List Block) (waits : List Wait) : Type 0 where
  pub used : (a on k : ℕ) → Listed waits a on k → is_active ((memory blocks on).slot (2 * k)) ≡ true

-- A block of pointers that is new and leads to no block, so that it is raised over what is put into its slot 0.
abbrev pub IsTopBlock : Block → ℕ → Type 0
IsTopBlock z i = (((z.apart ≡ true) × ((x : ℕ) → (z.apart ≡ true) × (z.origin ≡ Some x) → ⊥)) × ((j x : ℕ) → target ((content_of z).slot j) ≢ Local x)) × IsInner z.label.kind × (i ≡ 0)

abbrev pub IsTop : List Block → ℕ → ℕ → Type 0
IsTop blocks at i = IsTopBlock (block_at blocks at) i

-- what a block comes in the place of that is raised over block `below`
abbrev pub IsOver : List Block → ℕ → ℕ → Type 0
IsOver blocks below x = ((below ≡ x) × (IsApart blocks below → ⊥)) ⊎ Instead blocks below x

-- What `get` answers of a block.
pub record Gets (kind : Kind) (rank : ℕ) (block : Block) (bytes : List ℕ) : Type 0 where
  pub reads : Reads kind (content_of block) bytes
  pub slots : ReadsSlots kind (content_of block) bytes
  pub formed : IsFormed kind rank bytes
  pub is_kind : block.label.kind ≡ kind

-- One block is put in place of another.
pub record Updates (at : ℕ) (block : Block) (old new : List Block) : Type 0 where
  pub here : block_at new at ≡ block
  pub others : (b : ℕ) → b ≢ at → block_at new b ≡ block_at old b

-- Blocks whose labels and bytes stay.
pub record SameBytes (old new : List Block) : Type 0 where
  pub as_long : length new ≡ length old
  pub labels : (b : ℕ) → (block_at new b).label ≡ (block_at old b).label
  pub bytes : (b : ℕ) → (block_at new b).bytes ≡ (block_at old b).bytes

-- Blocks whose labels and marks stay.
pub record SameMarks (old new : List Block) : Type 0 where
  pub as_long : length new ≡ length old
  pub labels : (b : ℕ) → (block_at new b).label ≡ (block_at old b).label
  pub apart : (b : ℕ) → (block_at new b).apart ≡ (block_at old b).apart
  pub origin : (b : ℕ) → (block_at new b).origin ≡ (block_at old b).origin

-- What a block comes in the place of, once a slot is put into it: a new top that is raised over a block comes in the place of that.
pub record Rises (at i : ℕ) (slot : Slot) (old : List Block) (origin : Option ℕ) : Type 0 where
  pub raised : (x : ℕ) → IsApart old at → origin ≡ Some x → Instead old at x ⊎ (IsTop old at i × ((b : ℕ) × (target slot ≡ Local b) × IsOver old b x))
  pub raises : (b x : ℕ) → IsTop old at i → target slot ≡ Local b → IsOver old b x → origin ≡ Some x
  pub still : (x : ℕ) → Instead old at x → origin ≡ Some x

-- A slot was put: what it leads to is apart no more, and all other marks and all labels stay.
pub record Joins (at i : ℕ) (slot : Slot) (old new : List Block) : Type 0 where
  pub as_long : length new ≡ length old
  pub labels : (b : ℕ) → (block_at new b).label ≡ (block_at old b).label
  pub under : (b : ℕ) → target slot ≡ Local b → ((block_at new b).apart ≡ false) × ((block_at new b).origin ≡ None)
  pub aparts : (b : ℕ) → target slot ≢ Local b → (block_at new b).apart ≡ (block_at old b).apart
  pub origins : (b : ℕ) → b ≢ at → target slot ≢ Local b → (block_at new b).origin ≡ (block_at old b).origin
  pub rises : Rises at i slot old ((block_at new at).origin)

-- Waits for the first pairs of a block were added, whose first entry is in use.
pub record AddsPairs (at on : ℕ) (kind : Kind) (bytes : List ℕ) (count : ℕ) (old new : List Wait) : Type 0 where
  pub still : (a o k : ℕ) → Listed old a o k → Listed new a o k
  pub each : (k : ℕ) → k < count → is_active ((read kind bytes).slot (2 * k)) ≡ true → Listed new at on k
  pub only : (a o k : ℕ) → Listed new a o k → Listed old a o k ⊎ ((at ≡ a) × (on ≡ o) × (is_active ((read kind bytes).slot (2 * k)) ≡ true))

-- the wait is not for this pair of a block
abbrev pub is_other : ℕ → ℕ → Wait → Bool
is_other on pair w = not (w.on == on) || not (w.pair == pair)

-- Nothing is told, so no image is left, nothing stands, and nothing is to be closed. No slot waits to be cleared, and none is written, so
-- nothing is newborn and all is sealed.
-- What is held under a score is said where the device tells alone, so nothing is.
abbrev pub state_of : Silent → State
state_of p = record {
  now = memory p.blocks;
  label = λ b. (block_at p.blocks b).label;
  stands = λ b q. ⊥;
  apart = IsApart p.blocks;
  instead = Instead p.blocks;
  newborn = λ b. ⊥;
  high = p.high;
  low = 1;
  root = 2;
  tops = λ t. t ≡ 1;
  is_block = IsData p.count;
  held = λ score kind. None;
  next = p.next;
  grants = p.next < 2 ^ 30;
  limit = λ c. 2 ^ 30;
  tells = ⊥;
  may_leave = λ image. ⊥;
  moments = 0;
  left = λ k image. ⊥;
  doubt = λ c. ⊥;
  sure = λ b. ⊥;
  fresh = λ b. Unit {0};
  sealed = λ b. Unit {0};
  spare = p.count - length p.blocks;
  pins_left = 2 ^ 32;
  room = p.room;
  pinned = IsMade p.blocks;
  usable = p.count - length p.blocks;
  label_block = λ b. 0;
  dirty = λ b. ⊥;
  queued = p.queued;
  removes = λ b e whole. ⊥;
  waits = Awaits p.waits;
  clearing = λ b j. ⊥;
  covered = λ b. ⊥;
  holds = [];
  faults = 0;
  arena_faults = 0;
}

-- What every call keeps.
pub record SilentKeeps (old new : Silent) : Type 0 where
  pub count : new.count ≡ old.count
  pub high : new.high ≡ old.high
