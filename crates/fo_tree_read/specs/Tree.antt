-- The blocks of a source below its top, and what memory reads through them.
use Rattle.std.specs.Prelude.{◌≡◌, ◌⊎◌, ◌+◌, ◌-◌, ◌*◌, ◌/◌, ◌%◌, ◌^◌, ◌<◌, ◌≤◌, ◌==◌, ◌||◌, ℕ, zero, suc, Bool, cond, nat_lt, List, take, drop, Option, Some, None}
use Rattle.std.specs.List.{list_all}
use Rattle.std.specs.Str.{bytes_eq}
use Rattle.fo_looks.specs.of_base.Cause.{Rose}
use Rattle.fo_looks.specs.of_image.declared.types.Kind.{Kind}
use Rattle.fo_looks.specs.of_image.declared.types.Kind.TheVariants.{Data, Dir}
use Rattle.fo_looks.specs.of_image.declared.types.Score.{Score}
use Rattle.fo_looks.specs.of_image.declared.types.Pointer.{Pointer}
use Rattle.fo_looks.specs.of_image.declared.types.Pointer.TheVariants.{Nil, Local, Score as Held}
use Rattle.fo_looks.specs.of_image.Format.{kind_code}
use Rattle.fo_looks.specs.of_crash.declared.place.Place.{Place}
use Rattle.fo_looks.specs.of_crash.Images.{target}
use Rattle.fo_looks.specs.of_crash.Places.{place}
use Rattle.fo_looks.specs.of_ports.declared.error.BlockError.{BlockError}
use Rattle.fo_looks.specs.of_ports.Causes.{Caused}
use Rattle.fo_looks.specs.of_ports.State.{State, IsRooted}
use Rattle.fo_looks.specs.of_ports.Sources.{Lacks, byte_at, source_bytes}
use Rattle.fo_tree_read.specs.declared.tree.Tree.{Tree}
use Rattle.fo_tree_read.specs.declared.empty.TheConstants.{EMPTY}

-- the kind of a block of a source at this level
abbrev pub kind_at : Bool → ℕ → Kind
kind_at dir level = cond dir (Dir level) (Data level)

-- the kind of a block so many steps below the top
abbrev pub kind_down : Tree → ℕ → Kind
kind_down t down = kind_at t.dir (t.depth - down)

-- in a block that is held these bytes lead nowhere: they begin with sixteen zeros, or are the score of the empty block
abbrev pub is_none : List ℕ → Bool
is_none bytes = list_all (λ b. b == 0) (take 16 bytes) || bytes_eq bytes EMPTY.0

-- the pointer that these bytes spell in a block that is held: a score, or none
abbrev pub score_of : List ℕ → Pointer
score_of bytes = cond (is_none bytes) Nil (Held (record { 0 = bytes }))

abbrev pub score_in : Option (List ℕ) → ℕ → Pointer
score_in None i = Nil
score_in (Some bytes) i = score_of (take 20 (drop (20 * i) bytes))

-- where slot i of the block leads that a pointer names: memory has it on the device, or it is held under a score and kind
abbrev pub below : State → Kind → Pointer → ℕ → Pointer
below s kind Nil i = Nil
below s kind (Local at) i = target ((s.now at).slot i)
below s kind (Held score) i = score_in (s.held score (kind_code kind)) i

-- block k of those so many steps below the top
abbrev pub block_at : State → Tree → ℕ → ℕ → Pointer
block_at s t zero k = t.top
block_at s t (suc n) k = below s (kind_down t n) (block_at s t n (k / 409)) (k % 409)

-- leaf i, none past those that the depth has room for
abbrev pub leaf_at : State → Tree → ℕ → Pointer
leaf_at s t i = cond (nat_lt i (409 ^ t.depth)) (block_at s t t.depth i) Nil

abbrev pub address_of : Pointer → Option ℕ
address_of Nil = None
address_of (Local at) = Some at
address_of (Held score) = None

-- A pointer is known to be another: it is the same where the device tells, and names the same block of the device over any.
abbrev pub Agrees : Type 0 → Pointer → Pointer → Type 0
Agrees tells p q = (tells → p ≡ q) × (address_of p ≡ address_of q)

-- the bytes that are held where a pointer is a score
abbrev pub held_of : State → Kind → Pointer → Option (List ℕ)
held_of s kind Nil = None
held_of s kind (Local at) = None
held_of s kind (Held score) = s.held score (kind_code kind)

-- the address of leaf i, and the bytes of one that is named by its score
abbrev pub address : State → Tree → ℕ → Option ℕ
address s t i = address_of (leaf_at s t i)

abbrev pub held_leaf : State → Tree → ℕ → Option (List ℕ)
held_leaf s t i = held_of s (kind_at t.dir 0) (leaf_at s t i)

-- byte k, and the bytes
abbrev pub byte : State → Tree → ℕ → ℕ
byte s t k = byte_at s.now (address s t (k / 8192)) (held_leaf s t (k / 8192)) (k % 8192)

abbrev pub bytes : State → Tree → List ℕ
bytes s t = source_bytes (address s t) (held_leaf s t) s.now t.size

-- A block of the source is named by this score, under this kind.
pub record HasScore (s : State) (t : Tree) (score : Score) (kind : ℕ) : Type 0 where
  pub down : ℕ
  pub index : ℕ
  pub within : down ≤ t.depth
  pub is : block_at s t down index ≡ Held score
  pub kind_is : kind ≡ kind_code (kind_down t down)

-- What scores the source names: over a device that tells nothing it may be any.
abbrev pub Names : State → Tree → Score → ℕ → Type 0
Names s t score kind = s.tells → HasScore s t score kind

-- A block stands at a place of this kind and rank.
pub record StandsAs (s : State) (kind : Kind) (rank at : ℕ) : Type 0 where
  pub there : Place
  pub stands : s.stands at there
  pub has_kind : there.kind ≡ kind
  pub has_rank : there.rank ≡ rank

-- A source hangs over these blocks: its depth is up to 4 and has room for its bytes, and its top is a block; where the device tells, one
-- that stands at the place of a top, hangs in memory, and is not to be closed.
pub record Hangs (s : State) (t : Tree) : Type 0 where
  pub few : t.depth ≤ 4
  pub room : t.size ≤ 8192 * 409 ^ t.depth
  pub low : t.rank < 2 ^ 31
  pub is_one : (at : ℕ) → t.top ≡ Local at → s.is_block at
  pub told : s.tells → (at : ℕ) → t.top ≡ Local at → s.stands at (place (kind_at t.dir t.depth) t.tag 0 (t.rank + t.depth)) × (s.covered at → ⊥)
  pub rooted : s.tells → (at : ℕ) → t.top ≡ Local at → IsRooted s at

-- A block of this kind was got: it is pinned, and its label is of the kind.
pub record IsGot (s : State) (kind : Kind) (at : ℕ) : Type 0 where
  pub is_pinned : s.pinned at
  pub has_kind : (s.label at).kind ≡ kind

abbrev pub Got : State → Kind → Pointer → Type 0
Got s kind p = (at : ℕ) → p ≡ Local at → IsGot s kind at

-- The blocks above block k, so many steps below the top, were got.
abbrev pub Way : State → Tree → ℕ → ℕ → Type 0
Way s t zero k = Unit {0}
Way s t (suc n) k = Way s t n (k / 409) × Got s (kind_down t n) (block_at s t n (k / 409))

-- how many blocks stand above block k and those before it, but for the first of each level
abbrev pub above : ℕ → ℕ → ℕ
above zero k = 0
above (suc n) k = k / 409 + above n (k / 409)

-- The way to block k is that to block j, which was got, or the next.
pub record IsNear (s : State) (t : Tree) (n j k : ℕ) : Type 0 where
  pub from : j ≤ k
  pub to : k ≤ j + 1
  pub way : Way s t n j

-- Pins are left for the way to block k.
abbrev pub HasPins : State → Tree → ℕ → ℕ → Type 0
HasPins s t n k = (n ≤ s.pins_left) ⊎ ((j : ℕ) × IsNear s t n j k × (above n k ≤ s.pins_left + above n j))

-- What is found on the way to block k is what memory has.
abbrev pub IsFound : State → Tree → ℕ → ℕ → Type 0
IsFound s t n k = s.tells ⊎ HasPins s t n k

-- Why reading is refused: the device failed, a block is damaged, which over a device that tells none is, or a score is not held, as
-- far as the device tells.
abbrev pub Refused : (old new : State) → (named : Score → ℕ → Type 0) → BlockError → Type 0
Refused old new named = Caused ⊥ (λ b. ((old.tells → ⊥) × old.is_block b) ⊎ ((b ≡ 1) × (old.tells → Lacks named old.held))) (Rose old.faults new.faults) (Rose old.arena_faults new.arena_faults)

-- Why a look at blocks of the device is refused.
abbrev pub Failed : (old new : State) → BlockError → Type 0
Failed old new = Caused ⊥ (λ b. (old.tells → ⊥) × old.is_block b) (Rose old.faults new.faults) ⊥
