-- A source of bytes in a tree of blocks: what it needs of the blocks, and what it has over them.
use Rattle.std.specs.Prelude.{◌≡◌, ◌≢◌, ◌⊎◌, ◌+◌, ◌-◌, ◌*◌, ◌/◌, ◌%◌, ◌^◌, ◌<◌, ◌≤◌, ℕ, zero, suc, Bool, ◌&&◌, cond, nat_eq, nat_lt, List, [], ◌∷◌, ◌++◌, length, Option, Some, None}
use Rattle.std.specs.Str.{bytes_eq}
use Rattle.fo_image.specs.declared.types.Kind.{Kind}
use Rattle.fo_image.specs.declared.types.Kind.TheVariants.{Data}
use Rattle.fo_image.specs.declared.types.Score.{Score}
use Rattle.fo_image.specs.declared.types.State.TheVariants.{Live}
use Rattle.fo_image.specs.declared.types.Pointer.{Pointer}
use Rattle.fo_image.specs.declared.types.Pointer.TheVariants.{Nil, Local, Score as Held}
use Rattle.fo_image.specs.Format.{kind_code, PointerHolds}
use Rattle.fo_tree_read.specs.of_crash.Images.{Reaches, to_block}
use Rattle.fo_tree_read.specs.of_ports.State.{State}
use Rattle.fo_tree_read.specs.of_ports.Sources.{Form, Leaves, IsHung, depth_for, source_bytes}
use Rattle.fo_tree_read.specs.declared.tree.Tree.{Tree}
use Rattle.fo_tree_read.specs.Tree.{kind_at, kind_down, block_at, address, held_leaf, Hangs, Names, Got, Way}
use Rattle.fo_tree_look.specs.declared.ways.Kept.{Kept}

-- A block of the source: one to which its tree leads, also past its end.
pub record HasBlock (s : State) (t : Tree) (at : ℕ) : Type 0 where
  pub down : ℕ
  pub index : ℕ
  pub within : down ≤ t.depth
  pub is : block_at s t down index ≡ Local at

abbrev pub form_of : Tree → ℕ → ℕ → Form
form_of t generation limit = record { kind = kind_at t.dir 0; tag = t.tag; rank = t.rank; generation = generation; limit = limit }

-- This is a block under this score and kind.
abbrev pub is_same : Kept → Score → ℕ → Bool
is_same x score kind = nat_eq x.kind kind && bytes_eq x.score.0 score.0

-- the bytes that are kept under a score and kind
abbrev pub find_kept : List Kept → Score → ℕ → Option (List ℕ)
find_kept [] score kind = None
find_kept (x ∷ rest) score kind = cond (is_same x score kind) (Some x.bytes) (find_kept rest score kind)

abbrev pub or_held : Option (List ℕ) → Option (List ℕ) → Option (List ℕ)
or_held None held = held
or_held (Some bytes) held = Some bytes

-- Blocks as a source sees them: what was kept is what is held, over any device.
abbrev pub seen : State → List Kept → State
seen s kept = record s { held = λ score kind. or_held (find_kept kept score kind) (s.held score kind) }

-- the address of leaf i, and the bytes of one that is named by its score, as they were kept or as they are held; nothing at the end and
-- past it
abbrev pub address_here : State → Tree → ℕ → Option ℕ
address_here s t i = cond (nat_lt (8192 * i) t.size) (address s t i) None

abbrev pub held_here : State → Tree → List Kept → ℕ → Option (List ℕ)
held_here s t kept i = cond (nat_lt (8192 * i) t.size) (held_leaf (seen s kept) t i) None

-- What a device that tells has of a block of the source with this top. One of an older epoch hangs from block 1, since no other is ever
-- copied; a current one from there, or from a block that was put nowhere yet. No block was made to come in its place but the source's top,
-- where that was raised over it, which is a current one.
pub record IsTold (s : State) (top : Pointer) (at : ℕ) : Type 0 where
  pub live : (s.label at).state ≡ Live
  pub up_to : (s.label at).epoch ≤ s.high
  pub uncovered : s.covered at → ⊥
  pub in_tree : (s.label at).epoch < s.high → Reaches s.now (to_block 1) at
  pub hung : IsHung s at
  pub alone : (y : ℕ) → s.instead y at → (top ≡ Local y) × ((s.label at).epoch ≡ s.high)

-- The leaves hold neither entries nor records.
abbrev pub IsPlainTree : Tree → Type 0
IsPlainTree t = (kind_at t.dir 0 ≡ Data 0) × (t.rank % 32 ≢ 16)

-- No leaf is under a score.
abbrev pub NoneHeld : State → Tree → Type 0
NoneHeld s t = (i : ℕ) (score : Score) → block_at s t t.depth i ≡ Held score → ⊥

-- What is kept is what is held, as far as the device tells.
abbrev pub AllHeld : State → List Kept → Type 0
AllHeld s [] = Unit {0}
AllHeld s (x ∷ rest) = (s.tells → s.held x.score x.kind ≡ Some x.bytes) × AllHeld s rest

-- What was kept still is, and all that is kept is what is held.
pub record Extends (s : State) (old new : List Kept) : Type 0 where
  pub more : List Kept
  pub is : new ≡ old ++ more
  pub held : AllHeld s new

-- A source stands over these blocks: it hangs there with the least depth for its size, and an empty one has no top. Where the device
-- tells, its blocks are live ones of epochs up to the high one, its top is put into no slot yet or hangs from block 1, and no leaf of
-- entries or records is under a score.
pub record Over (s : State) (t : Tree) (kept : List Kept) (limit : ℕ) : Type 0 where
  pub hangs : Hangs s t
  pub least : t.depth ≡ depth_for t.size
  pub within : t.size ≤ limit
  pub low : limit ≤ 2 ^ 47
  pub empty : t.size ≡ 0 → t.top ≡ Nil
  pub holds : PointerHolds t.top
  pub free : s.tells → (b : ℕ) → t.top ≡ Local b → s.apart b ⊎ Reaches s.now (to_block 1) b
  pub told : s.tells → (at : ℕ) → HasBlock s t at → IsTold s t.top at
  pub unheld : s.tells → (IsPlainTree t → ⊥) → NoneHeld s t
  pub held : AllHeld s kept

-- The label of a live block of this tag, of an epoch up to the high one.
pub record HasLabel (s : State) (tag at : ℕ) : Type 0 where
  pub live : (s.label at).state ≡ Live
  pub tagged : (s.label at).tag ≡ tag
  pub up_to : (s.label at).epoch ≤ s.high

-- A block was prepared: it is pinned and whole, and its label was looked at.
pub record IsPrepared (s : State) (kind : Kind) (tag at : ℕ) : Type 0 where
  pub is_pinned : s.pinned at
  pub live : (s.label at).state ≡ Live
  pub has_kind : (s.label at).kind ≡ kind
  pub tagged : (s.label at).tag ≡ tag
  pub up_to : (s.label at).epoch ≤ s.high
  pub long : length ((s.now at).bytes) ≡ 8192

-- A block is kept under this score and kind.
abbrev pub IsKept : List Kept → Score → ℕ → Type 0
IsKept kept score kind = (bytes : List ℕ) × (find_kept kept score kind ≡ Some bytes)

-- What a pointer names so many steps below the top is prepared. No leaf of entries or records under a score is.
abbrev pub Ready : State → Tree → List Kept → ℕ → Pointer → Type 0
Ready s t kept down Nil = Unit {0}
Ready s t kept down (Local at) = IsPrepared s (kind_down t down) t.tag at
Ready s t kept down (Held score) = IsKept kept score (kind_code (kind_down t down)) × (IsPlainTree t ⊎ (down < t.depth))

-- Block k of those so many steps below the top is prepared, and so are all above it.
abbrev pub WayReady : State → Tree → List Kept → ℕ → ℕ → Type 0
WayReady s t kept zero k = Ready s t kept zero t.top
WayReady s t kept (suc n) k = WayReady s t kept n (k / 409) × Ready s t kept (suc n) (block_at (seen s kept) t (suc n) k)

-- Block k of those so many steps below the top was got, and so were all above it.
abbrev pub WayGot : State → Tree → ℕ → ℕ → Type 0
WayGot s t n k = Way s t n k × Got s (kind_down t n) (block_at s t n k)

-- A walk went so many steps down and looked at each block: it came to this pointer, which is block k where the device tells or the way
-- was got.
pub record Looked (old new : State) (t : Tree) (kept : List Kept) (n k : ℕ) (p : Pointer) : Type 0 where
  pub found : old.tells ⊎ WayGot old t n k → p ≡ block_at (seen new kept) t n k
  pub ready : WayGot old t n k → WayReady new t kept n k
  pub is_one : (b : ℕ) → p ≡ Local b → new.is_block b
  pub is_kept : (score : Score) → p ≡ Held score → IsKept kept score (kind_code (kind_down t n))

-- The ways to bytes that the source has are prepared.
pub record WaysReady (s : State) (t : Tree) (kept : List Kept) (offset n : ℕ) : Type 0 where
  pub each : (k : ℕ) → offset ≤ k → k < offset + n → WayReady s t kept t.depth (k / 8192)

-- The ways to these bytes are prepared, and where they end past the source's end that to its last leaf.
pub record Prepared (s : State) (t : Tree) (kept : List Kept) (limit offset n : ℕ) : Type 0 where
  pub each : (k : ℕ) → offset ≤ k → k < offset + n → k < t.size → WayReady s t kept t.depth (k / 8192)
  pub last : t.size < offset + n → 0 < t.size → WayReady s t kept t.depth ((t.size - 1) / 8192)
  pub end : offset + n ≤ limit

-- The source's top is of the current epoch.
pub record IsTopCurrent (s : State) (t : Tree) : Type 0 where
  pub at : ℕ
  pub is : t.top ≡ Local at
  pub current : (s.label at).epoch ≡ s.high

-- what a source has over blocks
abbrev pub leaves_of : State → Tree → List Kept → ℕ → Leaves
leaves_of s t kept limit = record {
  at = address_here s t;
  held = held_here s t kept;
  named = Names s t;
  bytes = source_bytes (address_here s t) (held_here s t kept) s.now t.size;
  owns = HasBlock s t;
  prepared = Prepared s t kept limit;
  current = IsTopCurrent s t;
}
