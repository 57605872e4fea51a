-- A plain source: the addresses of its leaves, and what it needs of the blocks.
use Rattle.std.specs.Prelude.{◌≡◌, ◌⊎◌, ◌+◌, ◌*◌, ◌/◌, ◌%◌, ◌^◌, ◌<◌, ◌≤◌, ℕ, List, length, slice_index, slice_index_or, Option, Some, None}
use Rattle.fo_image.specs.declared.types.Kind.{Kind}
use Rattle.fo_image.specs.declared.types.Kind.TheVariants.{Data, Dir}
use Rattle.fo_image.specs.declared.types.Label.{Label}
use Rattle.fo_image.specs.declared.types.State.TheVariants.{Live}
use Rattle.fo_crash.specs.Images.{Image, Reaches, to_block}
use Rattle.fo_crash.specs.Places.{place}
use Rattle.fo_ports.specs.State.{State}
use Rattle.fo_ports.specs.Sources.{Form, IsHung, Leaves, byte_at, source_bytes}

-- the leaf of a number
abbrev pub leaf_of : List (Option ℕ) → ℕ → Option ℕ
leaf_of leaves i = slice_index_or leaves i None

-- a byte of the source: 0 where no leaf stands
abbrev pub byte_of : (ℕ → Option ℕ) → Image → ℕ → ℕ
byte_of leaves now k = byte_at now (leaves (k / 8192)) None (k % 8192)

-- how many leaves so many bytes touch at most
abbrev pub leaves_for : ℕ → ℕ
leaves_for n = n / 8192 + 2

-- A block is a leaf of the source.
pub record HasLeaf (leaves : List (Option ℕ)) (at : ℕ) : Type 0 where
  pub number : ℕ
  pub is : leaf_of leaves number ≡ Some at

abbrev pub form_of : Kind → ℕ → ℕ → List (Option ℕ) → Form
form_of kind tag rank leaves = record { kind = kind; tag = tag; rank = rank; generation = 0; limit = 8192 * length leaves }

-- A label is one of a leaf of this kind and tag: that of a live block, of an epoch up to the high one.
pub record HasLabel (high : ℕ) (kind : Kind) (tag : ℕ) (l : Label) : Type 0 where
  pub is_live : l.state ≡ Live
  pub has_kind : l.kind ≡ kind
  pub has_tag : l.tag ≡ tag
  pub up_to : l.epoch ≤ high

-- What a device that tells has of a leaf. The source puts it into no slot, so the index of its place is 0. It hangs in memory, so that
-- others leave it its place (block 1 is a top); and a leaf of an older epoch hangs from block 1, since no other block is ever copied.
pub record IsTold (s : State) (kind : Kind) (tag rank at : ℕ) : Type 0 where
  pub labelled : HasLabel s.high kind tag (s.label at)
  pub there : s.stands at (place kind tag 0 rank)
  pub uncovered : s.covered at → ⊥
  pub active : s.tops 1
  pub hung : IsHung s at
  pub in_tree : (s.label at).epoch < s.high → Reaches s.now (to_block 1) at

-- A block may be a leaf of a source of this kind, tag and rank: over a device that tells nothing it is just a block.
pub record IsLeaf (s : State) (kind : Kind) (tag rank at : ℕ) : Type 0 where
  pub is_one : s.is_block at
  pub told : s.tells → IsTold s kind tag rank at

-- A source stands over these blocks: its leaves are blocks, and none lies past its end. Where the device tells they are different
-- ones, and each byte past its end is 0.
pub record Over (s : State) (kind : Kind) (tag rank size : ℕ) (leaves : List (Option ℕ)) : Type 0 where
  pub leaf : (i at : ℕ) → leaf_of leaves i ≡ Some at → IsLeaf s kind tag rank at
  pub apart : s.tells → (i j at : ℕ) → leaf_of leaves i ≡ Some at → leaf_of leaves j ≡ Some at → i ≡ j
  pub none : (i : ℕ) → size ≤ 8192 * i → leaf_of leaves i ≡ None
  pub tail : s.tells → (k : ℕ) → size ≤ k → byte_of (leaf_of leaves) s.now k ≡ 0
  pub within : size ≤ 8192 * length leaves
  pub few : length leaves < 2 ^ 32
  pub leaf_kind : (kind ≡ Data 0) ⊎ (kind ≡ Dir 0)

-- A leaf of this kind and tag was got or given out: it is pinned, and whole.
pub record IsHeld (s : State) (kind : Kind) (tag at : ℕ) : Type 0 where
  pub labelled : HasLabel s.high kind tag (s.label at)
  pub is_pinned : s.pinned at
  pub long : length ((s.now at).bytes) ≡ 8192

-- The leaves of so many bytes from an offset on are held, and so is the last leaf of a source that ends before them.
pub record Prepared (s : State) (kind : Kind) (tag size : ℕ) (leaves : List (Option ℕ)) (offset n : ℕ) : Type 0 where
  pub each : (k at : ℕ) → offset ≤ k → k < offset + n → leaf_of leaves (k / 8192) ≡ Some at → IsHeld s kind tag at
  pub last : (at : ℕ) → size < offset + n → leaf_of leaves (size / 8192) ≡ Some at → IsHeld s kind tag at
  pub limit : offset + n ≤ 8192 * length leaves

-- A leaf of the current epoch that is held.
pub record IsOwn (s : State) (kind : Kind) (tag rank at : ℕ) : Type 0 where
  pub leaf : IsLeaf s kind tag rank at
  pub held : IsHeld s kind tag at
  pub current : (s.label at).epoch ≡ s.high

-- There is this leaf, and it is of the current epoch.
pub record IsCurrent (s : State) (leaf : Option ℕ) : Type 0 where
  pub at : ℕ
  pub is : leaf ≡ Some at
  pub current : (s.label at).epoch ≡ s.high

-- Owning a leaf takes one block less than a tree would need: the source has more leaves than one, or the one that it has is of the
-- current epoch.
abbrev pub IsTopCurrent : State → ℕ → List (Option ℕ) → Type 0
IsTopCurrent s size leaves = (8192 < size) ⊎ IsCurrent s (leaf_of leaves 0)

-- what a plain source has over blocks
abbrev pub leaves_of : State → Kind → ℕ → ℕ → List (Option ℕ) → Leaves
leaves_of s kind tag size leaves = record {
  at = leaf_of leaves;
  held = λ i. None;
  named = λ score kind. ⊥;
  bytes = source_bytes (leaf_of leaves) (λ i. None) s.now size;
  owns = HasLeaf leaves;
  prepared = Prepared s kind tag size leaves;
  current = IsTopCurrent s size leaves;
}

-- The bytes from an offset on are these, and all others are as they were.
pub record Puts (old new : ℕ → ℕ) (offset : ℕ) (bytes : List ℕ) : Type 0 where
  pub within : (i : ℕ) → i < length bytes → new (offset + i) ≡ slice_index bytes i
  pub before : (k : ℕ) → k < offset → new k ≡ old k
  pub behind : (k : ℕ) → offset + length bytes ≤ k → new k ≡ old k

-- A walk over these bytes, leaf by leaf, has come to this place and spent at most one for each leaf.
pub record Spent (len offset done before now : ℕ) : Type 0 where
  pub is : ((done ≡ 0) × (before ≤ now)) ⊎ ((((offset + done) % 8192 ≡ 0) ⊎ (done ≡ len)) × (before + offset / 8192 ≤ now + (offset + done + 8191) / 8192))

-- A new source, without bytes.
pub record IsEmpty (is_kind : Kind) (is_tag is_rank size : ℕ) (leaves : List (Option ℕ)) (kind : Kind) (tag rank room : ℕ) : Type 0 where
  pub kind_is : is_kind ≡ kind
  pub tag_is : is_tag ≡ tag
  pub rank_is : is_rank ≡ rank
  pub as_long : length leaves ≡ room
  pub no_bytes : size ≡ 0
  pub no_leaf : (i : ℕ) → leaf_of leaves i ≡ None
