-- What a test has made, and goes on with.
use Rattle.std.specs.Prelude.{◌≡◌, ◌≢◌, ℕ, true, false, length}
use Rattle.fo_image.specs.declared.types.Entry.{Entry}
use Rattle.fo_image.specs.declared.types.Kind.TheVariants.{Data, Dir}
use Rattle.fo_image.specs.declared.types.State.TheVariants.{Live}
use Rattle.fo_image.specs.declared.types.Pointer.TheVariants.{Local}
use Rattle.fo_crash.specs.declared.slot.Slot.TheVariants.{Entry as Head}
use Rattle.fo_crash.specs.declared.place.Place.{Place}
use Rattle.fo_crash.specs.Images.{target}
use Rattle.fo_ports.specs.Blocks.{no_entry}
use Rattle.fo_ports.specs.State.{State}

-- This address is a leaf of data, of this rank where the device tells.
pub record IsFound (s : State) (at rank : ℕ) : Type 0 where
  pub block : s.is_block at
  pub place : s.tells → (p : Place) → s.stands at p → (p.kind ≡ Data 0) × (p.rank ≡ rank)

-- an entry of a source of one leaf, 100 bytes long
abbrev pub short : ℕ → Entry
short leaf = record { generation = 3; active = true; dir = false; depth = 0; tag = 40; size = 100; top = Local leaf }

-- Entry 0 of a leaf of entries leads to a leaf of data, both of the current epoch.
pub record HasSource (s : State) (at leaf : ℕ) : Type 0 where
  pub at_pinned : s.pinned at
  pub at_live : (s.label at).state ≡ Live
  pub at_kind : (s.label at).kind ≡ Dir 0
  pub at_epoch : (s.label at).epoch ≡ s.high
  pub at_settled : s.clearing at 0 → ⊥
  pub entry : (s.now at).slot 0 ≡ Head (short leaf)
  pub leaf_live : (s.label leaf).state ≡ Live
  pub leaf_epoch : (s.label leaf).epoch ≡ s.high

-- an entry of a source of two leaves, below this top
abbrev pub two_leaves : ℕ → Entry
two_leaves top = record { generation = 1; active = true; dir = false; depth = 1; tag = 40; size = 16384; top = Local top }

-- The root block is a leaf of entries of the current epoch, with nothing in its first entry; and no slot waits to be cleared.
pub record HasRoot (s : State) : Type 0 where
  pub root_pinned : s.pinned s.root
  pub root_live : (s.label s.root).state ≡ Live
  pub root_kind : (s.label s.root).kind ≡ Dir 0
  pub root_epoch : (s.label s.root).epoch ≡ s.high
  pub empty : (s.now s.root).slot 0 ≡ Head no_entry
  pub settled : (b j : ℕ) → s.clearing b j → ⊥
  pub not_one : s.root ≢ 1

-- The first entry of the root block, which is of the current epoch, leads to a block of pointers, and that one's second pointer to a
-- leaf of data; both are of this epoch, and no slot waits to be cleared.
pub record HasTree (s : State) (top leaf epoch : ℕ) : Type 0 where
  pub root_pinned : s.pinned s.root
  pub root_live : (s.label s.root).state ≡ Live
  pub root_kind : (s.label s.root).kind ≡ Dir 0
  pub root_epoch : (s.label s.root).epoch ≡ s.high
  pub top_leads : target ((s.now s.root).slot 0) ≡ Local top
  pub top_pinned : s.pinned top
  pub top_live : (s.label top).state ≡ Live
  pub top_kind : (s.label top).kind ≡ Data 1
  pub top_epoch : (s.label top).epoch ≡ epoch
  pub leaf_leads : target ((s.now top).slot 1) ≡ Local leaf
  pub leaf_block : s.is_block leaf
  pub leaf_pinned : s.pinned leaf
  pub leaf_live : (s.label leaf).state ≡ Live
  pub leaf_kind : (s.label leaf).kind ≡ Data 0
  pub leaf_epoch : (s.label leaf).epoch ≡ epoch
  pub leaf_long : length ((s.now leaf).bytes) ≡ 8192
  pub settled : (b j : ℕ) → s.clearing b j → ⊥
  pub apart : (s.root ≢ 1) × (top ≢ 1) × (leaf ≢ 1)
  pub beside : (top ≢ s.root) × (leaf ≢ s.root)
