-- A cache opens over a quiet device that has a root with nothing below it, and no other block in use.
use Rattle.std.specs.Prelude.{◌≡◌, ◌≢◌, ◌<◌, ℕ, true, false, cond, nat_lt, Bool, List, [], ◌∷◌, length, slice_index_or}
use Rattle.fo_disk.specs.Disk.{Block, settled}
use Rattle.fo_disk.specs.Disk.{Content as Holds}
use Rattle.fo_image.specs.declared.types.Kind.TheVariants.{Root}
use Rattle.fo_image.specs.declared.types.Label.{Label}
use Rattle.fo_image.specs.declared.types.Pointer.TheVariants.{Local}
use Rattle.fo_image.specs.declared.types.State.TheVariants.{Closed}
use Rattle.fo_image.specs.Usable.{free_label, live_label, is_usable}
use Rattle.fo_labels.specs.Region.{Region, label_of}
use Rattle.fo_crash.specs.Images.{Content, target, to_block}
use Rattle.fo_cells.specs.Safe.{super_top}
use Rattle.fo_cells.specs.Device.{Mind}
use Rattle.fo_cells_all.specs.All.{Kept, Format}
use Rattle.fo_cells_turns.specs.Opening.{Opens, none_made, no_origins}
use Rattle.fo_cells_whole.specs.Whole.{HoldsWhole}

-- The format of a device: what the bytes of a block mean; the label of an address in its block of labels, and which block that is; the high
-- epoch that a super block spells; and which addresses are data blocks.
pub record Reading : Type 0 where
  pub read : ℕ → Block → Content
  pub label_in : ℕ → Block → Label
  pub label_block : ℕ → ℕ
  pub high_of : Content → ℕ
  pub is_data : ℕ → Bool

abbrev pub format_of : Reading → Format
format_of r = record { high_of = r.high_of; is_data = r.is_data }

-- the label of an address: what is no data block has none
abbrev pub label_at : Region → ℕ → Label
label_at labels b = cond (nat_lt b labels.first) free_label (label_of labels b)

abbrev pub block_at : List Block → ℕ → Block
block_at image b = slice_index_or image b []

-- WHAT A CACHE KEEPS WHERE IT OPENS over these blocks, with these labels, where the low epoch is the high one: memory is what the device has;
-- nothing is held, flagged, made, promised, or waits; block 1 is the only top.
abbrev pub opened_mind : Reading → List Block → Region → ℕ → Mind
opened_mind r image labels epoch = record {
  memory = λ b. r.read b (block_at image b);
  newborn = λ b. false;
  complete = λ b. false;
  tops = super_top ∷ [];
  label = λ b. label_at labels b;
  low = epoch;
  waits = [];
  clears = [];
  read = r.read;
  label_in = r.label_in;
  label_block = r.label_block;
}

abbrev pub opened : Reading → List Block → Region → ℕ → Kept
opened r image labels epoch = record {
  mind = opened_mind r image labels epoch;
  flags = record { dirty = λ b. false; wrote = λ b. false; failed = λ b. false };
  buffering = record { held = λ b. false; clean = [] };
  times = record { now = 0; changed = λ b. 0; wrote = λ b. 0; settled = λ b. 0 };
  region = labels;
  promises = record { spare = 0; pins = 0; removals = 0; copies = 0; waiting = 0 };
  space = record { buffers = 0; queue = 0; waits = 0; clears = 0 };
  high = epoch;
  doubts = [];
  active = super_top ∷ [];
  roots = [];
  past = [];
  queue = [];
}

-- A ROOT ALONE: block 1 leads to it by slot 0, and nowhere else; it leads nowhere, and its label is live, of the high epoch; whatever is closed
-- may be given out; and the blocks of labels have these labels.
pub record HasRootAlone (r : Reading) (image : List Block) (labels : Region) (root epoch : ℕ) : Type 0 where
  pub super_here : 1 < length image
  pub root_here : root < length image
  pub label_here : r.label_block root < length image
  pub other : root ≢ 1
  pub leads : (r.read 1 (block_at image 1)).slot 0 ≡ to_block root
  pub only : (i b : ℕ) → target ((r.read 1 (block_at image 1)).slot i) ≡ Local b → i ≡ 0
  pub empty : (i b : ℕ) → target ((r.read root (block_at image root)).slot i) ≡ Local b → ⊥
  pub high_is : r.high_of (r.read 1 (block_at image 1)) ≡ epoch
  pub spelled : (b : ℕ) → r.label_block b < length image → r.label_in b (block_at image (r.label_block b)) ≡ label_at labels b
  pub root_label : label_at labels root ≡ live_label Root 1 epoch
  pub usable : (b : ℕ) → (label_at labels b).state ≡ Closed → is_usable epoch (label_at labels b) ≡ true

-- It opens, and the whole holds.
abbrev pub AloneOpens : Type 0
AloneOpens = (r : Reading) (image : List Block) (labels : Region) (root epoch : ℕ) (unsure : List Bool) → HasRootAlone r image labels root epoch → Opens (opened r image labels epoch) (format_of r) unsure (settled image)

abbrev pub AloneIsWhole : Type 0
AloneIsWhole = (r : Reading) (image : List Block) (labels : Region) (root epoch : ℕ) (unsure : List Bool) → HasRootAlone r image labels root epoch → HoldsWhole (opened r image labels epoch) (format_of r) none_made no_origins unsure (settled image)

-- SOME CACHE KEEPS IT, over a device that tells what it holds.
abbrev pub SomeIsWhole : Type 0
SomeIsWhole = (c : Kept) × (f : Format) × (unsure : List Bool) × (holds : Holds) × (0 < length holds) × HoldsWhole c f none_made no_origins unsure holds
