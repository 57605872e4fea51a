-- The state of `Blocks`, read off what a cache knows.
use Rattle.std.specs.List.{Contains}
use Rattle.std.specs.Prelude.{◌≡◌, ◌↔◌, ◌<◌, ◌≤◌, ℕ, Bool, List, [], Option, false, ◌≢◌, true}
use Rattle.fo_image.specs.declared.types.Label.{Label}
use Rattle.fo_image.specs.declared.types.Score.{Score}
use Rattle.fo_crash.specs.declared.place.Place.{Place}
use Rattle.fo_crash.specs.Images.{Content, Image, SameContent, Reaches, to_block}
use Rattle.fo_cells.specs.Known.{Known, IsWait, IsClear, IsLeft, Remains, Stands}
use Rattle.fo_image.specs.declared.types.Kind.TheVariants.{Dir}
use Rattle.fo_cells.specs.Laws.{Safe}
use Rattle.fo_cells.specs.Safe.{IsSet}
use Rattle.fo_ports.specs.State.{State, IsPairUsed}

-- what a state has beside what is known of each block
pub record Rest : Type 1 where
  pub apart : ℕ → Type 0
  pub instead : ℕ → ℕ → Type 0
  pub high : ℕ
  pub low : ℕ
  pub root : ℕ
  pub tops : ℕ → Type 0
  pub is_block : ℕ → Type 0
  pub held : Score → ℕ → Option (List ℕ)
  pub next : ℕ
  pub grants : Type 0
  pub limit : Content → ℕ
  pub tells : Type 0
  pub moments : ℕ
  pub left : ℕ → Image → Type 0
  pub doubt : Content → Type 0
  pub sure : ℕ → Type 0
  pub fresh : ℕ → Type 0
  pub sealed : ℕ → Type 0
  pub spare : ℕ
  pub pins_left : ℕ
  pub room : ℕ
  pub pinned : ℕ → Type 0
  pub usable : ℕ
  pub label_block : ℕ → ℕ
  pub dirty : ℕ → Type 0
  pub queued : ℕ
  pub removes : ℕ → ℕ → Bool → Type 0
  pub covered : ℕ → Type 0
  pub faults : ℕ
  pub arena_faults : ℕ

-- A wait is one on the list whose entry is in use in memory; there are images only where the device tells what it holds.
abbrev pub state_of : Known → Rest → State
state_of k x = record {
  now = k.memory;
  label = k.label;
  stands = λ b p. x.tells × Stands k b p;
  apart = x.apart;
  instead = x.instead;
  newborn = λ b. k.newborn b ≡ true;
  high = x.high;
  low = x.low;
  root = x.root;
  tops = x.tops;
  is_block = x.is_block;
  held = x.held;
  next = x.next;
  grants = x.grants;
  limit = x.limit;
  tells = x.tells;
  may_leave = λ image. x.tells × Remains k image;
  moments = x.moments;
  left = x.left;
  doubt = x.doubt;
  sure = x.sure;
  fresh = x.fresh;
  sealed = x.sealed;
  spare = x.spare;
  pins_left = x.pins_left;
  room = x.room;
  pinned = x.pinned;
  usable = x.usable;
  label_block = x.label_block;
  dirty = x.dirty;
  queued = x.queued;
  removes = x.removes;
  waits = λ a on j. IsWait k.waits a on j × IsPairUsed k.memory on j;
  clearing = λ b j. (leaf : ℕ) × IsClear k.clears b j leaf;
  covered = x.covered;
  holds = [];
  faults = x.faults;
  arena_faults = x.arena_faults;
}

-- A call that only looks at the device: each image of a moment that passed is one of the device as it is.
pub record Looked (k : Known) (x y : Rest) : Type 0 where
  pub tells : y.tells → x.tells
  pub still : x.tells → y.tells
  pub later : x.moments ≤ y.moments
  pub before : (n : ℕ) (image : Image) → n ≤ x.moments → y.left n image → x.left n image
  pub within : (n : ℕ) (image : Image) → x.moments < n → n ≤ y.moments → y.left n image → x.tells × ((labels : ℕ → Label) × IsLeft k image labels)
  pub tops : (t : ℕ) → x.tops t → (p : Place) × Stands k t p × (k.newborn t ≡ false)
  pub same_tops : (t : ℕ) → y.tops t → x.tops t
  pub marks : (b : ℕ) → (x.pinned b → y.pinned b) × (x.sealed b → y.sealed b) × (x.fresh b → y.fresh b)
  pub apart : (b : ℕ) → y.apart b ↔ x.apart b
  pub instead : (b a : ℕ) → y.instead b a ↔ x.instead b a
  pub covered : (b : ℕ) → y.covered b ↔ x.covered b
  pub dirty : (b : ℕ) → y.dirty b → x.dirty b
  pub room : (y.spare ≡ x.spare) × (y.room ≡ x.room)
  pub usable : (y.usable ≡ x.usable) × (y.queued ≡ x.queued)
  pub removes : (b e : ℕ) (whole : Bool) → y.removes b e whole → x.removes b e whole
  pub numbers : (y.next ≡ x.next) × (x.grants → y.grants)

-- No other slot waits less than before.
pub record OthersWait (at i : ℕ) (old new : Known) : Type 0 where
  pub each : (b j leaf : ℕ) → ((b ≡ at) × (j ≡ i) → ⊥) → IsClear old.clears b j leaf → IsClear new.clears b j leaf

-- A super block that leads where memory's leads, with a limit of file numbers that is no lower.
pub record RaisesLimit (d : Content) (k : Known) (x y : Rest) : Type 0 where
  pub slots : (i : ℕ) → d.slot i ≡ (k.memory 1).slot i
  pub limit : (c : Content) → SameContent c d → x.limit (k.memory 1) ≤ y.limit c

-- Nothing of a block is on the device or may come there, and no slot of it waits.
pub record IsFresh (k : Known) (b : ℕ) : Type 0 where
  pub newborn : k.newborn b ≡ true
  pub late : (c : Content) → Contains (k.late b) c → ⊥
  pub clears : (i leaf : ℕ) → IsClear k.clears b i leaf → ⊥

-- How the rest of a state is read off a cache.
pub record Reads (k : Known) (x : Rest) (doubts : List Content) : Type 0 where
  pub safe : x.tells → Safe k x.high doubts
  pub tops : (t : ℕ) → x.tops t → x.tells → (p : Place) × Stands k t p × (k.newborn t ≡ false)
  pub blocks : (b : ℕ) (p : Place) → b ≢ 1 → x.tells → Stands k b p → x.is_block b
  pub covered : (b : ℕ) → x.tells → x.covered b → Reaches k.memory (to_block 1) b → ⊥
  pub sure : (b : ℕ) → x.sure b → IsSet k b
  pub fresh : (b : ℕ) → x.fresh b → IsFresh k b
  pub doubt : (c : Content) → Contains doubts c → x.doubt c
  pub left : (image : Image) → x.left x.moments image → x.tells × ((labels : ℕ → Label) × IsLeft k image labels)
  pub settled : k.newborn 1 ≡ false
  pub waits : (at i leaf : ℕ) → IsClear k.clears at i leaf → ((k.label at).kind ≡ Dir 0) × ((k.label at).epoch ≡ x.high)
