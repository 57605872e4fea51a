-- What memory has of closed and of older blocks where a cache opens, and what then is so.
use Rattle.std.specs.Prelude.{◌≡◌, ◌≢◌, ◌<◌, ◌≤◌, ◌↔◌, ℕ, suc, true, false, Bool, List}
use Rattle.std.specs.List.{Contains}
use Rattle.fo_disk.specs.Disk.{Content as Holds}
use Rattle.fo_image.specs.declared.types.State.TheVariants.{Closed}
use Rattle.fo_image.specs.Usable.{is_usable}
use Rattle.fo_crash.specs.Images.{Reaches, to_block}
use Rattle.fo_cells.specs.Device.{known}
use Rattle.fo_cells_epochs.specs.Epochs.{Root}
use Rattle.fo_cells_lost.specs.Lost.{AreShared}
use Rattle.fo_cells_all.specs.All.{Kept, Format}
use Rattle.fo_cells_steps.specs.Division.{division}
use Rattle.fo_cells_turns.specs.Opening.{Opens, none_made}
use Rattle.fo_cells_shown.specs.Closed.{ClosedAreKept}

-- In memory the block hangs from the kept root of the epoch before this one.
pub record HangsBefore (c : Kept) (epoch b : ℕ) : Type 0 where
  pub root : Root
  pub among : Contains c.roots root
  pub before : suc root.epoch ≡ epoch
  pub hangs : Reaches c.mind.memory (to_block root.at) b

-- What is closed and may not be given out yet hangs from the kept root of the epoch before that at which it was closed.
pub record ClosedHang (c : Kept) : Type 0 where
  pub closed : (b : ℕ) → b ≢ 1 → (c.mind.label b).state ≡ Closed → is_usable c.mind.low (c.mind.label b) ≡ false → HangsBefore c (c.mind.label b).closing b

-- What hangs from block 1 and was given out before the active epoch hangs from the kept root of the epoch before it, if that is not below
-- the low epoch.
pub record OlderHang (c : Kept) : Type 0 where
  pub older : (b : ℕ) → b ≢ 1 → Reaches c.mind.memory (to_block 1) b → (c.mind.label b).epoch < c.high → c.mind.low < c.high → HangsBefore c c.high b

-- LAWS
-- A CACHE OPENS: what is closed is in kept trees, and these share what hangs from block 1, exactly where memory has it so.
abbrev pub OpensClosed : Type 0
OpensClosed = (c : Kept) (f : Format) (unsure : List Bool) (holds : Holds) → Opens c f unsure holds → (ClosedHang c ↔ ClosedAreKept (known c.mind holds) c.roots)

abbrev pub OpensShared : Type 0
OpensShared = (c : Kept) (f : Format) (unsure : List Bool) (holds : Holds) → Opens c f unsure holds → (OlderHang c ↔ AreShared (known c.mind holds) (division c none_made) c.high c.roots c.past c.queue)

-- Both hold of a fresh device, and wherever all that is closed may be given out, and no epoch before the active one is kept.
abbrev pub FreshHangs : Type 0
FreshHangs = (c : Kept) → (((b : ℕ) → b ≢ 1 → (c.mind.label b).state ≡ Closed → is_usable c.mind.low (c.mind.label b) ≡ true) → ClosedHang c) × (c.high ≤ c.mind.low → OlderHang c)
