-- A snapshot begins: all holds then.
use Rattle.std.specs.Prelude.{◌≡◌, ℕ, suc, Bool, List, [], ◌∷◌, ◌++◌}
use Rattle.fo_disk.specs.Disk.{Content as Holds}
use Rattle.fo_crash.specs.Images.{Content}
use Rattle.fo_cells.specs.Known.{Known}
use Rattle.fo_cells.specs.Safe.{super_top}
use Rattle.fo_cells.specs.Device.{known}
use Rattle.fo_cells_epochs.specs.Epochs.{HasEpochs, BeginsEpoch, FewerTops, begun, kept_root}
use Rattle.fo_cells_begin.specs.Begin.{BeginsQueue, ended, old_root}
use Rattle.fo_cells_all.specs.All.{Kept, Format, HoldsBeside}
use Rattle.fo_cells_steps.specs.Division.{HoldsMade, division}
use Rattle.fo_cells_turns.specs.Opening.{none_made, no_origins}

-- `first` is kept before the new root is given out, with nothing made; `c` just before the super block `s` counts, which names it; `d` then.
-- Nothing but block 1 and the new root changed between, and all is settled. (That trees and what is beside were kept between, each step says by
-- itself.)
pub record Snapshots (s : Content) (root next : ℕ) (first c d : Kept) (f : Format) (unsure : List Bool) (before holds : Holds) : Type 0 where
  pub active : first.active ≡ super_top ∷ []
  pub epochs : HasEpochs (known c.mind holds) first.high f.high_of c.doubts c.active first.roots
  pub mid : Known
  pub begins : BeginsEpoch s root next first.high (known c.mind holds) mid
  pub fewer : FewerTops c.active (super_top ∷ [])
  pub high_is : f.high_of s ≡ suc first.high
  pub known_is : known d.mind holds ≡ begun mid (super_top ∷ []) (kept_root root first.high ∷ first.roots)
  pub queue : BeginsQueue root next first.high (known first.mind before) (known d.mind holds) (division first none_made) first.queue
  pub beside : HoldsBeside d f unsure holds
  pub high_now : d.high ≡ suc first.high
  pub active_now : d.active ≡ super_top ∷ []
  pub roots_now : d.roots ≡ kept_root root first.high ∷ first.roots
  pub doubts_now : d.doubts ≡ []
  pub past_now : d.past ≡ first.past ++ ended first.high first.queue
  pub queue_now : d.queue ≡ old_root root

-- The removals of the epoch that ended are of an earlier one, the old root waits after block 1, and all holds.
abbrev pub SnapshotHolds : Type 0
SnapshotHolds = (s : Content) (root next : ℕ) (first c d : Kept) (f : Format) (unsure later : List Bool) (before holds : Holds) → Snapshots s root next first c d f later before holds → HoldsMade first f none_made no_origins unsure before → HoldsMade d f none_made no_origins later holds
