-- Good images of the two devices: what holds of whatever a crash leaves.
use Rattle.std.specs.Prelude.{◌≡◌, ◌⊎◌, ℕ, ◌≤◌, true, List, [], Option, None}
use Rattle.std.specs.List.{Contains}
use Rattle.fo_sound.specs.of_disk.Disk.{Block, Content, IsImage, IsNewest, SinceBoth}
use Rattle.fo_image.specs.declared.types.Super.{Super}
use Rattle.fo_image.specs.declared.types.Score.{Score}
use Rattle.fo_crash.specs.Images.{Image, Arena}
use Rattle.fo_world.specs.World.{World, Snap}
use Rattle.fo_good.specs.Sound.{Kept, IsSound}
use Rattle.fo_good.specs.Reading.{root_node}
use Rattle.fo_good.specs.Opened.{snaps_of}
use Rattle.fo_good.specs.Touched.{Files, touched, either, no_file, file_at, same_there, KeepsFiles}

-- what a super block and a world both have
pub record Values : Type 0 where
  pub low : ℕ
  pub high : ℕ
  pub pending : ℕ
  pub last : Option Score

abbrev pub values_of : Super → Values
values_of s = record { low = s.low; high = s.high; pending = s.pending; last = s.last }

-- those of a world, where no archive is there yet
abbrev pub world_values : World → Values
world_values w = record { low = w.low; high = w.high; pending = w.pending; last = None }

-- The images are good for a world in which these files are stale. `doubt` has the values of the super block that was last tried and is
-- not known to be settled or overruled.
pub record Good (w : World) (stale : Files) (doubt : Values → Type 0) (device vault : List Block) : Type 0 where
  pub arena : Arena
  pub s : Super
  pub active : Kept
  pub older : List Kept
  pub image : Image
  pub sound : IsSound arena device vault s active older image
  pub values : (values_of s ≡ world_values w) ⊎ doubt (values_of s)
  pub snaps : (kept : Snap) → Contains w.snaps kept → s.low ≤ kept.epoch → Contains (snaps_of arena image active older) kept
  pub files : KeepsFiles stale w.active.root (root_node arena image active.at)
  pub archives : w.archives ≡ []  -- none yet
  pub numbers : w.next ≤ s.numbers

-- what a device tells: what it holds, and its moments, the newest first
pub record Device : Type 0 where
  pub holds : Content
  pub moments : List Content

-- what a state of the whole stands for
pub record Stands : Type 1 where
  pub world : World
  pub doubt : Values → Type 0
  pub main : Device
  pub arena : Device

-- Every image of what the devices hold now is good.
pub record AllGood (s : Stands) (stale : Files) : Type 0 where
  pub each : (device vault : List Block) → IsImage s.main.holds device → IsImage s.arena.holds vault → Good s.world stale s.doubt device vault

-- Within a step an image is good for the world before it or after it, with the doubt of before or the values that the step is to make.
abbrev pub GoodWithin : Stands → Stands → Files → World → List Block → List Block → Type 0
GoodWithin s s' stale goal device vault =
    Good s.world stale (λ v. s.doubt v ⊎ (v ≡ world_values goal)) device vault ⊎ Good s'.world stale s'.doubt device vault

-- what a step towards a world touches
abbrev pub reached : Stands → World → Files
reached s goal = touched s.world.active.root goal.active.root

-- A step that goes towards a world keeps all images good, whatever was stale before it: every image of every moment within, and every
-- image at its end, with the files that it touches stale as well.
pub record KeepsGood (s s' : Stands) (goal : World) : Type 0 where
  pub within : (stale : Files) → AllGood s stale → SinceBoth s.main.holds s'.arena.holds s.main.moments s'.main.moments s.arena.moments s'.arena.moments (GoodWithin s s' (either stale (reached s goal)) goal)
  pub after : (stale : Files) → AllGood s stale → AllGood s' (either stale (reached s goal))

-- A step after which nothing is stale: an acknowledged sync.
pub record Settles (s s' : Stands) : Type 0 where
  pub after : (stale : Files) → AllGood s stale → AllGood s' no_file

-- Steps one after another, from a state with a stale set to another: each adds what it touches, and an acknowledged sync empties the set.
pub data Steps : Stands → Files → Stands → Files → Type 1 where
  none : (s : Stands) (stale : Files) → Steps s stale s stale
  step : (s s' s'' : Stands) (goal : World) (stale stale'' : Files) → KeepsGood s s' goal → Steps s' (either stale (reached s goal)) s'' stale'' → Steps s stale s'' stale''
  sync : (s s' s'' : Stands) (stale stale'' : Files) → Settles s s' → Steps s' no_file s'' stale'' → Steps s stale s'' stale''

-- Both devices tell their moments, the newest of which is what they hold.
pub record Tell (s : Stands) : Type 0 where
  pub main : (blocks : ℕ) × IsNewest blocks s.main.holds s.main.moments
  pub arena : (blocks : ℕ) × IsNewest blocks s.arena.holds s.arena.moments

-- What an image has in which nothing is stale and nothing in doubt: it shows the world's values, each of its files and no other, and
-- each of its snapshots.
pub record ShowsAll (w : World) (device vault : List Block) : Type 0 where
  pub arena : Arena
  pub s : Super
  pub active : Kept
  pub older : List Kept
  pub image : Image
  pub sound : IsSound arena device vault s active older image
  pub epochs : (s.low ≡ w.low) × (s.high ≡ w.high) × (s.pending ≡ w.pending)
  pub files : (trail : List ℕ) → same_there (file_at w.active.root trail) (file_at (root_node arena image active.at) trail) ≡ true
  pub snaps : (kept : Snap) → Contains w.snaps kept → w.low ≤ kept.epoch → Contains (snaps_of arena image active older) kept
  pub numbers : w.next ≤ s.numbers
