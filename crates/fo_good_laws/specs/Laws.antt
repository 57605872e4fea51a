-- What is proved of sound and good images.
use Rattle.std.specs.Prelude.{◌≡◌, ℕ, ◌≤◌, List, [], length, Bool, false}
use Rattle.fo_disk.specs.Disk.{Block}
use Rattle.fo_image.specs.declared.types.Super.{Super}
use Rattle.fo_image.specs.declared.record.RootBlock.{RootBlock}
use Rattle.fo_crash.specs.Images.{Image, Arena, Link}
use Rattle.fo_world.specs.declared.tree.Body.TheVariants.{Dir}
use Rattle.fo_world.specs.Names.{no_names}
use Rattle.fo_world.specs.Tree.{node_of}
use Rattle.fo_world.specs.World.{World}
use Rattle.fo_world.specs.Fits.{WorldFits}
use Rattle.fo_sound.specs.Sizes.{HasSizes, IsArena}
use Rattle.fo_sound.specs.Sound.{IsBuilt}
use Rattle.fo_sound.specs.Sound as built
use Rattle.fo_sound.specs.Fresh.{IsFresh, fresh_super}
use Rattle.fo_good.specs.Trees.{IsDir}
use Rattle.fo_good.specs.Sound.{Kept, IsSound, IsSoundTree}
use Rattle.fo_good.specs.Reading.{stat_in}
use Rattle.fo_good.specs.Opened.{OpensAs, fresh_world}
use Rattle.fo_good.specs.Lost.{IsLostIn}
use Rattle.fo_good.specs.Touched.{no_file}
use Rattle.fo_good.specs.Good.{Good, ShowsAll}

-- ---- devices that were just formatted

-- They are sound, and are opened as the empty world.
abbrev pub FreshIsSound : Type 0
FreshIsSound = (device vault : List Block) (time : ℕ) → HasSizes device vault → IsArena vault 0 → IsFresh time device → OpensAs device vault (fresh_world time)

-- And as no other.
abbrev pub FreshIsEmpty : Type 0
FreshIsEmpty = (device vault : List Block) (time : ℕ) (w : World) → IsFresh time device → OpensAs device vault w → w ≡ fresh_world time

-- No block of them is lost.
abbrev pub FreshLosesNone : Type 0
FreshLosesNone = (arena : Arena) (device : List Block) (image : Image) (time at : ℕ) → IsFresh time device → IsLostIn device arena image (fresh_super (length device)) at → ⊥

-- ---- images without files and snapshots

-- the world of one: a root directory without names, and no snapshot
abbrev pub built_world : Super → RootBlock → World
built_world s r = record {
  active = record { root = node_of (stat_in r.own) (Dir no_names) };
  low = s.low;
  high = s.high;
  snaps = [];
  archives = [];
  pending = s.pending;
  next = s.numbers;
  halted = false;
  exclusive = [];
}

-- What the smaller definition says of one is enough for it to be sound, with this world.
abbrev pub BuiltIsSound : Type 0
BuiltIsSound = (device vault : List Block) (s : Super) (root : RootBlock) → HasSizes device vault → IsArena vault 0 → IsBuilt s root → built.IsSound device s root → OpensAs device vault (built_world s root)

-- It is so of each that is sound.
abbrev pub SoundIsBuilt : Type 0
SoundIsBuilt = (arena : Arena) (device vault : List Block) (s : Super) (active : Kept) (older : List Kept) (image : Image) → IsSound arena device vault s active older image → IsBuilt s active.root → built.IsSound device s active.root

-- ---- any sound image

abbrev pub WorldsFit : Type 0
WorldsFit = (device vault : List Block) (w : World) → OpensAs device vault w → WorldFits w

-- Names lead 64 directories down at most.
abbrev pub NamesEnd : Type 0
NamesEnd = (arena : Arena) (device : List Block) (image : Image) (numbers : ℕ) (active : Bool) (k : Kept) (trail : List ℕ) (entries meta : Link) → IsSoundTree arena device image numbers active k → IsDir arena image k.at trail entries meta → length trail ≤ 64

-- Nothing is stale, and nothing in doubt.
abbrev pub OpenedIsGood : Type 0
OpenedIsGood = (device vault : List Block) (w : World) → OpensAs device vault w → Good w no_file (λ v. ⊥) device vault

abbrev pub GoodShowsAll : Type 0
GoodShowsAll = (device vault : List Block) (w : World) → Good w no_file (λ v. ⊥) device vault → ShowsAll w device vault
