-- The plain world that a device is opened as: the active tree, and along the chain of roots the snapshots (the Fossil paper, "Fossil,
-- an Archival File Server"; fossil(4) of the Plan 9 manual).
use Rattle.std.specs.Prelude.{◌≡◌, ℕ, List, [], ◌∷◌, ◌++◌, codes, false}
use Rattle.fo_sound.specs.of_disk.Disk.{Block}
use Rattle.fo_image.specs.declared.types.Super.{Super}
use Rattle.fo_crash.specs.Images.{Image, Arena}
use Rattle.fo_world.specs.declared.tree.Tree.{Tree}
use Rattle.fo_world.specs.declared.tree.Body.TheVariants.{Dir}
use Rattle.fo_world.specs.Names.{no_names}
use Rattle.fo_world.specs.World.{World, Snap}
use Rattle.fo_good.specs.Sound.{Kept, IsSound}
use Rattle.fo_good.specs.Reading.{tree_of}

-- The snapshots of the roots before this one, newest first, in ascending order. The root above a snapshot's says when it was taken.
abbrev pub snaps_of : Arena → Image → Kept → List Kept → List Snap
snaps_of arena image k [] = []
snaps_of arena image k (next ∷ rest) = snaps_of arena image next rest ++ record { epoch = next.root.epoch; time = k.root.time; tree = tree_of arena image next.at } ∷ []

-- The world of an image with this super block, this active root and these roots before it. No archive is there yet.
abbrev pub world_of : Arena → Image → Super → Kept → List Kept → World
world_of arena image s active older = record {
  active = tree_of arena image active.at;
  low = s.low;
  high = s.high;
  snaps = snaps_of arena image active older;
  archives = [];
  pending = s.pending;
  next = s.numbers;
  halted = false;
  exclusive = [];
}

-- The devices are sound, and are opened as this world.
pub record OpensAs (device vault : List Block) (w : World) : Type 0 where
  pub arena : Arena
  pub s : Super
  pub active : Kept
  pub older : List Kept
  pub image : Image
  pub sound : IsSound arena device vault s active older image
  pub is : w ≡ world_of arena image s active older

-- the empty world that a device was formatted with at a moment: a root of mode DMDIR and 0777, of `adm`
abbrev pub fresh_tree : ℕ → Tree
fresh_tree time = record { root = record { number = 0; vers = 0; mode = 0x800001ff; atime = time; mtime = time; uid = codes "adm"; gid = codes "adm"; muid = codes "adm"; body = Dir no_names } }

abbrev pub fresh_world : ℕ → World
fresh_world time = record { active = fresh_tree time; low = 1; high = 1; snaps = []; archives = []; pending = 0; next = 1; halted = false; exclusive = [] }
