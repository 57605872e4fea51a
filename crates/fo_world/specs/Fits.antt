-- Worlds within the limits of names, users, epochs and moments, and what is then told of their files.
use Rattle.std.specs.Prelude.{◌^◌, ◌<◌, ⊤, All}
use Rattle.fo_world.specs.declared.tree.Node.{Node}
use Rattle.fo_world.specs.declared.tree.Body.{Body}
use Rattle.fo_world.specs.declared.tree.Body.TheVariants.{File, Dir}
use Rattle.fo_world.specs.declared.place.Info.{Info}
use Rattle.fo_world.specs.Names.{Stat, Names, no_names, file, folder}
use Rattle.fo_world.specs.Tree.{stat_of}
use Rattle.fo_world.specs.Limits.{IsName, IsUser}
use Rattle.fo_world.specs.World.{World, Snap, Archive}

-- its users are names of users
pub record StatFits (s : Stat) : Type 0 where
  pub uid : IsUser s.uid
  pub gid : IsUser s.gid
  pub muid : IsUser s.muid

-- each name is one of a file, and each file and directory fits, at all depths
abbrev pub NamesFit : Names → Type 0
NamesFit no_names = ⊤
NamesFit (file name stat bytes rest) = IsName name × StatFits stat × NamesFit rest
NamesFit (folder name stat inside rest) = IsName name × StatFits stat × NamesFit inside × NamesFit rest

abbrev pub BodyFits : Body → Type 0
BodyFits (File bytes) = ⊤
BodyFits (Dir names) = NamesFit names

pub record NodeFits (node : Node) : Type 0 where
  pub stat : StatFits (stat_of node)
  pub body : BodyFits node.body

pub record SnapFits (s : Snap) : Type 0 where
  pub epoch : s.epoch < 2 ^ 31
  pub time : s.time < 2 ^ 32
  pub tree : NodeFits s.tree.root

pub record ArchiveFits (a : Archive) : Type 0 where
  pub epoch : a.epoch < 2 ^ 31
  pub time : a.time < 2 ^ 32
  pub tree : NodeFits a.tree.root

-- all trees of a world fit
pub record WorldFits (w : World) : Type 0 where
  pub active : NodeFits w.active.root
  pub snaps : All SnapFits w.snaps
  pub archives : All ArchiveFits w.archives

-- What is told of a file fits a stat record: its name has 1 to 255 bytes, and its users have 1 to 64.
pub record InfoFits (i : Info) : Type 0 where
  pub name : IsName i.name
  pub uid : IsUser i.uid
  pub gid : IsUser i.gid
  pub muid : IsUser i.muid
