-- The world that an open archive stands for.
use Rattle.std.specs.Prelude.{[], ◌∷◌, false}
use Rattle.fo_world.specs.Dated.{dated_node}
use Rattle.fo_world.specs.World.{World}
use Rattle.fo_vac_open.specs.Tree.{archive_of}
use Rattle.fo_vac_walk.specs.Walk.{Holding}
use Rattle.fo_vac_files.specs.declared.opened.Opened.{Opened}

-- a world of one archive; its active tree is an empty directory
abbrev pub world_of : Holding → Opened → World
world_of h o = record {
  active = record { root = dated_node 0 0 };
  low = 1;
  high = 1;
  snaps = [];
  archives = archive_of h.lines h.stored o.score.0 o.found ∷ [];
  pending = 0;
  next = 1;
  halted = false;
  exclusive = [];
}
