use Rattle.std.proofs.Common.{◌≡◌, ◌≤◌, ℕ, List, drop}
use Rattle.fo_image.specs.Record.{RecordHolds}
use Rattle.fo_world.specs.declared.tree.Node.{Node}
use Rattle.fo_world.specs.Tree.{along}
use Rattle.fo_vac_walk.specs.Walk.{Holding, IsTold}
use Rattle.fo_vac_files.specs.declared.opened.Opened.{Opened}
use Rattle.fo_vac_files.specs.Stands.{Stands, Along}
use Rattle.fo_vac_files.proofs.reach.follow.Given as goal

abbrev pub invariant-steps : goal.invariant-steps
invariant-steps g l = record {
  shelf : l.arena.shelf ≡ l.initial.arena.shelf;
  kept : g.A.Disk.state l.arena.device ≡ g.A.Disk.state l.initial.arena.device;
  later : g.A.Disk.faults l.initial.arena.device ≤ g.A.Disk.faults l.arena.device;
  holds : RecordHolds l.here.named;
  along : (h : Holding) (o : Opened) (n : List ℕ × Node) → IsTold h l.initial.arena.shelf (g.A.Disk.state l.initial.arena.device) → Stands h o l.fn.from n → Along h o (along l.trail n) (drop l.k l.trail) l.here;
}
