use Rattle.std.proofs.Common.{◌≡◌, ◌≤◌}
use Rattle.std.specs.List.{flat_map, range_with_len}
use Rattle.fo_crash.specs.Images.{Link}
use Rattle.fo_good.specs.Reading.{leaf_records}
use Rattle.fo_vac_walk.specs.Walk.{Holding, IsTold, IsSourceOf, bytes_of, leaf_of}
use Rattle.fo_vac_dir.specs.Choice.{test_of, least, OneHolds}
use Rattle.fo_vac_dir.proofs.folder.Folder.record.Given as goal

abbrev pub invariant-leaves : goal.invariant-leaves
invariant-leaves g l = record {
  shelf : l.arena.shelf ≡ l.initial.arena.shelf;
  kept : g.A.Disk.state l.arena.device ≡ g.A.Disk.state l.initial.arena.device;
  later : g.A.Disk.faults l.initial.arena.device ≤ g.A.Disk.faults l.arena.device;
  holds : OneHolds l.best;
  given : (h : Holding) (meta : Link) → IsTold h l.initial.arena.shelf (g.A.Disk.state l.initial.arena.device) → IsSourceOf meta l.self.meta.entry
      → l.best ≡ least (test_of l.wanted) (flat_map (λ k. leaf_records (bytes_of h (leaf_of h meta k))) (range_with_len 0 l.k));
}
