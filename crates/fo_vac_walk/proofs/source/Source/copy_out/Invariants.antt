use Rattle.std.proofs.Common.{length, ◌-◌, ◌≡◌, ◌+◌, ◌<◌, ◌≤◌, ℕ, slice_index}
use Rattle.fo_crash.specs.Images.{Link}
use Rattle.fo_vac_walk.specs.Walk.{Holding, IsTold, IsSourceOf, byte_of}
use Rattle.fo_vac_walk.proofs.source.Source.copy_out.Given as goal

abbrev pub invariant-loop-done : goal.invariant-loop-done
invariant-loop-done g l = record {
  within : l.done ≤ length l.into;
  shelf : l.arena.shelf ≡ l.initial.arena.shelf;
  kept : g.A.Disk.state l.arena.device ≡ g.A.Disk.state l.initial.arena.device;
  later : g.A.Disk.faults l.initial.arena.device ≤ g.A.Disk.faults l.arena.device;
  given : (h : Holding) (w : Link) → IsTold h l.initial.arena.shelf (g.A.Disk.state l.initial.arena.device) → IsSourceOf w l.self.entry → (i : ℕ) → i < l.done → slice_index l.into i ≡ byte_of h w (l.offset + i);
}

abbrev pub decreases-loop-done : goal.decreases-loop-done
decreases-loop-done g l = length l.initial.into - l.done
