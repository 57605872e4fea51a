use Rattle.std.proofs.Common.{◌≡◌, ◌⊎◌, ◌+◌, ◌-◌, ◌/◌, ◌≤◌, ◌<◌, ℕ, length, slice_index, false}
use Rattle.fo_looks.specs.of_ports.State.{Looks}
use Rattle.fo_looks.specs.of_ports.Sources.{Finds}
use Rattle.fo_tree_read.specs.Tree.{byte}
use Rattle.fo_tree_read.specs.Reading.{LeafWay, most, Prepared, HasPassed, IsLocal}
use Rattle.fo_tree_read.proofs.tree.Tree.copy_out.Given as goal

abbrev pub invariant-loop-done : goal.invariant-loop-done
invariant-loop-done g l =
    let found = Finds (g.B.Blocks.state l.initial.on).tells (most l.self.depth (length l.initial.into)) (g.B.Blocks.state l.initial.on).pins_left (Prepared (g.B.Blocks.state l.initial.on) l.self l.offset (length l.initial.into)) in
    record {
      within : l.done ≤ length l.into;
      looks : Looks (g.B.Blocks.state l.initial.on) (g.B.Blocks.state l.on);
      keeps : g.B.Blocks.keeps l.initial.on l.on;
      given : l.self.dir ≡ false → found → (i : ℕ) → i < l.done → (g.B.Blocks.state l.initial.on).tells ⊎ IsLocal (g.B.Blocks.state l.on) l.self ((l.offset + i) / 8192) → slice_index l.into i ≡ byte (g.B.Blocks.state l.on) l.self (l.offset + i);
      known : found → (k : ℕ) → l.offset ≤ k → k < l.offset + l.done → (g.B.Blocks.state l.on).tells ⊎ LeafWay (g.B.Blocks.state l.on) l.self (k / 8192);
      been : HasPassed (g.B.Blocks.state l.on) l.self (g.B.Blocks.state l.initial.on).pins_left l.offset l.done;
    }

abbrev pub decreases-loop-done : goal.decreases-loop-done
decreases-loop-done g l = length l.initial.into - l.done
