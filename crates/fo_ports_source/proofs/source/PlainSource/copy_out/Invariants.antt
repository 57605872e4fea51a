use Rattle.std.proofs.Common.{◌≡◌, ◌⊎◌, ◌+◌, ◌-◌, ◌/◌, ◌≤◌, ◌<◌, ℕ, length, slice_index, Some}
use Rattle.fo_image.specs.declared.types.Kind.TheVariants.{Data}
use Rattle.fo_ports.specs.State.{Looks}
use Rattle.fo_ports.specs.Sources.{Finds}
use Rattle.fo_ports_source.specs.Source.{leaf_of, byte_of, leaves_for, Prepared, Spent}
use Rattle.fo_ports_source.proofs.source.PlainSource.copy_out.Given as goal

abbrev pub invariant-loop-done : goal.invariant-loop-done
invariant-loop-done g l =
    let found = Finds (g.B.Blocks.state l.initial.on).tells (leaves_for (length l.initial.into)) (g.B.Blocks.state l.initial.on).pins_left (Prepared (g.B.Blocks.state l.initial.on) l.self.kind l.self.tag l.self.size l.self.leaves.items l.offset (length l.initial.into)) in
    record {
      within : l.done ≤ length l.into;
      looks : Looks (g.B.Blocks.state l.initial.on) (g.B.Blocks.state l.on);
      keeps : g.B.Blocks.keeps l.initial.on l.on;
      given : l.self.kind ≡ Data 0 → found → (i : ℕ) → i < l.done → slice_index l.into i ≡ byte_of (leaf_of l.self.leaves.items) (g.B.Blocks.state l.on).now (l.offset + i);
      known : found → (k at : ℕ) → l.offset ≤ k → k < l.offset + l.done → leaf_of l.self.leaves.items (k / 8192) ≡ Some at → (g.B.Blocks.state l.on).tells ⊎ (g.B.Blocks.state l.on).pinned at;
      spent : Spent (length l.into) l.offset l.done (g.B.Blocks.state l.initial.on).pins_left (g.B.Blocks.state l.on).pins_left;
    }

abbrev pub decreases-loop-done : goal.decreases-loop-done
decreases-loop-done g l = length l.initial.into - l.done
