use Rattle.std.proofs.Common.{◌≡◌, ◌*◌, ◌<◌, ℕ, take, drop}
use Rattle.fo_image.specs.declared.types.Kind.{Kind}
use Rattle.fo_crash.specs.declared.slot.Slot.TheVariants.{Pointer as To}
use Rattle.fo_tree_look.specs.of_tree_read.Tree.{score_of}
use Rattle.fo_tree_own.specs.Step.{IsBare, Filled}
use Rattle.fo_tree_own.proofs.fill.fill_slots.Given as goal

abbrev pub invariant-loop-i : goal.invariant-loop-i
invariant-loop-i g l = record {
  filled : Filled l.at (g.B.Blocks.state l.initial.on) (g.B.Blocks.state l.on);
  bare : (kind : Kind) → IsBare (g.B.Blocks.state l.initial.on) kind l.at → IsBare (g.B.Blocks.state l.on) kind l.at;
  keeps : g.B.Blocks.keeps l.initial.on l.on;
  content : (j : ℕ) → j < l.i → ((g.B.Blocks.state l.on).now l.at).slot j ≡ To (score_of (take 20 (drop (20 * j) l.bytes)));
  bytes : ((g.B.Blocks.state l.on).now l.at).bytes ≡ ((g.B.Blocks.state l.initial.on).now l.at).bytes;
}
