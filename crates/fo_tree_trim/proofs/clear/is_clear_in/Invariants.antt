use Rattle.std.proofs.Common.{◌≡◌, ◌<◌, ℕ}
use Rattle.fo_image.specs.declared.types.Pointer.TheVariants.{Nil}
use Rattle.fo_tree_read.specs.Tree.{kind_down, below}
use Rattle.fo_tree_look.specs.Source.{seen}
use Rattle.fo_tree_trim.proofs.clear.is_clear_in.Given as goal

abbrev pub invariant-loop-j : goal.invariant-loop-j
invariant-loop-j g l = (x : ℕ) → l.i < x → x < l.j → below (seen (g.B.Blocks.state l.on) l.kept) (kind_down l.tree l.down) l.above x ≡ Nil
