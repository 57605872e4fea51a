use Rattle.std.proofs.Common.{sym, ◌∙◌}
use Rattle.fo_tree_read.proofs.Walk.{held_apart}
use Rattle.fo_tree_look.specs.Source.{find_kept}
use Rattle.fo_tree_look.proofs.pins.look_below.Goals as goal

pub returns-in-Score-clause-block : goal.returns-in-Score-clause-block
returns-in-Score-clause-block g c = λ b e. absurd (held_apart (find_kept c.args.kept.now c.in-Score.score c.kind_number-kind.result) c.args.i b (sym c.kept_pointer.ensures ∙ e))
