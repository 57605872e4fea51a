use Rattle.std.proofs.Common.{Option, ◌∙◌, ap, arith}
use Rattle.fo_check_tree.specs.declared.broken.Broken.{Broken}
use Rattle.fo_check_tree.specs.Follows.{Reaches, Follows}
use Rattle.fo_check_tree.specs.Follows.Follows.{held, local}
use Rattle.fo_check_tree.proofs.Adding.{on_ok}
use Rattle.fo_check_tree.proofs.Noting.{rules_lower}
use Rattle.fo_check_tree.proofs.blocks.follow.Goals as goal

pub returns-in-Score-clause-follows : goal.returns-in-Score-clause-follows
returns-in-Score-clause-follows g c device image shows = held c.in-Score.field-0 c.in-Score.is (c.note.ensures.same ∙ ap (λ (o : Option Broken). record c.args.walk.now { noted = o }) c.note.ensures.noted)

pub returns-in-Local-clause-follows : goal.returns-in-Local-clause-follows
returns-in-Local-clause-follows g c device image shows =
    on_ok c.follow_local.result (Reaches device image c.args.depth c.args.named c.args.step.now c.in-Local.address c.args.walk.now c.follow_local.new.walk) (Follows device image c.args.depth c.args.named c.args.step.now c.args.walk.now c.follow_local.new.walk)
    (λ r. local c.in-Local.address c.in-Local.is r) (c.follow_local.ensures.reaches device image shows)

pub returns-in-Score-clause-rules : goal.returns-in-Score-clause-rules
returns-in-Score-clause-rules g c = rules_lower c.args.walk.now.noted c.note.new.self.noted 9 c.args.step.now.holder.block (omega arith, omega arith) c.note.ensures.noted
