use Rattle.std.proofs.Common.{List, sym, ◌∙◌, subst, arith}
use Rattle.fo_check_labels.specs.declared.labels.Labels.{Labels}
use Rattle.fo_check_tree.specs.Follows.Reaches.{again, enters}
use Rattle.fo_check_labels.specs.Known.{Marks, MarksNone}
use Rattle.fo_check_names.specs.declared.names.Named.{Named}
use Rattle.fo_check_tree.specs.Pairing.{MissesBy}
use Rattle.fo_check_tree.proofs.Noting.{rules_lower, rules_at}
use Rattle.fo_check_tree.proofs.blocks.follow_local.Goals as goal

pub returns-then-not-reach-clause-reaches : goal.returns-then-not-reach-clause-reaches
returns-then-not-reach-clause-reaches g c device image shows =
    again c.in_ok-label.label c.in_ok-label.ensures.answer
    (subst (λ (l : Labels). MarksNone c.args.address c.args.walk.now.labels.known.items l.known.items) (sym (c.miss.ensures.labels ∙ c.note.ensures.labels)) c.if-not-reach.ensures.marks)
    (c.miss.ensures.steps ∙ c.note.ensures.steps) (c.miss.ensures.folders ∙ c.note.ensures.folders) (c.miss.ensures.noted ∙ c.note.ensures.noted)
    (subst (λ (xs : List Named). MissesBy c.args.step.now c.args.step.now.kind xs c.miss.new.walk.named.items) c.note.ensures.named c.miss.ensures.named)

pub returns-clause-reaches : goal.returns-clause-reaches
returns-clause-reaches g c device image shows =
    let at = c.args.address in
    enters c.in_ok-label.label c.in_ok-label.ensures.answer
    (subst (λ (l : Labels). Marks c.args.address c.args.walk.now.labels.known.items l.known.items) (sym c.in_ok-enter.ensures.labels) c.if-not-reach.ensures.marks)
    (c.in_ok-enter.ensures.pushed device (image at) shows) (c.in_ok-enter.ensures.put device (image at) shows) c.in_ok-enter.ensures.notes (c.in_ok-enter.ensures.format device (image at) shows) (c.in_ok-enter.ensures.named device shows) (c.in_ok-enter.ensures.leaf device shows) (c.in_ok-enter.ensures.sought device (image at) shows) c.in_ok-enter.ensures.file
    (c.in_ok-enter.ensures.deep device (image at) shows) (c.in_ok-enter.ensures.clean device (image at) shows) (c.in_ok-enter.ensures.asks device (image at) shows) (c.in_ok-enter.ensures.eight device (image at) shows) (c.in_ok-enter.ensures.heads device (image at) shows)

pub returns-then-not-reach-clause-rules : goal.returns-then-not-reach-clause-rules
returns-then-not-reach-clause-rules g c = rules_lower c.args.walk.now.noted c.miss.new.walk.noted 7 c.args.address (omega arith, omega arith) (c.miss.ensures.noted ∙ c.note.ensures.noted)

pub returns-clause-rules : goal.returns-clause-rules
returns-clause-rules g c = rules_at c.args.address c.args.walk.now.noted c.enter.new.walk.noted c.in_ok-enter.ensures.notes
