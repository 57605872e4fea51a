use Rattle.std.proofs.Common.{[], ◌∷◌, ◌++◌, ◌∙◌, sym}
use Rattle.fo_check_labels.specs.Known.{fresh}
use Rattle.fo_check_labels.proofs.Marking.{is_pushed}
use Rattle.fo_check_labels.proofs.labels.Labels.add_known.Goals as goal

pub returns-clause-added : goal.returns-clause-added
returns-clause-added c =
    let known = c.args.self.now.known.items in
    is_pushed c.push.result known (known ++ fresh c.args.address c.args.label ∷ []) c.push.new.self.items (sym c.is_err.ensures.value ∙ c.if-is_err.false) c.push.ensures.items
