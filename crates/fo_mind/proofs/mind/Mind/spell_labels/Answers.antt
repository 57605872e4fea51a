use Rattle.fo_mind.proofs.mind.Mind.spell_labels.Goals as goal

pub spell-requires-clause-labels : goal.spell-requires-clause-labels
spell-requires-clause-labels c = record { each = λ at block. c.args.self.now.labelled.each at (block.from, block.to) }
