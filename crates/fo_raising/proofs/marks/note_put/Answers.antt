use Rattle.std.proofs.Common.{List, sym, subst}
use Rattle.fo_facts.specs.declared.fact.Fact.{Fact}
use Rattle.fo_raising.specs.Raised.{KeepsCounts, Marked}
use Rattle.fo_raising.proofs.Noting.{keeps_noted, marked_noted}
use Rattle.fo_raising.proofs.marks.note_put.Goals as goal

pub returns-clause-marked : goal.returns-clause-marked
returns-clause-marked c = subst (λ (fs : List Fact). Marked c.args.at c.args.to c.args.raised c.args.facts.now fs) (sym c.hang.ensures) (marked_noted c.args.facts.now c.args.at c.args.to c.args.raised c.requires.at c.requires.to)

pub returns-clause-counts : goal.returns-clause-counts
returns-clause-counts c = subst (λ (fs : List Fact). KeepsCounts c.args.facts.now fs) (sym c.hang.ensures) (keeps_noted c.args.facts.now c.args.at c.args.to c.args.raised c.requires.at (λ b e. (c.requires.to b e).0))
