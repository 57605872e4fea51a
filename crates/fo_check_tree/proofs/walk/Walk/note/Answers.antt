use Rattle.std.proofs.Common.{◌≤◌, sym, subst}
use Rattle.fo_check_tree.specs.Lower.{level}
use Rattle.fo_check_tree.proofs.Levels.{level-lower}
use Rattle.fo_check_tree.proofs.walk.Walk.note.Goals as goal

pub returns-clause-level : goal.returns-clause-level
returns-clause-level c = subst (λ o. level o ≤ level c.args.self.now.noted) (sym c.lower-self.ensures) (level-lower c.args.self.now.noted c.args.rule c.args.block c.ranges.rule.fits).0

pub returns-clause-at : goal.returns-clause-at
returns-clause-at c = subst (λ o. level o ≤ c.args.rule) (sym c.lower-self.ensures) (level-lower c.args.self.now.noted c.args.rule c.args.block c.ranges.rule.fits).1
