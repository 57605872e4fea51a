use Rattle.std.proofs.Common.{sym, ◌∙◌}
use Rattle.fo_mind.proofs.Keeping.{none_held}
use Rattle.fo_mind.proofs.mind.Mind.hold.Goals as goal

pub bring_in-requires-clause-none : goal.bring_in-requires-clause-none
bring_in-requires-clause-none g c = none_held _ (sym c.is_held.ensures ∙ c.if-is_held.false)

pub returns-then-is_held-clause-source : goal.returns-then-is_held-clause-source
returns-then-is_held-clause-source g c = c.pin_held.ensures.source (g.D.Disk.state c.args.main.now).holds

pub returns-then-is_held-clause-brings : goal.returns-then-is_held-clause-brings
returns-then-is_held-clause-brings g c = c.pin_held.ensures.brings (g.D.Disk.state c.args.main.now).holds (g.D.Disk.faults c.args.main.now)

pub returns-then-is_held-clause-comes : goal.returns-then-is_held-clause-comes
returns-then-is_held-clause-comes g c = c.pin_held.ensures.comes (g.D.Disk.state c.args.main.now).holds
