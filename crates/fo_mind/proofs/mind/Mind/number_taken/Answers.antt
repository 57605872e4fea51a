use Rattle.std.proofs.Common.{◌+◌, false}
use Rattle.fo_mind.specs.MindParts.{parts}
use Rattle.fo_mind.proofs.Still.{covered_counts, image_counts, keeps_counts, no_removal_counts, no_wait_counts, order_counts, stays_counts, uses_none}
use Rattle.fo_mind.proofs.mind.Mind.number_taken.Goals as goal

pub returns-clause-now : goal.returns-clause-now
returns-clause-now c = λ disk faults. let p = parts c.args.self.now disk faults in image_counts p (p.next + 1) false p.room p.removals

pub returns-clause-stays : goal.returns-clause-stays
returns-clause-stays c = λ disk faults. let p = parts c.args.self.now disk faults in stays_counts p (p.next + 1) false p.room p.removals

pub returns-clause-order : goal.returns-clause-order
returns-clause-order c = λ disk faults. let p = parts c.args.self.now disk faults in order_counts p (p.next + 1) false p.room p.removals

pub returns-clause-covered : goal.returns-clause-covered
returns-clause-covered c = λ disk faults. let p = parts c.args.self.now disk faults in covered_counts p (p.next + 1) false p.room p.removals

pub returns-clause-no_wait : goal.returns-clause-no_wait
returns-clause-no_wait c = λ disk faults. let p = parts c.args.self.now disk faults in no_wait_counts p (p.next + 1) false p.room p.removals

pub returns-clause-keeps : goal.returns-clause-keeps
returns-clause-keeps c = λ disk faults. let p = parts c.args.self.now disk faults in keeps_counts p (p.next + 1) false p.room p.removals

pub returns-clause-uses : goal.returns-clause-uses
returns-clause-uses c = λ disk faults. let p = parts c.args.self.now disk faults in uses_none p (p.next + 1) false

pub returns-clause-no_removal : goal.returns-clause-no_removal
returns-clause-no_removal c = λ disk faults. let p = parts c.args.self.now disk faults in no_removal_counts p (p.next + 1) false
