use Rattle.fo_mind.specs.MindParts.{parts}
use Rattle.fo_mind.proofs.Getting.{from_held, is_held, nothing_brought, not_first, ranks_in}
use Rattle.fo_mind.proofs.Results.{on_ok, damaged}
use Rattle.fo_mind.proofs.Coming.{comes_at_once}
use Rattle.fo_mind.proofs.mind.Mind.obtain.Goals as goal

pub returns-then-not-may_get-clause-brings : goal.returns-then-not-may_get-clause-brings
returns-then-not-may_get-clause-brings g c = nothing_brought _ c.args.at

pub returns-then-is_pinned-clause-got : goal.returns-then-is_pinned-clause-got
returns-then-is_pinned-clause-got g c = on_ok c.copy_out.result (λ f. f _ _) c.copy_out.ensures.got

pub returns-then-is_pinned-clause-source : goal.returns-then-is_pinned-clause-source
returns-then-is_pinned-clause-source g c = on_ok c.copy_out.result (from_held (g.D.Disk.state c.args.main.now).holds c.args.at c.args.self.now.buffers _) c.copy_out.ensures.is

pub returns-then-is_pinned-clause-again : goal.returns-then-is_pinned-clause-again
returns-then-is_pinned-clause-again g c = λ pinned is_kind ranked.
    let self = c.args.self.now in
    c.copy_out.ensures.again (ranks_in (parts self (g.D.Disk.state c.args.main.now).holds (g.D.Disk.faults c.args.main.now)) self.first self.count c.args.at c.args.kind is_kind (not_first c.args.at self.placed.begins self.holding (is_held _ pinned)) c.args.rank pinned ranked)

pub returns-then-is_pinned-clause-brings : goal.returns-then-is_pinned-clause-brings
returns-then-is_pinned-clause-brings g c = nothing_brought _ c.args.at

pub returns-then-is_pinned-clause-cause : goal.returns-then-is_pinned-clause-cause
returns-then-is_pinned-clause-cause g c = damaged _ _ _ c.args.at c.copy_out.result c.copy_out.ensures.cause

pub returns-then-not-may_get-clause-comes : goal.returns-then-not-may_get-clause-comes
returns-then-not-may_get-clause-comes g c = comes_at_once (g.D.Disk.state c.args.main.now).holds c.args.at c.args.self.now.buffers

pub returns-then-is_pinned-clause-comes : goal.returns-then-is_pinned-clause-comes
returns-then-is_pinned-clause-comes g c = comes_at_once (g.D.Disk.state c.args.main.now).holds c.args.at c.args.self.now.buffers
