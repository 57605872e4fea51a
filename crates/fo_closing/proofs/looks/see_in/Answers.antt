use Rattle.std.proofs.Common.{sym, ◌∙◌}
use Rattle.fo_mind.proofs.Changing.{changing_same}
use Rattle.fo_mind.proofs.Keeping.{holding_same, owing_same, roomy_same, waiting_same}
use Rattle.fo_mind.proofs.Results.{on_ok}
use Rattle.fo_mind.proofs.Standing.{standing_same}
use Rattle.fo_mind.proofs.Turning.{same_held}
use Rattle.fo_closing.proofs.Looking.{seen_at_once, seen_then, unseen}
use Rattle.fo_closing.proofs.looks.see_in.Goals as goal

pub returns-then-is_seen-clause-seen : goal.returns-then-is_seen-clause-seen
returns-then-is_seen-clause-seen g c = seen_at_once (g.D.Disk.state c.args.main.now).holds c.args.at c.args.mind.now.buffers (sym c.is_seen.ensures ∙ c.if-is_seen.true)

pub see-requires-clause-none : goal.see-requires-clause-none
see-requires-clause-none g c = (unseen _ _ (sym c.is_seen.ensures ∙ c.if-is_seen.false)).0

pub see-requires-clause-unclean : goal.see-requires-clause-unclean
see-requires-clause-unclean g c = (unseen _ _ (sym c.is_seen.ensures ∙ c.if-is_seen.false)).1

pub invariant_of-mind-clause-holding : goal.invariant_of-mind-clause-holding
invariant_of-mind-clause-holding g c = holding_same c.see.ensures.held c.args.mind.now.holding

pub invariant_of-mind-clause-waiting : goal.invariant_of-mind-clause-waiting
invariant_of-mind-clause-waiting g c = waiting_same c.see.ensures.held c.args.mind.now.waiting

pub invariant_of-mind-clause-owing : goal.invariant_of-mind-clause-owing
invariant_of-mind-clause-owing g c = owing_same c.see.ensures.held c.args.mind.now.owing

pub invariant_of-mind-clause-roomy : goal.invariant_of-mind-clause-roomy
invariant_of-mind-clause-roomy g c = roomy_same c.see.ensures.room c.args.mind.now.roomy

pub invariant_of-mind-clause-turning : goal.invariant_of-mind-clause-turning
invariant_of-mind-clause-turning g c = same_held c.see.ensures.held c.args.mind.now.turning

pub returns-clause-seen : goal.returns-clause-seen
returns-clause-seen g c =
    let none = (unseen _ _ (sym c.is_seen.ensures ∙ c.if-is_seen.false)).0 in
    on_ok c.see.result (λ s. seen_then none (c.see.ensures.held c.args.at) s) c.see.ensures.ok

pub invariant_of-mind-clause-standing : goal.invariant_of-mind-clause-standing
invariant_of-mind-clause-standing g c = standing_same c.see.ensures.held c.args.mind.now.standing

pub invariant_of-mind-clause-changing : goal.invariant_of-mind-clause-changing
invariant_of-mind-clause-changing g c = changing_same c.see.ensures.held c.args.mind.now.changing
