use Rattle.std.proofs.Common.{true}
use Rattle.fo_world.specs.Step as step
use Rattle.fo_plain.specs.Kept.{kept}
use Rattle.nine_fids.proofs.Staying.{parent_stays}
use Rattle.test_sessions.proofs.Staying.{answered_stays}
use Rattle.test_sessions.proofs.session.watched.WatchedFileOps.parent.Goals as goal

pub returns-clause-keeps : goal.returns-clause-keeps
returns-clause-keeps c =
    let w = kept c.args.self.now.files in
    answered_stays (step.parent true w c.args.at.now) _ w (kept c.parent.new.self) c.parent.result (parent_stays true w c.args.at.now) (c.parent.ensures.answer tt)

pub returns-clause-looks : goal.returns-clause-looks
returns-clause-looks c =
    let w = kept c.args.self.now.files in
    answered_stays (step.parent true w c.args.at.now) _ w (kept c.parent.new.self) c.parent.result (parent_stays true w c.args.at.now) (c.parent.ensures.answer tt)
