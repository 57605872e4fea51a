use Rattle.std.proofs.Common.{true}
use Rattle.fo_world.specs.Step as step
use Rattle.fo_plain.specs.Kept.{kept}
use Rattle.nine_fids.proofs.Staying.{find_stays}
use Rattle.test_sessions.proofs.Staying.{answered_stays}
use Rattle.test_sessions.proofs.session.watched.WatchedFileOps.find.Goals as goal

pub returns-clause-keeps : goal.returns-clause-keeps
returns-clause-keeps c =
    let w = kept c.args.self.now.files in
    answered_stays (step.find true w c.args.at.now c.args.name.now) _ w (kept c.find.new.self) c.find.result (find_stays true w c.args.at.now c.args.name.now) (c.find.ensures.answer tt)

pub returns-clause-looks : goal.returns-clause-looks
returns-clause-looks c =
    let w = kept c.args.self.now.files in
    answered_stays (step.find true w c.args.at.now c.args.name.now) _ w (kept c.find.new.self) c.find.result (find_stays true w c.args.at.now c.args.name.now) (c.find.ensures.answer tt)
