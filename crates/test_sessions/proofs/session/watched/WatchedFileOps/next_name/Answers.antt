use Rattle.std.proofs.Common.{true}
use Rattle.std.specs.Option.{option_copied}
use Rattle.fo_world.specs.Step as step
use Rattle.fo_plain.specs.Kept.{kept}
use Rattle.nine_fids.proofs.Staying.{next_name_stays}
use Rattle.test_sessions.proofs.Staying.{answered_stays}
use Rattle.test_sessions.proofs.session.watched.WatchedFileOps.next_name.Goals as goal

pub returns-clause-keeps : goal.returns-clause-keeps
returns-clause-keeps c =
    let w = kept c.args.self.now.files in
    answered_stays (step.next_name true w c.args.at.now (option_copied c.args.after)) _ w (kept c.next_name.new.self) c.next_name.result (next_name_stays true w c.args.at.now (option_copied c.args.after)) (c.next_name.ensures.answer tt)

pub returns-clause-looks : goal.returns-clause-looks
returns-clause-looks c =
    let w = kept c.args.self.now.files in
    answered_stays (step.next_name true w c.args.at.now (option_copied c.args.after)) _ w (kept c.next_name.new.self) c.next_name.result (next_name_stays true w c.args.at.now (option_copied c.args.after)) (c.next_name.ensures.answer tt)
