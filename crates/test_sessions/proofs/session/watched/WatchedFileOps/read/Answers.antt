use Rattle.std.proofs.Common.{true, length}
use Rattle.std.specs.Prelude.{take}
use Rattle.fo_world.specs.Step as step
use Rattle.fo_plain.specs.Kept.{kept}
use Rattle.nine_fids.proofs.Staying.{read_stays}
use Rattle.test_sessions.proofs.Staying.{filled_stays}
use Rattle.test_sessions.proofs.session.watched.WatchedFileOps.read.Goals as goal

pub returns-clause-keeps : goal.returns-clause-keeps
returns-clause-keeps c =
    let w = kept c.args.self.now.files in
    filled_stays (step.read true w c.args.at.now c.args.offset (length c.args.into.now)) (λ n. take n c.read.new.into) _ w (kept c.read.new.self) c.read.result (read_stays true w c.args.at.now c.args.offset (length c.args.into.now)) (c.read.ensures.answer tt)

pub returns-clause-looks : goal.returns-clause-looks
returns-clause-looks c =
    let w = kept c.args.self.now.files in
    filled_stays (step.read true w c.args.at.now c.args.offset (length c.args.into.now)) (λ n. take n c.read.new.into) _ w (kept c.read.new.self) c.read.result (read_stays true w c.args.at.now c.args.offset (length c.args.into.now)) (c.read.ensures.answer tt)
