use Rattle.std.proofs.Common.{length}
use Rattle.fo_plain.specs.Kept.{kept}
use Rattle.fo_plain.proofs.Causes.{read-own, answer-cause}
use Rattle.fo_plain.proofs.plain.PlainFilesFileOps.read.Goals as goal

pub returns-clause-cause : goal.returns-clause-cause
returns-clause-cause c = answer-cause _ _ _ _ 0 (read-own (kept c.args.self.now) c.args.at.now c.args.offset (length c.args.into.now)) c.look_into.ensures
