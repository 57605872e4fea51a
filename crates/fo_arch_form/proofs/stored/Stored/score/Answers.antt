use Rattle.std.proofs.Common.{◌∙◌}
use Rattle.fo_arch_form.proofs.Map.{real_score}
use Rattle.fo_arch_form.proofs.stored.Stored.score.Goals as goal

pub returns-clause-score : goal.returns-clause-score
returns-clause-score c = real_score c.args.self.now.scores c.args.self.now.real (c.args.at, c.args.kind) c.copied.result (c.copied.ensures ∙ c.get.ensures.value)
