use Rattle.std.proofs.Common.{◌∙◌, sym, subst}
use Rattle.std.specs.Prelude.{IfSome}
use Rattle.std.proofs.lemmas.Result.{IfOk-weaker}
use Rattle.fo_lines.specs.Line.{Spells}
use Rattle.fo_lines.proofs.LineLemmas.{line_spelled, line_read}
use Rattle.fo_lines.proofs.read.line_of.Goals as goal

pub returns-clause-found : goal.returns-clause-found
returns-clause-found c =
    IfOk-weaker c.read.result _ _ (λ o e. subst (λ x. IfSome x (λ l. Spells l c.args.bytes.now)) (sym e) (line_spelled c.args.bytes.now)) c.read.ensures

pub returns-clause-only : goal.returns-clause-only
returns-clause-only c = λ l s. IfOk-weaker c.read.result _ _ (λ o e. e ∙ line_read l c.args.bytes.now s) c.read.ensures
