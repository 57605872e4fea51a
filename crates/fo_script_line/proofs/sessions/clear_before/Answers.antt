use Rattle.std.proofs.Common.{◌∙◌, sym}
use Rattle.fo_script_line.proofs.Doing.{clears_none, clears_all}
use Rattle.fo_script_line.proofs.sessions.clear_before.Goals as goal

pub returns-then-is_version-clause-clears : goal.returns-then-is_version-clause-clears
returns-then-is_version-clause-clears g c = clears_all _ _ _ c.args.request.now _ _ (sym c.is_version.ensures ∙ c.if-is_version.true) c.let_all_go.ensures.gone

pub returns-else-is_version-clause-clears : goal.returns-else-is_version-clause-clears
returns-else-is_version-clause-clears g c = clears_none _ _ _ c.args.request.now _ (sym c.is_version.ensures ∙ c.if-is_version.false)
