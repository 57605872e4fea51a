use Rattle.std.proofs.Common.{◌∙◌, sym}
use Rattle.fo_talk.proofs.Entries.{clears_none}
use Rattle.fo_talk.proofs.turns.clear_before.Goals as goal

pub returns-else-is_version-clause-clears : goal.returns-else-is_version-clause-clears
returns-else-is_version-clause-clears g c = clears_none _ c.args.request.now _ (sym c.is_version.ensures ∙ c.if-is_version.false)
