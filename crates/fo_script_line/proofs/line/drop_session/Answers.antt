use Rattle.std.proofs.Common.{ap}
use Rattle.fo_script_line.specs.declared.line.Kept.{Kept}
use Rattle.fo_script_line.proofs.Doing.{done_drops}
use Rattle.fo_script_line.proofs.line.drop_session.Goals as goal

pub returns-clause-drops : goal.returns-clause-drops
returns-clause-drops g c = done_drops _ _ _ _ c.let_all_go.ensures.gone (ap (λ (k : Kept). k.moment) c.allow.ensures) (ap (λ (k : Kept). k.limits) c.allow.ensures)
