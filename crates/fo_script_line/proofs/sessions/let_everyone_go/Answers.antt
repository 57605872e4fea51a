use Rattle.fo_script_line.proofs.Letting.{all_starts, all_more, not_fewer_then, not_fewer_same}
use Rattle.fo_script_line.proofs.sessions.let_everyone_go.Goals as goal

pub sessions-init : goal.sessions-init
sessions-init g c = record { gone = all_starts _ _ _; later = not_fewer_same _ }

pub sessions-preserved : goal.sessions-preserved
sessions-preserved g c = record {
  gone = all_more _ _ _ _ _ _ c.sessions.invariant.gone c.let_all_go.ensures.gone;
  later = not_fewer_then _ _ _ c.sessions.invariant.later c.let_all_go.ensures.later;
}
