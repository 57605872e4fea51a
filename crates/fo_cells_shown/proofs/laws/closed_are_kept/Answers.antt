use Rattle.fo_cells_shown.proofs.Closed.{move_closed, give_closed, close_closed, raise_closed}
use Rattle.fo_cells_shown.proofs.laws.closed_are_kept.Goals as goal

pub returns : goal.returns
returns g c = record {
  moved = λ old new high high_of doubts active roots after kept within low label h x. move_closed h.safe h.trees kept within low label x;
  given = λ at high d p high_of doubts active roots old new gives live h x. give_closed h.safe h.trees gives live x;
  closed = λ b epoch high high_of doubts active roots past queue old new closes h shared x. close_closed h.safe h.trees closes shared x;
  raised = λ low active roots kept k keep up x. raise_closed active k keep up x;
}
