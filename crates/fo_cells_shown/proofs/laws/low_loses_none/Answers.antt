use Rattle.fo_cells_shown.proofs.Closed.{raise_loses, move_strays, close_strays}
use Rattle.fo_cells_shown.proofs.laws.low_loses_none.Goals as goal

pub returns : goal.returns
returns g c = record {
  raised = λ low high high_of doubts active roots kept k keep up h x decided b ne lost. raise_loses active k keep up h.trees x decided b ne lost;
  moved = λ old new before after roots m s label b x. move_strays m s label b x;
  closed = λ b epoch high before after roots past queue old new closes s a x. close_strays closes s a x;
}
