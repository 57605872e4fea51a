use Rattle.fo_cells_held.proofs.Room.{room_stays, given_one, closed_none, raised_none}
use Rattle.fo_cells_held.proofs.laws.room_is_kept.Goals as goal

pub returns : goal.returns
returns c = record {
  spends = λ low after r t x p q s u w labels h. room_stays w labels h;
  given = λ low at r l b. given_one low at r l b;
  closed = λ low at r l b is. closed_none low at r l b is;
  raised = λ low after r le. raised_none low after r le;
}
