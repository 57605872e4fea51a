use Rattle.fo_cells_minds.proofs.Minds.{bytes_step, slot_step, await_step, wait_step, end_step, clearing_step, giving_step, label_step}
use Rattle.fo_cells_minds.proofs.laws.minds_step.Goals as goal

pub returns : goal.returns
returns c = record {
  bytes = λ at bytes m n holds r. bytes_step holds r;
  slot = λ at i s m n holds r fits. slot_step holds r fits;
  begins = λ at i leaf m n holds r. await_step holds r;
  more = λ m n holds r more. wait_step holds r more;
  ends = λ m n holds r ends. end_step holds r ends;
  cleared = λ at i leaf m n holds r one in_use. clearing_step holds r one in_use;
  given = λ at content p m n holds r there nowhere fits. giving_step holds r there nowhere fits;
  label = λ b l m n holds r. label_step holds r;
}
