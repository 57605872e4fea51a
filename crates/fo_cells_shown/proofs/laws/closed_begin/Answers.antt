use Rattle.fo_cells_shown.proofs.Opening.{hang_closed, closed_hang, hang_shared, shared_hang, fresh_closed, fresh_older}
use Rattle.fo_cells_shown.proofs.laws.closed_begin.Goals as goal

pub returns : goal.returns
returns c = record {
  closed = λ k f unsure holds o. (hang_closed o, closed_hang o);
  shared = λ k f unsure holds o. (hang_shared o, shared_hang o);
  fresh = λ k. (fresh_closed k, fresh_older k);
}
