use Rattle.fo_cells_shown.proofs.of_cells_turns.Opening.{open_made}
use Rattle.fo_cells_shown.proofs.Opening.{hang_closed, hang_shared}
use Rattle.fo_cells_whole.proofs.Certain.{none_awaited}
use Rattle.fo_cells_whole.proofs.laws.opening_is_whole.Goals as goal

pub returns : goal.returns
returns c = λ k f unsure holds o certain none closed older. record {
  made = open_made o;
  closed = hang_closed o closed;
  shared = hang_shared o older;
  certain = λ now. certain;
  awaited = none_awaited k none;
}
