use Rattle.fo_cells_steps.proofs.Still.{bytes_made, more_made, await_made, end_made}
use Rattle.fo_cells_steps.proofs.laws.quiet_calls_keep_all.Goals as goal

pub returns : goal.returns
returns g c = record {
  bytes = λ at bytes k d f x unsure holds u other epoch r b all. bytes_made r b all u other epoch;
  waits = λ k d f x unsure holds w more r b all. more_made r b all w more;
  later = λ at i leaf k d f x unsure holds w may r b all. await_made r b all w may;
  end = λ k d f x unsure holds w no_wait r b all. end_made r b all w no_wait;
}
