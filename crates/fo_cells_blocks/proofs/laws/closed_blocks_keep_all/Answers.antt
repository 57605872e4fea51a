use Rattle.fo_cells_blocks.proofs.Closing.{earlier_made, now_made, past_done_made, done_made}
use Rattle.fo_cells_blocks.proofs.laws.closed_blocks_keep_all.Goals as goal

pub returns : goal.returns
returns g c = record {
  earlier = λ b epoch after bs rs k d f x unsure holds s was now queue y read all. earlier_made all s y read was now queue;
  now = λ b epoch after bs rs k d f x unsure holds s up le past past_now was now y read all. now_made all s y read up le past past_now was now;
  past_done = λ epoch after rs k f unsure holds was all. past_done_made was all;
  done = λ after rs k f unsure holds past was all. done_made past was all;
}
