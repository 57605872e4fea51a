use Rattle.fo_cells_puts.proofs.Puts.{same_made}
use Rattle.fo_cells_puts.proofs.Linking.{filled_made}
use Rattle.fo_cells_puts.proofs.Coming.{linked_made, come_made, left_made}
use Rattle.fo_cells_gaps.proofs.Each.{same_loses, fill_loses, link_loses, come_loses, level_loses}
use Rattle.fo_cells_whole.proofs.Puts.{put_whole}
use Rattle.fo_cells_whole.proofs.laws.puts_keep_whole.Goals as goal

pub returns : goal.returns
returns g c = record {
  same = λ at i s k d f x unsure holds p holder there back b all. put_whole p b (same_made p holder there back b all.made).1 (same_loses p holder there back b all.made).1 all;
  filled = λ at i s k d f x unsure holds p fills b all. put_whole p b (filled_made all.made p b fills).1 (fill_loses p fills b all.made).1 all;
  linked = λ at i y s k d f x unsure holds p new b all. put_whole p b (linked_made all.made b p new).1 (link_loses p new b all.made).1 all;
  came = λ at i top x y s rs k d f used unsure holds p m q b all. put_whole p b (come_made all.made b p m q).1 (come_loses p m q b all.made).1 all;
  lost = λ at i x z s rs k d f used unsure holds p m q b all. put_whole p b (left_made all.made b p m q).1 (level_loses p m q b all.made).1 all;
}
