use Rattle.fo_cells_gaps.proofs.Each.{same_loses, fill_loses, link_loses, come_loses, level_loses, remove_loses}
use Rattle.fo_cells_gaps.proofs.laws.puts_lose_none.Goals as goal

pub returns : goal.returns
returns g c = record {
  same = λ at i s k d f used unsure holds p holder there back b all. same_loses p holder there back b all;
  filled = λ at i s k d f used unsure holds p fills b all. fill_loses p fills b all;
  linked = λ at i y s k d f used unsure holds p new b all. link_loses p new b all;
  came = λ at i top x y s rs k d f used unsure holds p m q b all. come_loses p m q b all;
  lost = λ at i x z s rs k d f used unsure holds p m q b all. level_loses p m q b all;
  removed = λ at i x blocks k d f used unsure holds moved out step decided all. remove_loses moved out step decided all;
}
