use Rattle.fo_cells_gaps.proofs.Covered.{same_covers, fill_covers, link_covers, come_covers, level_covers, remove_covers}
use Rattle.fo_cells_gaps.proofs.laws.puts_cover.Goals as goal

pub returns : goal.returns
returns g c = record {
  same = λ at i s k d f used unsure holds p holder there back b all. same_covers p holder there back b all;
  filled = λ at i s k d f used unsure holds p fills b all. fill_covers p fills b all;
  linked = λ at i y s k d f used unsure holds p new b all. link_covers p new b all;
  came = λ at i top x y s rs k d f used unsure holds p m q own b all. come_covers p m q own b all;
  lost = λ at i x z s rs k d f used unsure holds p m q own b all. level_covers p m q own b all;
  removed = λ at i x blocks k d f unsure holds moved out step own all. remove_covers (g.M.Makes.made c.args._made.now) out step own;
}
