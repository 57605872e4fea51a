use Rattle.fo_cells_lost.proofs.Lost.{closes_lose, shares_still}
use Rattle.fo_cells_lost.proofs.laws.closing_loses_none.Goals as goal

pub returns : goal.returns
returns g c = record {
  closed = λ b epoch high high_of doubts active roots past queue old new x h s. closes_lose x h.safe h.trees s;
  shared = λ high high_of doubts active roots past after queue rest old new s kept h x. shares_still s kept h.safe h.trees x;
}
