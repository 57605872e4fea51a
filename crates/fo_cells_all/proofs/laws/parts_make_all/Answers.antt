use Rattle.fo_cells_all.proofs.All.{beside, beside_step, together}
use Rattle.fo_cells_all.proofs.laws.parts_make_all.Goals as goal

pub returns : goal.returns
returns g c = record {
  parts = λ k f unsure holds h. (h.epochs, h.queue, beside h);
  made = λ k f unsure holds e q h. together e q h;
  beside = λ k d f x unsure holds s h. beside_step s h;
}
