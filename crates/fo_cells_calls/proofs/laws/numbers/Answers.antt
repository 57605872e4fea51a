use Rattle.std.proofs.Common.{◌∙◌}
use Rattle.fo_cells.proofs.Super.{super_adds}
use Rattle.fo_cells_calls.proofs.Images.{told_super}
use Rattle.fo_cells_calls.proofs.Trying.{number_passes}
use Rattle.fo_cells_calls.proofs.laws.numbers.Goals as goal

pub returns : goal.returns
returns g c = record {
  number = λ told d t raises. told_super told (λ image same. (λ i. same.slots i ∙ raises.slots i, raises.limit (image 1) same)) (super_adds t);
  passes = λ d high doubts safe p. number_passes (g.C.Cells.known c.args._old.now) (g.C.Cells.known c.args._new.now) (g.C.Cells.rest c.args._old.now) (g.C.Cells.rest c.args._new.now) d high doubts safe p;
}
