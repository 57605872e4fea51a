use Rattle.fo_cells.proofs.Giving.{give_adds}
use Rattle.fo_cells.proofs.Removing.{give_super}
use Rattle.fo_cells.proofs.Super.{remains_block}
use Rattle.fo_cells_calls.proofs.Images.{told_block}
use Rattle.fo_cells_calls.proofs.Reading.{usable_nowhere}
use Rattle.fo_cells_calls.proofs.laws.gives.Goals as goal

pub returns : goal.returns
returns g c = record { nowhere = λ high b p doubts safe ne usable st. usable_nowhere safe ne usable st; block = λ told at d p v other stand. (v.memory, told_block told (remains_block other (give_adds v (g.C.Cells.rest c.args._old.now).tops stand) (give_super v other))) }
