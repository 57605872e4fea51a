use Rattle.fo_cells_calls.proofs.Leaving.{taken_leaves, retire_leaves}
use Rattle.fo_cells_calls.proofs.laws.leaves.Goals as goal

pub returns : goal.returns
returns g c = record {
  taken = λ tells same. taken_leaves (g.C.Cells.known c.args._old.now) (g.C.Cells.known c.args._new.now) (g.C.Cells.rest c.args._old.now) (g.C.Cells.rest c.args._new.now) tells same;
  retired = λ tells high doubts same fewer safe. retire_leaves (g.C.Cells.known c.args._old.now) (g.C.Cells.known c.args._new.now) (g.C.Cells.rest c.args._old.now) (g.C.Cells.rest c.args._new.now) tells high doubts same fewer safe;
}
