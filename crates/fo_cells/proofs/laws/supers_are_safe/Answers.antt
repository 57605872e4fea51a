use Rattle.fo_cells.proofs.Indexing.{no_doubt}
use Rattle.fo_cells.proofs.Super.{super_adds, counts_adds}
use Rattle.fo_cells.proofs.SafeCalls.{tries_safe, counts_safe}
use Rattle.fo_cells.proofs.laws.supers_are_safe.Goals as goal

pub returns : goal.returns
returns c = record {
  tried = λ d high doubts old new t safe. (super_adds t, tries_safe t safe);
  overruled = λ high doubts k all safe. no_doubt all safe;
  counts = λ d high old new t live safe. (counts_adds t, counts_safe t live safe);
}
