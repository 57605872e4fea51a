use Rattle.std.proofs.Common.{List, ℕ, [], ◌∷◌, ◌++◌, map, ap, ◌∙◌}
use Rattle.fo_disk.specs.Memory.{bytes_of}
use Rattle.fo_disk.proofs.Cells.{cell_same, cell_added}
use Rattle.fo_disk.proofs.memory_calls.add_version.Goals as goal

pub returns-in-Ok-clause-added : goal.returns-in-Ok-clause-added
returns-in-Ok-clause-added c =
    cell_added _ _ _ _ _ c.requires.block c.index_mut-cell.ensures.value (c.in-Ok.ensures.ok ∙ ap (λ (b : List ℕ). (c.index_mut-cell.result.now.from, map bytes_of c.index_mut-cell.result.now.all.items ++ b ∷ [])) c.in_ok-version.ensures)

pub returns-in-Err-clause-same : goal.returns-in-Err-clause-same
returns-in-Err-clause-same c = cell_same _ _ _ _ c.requires.block c.index_mut-cell.ensures.value c.in-Err.ensures.err
