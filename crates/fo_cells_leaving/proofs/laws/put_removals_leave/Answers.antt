use Rattle.fo_cells_leaving.proofs.Shapes.{come_leave, levels_leave}
use Rattle.fo_cells_leaving.specs.Leaving.{queued}
use Rattle.fo_cells_leaving.proofs.laws.put_removals_leave.Goals as goal

pub returns : goal.returns
returns g c = record {
  came = λ at i top x y s rs k d f unsure holds m shaped all. come_leave all m rs (queued k) shaped;
  lost = λ at i x b s rs k d f unsure holds m shaped all. levels_leave all m rs (queued k) shaped;
}
