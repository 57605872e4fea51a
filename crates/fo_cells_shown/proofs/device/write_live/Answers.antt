use Rattle.std.proofs.Common.{◌∙◌}
use Rattle.fo_cells_shown.proofs.Versions.{writes_live}
use Rattle.fo_cells_shown.proofs.device.write_live.Goals as goal

pub returns-clause-versions : goal.returns-clause-versions
returns-clause-versions g c = λ kept f same all. writes_live c.args.at c.args.bytes.now c.write.result kept f _ _ _ _ c.write.ensures.state (same ∙ c.if-not-dirty.false) all
