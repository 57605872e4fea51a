use Rattle.std.proofs.Common.{◌∙◌, refl, sym, ap, length, arith}
use Rattle.fo_image.proofs.Codes.{has_fits}
use Rattle.fo_image.proofs.blocks.parts_of_super_block.Goals as goal

pub returns-clause-fit : goal.returns-clause-fit
returns-clause-fit c = (refl, (omega arith, (omega arith, (omega arith, (omega arith, (omega arith, (omega arith, (has_fits c.args.s.last, (ap length (sym c.bytes_of_last.ensures.is) ∙ c.bytes_of_last.ensures.len, tt)))))))))
