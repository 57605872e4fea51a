use Rattle.std.proofs.Common.{◌∙◌, arith, sym, ap, length}
use Rattle.fo_image.proofs.Codes.{flags_fit}
use Rattle.fo_image.proofs.entries.parts_of.Goals as goal

pub returns-clause-fit : goal.returns-clause-fit
returns-clause-fit c = (omega arith, (flags_fit c.args.entry.active c.args.entry.dir, (omega arith, (omega arith, (omega arith, (omega arith, (ap length (sym c.bytes_of.ensures.is) ∙ c.bytes_of.ensures.len, tt)))))))
