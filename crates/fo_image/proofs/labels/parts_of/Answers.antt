use Rattle.std.proofs.Common.{arith}
use Rattle.fo_image.proofs.Codes.{state_fits, kind_fits, kind_holds}
use Rattle.fo_image.proofs.labels.parts_of.Goals as goal

pub returns-clause-fit : goal.returns-clause-fit
returns-clause-fit c = (state_fits c.args.label.state, (kind_fits c.args.label.kind (kind_holds c.args.label c.requires), (omega arith, (omega arith, (omega arith, tt)))))
