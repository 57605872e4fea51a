use Rattle.std.proofs.Common.{refl}
use Rattle.fo_ports.specs.Blocks.{zero_bytes}
use Rattle.test_blocks.proofs.silent.no_bytes.Goals as goal

pub returns : goal.returns
unfolding zero_bytes
returns c = refl
