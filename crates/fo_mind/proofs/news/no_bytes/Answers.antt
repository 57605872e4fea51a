use Rattle.std.proofs.Common.{refl}
use Rattle.fo_ports.specs.Blocks.{zero_bytes}
use Rattle.fo_mind.proofs.news.no_bytes.Goals as goal

pub returns : goal.returns
unfolding zero_bytes
returns c = refl
