use Rattle.fo_dir_images.proofs.Sourcing.{reads_sources}
use Rattle.fo_dir_images.proofs.laws.sources_are_read.Goals as goal

pub returns : goal.returns
returns g c = reads_sources (g.B.Blocks.state c.args.on.now)
