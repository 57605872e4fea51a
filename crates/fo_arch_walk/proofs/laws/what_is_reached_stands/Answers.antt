use Rattle.fo_arch_walk.proofs.Places.{reached_stands}
use Rattle.fo_arch_walk.proofs.laws.what_is_reached_stands.Goals as goal

pub returns : goal.returns
returns g c = λ root at p told kept not_one comes.
    reached_stands (g.B.Blocks.state c.args.on.now).stands (g.B.Blocks.state c.args.on.now).now root at p
    (g.met.B.Blocks.placed c.args.on.now (g.B.Blocks.state c.args.on.now).now (g.met.B.Blocks.present c.args.on.now told)) (g.met.B.Blocks.top_stands c.args.on.now root told kept not_one) comes
