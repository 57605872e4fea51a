use Rattle.fo_dir_fit.proofs.Spots.{one_block}
use Rattle.fo_dir_fit.proofs.laws.one_block_at_a_spot.Goals as goal

pub returns : goal.returns
returns g c = λ tells.
    let on = c.args.on.now in
    one_block (g.B.Blocks.state on) (g.met.B.Blocks.super_stands on tells)
    (λ image may. record { placed = g.met.B.Blocks.placed on image may; few = g.met.B.Blocks.few on image may; fall = g.met.B.Blocks.ranked on image may })
