use Rattle.fo_dir_fit.proofs.Rules.{keeps_pairs}
use Rattle.fo_dir_fit.proofs.laws.pairs_are_kept.Goals as goal

pub returns : goal.returns
returns g c = λ tells stand.
    let on = c.args.on.now in
    keeps_pairs (g.B.Blocks.state on) (g.met.B.Blocks.super_stands on tells)
    (λ image may. record { placed = g.met.B.Blocks.placed on image may; few = g.met.B.Blocks.few on image may; fall = g.met.B.Blocks.ranked on image may })
    stand.each
