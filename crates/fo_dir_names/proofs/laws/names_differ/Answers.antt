use Rattle.fo_dir_names.proofs.Listed.{names_stand}
use Rattle.fo_dir_names.proofs.laws.names_differ.Goals as goal

pub returns : goal.returns
returns g c = λ tells once.
    let on = c.args.on.now in
    names_stand (g.B.Blocks.state on) (g.met.B.Blocks.super_stands on tells)
    (λ image may. record { placed = g.met.B.Blocks.placed on image may; few = g.met.B.Blocks.few on image may; fall = g.met.B.Blocks.ranked on image may })
    once
