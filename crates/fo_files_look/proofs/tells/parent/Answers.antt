use Rattle.std.proofs.Common.{sym, subst}
use Rattle.fo_files_at.specs.Way.{IsWay}
use Rattle.fo_files_look.proofs.tells.parent.Goals as goal

pub told_there-requires : goal.told_there-requires
told_there-requires g c =
    let s = g.B.Blocks.state c.way_to.new.on in
    record { way = subst (λ p. IsWay s c.args.root p.trail c.above.result) (sym c.in-Ok-place_above.ensures.is) (c.above.ensures.way c.args.root c.args.at.now.trail (subst (λ t. IsWay s c.args.root t c.in-Ok.way) c.as_slice.ensures c.in-Ok.ensures.way)) }
