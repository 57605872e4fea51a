use Rattle.std.proofs.Common.{refl, ap, ◌<◌, length, inl, arith}
use Rattle.fo_plain.proofs.Reach.{along-bare}
use Rattle.fo_plain.proofs.looking.reach_made.Goals as goal

pub returns-then-as_slice-gt0 : goal.returns-then-as_slice-gt0
returns-then-as_slice-gt0 c =
    let below : 0 < length c.args.at.now.trail = omega (arith, ap length c.as_slice.ensures) in
    inl (rw (along-bare c.args.at.now.trail c.args.name.now c.args.node c.requires below) refl)
