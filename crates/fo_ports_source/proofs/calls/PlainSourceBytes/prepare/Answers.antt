use Rattle.std.proofs.Common.{refl, ◌+◌, max, arith}
use Rattle.fo_ports_source.proofs.Puts.{few_leaves}
use Rattle.fo_ports_source.proofs.Looks.{over_looks, same_looks}
use Rattle.fo_ports_source.proofs.calls.PlainSourceBytes.prepare.Goals as goal

pub returns-in_err-pin_for-clause-over : goal.returns-in_err-pin_for-clause-over
returns-in_err-pin_for-clause-over g c =
    let looks = c.pin_for.ensures.looks in
    let k = g.met.B.Blocks.keeps_all c.args.on.now c.pin_for.new.on c.pin_for.ensures.keeps in
    over_looks looks k c.requires.over

pub returns-clause-over : goal.returns-clause-over
returns-clause-over g c =
    let looks = c.pin_for.ensures.looks in
    let k = g.met.B.Blocks.keeps_all c.args.on.now c.pin_for.new.on c.pin_for.ensures.keeps in
    over_looks looks k c.requires.over

pub returns-clause-prepared : goal.returns-clause-prepared
returns-clause-prepared g c = λ enough. c.in_ok-pin_for.ensures.prepared (omega (arith, enough, few_leaves (max c.args.self.now.size (c.args.offset + c.args.len)) c.args.len))

pub returns-in_err-pin_for-clause-same : goal.returns-in_err-pin_for-clause-same
returns-in_err-pin_for-clause-same g c = (refl, refl, same_looks c.pin_for.ensures.looks (g.met.B.Blocks.keeps_all c.args.on.now c.pin_for.new.on c.pin_for.ensures.keeps))

pub returns-clause-same : goal.returns-clause-same
returns-clause-same g c = (refl, refl, same_looks c.pin_for.ensures.looks (g.met.B.Blocks.keeps_all c.args.on.now c.pin_for.new.on c.pin_for.ensures.keeps))
