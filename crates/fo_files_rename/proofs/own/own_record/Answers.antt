use Rattle.std.proofs.Common.{arith}
use Rattle.fo_files_rename.proofs.Owning.{own_below, own_root}
use Rattle.fo_files_rename.proofs.own.own_record.Goals as goal

pub returns-in-Ok-clause-is : goal.returns-in-Ok-clause-is
returns-in-Ok-clause-is c =
    own_root c.args.way.now.steps.items c.index-step.result.now c.len-depth.result c.args.who.now c.args.now c.in-Ok.named (let count = c.len-depth.ensures in omega (arith, count)) c.index-step.ensures c.if-depth-eq1.true c.in-Ok.ensures.is

pub returns-in-Ok-copy_touched-clause-is : goal.returns-in-Ok-copy_touched-clause-is
returns-in-Ok-copy_touched-clause-is c =
    own_below c.args.way.now.steps.items c.index-step.result.now c.len-depth.result c.args.who.now c.args.now c.in-Ok-copy_touched.named (let count = c.len-depth.ensures in omega (arith, count)) c.index-step.ensures (λ h. let other = c.if-depth-eq1.false in absurd (omega (arith, other, h))) c.in-Ok-copy_touched.ensures.is
