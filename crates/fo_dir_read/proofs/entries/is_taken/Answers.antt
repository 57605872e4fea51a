use Rattle.std.proofs.Common.{inl}
use Rattle.fo_dir_read.proofs.Pairs.{slot_active}
use Rattle.fo_dir_read.proofs.entries.is_taken.Goals as goal

pub returns-then-is_active : goal.returns-then-is_active
returns-then-is_active g c =
    let slot = ((g.B.Blocks.state c.args.on.now).now c.args.at).slot c.args.j in
    let active = slot_active slot c.args.leaf.now c.args.j c.is_active.result (c.requires.reads.fit c.args.j c.requires.within) (c.requires.reads.spelled c.args.j c.requires.within) c.is_active.ensures.in_use in
    ((λ _. inl (active.used c.if-is_active.true)), (λ _. c.if-is_active.true))
