use Rattle.std.proofs.Common.{◌+◌, ap, ◌∙◌, arith}
use Rattle.fo_meta.proofs.Leaves.{record_at_is}
use Rattle.fo_dir_list.proofs.Numbers.{number_there}
use Rattle.fo_dir_list.proofs.number.end_and_number.Goals as goal

pub returns : goal.returns
returns c = λ r more s here.
    let at = record_at_is c.args.leaf.now c.args.at r more s here in
    (ap (λ n. c.args.at + n) (c.u16_at.ensures ∙ at.len), c.u32_at.ensures ∙ number_there c.args.leaf.now c.args.at r more s here)

pub u16_at-requires : goal.u16_at-requires
u16_at-requires c = let at = record_at_is c.args.leaf.now c.args.at c.requires.named c.requires.more c.requires.spelled c.requires.here in omega (arith, at.within)

pub u32_at-requires : goal.u32_at-requires
u32_at-requires c = let at = record_at_is c.args.leaf.now c.args.at c.requires.named c.requires.more c.requires.spelled c.requires.here in omega (arith, at.within)
