use Rattle.std.proofs.Common.{◌≡◌, ◌+◌, ◌-◌, ◌≤◌, ◌∙◌, ap, rules, arith, get_or, take, drop, length}
use Rattle.fo_meta.proofs.Leaves.{record_at_is}
use Rattle.fo_dir_list.proofs.leaf.record_at.Goals as goal

pub bounds-leaf-at : goal.bounds-leaf-at
bounds-leaf-at c = let at = record_at_is c.args.leaf.now c.args.at c.requires.named c.requires.more c.requires.spelled c.requires.here in omega (arith, at.within)

pub slice_bounds-name-end : goal.slice_bounds-name-end
slice_bounds-name-end c =
    let at = record_at_is c.args.leaf.now c.args.at c.requires.named c.requires.more c.requires.spelled c.requires.here in
    let fits : c.args.at + 31 + get_or c.args.leaf.now (c.args.at + 30) 0 ≤ length c.args.leaf.now = omega (arith, at.within, at.name_len) in
    search (rules, fits)

pub returns : goal.returns
returns c = λ r more s here.
    let at = record_at_is c.args.leaf.now c.args.at r more s here in
    let len : c.args.at + 31 + get_or c.args.leaf.now (c.args.at + 30) 0 - (c.args.at + 31) ≡ length r.name = omega (arith, at.name_len) in
    (ap (λ n. c.args.at + n) (c.u16_at.ensures ∙ at.len), ap (λ n. take n (drop (c.args.at + 31) c.args.leaf.now)) len ∙ at.name)
