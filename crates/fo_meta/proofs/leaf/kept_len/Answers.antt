use Rattle.std.proofs.Common.{◌∙◌, sym, ap, arith, length}
use Rattle.fo_meta.specs.Leaf.{records_bytes}
use Rattle.fo_meta.proofs.Leaves.{head_at}
use Rattle.fo_meta.proofs.Lists.{without-none}
use Rattle.fo_meta.proofs.Edits.{parts_are}
use Rattle.fo_meta.proofs.leaf.kept_len.Goals as goal

pub returns-in-None-clause-is : goal.returns-in-None-clause-is
returns-in-None-clause-is c = λ rs s. c.u16_at-used.ensures ∙ (head_at c.args.leaf.now rs s).used ∙ ap (λ xs. length (records_bytes xs)) (sym (without-none c.args.name.now rs (c.in-None.ensures.place rs s)))

pub returns-in-Some-clause-is : goal.returns-in-Some-clause-is
returns-in-Some-clause-is c = λ rs s.
    let q = parts_are c.args.name.now rs (c.in-Some.at, c.in-Some.end) (c.in-Some.ensures.place rs s) in
    omega (arith, q.len, c.u16_at-used.ensures, (head_at c.args.leaf.now rs s).used, ap (λ xs. length (records_bytes xs)) q.is)

pub overflow_sub-result-in-Some : goal.overflow_sub-result-in-Some
overflow_sub-result-in-Some c =
    let rs = c.requires.records in
    let q = parts_are c.args.name.now rs (c.in-Some.at, c.in-Some.end) (c.in-Some.ensures.place rs c.requires.spells) in
    omega (arith, q.len, c.u16_at-used.ensures, (head_at c.args.leaf.now rs c.requires.spells).used)
