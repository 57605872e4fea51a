use Rattle.std.proofs.Common.{◌<◌, [], length, sym, ◌∙◌, arith}
use Rattle.std.proofs.lemmas.Bool.{eq-eqb, ne_eqb}
use Rattle.fo_meta.proofs.Leaves.{head_at, here_is, record_at_is}
use Rattle.fo_dir_list.proofs.Walk.{begins}
use Rattle.fo_dir_list.proofs.Numbers.{passes_none, passes_more, passes_here, passes_all}
use Rattle.fo_dir_list.proofs.number.place_of.Goals as goal

pub end_and_number-end-requires : goal.end_and_number-end-requires
end_and_number-end-requires c =
    let rs = c.requires.records in
    let s = c.requires.spells in
    let lt : c.records.counter < length rs = omega (arith, c.u16_at-end.ensures, (head_at c.args.leaf.now rs s).count) in
    begins (here_is c.args.leaf.now [] rs c.records.counter c.records.at s (c.records.invariant rs s).walks lt)

pub records-init : goal.records-init
records-init c = λ rs s. passes_none c.args.leaf.now c.args.number rs s

pub records-preserved : goal.records-preserved
records-preserved c = λ rs s.
    let lt : c.records.counter < length rs = omega (arith, c.u16_at-end.ensures, (head_at c.args.leaf.now rs s).count) in
    let p = c.records.invariant rs s in
    let h = here_is c.args.leaf.now [] rs c.records.counter c.records.at s p.walks lt in
    let found = c.end_and_number-end.ensures h.named h.more h.spelled h.here in
    passes_more c.args.leaf.now c.args.number rs c.records.counter c.records.at c.end_and_number-end.result.0 s p h found.0 (ne_eqb h.named.number c.args.number (λ e. c.if-found-number.false (found.1 ∙ e)))

pub returns-then-found-number-clause-place : goal.returns-then-found-number-clause-place
returns-then-found-number-clause-place c = λ rs s.
    let lt : c.records.counter < length rs = omega (arith, c.u16_at-end.ensures, (head_at c.args.leaf.now rs s).count) in
    let p = c.records.invariant rs s in
    let h = here_is c.args.leaf.now [] rs c.records.counter c.records.at s p.walks lt in
    let found = c.end_and_number-end.ensures h.named h.more h.spelled h.here in
    passes_here c.args.leaf.now c.args.number rs c.records.counter c.records.at c.end_and_number-end.result.0 p h found.0 (eq-eqb h.named.number c.args.number (sym found.1 ∙ c.if-found-number.true))

pub returns-then-found-number-clause-within : goal.returns-then-found-number-clause-within
returns-then-found-number-clause-within c =
    let rs = c.requires.records in
    let s = c.requires.spells in
    let lt : c.records.counter < length rs = omega (arith, c.u16_at-end.ensures, (head_at c.args.leaf.now rs s).count) in
    let h = here_is c.args.leaf.now [] rs c.records.counter c.records.at s (c.records.invariant rs s).walks lt in
    let found = c.end_and_number-end.ensures h.named h.more h.spelled h.here in
    let at = record_at_is c.args.leaf.now c.records.at h.named h.more h.spelled h.here in
    (omega (arith, found.0), omega (arith, found.0, at.within))

pub returns-clause-place : goal.returns-clause-place
returns-clause-place c = λ rs s. passes_all c.args.leaf.now c.args.number rs c.records.counter c.records.at (c.records.invariant rs s) (omega (arith, c.u16_at-end.ensures, (head_at c.args.leaf.now rs s).count))
