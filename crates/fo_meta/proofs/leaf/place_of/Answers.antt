use Rattle.std.proofs.Common.{◌≡◌, ◌<◌, ◌∙◌, length, sym, arith, ap, true, false}
use Rattle.std.specs.Str.{bytes_eq}
use Rattle.fo_meta.specs.Leaf.{is_named}
use Rattle.fo_meta.proofs.Leaves.{head_at, here_is, record_at_is, walk_none, walk_more, walk_found, walk_all}
use Rattle.fo_meta.proofs.leaf.place_of.Goals as goal

pub record_at-end-requires : goal.record_at-end-requires
record_at-end-requires c =
    let rs = c.requires.records in
    let s = c.requires.spells in
    let lt : c.records.counter < length rs = omega (arith, c.u16_at-end.ensures, (head_at c.args.leaf.now rs s).count) in
    let h = here_is c.args.leaf.now c.args.name.now rs c.records.counter c.records.at s (c.records.invariant rs s) lt in
    record { named = h.named; more = h.more; spelled = h.spelled; here = h.here }

pub records-init : goal.records-init
records-init c = λ rs s. walk_none c.args.leaf.now c.args.name.now rs s

pub records-preserved : goal.records-preserved
records-preserved c = λ rs s.
    let lt : c.records.counter < length rs = omega (arith, c.u16_at-end.ensures, (head_at c.args.leaf.now rs s).count) in
    let w = c.records.invariant rs s in
    let h = here_is c.args.leaf.now c.args.name.now rs c.records.counter c.records.at s w lt in
    let found = c.record_at-end.ensures h.named h.more h.spelled h.here in
    let other : is_named c.args.name.now h.named ≡ false = ap (λ xs. bytes_eq xs c.args.name.now) (sym found.1) ∙ sym c.eq.ensures ∙ c.if-eq.false in
    walk_more c.args.leaf.now c.args.name.now rs c.records.counter c.records.at c.record_at-end.result.0 s w h found.0 other

pub returns-then-eq-clause-place : goal.returns-then-eq-clause-place
returns-then-eq-clause-place c = λ rs s.
    let lt : c.records.counter < length rs = omega (arith, c.u16_at-end.ensures, (head_at c.args.leaf.now rs s).count) in
    let w = c.records.invariant rs s in
    let h = here_is c.args.leaf.now c.args.name.now rs c.records.counter c.records.at s w lt in
    let found = c.record_at-end.ensures h.named h.more h.spelled h.here in
    let same : is_named c.args.name.now h.named ≡ true = ap (λ xs. bytes_eq xs c.args.name.now) (sym found.1) ∙ sym c.eq.ensures ∙ c.if-eq.true in
    walk_found c.args.leaf.now c.args.name.now rs c.records.counter c.records.at c.record_at-end.result.0 w h found.0 same

pub returns-then-eq-clause-within : goal.returns-then-eq-clause-within
returns-then-eq-clause-within c =
    let rs = c.requires.records in
    let s = c.requires.spells in
    let lt : c.records.counter < length rs = omega (arith, c.u16_at-end.ensures, (head_at c.args.leaf.now rs s).count) in
    let h = here_is c.args.leaf.now c.args.name.now rs c.records.counter c.records.at s (c.records.invariant rs s) lt in
    let found = c.record_at-end.ensures h.named h.more h.spelled h.here in
    let at = record_at_is c.args.leaf.now c.records.at h.named h.more h.spelled h.here in
    (omega (arith, found.0), omega (arith, found.0, at.within))

pub returns-clause-place : goal.returns-clause-place
returns-clause-place c = λ rs s. walk_all c.args.leaf.now c.args.name.now rs c.records.counter c.records.at (c.records.invariant rs s) (omega (arith, c.u16_at-end.ensures, (head_at c.args.leaf.now rs s).count))
