use Rattle.std.proofs.Common.{◌+◌, ◌≤◌, length, Some, sym, ap, subst, ◌∙◌, IsTrue, arith}
use Rattle.fo_ports.proofs.of_meta.Leaves.{record_at_is}
use Rattle.fo_slots.specs.Formed.{IsRecord}
use Rattle.fo_slots.proofs.Leaving.{record_found, record_told}
use Rattle.fo_slots.proofs.leaf.record_end.Goals as goal

pub returns-then-leaf-at-clause-only : goal.returns-then-leaf-at-clause-only
returns-then-leaf-at-clause-only c = λ r more s here.
    let at = record_at_is c.args.leaf.now c.args.at r more s here in
    absurd (omega (arith, at.within, c.if-leaf-at.true))

pub returns-then-leaf-at-2-clause-only : goal.returns-then-leaf-at-2-clause-only
returns-then-leaf-at-2-clause-only c = λ r more s here.
    let at = record_at_is c.args.leaf.now c.args.at r more s here in
    absurd (omega (arith, at.within, at.len, c.u16_at-len.ensures, c.if-leaf-at-2.true))

pub returns-then-not-has_record-clause-only : goal.returns-then-not-has_record-clause-only
returns-then-not-has_record-clause-only c = λ r more s here.
    let at = record_at_is c.args.leaf.now c.args.at r more s here in
    let told = record_told c.args.leaf.now c.args.at c.u16_at-len.result r more s here (c.u16_at-len.ensures ∙ at.len) in
    let yes : IsTrue c.has_record.result = c.has_record.ensures.1 (subst IsRecord (sym c.part.ensures.is) told) in
    absurd (cc)

pub returns-clause-spelled : goal.returns-clause-spelled
returns-clause-spelled c =
    let le : c.args.at + c.u16_at-len.result ≤ length c.args.leaf.now = omega (arith, c.if-leaf-at-2.false) in
    record_found c.args.leaf.now c.args.at c.u16_at-len.result le (subst IsRecord c.part.ensures.is (c.has_record.ensures.0 c.if-not-has_record.false))

pub returns-clause-only : goal.returns-clause-only
returns-clause-only c = λ r more s here.
    let at = record_at_is c.args.leaf.now c.args.at r more s here in
    ap (λ n. Some (c.args.at + n)) (c.u16_at-len.ensures ∙ at.len)
