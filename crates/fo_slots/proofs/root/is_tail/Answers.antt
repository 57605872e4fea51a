use Rattle.std.proofs.Common.{◌≤◌, ◌∙◌, IsTrue, length, take, drop, sym, ap, arith}
use Rattle.fo_slots.proofs.Rooting.{tail_made, tail_at, own_told, rest_told}
use Rattle.fo_slots.proofs.root.is_tail.Goals as goal

pub returns-then-tail-len : goal.returns-then-tail-len
returns-then-tail-len c = (
  λ h. absurd (cc),
  λ is.
      let at = tail_at c.args.tail.now is in
      absurd (omega (arith, at.len, at.within, c.u16_at-len.ensures, c.if-tail-len.true)),
)

pub returns-then-not-has_root_record : goal.returns-then-not-has_root_record
returns-then-not-has_root_record c = (
  λ h. absurd (cc),
  λ is.
      let at = tail_at c.args.tail.now is in
      let len = c.u16_at-len.ensures ∙ at.len in
      let yes : IsTrue c.has_root_record.result = c.has_root_record.ensures.1 (own_told c.args.tail.now c.split_at.result.0.now is (c.split_at.ensures.front ∙ ap (λ n. take n c.args.tail.now) len)) in
      absurd (cc),
)

pub returns : goal.returns
returns c =
    let le : c.u16_at-len.result ≤ length c.args.tail.now = omega (arith, c.if-tail-len.false) in (
      λ h. tail_made c.args.tail.now c.split_at.result.0.now c.split_at.result.1.now c.u16_at-len.result c.requires c.split_at.ensures.front c.split_at.ensures.back le (c.has_root_record.ensures.0 c.if-not-has_root_record.false) (sym c.is_zero.ensures ∙ h),
      λ is.
          let at = tail_at c.args.tail.now is in
          let len = c.u16_at-len.ensures ∙ at.len in
          c.is_zero.ensures ∙ rest_told c.args.tail.now c.split_at.result.1.now is (c.split_at.ensures.back ∙ ap (λ n. drop n c.args.tail.now) len),
    )
