use Rattle.std.proofs.Common.{IsTrue, sym, subst}
use Rattle.std.proofs.lemmas.List.{take_rest}
use Rattle.fo_slots.specs.Formed.{IsRootTail}
use Rattle.fo_slots.proofs.Rooting.{root_made, head_told, tail_told}
use Rattle.fo_slots.proofs.root.is_root_beside.Goals as goal

pub returns-then-not-is_head : goal.returns-then-not-is_head
returns-then-not-is_head c = (
  λ h. absurd (cc),
  λ is.
      let yes : IsTrue c.is_head.result = c.is_head.ensures.1 (head_told c.args.block.now is) in
      absurd (cc),
)

pub returns : goal.returns
returns c =
    let tail = take_rest c.args.block.now 104 in (
      λ h. root_made c.args.block.now (c.is_head.ensures.0 c.if-not-is_head.false) (subst IsRootTail tail (c.is_tail.ensures.0 h)),
      λ is. c.is_tail.ensures.1 (subst IsRootTail (sym tail) (tail_told c.args.block.now is)),
    )
