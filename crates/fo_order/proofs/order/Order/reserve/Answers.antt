use Rattle.std.proofs.Common.{List, map, Contains, sym, subst, arith}
use Rattle.fo_order.specs.declared.marks.Mark.{Mark}
use Rattle.fo_order.specs.Marks.{IsFalling, Marked, Known, mark_rank}
use Rattle.fo_order.proofs.order.Order.reserve.Goals as goal

pub invariant_of-self-in_err-reserve-2 : goal.invariant_of-self-in_err-reserve-2
invariant_of-self-in_err-reserve-2 c =
    record {
      falls = subst IsFalling (sym c.reserve.ensures.items) c.self.invariant.falls;
      marked = subst (Marked c.self.inside.flags) (sym c.reserve.ensures.items) c.self.invariant.marked;
      known = subst (Known c.self.inside.flags) (sym c.reserve-2.ensures.items) c.self.invariant.known;
      late = c.self.invariant.late;
      failed = c.self.invariant.failed;
      least = λ r h. c.self.invariant.least r (subst (λ (l : List Mark). Contains (map mark_rank l) r) c.reserve-2.ensures.items h);
      has_least = λ h. subst (λ (l : List Mark). Contains (map mark_rank l) c.self.inside.least) (sym c.reserve-2.ensures.items) (c.self.invariant.has_least h);
      counted = c.self.invariant.counted;
      room_to_mark = omega (arith, c.reserve.ensures.len, c.reserve.ensures.capacity, c.self.invariant.room_to_mark);
      room_to_write = omega (arith, c.reserve-2.ensures.len, c.reserve-2.ensures.capacity, c.self.invariant.room_to_write);
      one_to_mark = omega (arith, c.reserve.ensures.capacity, c.self.invariant.one_to_mark);
      one_to_write = omega (arith, c.reserve-2.ensures.capacity, c.self.invariant.one_to_write);
    }

pub invariant_of-self-2 : goal.invariant_of-self-2
invariant_of-self-2 c =
    record {
      falls = subst IsFalling (sym c.reserve.ensures.items) c.self.invariant.falls;
      marked = subst (Marked c.self.inside.flags) (sym c.reserve.ensures.items) c.self.invariant.marked;
      known = subst (Known c.self.inside.flags) (sym c.reserve-2.ensures.items) c.self.invariant.known;
      late = c.self.invariant.late;
      failed = c.self.invariant.failed;
      least = λ r h. c.self.invariant.least r (subst (λ (l : List Mark). Contains (map mark_rank l) r) c.reserve-2.ensures.items h);
      has_least = λ h. subst (λ (l : List Mark). Contains (map mark_rank l) c.self.inside.least) (sym c.reserve-2.ensures.items) (c.self.invariant.has_least h);
      counted = c.self.invariant.counted;
      room_to_mark = omega (arith, c.reserve.ensures.len, c.reserve.ensures.capacity, c.self.invariant.room_to_mark, c.in_ok-reserve.ensures.ok);
      room_to_write = omega (arith, c.reserve-2.ensures.len, c.reserve-2.ensures.capacity, c.self.invariant.room_to_write, c.in_ok-reserve-2.ensures.ok);
      one_to_mark = omega (arith, c.reserve.ensures.len, c.reserve.ensures.capacity, c.self.invariant.one_to_mark, c.in_ok-reserve.ensures.ok);
      one_to_write = omega (arith, c.reserve-2.ensures.len, c.reserve-2.ensures.capacity, c.self.invariant.one_to_write, c.in_ok-reserve-2.ensures.ok);
    }
