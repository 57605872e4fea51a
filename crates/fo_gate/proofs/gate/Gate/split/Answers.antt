use Rattle.std.proofs.Common.{length, sym, ap, ◌∙◌, arith}
use Rattle.fo_gate.proofs.Keeps.{splits}
use Rattle.fo_gate.proofs.Calls.{left_length, left_apart, right_apart}
use Rattle.fo_gate.proofs.gate.Gate.split.Goals as goal

pub split_seat-inner-requires : goal.split_seat-inner-requires
split_seat-inner-requires g c =
    let i = c.args.seat.now.idle.1 in
    (c.requires.seat.gate, (let w = c.args.self.now.sized.0 in omega arith), splits _ _ _ c.args.self.now.table.shared.key _ _ i.0 i.1 c.requires.two)

pub invariant_of-seat : goal.invariant_of-seat
invariant_of-seat g c =
    let s = c.args.seat.now in
    let e = c.split_seat-inner.ensures.2 in
    let two = c.requires.two in
    let len = left_length s.inner.me.0 (omega arith) in
    let is = ap (λ m. length m.0.numbers) e in
    let n = s.counted.0 in
    record {
      idle = (ap (λ m. m.1) e ∙ s.idle.0, (ap (λ m. m.0.tickets) e ∙ s.idle.1.0, ap (λ m. m.0.holds) e ∙ s.idle.1.1, ap (λ m. m.0.owes) e ∙ s.idle.1.2));
      counted = (omega arith, omega arith);
      apart = left_apart s.inner.me.0 _ (omega arith) s.apart (ap (λ m. m.0) e);
    }

pub invariant_of-result : goal.invariant_of-result
invariant_of-result g c =
    let s = c.args.seat.now in
    let e = c.split_seat-inner.ensures.4 in
    let two = c.requires.two in
    record {
      idle = (ap (λ m. m.1) e, (ap (λ m. m.0.tickets) e, ap (λ m. m.0.holds) e, ap (λ m. m.0.owes) e));
      counted = (sym (ap (λ m. length m.0.numbers) e), omega arith);
      apart = right_apart s.inner.me.0 _ (omega arith) s.apart (ap (λ m. m.0) e);
    }
