use Rattle.std.proofs.Common.{◌≡◌, length, ap, ◌∙◌, arith, length-append, ◌++◌}
use Rattle.fo_gate.proofs.Sums.{total-one, below-one}
use Rattle.fo_gate.proofs.Keeps.{joins, compares}
use Rattle.fo_gate.proofs.Calls.{joined_as, joined_knows}
use Rattle.fo_gate.proofs.gate.Gate.join.Goals as goal

pub join_seat-requires : goal.join_seat-requires
join_seat-requires g c =
    let i = c.args.seat.now.idle.1 in
    let j = c.args.other.idle in
    (c.requires.seat.gate, c.requires.other.gate, j.0, (let w = c.args.self.now.sized.0 in omega arith), joins _ _ _ c.args.self.now.table.shared.key _ _ _ _ i.0 i.1 j.1.0 j.1.1 (let n = c.args.seat.now.counted in omega (arith, n.0, n.1)))

pub load-requires : goal.load-requires
load-requires g c =
    let e = c.join_seat.ensures in
    let s = c.args.seat.now in
    let o = c.args.other in
    let m = e.2 in (
      e.0 ∙ c.requires.seat.gate,
      (let w = c.args.self.now.sized.0 in omega arith),
      compares _ _ _ c.args.self.now.table.shared.key _ _ _ (ap (λ m. m.0.holds) m ∙ s.idle.1.1)
          (let n = s.counted in let a = length-append s.inner.me.0.numbers o.inner.me.0.numbers in let l = ap (λ m. length m.0.numbers) m in omega (arith, n.0, n.1)),
    )

pub overflow_add-seat : goal.overflow_add-seat
overflow_add-seat g c =
    let s = c.args.seat.now in
    let o = c.args.other in
    let j = joined_as s.inner.me.0 o.inner.me.0 c.join_seat.new.seat.me c.load.new.seat.me c.requires.seat.knows.placed c.requires.other.knows.placed (ap (λ m. m.0) c.join_seat.ensures.2) c.load.ensures.2 in
    let n = c.load.new.seat.me.0 in
    let a = j.1 (λ _. 1) in
    let t : n.seats ≡ s.inner.me.0.seats = ap (λ x. x.seats) j.2 in
    let l : length n.numbers ≡ length (s.inner.me.0.numbers ++ o.inner.me.0.numbers) = ap (λ x. length x.numbers) j.2 in
    let b = length-append s.inner.me.0.numbers o.inner.me.0.numbers in
    let d = total-one n.numbers in
    let e = below-one n.seats in
    let few = c.args.self.now.counted.1 in
    let same = c.requires.seat.knows.seats in omega (arith, s.counted.0, o.counted.0)

pub returns-clause-joined : goal.returns-clause-joined
returns-clause-joined g c =
    let s = c.args.seat.now in
    let o = c.args.other in
    (joined_as s.inner.me.0 o.inner.me.0 c.join_seat.new.seat.me c.load.new.seat.me c.requires.seat.knows.placed c.requires.other.knows.placed (ap (λ m. m.0) c.join_seat.ensures.2) c.load.ensures.2).0

pub returns-clause-seat : goal.returns-clause-seat
returns-clause-seat g c =
    let s = c.args.seat.now in
    let o = c.args.other in
    let j = joined_as s.inner.me.0 o.inner.me.0 c.join_seat.new.seat.me c.load.new.seat.me c.requires.seat.knows.placed c.requires.other.knows.placed (ap (λ m. m.0) c.join_seat.ensures.2) c.load.ensures.2 in
    record { gate = c.load.ensures.0 ∙ c.join_seat.ensures.0 ∙ c.requires.seat.gate; knows = joined_knows g.S.Turned.turns g.S.Turned.low g.S.Turned.high _ _ s.inner.me.0 o.inner.me.0 c.load.new.seat.me.0 c.requires.seat.knows c.requires.other.knows j.0 j.2 }
