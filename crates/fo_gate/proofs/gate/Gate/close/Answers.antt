use Rattle.std.proofs.Common.{◌≡◌, ℕ, sym, ap, ◌∙◌, subst}
use mathlib.Core.Option.{some-injective}
use Rattle.fo_gate.specs.Weights.{total, below}
use Rattle.fo_gate.specs.History.{IsLegal}
use Rattle.fo_gate.proofs.Keeps.{ends}
use Rattle.fo_gate.proofs.Calls.{state_or}
use Rattle.fo_gate.proofs.gate.Gate.close.Goals as goal

pub unreachable-requires : goal.unreachable-requires
unreachable-requires g c =
    let s = c.args.seat in
    let all : (f : ℕ → ℕ) → total f s.inner.me.0.numbers ≡ below f c.args.self.table.shared.key.seats = λ f. c.requires.alone f ∙ ap (below f) (c.requires.seat.knows.seats ∙ c.args.self.counted.0) in
    let e = ends g.S.Turned.turns g.S.Turned.low g.S.Turned.high c.args.self.table.shared.key s.inner.id s.inner.me.0 _ _ s.idle.1.1 all c.close_with-closed.ensures.values.2 in
    c.in_default.not-In _ _ (some-injective _ _ (sym c.take-slot.ensures.value ∙ e.2))

pub returns : goal.returns
returns g c =
    let s = c.args.seat in
    let all : (f : ℕ → ℕ) → total f s.inner.me.0.numbers ≡ below f c.args.self.table.shared.key.seats = λ f. c.requires.alone f ∙ ap (below f) (c.requires.seat.knows.seats ∙ c.args.self.counted.0) in
    let e = ends g.S.Turned.turns g.S.Turned.low g.S.Turned.high c.args.self.table.shared.key s.inner.id s.inner.me.0 _ _ s.idle.1.1 all c.close_with-closed.ensures.values.2 in
    let same : e.0 ≡ c.in-In.state = ap (state_or e.0) (some-injective _ _ (sym e.2 ∙ c.take-slot.ensures.value) ∙ c.in-In.is) in
    record { legal = subst (λ z. IsLegal g.S.Turned.turns g.S.Turned.low g.S.Turned.high c.args.self.table.shared.key.state.value s.inner.me.0.seen z) same e.3; own = e.4 }
