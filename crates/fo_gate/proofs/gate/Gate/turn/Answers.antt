use Rattle.std.proofs.Common.{◌<◌, ℕ, length, [], ◌∷◌, sym, ap, ◌∙◌, subst, refl, arith}
use Rattle.fo_gate.specs.History.{epochs_word}
use Rattle.fo_gate.proofs.Keeps.{commits, posts, passes}
use Rattle.fo_gate.proofs.Calls.{puts, puts_as, lies, fulls, knows_at_rest, commits_as, posts_as, calls_as, turned_at, call_of, longer_by_one}
use Rattle.fo_gate.proofs.gate.Gate.turn.Goals as goal

pub fetch_add-requires : goal.fetch_add-requires
fetch_add-requires g c =
    let h = c.enter-state.ensures.holds in
    let x = c.exchange-left.ensures in
    let m = puts _ _ _ _ _ h.7 x.3 in (
      x.0 ∙ c.enter-state.ensures.seat ∙ c.requires.gate,
      (let w = c.args.self.now.sized.0 in omega arith),
      passes _ _ _ c.args.self.now.table.shared.key _ _ _ _ _ (ap (λ p. p.1) m) (ap (λ p. p.0.holds) m) (ap (λ p. p.0.owes) m) (h.4 ∙ sym (ap (λ p. length p.0.seen) m)),
    )

pub returns-then-made-ge-MOST_TURNS-clause-seat : goal.returns-then-made-ge-MOST_TURNS-clause-seat
returns-then-made-ge-MOST_TURNS-clause-seat g c =
    let h = c.enter-state.ensures.holds in
    let x = c.exchange-left.ensures in
    let m = puts _ _ _ _ _ h.7 x.3 in
    record { gate = c.fetch_add.ensures.0 ∙ x.0 ∙ c.enter-state.ensures.seat ∙ c.requires.gate; knows = knows_at_rest g.S.Turned.turns g.S.Turned.low g.S.Turned.high _ _ c.args.seat.now.inner.me.0 _ h.0 _ _ _ _ h.3 m c.fetch_add.ensures.2 c.requires.knows }

pub returns-then-made-ge-MOST_TURNS-clause-full : goal.returns-then-made-ge-MOST_TURNS-clause-full
returns-then-made-ge-MOST_TURNS-clause-full g c =
    let h = c.enter-state.ensures.holds in
    let x = c.exchange-left.ensures in
    let m = puts _ _ _ _ _ h.7 x.3 in
    (refl, fulls g.S.Turned.turns g.S.Turned.low g.S.Turned.high _ _ c.args.seat.now.inner.me.0 _ _ h.0 _ _ _ _ h.2 h.4 m c.fetch_add.ensures.2 c.if-made-ge-MOST_TURNS.true h.5 c.requires.knows)

pub fetch_add-requires-2 : goal.fetch_add-requires-2
fetch_add-requires-2 g c =
    let h = c.enter-state.ensures.holds in
    let x = c.exchange-left-2.ensures in
    let k = c.play-outcome.ensures.note in
    let m = puts_as _ _ _ _ _ _ h.7 x.3 k.is in (
      x.0 ∙ c.enter-state.ensures.seat ∙ c.requires.gate,
      (let w = c.args.self.now.sized.0 in omega arith),
      commits _ _ _ c.args.self.now.table.shared.key _ _ _ _ _ _ _ (ap (λ p. p.1) m) (ap (λ p. p.0.holds) m)
          (turned_at g.S.Turned.turns g.S.Turned.low g.S.Turned.high _ _ _ _ _ _ _ k.event k.outcome k.state c.play-outcome.ensures.turned)
          (let few = c.if-made-ge-MOST_TURNS.false in let l = ap (λ p. length p.0.seen) m in let k = h.4 in omega arith),
    )

pub store-requires : goal.store-requires
store-requires g c =
    let h = c.enter-state.ensures.holds in
    let x = c.exchange-left-2.ensures in
    let k = c.play-outcome.ensures.note in
    let m = puts_as _ _ _ _ _ _ h.7 x.3 k.is in
    let y = c.fetch_add-2.ensures in
    let n = commits_as g.S.Turned.turns g.S.Turned.low g.S.Turned.high c.args.seat.now.inner.me.0 h.1 h.0 c.enter-state.result.0 k.asked k.answered k.after _ _ m y.2 in
    let e = c.epochs-low.ensures in
    let p = c.epochs_word.ensures in
    let z = k.state in
    let low_is = e.0 ∙ ap g.S.Turned.low (sym z) in
    let high_is = e.1 ∙ ap g.S.Turned.high (sym z) in (
      y.0 ∙ x.0 ∙ c.enter-state.ensures.seat ∙ c.requires.gate,
      (let w = c.args.self.now.sized.0 in omega arith),
      posts g.S.Turned.turns g.S.Turned.low g.S.Turned.high c.args.self.now.table.shared.key _ _ _ k.after.value _ (ap (λ q. q.0.holds) n) (p.word ∙ (λ k. epochs_word (low_is k) (high_is k)))
          (subst (λ (j : ℕ). j < 4294967296) low_is p.small.0) (subst (λ (j : ℕ). j < 4294967296) high_is p.small.1),
    )

pub exchange-left-requires-3 : goal.exchange-left-requires-3
exchange-left-requires-3 g c =
    let h = c.enter-state.ensures.holds in
    let x = c.exchange-left-2.ensures in
    let k = c.play-outcome.ensures.note in
    let m = puts_as _ _ _ _ _ _ h.7 x.3 k.is in
    let y = c.fetch_add-2.ensures in
    let n = commits_as g.S.Turned.turns g.S.Turned.low g.S.Turned.high c.args.seat.now.inner.me.0 h.1 h.0 c.enter-state.result.0 k.asked k.answered k.after _ _ m y.2 in
    let z = c.store.ensures in
    let o = posts_as _ _ _ _ n z.2 in
    (z.0 ∙ y.0 ∙ x.0 ∙ c.enter-state.ensures.seat ∙ c.requires.gate, (_, lies _ _ _ o))

pub fetch_add-requires-3 : goal.fetch_add-requires-3
fetch_add-requires-3 g c =
    let h = c.enter-state.ensures.holds in
    let x = c.exchange-left-2.ensures in
    let k = c.play-outcome.ensures.note in
    let m = puts_as _ _ _ _ _ _ h.7 x.3 k.is in
    let y = c.fetch_add-2.ensures in
    let n = commits_as g.S.Turned.turns g.S.Turned.low g.S.Turned.high c.args.seat.now.inner.me.0 h.1 h.0 c.enter-state.result.0 k.asked k.answered k.after _ _ m y.2 in
    let z = c.store.ensures in
    let o = posts_as _ _ _ _ n z.2 in
    let w = c.exchange-left-3.ensures in
    let q = puts _ _ _ _ _ o w.3 in (
      w.0 ∙ z.0 ∙ y.0 ∙ x.0 ∙ c.enter-state.ensures.seat ∙ c.requires.gate,
      (let b = c.args.self.now.sized.0 in omega arith),
      passes _ _ _ c.args.self.now.table.shared.key _ _ _ _ _ (ap (λ p. p.1) q) (ap (λ p. p.0.holds) q ∙ ap (λ a. a ∷ []) k.state) (ap (λ p. p.0.owes) q)
          (longer_by_one g.S.Turned.turns g.S.Turned.low g.S.Turned.high c.args.seat.now.inner.me.0 h.1 _ h.0 c.enter-state.result.0 k.asked k.answered k.after _ _ h.4 q),
    )

pub returns-clause-seat : goal.returns-clause-seat
returns-clause-seat g c =
    let h = c.enter-state.ensures.holds in
    let x = c.exchange-left-2.ensures in
    let k = c.play-outcome.ensures.note in
    let m = puts_as _ _ _ _ _ _ h.7 x.3 k.is in
    let y = c.fetch_add-2.ensures in
    let n = commits_as g.S.Turned.turns g.S.Turned.low g.S.Turned.high c.args.seat.now.inner.me.0 h.1 h.0 c.enter-state.result.0 k.asked k.answered k.after _ _ m y.2 in
    let z = c.store.ensures in
    let o = posts_as _ _ _ _ n z.2 in
    let w = c.exchange-left-3.ensures in
    let q = puts _ _ _ _ _ o w.3 in
    record {
      gate = c.fetch_add-3.ensures.0 ∙ w.0 ∙ z.0 ∙ y.0 ∙ x.0 ∙ c.enter-state.ensures.seat ∙ c.requires.gate;
      knows = (calls_as g.S.Turned.turns g.S.Turned.low g.S.Turned.high c.args.self.now.table.shared.key.state.value c.args.self.now.seats c.args.seat.now.inner.me.0 h.1 _ h.0 _ k.asked k.answered k.after _ _ _ h.2 h.3 h.4
          (turned_at g.S.Turned.turns g.S.Turned.low g.S.Turned.high _ _ _ _ _ _ _ k.event k.outcome k.state c.play-outcome.ensures.turned) q c.fetch_add-3.ensures.2 (let few = c.if-made-ge-MOST_TURNS.false in omega arith) c.requires.knows).1;
    }

pub returns-clause-call : goal.returns-clause-call
returns-clause-call g c =
    let h = c.enter-state.ensures.holds in
    let x = c.exchange-left-2.ensures in
    let k = c.play-outcome.ensures.note in
    let m = puts_as _ _ _ _ _ _ h.7 x.3 k.is in
    let y = c.fetch_add-2.ensures in
    let n = commits_as g.S.Turned.turns g.S.Turned.low g.S.Turned.high c.args.seat.now.inner.me.0 h.1 h.0 c.enter-state.result.0 k.asked k.answered k.after _ _ m y.2 in
    let z = c.store.ensures in
    let o = posts_as _ _ _ _ n z.2 in
    let w = c.exchange-left-3.ensures in
    let q = puts _ _ _ _ _ o w.3 in
    call_of g.S.Turned.turns g.S.Turned.low g.S.Turned.high c.args.self.now.table.shared.key.state.value c.args.seat.now.inner.me.0 c.fetch_add-3.new.seat.me.0 k.asked k.answered _ _ _ k.event k.outcome
    (calls_as g.S.Turned.turns g.S.Turned.low g.S.Turned.high c.args.self.now.table.shared.key.state.value c.args.self.now.seats c.args.seat.now.inner.me.0 h.1 _ h.0 _ k.asked k.answered k.after _ _ _ h.2 h.3 h.4
    (turned_at g.S.Turned.turns g.S.Turned.low g.S.Turned.high _ _ _ _ _ _ _ k.event k.outcome k.state c.play-outcome.ensures.turned) q c.fetch_add-3.ensures.2 (let few = c.if-made-ge-MOST_TURNS.false in omega arith) c.requires.knows).0
