use Rattle.std.proofs.Common.{◌≡◌, ◌<◌, ◌≤◌, List, [], length, sym, subst, ◌∙◌}
use Rattle.std.specs.Bool.{OnTrue, OnFalse}
use Rattle.std.specs.Option.{MatchOption}
use Rattle.fo_order.specs.declared.marks.Mark.{Mark}
use Rattle.fo_order.specs.Marks.{IsFalling, Marked, IsTop, TopIsCurrent}
use Rattle.fo_order.proofs.Turning.{due, due_last, all_quiet, next}
use Rattle.fo_order.proofs.order.Order.turn.Goals as goal
use Rattle.fo_order.proofs.order.Order.turn.Goals.{in-Some, in-Some-2, in-None, in-None-2}

pub returns-clause-turn : goal.returns-clause-turn
returns-clause-turn c =
    let flags = c.self.inside.flags in
    let marks = c.deref-2.result.now in
    let written = c.self.inside.written.items in
    let falls : IsFalling c.deref-2.result.now = subst IsFalling (sym c.deref-2.ensures.value) c.drop_stale.ensures.falls in
    let marked : Marked c.self.inside.flags c.deref-2.result.now =
    subst (Marked c.self.inside.flags) (sym c.deref-2.ensures.value) c.drop_stale.ensures.marked in
    let current : TopIsCurrent c.self.inside.flags c.deref-2.result.now =
    subst (TopIsCurrent c.self.inside.flags) (sym c.deref-2.ensures.value) c.drop_stale.ensures.top in
    elim c.match-top.branch [
      | in-Some w ↦
          let top : IsTop c.deref-2.result.now w.in-Some.mark = subst (λ o. MatchOption o (length c.deref-2.result.now ≡ 0) (λ m. IsTop c.deref-2.result.now m)) w.in-Some.is c.top.ensures in
          let low = subst (λ b. OnTrue b ((c.self.inside.least < w.in-Some.mark.rank) × (c.self.inside.least < 4294967295))) w.if-is_below.true w.is_below.ensures.below in
          rw (w.result-is, ← c.self.view_is) (due flags marks written c.self.inside.room falls marked w.in-Some.mark c.self.inside.least top low.0 (c.self.invariant.has_least low.1))
      | in-Some-2 w ↦
          let top : IsTop c.deref-2.result.now w.in-Some.mark = subst (λ o. MatchOption o (length c.deref-2.result.now ≡ 0) (λ m. IsTop c.deref-2.result.now m)) w.in-Some.is c.top.ensures in
          let high = subst (λ b. OnFalse b (w.in-Some.mark.rank ≤ c.self.inside.least)) w.if-is_below.false w.is_below.ensures.other in
          rw (w.result-is, ← c.self.view_is) (next flags marks written c.self.inside.room falls marked w.in-Some.mark c.self.inside.least top (current.is w.in-Some.mark top) high c.self.invariant.least c.self.invariant.late c.self.invariant.failed)
      | in-None w ↦
          let none : length c.deref-2.result.now ≡ 0 = subst (λ o. MatchOption o (length c.deref-2.result.now ≡ 0) (λ m. IsTop c.deref-2.result.now m)) w.in-None.is c.top.ensures in
          let empty = sym c.deref.ensures.value ∙ subst (λ b. OnTrue b (c.deref.result.now ≡ [])) w.if-none.true c.is_none-none.ensures.none in
          rw (w.result-is, ← c.self.view_is) (all_quiet flags marks written c.self.inside.room falls marked none empty c.self.invariant.known c.self.invariant.failed)
      | in-None-2 w ↦
          let none : length c.deref-2.result.now ≡ 0 = subst (λ o. MatchOption o (length c.deref-2.result.now ≡ 0) (λ m. IsTop c.deref-2.result.now m)) w.in-None.is c.top.ensures in
          let some = subst (λ (l : List Mark). 0 < length l) c.deref.ensures.value (subst (λ b. OnFalse b (0 < length c.deref.result.now)) w.if-none.false c.is_none-none.ensures.some) in
          rw (w.result-is, ← c.self.view_is) (due_last flags marks written c.self.inside.room falls marked none some)
    ]
