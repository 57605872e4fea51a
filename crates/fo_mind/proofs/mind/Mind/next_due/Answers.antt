use Rattle.std.proofs.Common.{◌≡◌, false, List, ℕ, Option, sym, ap, ◌∙◌, subst}
use Rattle.std.specs.Option.{MatchOption}
use Rattle.fo_waits.specs.declared.listed.Clearing.{Clearing}
use Rattle.fo_waits.specs.Listed.{Clears, ClearsAfter}
use Rattle.fo_mind.specs.Due.{IsDueSlot, is_over, next_of}
use Rattle.fo_mind.proofs.Recalling.{next_is}
use Rattle.fo_mind.proofs.mind.Mind.next_due.Goals as goal

pub returns : goal.returns
returns c =
    let self = c.args.self.now in
    let is = c.next_in.ensures ∙ ap (λ (cs : List Clearing). next_of self.order cs) c.deref.ensures.value in
    subst (λ (o : Option (ℕ × ℕ)). MatchOption o ((b j leaf : ℕ) → ClearsAfter self.clears.items b j leaf → is_over self.order leaf ≡ false) (λ s. IsDueSlot self.order self.clears.items s.0 s.1 × Clears self.clears.items s.0 s.1)) (sym is) (next_is self.order self.clears.items)
