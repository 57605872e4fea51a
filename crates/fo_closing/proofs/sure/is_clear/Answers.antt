use Rattle.std.proofs.Common.{◌≡◌, ◌∙◌, Bool, true, false, not, refl, sym}
use Rattle.fo_closing.proofs.Clearing.{none_clears, some_clears}
use Rattle.fo_closing.proofs.sure.is_clear.Goals as goal

not_true : (b : Bool) → not b ≡ true → b ≡ false
not_true true e = cc
not_true false e = refl

either : (b : Bool) → (b ≡ true → ⊥) → not b ≡ true
either true free = absurd (free refl)
either false free = refl

pub returns : goal.returns
returns c = (
  λ t. none_clears c.args.at c.args.clears.now (sym c.any_clears.ensures ∙ not_true c.any_clears.result t),
  λ none. either c.any_clears.result (λ t. some_clears c.args.at c.args.clears.now (sym c.any_clears.ensures ∙ t) none),
)
