-- Which slots wait to be cleared.
use Rattle.std.proofs.Common.{◌≡◌, inl, inr, ⊎_elim, ℕ, ◌&&◌, Bool, true, false, not, Option, Some, None, sym, ap, ◌∙◌, refl}
use Rattle.std.specs.Option.{IfSome}
use Rattle.fo_order.specs.Turns.{flag_at}
use Rattle.fo_facts.specs.Known.{fact_at}
use Rattle.fo_mind.specs.of_waits.Listed.{Clears}
use Rattle.fo_mind.specs.Due.{is_over}
use Rattle.fo_mind.specs.Parts.{IsDirty, IsNewborn, Parts}
use Rattle.fo_mind.specs.Turning.{Turning, is_settled}
use Rattle.fo_put.specs.Removed.{ClearsOrWaits}
use Rattle.fo_put.proofs.Removing.{delay_result}

never : {A : Type 0} → true ≡ false → A
never e = cc

-- what is dirty and in the tree has a turn
dirty_turn : (p : Parts) {first : ℕ} (b : ℕ) → Turning first p.held p.turns p.facts → IsDirty p.turns p.held b → (IsNewborn p.facts b → ⊥) → (flag_at p.turns b).dirty ≡ true
dirty_turn p b turning d linked = ⊎_elim (λ turn. turn) (λ changed. (turning.each b).turn changed (by (fact_at p.facts b).linked linked)) d
  where
    by : (l : Bool) → (l ≡ false → ⊥) → l ≡ true
    by true never_so = refl
    by false never_so = absurd (never_so refl)

-- what has a turn isn't settled
turn_waits : (p : Parts) (b : ℕ) → (flag_at p.turns b).dirty ≡ true → is_over p.turns b ≡ true → ⊥
turn_waits p b turn over = never (sym over ∙ ap (λ d. not d && is_settled (flag_at p.turns b).tried) turn)

-- What is to be cleared after a leaf that is dirty and in the tree waits.
pub waits_later : (p q : Parts) {first : ℕ} (at i : ℕ) (after : Option ℕ) → Turning first p.held p.turns p.facts → ClearsOrWaits at i after p q → IfSome after (λ leaf. IsDirty p.turns p.held leaf → (IsNewborn p.facts leaf → ⊥) → Clears q.clears at i)
waits_later p q at i None turning h = tt
waits_later p q at i (Some leaf) turning (inl removed) = λ d linked. absurd (turn_waits p leaf (dirty_turn p leaf turning d linked) removed.1)
waits_later p q at i (Some leaf) turning (inr late) = λ d linked. (delay_result late.1).clearing
