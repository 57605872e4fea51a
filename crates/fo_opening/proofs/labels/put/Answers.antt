use Rattle.std.proofs.Common.{◌≡◌, Bool, true, false, sym, ◌∙◌}
use Rattle.fo_opening.proofs.Loading.{loads_data, loads_free}
use Rattle.fo_opening.proofs.labels.put.Goals as goal

false_true : {A : Type 0} {b : Bool} → false ≡ b → b ≡ true → A
false_true e f = absurd (clash (e ∙ f))
  where
    clash : false ≡ true → ⊥
    clash h = cc

pub returns-then-is_data-clause-loads : goal.returns-then-is_data-clause-loads
returns-then-is_data-clause-loads c = λ _ bytes s. loads_data c.args.labels.now c.restore.new.self c.args.address c.args.label.now bytes (c.is_data.ensures.0 c.if-is_data.true) c.requires.labelled s c.restore.ensures

pub returns-clause-loads : goal.returns-clause-loads
returns-clause-loads c = λ e bytes s. loads_free c.args.labels.now c.args.address c.args.label.now bytes (λ d. false_true (sym c.if-is_data.false) (c.is_data.ensures.1 d)) c.requires.labelled s (c.is_free.ensures.0 e)

pub returns-clause-other : goal.returns-clause-other
returns-clause-other c = λ e. (λ d. false_true (sym c.if-is_data.false) (c.is_data.ensures.1 d), λ is. false_true (sym e) (c.is_free.ensures.1 is))
