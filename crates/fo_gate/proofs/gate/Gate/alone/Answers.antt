use Rattle.std.proofs.Common.{sym, ◌∙◌, arith, eq-eqb}
use Rattle.std.proofs.lemmas.Bool.{eqb-true}
use Rattle.fo_gate.proofs.Histories.{all_held}
use Rattle.fo_gate.proofs.Sums.{total-one, below-one}
use Rattle.fo_gate.proofs.gate.Gate.alone.Goals as goal

pub returns : goal.returns
returns g c =
    let s = c.args.seat.now in
    let same = c.requires.knows.seats in (
      λ e. all_held s.inner.me.0.numbers s.inner.me.0.seats s.apart (sym s.counted.0 ∙ eqb-true _ _ e ∙ sym same),
      λ h. eq-eqb _ _ (let a = h (λ _. 1) in let b = total-one s.inner.me.0.numbers in let d = below-one s.inner.me.0.seats in let x = s.counted.0 in let y = same in omega arith),
    )
