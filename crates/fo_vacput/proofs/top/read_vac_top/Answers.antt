use Rattle.std.proofs.Common.{◌∙◌, sym, subst}
use Rattle.std.proofs.lemmas.Option.{same_Some}
use Rattle.fo_vacput.specs.declared.types.VacTop.{VacTop}
use Rattle.fo_vacput.specs.Top.{SpellsVacTop}
use Rattle.fo_vacput.proofs.top.read_vac_top.Goals as goal

pub returns-else-is_top_at : goal.returns-else-is_top_at
returns-else-is_top_at c =
    let lacks : (t : VacTop) → SpellsVacTop t c.args.block.now → ⊥ = λ t s.
    let same = same_Some c.in-Some.top t (sym c.in-Some.is ∙ c.in_ok-top.ensures.only t s) in
    let yes = c.is_top_at.ensures.1 (subst (λ u. SpellsVacTop u c.args.block.now) (sym same) s) in
    let no = c.if-is_top_at.false in
    absurd (cc (yes, no)) in
    record { found = tt; only = λ t s. absurd (lacks t s); refused = lacks }
