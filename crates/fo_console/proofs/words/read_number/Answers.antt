use Rattle.std.proofs.Common.{◌≡◌, sym, ap, ◌∙◌}
use Rattle.std.proofs.lemmas.Bool.{both_ways}
use Rattle.fo_console.specs.Reading.{is_number}
use Rattle.fo_console.proofs.WordLemmas.{number_found, number_none, parsed}
use Rattle.fo_console.proofs.words.read_number.Goals as goal

pub returns-in_default : goal.returns-in_default
returns-in_default c =
    number_none c.args.word.now (λ n h.
    let is = parsed c.args.word.now c.parse.result c.parse.ensures.value.0 n h in
    absurd (cc))

pub returns-then-is_number : goal.returns-then-is_number
returns-then-is_number c =
    number_found c.in-Ok.number c.args.word.now (sym c.is_number.ensures ∙ c.if-is_number.true)

pub returns-else-is_number : goal.returns-else-is_number
returns-else-is_number c =
    number_none c.args.word.now (λ n h.
    let is = parsed c.args.word.now c.parse.result c.parse.ensures.value.0 n h in
    let same : n ≡ c.in-Ok.number = cc in
    both_ways _ (sym c.is_number.ensures ∙ c.if-is_number.false) (ap (λ m. is_number m c.args.word.now) (sym same) ∙ h))
