use Rattle.std.proofs.Common.{◌≡◌, sym, ap, ◌∙◌}
use Rattle.std.proofs.lemmas.Bool.{both_ways}
use Rattle.fo_lines.specs.Reading.{is_number, number_at}
use Rattle.fo_lines.proofs.WordLemmas.{number_found, number_none, number_is_text, parsed}
use Rattle.fo_lines.proofs.words.number_of.Goals as goal

pub returns-in_default : goal.returns-in_default
returns-in_default c = number_none c.args.word.now (λ n h. absurd (c.in_default.ensures.cases.0 (number_is_text c.args.word.now n h)))

pub returns-in_default-parse : goal.returns-in_default-parse
returns-in_default-parse c =
    let same = c.in-Ok.ensures.cases.0 in
    number_none c.args.word.now (λ n h.
    let is = parsed c.in-Ok.text.now c.parse.result c.parse.ensures.value.0 n (ap (is_number n) same ∙ h) in
    absurd (cc))

pub returns-then-is_number : goal.returns-then-is_number
returns-then-is_number c =
    let same = c.in-Ok.ensures.cases.0 in
    number_found c.in-Ok-parse.number c.in-Ok.text.now (sym c.is_number.ensures ∙ c.if-is_number.true) ∙ ap number_at same

pub returns-else-is_number : goal.returns-else-is_number
returns-else-is_number c =
    let same = c.in-Ok.ensures.cases.0 in
    number_none c.args.word.now (λ n h.
    let h' = ap (is_number n) same ∙ h in
    let is = parsed c.in-Ok.text.now c.parse.result c.parse.ensures.value.0 n h' in
    let number : n ≡ c.in-Ok-parse.number = cc in
    both_ways _ (sym c.is_number.ensures ∙ c.if-is_number.false) (ap (λ m. is_number m c.in-Ok.text.now) (sym number) ∙ h'))
