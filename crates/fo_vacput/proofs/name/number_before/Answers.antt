use Rattle.std.proofs.Common.{◌∙◌, eqb, ap, sym, length}
use Rattle.std.specs.Prelude.{position, decimal}
use Rattle.std.proofs.lemmas.Option.{same_Some}
use Rattle.fo_vacput.proofs.Names.{after_number, front_of, back_of}
use Rattle.fo_vacput.proofs.name.number_before.Goals as goal

pub returns-in_default : goal.returns-in_default
returns-in_default c = λ n more lt e.
    c.in_default.not-Some (length (decimal n)) (c.place_of.ensures ∙ ap (position (λ b. eqb b c.args.end)) e ∙ after_number n c.args.end more lt c.requires)

pub returns-in_default-number_of : goal.returns-in_default-number_of
returns-in_default-number_of c = λ n more lt e.
    let at = same_Some c.in-Some.at (length (decimal n)) (sym c.in-Some.is ∙ c.place_of.ensures ∙ ap (position (λ b. eqb b c.args.end)) e ∙ after_number n c.args.end more lt c.requires) in
    c.in_default-number_of.not-Some n (c.number_of.ensures n lt (front_of c.args.bytes.now (decimal n) more c.args.end c.in-Some.at e at))

pub returns : goal.returns
returns c = λ n more lt e.
    let at = same_Some c.in-Some.at (length (decimal n)) (sym c.in-Some.is ∙ c.place_of.ensures ∙ ap (position (λ b. eqb b c.args.end)) e ∙ after_number n c.args.end more lt c.requires) in
    let read = c.number_of.ensures n lt (front_of c.args.bytes.now (decimal n) more c.args.end c.in-Some.at e at) in
    (same_Some c.in-Some-number_of.n n (sym c.in-Some-number_of.is ∙ read), back_of c.args.bytes.now (decimal n) more c.args.end c.in-Some.at e at)
