use Rattle.std.proofs.Common.{map, sym, ap, ◌∙◌}
use Rattle.std.specs.Option.{option_map}
use Rattle.std.proofs.lemmas.Bool.{both_ways}
use Rattle.fo_console.specs.Command.{said}
use Rattle.fo_base.specs.Parts.{parts_at}
use Rattle.fo_console.specs.Reading.{command_of, is_line}
use Rattle.fo_console.proofs.WordLemmas.{texts_cut}
use Rattle.fo_console.proofs.Commands.{line_cut, line_says, line_is, line_parts, line_text, said_same}
use Rattle.fo_console.proofs.read.read_line.Goals as goal

pub returns-then-not-is_line-clause-only : goal.returns-then-not-is_line-clause-only
returns-then-not-is_line-clause-only c =
    λ s h. absurd (both_ways (is_line c.args.line.now) (sym c.is_line.ensures ∙ c.if-not-is_line.true) (line_is c.args.line.now s h))

pub returns-in_default-clause-only : goal.returns-in_default-clause-only
returns-in_default-clause-only c =
    let bad = c.in_default.ensures.cases.0 in
    λ s h. absurd (bad (line_text c.args.line.now s h))

pub returns-then-not-are_texts-clause-only : goal.returns-then-not-are_texts-clause-only
returns-then-not-are_texts-clause-only c =
    let cut = ap (map (λ x. x.now)) c.as_slice.ensures.value ∙ c.in_ok-words.ensures ∙ ap (parts_at 32) c.in-Ok.ensures.cases.0 in
    λ s h. absurd (both_ways _ (texts_cut c.as_slice.result.now _ cut ∙ sym c.are_texts.ensures ∙ c.if-not-are_texts.true) (line_cut c.args.line.now s h).some)

pub returns-in_default-2-clause-only : goal.returns-in_default-2-clause-only
returns-in_default-2-clause-only c =
    let cut = ap (map (λ x. x.now)) c.as_slice-2.ensures.value ∙ c.in_ok-words.ensures ∙ ap (parts_at 32) c.in-Ok.ensures.cases.0 in
    let none = ap (option_map said) (sym c.in_default-2.is) ∙ c.in_ok-command.ensures ∙ ap command_of cut in
    λ s h. let read = (line_cut c.args.line.now s h).read in absurd (cc)

pub returns-clause-found : goal.returns-clause-found
returns-clause-found c =
    let first = ap (map (λ x. x.now)) c.as_slice.ensures.value ∙ c.in_ok-words.ensures ∙ ap (parts_at 32) c.in-Ok.ensures.cases.0 in
    let cut = ap (map (λ x. x.now)) c.as_slice-2.ensures.value ∙ c.in_ok-words.ensures ∙ ap (parts_at 32) c.in-Ok.ensures.cases.0 in
    let read = ap command_of (sym cut) ∙ sym c.in_ok-command.ensures ∙ ap (option_map said) c.in-Some.is in
    let is = line_parts c.args.line.now (sym c.is_line.ensures ∙ c.if-not-is_line.false) in
    line_says c.args.line.now (said c.in-Some.command) is.1 is.0 (record {
      some = texts_cut c.as_slice.result.now _ first ∙ sym c.are_texts.ensures ∙ c.if-not-are_texts.false;
      read = read;
    })

pub returns-clause-only : goal.returns-clause-only
returns-clause-only c =
    let cut = ap (map (λ x. x.now)) c.as_slice-2.ensures.value ∙ c.in_ok-words.ensures ∙ ap (parts_at 32) c.in-Ok.ensures.cases.0 in
    let read = ap command_of (sym cut) ∙ sym c.in_ok-command.ensures ∙ ap (option_map said) c.in-Some.is in
    λ s h. said_same c.args.line.now (said c.in-Some.command) s read h
