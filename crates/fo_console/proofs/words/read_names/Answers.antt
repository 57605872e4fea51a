use Rattle.std.proofs.Common.{Some, map, sym, ap, ◌∙◌}
use Rattle.fo_console.proofs.WordLemmas.{names_missing, names_there, texts_cut}
use Rattle.fo_console.proofs.words.read_names.Goals as goal

pub returns-then-not-are_texts : goal.returns-then-not-are_texts
returns-then-not-are_texts c =
    let cut = ap (map (λ x. x.now)) c.as_slice.ensures.value ∙ c.in_ok-parts.ensures in
    names_missing c.args.names.now (sym c.is_empty.ensures ∙ c.if-is_empty.false) (texts_cut c.as_slice.result.now _ cut ∙ sym c.are_texts.ensures ∙ c.if-not-are_texts.true)

pub returns : goal.returns
returns c =
    let cut = ap (map (λ x. x.now)) c.as_slice.ensures.value ∙ c.in_ok-parts.ensures in
    let same = ap (map (λ x. x.now)) c.as_slice-2.ensures.value ∙ c.in_ok-parts.ensures in
    ap (λ names. Some names) (c.in_ok-copies.ensures ∙ same) ∙ names_there c.args.names.now (sym c.is_empty.ensures ∙ c.if-is_empty.false) (texts_cut c.as_slice.result.now _ cut ∙ sym c.are_texts.ensures ∙ c.if-not-are_texts.false)
