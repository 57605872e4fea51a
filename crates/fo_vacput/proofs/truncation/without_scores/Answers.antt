use Rattle.std.proofs.Common.{◌∙◌, sym}
use Rattle.fo_vacput.proofs.Tails.{split_is, scores_cut, whole_cut}
use Rattle.fo_vacput.proofs.truncation.without_scores.Goals as goal

pub returns-then-is_zero : goal.returns-then-is_zero
returns-then-is_zero c =
    let parts = split_is c.args.bytes.now c.split_at.result.0.now c.split_at.result.1.now _ c.split_at.ensures.front c.split_at.ensures.back in
    scores_cut c.args.bytes.now c.split_at.result.0.now c.split_at.result.1.now c.without.result.now parts c.split_at.ensures.front_len (sym c.is_zero.ensures ∙ c.if-is_zero.true) c.without.ensures

pub returns-else-is_zero : goal.returns-else-is_zero
returns-else-is_zero c =
    let parts = split_is c.args.bytes.now c.split_at.result.0.now c.split_at.result.1.now _ c.split_at.ensures.front c.split_at.ensures.back in
    whole_cut c.args.bytes.now c.split_at.result.0.now c.split_at.result.1.now parts c.split_at.ensures.front_len (sym c.is_zero.ensures ∙ c.if-is_zero.false)
