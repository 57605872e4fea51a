use Rattle.std.proofs.Common.{map, ◌∙◌, ap}
use Rattle.std.proofs.lemmas.Result.{err_from_is_err_and}
use Rattle.fo_users.proofs.Lines.{nobody, lines_along, item_spelled, lines_next, users_next}
use Rattle.fo_users.proofs.read.read_lines.Goals as goal

pub returns-in_err-read_line-clause-only : goal.returns-in_err-read_line-clause-only
returns-in_err-read_line-clause-only c =
    let p = err_from_is_err_and c.from_residual-in_err-read_line.result c.from_residual-in_err-read_line.ensures.1 in
    let texts = c.deref-text-items.result.now in
    let cut = ap (map (λ x. x.now)) c.deref-text-items.ensures.value ∙ c.in_ok-texts.ensures in
    λ us s. rw (p.1) (p.2 ∙ c.in_err-read_line.ensures.only _ (item_spelled texts c.loop-text.text-index _ us nobody c.loop-text-test.true (lines_along _ _ us cut s)))

pub loop-text-preserved : goal.loop-text-preserved
loop-text-preserved c =
    let texts = c.deref-text-items.result.now in
    let user = c.in_ok-read_line.field-0 in
    let at = c.loop-text.text-index in
    record {
      found = rw c.in_ok-add.ensures (lines_next texts at _ c.loop-text.users.items user c.loop-text-test.true c.loop-text.invariant.found c.in_ok-read_line.ensures.found);
      only = λ us s.
          c.in_ok-add.ensures ∙ users_next texts at _ c.loop-text.users.items us user c.loop-text-test.true s (c.loop-text.invariant.only us s) c.in_ok-read_line.ensures.only;
    }
