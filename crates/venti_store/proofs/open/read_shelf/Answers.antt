use Rattle.std.proofs.Common.{arith}
use Rattle.std.proofs.lemmas.Result.{err_from_is_err_and}
use Rattle.venti_store.proofs.Openings.{shown_on, head_refused, lines_refused, indexed_is}
use Rattle.venti_store.proofs.open.read_shelf.Goals as goal

pub returns-in_err-used-clause-answer : goal.returns-in_err-used-clause-answer
returns-in_err-used-clause-answer g c vault shows =
    let p = err_from_is_err_and c.from_residual-in_err-used.result c.from_residual-in_err-used.ensures.1 in
    let len = c.in_ok-blocks.ensures.shown vault shows in
    rw (p.1, p.2) (head_refused vault _ (c.in_err-used.ensures.shown vault len (shown_on c.in_ok-blocks.ensures.kept shows)))

pub returns-in_err-index-clause-answer : goal.returns-in_err-index-clause-answer
returns-in_err-index-clause-answer g c vault shows =
    let p = err_from_is_err_and c.from_residual-in_err-index.result c.from_residual-in_err-index.ensures.1 in
    let len = c.in_ok-blocks.ensures.shown vault shows in
    let started = shown_on c.in_ok-blocks.ensures.kept shows in
    let used = c.in_ok-used.ensures.shown vault len started in
    rw (p.1, p.2) (lines_refused vault c.in_ok-used.used _ used (c.in_err-index.ensures.lines vault (shown_on c.in_ok-used.ensures.kept started)))

pub returns-clause-answer : goal.returns-clause-answer
returns-clause-answer g c vault shows =
    let len = c.in_ok-blocks.ensures.shown vault shows in
    let started = shown_on c.in_ok-blocks.ensures.kept shows in
    let used = c.in_ok-used.ensures.shown vault len started in
    let sizes = c.in_ok-blocks.ensures.size in
    indexed_is c.in_ok-index.index (omega (arith, len, sizes.1)) (omega (arith, len, sizes.2)) used.arena (c.in_ok-index.ensures.lines vault (shown_on c.in_ok-used.ensures.kept started))
