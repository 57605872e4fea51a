use Rattle.std.proofs.Common.{◌<◌, ⊎_elim, sym, subst, arith}
use Rattle.std.proofs.lemmas.Bool.{cases_lt}
use Rattle.std.proofs.lemmas.Result.{err_from_is_err_and}
use Rattle.fo_check_labels.specs.Table.{RefusesTable}
use Rattle.fo_image.specs.Place.{first_data}
use Rattle.fo_check_labels.proofs.Watching.{left_none, left_one}
use Rattle.fo_check_labels.proofs.labels.Labels.read.Goals as goal

pub returns-in_err-read-clause-table : goal.returns-in_err-read-clause-table
returns-in_err-read-clause-table g c image len shows =
    let p = err_from_is_err_and c.from_residual.result c.from_residual.ensures.1 in
    rw (p.1, p.2) (subst (RefusesTable image) (sym c.in_err-read.ensures.fault) tt)

pub returns-clause-once : goal.returns-clause-once
returns-clause-once g c =
    let known = c.loop-n.labels.known.items in
    let w = g.D.Reads.watched in
    let end = c.label_blocks-n-end.ensures in
    let is = c.loop-n.invariant in
    ⊎_elim
    (λ (low : w < first_data c.args.blocks). let none = left_none w known (λ i d lt e. let from = is.few.from i d lt in absurd (omega (arith, from, e, low))) in omega (arith, none, is.once))
    (λ high. omega (arith, left_one w known c.loop-n.labels.ascending, is.unread (omega (arith, high, end, c.loop-n.auto.n-end))))
    (cases_lt w (first_data c.args.blocks))
