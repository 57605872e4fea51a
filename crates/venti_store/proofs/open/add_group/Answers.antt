use Rattle.std.proofs.Common.{◌+◌, ◌*◌, ◌∙◌, ◌<◌, arith}
use Rattle.std.proofs.lemmas.Result.{err_from_is_err_and}
use Rattle.venti_store.proofs.Openings.{bytes_here, read_more, more_lines, refuse_line}
use Rattle.venti_store.proofs.open.add_group.Goals as goal

pub returns-in_err-add_line-clause-lines : goal.returns-in_err-add_line-clause-lines
returns-in_err-add_line-clause-lines c vault is start =
    let p = err_from_is_err_and c.from_residual.result c.from_residual.ensures.1 in
    let few : c.loop-n.n < 341 = omega (arith, c.loop-n-test.true, c.min-n-end.ensures) in
    rw (p.1, p.2) (refuse_line (c.loop-n.invariant.lines vault is start) (bytes_here c.args.group c.loop-n.n c.args.block.now vault few is) _ (omega (arith, c.loop-n-test.true, c.min-n-end.ensures)) c.in_err-add_line.ensures)

pub loop-n-preserved : goal.loop-n-preserved
loop-n-preserved c =
    let few : c.loop-n.n < 341 = omega (arith, c.loop-n-test.true, c.min-n-end.ensures) in
    record {
      count = more_lines c.in_ok-add_line.ensures ∙ omega (arith, c.loop-n.invariant.count);
      lines = λ vault is start. read_more (c.loop-n.invariant.lines vault is start) (bytes_here c.args.group c.loop-n.n c.args.block.now vault few is) c.in_ok-add_line.ensures (341 * c.args.group + (c.loop-n.n + 1)) (omega arith);
    }
