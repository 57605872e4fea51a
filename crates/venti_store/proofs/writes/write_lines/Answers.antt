use Rattle.std.proofs.Common.{length, ◌∙◌, refl, arith}
use Rattle.venti_store.proofs.Settled.{goes_wrote, goes_failed}
use Rattle.venti_store.proofs.Lines.{NextLines, next_lines, adding_lines, lines_wrote, bytes_stay}
use Rattle.venti_store.proofs.writes.write_lines.Goals as goal

pub returns-in_default-clause-goes : goal.returns-in_default-clause-goes
returns-in_default-clause-goes g c run size first lines start =
    let goes = c.loop-group.invariant.goes run size first lines start in
    let n : NextLines run c.loop-group.group _ _ = next_lines lines first c.requires.some (omega (arith, c.loop-group.auto.group)) (omega (arith, c.loop-group-test.true, c.div_ceil-group-end.ensures)) refl c.lines_of_group-block.ensures in
    goes_failed goes (adding_lines n goes.is_run) (g.met.A.Disk.is_newest c.loop-group.device) c.in_default.ensures.state

pub loop-group-preserved : goal.loop-group-preserved
loop-group-preserved g c = record {
  size = c.in-Ok.ensures.size ∙ c.loop-group.invariant.size;
  later = omega (arith, c.loop-group.invariant.later, c.in-Ok.ensures.cause.later);
  calls = omega (arith, c.loop-group.invariant.calls, c.in-Ok.ensures.calls);
  goes = λ run size first lines start.
      let goes = c.loop-group.invariant.goes run size first lines start in
      let n : NextLines run c.loop-group.group _ _ = next_lines lines first c.requires.some (omega (arith, c.loop-group.auto.group)) (omega (arith, c.loop-group-test.true, c.div_ceil-group-end.ensures)) refl c.lines_of_group-block.ensures in
      goes_wrote goes (adding_lines n goes.is_run) (g.met.A.Disk.is_newest c.loop-group.device) c.in-Ok.ensures.state;
  wrote = λ run size first lines start.
      let goes = c.loop-group.invariant.goes run size first lines start in
      let n : NextLines run c.loop-group.group _ _ = next_lines lines first c.requires.some (omega (arith, c.loop-group.auto.group)) (omega (arith, c.loop-group-test.true, c.div_ceil-group-end.ensures)) refl c.lines_of_group-block.ensures in
      lines_wrote n goes.is_run goes.told (c.loop-group.invariant.wrote run size first lines start) c.in-Ok.ensures.state;
  bytes = λ run wrote. bytes_stay c.loop-group.group (length run.lines) refl (c.loop-group.invariant.bytes run wrote) c.in-Ok.ensures.state;
}
