use Rattle.std.proofs.Common.{◌∙◌, arith}
use Rattle.venti_store.proofs.Settled.{goes_wrote, goes_failed}
use Rattle.venti_store.proofs.Bytes.{Next, next_waiting, adding_bytes, wrote_more}
use Rattle.venti_store.proofs.writes.write_waiting.Goals as goal

pub returns-in_default-clause-goes : goal.returns-in_default-clause-goes
returns-in_default-clause-goes g c run size first waits start =
    let goes = c.loop-i.invariant.goes run size first waits start in
    let n : Next run _ c.loop-i.i _ _ = next_waiting c.args.pending.now waits first c.loop-i-test.true c.index-pending-i.result c.stored_block.ensures _ c.deref.ensures.value c.in_default.ensures.wrote.1 in
    goes_failed goes (adding_bytes n goes.is_run) (g.met.A.Disk.is_newest c.loop-i.device) c.in_default.ensures.wrote.2

pub loop-i-preserved : goal.loop-i-preserved
loop-i-preserved g c = record {
  size = c.in-Ok.ensures.size ∙ c.loop-i.invariant.size;
  later = omega (arith, c.loop-i.invariant.later, c.in-Ok.ensures.cause.later);
  calls = omega (arith, c.loop-i.invariant.calls, c.in-Ok.ensures.calls);
  goes = λ run size first waits start.
      let goes = c.loop-i.invariant.goes run size first waits start in
      let n : Next run _ c.loop-i.i _ _ = next_waiting c.args.pending.now waits first c.loop-i-test.true c.index-pending-i.result c.stored_block.ensures _ c.deref.ensures.value c.in-Ok.ensures.wrote.1 in
      goes_wrote goes (adding_bytes n goes.is_run) (g.met.A.Disk.is_newest c.loop-i.device) c.in-Ok.ensures.wrote.2;
  wrote = λ run size first waits start.
      let goes = c.loop-i.invariant.goes run size first waits start in
      let n : Next run _ c.loop-i.i _ _ = next_waiting c.args.pending.now waits first c.loop-i-test.true c.index-pending-i.result c.stored_block.ensures _ c.deref.ensures.value c.in-Ok.ensures.wrote.1 in
      wrote_more n goes.is_run goes.told (c.loop-i.invariant.wrote run size first waits start) c.in-Ok.ensures.wrote.2;
}
