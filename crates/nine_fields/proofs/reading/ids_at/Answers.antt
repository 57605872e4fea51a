use Rattle.std.proofs.lemmas.Result.{err_from_is_err_and}
use Rattle.nine_fields.specs.Reading.{ids_at}
use Rattle.nine_fields.proofs.Listing.{ids_listed, goes_on, ends, is_done}
use Rattle.nine_fields.proofs.reading.ids_at.Goals as goal

pub returns-in_err-qid : goal.returns-in_err-qid
returns-in_err-qid c =
    let p = err_from_is_err_and c.from_residual.result c.from_residual.ensures.1 in
    rw (p.1, p.2) (ends ids_listed c.qids.qids.items c.args.count c.qids.counter c.qids.rest.now (ids_at c.args.count c.args.bytes.now) c.qids-test.true c.in_err-qid.ensures c.qids.invariant)

pub qids-preserved : goal.qids-preserved
qids-preserved c =
    rw c.in_ok-push.ensures.items (goes_on ids_listed c.qids.qids.items c.args.count c.qids.counter c.qids.rest.now c.in_ok-qid.qid c.in_ok-qid.after.now (ids_at c.args.count c.args.bytes.now) c.qids-test.true c.in_ok-qid.ensures c.qids.invariant)

pub returns : goal.returns
returns c = is_done ids_listed c.qids.qids.items c.args.count c.qids.counter c.qids.rest.now (ids_at c.args.count c.args.bytes.now) c.qids-test.false c.qids.invariant
