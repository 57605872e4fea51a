use Rattle.std.proofs.Common.{◌<◌, [], length, arith}
use Rattle.fo_ports.proofs.of_meta.Leaves.{here_is}
use Rattle.fo_slots.proofs.Leaving.{runs_more, walks_on}
use Rattle.fo_slots.proofs.leaf.records_end.Goals as goal

pub returns-in_default-clause-only : goal.returns-in_default-clause-only
returns-in_default-clause-only c = λ rs s e.
    let lt : c.records.counter < length rs = omega (arith, e, c.records-test.true) in
    let h = here_is c.args.leaf.now [] rs c.records.counter c.records.at s (c.records.invariant.walks rs s e) lt in
    let some = c.in_default.ensures.only h.named h.more h.spelled h.here in
    absurd (cc)

pub records-preserved : goal.records-preserved
records-preserved c = record {
  runs = runs_more c.args.leaf.now c.records.counter c.records.at c.in-Some.end c.records.invariant.runs c.in-Some.ensures.spelled;
  walks = λ rs s e.
      let lt : c.records.counter < length rs = omega (arith, e, c.records-test.true) in
      walks_on c.args.leaf.now rs c.records.counter c.records.at c.in-Some.end s (c.records.invariant.walks rs s e) lt (λ r more spelled here. let some = c.in-Some.ensures.only r more spelled here in cc);
}
