use Rattle.std.proofs.Common.{◌+◌, length, ap, arith}
use Rattle.fo_takeout.specs.declared.walk.Answer.{Answer}
use Rattle.fo_takeout.specs.Walking.{removals_of}
use Rattle.fo_taking.specs.Taken.{begun}
use Rattle.fo_taking.proofs.Stepping.{first_count, pushed_more, takes_put}
use Rattle.fo_taking.proofs.taking.take_put.Goals as goal

pub returns-clause-pushed : goal.returns-clause-pushed
returns-clause-pushed c =
    let put = c.args.put.now in
    let p = c.take_out.ensures.pushed in
    let le = p.1 in
    let count = c.push-first.ensures.count in
    let same = ap (λ (a : Answer). length (removals_of a)) c.begin-answer.ensures.answers in
    let most = first_count (begun c.args.walk.now put.at c.args.epoch) put.kind put.old put.new in
    let some = c.requires.some in
    (c.push-first.result + p.0, omega (arith, le, count, same, most, some), pushed_more c.push-first.ensures.pushed p.2)

pub returns-clause-takes : goal.returns-clause-takes
returns-clause-takes c = λ now shows.
    let put = c.args.put.now in
    let count = c.push-first.ensures.count in
    let same = ap (λ (a : Answer). length (removals_of a)) c.begin-answer.ensures.answers in
    let most = first_count (begun c.args.walk.now put.at c.args.epoch) put.kind put.old put.new in
    let some = c.requires.some in
    takes_put c.begin-answer.result c.begin-answer.ensures.begins c.begin-answer.ensures.answers c.push-first.ensures.queued (omega (arith, count, same, most, some)) c.stop.ensures (c.take_out.ensures.ends now shows)
