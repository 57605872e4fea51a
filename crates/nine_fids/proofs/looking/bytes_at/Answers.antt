use Rattle.std.proofs.Common.{◌≡◌, length, arith}
use Rattle.std.proofs.lemmas.Result.{err_from_is_err_and}
use Rattle.fo_world.specs.Step as step
use Rattle.nine_fids.specs.Told.{bytes_at}
use Rattle.nine_fids.proofs.Seeing.{missed_looks, seen_looks}
use Rattle.nine_fids.proofs.Staying.{read_stays}
use Rattle.nine_fids.proofs.Placing.{cut_to}
use Rattle.nine_fids.proofs.looking.bytes_at.Goals as goal

pub returns-in_err-len-clause-looks : goal.returns-in_err-len-clause-looks
unfolding bytes_at
returns-in_err-len-clause-looks g c =
    let p = err_from_is_err_and c.from_residual-in_err-len.result c.from_residual-in_err-len.ensures.1 in
    let long : length c.as_mut_slice.result.now ≡ c.args.count = omega (arith, c.as_mut_slice.ensures.len, c.in_ok-bytes.ensures.len) in
    let answer = rw long at c.in_err-len.ensures.answer in
    rw (p.1, p.2) (missed_looks _ _ (λ e w. step.read e.whole w c.args.at.now c.args.offset c.args.count) c.in_err-len.field-0.0 answer c.in_err-len.ensures.cause)

pub returns-clause-looks : goal.returns-clause-looks
unfolding bytes_at
returns-clause-looks g c =
    let long : length c.as_mut_slice.result.now ≡ c.args.count = omega (arith, c.as_mut_slice.ensures.len, c.in_ok-bytes.ensures.len) in
    let told = rw long at c.in_ok-len.ensures.answer in
    let whole : c.in_ok-bytes.bytes.len ≡ length c.read.new.into = omega (arith, c.as_mut_slice.ensures.len, c.read.auto.into) in
    rw (c.new.ensures, c.truncate.ensures.items, cut_to c.in_ok-len.len c.in_ok-bytes.bytes.len c.read.new.into _ whole)
    (seen_looks _ _ (λ e w. step.read e.whole w c.args.at.now c.args.offset c.args.count) _ (λ e w. read_stays e.whole w c.args.at.now c.args.offset c.args.count) told)
