use Rattle.std.proofs.Common.{take, drop, ◌≡◌, ◌<◌, ◌≤◌, ◌+◌, ◌-◌, length, refl, ◌∙◌, arith}
use Rattle.std.proofs.lemmas.Result.{err_from_is_err_and}
use Rattle.std.proofs.lemmas.List.{length-take-le, length-drop}
use borrow.Rule.Slice.PartMut.{put_mid}
use Rattle.fo_vac_walk.specs.Walk.{byte_of}
use Rattle.fo_vac_walk.proofs.Blocks.{still_told}
use Rattle.fo_vac_walk.proofs.Parts.{copied_more, length_put_mid}
use Rattle.fo_vac_walk.proofs.source.Source.copy_out.Goals as goal

pub loop-done-init : goal.loop-done-init
loop-done-init g c = record {
  within = omega arith;
  shelf = refl;
  kept = refl;
  later = omega arith;
  given = λ h w told is i lt. absurd (omega (arith, lt));
}

pub returns-in_err-copy_part-clause-held : goal.returns-in_err-copy_part-clause-held
returns-in_err-copy_part-clause-held g c = λ h w told is.
    let p = err_from_is_err_and c.from_residual.result c.from_residual.ensures.1 in
    let i = c.loop-done.invariant in
    let later = still_told h _ _ _ _ i.shelf i.kept told in
    rw (p.1, p.2) (c.in_err-copy_part.ensures.held h w later is)

pub loop-done-preserved : goal.loop-done-preserved
loop-done-preserved g c =
    let done = c.loop-done.done in
    let n = c.min-count.result in
    let i = c.loop-done.invariant in
    let into = c.loop-done.into in
    let sub = c.copy_part.new.into in
    let e = c.in_ok-copy_part.ensures in
    let count = c.min-count.ensures in
    let lt : done < length into = omega arith in
    let fits : done + n ≤ length into = omega (arith, count, lt) in
    let back : done + n - done ≡ n = omega arith in
    let part_len : length (take (done + n - done) (drop done into)) ≡ n = length-take-le (done + n - done) (drop done into) (omega (arith, length-drop done into, fits)) ∙ back in
    let sub_len : length sub ≡ n = c.copy_part.auto.into ∙ part_len in
    let same_len : length (put_mid done (done + n - done) into sub) ≡ length into = length_put_mid done (done + n - done) into sub (omega (arith, fits)) (omega (arith, sub_len)) in
    let more = e.cause in
    let before = i.later in
    record {
      within = omega (arith, same_len, fits);
      shelf = e.shelf ∙ i.shelf;
      kept = e.kept ∙ i.kept;
      later = omega (arith, before, more.later);
      given = λ h w told is. copied_more (byte_of h w) (byte_of h w) into sub c.args.offset done n (done + n - done) back fits sub_len (i.given h w told is)
          (λ j below. refl)
          (λ j below. e.held h w (still_told h _ _ _ _ i.shelf i.kept told) is j (omega (arith, part_len, below)));
    }

pub returns-clause-held : goal.returns-clause-held
returns-clause-held g c = λ h w told is i lt. c.loop-done.invariant.given h w told is i (omega (arith, lt, c.loop-done.auto.into))
