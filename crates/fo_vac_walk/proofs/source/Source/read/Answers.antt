use Rattle.std.proofs.Common.{◌≡◌, ◌-◌, [], min, length, drop, ◌∙◌, arith}
use Rattle.std.proofs.lemmas.List.{take_at, length-take}
use Rattle.std.proofs.lemmas.Result.{err_from_is_err_and}
use Rattle.fo_good.specs.Trees.{size_of}
use Rattle.fo_vac_walk.specs.Walk.{byte_of}
use Rattle.fo_vac_walk.proofs.Parts.{values_given}
use Rattle.fo_vac_walk.proofs.source.Source.read.Goals as goal

pub returns-then-left-eq0-clause-held : goal.returns-then-left-eq0-clause-held
returns-then-left-eq0-clause-held g c = λ h w told is.
    let size = is.size in
    values_given (byte_of h w) (size_of w.slot) c.args.offset (length c.args.into.now) [] (omega (arith, size)) (λ i lt. absurd (omega (arith, lt)))

pub returns-in_err-copy_out-clause-held : goal.returns-in_err-copy_out-clause-held
returns-in_err-copy_out-clause-held g c = λ h w told is.
    let p = err_from_is_err_and c.from_residual.result c.from_residual.ensures.1 in
    rw (p.1, p.2) (c.in_err-copy_out.ensures.held h w told is)

pub returns-clause-held : goal.returns-clause-held
returns-clause-held g c = λ h w told is.
    let n = c.min-count.result in
    let size = is.size in
    let long : length c.copy_out.new.into ≡ n = c.copy_out.auto.into ∙ (omega (arith, length-take n c.args.into.now)) in
    let all : length c.copy_out.new.into ≡ min (length c.args.into.now) (size_of w.slot - c.args.offset) = omega (arith, long, size) in
    take_at c.copy_out.new.into (drop n c.args.into.now) n long
    ∙ values_given (byte_of h w) (size_of w.slot) c.args.offset (length c.args.into.now) c.copy_out.new.into all
    (λ i lt. c.in_ok-copy_out.ensures.held h w told is i (omega (arith, lt, long, length-take n c.args.into.now)))
