use Rattle.std.proofs.Common.{refl, ap, ◌∙◌, arith}
use Rattle.std.proofs.lemmas.Result.{err_from_is_err_and}
use Rattle.fo_disk.specs.Disk.{DiskState}
use Rattle.fo_mind.specs.MindParts.{parts}
use Rattle.fo_turning.proofs.Flushing.{any_err}
use Rattle.fo_turning.proofs.Freeing.{yields_none}
use Rattle.fo_turning.proofs.Unlinking.{caused_later, closes_on, none_reads, reading_in, reading_none, reading_on, some_closes}
use Rattle.fo_turning.proofs.Yielding.{yields_on}
use Rattle.fo_turning.proofs.close.close_turn.Goals as goal

pub loop-answer-init : goal.loop-answer-init
loop-answer-init g c =
    let cache = c.args.cache.now in
    let p = parts cache.mind (g.D.Disk.state cache.main).holds (g.D.Disk.faults cache.main) in
    record { reading = reading_none (g.D.Disk.state cache.main).holds p cache.mind.queue; yields = yields_none p; rest = c.requires.rest; size = refl; state = refl; later = omega arith }

pub returns-in-Some-clause-closes : goal.returns-in-Some-clause-closes
returns-in-Some-clause-closes g c =
    let l = c.loop-answer.cache in
    let new = c.close_more.new.cache in
    let p = parts l.mind (g.D.Disk.state l.main).holds (g.D.Disk.faults l.main) in
    let q = parts new.mind (g.D.Disk.state new.main).holds (g.D.Disk.faults new.main) in
    closes_on c.loop-answer.invariant.reading
    (some_closes c.in_ok-answer.field-0 c.in-Some.answer p q l.mind.queue new.mind.queue c.in-Some.is (ap (λ (s : DiskState). s.holds) c.loop-answer.invariant.state) c.in_ok-answer.ensures.closes)

pub returns-in-Some-clause-yields : goal.returns-in-Some-clause-yields
returns-in-Some-clause-yields g c = yields_on c.loop-answer.invariant.yields c.close_more.ensures.yields

pub returns-in_err-answer-clause-refused : goal.returns-in_err-answer-clause-refused
returns-in_err-answer-clause-refused g c = any_err _ (reading_on c.loop-answer.invariant.reading (reading_in (ap (λ (s : DiskState). s.holds) c.loop-answer.invariant.state) c.in_err-answer.ensures.refused))

pub returns-in_err-answer-clause-yields : goal.returns-in_err-answer-clause-yields
returns-in_err-answer-clause-yields g c = yields_on c.loop-answer.invariant.yields c.close_more.ensures.yields

pub returns-in_err-answer-clause-cause : goal.returns-in_err-answer-clause-cause
returns-in_err-answer-clause-cause g c =
    let l = c.loop-answer.cache in
    let new = c.close_more.new.cache in
    let p = err_from_is_err_and c.from_residual.result c.from_residual.ensures.1 in
    rw (p.1, p.2) (caused_later (g.D.Disk.faults c.args.cache.now.main) (g.D.Disk.faults l.main) (g.D.Disk.faults new.main) _ c.loop-answer.invariant.later c.in_err-answer.ensures.cause)

pub loop-answer-preserved : goal.loop-answer-preserved
loop-answer-preserved g c =
    let l = c.loop-answer.cache in
    let new = c.close_more.new.cache in
    let p = parts l.mind (g.D.Disk.state l.main).holds (g.D.Disk.faults l.main) in
    let q = parts new.mind (g.D.Disk.state new.main).holds (g.D.Disk.faults new.main) in
    let x = c.loop-answer.invariant.later in
    let y = c.close_more.ensures.later in
    let r = none_reads c.in_ok-answer.field-0 p q l.mind.queue new.mind.queue c.in_default.is (ap (λ (s : DiskState). s.holds) c.loop-answer.invariant.state) c.in_ok-answer.ensures.closes in
    record {
      reading = reading_on c.loop-answer.invariant.reading r.0;
      yields = yields_on c.loop-answer.invariant.yields c.close_more.ensures.yields;
      rest = c.close_more.ensures.rest;
      size = c.close_more.ensures.size ∙ c.loop-answer.invariant.size;
      state = c.close_more.ensures.state ∙ c.loop-answer.invariant.state;
      later = omega (arith, x, y);
    }

pub loop-answer-smaller : goal.loop-answer-smaller
loop-answer-smaller g c =
    let l = c.loop-answer.cache in
    let new = c.close_more.new.cache in
    let p = parts l.mind (g.D.Disk.state l.main).holds (g.D.Disk.faults l.main) in
    let q = parts new.mind (g.D.Disk.state new.main).holds (g.D.Disk.faults new.main) in
    (none_reads c.in_ok-answer.field-0 p q l.mind.queue new.mind.queue c.in_default.is refl c.in_ok-answer.ensures.closes).1
