use Rattle.std.proofs.Common.{◌∙◌, [], ⊎_elim, ap, refl, arith}
use Rattle.std.proofs.lemmas.Bool.{cases_eq}
use Rattle.fo_closing.specs.of_mind.MindParts.{parts}
use Rattle.fo_closing.specs.of_mind.Turning.{may_release}
use Rattle.fo_reserving.proofs.Ending.{within, within_was}
use Rattle.fo_reserving.proofs.Letting.{lets_none, lets_on}
use Rattle.fo_reserving.proofs.pins.release_each.Goals as goal

pub loop-at-init : goal.loop-at-init
loop-at-init g c = record { lets = lets_none (parts c.args.cache.now.mind [] 0); none = λ b lo lt. absurd (omega (arith, lo, lt)); device = refl }

pub release_one-requires : goal.release_one-requires
release_one-requires g c =
    let mind = c.args.cache.now.mind in
    record { block = within (parts mind [] 0) (parts c.loop-at.cache.mind [] 0) c.loop-at.at mind.placed c.loop-at.invariant.lets (omega arith) (omega arith) }

pub loop-at-preserved : goal.loop-at-preserved
loop-at-preserved g c =
    let e = c.release_one.ensures in
    record {
      lets = lets_on c.loop-at.invariant.lets e.lets;
      none = λ b lo lt. ⊎_elim
          (λ is. ap (may_release (parts c.release_one.new.cache.mind [] 0)) is ∙ e.gone)
          (λ ne. e.others b (c.loop-at.invariant.none b lo (omega (arith, lt, ne))))
          (cases_eq b c.loop-at.at);
      device = e.device ∙ c.loop-at.invariant.device;
    }

pub returns-clause-lets : goal.returns-clause-lets
returns-clause-lets g c = c.loop-at.invariant.lets

pub returns-clause-none : goal.returns-clause-none
returns-clause-none g c = λ b is.
    let mind = c.args.cache.now.mind in
    let w = within_was (parts mind [] 0) (parts c.loop-at.cache.mind [] 0) b mind.placed c.loop-at.invariant.lets is in
    let lo = w.0 in
    let hi = w.1 in
    c.loop-at.invariant.none b lo (omega (arith, hi))
