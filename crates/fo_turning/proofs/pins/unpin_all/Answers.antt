use Rattle.std.proofs.Common.{◌<◌, refl, sym, ap, ◌∙◌, subst}
use Rattle.fo_mind.specs.Parts.{Parts, count_of}
use Rattle.fo_turning.specs.Freed.{pins_below}
use Rattle.fo_turning.proofs.Freeing.{loosens_on, loosens_same}
use Rattle.fo_turning.proofs.pins.unpin_all.Goals as goal

pub loop-init : goal.loop-init
loop-init g c = record { loosens = loosens_same _ _ refl; device = refl }

pub loop-preserved : goal.loop-preserved
loop-preserved g c = record {
  loosens = loosens_on c.loop.invariant.loosens c.unpin_next.ensures.loosens;
  device = c.unpin_next.ensures.device ∙ c.loop.invariant.device;
}

pub loop-smaller : goal.loop-smaller
loop-smaller g c =
    let l = c.loop.cache in
    let new = c.unpin_next.new.cache in
    subst (λ n. pins_below n new.mind.buffers < pins_below (count_of l.mind.labels) l.mind.buffers) (sym (ap (λ (z : Parts). count_of z.region) c.unpin_next.ensures.loosens.rest)) (c.unpin_next.ensures.less c.loop-test.true)

pub returns-clause-loosens : goal.returns-clause-loosens
returns-clause-loosens g c = loosens_on c.loop.invariant.loosens c.unpin_next.ensures.loosens
