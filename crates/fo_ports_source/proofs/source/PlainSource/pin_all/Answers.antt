use Rattle.std.proofs.Common.{rules, IfErr, ◌≡◌, Some, subst, inl, ⊎_elim, arith}
use Rattle.std.proofs.lemmas.Bool.{cases_lt}
use Rattle.fo_base.specs.Cause.{Rose}
use Rattle.fo_ports.specs.Causes.{Caused}
use Rattle.fo_ports_source.specs.Source.{leaf_of}
use Rattle.fo_ports_source.proofs.Looks.{looks_joins, over_looks, held_looks}
use Rattle.fo_ports_source.proofs.Puts.{later_cause}
use Rattle.fo_ports_source.proofs.source.PlainSource.pin_all.Goals as goal

pub pin-requires-clause-over : goal.pin-requires-clause-over
pin-requires-clause-over g c =
    let i = c.loop-i.invariant in
    let k = g.met.B.Blocks.keeps_all c.args.on.now c.loop-i.on i.keeps in
    over_looks i.looks k c.requires.over

pub returns-in_err-pin-clause-looks : goal.returns-in_err-pin-clause-looks
returns-in_err-pin-clause-looks g c =
    let i = c.loop-i.invariant in
    let k = g.met.B.Blocks.keeps_all c.args.on.now c.loop-i.on i.keeps in
    looks_joins k i.looks c.pin.ensures.looks

pub returns-in_err-pin-clause-cause : goal.returns-in_err-pin-clause-cause
returns-in_err-pin-clause-cause g c =
    let on = c.args.on.now in
    let mid = c.loop-i.on in
    let k = g.met.B.Blocks.keeps_all on mid c.loop-i.invariant.keeps in
    let here : IfErr c.from_residual.result (Caused ⊥ (λ b. ((g.B.Blocks.state mid).tells → ⊥) × (g.B.Blocks.state mid).is_block b) (Rose (g.B.Blocks.state mid).faults (g.B.Blocks.state c.pin.new.on).faults) ⊥) = search rules in
    later_cause c.from_residual.result (λ b. ((g.B.Blocks.state mid).tells → ⊥) × (g.B.Blocks.state mid).is_block b) (λ b. ((g.B.Blocks.state on).tells → ⊥) × (g.B.Blocks.state on).is_block b) (g.B.Blocks.state on).faults (g.B.Blocks.state mid).faults (g.B.Blocks.state c.pin.new.on).faults (λ b d. (λ told. d.0 (k.still_tells.1 told), (k.same_blocks b).0 d.1)) k.more_faults here

pub loop-i-preserved : goal.loop-i-preserved
loop-i-preserved g c =
    let i = c.loop-i.invariant in
    let on = c.args.on.now in
    let mid = c.loop-i.on in
    let k = g.met.B.Blocks.keeps_all on mid i.keeps in
    let e = c.in_ok-pin.ensures in
    let looks = c.pin.ensures.looks in
    let more = g.met.B.Blocks.keeps_all mid c.pin.new.on c.pin.ensures.keeps in
    record {
      looks = looks_joins k i.looks looks;
      keeps = g.met.B.Blocks.keeps_joins on mid c.pin.new.on i.keeps c.pin.ensures.keeps;
      held = λ enough j at from to is. ⊎_elim
          (λ below. held_looks looks more at (i.held enough j at from below is))
          (λ above. let same : j ≡ c.loop-i.i = omega arith in e.held at (subst (λ y. leaf_of c.args.self.now.leaves.items y ≡ Some at) same is) (inl (omega arith)))
          (cases_lt j c.loop-i.i);
      pins = omega arith;
    }

pub returns-clause-held : goal.returns-clause-held
returns-clause-held g c = λ enough j at from to is. c.loop-i.invariant.held enough j at from (omega arith) is
