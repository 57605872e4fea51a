use Rattle.std.proofs.Common.{◌≡◌, ◌≤◌, ◌+◌, ◌/◌, inl, arith}
use Rattle.fo_ports_source.specs.Source.{leaves_for}
use Rattle.fo_ports_source.proofs.Looks.{looks_joins, over_looks, held_looks}
use Rattle.fo_ports_source.proofs.Puts.{later_cause, then_ok}
use Rattle.fo_ports_source.proofs.source.PlainSource.pin_for.Goals as goal

pub pin_all-requires-clause-over : goal.pin_all-requires-clause-over
pin_all-requires-clause-over g c = over_looks c.pin_last.ensures.looks (g.met.B.Blocks.keeps_all c.args.on.now c.pin_last.new.on c.pin_last.ensures.keeps) c.requires.over

pub returns-clause-looks : goal.returns-clause-looks
returns-clause-looks g c = looks_joins (g.met.B.Blocks.keeps_all c.args.on.now c.pin_last.new.on c.pin_last.ensures.keeps) c.pin_last.ensures.looks c.pin_all.ensures.looks

pub returns-clause-cause : goal.returns-clause-cause
returns-clause-cause g c =
    let on = c.args.on.now in
    let mid = c.pin_last.new.on in
    let k = g.met.B.Blocks.keeps_all on mid c.pin_last.ensures.keeps in
    later_cause c.pin_all.result (λ b. ((g.B.Blocks.state mid).tells → ⊥) × (g.B.Blocks.state mid).is_block b) (λ b. ((g.B.Blocks.state on).tells → ⊥) × (g.B.Blocks.state on).is_block b) (g.B.Blocks.state on).faults (g.B.Blocks.state mid).faults (g.B.Blocks.state c.pin_all.new.on).faults (λ b d. (λ told. d.0 (k.still_tells.1 told), (k.same_blocks b).0 d.1)) k.more_faults c.pin_all.ensures.cause

pub returns-clause-prepared : goal.returns-clause-prepared
returns-clause-prepared g c =
    let pins = c.pin_last.ensures.pins in
    let last : c.div_ceil.result ≡ (c.args.offset + c.args.len + 8191) / 8192 = omega (arith, c.div_ceil.ensures) in
    let k = g.met.B.Blocks.keeps_all c.pin_last.new.on c.pin_all.new.on c.pin_all.ensures.keeps in
    then_ok c.pin_all.result _ _ (λ held (enough : leaves_for c.args.len + 1 ≤ (g.B.Blocks.state c.args.on.now).pins_left). record {
      each = λ x at from to e. held (omega (arith, last, enough, pins)) (x / 8192) at (omega (arith, from)) (omega (arith, last, to)) e;
      last = λ at past e. held_looks c.pin_all.ensures.looks k at (c.in_ok-pin_last.ensures.held at past e (inl (omega (arith, enough))));
      limit = c.requires.within;
    }) c.pin_all.ensures.held
