use Rattle.std.proofs.Common.{◌≤◌, inr, length, lit≤, refl, sym, ◌∙◌, ap, subst, ⊎_elim, arith}
use Rattle.std.proofs.Math.Nat.{le_refl}
use Rattle.fo_image.specs.declared.types.Label.{Label}
use Rattle.fo_crash.specs.Places.{place}
use Rattle.fo_crash.proofs.Reach.{reaches_itself}
use Rattle.fo_ports.specs.Blocks.{blank, IsLevel}
use Rattle.fo_ports.proofs.Lengths.{length_zero_bytes}
use Rattle.fo_ports_source.specs.Source.{HasLabel}
use Rattle.fo_ports_source.proofs.Steps.{given_out}
use Rattle.fo_ports_source.proofs.Dirtied.{dirties_given}
use Rattle.fo_ports_source.proofs.own.new_leaf.Goals as goal

pub new_block-requires-clause-level : goal.new_block-requires-clause-level
new_block-requires-clause-level g c = ⊎_elim (λ e. subst (λ k. IsLevel k) (sym e) (lit≤ tt)) (λ e. subst (λ k. IsLevel k) (sym e) (lit≤ tt)) c.requires.kind

pub returns-clause-own : goal.returns-clause-own
returns-clause-own g c =
    let new = g.B.Blocks.state c.new_block.new.self in
    let e = c.new_block.ensures in
    let k = g.met.B.Blocks.keeps_all c.args.on.now c.new_block.new.self e.keeps in
    let label = e.gives.label in
    let current = ap (λ (l : Label). l.epoch) label ∙ sym k.same_high in
    let labelled : HasLabel new.high c.args.kind c.args.tag (new.label c.new_block.result) = record {
      is_live = ap (λ (l : Label). l.state) label;
      has_kind = ap (λ (l : Label). l.kind) label;
      has_tag = ap (λ (l : Label). l.tag) label;
      up_to = subst (λ n. n ≤ new.high) (sym current) (le_refl new.high);
    } in
    record {
      leaf = record {
        is_one = e.gives.is.0;
        told = λ told. record {
          labelled = labelled;
          there = e.place (k.still_tells.0 told);
          uncovered = e.gives.is.4;
          active = (g.met.B.Blocks.active c.new_block.new.self).0;
          hung = inr (record { top = c.new_block.result; is_apart = e.gives.is.3; place = place c.args.kind c.args.tag 0 c.args.rank; stands = e.place (k.still_tells.0 told); uncovered = e.gives.is.4; reaches = reaches_itself new.now c.new_block.result });
          in_tree = λ older. absurd (omega (arith, older, current));
        };
      };
      held = record { labelled = labelled; is_pinned = e.gives.is.1; long = ap length e.gives.memory.here.bytes ∙ length_zero_bytes };
      current = current;
    }

pub returns-clause-steps : goal.returns-clause-steps
returns-clause-steps g c =
    let e = c.new_block.ensures in
    given_out {at = c.new_block.result} {content = blank c.args.kind} (record {
      gives = e.gives;
      live = refl;
      epoch = refl;
      tagged = refl;
      instead = λ x i. absurd (e.instead x i);
      all = g.met.B.Blocks.keeps_all c.args.on.now c.new_block.new.self e.keeps;
      present = g.met.B.Blocks.present c.new_block.new.self;
      active = (g.met.B.Blocks.active c.args.on.now).0;
      placed = λ told. g.met.B.Blocks.placed c.args.on.now (g.B.Blocks.state c.args.on.now).now (g.met.B.Blocks.present c.args.on.now told);
      falls = λ told. g.met.B.Blocks.ranked c.args.on.now (g.B.Blocks.state c.args.on.now).now (g.met.B.Blocks.present c.args.on.now told);
    })

pub returns-clause-dirties : goal.returns-clause-dirties
returns-clause-dirties g c = dirties_given (g.met.B.Blocks.keeps_all c.args.on.now c.new_block.new.self c.new_block.ensures.keeps) c.new_block.ensures.gives
