use Rattle.std.proofs.Common.{◌≤◌, ◌<◌, inr, length, refl, sym, ◌∙◌, ap, subst, arith}
use Rattle.std.proofs.Math.Nat.{le_refl}
use Rattle.fo_image.specs.declared.types.Label.{Label}
use Rattle.fo_crash.specs.Places.{place}
use Rattle.fo_crash.proofs.Reach.{reaches_itself}
use Rattle.fo_ports_source.specs.Source.{HasLabel}
use Rattle.fo_ports_source.proofs.Steps.{given_out, steps_none}
use Rattle.fo_ports_source.proofs.Dirtied.{dirties_given, dirties_here}
use Rattle.fo_ports_source.proofs.own.own_copy.Goals as goal

pub copy-requires-clause-in_tree : goal.copy-requires-clause-in_tree
copy-requires-clause-in_tree g c = λ told. (c.requires.leaf.told told).in_tree (c.is_current.ensures.no c.if-is_current.false)

pub returns-then-is_current-clause-steps : goal.returns-then-is_current-clause-steps
returns-then-is_current-clause-steps g c = steps_none (g.B.Blocks.state c.args.on.now) (g.met.B.Blocks.keeps_all c.args.on.now c.args.on.now (g.met.B.Blocks.keeps_at_once c.args.on.now))

pub returns-else-is_current-clause-steps : goal.returns-else-is_current-clause-steps
returns-else-is_current-clause-steps g c =
    let on = g.B.Blocks.state c.args.on.now in
    let new = g.B.Blocks.state c.copy.new.self in
    let e = c.copy.ensures in
    let older : (on.label c.args.at).epoch < on.high = c.is_current.ensures.no c.if-is_current.false in
    given_out {at = c.copy.result} {content = on.now c.args.at} (record {
      gives = e.gives;
      live = refl;
      epoch = refl;
      tagged = c.requires.held.labelled.has_tag;
      instead = λ x i. let same = (e.instead x).0 i in (same, subst (λ y. (on.label y).epoch < on.high) (sym same) older);
      all = g.met.B.Blocks.keeps_all c.args.on.now c.copy.new.self e.keeps;
      present = g.met.B.Blocks.present c.copy.new.self;
      active = (g.met.B.Blocks.active c.args.on.now).0;
      placed = λ told. g.met.B.Blocks.placed c.args.on.now (g.B.Blocks.state c.args.on.now).now (g.met.B.Blocks.present c.args.on.now told);
      falls = λ told. g.met.B.Blocks.ranked c.args.on.now (g.B.Blocks.state c.args.on.now).now (g.met.B.Blocks.present c.args.on.now told);
    })

pub returns-else-is_current-clause-own : goal.returns-else-is_current-clause-own
returns-else-is_current-clause-own g c =
    let new = g.B.Blocks.state c.copy.new.self in
    let e = c.copy.ensures in
    let k = g.met.B.Blocks.keeps_all c.args.on.now c.copy.new.self e.keeps in
    let label = e.gives.label in
    let current = ap (λ (l : Label). l.epoch) label ∙ sym k.same_high in
    let labelled : HasLabel new.high c.args.kind c.args.tag (new.label c.copy.result) = record {
      is_live = ap (λ (l : Label). l.state) label;
      has_kind = ap (λ (l : Label). l.kind) label ∙ c.requires.held.labelled.has_kind;
      has_tag = ap (λ (l : Label). l.tag) label ∙ c.requires.held.labelled.has_tag;
      up_to = subst (λ n. n ≤ new.high) (sym current) (le_refl new.high);
    } in
    record {
      leaf = record {
        is_one = e.gives.is.0;
        told = λ told.
            let was = k.still_tells.0 told in
            let there = e.place was (place c.args.kind c.args.tag 0 c.args.rank) (c.requires.leaf.told was).there in
            record {
              labelled = labelled;
              there = there;
              uncovered = e.gives.is.4;
              active = (g.met.B.Blocks.active c.copy.new.self).0;
              hung = inr (record { top = c.copy.result; is_apart = e.gives.is.3; place = place c.args.kind c.args.tag 0 c.args.rank; stands = there; uncovered = e.gives.is.4; reaches = reaches_itself new.now c.copy.result });
              in_tree = λ older. absurd (omega (arith, older, current));
            };
      };
      held = record { labelled = labelled; is_pinned = e.gives.is.1; long = ap length e.gives.memory.here.bytes ∙ c.requires.held.long };
      current = current;
    }

pub returns-then-is_current-clause-dirties : goal.returns-then-is_current-clause-dirties
returns-then-is_current-clause-dirties g c = dirties_here (g.B.Blocks.state c.args.on.now) c.args.at

pub returns-else-is_current-clause-dirties : goal.returns-else-is_current-clause-dirties
returns-else-is_current-clause-dirties g c = dirties_given (g.met.B.Blocks.keeps_all c.args.on.now c.copy.new.self c.copy.ensures.keeps) c.copy.ensures.gives
