use Rattle.std.proofs.Common.{◌+◌, ◌^◌, ◌<◌, ◌≤◌, length, subst, arith}
use Rattle.fo_ports_plain.specs.Moves.{PutsLink}
use Rattle.fo_ports_plain.proofs.Linked.{link_sound, link_formed, link_waiting, link_queue}
use Rattle.fo_ports_plain.proofs.Joints.{inner_linking}
use Rattle.fo_ports_plain.proofs.plain.PlainBlocks.link_inner.Goals as goal

pub invariant_of-self-clause-sound : goal.invariant_of-self-clause-sound
invariant_of-self-clause-sound c =
    let self = c.args.self.now in
    let blocks = self.blocks.items in
    let sources = c.joint.ensures.sources in
    let joint = c.inside-joint.ensures in
    let old = c.joint.result in
    let puts = subst (λ z. PutsLink c.args.at c.args.i c.args.below c.args.slot z.index z.under z.source z.origin blocks c.put_link.new.blocks.items) joint c.put_link.ensures in
    let l = inner_linking {under = old.under} c.requires.may c.requires.inner c.requires.not_raised (record { index_is = c.joint.ensures.index; under_is = sources.0; source_is = sources.1; origin_is = sources.2 }) puts in
    link_sound c.requires.may l self.sound

pub invariant_of-self-clause-formed : goal.invariant_of-self-clause-formed
invariant_of-self-clause-formed c =
    let self = c.args.self.now in
    let blocks = self.blocks.items in
    let sources = c.joint.ensures.sources in
    let joint = c.inside-joint.ensures in
    let old = c.joint.result in
    let puts = subst (λ z. PutsLink c.args.at c.args.i c.args.below c.args.slot z.index z.under z.source z.origin blocks c.put_link.new.blocks.items) joint c.put_link.ensures in
    let l = inner_linking {under = old.under} c.requires.may c.requires.inner c.requires.not_raised (record { index_is = c.joint.ensures.index; under_is = sources.0; source_is = sources.1; origin_is = sources.2 }) puts in
    link_formed c.requires.may l self.sound self.formed

pub invariant_of-self-clause-waiting : goal.invariant_of-self-clause-waiting
invariant_of-self-clause-waiting c =
    let self = c.args.self.now in
    let blocks = self.blocks.items in
    let sources = c.joint.ensures.sources in
    let joint = c.inside-joint.ensures in
    let old = c.joint.result in
    let puts = subst (λ z. PutsLink c.args.at c.args.i c.args.below c.args.slot z.index z.under z.source z.origin blocks c.put_link.new.blocks.items) joint c.put_link.ensures in
    let l = inner_linking {under = old.under} c.requires.may c.requires.inner c.requires.not_raised (record { index_is = c.joint.ensures.index; under_is = sources.0; source_is = sources.1; origin_is = sources.2 }) puts in
    link_waiting c.requires.may l self.sound c.requires.used self.waiting

pub invariant_of-self-clause-queue : goal.invariant_of-self-clause-queue
invariant_of-self-clause-queue c =
    let self = c.args.self.now in
    let blocks = self.blocks.items in
    let sources = c.joint.ensures.sources in
    let joint = c.inside-joint.ensures in
    let old = c.joint.result in
    let puts = subst (λ z. PutsLink c.args.at c.args.i c.args.below c.args.slot z.index z.under z.source z.origin blocks c.put_link.new.blocks.items) joint c.put_link.ensures in
    let l = inner_linking {under = old.under} c.requires.may c.requires.inner c.requires.not_raised (record { index_is = c.joint.ensures.index; under_is = sources.0; source_is = sources.1; origin_is = sources.2 }) puts in
    link_queue c.requires.may l self.sound self.queue

pub invariant_of-self-clause-few : goal.invariant_of-self-clause-few
invariant_of-self-clause-few c =
    let self = c.args.self.now in
    let blocks = self.blocks.items in
    let sources = c.joint.ensures.sources in
    let joint = c.inside-joint.ensures in
    let old = c.joint.result in
    let puts = subst (λ z. PutsLink c.args.at c.args.i c.args.below c.args.slot z.index z.under z.source z.origin blocks c.put_link.new.blocks.items) joint c.put_link.ensures in
    let l = inner_linking {under = old.under} c.requires.may c.requires.inner c.requires.not_raised (record { index_is = c.joint.ensures.index; under_is = sources.0; source_is = sources.1; origin_is = sources.2 }) puts in
    let few : length blocks < 2 ^ 32 = self.few in
    let as_long = l.as_long in
    omega (arith, few, as_long)

pub invariant_of-self-clause-spared : goal.invariant_of-self-clause-spared
invariant_of-self-clause-spared c =
    let self = c.args.self.now in
    let blocks = self.blocks.items in
    let sources = c.joint.ensures.sources in
    let joint = c.inside-joint.ensures in
    let old = c.joint.result in
    let puts = subst (λ z. PutsLink c.args.at c.args.i c.args.below c.args.slot z.index z.under z.source z.origin blocks c.put_link.new.blocks.items) joint c.put_link.ensures in
    let l = inner_linking {under = old.under} c.requires.may c.requires.inner c.requires.not_raised (record { index_is = c.joint.ensures.index; under_is = sources.0; source_is = sources.1; origin_is = sources.2 }) puts in
    let room : self.made + self.spare ≤ length blocks = self.spared in
    let as_long = l.as_long in
    omega (arith, room, as_long)

pub returns-clause-links : goal.returns-clause-links
returns-clause-links c =
    let self = c.args.self.now in
    let blocks = self.blocks.items in
    let sources = c.joint.ensures.sources in
    let joint = c.inside-joint.ensures in
    let old = c.joint.result in
    let puts = subst (λ z. PutsLink c.args.at c.args.i c.args.below c.args.slot z.index z.under z.source z.origin blocks c.put_link.new.blocks.items) joint c.put_link.ensures in
    let l = inner_linking {under = old.under} c.requires.may c.requires.inner c.requires.not_raised (record { index_is = c.joint.ensures.index; under_is = sources.0; source_is = sources.1; origin_is = sources.2 }) puts in
    l
