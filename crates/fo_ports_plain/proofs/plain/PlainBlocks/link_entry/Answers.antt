use Rattle.std.proofs.Common.{◌+◌, ◌^◌, ◌<◌, ◌≤◌, length, refl, ◌∙◌, ap, arith}
use Rattle.fo_ports_plain.specs.declared.block.PlainBlock.{PlainBlock}
use Rattle.fo_ports_plain.specs.Plain.{index_in}
use Rattle.fo_ports_plain.proofs.Lists.{block_is}
use Rattle.fo_ports_plain.proofs.Linked.{link_sound, link_formed, link_waiting, link_queue}
use Rattle.fo_ports_plain.proofs.Joints.{entry_linking}
use Rattle.fo_ports_plain.proofs.plain.PlainBlocks.link_entry.Goals as goal

pub invariant_of-self-clause-sound : goal.invariant_of-self-clause-sound
invariant_of-self-clause-sound c =
    let self = c.args.self.now in
    let blocks = self.blocks.items in
    let spared : self.made + self.spare ≤ length blocks = self.spared in
    let lt : c.args.at < self.made = c.requires.may.at_made.1 in
    let is = block_is blocks c.args.at c.index.result.now (omega (arith, spared, lt)) c.index.ensures in
    let sources = c.joint-joint.ensures.sources in
    let l = entry_linking c.requires.may c.requires.outer (record { index_is = c.joint-joint.ensures.index; under_is = sources.0; source_is = sources.1; origin_is = sources.2 }) (record { hangs = refl; source = refl; index = c.index_in.ensures ∙ ap (λ (y : PlainBlock). index_in y.place) is; slot = refl }) c.hang.ensures c.put_link.ensures in
    link_sound c.requires.may l self.sound

pub invariant_of-self-clause-formed : goal.invariant_of-self-clause-formed
invariant_of-self-clause-formed c =
    let self = c.args.self.now in
    let blocks = self.blocks.items in
    let spared : self.made + self.spare ≤ length blocks = self.spared in
    let lt : c.args.at < self.made = c.requires.may.at_made.1 in
    let is = block_is blocks c.args.at c.index.result.now (omega (arith, spared, lt)) c.index.ensures in
    let sources = c.joint-joint.ensures.sources in
    let l = entry_linking c.requires.may c.requires.outer (record { index_is = c.joint-joint.ensures.index; under_is = sources.0; source_is = sources.1; origin_is = sources.2 }) (record { hangs = refl; source = refl; index = c.index_in.ensures ∙ ap (λ (y : PlainBlock). index_in y.place) is; slot = refl }) c.hang.ensures c.put_link.ensures in
    link_formed c.requires.may l self.sound self.formed

pub invariant_of-self-clause-waiting : goal.invariant_of-self-clause-waiting
invariant_of-self-clause-waiting c =
    let self = c.args.self.now in
    let blocks = self.blocks.items in
    let spared : self.made + self.spare ≤ length blocks = self.spared in
    let lt : c.args.at < self.made = c.requires.may.at_made.1 in
    let is = block_is blocks c.args.at c.index.result.now (omega (arith, spared, lt)) c.index.ensures in
    let sources = c.joint-joint.ensures.sources in
    let l = entry_linking c.requires.may c.requires.outer (record { index_is = c.joint-joint.ensures.index; under_is = sources.0; source_is = sources.1; origin_is = sources.2 }) (record { hangs = refl; source = refl; index = c.index_in.ensures ∙ ap (λ (y : PlainBlock). index_in y.place) is; slot = refl }) c.hang.ensures c.put_link.ensures in
    link_waiting c.requires.may l self.sound c.requires.used self.waiting

pub invariant_of-self-clause-queue : goal.invariant_of-self-clause-queue
invariant_of-self-clause-queue c =
    let self = c.args.self.now in
    let blocks = self.blocks.items in
    let spared : self.made + self.spare ≤ length blocks = self.spared in
    let lt : c.args.at < self.made = c.requires.may.at_made.1 in
    let is = block_is blocks c.args.at c.index.result.now (omega (arith, spared, lt)) c.index.ensures in
    let sources = c.joint-joint.ensures.sources in
    let l = entry_linking c.requires.may c.requires.outer (record { index_is = c.joint-joint.ensures.index; under_is = sources.0; source_is = sources.1; origin_is = sources.2 }) (record { hangs = refl; source = refl; index = c.index_in.ensures ∙ ap (λ (y : PlainBlock). index_in y.place) is; slot = refl }) c.hang.ensures c.put_link.ensures in
    link_queue c.requires.may l self.sound self.queue

pub invariant_of-self-clause-few : goal.invariant_of-self-clause-few
invariant_of-self-clause-few c =
    let self = c.args.self.now in
    let blocks = self.blocks.items in
    let spared : self.made + self.spare ≤ length blocks = self.spared in
    let lt : c.args.at < self.made = c.requires.may.at_made.1 in
    let is = block_is blocks c.args.at c.index.result.now (omega (arith, spared, lt)) c.index.ensures in
    let sources = c.joint-joint.ensures.sources in
    let l = entry_linking c.requires.may c.requires.outer (record { index_is = c.joint-joint.ensures.index; under_is = sources.0; source_is = sources.1; origin_is = sources.2 }) (record { hangs = refl; source = refl; index = c.index_in.ensures ∙ ap (λ (y : PlainBlock). index_in y.place) is; slot = refl }) c.hang.ensures c.put_link.ensures in
    let few : length blocks < 2 ^ 32 = self.few in
    let as_long = l.as_long in
    omega (arith, few, as_long)

pub invariant_of-self-clause-spared : goal.invariant_of-self-clause-spared
invariant_of-self-clause-spared c =
    let self = c.args.self.now in
    let blocks = self.blocks.items in
    let spared : self.made + self.spare ≤ length blocks = self.spared in
    let lt : c.args.at < self.made = c.requires.may.at_made.1 in
    let is = block_is blocks c.args.at c.index.result.now (omega (arith, spared, lt)) c.index.ensures in
    let sources = c.joint-joint.ensures.sources in
    let l = entry_linking c.requires.may c.requires.outer (record { index_is = c.joint-joint.ensures.index; under_is = sources.0; source_is = sources.1; origin_is = sources.2 }) (record { hangs = refl; source = refl; index = c.index_in.ensures ∙ ap (λ (y : PlainBlock). index_in y.place) is; slot = refl }) c.hang.ensures c.put_link.ensures in
    let room : self.made + self.spare ≤ length blocks = self.spared in
    let as_long = l.as_long in
    omega (arith, room, as_long)

pub returns-clause-links : goal.returns-clause-links
returns-clause-links c =
    let self = c.args.self.now in
    let blocks = self.blocks.items in
    let spared : self.made + self.spare ≤ length blocks = self.spared in
    let lt : c.args.at < self.made = c.requires.may.at_made.1 in
    let is = block_is blocks c.args.at c.index.result.now (omega (arith, spared, lt)) c.index.ensures in
    let sources = c.joint-joint.ensures.sources in
    let l = entry_linking c.requires.may c.requires.outer (record { index_is = c.joint-joint.ensures.index; under_is = sources.0; source_is = sources.1; origin_is = sources.2 }) (record { hangs = refl; source = refl; index = c.index_in.ensures ∙ ap (λ (y : PlainBlock). index_in y.place) is; slot = refl }) c.hang.ensures c.put_link.ensures in
    l
