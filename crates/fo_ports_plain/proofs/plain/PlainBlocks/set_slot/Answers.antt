use Rattle.std.proofs.Common.{◌≡◌, ◌+◌, ◌<◌, ◌≤◌, length, set, ◌∙◌, ap, subst, arith}
use Rattle.fo_ports_plain.specs.declared.block.PlainBlock.{PlainBlock}
use Rattle.fo_ports_plain.specs.Plain.{block_at, slot_of, Updates}
use Rattle.fo_ports_plain.proofs.Lists.{block_is}
use Rattle.fo_ports_plain.proofs.Still.{slot_well}
use Rattle.fo_ports_plain.proofs.plain.PlainBlocks.set_slot.Goals as goal

pub set-requires-clause-well : goal.set-requires-clause-well
set-requires-clause-well c = λ new up.
    let self = c.args.self.now in
    let blocks = self.blocks.items in
    let spared : self.made + self.spare ≤ length blocks = self.spared in
    let lt : c.args.at < self.made = c.requires.block.1 in
    let is = block_is blocks c.args.at c.index.result.now (omega (arith, spared, lt)) c.index.ensures in
    let block = c.with_slot-block.ensures.block ∙ ap (λ (y : PlainBlock). record y { slots = set y.slots c.args.i c.args.slot }) is in
    let here : slot_of (block_at new c.args.at) c.args.i ≡ c.args.slot = ap (λ (y : PlainBlock). slot_of y c.args.i) up.here ∙ c.with_slot-block.ensures.here in
    slot_well c.args.slot (subst (λ (y : PlainBlock). Updates c.args.at y blocks new) block up) here c.requires.block c.requires.nowhere c.requires.fits c.requires.used (record { sound = self.sound; formed = self.formed; waiting = self.waiting; queue = self.queue })
