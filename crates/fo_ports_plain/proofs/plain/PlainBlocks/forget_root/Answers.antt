use Rattle.std.proofs.Common.{◌+◌, ◌<◌, ◌≤◌, false, length, sym, ◌∙◌, ap, subst, arith}
use Rattle.fo_ports_plain.specs.declared.block.PlainBlock.{PlainBlock}
use Rattle.fo_ports_plain.specs.Plain.{Updates}
use Rattle.fo_ports_plain.specs.Epochs.{Forgets}
use Rattle.fo_ports_plain.specs.Meaning.{state_of}
use Rattle.fo_ports_plain.specs.Parts.{parts}
use Rattle.fo_ports_plain.proofs.Lists.{block_is}
use Rattle.fo_ports_plain.proofs.Forgotten.{forgot_well, forgets}
use Rattle.fo_ports_plain.proofs.plain.PlainBlocks.forget_root.Goals as goal

pub set-requires-clause-well : goal.set-requires-clause-well
set-requires-clause-well c new up =
    let self = c.args.self.now in
    let blocks = self.blocks.items in
    let spared : self.made + self.spare ≤ length blocks = self.spared in
    let lt : c.args.at < self.made = c.requires.block in
    let at_is = block_is blocks c.args.at c.index.result.now (omega (arith, spared, lt)) c.index.ensures in
    let block = c.forgotten-block.ensures ∙ ap (λ (y : PlainBlock). record y { kept = false }) at_is in
    let own = subst (λ (y : PlainBlock). Updates c.args.at y blocks new) block up in
    forgot_well own (λ e. c.requires.other (sym e)) (record { sound = self.sound; formed = self.formed; waiting = self.waiting; queue = self.queue })

pub returns : goal.returns
returns c =
    let self = c.args.self.now in
    let blocks = self.blocks.items in
    let spared : self.made + self.spare ≤ length blocks = self.spared in
    let lt : c.args.at < self.made = c.requires.block in
    let at_is = block_is blocks c.args.at c.index.result.now (omega (arith, spared, lt)) c.index.ensures in
    let block = c.forgotten-block.ensures ∙ ap (λ (y : PlainBlock). record y { kept = false }) at_is in
    let own = subst (λ (y : PlainBlock). Updates c.args.at y blocks c.set.new.self.blocks.items) block c.set.ensures.updates in
    subst (λ z. Forgets c.args.at (state_of (parts self)) (state_of z)) (sym c.set.ensures.rest) (forgets (parts self) own c.requires.past)
