use Rattle.std.proofs.Common.{◌+◌, ◌<◌, ◌≤◌, true, length, ap, subst, ◌∙◌, arith}
use Rattle.fo_ports_plain.specs.declared.block.PlainBlock.{PlainBlock}
use Rattle.fo_ports_plain.specs.Plain.{Updates}
use Rattle.fo_ports_plain.proofs.Lists.{block_is}
use Rattle.fo_ports_plain.proofs.Retired.{retired_well}
use Rattle.fo_ports_plain.proofs.plain.PlainBlocks.close_alone.Goals as goal

pub set-requires-clause-well : goal.set-requires-clause-well
set-requires-clause-well c new up =
    let self = c.args.self.now in
    let blocks = self.blocks.items in
    let spared : self.made + self.spare ≤ length blocks = self.spared in
    let lt : c.args.at < self.made = c.requires in
    let at_is = block_is blocks c.args.at c.index.result.now (omega (arith, spared, lt)) c.index.ensures in
    let block = c.closed_alone-block.ensures ∙ ap (λ (y : PlainBlock). record y { retired = true }) at_is in
    let own = subst (λ (y : PlainBlock). Updates c.args.at y blocks new) block up in
    let more = c.saturating_add-self.ensures in
    retired_well lt (omega (arith, more)) own (record { sound = self.sound; formed = self.formed; waiting = self.waiting; queue = self.queue })
