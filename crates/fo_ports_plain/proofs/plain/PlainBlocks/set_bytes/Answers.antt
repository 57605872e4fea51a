use Rattle.std.proofs.Common.{◌+◌, ◌<◌, ◌≤◌, length, ◌∙◌, ap, subst, arith}
use Rattle.fo_ports.specs.Blocks.{put_at}
use Rattle.fo_ports_plain.specs.declared.block.PlainBlock.{PlainBlock}
use Rattle.fo_ports_plain.specs.Plain.{Updates}
use Rattle.fo_ports_plain.proofs.Lists.{block_is}
use Rattle.fo_ports_plain.proofs.Still.{bytes_well}
use Rattle.fo_ports_plain.proofs.plain.PlainBlocks.set_bytes.Goals as goal

pub set-requires-clause-well : goal.set-requires-clause-well
set-requires-clause-well c = λ new up.
    let self = c.args.self.now in
    let blocks = self.blocks.items in
    let spared : self.made + self.spare ≤ length blocks = self.spared in
    let lt : c.args.at < self.made = c.requires.block.1 in
    let is = block_is blocks c.args.at c.index.result.now (omega (arith, spared, lt)) c.index.ensures in
    let block = c.with_bytes-block.ensures ∙ ap (λ (y : PlainBlock). record y { bytes = put_at c.args.from c.args.bytes.now y.bytes }) is in
    bytes_well (subst (λ (y : PlainBlock). Updates c.args.at y blocks new) block up) c.requires.formed (record { sound = self.sound; formed = self.formed; waiting = self.waiting; queue = self.queue })
