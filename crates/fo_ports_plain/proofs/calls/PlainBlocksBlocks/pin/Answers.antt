use Rattle.std.proofs.Common.{◌<◌, refl, ◌∙◌, arith}
use Rattle.fo_ports_plain.specs.Plain.{block_at, Stands}
use Rattle.fo_ports_plain.specs.Laws.{label_kind}
use Rattle.fo_ports_plain.proofs.calls.PlainBlocksBlocks.pin.Goals as goal

pub returns-clause-kind : goal.returns-clause-kind
returns-clause-kind c =
    let self = c.args.self.now in
    let blocks = self.blocks.items in
    let past : 1 < c.args.at = c.requires.block.0 in
    let stands : Stands blocks self.made c.args.at (block_at blocks c.args.at).place = record { above = omega (arith, past); was_made = c.if-self-at.false; is = refl } in
    (label_kind blocks self.made c.args.at).0 ∙ (c.requires.place tt (block_at blocks c.args.at).place stands).0
