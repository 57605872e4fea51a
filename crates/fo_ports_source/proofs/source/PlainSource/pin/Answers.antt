use Rattle.std.proofs.Common.{None, sym, ◌∙◌}
use Rattle.std.proofs.lemmas.List.{get_or_default}
use Rattle.fo_ports_source.proofs.source.PlainSource.pin.Goals as goal

pub pin_block-requires-clause-leaf : goal.pin_block-requires-clause-leaf
pin_block-requires-clause-leaf g c =
    let over = c.requires.over in
    let few = c.requires.within in
    over.leaf (c.args.i) c.in-Some.at (get_or_default c.args.self.now.leaves.items (c.args.i) None c.index.result.now few ∙ sym c.index.ensures ∙ c.in-Some.is)
