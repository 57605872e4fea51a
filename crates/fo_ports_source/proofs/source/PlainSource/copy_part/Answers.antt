use Rattle.std.proofs.Common.{◌<◌, ◌/◌, length, None, sym, ◌∙◌, arith}
use Rattle.std.proofs.lemmas.List.{get_or_default}
use Rattle.fo_ports_source.proofs.source.PlainSource.copy_part.Goals as goal

pub copy_from-requires-clause-leaf : goal.copy_from-requires-clause-leaf
copy_from-requires-clause-leaf g c =
    let over = c.requires.over in
    let size_within = over.within in
    let inside = c.requires.within in
    let few : c.args.place / 8192 < length c.args.self.now.leaves.items = omega (arith, size_within, inside) in
    over.leaf (c.args.place / 8192) c.in-Some.at (get_or_default c.args.self.now.leaves.items (c.args.place / 8192) None c.index.result.now few ∙ sym c.index.ensures ∙ c.in-Some.is)
