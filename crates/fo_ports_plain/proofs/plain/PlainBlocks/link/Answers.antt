use Rattle.std.proofs.Common.{◌≡◌, ◌+◌, ◌<◌, ◌≤◌, true, length, sym, subst, arith}
use Rattle.fo_ports_plain.specs.Moves.{IsFree}
use Rattle.fo_ports_plain.proofs.Lists.{block_is}
use Rattle.fo_ports_plain.proofs.plain.PlainBlocks.link.Goals as goal

pub link_inner-requires-clause-not_raised : goal.link_inner-requires-clause-not_raised
link_inner-requires-clause-not_raised c = λ zero free.
    let self = c.args.self.now in
    let blocks = self.blocks.items in
    let spared : self.made + self.spare ≤ length blocks = self.spared in
    let lt : c.args.at < self.made = c.requires.may.at_made.1 in
    let is = block_is blocks c.args.at c.index-above.result.now (omega (arith, spared, lt)) c.index-above.ensures in
    let t : c.is_raised.result ≡ true = c.is_raised.ensures.1 (zero, subst (λ z. IsFree z) (sym is) free) in
    let f = c.if-is_raised.false in
    cc
