use Rattle.std.proofs.Common.{◌*◌, inr, ◌∙◌, subst, arith}
use Rattle.fo_tree_read.specs.declared.tree.Tree.{Tree}
use Rattle.fo_tree_link.specs.of_tree_down.Clear.{last_leaf}
use Rattle.fo_tree_trim.specs.Cut.{CutSlot, Cuts}
use Rattle.fo_tree_trim.proofs.Above.{deep_size}
use Rattle.fo_tree_trim.proofs.Counting.{adds_none, ends_cut}
use Rattle.fo_tree_trim.proofs.of_tree_own.Showing.{nothing_shows, shows_joins}
use Rattle.fo_tree_shorten.proofs.behind.trim.Goals as goal

pub make_ready-requires-clause-ready : goal.make_ready-requires-clause-ready
make_ready-requires-clause-ready g c =
    let over = c.requires.over in
    let size = deep_size c.args.ways.now.tree over.least (omega (arith, over.within, over.low)) (c.is_clear.ensures.deep c.if-is_clear.false) in
    c.requires.ready (omega (arith, size))

pub returns-clause-bytes : goal.returns-clause-bytes
returns-clause-bytes g c = λ told.
    let first = c.args.on.now in
    let put = c.make_ready.new.on in
    c.cut.ensures.bytes ((g.met.B.Blocks.keeps_all first put c.make_ready.ensures.keeps).still_tells.1 told) ∙ c.make_ready.ensures.bytes told

pub returns-clause-steps : goal.returns-clause-steps
returns-clause-steps g c =
    let u = g.B.Blocks.state c.make_ready.new.on in
    let v = g.B.Blocks.state c.cut.new.on in
    let k = c.make_ready.ensures.steps in
    inr (
      k.0,
      k.1,
      (k.2.0, (c.make_ready.new.on, record { ready = k.2.1; cut = subst (λ (y : Tree). Cuts (CutSlot u y (last_leaf y.size) (409 * y.depth)) u v) k.1 c.cut.ensures.cuts })),
    )

pub returns-then-is_clear-clause-dirties : goal.returns-then-is_clear-clause-dirties
returns-then-is_clear-clause-dirties g c = λ before blocks counted here. adds_none counted here

pub returns-clause-dirties : goal.returns-clause-dirties
returns-clause-dirties g c = λ before blocks counted here. ends_cut (c.make_ready.ensures.dirties before blocks counted here) (λ list within has. c.cut.ensures.dirties before list within has)

pub returns-then-is_clear-clause-shown : goal.returns-then-is_clear-clause-shown
returns-then-is_clear-clause-shown g c = nothing_shows (record { each = λ image is. is })

pub returns-clause-shown : goal.returns-clause-shown
returns-clause-shown g c = shows_joins c.make_ready.ensures.shown c.cut.ensures.shown
