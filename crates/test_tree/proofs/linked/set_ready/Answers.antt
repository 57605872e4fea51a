use Rattle.std.proofs.Common.{◌≡◌, sym, subst, arith}
use Rattle.fo_image.specs.declared.types.Pointer.TheVariants.{Score as Held}
use Rattle.fo_tree_read.specs.Tree.{block_at}
use Rattle.fo_tree_shorten.specs.Shorten.{EntryAt}
use Rattle.test_tree.proofs.Linking.{entry_at}
use Rattle.test_tree.proofs.linked.set_ready.Goals as goal

pub set_len-requires-clause-entry : goal.set_len-requires-clause-entry
set_len-requires-clause-entry g c =
    let memory = c.requires.memory c.args.on.now in
    let w = c.args.ways.now in
    subst (λ b. EntryAt (g.B.Blocks.state c.args.on.now) w.tree w.generation b 0) (sym c.root-root.ensures) (entry_at (c.ground.ensures memory.told) memory w c.requires.linked)

pub set_len-requires-clause-local_down : goal.set_len-requires-clause-local_down
set_len-requires-clause-local_down g c = λ told n score lt is.
    let most = c.requires.top.0 in
    let none : n ≡ 0 = omega (arith, lt, most) in
    c.requires.top.1 score (subst (λ m. block_at (g.B.Blocks.state c.args.on.now) c.args.ways.now.tree m 0 ≡ Held score) none is)
