use Rattle.std.proofs.Common.{◌+◌, ◌*◌, ◌/◌, ◌%◌, ◌≤◌, max, inl, inr, ⊎_elim, ◌∙◌, subst, arith}
use Rattle.fo_ports.specs.Sources.{byte_at}
use Rattle.fo_tree_read.specs.declared.tree.Tree.{Tree}
use Rattle.fo_tree_look.specs.Source.{address_here, held_here}
use Rattle.fo_tree_lift.specs.Owns.{OwnsLeaf}
use Rattle.fo_tree_lift.proofs.Choosing.{max_left, leaf_within, same_length}
use Rattle.fo_tree_grow.specs.of_tree_down.Alike.{KeepsAlike}
use Rattle.fo_tree_lift.proofs.leaf.own_any.Goals as goal

pub returns-then-end_of-tree-clause-owns : goal.returns-then-end_of-tree-clause-owns
returns-then-end_of-tree-clause-owns g c =
    let s = g.B.Blocks.state c.args.on.now in
    let u = g.B.Blocks.state c.own_within.new.on in
    let t = c.args.tree.now in
    let kept = c.args.kept.now in
    let i = c.args.i in
    let r = c.own_within.result in
    let e = c.own_within.ensures in
    let here = c.if-end_of-tree.true in
    let end = c.end_of.ensures in
    let le : 8192 * (c.args.i + 1) ≤ c.args.tree.now.size = omega (arith, here, end) in
    subst (λ (x : Tree). OwnsLeaf s u t x kept i r.top r.at) (leaf_within t i r.top le c.requires.over.1.least) (record {
      owned = e.owned;
      bytes = λ told ends limit. e.bytes told limit ∙ same_length (λ k. byte_at s.now (address_here s t (k / 8192)) (held_here s t kept (k / 8192)) (k % 8192)) t.size (max t.size (8192 * (i + 1))) (max_left t.size (8192 * (i + 1)) le);
      top_of = e.top;
      over = λ limit within over. e.over limit over;
      grows = e.grows;
      changes = e.changes;
      most = e.spare;
      dirties = e.dirties;
      less = e.less;
      current = e.current;
      clear = λ which. e.clear (⊎_elim (λ told. inl told) (λ ends. inr (omega (arith, ends, le))) which);
      room = e.room;
    })

pub returns-then-end_of-tree-clause-alike : goal.returns-then-end_of-tree-clause-alike
returns-then-end_of-tree-clause-alike g c =
    let s = g.B.Blocks.state c.args.on.now in
    let u = g.B.Blocks.state c.own_within.new.on in
    let t = c.args.tree.now in
    let i = c.args.i in
    let here = c.if-end_of-tree.true in
    let end = c.end_of.ensures in
    let le : 8192 * (c.args.i + 1) ≤ c.args.tree.now.size = omega (arith, here, end) in
    subst (λ (x : Tree). KeepsAlike s u t x) (leaf_within t i c.own_within.result.top le c.requires.over.1.least) c.own_within.ensures.alike
