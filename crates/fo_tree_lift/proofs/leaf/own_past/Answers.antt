use Rattle.std.proofs.Common.{◌+◌, ◌*◌, ◌≤◌, ◌∙◌, ap, subst, arith}
use Rattle.fo_sparse.specs.Written.{resized}
use Rattle.fo_ports.specs.Sources.{depth_for, most_to_own}
use Rattle.fo_tree_read.specs.declared.tree.Tree.{Tree}
use Rattle.fo_tree_look.specs.Source.{leaves_of}
use Rattle.fo_tree_grow.proofs.of_tree_down.Dirtying.{dirties_most}
use Rattle.fo_tree_lift.specs.Owns.{OwnsLeaf}
use Rattle.fo_tree_lift.proofs.Choosing.{max_right, leaf_past, most_past, none_current}
use Rattle.fo_tree_grow.specs.of_tree_down.Alike.{KeepsAlike}
use Rattle.fo_tree_lift.proofs.leaf.own_past.Goals as goal

pub returns-in-Nil-clause-owns : goal.returns-in-Nil-clause-owns
returns-in-Nil-clause-owns g c =
    let s = g.B.Blocks.state c.args.on.now in
    let u = g.B.Blocks.state c.own_first.new.on in
    let t = c.args.tree.now in
    let kept = c.args.kept.now in
    let i = c.args.i in
    let r = c.own_first.result in
    let e = c.own_first.ensures in
    let lt = c.requires.past in
    let past = most_past t.size i c.requires.past in
    let used = e.spare in
    subst (λ (x : Tree). OwnsLeaf s u t x kept i r.top r.at) (leaf_past t i r.top c.requires.past) (record {
      owned = e.owned;
      bytes = λ told ends limit. e.bytes told limit ∙ ap (λ n. resized ((leaves_of s t kept limit).bytes) n) (max_right t.size (8192 * (i + 1)) (omega (arith, lt)));
      top_of = e.top;
      over = e.over;
      grows = e.grows;
      changes = e.changes;
      most = omega (arith, past, used);
      dirties = let enough : 2 * (depth_for (8192 * (i + 1)) + 1) ≤ 2 * most_to_own t.size i = omega (arith, past) in dirties_most enough e.dirties;
      less = λ top. absurd (none_current s t c.in-Nil.is top);
      current = e.current;
      clear = λ which was. e.clear;
      room = e.room;
    })

pub returns-in-Nil-clause-alike : goal.returns-in-Nil-clause-alike
returns-in-Nil-clause-alike g c =
    let s = g.B.Blocks.state c.args.on.now in
    let u = g.B.Blocks.state c.own_first.new.on in
    let t = c.args.tree.now in
    let i = c.args.i in
    subst (λ (x : Tree). KeepsAlike s u t x) (leaf_past t i c.own_first.result.top c.requires.past) c.own_first.ensures.alike
