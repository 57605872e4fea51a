use Rattle.std.proofs.Common.{◌+◌, ◌-◌, ◌*◌, ◌≤◌, ◌∙◌, ap, subst, arith}
use Rattle.fo_sparse.specs.Written.{resized}
use Rattle.fo_ports.specs.Sources.{depth_for, most_to_own}
use Rattle.fo_tree_read.specs.declared.tree.Tree.{Tree}
use Rattle.fo_tree_look.specs.Source.{leaves_of}
use Rattle.fo_tree_grow.proofs.of_tree_down.Dirtying.{dirties_most}
use Rattle.fo_tree_lift.specs.Owns.{OwnsLeaf}
use Rattle.fo_tree_lift.proofs.Choosing.{max_right, leaf_past, leaf_next, most_past, ends_past, changes_wide}
use Rattle.fo_tree_grow.specs.of_tree_down.Alike.{KeepsAlike}
use Rattle.fo_tree_lift.proofs.leaf.own_more.Goals as goal

pub returns-then-has_levels-clause-owns : goal.returns-then-has_levels-clause-owns
returns-then-has_levels-clause-owns g c =
    let s = g.B.Blocks.state c.args.on.now in
    let u = g.B.Blocks.state c.own_next.new.on in
    let t = c.args.tree.now in
    let kept = c.args.kept.now in
    let i = c.args.i in
    let r = c.own_next.result in
    let e = c.own_next.ensures in
    let lt = c.requires.past in
    let levels = c.has_levels.ensures.yes c.if-has_levels.true in
    let past = most_past t.size i c.requires.past in
    let used = e.spare in
    subst (λ (x : Tree). OwnsLeaf s u t x kept i r.top r.at) (leaf_next t i r.top c.requires.past levels) (record {
      owned = e.owned;
      bytes = λ told ends limit. e.bytes told (ends_past t.size (8192 * (i + 1)) c.requires.past ends) limit ∙ ap (λ n. resized ((leaves_of s t kept limit).bytes) n) (max_right t.size (8192 * (i + 1)) (omega (arith, lt)));
      top_of = e.top;
      over = e.over;
      grows = e.grows;
      changes = e.changes;
      most = omega (arith, past, used, levels);
      dirties = let enough : 2 * (t.depth + 1) ≤ 2 * most_to_own t.size i = omega (arith, past, levels) in dirties_most enough e.dirties;
      less = λ top. let less = e.less top in omega (arith, past, less, levels);
      current = e.current;
      clear = λ which was. e.clear;
      room = e.room;
    })

pub returns-else-has_levels-clause-owns : goal.returns-else-has_levels-clause-owns
returns-else-has_levels-clause-owns g c =
    let s = g.B.Blocks.state c.args.on.now in
    let u = g.B.Blocks.state c.own_raised.new.on in
    let t = c.args.tree.now in
    let kept = c.args.kept.now in
    let i = c.args.i in
    let r = c.own_raised.result in
    let e = c.own_raised.ensures in
    let lt = c.requires.past in
    let past = most_past t.size i c.requires.past in
    let used = e.spare in
    subst (λ (x : Tree). OwnsLeaf s u t x kept i r.top r.at) (leaf_past t i r.top c.requires.past) (record {
      owned = e.owned;
      bytes = λ told ends limit. e.bytes told (ends_past t.size (8192 * (i + 1)) c.requires.past ends) limit ∙ ap (λ n. resized ((leaves_of s t kept limit).bytes) n) (max_right t.size (8192 * (i + 1)) (omega (arith, lt)));
      top_of = e.top;
      over = e.over;
      grows = e.grows;
      changes = changes_wide e.changes;
      most = omega (arith, past, used);
      dirties = let enough : 2 * (2 * depth_for (8192 * (i + 1)) + 2 - t.depth) ≤ 2 * most_to_own t.size i = omega (arith, past) in dirties_most enough e.dirties;
      less = λ top. let less = e.less top in omega (arith, past, less);
      current = e.current;
      clear = λ which was. e.clear;
      room = e.room;
    })

pub returns-then-has_levels-clause-alike : goal.returns-then-has_levels-clause-alike
returns-then-has_levels-clause-alike g c =
    let s = g.B.Blocks.state c.args.on.now in
    let u = g.B.Blocks.state c.own_next.new.on in
    let t = c.args.tree.now in
    let i = c.args.i in
    subst (λ (x : Tree). KeepsAlike s u t x) (leaf_next t i c.own_next.result.top c.requires.past (c.has_levels.ensures.yes c.if-has_levels.true)) c.own_next.ensures.alike

pub returns-else-has_levels-clause-alike : goal.returns-else-has_levels-clause-alike
returns-else-has_levels-clause-alike g c =
    let s = g.B.Blocks.state c.args.on.now in
    let u = g.B.Blocks.state c.own_raised.new.on in
    let t = c.args.tree.now in
    let i = c.args.i in
    subst (λ (x : Tree). KeepsAlike s u t x) (leaf_past t i c.own_raised.result.top c.requires.past) c.own_raised.ensures.alike
