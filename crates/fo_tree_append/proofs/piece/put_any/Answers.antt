use Rattle.std.proofs.Common.{◌≡◌, ◌≢◌, ◌+◌, ◌*◌, ◌<◌, ◌≤◌, length, max, inl, inr, ⊎_elim, sym, ◌∙◌, subst, arith}
use Rattle.std.proofs.lemmas.Bool.{eqb-true, eqb-false}
use Rattle.fo_ports.specs.State.{none}
use Rattle.fo_ports.specs.Sources.{Dirties, most_for}
use Rattle.fo_tree_read.specs.declared.tree.Tree.{Tree}
use Rattle.fo_tree_clear.proofs.of_tree_down.Dirtying.{dirties_same}
use Rattle.fo_tree_clear.proofs.of_tree_own.Showing.{nothing_shows}
use Rattle.fo_tree_write.proofs.Wider.{changes_wider}
use Rattle.fo_tree_append.specs.Append.{PutsPiece}
use Rattle.fo_tree_append.proofs.Pieces.{tree_within, tree_past, puts_none}
use Rattle.fo_tree_append.proofs.piece.put_any.Goals as goal

pub returns-then-is_empty-clause-puts : goal.returns-then-is_empty-clause-puts
returns-then-is_empty-clause-puts g c =
    let on = c.args.on.now in
    let s = g.B.Blocks.state on in
    let t = c.args.tree.now in
    let n = length c.args.piece.now in
    let none : length c.args.piece.now ≡ 0 = eqb-true (length c.args.piece.now) 0 (sym c.is_empty.ensures ∙ c.if-is_empty.true) in
    subst (λ (x : Tree). PutsPiece s s t x c.args.kept.now c.args.offset c.args.piece.now) (tree_within t c.args.offset n t.top c.requires.over.1.least (inl none))
    (puts_none s t c.args.kept.now c.args.offset c.args.piece.now (g.met.B.Blocks.keeps_all on on (g.met.B.Blocks.keeps_at_once on)) none)

pub returns-then-end-tree-clause-puts : goal.returns-then-end-tree-clause-puts
returns-then-end-tree-clause-puts g c =
    let s = g.B.Blocks.state c.args.on.now in
    let u = g.B.Blocks.state c.put_within.new.on in
    let t = c.args.tree.now in
    let n = length c.args.piece.now in
    let e = c.put_within.ensures in
    let le : c.args.offset + length c.args.piece.now ≤ c.args.tree.now.size = omega arith in
    let same : max c.args.tree.now.size (c.args.offset + length c.args.piece.now) ≡ c.args.tree.now.size = omega (arith, le) in
    subst (λ (x : Tree). PutsPiece s u t x c.args.kept.now c.args.offset c.args.piece.now) (tree_within t c.args.offset n c.put_within.result c.requires.over.1.least (inr le)) (record {
      over = λ limit within was. e.over limit was;
      bytes = e.bytes;
      grows = e.grows;
      comes = e.comes;
      only = e.only;
      clear = λ which was. e.clear (⊎_elim (λ told. inl told) (λ near. inr near.0) which) was;
      changes = e.changes;
      only_ways = changes_wider (λ b is. inl is) e.only_ways;
      spent = subst (λ z. s.spare ≤ u.spare + most_for z n) (sym same) e.spare;
      room = e.room;
    })

pub returns-else-end-tree-clause-puts : goal.returns-else-end-tree-clause-puts
returns-else-end-tree-clause-puts g c =
    let s = g.B.Blocks.state c.args.on.now in
    let u = g.B.Blocks.state c.put_past.new.on in
    let t = c.args.tree.now in
    let n = length c.args.piece.now in
    let e = c.put_past.ensures in
    let none : length c.args.piece.now ≢ 0 = eqb-false (length c.args.piece.now) 0 (sym c.is_empty.ensures ∙ c.if-is_empty.false) in
    let some : 0 < length c.args.piece.now = omega (arith, none) in
    let past : c.args.tree.now.size < c.args.offset + length c.args.piece.now = omega arith in
    let same : max c.args.tree.now.size (c.args.offset + length c.args.piece.now) ≡ c.args.offset + length c.args.piece.now = omega (arith, past) in
    subst (λ (x : Tree). PutsPiece s u t x c.args.kept.now c.args.offset c.args.piece.now) (tree_past t c.args.offset n c.put_past.result some past) (record {
      over = e.over;
      bytes = e.bytes;
      grows = e.grows;
      comes = e.comes;
      only = e.only;
      clear = λ which was. e.clear (⊎_elim (λ told. inl told) (λ near. inr near.1) which);
      changes = e.changes;
      only_ways = e.only_ways;
      spent = subst (λ z. s.spare ≤ u.spare + most_for z n) (sym same) e.spare;
      room = e.room;
    })

pub returns-then-is_empty-clause-dirties : goal.returns-then-is_empty-clause-dirties
returns-then-is_empty-clause-dirties g c = dirties_same (g.B.Blocks.state c.args.on.now) (2 * most_for (max c.args.tree.now.size (c.args.offset + length c.args.piece.now)) (length c.args.piece.now))

pub returns-then-end-tree-clause-dirties : goal.returns-then-end-tree-clause-dirties
returns-then-end-tree-clause-dirties g c =
    let s = g.B.Blocks.state c.args.on.now in
    let u = g.B.Blocks.state c.put_within.new.on in
    let le : c.args.offset + length c.args.piece.now ≤ c.args.tree.now.size = omega arith in
    let same : max c.args.tree.now.size (c.args.offset + length c.args.piece.now) ≡ c.args.tree.now.size = omega (arith, le) in
    subst (λ z. Dirties (2 * most_for z (length c.args.piece.now)) none s u) (sym same) c.put_within.ensures.dirties

pub returns-else-end-tree-clause-dirties : goal.returns-else-end-tree-clause-dirties
returns-else-end-tree-clause-dirties g c =
    let s = g.B.Blocks.state c.args.on.now in
    let u = g.B.Blocks.state c.put_past.new.on in
    let past : c.args.tree.now.size < c.args.offset + length c.args.piece.now = omega arith in
    let same : max c.args.tree.now.size (c.args.offset + length c.args.piece.now) ≡ c.args.offset + length c.args.piece.now = omega (arith, past) in
    subst (λ z. Dirties (2 * most_for z (length c.args.piece.now)) none s u) (sym same) c.put_past.ensures.dirties

pub returns-then-is_empty-clause-shown : goal.returns-then-is_empty-clause-shown
returns-then-is_empty-clause-shown g c = nothing_shows (record { each = λ image is. is })
