use Rattle.std.proofs.Common.{◌≡◌, ◌+◌, ◌*◌, ◌≤◌, ℕ, List, length, max, inl, inr, refl, sym, subst, ⊎_elim, arith}
use Rattle.fo_ports.specs.State.{none}
use Rattle.fo_ports.specs.Sources.{Dirties, most_for}
use Rattle.fo_tree_read.specs.declared.tree.Tree.{Tree}
use Rattle.fo_tree_look.specs.declared.ways.Kept.{Kept}
use Rattle.fo_tree_look.specs.Source.{Over}
use Rattle.fo_tree_append.specs.of_tree_write.Write.{at_top}
use Rattle.fo_tree_append.specs.Append.{ended}
use Rattle.fo_tree_append.proofs.of_tree_write.Wider.{changes_wider}
use Rattle.fo_tree.specs.Writes.{Writes}
use Rattle.fo_tree.proofs.Beside.{leaves_beside}
use Rattle.fo_tree.proofs.put.put.Goals as goal

pub returns-then-end-ways-clause-writes : goal.returns-then-end-ways-clause-writes
returns-then-end-ways-clause-writes g c =
    let s = g.B.Blocks.state c.args.on.now in
    let u = g.B.Blocks.state c.put_within-below.new.on in
    let w = c.args.ways.now in
    let e = c.put_within-below.ensures in
    let n = length c.args.piece.now in
    let is = c.deref.ensures.value in
    let same : w.tree.size ≡ max w.tree.size (c.args.offset + n) = omega (arith, c.if-end-ways.true) in
    subst (λ (x : Tree). Writes s u w.tree x w.kept.items w.limit c.args.offset c.args.piece.now) (sym c.at_top.ensures)
    (subst (λ (k : List Kept). Writes s u w.tree (at_top w.tree c.put_within-below.result) k w.limit c.args.offset c.args.piece.now) is (record {
      same = record { dir = refl; tag = refl; rank = refl };
      size = same;
      bytes = λ told. e.bytes told w.limit;
      over = e.over w.limit (subst (λ (k : List Kept). Over s w.tree k w.limit) (sym is) c.requires.over);
      grows = e.grows w.limit;
      spare = subst (λ (z : ℕ). s.spare ≤ u.spare + most_for z n) same e.spare;
      room = e.room;
      clear = λ which was. e.clear (⊎_elim (λ told. inl told) (λ near. inr near.0) which) was;
      comes = λ told from h. e.comes told from h;
      only = λ told y x h. e.only told y x h;
      changes = e.changes;
      only_ways = changes_wider (λ b is. inl is) e.only_ways;
      shows = leaves_beside s u w.tree w.kept.items w.limit c.args.offset n (λ told. g.met.B.Blocks.placed c.args.on.now s.now (g.met.B.Blocks.present c.args.on.now told)) (g.met.B.Blocks.one_place c.args.on.now) c.requires.over (changes_wider (λ b is. inl is) e.only_ways);
    }))

pub returns-else-end-ways-clause-writes : goal.returns-else-end-ways-clause-writes
returns-else-end-ways-clause-writes g c =
    let s = g.B.Blocks.state c.args.on.now in
    let u = g.B.Blocks.state c.put_past-below.new.on in
    let w = c.args.ways.now in
    let e = c.put_past-below.ensures in
    let n = length c.args.piece.now in
    let is = c.deref-else-end-ways.ensures.value in
    let same : c.args.offset + n ≡ max w.tree.size (c.args.offset + n) = omega (arith, c.if-end-ways.false) in
    subst (λ (x : Tree). Writes s u w.tree x w.kept.items w.limit c.args.offset c.args.piece.now) (sym c.ended.ensures)
    (subst (λ (k : List Kept). Writes s u w.tree (ended w.tree (c.args.offset + n) c.put_past-below.result) k w.limit c.args.offset c.args.piece.now) is (record {
      same = record { dir = refl; tag = refl; rank = refl };
      size = same;
      bytes = λ told. e.bytes told w.limit;
      over = e.over w.limit c.requires.prepared.end (subst (λ (k : List Kept). Over s w.tree k w.limit) (sym is) c.requires.over);
      grows = e.grows w.limit;
      spare = subst (λ (z : ℕ). s.spare ≤ u.spare + most_for z n) same e.spare;
      room = e.room;
      clear = λ which was. e.clear (⊎_elim (λ told. inl told) (λ near. inr near.1) which);
      comes = λ told from h. e.comes told from h;
      only = λ told y x h. e.only told y x h;
      changes = e.changes;
      only_ways = e.only_ways;
      shows = leaves_beside s u w.tree w.kept.items w.limit c.args.offset n (λ told. g.met.B.Blocks.placed c.args.on.now s.now (g.met.B.Blocks.present c.args.on.now told)) (g.met.B.Blocks.one_place c.args.on.now) c.requires.over e.only_ways;
    }))

pub returns-then-end-ways-clause-dirties : goal.returns-then-end-ways-clause-dirties
returns-then-end-ways-clause-dirties g c =
    let s = g.B.Blocks.state c.args.on.now in
    let u = g.B.Blocks.state c.put_within-below.new.on in
    let w = c.args.ways.now in
    let n = length c.args.piece.now in
    let same : w.tree.size ≡ max w.tree.size (c.args.offset + n) = omega (arith, c.if-end-ways.true) in
    subst (λ (z : ℕ). Dirties (2 * most_for z n) none s u) same c.put_within-below.ensures.dirties

pub returns-else-end-ways-clause-dirties : goal.returns-else-end-ways-clause-dirties
returns-else-end-ways-clause-dirties g c =
    let s = g.B.Blocks.state c.args.on.now in
    let u = g.B.Blocks.state c.put_past-below.new.on in
    let w = c.args.ways.now in
    let n = length c.args.piece.now in
    let same : c.args.offset + n ≡ max w.tree.size (c.args.offset + n) = omega (arith, c.if-end-ways.false) in
    subst (λ (z : ℕ). Dirties (2 * most_for z n) none s u) same c.put_past-below.ensures.dirties
