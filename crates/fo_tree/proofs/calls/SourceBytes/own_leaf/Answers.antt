use Rattle.std.proofs.Common.{◌≡◌, ◌+◌, ◌*◌, ◌≤◌, ℕ, List, max, sym, ap, subst, arith}
use Rattle.fo_sparse.specs.Written.{resized}
use Rattle.fo_ports.specs.Alike.{stem_of, KeepsAlike as Keeps}
use Rattle.fo_ports.specs.Sources.{ComesFor, Owned}
use Rattle.fo_tree_read.specs.declared.tree.Tree.{Tree}
use Rattle.fo_tree_look.specs.declared.ways.Kept.{Kept}
use Rattle.fo_tree_look.specs.Source.{Over, form_of, leaves_of}
use Rattle.fo_tree_append.specs.of_tree_lift.Owns.{with_leaf}
use Rattle.fo_tree.proofs.Alikes.{keeps_stems}
use Rattle.fo_tree.proofs.calls.SourceBytes.own_leaf.Goals as goal

pub returns-clause-owned : goal.returns-clause-owned
returns-clause-owned g c =
    let s = g.B.Blocks.state c.args.on.now in
    let u = g.B.Blocks.state c.own_leaf-current.new.on in
    let w = c.args.self.now.ways in
    let new = with_leaf w.tree c.args.i c.own_leaf-current.result.top in
    subst (λ (x : Tree). Owned (form_of w.tree w.generation w.limit) w.tree.size c.args.i c.own_leaf-current.result.at s u (leaves_of s w.tree w.kept.items w.limit) (leaves_of u x w.kept.items w.limit)) (sym c.with_leaf-self.ensures)
    (subst (λ (k : List Kept). Owned (form_of w.tree w.generation w.limit) w.tree.size c.args.i c.own_leaf-current.result.at s u (leaves_of s w.tree k w.limit) (leaves_of u new k w.limit)) c.deref.ensures.value
    (c.own_leaf-current.ensures.owned w.generation w.limit))

pub returns-clause-bytes : goal.returns-clause-bytes
returns-clause-bytes g c = λ told which.
    let s = g.B.Blocks.state c.args.on.now in
    let u = g.B.Blocks.state c.own_leaf-current.new.on in
    let w = c.args.self.now.ways in
    let new = with_leaf w.tree c.args.i c.own_leaf-current.result.top in
    let end = max w.tree.size (8192 * (c.args.i + 1)) in
    subst (λ (x : Tree). (leaves_of u x w.kept.items w.limit).bytes ≡ resized ((leaves_of s w.tree w.kept.items w.limit).bytes) end) (sym c.with_leaf-self.ensures)
    (subst (λ (k : List Kept). (leaves_of u new k w.limit).bytes ≡ resized ((leaves_of s w.tree k w.limit).bytes) end) c.deref.ensures.value
    (c.own_leaf-current.ensures.bytes told which w.limit))

pub returns-clause-over : goal.returns-clause-over
returns-clause-over g c =
    let s = g.B.Blocks.state c.args.on.now in
    let u = g.B.Blocks.state c.own_leaf-current.new.on in
    let w = c.args.self.now.ways in
    let new = with_leaf w.tree c.args.i c.own_leaf-current.result.top in
    let end = c.requires.prepared.end in
    let over = subst (λ (k : List Kept). (limit : ℕ) → 8192 * (c.args.i + 1) ≤ limit → Over s w.tree k limit → Over u new k limit) c.deref.ensures.value c.own_leaf-current.ensures.over in (
      subst (λ (x : Tree). Over u x w.kept.items w.limit) (sym c.with_leaf-self.ensures) (over w.limit (omega (arith, end)) c.requires.over),
      ap (λ (x : Tree). form_of x w.generation w.limit) c.with_leaf-self.ensures,
    )

pub returns-clause-comes : goal.returns-clause-comes
returns-clause-comes g c = λ told from h.
    let u = g.B.Blocks.state c.own_leaf-current.new.on in
    subst (λ (x : Tree). ComesFor u x.top from) (sym c.with_leaf-self.ensures) (c.own_leaf-current.ensures.top.comes told from h)

pub returns-clause-changes : goal.returns-clause-changes
returns-clause-changes g c =
    let w = c.args.self.now.ways in
    (c.own_leaf-current.ensures.changes w.generation w.limit, c.own_leaf-current.ensures.keeps)

pub returns-clause-alike : goal.returns-clause-alike
returns-clause-alike g c =
    let s = g.B.Blocks.state c.args.on.now in
    let u = g.B.Blocks.state c.own_leaf-current.new.on in
    let w = c.args.self.now.ways in
    let new = with_leaf w.tree c.args.i c.own_leaf-current.result.top in
    let end = c.requires.prepared.end in
    let over = subst (λ (k : List Kept). (limit : ℕ) → 8192 * (c.args.i + 1) ≤ limit → Over s w.tree k limit → Over u new k limit) c.deref.ensures.value c.own_leaf-current.ensures.over w.limit (omega (arith, end)) c.requires.over in
    subst (λ (x : Tree). Keeps s u (stem_of (form_of w.tree w.generation w.limit) w.tree.size w.tree.top) (stem_of (form_of x w.generation w.limit) x.size x.top)) (sym c.with_leaf-self.ensures)
    (keeps_stems w.generation w.limit w.generation w.limit c.requires.over.least over.least c.own_leaf-current.ensures.alike)
