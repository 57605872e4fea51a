use Rattle.std.proofs.Common.{◌≤◌, ℕ, List, sym, ◌∙◌, ap, subst}
use Rattle.fo_tree_read.specs.declared.tree.Tree.{Tree}
use Rattle.fo_tree_read.specs.Tree.{kind_at}
use Rattle.fo_tree_look.specs.declared.ways.Kept.{Kept}
use Rattle.fo_tree_look.specs.Source.{Over, leaves_of}
use Rattle.fo_tree_append.specs.Grown.{GrownTo}
use Rattle.fo_sparse.specs.Written.{resized}
use Rattle.fo_tree_set.proofs.Lengths.{bytes_grown}
use Rattle.fo_tree_set.proofs.long.grow_ways.Goals as goal

pub grow_to-grown-requires-clause-over : goal.grow_to-grown-requires-clause-over
grow_to-grown-requires-clause-over g c =
    let s = g.B.Blocks.state c.args.on.now in
    let w = c.args.ways.now in
    subst (λ (k : List Kept). (limit : ℕ) × Over s w.tree k limit × (c.args.len ≤ limit)) (sym c.deref.ensures.value) (w.limit, c.requires.over, c.requires.more.1)

pub grow_to-grown-requires-clause-plain : goal.grow_to-grown-requires-clause-plain
grow_to-grown-requires-clause-plain g c = (ap (λ d. kind_at d 0) c.requires.data.0, c.requires.data.1)

pub returns-clause-grown : goal.returns-clause-grown
returns-clause-grown g c = subst (λ (k : List Kept). GrownTo (g.B.Blocks.state c.args.on.now) (g.B.Blocks.state c.grow_to-grown.new.on) c.args.ways.now.tree c.grow_to-grown.result k) c.deref.ensures.value c.grow_to-grown.ensures.grown

pub returns-clause-over : goal.returns-clause-over
returns-clause-over g c =
    let size = ap (λ (t : Tree). t.size) c.grow_to-grown.ensures.is in
    (subst (λ (k : List Kept). GrownTo (g.B.Blocks.state c.args.on.now) (g.B.Blocks.state c.grow_to-grown.new.on) c.args.ways.now.tree c.grow_to-grown.result k) c.deref.ensures.value c.grow_to-grown.ensures.grown).sees.over c.args.ways.now.limit (subst (λ z. z ≤ c.args.ways.now.limit) (sym size) c.requires.more.1) c.requires.over

pub returns-clause-clear : goal.returns-clause-clear
returns-clause-clear g c = (subst (λ (k : List Kept). GrownTo (g.B.Blocks.state c.args.on.now) (g.B.Blocks.state c.grow_to-grown.new.on) c.args.ways.now.tree c.grow_to-grown.result k) c.deref.ensures.value c.grow_to-grown.ensures.grown).sees.clear

pub returns-clause-bytes : goal.returns-clause-bytes
returns-clause-bytes g c = λ told.
    let s = g.B.Blocks.state c.args.on.now in
    let w = c.args.ways.now in
    let size = ap (λ (t : Tree). t.size) c.grow_to-grown.ensures.is in
    bytes_grown w.limit told (subst (λ (k : List Kept). GrownTo (g.B.Blocks.state c.args.on.now) (g.B.Blocks.state c.grow_to-grown.new.on) c.args.ways.now.tree c.grow_to-grown.result k) c.deref.ensures.value c.grow_to-grown.ensures.grown) ∙ ap (λ z. resized (leaves_of s w.tree w.kept.items w.limit).bytes z) size
