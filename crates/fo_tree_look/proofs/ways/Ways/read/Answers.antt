use Rattle.std.proofs.Common.{take, drop, length, List, ℕ, inl, inr, ⊎_elim, sym, ap, ◌∙◌}
use Rattle.fo_tree_look.proofs.Shown.{held_on, over_looks, same_leaves, extends_none, bytes_here, part_here, tree_local, dir_false, tree_finds}
use Rattle.fo_tree_look.proofs.ways.Ways.read.Goals as goal

pub returns-in_err-given-clause-over : goal.returns-in_err-given-clause-over
returns-in_err-given-clause-over g c = over_looks (g.met.B.Blocks.keeps_all c.args.on.now c.read.new.on c.read.ensures.keeps) c.read.ensures.looks c.requires.over

pub returns-in_err-given-clause-same : goal.returns-in_err-given-clause-same
returns-in_err-given-clause-same g c =
    let a = g.B.Blocks.state c.args.on.now in
    let b = g.B.Blocks.state c.read.new.on in
    let s = c.args.self.now in
    let all = g.met.B.Blocks.keeps_all c.args.on.now c.read.new.on c.read.ensures.keeps in
    same_leaves a b s.tree s.kept.items s.kept.items all c.read.ensures.looks (extends_none all s.kept.items c.requires.over.held) c.requires.over.held s.limit

pub returns-clause-given : goal.returns-clause-given
returns-clause-given g c = λ of_data finds known.
    let a = g.B.Blocks.state c.args.on.now in
    let b = g.B.Blocks.state c.read.new.on in
    let s = c.args.self.now in
    let n = length c.args.into.now in
    let all = g.met.B.Blocks.keeps_all c.args.on.now c.read.new.on c.read.ensures.keeps in
    let given = c.in_ok-given.ensures.given (dir_false s.tree.dir of_data) (tree_finds a s.tree s.kept.items s.limit c.args.offset n c.requires.over.least finds) in
    ⊎_elim
    (λ told. given (inl told) ∙ ap (λ (xs : List ℕ). take n (drop c.args.offset xs)) (sym (bytes_here b s.tree s.kept.items (held_on all s.kept.items c.requires.over.held) (all.still_tells.1 told))))
    (λ local. given (inr (tree_local b s.tree c.args.offset n local)) ∙ part_here b s.tree s.kept.items c.args.offset n local)
    known

pub returns-clause-over : goal.returns-clause-over
returns-clause-over g c = over_looks (g.met.B.Blocks.keeps_all c.args.on.now c.read.new.on c.read.ensures.keeps) c.read.ensures.looks c.requires.over

pub returns-clause-same : goal.returns-clause-same
returns-clause-same g c =
    let a = g.B.Blocks.state c.args.on.now in
    let b = g.B.Blocks.state c.read.new.on in
    let s = c.args.self.now in
    let all = g.met.B.Blocks.keeps_all c.args.on.now c.read.new.on c.read.ensures.keeps in
    same_leaves a b s.tree s.kept.items s.kept.items all c.read.ensures.looks (extends_none all s.kept.items c.requires.over.held) c.requires.over.held s.limit
