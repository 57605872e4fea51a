use Rattle.std.proofs.Common.{rules, ◌/◌, IfErr, inl, inr, ⊎_elim, ◌∙◌, arith}
use Rattle.fo_tree_read.specs.Tree.{Refused, Names}
use Rattle.fo_looks.proofs.Looks.{looks_joins}
use Rattle.fo_tree_read.proofs.Looks.{any_refused_later}
use Rattle.fo_tree_read.proofs.Walk.{hangs_looks, names_looks}
use Rattle.fo_tree_read.proofs.Copies.{WalksToLeaf, next_near, leaf_local, leaf_known, leaf_way, leaf_near, byte_here}
use Rattle.fo_tree_read.proofs.tree.Tree.copy_part.Goals as goal

pub returns-in_err-leaf-clause-near : goal.returns-in_err-leaf-clause-near
returns-in_err-leaf-clause-near g c =
    λ j next. let p = c.pointer_at.ensures.near j (next_near next) in omega (arith, p, next.from)

pub copy_leaf-requires-clause-hangs : goal.copy_leaf-requires-clause-hangs
copy_leaf-requires-clause-hangs g c =
    hangs_looks (g.met.B.Blocks.keeps_all c.args.on.now c.pointer_at.new.on c.pointer_at.ensures.keeps) c.pointer_at.ensures.looks c.requires.hangs

pub copy_leaf-requires-clause-there : goal.copy_leaf-requires-clause-there
copy_leaf-requires-clause-there g c =
    λ told.
    let before = (g.met.B.Blocks.keeps_all c.args.on.now c.pointer_at.new.on c.pointer_at.ensures.keeps).still_tells.0 told in
    (c.args.place / 8192, (c.in_ok-leaf.ensures.found (inl before)).0 before)

pub returns-clause-given : goal.returns-clause-given
returns-clause-given g c =
    let old = g.B.Blocks.state c.args.on.now in
    let mid = g.B.Blocks.state c.pointer_at.new.on in
    let new = g.B.Blocks.state c.copy_leaf.new.on in
    let t = c.args.self.now in
    let i = c.args.place / 8192 in
    let leaf = c.in_ok-leaf.leaf in
    let all = g.met.B.Blocks.keeps_all c.args.on.now c.pointer_at.new.on c.pointer_at.ensures.keeps in
    let more = g.met.B.Blocks.keeps_all c.pointer_at.new.on c.copy_leaf.new.on c.copy_leaf.ensures.keeps in
    let looks = c.pointer_at.ensures.looks in
    let more_looks = c.copy_leaf.ensures.looks in
    let walk : WalksToLeaf old mid t i leaf = record { found = c.in_ok-leaf.ensures.found; way = c.in_ok-leaf.ensures.way } in
    let part = c.requires.part in
    λ of_data is known x lt.
    let there = ⊎_elim (λ told. inl (all.still_tells.1 told)) (λ local. inr (leaf_local old mid new t i leaf all looks more more_looks walk c.pointer_at.ensures.pins c.pointer_at.ensures.near is local)) known in
    c.in_ok-copy_leaf.ensures.given of_data there x lt ∙ byte_here new t leaf c.args.place x c.requires.within c.requires.hangs.room (omega (arith, part, lt)) (leaf_known old mid new t i leaf all looks more more_looks walk c.pointer_at.ensures.pins c.pointer_at.ensures.near is known)

pub returns-clause-way : goal.returns-clause-way
returns-clause-way g c =
    let old = g.B.Blocks.state c.args.on.now in
    let mid = g.B.Blocks.state c.pointer_at.new.on in
    let new = g.B.Blocks.state c.copy_leaf.new.on in
    let t = c.args.self.now in
    let i = c.args.place / 8192 in
    let leaf = c.in_ok-leaf.leaf in
    let all = g.met.B.Blocks.keeps_all c.args.on.now c.pointer_at.new.on c.pointer_at.ensures.keeps in
    let more = g.met.B.Blocks.keeps_all c.pointer_at.new.on c.copy_leaf.new.on c.copy_leaf.ensures.keeps in
    let looks = c.pointer_at.ensures.looks in
    let more_looks = c.copy_leaf.ensures.looks in
    let walk : WalksToLeaf old mid t i leaf = record { found = c.in_ok-leaf.ensures.found; way = c.in_ok-leaf.ensures.way } in
    leaf_way old mid new t i leaf all looks more more_looks walk c.pointer_at.ensures.pins c.pointer_at.ensures.near c.in_ok-copy_leaf.ensures.got

pub returns-in_err-copy_leaf-clause-near : goal.returns-in_err-copy_leaf-clause-near
returns-in_err-copy_leaf-clause-near g c =
    let old = g.B.Blocks.state c.args.on.now in
    let mid = g.B.Blocks.state c.pointer_at.new.on in
    let new = g.B.Blocks.state c.copy_leaf.new.on in
    let t = c.args.self.now in
    let i = c.args.place / 8192 in
    let leaf = c.in_ok-leaf.leaf in
    let all = g.met.B.Blocks.keeps_all c.args.on.now c.pointer_at.new.on c.pointer_at.ensures.keeps in
    let more = g.met.B.Blocks.keeps_all c.pointer_at.new.on c.copy_leaf.new.on c.copy_leaf.ensures.keeps in
    let looks = c.pointer_at.ensures.looks in
    let more_looks = c.copy_leaf.ensures.looks in
    let walk : WalksToLeaf old mid t i leaf = record { found = c.in_ok-leaf.ensures.found; way = c.in_ok-leaf.ensures.way } in
    leaf_near old mid new t i leaf all looks more more_looks walk c.pointer_at.ensures.pins c.pointer_at.ensures.near c.copy_leaf.ensures.pins c.copy_leaf.ensures.again

pub returns-in_err-copy_leaf-clause-looks : goal.returns-in_err-copy_leaf-clause-looks
returns-in_err-copy_leaf-clause-looks g c =
    looks_joins (g.met.B.Blocks.keeps_all c.args.on.now c.pointer_at.new.on c.pointer_at.ensures.keeps) c.pointer_at.ensures.looks c.copy_leaf.ensures.looks

pub returns-clause-near : goal.returns-clause-near
returns-clause-near g c =
    let old = g.B.Blocks.state c.args.on.now in
    let mid = g.B.Blocks.state c.pointer_at.new.on in
    let new = g.B.Blocks.state c.copy_leaf.new.on in
    let t = c.args.self.now in
    let i = c.args.place / 8192 in
    let leaf = c.in_ok-leaf.leaf in
    let all = g.met.B.Blocks.keeps_all c.args.on.now c.pointer_at.new.on c.pointer_at.ensures.keeps in
    let more = g.met.B.Blocks.keeps_all c.pointer_at.new.on c.copy_leaf.new.on c.copy_leaf.ensures.keeps in
    let looks = c.pointer_at.ensures.looks in
    let more_looks = c.copy_leaf.ensures.looks in
    let walk : WalksToLeaf old mid t i leaf = record { found = c.in_ok-leaf.ensures.found; way = c.in_ok-leaf.ensures.way } in
    leaf_near old mid new t i leaf all looks more more_looks walk c.pointer_at.ensures.pins c.pointer_at.ensures.near c.copy_leaf.ensures.pins c.copy_leaf.ensures.again

pub returns-clause-looks : goal.returns-clause-looks
returns-clause-looks g c =
    looks_joins (g.met.B.Blocks.keeps_all c.args.on.now c.pointer_at.new.on c.pointer_at.ensures.keeps) c.pointer_at.ensures.looks c.copy_leaf.ensures.looks

pub returns-in_err-copy_leaf-clause-cause : goal.returns-in_err-copy_leaf-clause-cause
returns-in_err-copy_leaf-clause-cause g c =
    let old = g.B.Blocks.state c.args.on.now in
    let mid = g.B.Blocks.state c.pointer_at.new.on in
    let new = g.B.Blocks.state c.copy_leaf.new.on in
    let t = c.args.self.now in
    let i = c.args.place / 8192 in
    let leaf = c.in_ok-leaf.leaf in
    let all = g.met.B.Blocks.keeps_all c.args.on.now c.pointer_at.new.on c.pointer_at.ensures.keeps in
    let more = g.met.B.Blocks.keeps_all c.pointer_at.new.on c.copy_leaf.new.on c.copy_leaf.ensures.keeps in
    let looks = c.pointer_at.ensures.looks in
    let more_looks = c.copy_leaf.ensures.looks in
    let walk : WalksToLeaf old mid t i leaf = record { found = c.in_ok-leaf.ensures.found; way = c.in_ok-leaf.ensures.way } in
    let here : IfErr c.from_residual-in_err-copy_leaf.result (Refused mid new (Names mid t)) = search rules in
    any_refused_later old mid new (Names mid t) (Names old t) all (names_looks all looks) c.from_residual-in_err-copy_leaf.result here
