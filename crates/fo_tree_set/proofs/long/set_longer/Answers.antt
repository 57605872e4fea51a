use Rattle.std.proofs.Common.{◌≡◌, ◌≢◌, ◌++◌, ◌%◌, ◌<◌, ◌≤◌, inl, inr, refl, sym, ◌∙◌, ap, subst, arith}
use Rattle.fo_sparse.specs.Written.{resized}
use Rattle.fo_tree_read.specs.declared.tree.Tree.{Tree}
use Rattle.fo_tree_look.specs.Source.{leaves_of}
use Rattle.fo_tree_trim.proofs.Counting.{adds_joins, adds_most}
use Rattle.fo_tree_trim.proofs.of_tree_own.Showing.{shows_joins}
use Rattle.fo_tree_shorten.specs.Shorten.{EntryAt}
use Rattle.fo_tree_set.specs.Set.{GrowsBy}
use Rattle.fo_tree_set.proofs.Lengths.{shape_trims, form_shape, form_joins, bytes_kept}
use Rattle.fo_tree_set.proofs.long.set_longer.Goals as goal

pub trim_settled-requires-clause-spare : goal.trim_settled-requires-clause-spare
trim_settled-requires-clause-spare g c = let spare = c.requires.spare in omega (arith, spare)

pub trim_settled-requires-clause-room : goal.trim_settled-requires-clause-room
trim_settled-requires-clause-room g c = let room = c.requires.room in omega (arith, room)

pub lengthen-requires-clause-data : goal.lengthen-requires-clause-data
lengthen-requires-clause-data g c =
    let x = shape_trims g.row.B.Denot g.B.Blocks.state c.args.on.now c.trim_settled.new.on c.args.ways.now.tree c.trim_settled.new.ways.tree c.args.ways.now.kept.items c.args.ways.now.generation c.args.at c.args.i c.trim_settled.ensures.trims in
    (x.dir ∙ c.requires.data.0, subst (λ r. r % 32 ≢ 16) (sym x.rank) c.requires.data.1)

pub lengthen-requires-clause-more : goal.lengthen-requires-clause-more
lengthen-requires-clause-more g c =
    let x = shape_trims g.row.B.Denot g.B.Blocks.state c.args.on.now c.trim_settled.new.on c.args.ways.now.tree c.trim_settled.new.ways.tree c.args.ways.now.kept.items c.args.ways.now.generation c.args.at c.args.i c.trim_settled.ensures.trims in
    (subst (λ z. z < c.args.len) (sym x.size) c.requires.more.0, subst (λ z. c.args.len ≤ z) (sym c.trim_settled.ensures.is.1) c.requires.more.1)

pub lengthen-requires-clause-linked : goal.lengthen-requires-clause-linked
lengthen-requires-clause-linked g c = λ told.
    let all = g.met.B.Blocks.keeps_all c.args.on.now c.trim_settled.new.on c.trim_settled.ensures.keeps in
    c.trim_settled.ensures.linked (all.still_tells.0 told)

pub lengthen-requires-clause-spare : goal.lengthen-requires-clause-spare
lengthen-requires-clause-spare g c = let spare = c.requires.spare in let taken = c.trim_settled.ensures.spare in omega (arith, spare, taken)

pub lengthen-requires-clause-room : goal.lengthen-requires-clause-room
lengthen-requires-clause-room g c = let room = c.requires.room in let taken = c.trim_settled.ensures.room in omega (arith, room, taken)

pub returns-in-Ok-clause-is : goal.returns-in-Ok-clause-is
returns-in-Ok-clause-is g c =
    let k = c.trim_settled.ensures.is in
    let e = c.lengthen.ensures.is in
    (e.0 ∙ k.0, e.1 ∙ k.1, e.2 ∙ k.2)

pub returns-in-Ok-clause-form : goal.returns-in-Ok-clause-form
returns-in-Ok-clause-form g c =
    let x = shape_trims g.row.B.Denot g.B.Blocks.state c.args.on.now c.trim_settled.new.on c.args.ways.now.tree c.trim_settled.new.ways.tree c.args.ways.now.kept.items c.args.ways.now.generation c.args.at c.args.i c.trim_settled.ensures.trims in
    let is = c.lengthen.ensures.tree in
    form_joins (form_shape x) (record { dir = ap (λ (t : Tree). t.dir) is; tag = ap (λ (t : Tree). t.tag) is; rank = ap (λ (t : Tree). t.rank) is })

pub returns-in-Err-clause-form : goal.returns-in-Err-clause-form
returns-in-Err-clause-form g c =
    form_shape (shape_trims g.row.B.Denot g.B.Blocks.state c.args.on.now c.trim_settled.new.on c.args.ways.now.tree c.trim_settled.new.ways.tree c.args.ways.now.kept.items c.args.ways.now.generation c.args.at c.args.i c.trim_settled.ensures.trims)

pub returns-in-Ok-clause-size : goal.returns-in-Ok-clause-size
returns-in-Ok-clause-size g c = ap (λ (t : Tree). t.size) c.lengthen.ensures.tree

pub returns-in-Err-clause-left : goal.returns-in-Err-clause-left
returns-in-Err-clause-left g c =
    let x = shape_trims g.row.B.Denot g.B.Blocks.state c.args.on.now c.trim_settled.new.on c.args.ways.now.tree c.trim_settled.new.ways.tree c.args.ways.now.kept.items c.args.ways.now.generation c.args.at c.args.i c.trim_settled.ensures.trims in
    x.size

pub returns-in-Ok-clause-linked : goal.returns-in-Ok-clause-linked
returns-in-Ok-clause-linked g c = λ told.
    let all = g.met.B.Blocks.keeps_all c.args.on.now c.trim_settled.new.on c.trim_settled.ensures.keeps in
    c.lengthen.ensures.linked (all.still_tells.1 told)

pub returns-in-Ok-clause-bytes : goal.returns-in-Ok-clause-bytes
returns-in-Ok-clause-bytes g c = λ told.
    let all = g.met.B.Blocks.keeps_all c.args.on.now c.trim_settled.new.on c.trim_settled.ensures.keeps in
    let s = g.B.Blocks.state c.args.on.now in
    let w = c.args.ways.now in
    let long : c.lengthen.new.ways.tree.size ≡ c.args.len = ap (λ (t : Tree). t.size) c.lengthen.ensures.tree in
    c.lengthen.ensures.bytes (all.still_tells.1 told)
    ∙ ap (λ xs. resized xs c.args.len) (c.trim_settled.ensures.bytes told)
    ∙ ap (λ z. resized (leaves_of s w.tree w.kept.items w.limit).bytes z) (sym long)

pub returns-in-Err-clause-bytes : goal.returns-in-Err-clause-bytes
returns-in-Err-clause-bytes g c = λ told.
    let s = g.B.Blocks.state c.args.on.now in
    let w = c.args.ways.now in
    let now = c.trim_settled.new.ways.tree in
    let x = shape_trims g.row.B.Denot g.B.Blocks.state c.args.on.now c.trim_settled.new.on w.tree now w.kept.items w.generation c.args.at c.args.i c.trim_settled.ensures.trims in
    c.trim_settled.ensures.bytes told ∙ bytes_kept s w.tree w.kept.items w.limit now.size x.size

pub returns-in-Ok-clause-steps : goal.returns-in-Ok-clause-steps
returns-in-Ok-clause-steps g c =
    let mid = c.trim_settled.new.on in
    let end = c.lengthen.new.on in
    let w = c.trim_settled.new.ways in
    let old = c.args.ways.now in
    let now = c.lengthen.new.ways.tree in
    let is = c.trim_settled.ensures.is in
    record {
      more = c.requires.more.0;
      middle = mid;
      tree = w.tree;
      trims = c.trim_settled.ensures.trims;
      entry = subst (λ n. EntryAt (g.B.Blocks.state mid) w.tree n c.args.at c.args.i) is.0 c.trim_settled.ensures.entry;
      all = g.met.B.Blocks.keeps_all c.args.on.now mid c.trim_settled.ensures.keeps;
      grows = inr (subst (λ k. GrowsBy g.row.B.Denot g.B.Blocks.state mid end w.tree now k.items old.generation c.args.at c.args.i c.args.len) is.2 (subst (λ n. GrowsBy g.row.B.Denot g.B.Blocks.state mid end w.tree now w.kept.items n c.args.at c.args.i c.args.len) is.0 c.lengthen.ensures.grows));
    }

pub returns-in-Err-clause-steps : goal.returns-in-Err-clause-steps
returns-in-Err-clause-steps g c =
    record {
      more = c.requires.more.0;
      middle = c.trim_settled.new.on;
      tree = c.trim_settled.new.ways.tree;
      trims = c.trim_settled.ensures.trims;
      entry = subst (λ n. EntryAt (g.B.Blocks.state c.trim_settled.new.on) c.trim_settled.new.ways.tree n c.args.at c.args.i) c.trim_settled.ensures.is.0 c.trim_settled.ensures.entry;
      all = g.met.B.Blocks.keeps_all c.args.on.now c.trim_settled.new.on c.trim_settled.ensures.keeps;
      grows = inl (refl, refl);
    }

pub returns-in-Ok-clause-spare : goal.returns-in-Ok-clause-spare
returns-in-Ok-clause-spare g c = let first = c.trim_settled.ensures.spare in let second = c.lengthen.ensures.spare in omega (arith, first, second)

pub returns-in-Err-clause-spare : goal.returns-in-Err-clause-spare
returns-in-Err-clause-spare g c = let first = c.trim_settled.ensures.spare in omega (arith, first)

pub returns-in-Ok-clause-room : goal.returns-in-Ok-clause-room
returns-in-Ok-clause-room g c = let first = c.trim_settled.ensures.room in let second = c.lengthen.ensures.room in omega (arith, first, second)

pub returns-in-Err-clause-room : goal.returns-in-Err-clause-room
returns-in-Err-clause-room g c = let first = c.trim_settled.ensures.room in omega (arith, first)

pub returns-in-Ok-clause-pins : goal.returns-in-Ok-clause-pins
returns-in-Ok-clause-pins g c = c.lengthen.ensures.pins ∙ c.trim_settled.ensures.pins

pub returns-in-Ok-clause-keeps : goal.returns-in-Ok-clause-keeps
returns-in-Ok-clause-keeps g c = g.met.B.Blocks.keeps_joins c.args.on.now c.trim_settled.new.on c.lengthen.new.on c.trim_settled.ensures.keeps c.lengthen.ensures.keeps

pub returns-in-Ok-clause-dirties : goal.returns-in-Ok-clause-dirties
returns-in-Ok-clause-dirties g c = λ before blocks counted here.
    let p = c.trim_settled.ensures.dirties before blocks counted here in
    adds_most (omega arith) (adds_joins p (c.lengthen.ensures.dirties before (p.more ++ blocks) p.within p.here))

pub returns-in-Err-clause-dirties : goal.returns-in-Err-clause-dirties
returns-in-Err-clause-dirties g c = λ before blocks counted here. adds_most (omega arith) (c.trim_settled.ensures.dirties before blocks counted here)

pub returns-in-Ok-clause-shown : goal.returns-in-Ok-clause-shown
returns-in-Ok-clause-shown g c = shows_joins c.trim_settled.ensures.shown c.lengthen.ensures.shown
