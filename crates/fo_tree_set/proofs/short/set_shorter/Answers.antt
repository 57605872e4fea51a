use Rattle.std.proofs.Common.{◌≡◌, ◌<◌, sym, ◌∙◌, ap, subst, arith}
use Rattle.fo_tree_read.specs.declared.tree.Tree.{Tree}
use Rattle.fo_ports.specs.Sources.{depth_for}
use Rattle.fo_tree_look.specs.Source.{WayReady}
use Rattle.fo_tree_down.specs.Clear.{last_leaf}
use Rattle.fo_tree_trim.proofs.Counting.{adds_most}
use Rattle.fo_tree_trim.proofs.of_tree_own.Showing.{shows_joins}
use Rattle.fo_tree_shorten.specs.Shorten.{EntryAt, Links}
use Rattle.fo_tree_set.specs.Set.{MayTrim}
use Rattle.fo_tree_set.proofs.Lengths.{SameShape, shape_trims, form_shape, form_joins, rose_since}
use Rattle.fo_tree_set.proofs.short.set_shorter.Given as given
use Rattle.fo_tree_set.proofs.short.set_shorter.Goals as goal

pub shorten-requires-clause-end : goal.shorten-requires-clause-end
shorten-requires-clause-end g c = let less = c.requires.less in omega (arith, less)

pub shorten-requires-clause-ready : goal.shorten-requires-clause-ready
shorten-requires-clause-ready g c = λ some. c.requires.ready

pub shorten-requires-clause-room : goal.shorten-requires-clause-room
shorten-requires-clause-room g c = let room = c.requires.room in omega (arith, room)

pub trim_settled-requires-clause-data : goal.trim_settled-requires-clause-data
trim_settled-requires-clause-data g c = ap (λ (t : Tree). t.dir) c.shorten.ensures.is.0 ∙ c.requires.data

pub trim_settled-requires-clause-ready : goal.trim_settled-requires-clause-ready
trim_settled-requires-clause-ready g c = λ some.
    let u = g.B.Blocks.state c.shorten.new.on in
    let w = c.shorten.new.ways in
    let size : w.tree.size ≡ c.args.len = ap (λ (t : Tree). t.size) c.shorten.ensures.is.0 in
    subst (λ z. WayReady u w.tree w.kept.items w.tree.depth (last_leaf z)) (sym size) (c.shorten.ensures.ready (subst (λ z. 0 < z) size some))

pub trim_settled-requires-clause-linked : goal.trim_settled-requires-clause-linked
trim_settled-requires-clause-linked g c = λ told.
    let all = g.met.B.Blocks.keeps_all c.args.on.now c.shorten.new.on c.shorten.ensures.keeps in
    c.shorten.ensures.linked (all.still_tells.0 told)

pub trim_settled-requires-clause-calm : goal.trim_settled-requires-clause-calm
trim_settled-requires-clause-calm g c = λ told b j h.
    let all = g.met.B.Blocks.keeps_all c.args.on.now c.shorten.new.on c.shorten.ensures.keeps in
    c.requires.calm (all.still_tells.0 told) b j (c.shorten.ensures.links.order.clearing b j h).1

pub trim_settled-requires-clause-spare : goal.trim_settled-requires-clause-spare
trim_settled-requires-clause-spare g c =
    let level : c.shorten.new.ways.tree.depth ≡ depth_for c.args.len = ap (λ (t : Tree). t.depth) c.shorten.ensures.is.0 in
    let same = c.shorten.ensures.links.frame.uses.spare in
    let spare = c.requires.spare in
    omega (arith, level, same, spare)

pub trim_settled-requires-clause-room : goal.trim_settled-requires-clause-room
trim_settled-requires-clause-room g c =
    let level : c.shorten.new.ways.tree.depth ≡ depth_for c.args.len = ap (λ (t : Tree). t.depth) c.shorten.ensures.is.0 in
    let first = c.shorten.ensures.room in
    let room = c.requires.room in
    omega (arith, level, first, room)

shape_of : (g : given.Over) (c : goal.After-trim_settled g) → SameShape c.shorten.new.ways.tree c.trim_settled.new.ways.tree
shape_of g c = shape_trims g.row.B.Denot g.B.Blocks.state c.shorten.new.on c.trim_settled.new.on c.shorten.new.ways.tree c.trim_settled.new.ways.tree c.shorten.new.ways.kept.items c.shorten.new.ways.generation c.args.at c.args.i c.trim_settled.ensures.trims

pub returns-clause-is : goal.returns-clause-is
returns-clause-is g c =
    let k = c.shorten.ensures.is in
    let e = c.trim_settled.ensures.is in
    (e.0 ∙ k.1, e.1 ∙ k.2, e.2 ∙ k.3)

pub returns-clause-form : goal.returns-clause-form
returns-clause-form g c =
    let is = c.shorten.ensures.is.0 in
    form_joins (record { dir = ap (λ (t : Tree). t.dir) is; tag = ap (λ (t : Tree). t.tag) is; rank = ap (λ (t : Tree). t.rank) is }) (form_shape (shape_of g c))

pub returns-clause-size : goal.returns-clause-size
returns-clause-size g c = (shape_of g c).size ∙ ap (λ (t : Tree). t.size) c.shorten.ensures.is.0

pub returns-clause-linked : goal.returns-clause-linked
returns-clause-linked g c = λ told.
    let all = g.met.B.Blocks.keeps_all c.args.on.now c.shorten.new.on c.shorten.ensures.keeps in
    c.trim_settled.ensures.linked (all.still_tells.1 told)

pub returns-clause-bytes : goal.returns-clause-bytes
returns-clause-bytes g c = λ told.
    let all = g.met.B.Blocks.keeps_all c.args.on.now c.shorten.new.on c.shorten.ensures.keeps in
    c.trim_settled.ensures.bytes (all.still_tells.1 told) ∙ c.shorten.ensures.bytes told

pub returns-clause-steps : goal.returns-clause-steps
returns-clause-steps g c =
    let first = c.args.on.now in
    let mid = c.shorten.new.on in
    let end = c.trim_settled.new.on in
    let s = g.B.Blocks.state first in
    let m = g.B.Blocks.state mid in
    let old = c.args.ways.now in
    let w = c.shorten.new.ways in
    let now = c.trim_settled.new.ways.tree in
    let is = c.shorten.ensures.is in
    let B = g.row.B.Denot in
    let state = g.B.Blocks.state in
    let at = c.args.at in
    let i = c.args.i in
    record {
      less = c.requires.less;
      put = mid;
      links = subst (λ (t : Tree). Links s m t old.generation at i) is.0 (subst (λ n. Links s m w.tree n at i) is.1 c.shorten.ensures.links);
      entry = subst (λ (t : Tree). EntryAt m t old.generation at i) is.0 (subst (λ n. EntryAt m w.tree n at i) is.1 c.shorten.ensures.entry);
      all = g.met.B.Blocks.keeps_all first mid c.shorten.ensures.keeps;
      trims = subst (λ (t : Tree). MayTrim B state mid end t now old.kept.items old.generation at i) is.0
          (subst (λ n. MayTrim B state mid end w.tree now old.kept.items n at i) is.1
          (subst (λ k. MayTrim B state mid end w.tree now k.items w.generation at i) is.3 c.trim_settled.ensures.trims));
    }

pub returns-clause-spare : goal.returns-clause-spare
returns-clause-spare g c =
    let level : c.shorten.new.ways.tree.depth ≡ depth_for c.args.len = ap (λ (t : Tree). t.depth) c.shorten.ensures.is.0 in
    let same = c.shorten.ensures.links.frame.uses.spare in
    let taken = c.trim_settled.ensures.spare in
    omega (arith, level, same, taken)

pub returns-clause-room : goal.returns-clause-room
returns-clause-room g c =
    let level : c.shorten.new.ways.tree.depth ≡ depth_for c.args.len = ap (λ (t : Tree). t.depth) c.shorten.ensures.is.0 in
    let first = c.shorten.ensures.room in
    let second = c.trim_settled.ensures.room in
    omega (arith, level, first, second)

pub returns-clause-pins : goal.returns-clause-pins
returns-clause-pins g c = c.trim_settled.ensures.pins ∙ c.shorten.ensures.links.frame.uses.pins

pub returns-clause-cause : goal.returns-clause-cause
returns-clause-cause g c =
    let first = c.args.on.now in
    let mid = c.shorten.new.on in
    rose_since (g.B.Blocks.state first) (g.B.Blocks.state mid) (g.B.Blocks.state c.trim_settled.new.on) (g.met.B.Blocks.keeps_all first mid c.shorten.ensures.keeps) c.trim_settled.result c.trim_settled.ensures.cause

pub returns-clause-keeps : goal.returns-clause-keeps
returns-clause-keeps g c = g.met.B.Blocks.keeps_joins c.args.on.now c.shorten.new.on c.trim_settled.new.on c.shorten.ensures.keeps c.trim_settled.ensures.keeps

pub returns-clause-dirties : goal.returns-clause-dirties
returns-clause-dirties g c = λ before blocks counted here.
    let level : c.shorten.new.ways.tree.depth ≡ depth_for c.args.len = ap (λ (t : Tree). t.depth) c.shorten.ensures.is.0 in
    adds_most (omega (arith, level)) (c.trim_settled.ensures.dirties before blocks (c.shorten.ensures.dirties before blocks counted here) here)

pub returns-clause-shown : goal.returns-clause-shown
returns-clause-shown g c = λ plain. shows_joins (c.shorten.ensures.shown plain) c.trim_settled.ensures.shown
