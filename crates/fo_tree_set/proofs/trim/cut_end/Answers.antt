use Rattle.std.proofs.Common.{◌<◌, inl, inr, refl, sym, ◌∙◌, ap, subst, arith}
use Rattle.fo_tree_read.specs.declared.tree.Tree.{Tree}
use Rattle.fo_tree_look.specs.Source.{WayReady}
use Rattle.fo_tree_down.specs.Clear.{last_leaf}
use Rattle.fo_tree_trim.proofs.Counting.{ends_alone, ends_cut}
use Rattle.fo_tree_trim.proofs.of_tree_own.Showing.{shows_joins}
use Rattle.fo_tree_shorten.specs.Shorten.{EntryAt}
use Rattle.fo_tree_set.proofs.trim.cut_end.Goals as goal

pub cut-requires-clause-data : goal.cut-requires-clause-data
cut-requires-clause-data g c = ap (λ (t : Tree). t.dir) c.rest.ensures.steps.1 ∙ c.requires.data

pub cut-requires-clause-deep : goal.cut-requires-clause-deep
cut-requires-clause-deep g c = subst (λ d. 0 < d) (sym (ap (λ (t : Tree). t.depth) c.rest.ensures.steps.1)) c.requires.deep

pub cut-requires-clause-linked : goal.cut-requires-clause-linked
cut-requires-clause-linked g c = λ told.
    let all = g.met.B.Blocks.keeps_all c.args.on.now c.rest.new.on c.rest.ensures.keeps in
    c.rest.ensures.linked (all.still_tells.0 told)

pub cut-requires-clause-room : goal.cut-requires-clause-room
cut-requires-clause-room g c =
    let level = ap (λ (t : Tree). t.depth) c.rest.ensures.steps.1 in
    let room = c.requires.room in
    let same = c.rest.ensures.room in
    omega (arith, level, room, same)

pub returns-in-Ok-clause-linked : goal.returns-in-Ok-clause-linked
returns-in-Ok-clause-linked g c = λ told.
    let all = g.met.B.Blocks.keeps_all c.args.on.now c.rest.new.on c.rest.ensures.keeps in
    c.cut.ensures.linked (all.still_tells.1 told)

pub returns-in-Ok-clause-bytes : goal.returns-in-Ok-clause-bytes
returns-in-Ok-clause-bytes g c = λ told.
    let all = g.met.B.Blocks.keeps_all c.args.on.now c.rest.new.on c.rest.ensures.keeps in
    c.cut.ensures.bytes (all.still_tells.1 told) ∙ c.rest.ensures.bytes told

pub returns-in-Ok-clause-trims : goal.returns-in-Ok-clause-trims
returns-in-Ok-clause-trims g c =
    let r = c.rest.ensures in
    let k = r.steps in
    let e = c.cut.ensures in
    let v = g.B.Blocks.state c.rest.new.on in
    let w = c.rest.new.ways in
    record {
      top = k.0;
      is = k.1;
      own = k.2.0;
      put = k.2.1.0;
      rest = c.rest.new.on;
      rested = k.2.1.1;
      cut = inr (record { settled = c.in-Ok.ensures.settled; entry = subst (λ n. EntryAt v w.tree n c.args.at c.args.i) r.is.0 r.entry; deep = subst (λ d. 0 < d) (sym (ap (λ (t : Tree). t.depth) k.1)) c.requires.deep; ready = subst (λ x. WayReady v w.tree x.items w.tree.depth (last_leaf w.tree.size)) r.is.2 r.ready; current = r.current; all = g.met.B.Blocks.keeps_all c.rest.new.on c.cut.new.on e.keeps; cuts = e.cuts; gone = e.gone; shows = λ told image is. e.shows told c.in-Ok.ensures.settled image is });
    }

pub returns-in-Err-clause-trims : goal.returns-in-Err-clause-trims
returns-in-Err-clause-trims g c =
    let k = c.rest.ensures.steps in
    record { top = k.0; is = k.1; own = k.2.0; put = k.2.1.0; rest = c.rest.new.on; rested = k.2.1.1; cut = inl refl }

pub returns-in-Ok-clause-spare : goal.returns-in-Ok-clause-spare
returns-in-Ok-clause-spare g c = let first = c.rest.ensures.spare in let same = c.cut.ensures.cuts.spare in omega (arith, first, same)

pub returns-in-Ok-clause-room : goal.returns-in-Ok-clause-room
returns-in-Ok-clause-room g c =
    let level = ap (λ (t : Tree). t.depth) c.rest.ensures.steps.1 in
    let first = c.rest.ensures.room in
    let second = c.cut.ensures.room in
    omega (arith, level, first, second)

pub returns-in-Ok-clause-pins : goal.returns-in-Ok-clause-pins
returns-in-Ok-clause-pins g c = c.cut.ensures.cuts.pins ∙ c.rest.ensures.pins

pub returns-in-Ok-clause-keeps : goal.returns-in-Ok-clause-keeps
returns-in-Ok-clause-keeps g c = g.met.B.Blocks.keeps_joins c.args.on.now c.rest.new.on c.cut.new.on c.rest.ensures.keeps c.cut.ensures.keeps

pub returns-in-Ok-clause-dirties : goal.returns-in-Ok-clause-dirties
returns-in-Ok-clause-dirties g c = λ before blocks counted here. ends_cut (c.rest.ensures.dirties before blocks counted here) (λ list within has. c.cut.ensures.dirties before list within has)

pub returns-in-Err-clause-dirties : goal.returns-in-Err-clause-dirties
returns-in-Err-clause-dirties g c = λ before blocks counted here. ends_alone (c.rest.ensures.dirties before blocks counted here)

pub returns-in-Ok-clause-shown : goal.returns-in-Ok-clause-shown
returns-in-Ok-clause-shown g c = shows_joins c.rest.ensures.shown c.cut.ensures.shown
