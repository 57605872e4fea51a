use Rattle.std.proofs.Common.{◌≡◌, ◌-◌, ◌/◌, suc, subst, arith}
use Rattle.fo_tree_look.specs.Source.{WayReady}
use Rattle.fo_tree_link.specs.of_tree_down.Clear.{last_leaf}
use Rattle.fo_tree_link.proofs.of_tree_own.Link.{Laws}
use Rattle.fo_tree_trim.proofs.Knowing.{end_known}
use Rattle.fo_tree_shorten.proofs.Settling.{Settles, entry_settled, ready_settled, current_settled, hangs_settled, over_settled}
use Rattle.fo_tree_shorten.proofs.laws.stays_settled.Given as given
use Rattle.fo_tree_shorten.proofs.laws.stays_settled.Goals as goal

laws_of : (g : given.Over) (b : g.row.B.Denot) → Laws (g.B.Blocks.state b)
laws_of g b =
    let s = g.B.Blocks.state b in
    record { present = g.met.B.Blocks.present b; active = (g.met.B.Blocks.active b).0; not_one = (g.met.B.Blocks.active b).1; one = g.met.B.Blocks.one_place b; super_stands = g.met.B.Blocks.super_stands b; placed = λ told. g.met.B.Blocks.placed b s.now (g.met.B.Blocks.present b told); ranked = λ told. g.met.B.Blocks.ranked b s.now (g.met.B.Blocks.present b told); live = λ y told ne r. g.met.B.Blocks.live b y told ne r; clears = g.met.B.Blocks.clears_entries b; waits_within = g.met.B.Blocks.waits_within b; covers_told = g.met.B.Blocks.covers_told b; within = g.met.B.Blocks.within b; spelled = g.met.B.Blocks.spelled b; apart_hangs = λ told w is r. g.met.B.Blocks.apart_hangs b s.now 1 w is (g.met.B.Blocks.present b told) (g.met.B.Blocks.active b).0 r; small = g.met.B.Blocks.small b }

pub returns-clause-over : goal.returns-clause-over
returns-clause-over g c =
    let before = c.args.before.now in
    let after = c.args.after.now in
    let s = g.B.Blocks.state before in
    let u = g.B.Blocks.state after in
    let ways = c.args.ways.now in
    let x : Settles s u ways.tree ways.kept.items ways.limit ways.generation c.args.at c.args.i = record {
      all = g.met.B.Blocks.keeps_all before after c.requires.keeps;
      laws = laws_of g before;
      end = laws_of g after;
      says = λ told. record { placed = g.met.B.Blocks.placed before s.now (g.met.B.Blocks.present before told); one = g.met.B.Blocks.one_place before; active = (g.met.B.Blocks.active before).0; super_stands = g.met.B.Blocks.super_stands before told; labelled = λ b p ne stands. (g.met.B.Blocks.labelled before b p told ne stands).1 };
      one_stays = g.met.B.Blocks.one_stays before;
      over = c.requires.over;
      plain = c.requires.data;
      entry = c.requires.entry;
      linked = c.requires.linked;
      undoomed = c.requires.undoomed;
      rests = c.requires.rests;
      known = c.requires.known;
      blocks = c.requires.blocks;
    } in
    over_settled x

pub returns-clause-entry : goal.returns-clause-entry
returns-clause-entry g c =
    let before = c.args.before.now in
    let after = c.args.after.now in
    let s = g.B.Blocks.state before in
    let u = g.B.Blocks.state after in
    let ways = c.args.ways.now in
    let x : Settles s u ways.tree ways.kept.items ways.limit ways.generation c.args.at c.args.i = record {
      all = g.met.B.Blocks.keeps_all before after c.requires.keeps;
      laws = laws_of g before;
      end = laws_of g after;
      says = λ told. record { placed = g.met.B.Blocks.placed before s.now (g.met.B.Blocks.present before told); one = g.met.B.Blocks.one_place before; active = (g.met.B.Blocks.active before).0; super_stands = g.met.B.Blocks.super_stands before told; labelled = λ b p ne stands. (g.met.B.Blocks.labelled before b p told ne stands).1 };
      one_stays = g.met.B.Blocks.one_stays before;
      over = c.requires.over;
      plain = c.requires.data;
      entry = c.requires.entry;
      linked = c.requires.linked;
      undoomed = c.requires.undoomed;
      rests = c.requires.rests;
      known = c.requires.known;
      blocks = c.requires.blocks;
    } in
    entry_settled x

pub returns-clause-linked : goal.returns-clause-linked
returns-clause-linked g c = λ told.
    let before = c.args.before.now in
    let after = c.args.after.now in
    let s = g.B.Blocks.state before in
    let u = g.B.Blocks.state after in
    let ways = c.args.ways.now in
    let x : Settles s u ways.tree ways.kept.items ways.limit ways.generation c.args.at c.args.i = record {
      all = g.met.B.Blocks.keeps_all before after c.requires.keeps;
      laws = laws_of g before;
      end = laws_of g after;
      says = λ told. record { placed = g.met.B.Blocks.placed before s.now (g.met.B.Blocks.present before told); one = g.met.B.Blocks.one_place before; active = (g.met.B.Blocks.active before).0; super_stands = g.met.B.Blocks.super_stands before told; labelled = λ b p ne stands. (g.met.B.Blocks.labelled before b p told ne stands).1 };
      one_stays = g.met.B.Blocks.one_stays before;
      over = c.requires.over;
      plain = c.requires.data;
      entry = c.requires.entry;
      linked = c.requires.linked;
      undoomed = c.requires.undoomed;
      rests = c.requires.rests;
      known = c.requires.known;
      blocks = c.requires.blocks;
    } in
    hangs_settled x told

pub returns-clause-ready : goal.returns-clause-ready
returns-clause-ready g c = λ way.
    let before = c.args.before.now in
    let after = c.args.after.now in
    let s = g.B.Blocks.state before in
    let u = g.B.Blocks.state after in
    let ways = c.args.ways.now in
    let x : Settles s u ways.tree ways.kept.items ways.limit ways.generation c.args.at c.args.i = record {
      all = g.met.B.Blocks.keeps_all before after c.requires.keeps;
      laws = laws_of g before;
      end = laws_of g after;
      says = λ told. record { placed = g.met.B.Blocks.placed before s.now (g.met.B.Blocks.present before told); one = g.met.B.Blocks.one_place before; active = (g.met.B.Blocks.active before).0; super_stands = g.met.B.Blocks.super_stands before told; labelled = λ b p ne stands. (g.met.B.Blocks.labelled before b p told ne stands).1 };
      one_stays = g.met.B.Blocks.one_stays before;
      over = c.requires.over;
      plain = c.requires.data;
      entry = c.requires.entry;
      linked = c.requires.linked;
      undoomed = c.requires.undoomed;
      rests = c.requires.rests;
      known = c.requires.known;
      blocks = c.requires.blocks;
    } in
    ready_settled x ways.tree.depth (last_leaf ways.tree.size) (omega arith) way

pub returns-clause-current : goal.returns-clause-current
returns-clause-current g c = λ way current deep.
    let before = c.args.before.now in
    let after = c.args.after.now in
    let s = g.B.Blocks.state before in
    let u = g.B.Blocks.state after in
    let ways = c.args.ways.now in
    let x : Settles s u ways.tree ways.kept.items ways.limit ways.generation c.args.at c.args.i = record {
      all = g.met.B.Blocks.keeps_all before after c.requires.keeps;
      laws = laws_of g before;
      end = laws_of g after;
      says = λ told. record { placed = g.met.B.Blocks.placed before s.now (g.met.B.Blocks.present before told); one = g.met.B.Blocks.one_place before; active = (g.met.B.Blocks.active before).0; super_stands = g.met.B.Blocks.super_stands before told; labelled = λ b p ne stands. (g.met.B.Blocks.labelled before b p told ne stands).1 };
      one_stays = g.met.B.Blocks.one_stays before;
      over = c.requires.over;
      plain = c.requires.data;
      entry = c.requires.entry;
      linked = c.requires.linked;
      undoomed = c.requires.undoomed;
      rests = c.requires.rests;
      known = c.requires.known;
      blocks = c.requires.blocks;
    } in
    let t = ways.tree in
    let level : t.depth ≡ suc (t.depth - 1) = omega (arith, deep) in
    let whole : WayReady s t ways.kept.items (suc (t.depth - 1)) (last_leaf t.size) = subst (λ d. WayReady s t ways.kept.items d (last_leaf t.size)) level way in
    current_settled x (t.depth - 1) (last_leaf t.size / 409) (omega arith) whole.0 (current deep)

pub returns-clause-end : goal.returns-clause-end
returns-clause-end g c = λ way b on.
    let ways = c.args.ways.now in
    end_known (g.B.Blocks.state c.args.before.now) (g.B.Blocks.state c.args.after.now) ways.tree ways.kept.items way c.requires.known b on
