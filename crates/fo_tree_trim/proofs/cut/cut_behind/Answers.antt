use Rattle.std.proofs.Common.{◌≡◌, ◌*◌, ◌^◌, ◌<◌, inl, refl, sym, ◌∙◌, ap, arith}
use Rattle.fo_image.specs.declared.types.Label.{Label}
use Rattle.fo_crash.proofs.Spots.{one_path}
use Rattle.fo_tree_down.specs.Clear.{last_leaf}
use Rattle.fo_tree_down.proofs.Beside.{index_last}
use Rattle.fo_tree_trim.proofs.Above.{deep_size}
use Rattle.fo_tree_trim.proofs.Along.{Aside, clear_end, way_ready}
use Rattle.fo_tree_trim.proofs.Counting.{cut_on_end, dirties_cuts}
use Rattle.fo_tree_trim.proofs.Ending.{end_few, ends_clear}
use Rattle.fo_tree_trim.proofs.Fronts.{bytes_same}
use Rattle.fo_tree_trim.proofs.Gone.{past_gone}
use Rattle.fo_tree_trim.proofs.Keeping.{Trims, trim_over, trim_comes, trim_back, trim_still, trim_leaves, trim_shows}
use Rattle.fo_tree_down.proofs.of_tree_own.Showing.{nothing_shows}
use Rattle.fo_tree_trim.proofs.Showing.{cut_shows}
use Rattle.fo_tree_trim.proofs.cut.cut_behind.Goals as goal

pub returns-clause-clear : goal.returns-clause-clear
returns-clause-clear g c =
    let first = c.args.on.now in
    let end = c.cut_slots.new.on in
    let s = g.B.Blocks.state first in
    let u = g.B.Blocks.state end in
    let t = c.args.tree.now in
    let kept = c.args.kept.now in
    let over = c.requires.over.1 in
    let flat = c.if-tree-eq0.false in
    let deep : 0 < t.depth = omega (arith, flat) in
    let size = deep_size t over.least (omega (arith, over.within, over.low)) deep in
    let some : 0 < t.size = omega (arith, size) in
    let few = end_few t over.hangs.room in
    let aside : Aside s u t kept (last_leaf t.size) (409 * t.depth) = record {
      cuts = c.cut_slots.ensures.cuts;
      all = g.met.B.Blocks.keeps_all first end c.cut_slots.ensures.keeps;
      deep = deep;
      ready = c.requires.ready some;
      current = c.requires.current deep;
    } in
    ends_clear u t kept over.empty (λ more. way_ready aside t.depth (last_leaf t.size) (index_last t.depth (last_leaf t.size))) (clear_end few aside)

pub returns-clause-over : goal.returns-clause-over
returns-clause-over g c = λ limit whole.
    let first = c.args.on.now in
    let end = c.cut_slots.new.on in
    let s = g.B.Blocks.state first in
    let u = g.B.Blocks.state end in
    let t = c.args.tree.now in
    let kept = c.args.kept.now in
    let over = c.requires.over.1 in
    let flat = c.if-tree-eq0.false in
    let deep : 0 < t.depth = omega (arith, flat) in
    let size = deep_size t over.least (omega (arith, over.within, over.low)) deep in
    let some : 0 < t.size = omega (arith, size) in
    let few = end_few t over.hangs.room in
    let aside : Aside s u t kept (last_leaf t.size) (409 * t.depth) = record {
      cuts = c.cut_slots.ensures.cuts;
      all = g.met.B.Blocks.keeps_all first end c.cut_slots.ensures.keeps;
      deep = deep;
      ready = c.requires.ready some;
      current = c.requires.current deep;
    } in
    let x : Trims s u t kept (last_leaf t.size) = record {
      aside = aside;
      few = few;
      said = λ told. record {
        told = told;
        hangs = over.hangs;
        placed = g.met.B.Blocks.placed first s.now (g.met.B.Blocks.present first told);
        ranked = g.met.B.Blocks.ranked first s.now (g.met.B.Blocks.present first told);
        slots = g.met.B.Blocks.few first s.now (g.met.B.Blocks.present first told);
        one = g.met.B.Blocks.one_place first;
        few = few;
        super_stands = g.met.B.Blocks.super_stands first told;
        kinds = λ b p ne stands. (g.met.B.Blocks.labelled first b p told ne stands).1;
      };
      may = c.requires.may;
    } in
    trim_over x (λ told w apart r. g.met.B.Blocks.apart_hangs first s.now 1 w apart (g.met.B.Blocks.present first told) (g.met.B.Blocks.active first).0 r) whole

pub returns-clause-leaves : goal.returns-clause-leaves
returns-clause-leaves g c = λ told.
    let first = c.args.on.now in
    let end = c.cut_slots.new.on in
    let s = g.B.Blocks.state first in
    let u = g.B.Blocks.state end in
    let t = c.args.tree.now in
    let kept = c.args.kept.now in
    let over = c.requires.over.1 in
    let flat = c.if-tree-eq0.false in
    let deep : 0 < t.depth = omega (arith, flat) in
    let size = deep_size t over.least (omega (arith, over.within, over.low)) deep in
    let some : 0 < t.size = omega (arith, size) in
    let few = end_few t over.hangs.room in
    let aside : Aside s u t kept (last_leaf t.size) (409 * t.depth) = record {
      cuts = c.cut_slots.ensures.cuts;
      all = g.met.B.Blocks.keeps_all first end c.cut_slots.ensures.keeps;
      deep = deep;
      ready = c.requires.ready some;
      current = c.requires.current deep;
    } in
    let x : Trims s u t kept (last_leaf t.size) = record {
      aside = aside;
      few = few;
      said = λ told. record {
        told = told;
        hangs = over.hangs;
        placed = g.met.B.Blocks.placed first s.now (g.met.B.Blocks.present first told);
        ranked = g.met.B.Blocks.ranked first s.now (g.met.B.Blocks.present first told);
        slots = g.met.B.Blocks.few first s.now (g.met.B.Blocks.present first told);
        one = g.met.B.Blocks.one_place first;
        few = few;
        super_stands = g.met.B.Blocks.super_stands first told;
        kinds = λ b p ne stands. (g.met.B.Blocks.labelled first b p told ne stands).1;
      };
      may = c.requires.may;
    } in
    trim_leaves x told

pub returns-clause-shows : goal.returns-clause-shows
returns-clause-shows g c = λ told all.
    let first = c.args.on.now in
    let end = c.cut_slots.new.on in
    let s = g.B.Blocks.state first in
    let u = g.B.Blocks.state end in
    let t = c.args.tree.now in
    let kept = c.args.kept.now in
    let over = c.requires.over.1 in
    let flat = c.if-tree-eq0.false in
    let deep : 0 < t.depth = omega (arith, flat) in
    let size = deep_size t over.least (omega (arith, over.within, over.low)) deep in
    let some : 0 < t.size = omega (arith, size) in
    let few = end_few t over.hangs.room in
    let aside : Aside s u t kept (last_leaf t.size) (409 * t.depth) = record {
      cuts = c.cut_slots.ensures.cuts;
      all = g.met.B.Blocks.keeps_all first end c.cut_slots.ensures.keeps;
      deep = deep;
      ready = c.requires.ready some;
      current = c.requires.current deep;
    } in
    let x : Trims s u t kept (last_leaf t.size) = record {
      aside = aside;
      few = few;
      said = λ told. record {
        told = told;
        hangs = over.hangs;
        placed = g.met.B.Blocks.placed first s.now (g.met.B.Blocks.present first told);
        ranked = g.met.B.Blocks.ranked first s.now (g.met.B.Blocks.present first told);
        slots = g.met.B.Blocks.few first s.now (g.met.B.Blocks.present first told);
        one = g.met.B.Blocks.one_place first;
        few = few;
        super_stands = g.met.B.Blocks.super_stands first told;
        kinds = λ b p ne stands. (g.met.B.Blocks.labelled first b p told ne stands).1;
      };
      may = c.requires.may;
    } in
    trim_shows x told all

pub returns-clause-bytes : goal.returns-clause-bytes
returns-clause-bytes g c = λ told limit.
    let first = c.args.on.now in
    let end = c.cut_slots.new.on in
    let s = g.B.Blocks.state first in
    let u = g.B.Blocks.state end in
    let t = c.args.tree.now in
    let kept = c.args.kept.now in
    let over = c.requires.over.1 in
    let flat = c.if-tree-eq0.false in
    let deep : 0 < t.depth = omega (arith, flat) in
    let size = deep_size t over.least (omega (arith, over.within, over.low)) deep in
    let some : 0 < t.size = omega (arith, size) in
    let few = end_few t over.hangs.room in
    let aside : Aside s u t kept (last_leaf t.size) (409 * t.depth) = record {
      cuts = c.cut_slots.ensures.cuts;
      all = g.met.B.Blocks.keeps_all first end c.cut_slots.ensures.keeps;
      deep = deep;
      ready = c.requires.ready some;
      current = c.requires.current deep;
    } in
    let x : Trims s u t kept (last_leaf t.size) = record {
      aside = aside;
      few = few;
      said = λ told. record {
        told = told;
        hangs = over.hangs;
        placed = g.met.B.Blocks.placed first s.now (g.met.B.Blocks.present first told);
        ranked = g.met.B.Blocks.ranked first s.now (g.met.B.Blocks.present first told);
        slots = g.met.B.Blocks.few first s.now (g.met.B.Blocks.present first told);
        one = g.met.B.Blocks.one_place first;
        few = few;
        super_stands = g.met.B.Blocks.super_stands first told;
        kinds = λ b p ne stands. (g.met.B.Blocks.labelled first b p told ne stands).1;
      };
      may = c.requires.may;
    } in
    let leaves = trim_leaves x told in
    bytes_same {s = s} {u = u} {t = t} {new = t} {kept = kept} (record {
      told = told;
      now = aside.all.still_tells.1 told;
      held = over.held;
      held_now = (trim_over x (λ told w apart r. g.met.B.Blocks.apart_hangs first s.now 1 w apart (g.met.B.Blocks.present first told) (g.met.B.Blocks.active first).0 r) over).held;
      same_held = aside.all.same_held;
      dir = refl;
      within = omega arith;
      room = over.hangs.room;
      room_now = over.hangs.room;
      each = λ i lt. leaves.each i (omega (arith, lt));
      content = λ i b lt e. (leaves.content i b (omega (arith, lt)) e).bytes;
    }) refl

pub returns-clause-grows : goal.returns-clause-grows
returns-clause-grows g c = λ limit.
    let first = c.args.on.now in
    let end = c.cut_slots.new.on in
    let s = g.B.Blocks.state first in
    let u = g.B.Blocks.state end in
    let t = c.args.tree.now in
    let kept = c.args.kept.now in
    let over = c.requires.over.1 in
    let flat = c.if-tree-eq0.false in
    let deep : 0 < t.depth = omega (arith, flat) in
    let size = deep_size t over.least (omega (arith, over.within, over.low)) deep in
    let some : 0 < t.size = omega (arith, size) in
    let few = end_few t over.hangs.room in
    let aside : Aside s u t kept (last_leaf t.size) (409 * t.depth) = record {
      cuts = c.cut_slots.ensures.cuts;
      all = g.met.B.Blocks.keeps_all first end c.cut_slots.ensures.keeps;
      deep = deep;
      ready = c.requires.ready some;
      current = c.requires.current deep;
    } in
    let x : Trims s u t kept (last_leaf t.size) = record {
      aside = aside;
      few = few;
      said = λ told. record {
        told = told;
        hangs = over.hangs;
        placed = g.met.B.Blocks.placed first s.now (g.met.B.Blocks.present first told);
        ranked = g.met.B.Blocks.ranked first s.now (g.met.B.Blocks.present first told);
        slots = g.met.B.Blocks.few first s.now (g.met.B.Blocks.present first told);
        one = g.met.B.Blocks.one_place first;
        few = few;
        super_stands = g.met.B.Blocks.super_stands first told;
        kinds = λ b p ne stands. (g.met.B.Blocks.labelled first b p told ne stands).1;
      };
      may = c.requires.may;
    } in
    record {
      owns = λ told b. (
        λ has. inl (trim_back x b has),
        λ made. absurd (made.0 (ap (λ (l : Label). l.state) (sym (aside.cuts.labels b)) ∙ made.1)),
      );
      still = λ o n was. trim_still x was;
    }

pub returns-clause-comes : goal.returns-clause-comes
returns-clause-comes g c = λ told.
    let first = c.args.on.now in
    let end = c.cut_slots.new.on in
    let s = g.B.Blocks.state first in
    let u = g.B.Blocks.state end in
    let t = c.args.tree.now in
    let kept = c.args.kept.now in
    let over = c.requires.over.1 in
    let flat = c.if-tree-eq0.false in
    let deep : 0 < t.depth = omega (arith, flat) in
    let size = deep_size t over.least (omega (arith, over.within, over.low)) deep in
    let some : 0 < t.size = omega (arith, size) in
    let few = end_few t over.hangs.room in
    let aside : Aside s u t kept (last_leaf t.size) (409 * t.depth) = record {
      cuts = c.cut_slots.ensures.cuts;
      all = g.met.B.Blocks.keeps_all first end c.cut_slots.ensures.keeps;
      deep = deep;
      ready = c.requires.ready some;
      current = c.requires.current deep;
    } in
    let x : Trims s u t kept (last_leaf t.size) = record {
      aside = aside;
      few = few;
      said = λ told. record {
        told = told;
        hangs = over.hangs;
        placed = g.met.B.Blocks.placed first s.now (g.met.B.Blocks.present first told);
        ranked = g.met.B.Blocks.ranked first s.now (g.met.B.Blocks.present first told);
        slots = g.met.B.Blocks.few first s.now (g.met.B.Blocks.present first told);
        one = g.met.B.Blocks.one_place first;
        few = few;
        super_stands = g.met.B.Blocks.super_stands first told;
        kinds = λ b p ne stands. (g.met.B.Blocks.labelled first b p told ne stands).1;
      };
      may = c.requires.may;
    } in
    trim_comes x (λ told w apart r. g.met.B.Blocks.apart_hangs first s.now 1 w apart (g.met.B.Blocks.present first told) (g.met.B.Blocks.active first).0 r) told

pub returns-clause-gone : goal.returns-clause-gone
returns-clause-gone g c = λ told.
    let first = c.args.on.now in
    let end = c.cut_slots.new.on in
    let s = g.B.Blocks.state first in
    let u = g.B.Blocks.state end in
    let t = c.args.tree.now in
    let kept = c.args.kept.now in
    let over = c.requires.over.1 in
    let flat = c.if-tree-eq0.false in
    let deep : 0 < t.depth = omega (arith, flat) in
    let size = deep_size t over.least (omega (arith, over.within, over.low)) deep in
    let some : 0 < t.size = omega (arith, size) in
    let few = end_few t over.hangs.room in
    let aside : Aside s u t kept (last_leaf t.size) (409 * t.depth) = record {
      cuts = c.cut_slots.ensures.cuts;
      all = g.met.B.Blocks.keeps_all first end c.cut_slots.ensures.keeps;
      deep = deep;
      ready = c.requires.ready some;
      current = c.requires.current deep;
    } in
    let x : Trims s u t kept (last_leaf t.size) = record {
      aside = aside;
      few = few;
      said = λ told. record {
        told = told;
        hangs = over.hangs;
        placed = g.met.B.Blocks.placed first s.now (g.met.B.Blocks.present first told);
        ranked = g.met.B.Blocks.ranked first s.now (g.met.B.Blocks.present first told);
        slots = g.met.B.Blocks.few first s.now (g.met.B.Blocks.present first told);
        one = g.met.B.Blocks.one_place first;
        few = few;
        super_stands = g.met.B.Blocks.super_stands first told;
        kinds = λ b p ne stands. (g.met.B.Blocks.labelled first b p told ne stands).1;
      };
      may = c.requires.may;
    } in
    past_gone x told (one_path (g.met.B.Blocks.placed first s.now (g.met.B.Blocks.present first told)) (g.met.B.Blocks.few first s.now (g.met.B.Blocks.present first told)) (g.met.B.Blocks.super_stands first told) (g.met.B.Blocks.one_spot first) (g.met.B.Blocks.present first told) (g.met.B.Blocks.active first).0)

pub returns-then-tree-eq0-clause-gone : goal.returns-then-tree-eq0-clause-gone
returns-then-tree-eq0-clause-gone g c = λ told b p.
    let flat = c.if-tree-eq0.true in
    let within = p.within in
    let none : p.down ≡ 0 = omega (arith, flat, within) in
    let one : 409 ^ p.down ≡ 1 = ap (λ n. 409 ^ n) none in
    let few = p.few in
    let behind = p.behind in
    absurd (omega (arith, few, one, behind))

pub returns-clause-dirties : goal.returns-clause-dirties
returns-clause-dirties g c = λ first blocks before has.
    let flat = c.if-tree-eq0.false in
    let deep : 0 < c.args.tree.now.depth = omega (arith, flat) in
    let cuts = c.cut_slots.ensures.cuts in
    dirties_cuts (g.met.B.Blocks.keeps_all c.args.on.now c.cut_slots.new.on c.cut_slots.ensures.keeps) before cuts (λ x j cut. has x (cut_on_end deep cut))

pub returns-then-tree-eq0-clause-dirties : goal.returns-then-tree-eq0-clause-dirties
returns-then-tree-eq0-clause-dirties g c = λ first blocks before has. before

pub returns-then-tree-eq0-clause-shown : goal.returns-then-tree-eq0-clause-shown
returns-then-tree-eq0-clause-shown g c = nothing_shows (record { each = λ image is. is })

pub returns-clause-shown : goal.returns-clause-shown
returns-clause-shown g c = cut_shows c.cut_slots.ensures.cuts
