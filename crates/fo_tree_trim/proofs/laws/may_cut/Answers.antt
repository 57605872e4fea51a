use Rattle.fo_tree_down.specs.Clear.{last_leaf}
use Rattle.fo_tree_trim.proofs.Ending.{end_few}
use Rattle.fo_tree_trim.proofs.Linked.{may_cut_is}
use Rattle.fo_tree_trim.proofs.laws.may_cut.Goals as goal

pub returns : goal.returns
returns g c = λ told.
    let on = c.args.on.now in
    let s = g.B.Blocks.state on in
    let t = c.args.tree.now in
    let over = c.requires.over.1 in
    may_cut_is {s = s} {t = t} {last = last_leaf t.size} (record {
      said = record {
        told = told;
        hangs = over.hangs;
        placed = g.met.B.Blocks.placed on s.now (g.met.B.Blocks.present on told);
        ranked = g.met.B.Blocks.ranked on s.now (g.met.B.Blocks.present on told);
        slots = g.met.B.Blocks.few on s.now (g.met.B.Blocks.present on told);
        one = g.met.B.Blocks.one_place on;
        few = end_few t over.hangs.room;
        super_stands = g.met.B.Blocks.super_stands on told;
        kinds = λ b p ne stands. (g.met.B.Blocks.labelled on b p told ne stands).1;
      };
      linked = c.requires.linked told;
      told = over.told told;
      aside = λ y b is r. g.met.B.Blocks.apart_hangs on s.now 1 y (g.met.B.Blocks.instead_of on y b b told is).0 (g.met.B.Blocks.present on told) (g.met.B.Blocks.active on).0 r;
      clears = λ b j h. (g.met.B.Blocks.clears_entries on b j h).0;
      alone = c.requires.alone told;
      settled = c.requires.settled told;
    })
