use Rattle.std.proofs.Common.{◌*◌, ◌<◌, refl, arith}
use Rattle.fo_tree_down.specs.Clear.{last_leaf}
use Rattle.fo_tree_down.specs.Way.{with_top}
use Rattle.fo_tree_trim.proofs.Above.{Above, way_piece, piece_way, own_leaves, past_on, deep_size}
use Rattle.fo_tree_trim.proofs.Ending.{end_few}
use Rattle.fo_tree_trim.proofs.Fronts.{bytes_same}
use Rattle.fo_tree_trim.proofs.own.own_end.Goals as goal

pub returns-clause-ready : goal.returns-clause-ready
returns-clause-ready g c =
    let s = g.B.Blocks.state c.args.on.now in
    let m = g.B.Blocks.state c.own_way.new.on in
    let t = c.args.tree.now in
    let kept = c.args.kept.now in
    let top = c.own_way.result.top in
    let limit = c.requires.over.0 in
    let over = c.requires.over.1 in
    let size = deep_size t over.least (omega (arith, over.within, over.low)) c.requires.deep in
    let inside : 8192 * last_leaf t.size < t.size = omega (arith, size) in
    piece_way {s = m} {t = with_top t top} {kept = kept} {limit = limit} (last_leaf t.size) inside
    (c.own_way.ensures.still limit (8192 * last_leaf t.size) 1 (way_piece {s = s} {t = t} {kept = kept} {limit = limit} (last_leaf t.size) inside over.within c.requires.ready))

pub returns-clause-over : goal.returns-clause-over
returns-clause-over g c =
    let size = deep_size c.args.tree.now c.requires.over.1.least (omega (arith, c.requires.over.1.within, c.requires.over.1.low)) c.requires.deep in
    c.own_way.ensures.over (omega (arith, size))

pub returns-clause-leaves : goal.returns-clause-leaves
returns-clause-leaves g c = λ told.
    let first = c.args.on.now in
    let s = g.B.Blocks.state first in
    let m = g.B.Blocks.state c.own_way.new.on in
    let t = c.args.tree.now in
    let w = c.own_way.ensures in
    let over = c.requires.over.1 in
    let above : Above s m t (last_leaf t.size) c.own_way.result.top = record {
      descends = w.comes.descends;
      deep = c.requires.deep;
      few = end_few t over.hangs.room;
      beside = w.beside told;
      said = record {
        told = told;
        hangs = over.hangs;
        placed = g.met.B.Blocks.placed first s.now (g.met.B.Blocks.present first told);
        ranked = g.met.B.Blocks.ranked first s.now (g.met.B.Blocks.present first told);
        slots = g.met.B.Blocks.few first s.now (g.met.B.Blocks.present first told);
        one = g.met.B.Blocks.one_place first;
        few = end_few t over.hangs.room;
        super_stands = g.met.B.Blocks.super_stands first told;
        kinds = λ b p ne stands. (g.met.B.Blocks.labelled first b p told ne stands).1;
      };
      told = over.told told;
    } in
    own_leaves above

pub returns-clause-bytes : goal.returns-clause-bytes
returns-clause-bytes g c = λ told limit.
    let first = c.args.on.now in
    let s = g.B.Blocks.state first in
    let end = c.own_way.new.on in
    let m = g.B.Blocks.state end in
    let t = c.args.tree.now in
    let kept = c.args.kept.now in
    let w = c.own_way.ensures in
    let over = c.requires.over.1 in
    let size = deep_size t over.least (omega (arith, over.within, over.low)) c.requires.deep in
    let all = g.met.B.Blocks.keeps_all first end w.keeps in
    let leaves = returns-clause-leaves g c told in
    bytes_same {s = s} {u = m} {t = t} {new = with_top t c.own_way.result.top} {kept = kept} (record {
      told = told;
      now = all.still_tells.1 told;
      held = over.held;
      held_now = (w.over (omega (arith, size)) c.requires.over.0 over).held;
      same_held = all.same_held;
      dir = refl;
      within = omega arith;
      room = over.hangs.room;
      room_now = over.hangs.room;
      each = λ i lt. leaves.each i (omega (arith, lt));
      content = λ i b lt e. (leaves.content i b (omega (arith, lt)) e).bytes;
    }) refl

pub returns-clause-grows : goal.returns-clause-grows
returns-clause-grows g c = λ limit. record { owns = c.own_way.ensures.owns; still = λ o n was. c.own_way.ensures.still limit o n was }

pub returns-clause-behind : goal.returns-clause-behind
returns-clause-behind g c = λ told.
    let first = c.args.on.now in
    let s = g.B.Blocks.state first in
    let m = g.B.Blocks.state c.own_way.new.on in
    let t = c.args.tree.now in
    let w = c.own_way.ensures in
    let over = c.requires.over.1 in
    let above : Above s m t (last_leaf t.size) c.own_way.result.top = record {
      descends = w.comes.descends;
      deep = c.requires.deep;
      few = end_few t over.hangs.room;
      beside = w.beside told;
      said = record {
        told = told;
        hangs = over.hangs;
        placed = g.met.B.Blocks.placed first s.now (g.met.B.Blocks.present first told);
        ranked = g.met.B.Blocks.ranked first s.now (g.met.B.Blocks.present first told);
        slots = g.met.B.Blocks.few first s.now (g.met.B.Blocks.present first told);
        one = g.met.B.Blocks.one_place first;
        few = end_few t over.hangs.room;
        super_stands = g.met.B.Blocks.super_stands first told;
        kinds = λ b p ne stands. (g.met.B.Blocks.labelled first b p told ne stands).1;
      };
      told = over.told told;
    } in
    past_on above

pub returns-clause-dirties : goal.returns-clause-dirties
returns-clause-dirties g c =
    let q = c.own_way.ensures.dirties in
    let few = q.few in
    let deep = c.requires.deep in
    record { blocks = q.blocks; few = omega (arith, few, deep); within = q.within; each = λ b on. q.each b on.1 }

pub returns-clause-beside : goal.returns-clause-beside
returns-clause-beside g c = c.own_way.ensures.beside

pub returns-clause-owns : goal.returns-clause-owns
returns-clause-owns g c = λ told b. (c.own_way.ensures.owns told b).0

pub returns-clause-stays : goal.returns-clause-stays
returns-clause-stays g c = c.own_way.ensures.stays
