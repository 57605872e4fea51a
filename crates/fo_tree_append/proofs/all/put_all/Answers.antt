use Rattle.std.proofs.Common.{◌≡◌, ◌+◌, ◌-◌, ◌*◌, ◌/◌, ◌%◌, ◌<◌, length, take, drop, refl, sym, subst, arith, ⊎_elim}
use Rattle.std.proofs.lemmas.Bool.{cases_eq}
use Rattle.fo_crash.specs.Places.{super_place, root_place}
use Rattle.fo_tree_look.specs.Source.{WayReady}
use Rattle.fo_tree_clear.specs.of_tree_down.Way.{with_top}
use Rattle.fo_tree_clear.specs.Put.{byte_here, Puts}
use Rattle.fo_tree_write.specs.Write.{at_top, Counted}
use Rattle.fo_tree_write.proofs.Counting.{counted_none, counted_more, counted_end}
use Rattle.fo_tree_write.proofs.Writing.{way_still, wrote_more, wrote_none}
use Rattle.fo_tree_clear.proofs.Stepping.{steps_none}
use Rattle.fo_tree_clear.proofs.of_tree_own.Showing.{nothing_shows, shows_joins}
use Rattle.fo_tree_append.specs.Append.{OnLeaves}
use Rattle.fo_tree_append.proofs.Leaves.{LeafThen, leaf_steps, leaf_stays}
use Rattle.fo_tree_append.proofs.Spending.{enough_but, spends_more, spends_none}
use Rattle.fo_tree_append.proofs.all.put_all.Goals as goal

pub put_leaf-current-requires-clause-over : goal.put_leaf-current-requires-clause-over
put_leaf-current-requires-clause-over g c = (c.requires.over.0, c.loop-done.invariant.wrote.over c.requires.over.0 c.requires.over.1)

pub put_leaf-current-requires-clause-inside : goal.put_leaf-current-requires-clause-inside
put_leaf-current-requires-clause-inside g c = let within = c.requires.within in let lt : c.loop-done.done < length c.args.piece.now = omega arith in omega (arith, within, lt)

pub put_leaf-current-requires-clause-ready : goal.put_leaf-current-requires-clause-ready
put_leaf-current-requires-clause-ready g c =
    let s = g.B.Blocks.state c.args.on.now in
    let u = g.B.Blocks.state c.loop-done.on in
    let t = c.args.tree.now in
    let kept = c.args.kept.now in
    let place = c.args.offset + c.loop-done.done in
    let within = c.requires.within in
    let lt : c.loop-done.done < length c.args.piece.now = omega arith in
    let ready : WayReady s t kept t.depth (place / 8192) = c.requires.over.2.each place (omega arith) (omega (arith, lt)) (omega (arith, within, lt)) in
    way_still s u t (at_top t c.loop-done.top) kept (place / 8192) refl refl (omega (arith, within, lt)) c.loop-done.invariant.wrote.still ready

pub put_leaf-current-requires-clause-spare : goal.put_leaf-current-requires-clause-spare
put_leaf-current-requires-clause-spare g c =
    let t = c.args.tree.now in
    let need = c.requires.spare in
    let lt : c.loop-done.done < length c.args.piece.now = omega arith in
    enough_but need.0 (g.B.Blocks.state c.loop-done.on) (at_top t c.loop-done.top) (g.B.Blocks.state c.args.on.now).spare c.args.offset c.loop-done.done (length c.args.piece.now) lt need.2 (c.loop-done.invariant.spends need.0 need.1)

pub loop-done-preserved : goal.loop-done-preserved
loop-done-preserved g c =
    let on = c.args.on.now in
    let mid = c.loop-done.on in
    let new = c.put_leaf-current.new.on in
    let s = g.B.Blocks.state on in
    let u = g.B.Blocks.state mid in
    let v = g.B.Blocks.state new in
    let t = c.args.tree.now in
    let kept = c.args.kept.now in
    let i = c.loop-done.invariant in
    let e = c.put_leaf-current.ensures in
    let done = c.loop-done.done in
    let n = c.min-count.result in
    let place = c.args.offset + done in
    let within = c.requires.within in
    let lt : c.loop-done.done < length c.args.piece.now = omega arith in
    let few = c.min-count.ensures in
    let over = c.requires.over.1 in
    let keeps = g.met.B.Blocks.keeps_joins on mid new i.keeps e.keeps in
    let len : done + n - done ≡ n = omega arith in
    let then : LeafThen s u v t c.loop-done.top (c.args.offset / 8192) ((c.args.offset + length c.args.piece.now - 1) / 8192) (place / 8192) = record {
      before = i.steps;
      step = e.steps;
      all = g.met.B.Blocks.keeps_all on new keeps;
      from = omega arith;
      to = omega (arith, lt);
      ways = λ b on_way. i.wrote.ways (place / 8192) b (omega (arith, within, lt)) (c.requires.over.2.each place (omega arith) (omega (arith, lt)) (omega (arith, within, lt))) on_way;
      told_old = over.told;
      told_mid = (i.wrote.over c.requires.over.0 over).told;
      placed = λ image is. g.met.B.Blocks.placed on image is;
      ranked = λ image is. g.met.B.Blocks.ranked on image is;
      top_stands = λ image is up is_top. ⊎_elim
          (λ first. (super_place, subst (λ y. s.stands y super_place) (sym first) (g.met.B.Blocks.super_stands on (g.met.B.Blocks.told on image is))))
          (λ ne. (root_place, g.met.B.Blocks.top_stands on up (g.met.B.Blocks.told on image is) is_top ne))
          (cases_eq up 1);
      told = λ image is. g.met.B.Blocks.told on image is;
      standing = g.met.B.Blocks.standing on;
    } in
    record {
      steps = leaf_steps then;
      stays = leaf_stays then (with_top t c.put_leaf-current.result.top) i.stays e.stays;
      spends = λ count but. spends_more count u v (at_top t c.loop-done.top) (with_top t c.put_leaf-current.result.top) s.spare c.args.offset done n refl (omega (arith, few, lt)) (omega (arith, few)) e.few e.used e.way (i.spends count but);
      within = omega (arith, few, lt);
      wrote = wrote_more {s = s} {u = u} {v = v} {t = t} {top = c.loop-done.top} {next = c.put_leaf-current.result.top} {kept = kept} {offset = c.args.offset} {done = done} {n = n} {piece = c.args.piece.now} (record {
        wrote = i.wrote;
        some = omega (arith, few, lt);
        part = omega (arith, few);
        within = omega (arith, few, lt);
        inside = omega (arith, within, lt);
        ready = c.requires.over.2.each place (omega arith) (omega (arith, lt)) (omega (arith, within, lt));
        all = g.met.B.Blocks.keeps_all on new keeps;
        few = over.hangs.few;
        room = over.hangs.room;
        told_old = over.told;
        told_mid = (i.wrote.over c.requires.over.0 over).told;
        placed = λ image is. g.met.B.Blocks.placed on image is;
        ranked = λ image is. g.met.B.Blocks.ranked on image is;
        top_stands = λ image is up is_top. ⊎_elim
            (λ first. (super_place, subst (λ y. s.stands y super_place) (sym first) (g.met.B.Blocks.super_stands on (g.met.B.Blocks.told on image is))))
            (λ ne. (root_place, g.met.B.Blocks.top_stands on up (g.met.B.Blocks.told on image is) is_top ne))
            (cases_eq up 1);
        told = λ image is. g.met.B.Blocks.told on image is;
        standing = g.met.B.Blocks.standing on;
        top_of = e.top;
        over = e.over;
        bytes = λ told. subst (λ m. Puts (byte_here u (at_top t c.loop-done.top) kept) (byte_here v (with_top t c.put_leaf-current.result.top) kept) (8192 * (place / 8192) + place % 8192) (take m (drop done c.args.piece.now))) len (e.bytes told);
        still = λ limit o m was. (e.grows limit).still o m was;
        owns = (e.grows c.requires.over.0).owns;
        stays = e.stays;
        ways = e.ways;
        clear = λ which was. e.clear which was;
        steps = e.steps;
        most = e.spare;
        used = e.used;
        way = e.way;
      });
      counted = counted_more {s = s} {u = u} {v = v} t {top = c.loop-done.top} {next = c.put_leaf-current.result.top} {offset = c.args.offset} {done = done} {n = n} (omega (arith, few, lt)) (omega (arith, few)) e.way e.dirties e.dirties_used i.counted;
      shown = shows_joins i.shown e.shown;
      keeps = keeps;
    }

pub loop-done-init : goal.loop-done-init
loop-done-init g c =
    let on = c.args.on.now in
    let s = g.B.Blocks.state on in
    let t = c.args.tree.now in
    record {
      steps = steps_none t.tag (λ b. OnLeaves s t (c.args.offset / 8192) ((c.args.offset + length c.args.piece.now - 1) / 8192) b) (λ b. OnLeaves s t (c.args.offset / 8192) ((c.args.offset + length c.args.piece.now - 1) / 8192) b) s (g.met.B.Blocks.keeps_all on on (g.met.B.Blocks.keeps_at_once on));
      stays = λ told b has now. has;
      spends = λ count but. spends_none count s t c.args.offset but;
      within = omega arith;
      wrote = wrote_none (g.B.Blocks.state on) c.args.tree.now c.args.kept.now c.args.offset c.args.piece.now (g.met.B.Blocks.keeps_all on on (g.met.B.Blocks.keeps_at_once on));
      counted = counted_none s t c.args.offset;
      shown = nothing_shows (record { each = λ image is. is });
      keeps = g.met.B.Blocks.keeps_at_once on;
    }

pub returns-clause-dirties : goal.returns-clause-dirties
returns-clause-dirties g c =
    let s = g.B.Blocks.state c.args.on.now in
    let u = g.B.Blocks.state c.loop-done.on in
    let within = c.loop-done.invariant.within in
    let whole : c.loop-done.done ≡ length c.args.piece.now = omega arith in
    counted_end (subst (λ n. Counted s u (at_top c.args.tree.now c.loop-done.top) c.args.offset n) whole c.loop-done.invariant.counted)

pub returns-clause-shown : goal.returns-clause-shown
returns-clause-shown g c = c.loop-done.invariant.shown
