use Rattle.std.proofs.Common.{◌≡◌, ◌+◌, ◌-◌, ◌*◌, ◌/◌, ◌%◌, ◌<◌, length, take, drop, refl, sym, ap, ◌∙◌, subst, arith, ⊎_elim}
use Rattle.std.proofs.lemmas.Bool.{cases_eq}
use Rattle.std.proofs.lemmas.List.{take_all}
use Rattle.fo_ports.specs.of_crash.Places.{super_place, root_place}
use Rattle.fo_ports.specs.Sources.{Dirties}
use Rattle.fo_ports.specs.State.{none}
use Rattle.fo_tree_clear.specs.of_tree_look.Source.{WayReady}
use Rattle.fo_tree_clear.specs.of_tree_down.Way.{with_top}
use Rattle.fo_tree_clear.specs.Put.{byte_here, Puts}
use Rattle.fo_tree_clear.proofs.Stepping.{steps_changes}
use Rattle.fo_tree_clear.proofs.of_tree_own.Showing.{nothing_shows, shows_joins}
use Rattle.fo_tree_write.specs.Write.{at_top, Counted, Spent}
use Rattle.fo_tree_write.proofs.Wider.{changes_wider, ways_own}
use Rattle.fo_tree_write.proofs.Counting.{counted_none, counted_more, counted_most}
use Rattle.fo_tree_write.proofs.Writing.{most_is, enough_left, spent_end, way_still, bytes_written, wrote_more, wrote_none}
use Rattle.fo_tree_write.proofs.write.put_within.Goals as goal

pub put_leaf-current-requires-clause-over : goal.put_leaf-current-requires-clause-over
put_leaf-current-requires-clause-over g c = (c.requires.over.0, c.loop-done.invariant.wrote.over c.requires.over.0 c.requires.over.1)

pub put_leaf-current-requires-clause-inside : goal.put_leaf-current-requires-clause-inside
put_leaf-current-requires-clause-inside g c = let within = c.requires.within in let lt : c.loop-done.done < length c.args.piece.now = omega arith in omega (arith, within, lt)

pub put_leaf-current-requires-clause-ready : goal.put_leaf-current-requires-clause-ready
put_leaf-current-requires-clause-ready g c =
    let s = g.B.Blocks.state c.args.on.now in
    let u = g.B.Blocks.state c.loop-done.on in
    let t = c.args.tree.now in
    let kept = c.args.kept.now in
    let place = c.args.offset + c.loop-done.done in
    let within = c.requires.within in
    let lt : c.loop-done.done < length c.args.piece.now = omega arith in
    let ready : WayReady s t kept t.depth (place / 8192) = c.requires.over.2.each place (omega arith) (omega (arith, lt)) (omega (arith, within, lt)) in
    way_still s u t (at_top t c.loop-done.top) kept (place / 8192) refl refl (omega (arith, within, lt)) c.loop-done.invariant.wrote.still ready

pub put_leaf-current-requires-clause-spare : goal.put_leaf-current-requires-clause-spare
put_leaf-current-requires-clause-spare g c =
    let t = c.args.tree.now in
    let len = length c.args.piece.now in
    let lt : c.loop-done.done < length c.args.piece.now = omega arith in
    let few = c.requires.spare in
    let same = most_is t.depth t.size len c.requires.over.1.least in
    enough_left (g.B.Blocks.state c.loop-done.on) (at_top t c.loop-done.top) (g.B.Blocks.state c.args.on.now).spare c.args.offset c.loop-done.done len ((c.args.offset + c.loop-done.done) / 8192) c.requires.over.1.hangs.few lt (omega (arith, few, same)) c.loop-done.invariant.wrote.spent

pub loop-done-preserved : goal.loop-done-preserved
loop-done-preserved g c =
    let on = c.args.on.now in
    let mid = c.loop-done.on in
    let new = c.put_leaf-current.new.on in
    let s = g.B.Blocks.state on in
    let u = g.B.Blocks.state mid in
    let v = g.B.Blocks.state new in
    let t = c.args.tree.now in
    let kept = c.args.kept.now in
    let i = c.loop-done.invariant in
    let e = c.put_leaf-current.ensures in
    let done = c.loop-done.done in
    let n = c.min-count.result in
    let place = c.args.offset + done in
    let within = c.requires.within in
    let lt : c.loop-done.done < length c.args.piece.now = omega arith in
    let few = c.min-count.ensures in
    let over = c.requires.over.1 in
    let keeps = g.met.B.Blocks.keeps_joins on mid new i.keeps e.keeps in
    let len : done + n - done ≡ n = omega arith in
    record {
      within = omega (arith, few, lt);
      wrote = wrote_more {s = s} {u = u} {v = v} {t = t} {top = c.loop-done.top} {next = c.put_leaf-current.result.top} {kept = kept} {offset = c.args.offset} {done = done} {n = n} {piece = c.args.piece.now} (record {
        wrote = i.wrote;
        some = omega (arith, few, lt);
        part = omega (arith, few);
        within = omega (arith, few, lt);
        inside = omega (arith, within, lt);
        ready = c.requires.over.2.each place (omega arith) (omega (arith, lt)) (omega (arith, within, lt));
        all = g.met.B.Blocks.keeps_all on new keeps;
        few = over.hangs.few;
        room = over.hangs.room;
        told_old = over.told;
        told_mid = (i.wrote.over c.requires.over.0 over).told;
        placed = λ image is. g.met.B.Blocks.placed on image is;
        ranked = λ image is. g.met.B.Blocks.ranked on image is;
        top_stands = λ image is up is_top. ⊎_elim
            (λ first. (super_place, subst (λ y. s.stands y super_place) (sym first) (g.met.B.Blocks.super_stands on (g.met.B.Blocks.told on image is))))
            (λ ne. (root_place, g.met.B.Blocks.top_stands on up (g.met.B.Blocks.told on image is) is_top ne))
            (cases_eq up 1);
        told = λ image is. g.met.B.Blocks.told on image is;
        standing = g.met.B.Blocks.standing on;
        top_of = e.top;
        over = e.over;
        bytes = λ told. subst (λ m. Puts (byte_here u (at_top t c.loop-done.top) kept) (byte_here v (with_top t c.put_leaf-current.result.top) kept) (8192 * (place / 8192) + place % 8192) (take m (drop done c.args.piece.now))) len (e.bytes told);
        still = λ limit o m was. (e.grows limit).still o m was;
        owns = (e.grows c.requires.over.0).owns;
        stays = e.stays;
        ways = e.ways;
        clear = λ which was. e.clear which was;
        steps = e.steps;
        most = e.spare;
        used = e.used;
        way = e.way;
      });
      counted = counted_more {s = s} {u = u} {v = v} t {top = c.loop-done.top} {next = c.put_leaf-current.result.top} {offset = c.args.offset} {done = done} {n = n} (omega (arith, few, lt)) (omega (arith, few)) e.way e.dirties e.dirties_used i.counted;
      shown = shows_joins i.shown e.shown;
      keeps = keeps;
    }

pub loop-done-init : goal.loop-done-init
loop-done-init g c =
    let on = c.args.on.now in
    record {
      within = omega arith;
      wrote = wrote_none (g.B.Blocks.state on) c.args.tree.now c.args.kept.now c.args.offset c.args.piece.now (g.met.B.Blocks.keeps_all on on (g.met.B.Blocks.keeps_at_once on));
      counted = counted_none (g.B.Blocks.state on) c.args.tree.now c.args.offset;
      shown = nothing_shows (record { each = λ image is. is });
      keeps = g.met.B.Blocks.keeps_at_once on;
    }

pub returns-clause-bytes : goal.returns-clause-bytes
returns-clause-bytes g c = λ told limit.
    let s = g.B.Blocks.state c.args.on.now in
    let u = g.B.Blocks.state c.loop-done.on in
    let t = c.args.tree.now in
    let kept = c.args.kept.now in
    let piece = c.args.piece.now in
    let within = c.loop-done.invariant.within in
    let whole : c.loop-done.done ≡ length c.args.piece.now = omega arith in
    let put : Puts (byte_here s t kept) (byte_here u (at_top t c.loop-done.top) kept) c.args.offset (take c.loop-done.done piece) = c.loop-done.invariant.wrote.bytes told in
    bytes_written s u t (at_top t c.loop-done.top) kept c.args.offset piece refl c.requires.within
    (subst (λ xs. Puts (byte_here s t kept) (byte_here u (at_top t c.loop-done.top) kept) c.args.offset xs) (ap (λ n. take n piece) whole ∙ take_all (length piece) piece (omega arith)) put)

pub returns-clause-grows : goal.returns-clause-grows
returns-clause-grows g c = λ limit. record { owns = c.loop-done.invariant.wrote.owns; still = λ o n was. c.loop-done.invariant.wrote.still limit o n was }

pub returns-clause-changes : goal.returns-clause-changes
returns-clause-changes g c =
    let s = g.B.Blocks.state c.args.on.now in
    changes_wider (λ b is. ways_own s c.args.tree.now c.args.offset (length c.args.piece.now) b is) (steps_changes c.loop-done.invariant.wrote.steps)

pub returns-clause-only_ways : goal.returns-clause-only_ways
returns-clause-only_ways g c = steps_changes c.loop-done.invariant.wrote.steps

pub returns-clause-spare : goal.returns-clause-spare
returns-clause-spare g c =
    let t = c.args.tree.now in
    let u = g.B.Blocks.state c.loop-done.on in
    let len = length c.args.piece.now in
    let whole : c.loop-done.done ≡ length c.args.piece.now = omega arith in
    let spent = subst (λ n. Spent u (at_top t c.loop-done.top) (g.B.Blocks.state c.args.on.now).spare c.args.offset n) whole c.loop-done.invariant.wrote.spent in
    let end = spent_end u (at_top t c.loop-done.top) (g.B.Blocks.state c.args.on.now).spare c.args.offset len c.requires.over.1.hangs.few spent in
    let same = most_is t.depth t.size len c.requires.over.1.least in
    omega (arith, end, same)

pub returns-clause-dirties : goal.returns-clause-dirties
returns-clause-dirties g c =
    let s = g.B.Blocks.state c.args.on.now in
    let t = c.args.tree.now in
    let u = g.B.Blocks.state c.loop-done.on in
    let len = length c.args.piece.now in
    let within = c.loop-done.invariant.within in
    let whole : c.loop-done.done ≡ length c.args.piece.now = omega arith in
    let counted = subst (λ n. Counted s u (at_top t c.loop-done.top) c.args.offset n) whole c.loop-done.invariant.counted in
    subst (λ n. Dirties (2 * n) none s u) (most_is t.depth t.size len c.requires.over.1.least) (counted_most c.requires.over.1.hangs.few counted)

pub returns-clause-shown : goal.returns-clause-shown
returns-clause-shown g c = c.loop-done.invariant.shown
