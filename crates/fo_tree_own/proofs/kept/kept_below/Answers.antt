use Rattle.std.proofs.Common.{◌≢◌, ◌+◌, ◌-◌, ◌/◌, ◌%◌, ◌^◌, ◌<◌, inl, inr, refl, sym, ap, ◌∙◌, subst, arith}
use Rattle.fo_image.specs.declared.types.State.TheVariants.{Live}
use Rattle.fo_crash.specs.declared.place.Place.{Place}
use Rattle.fo_crash.specs.Images.{target}
use Rattle.fo_crash.specs.Places.{place}
use Rattle.fo_tree_look.specs.of_ports.State.{Gives}
use Rattle.fo_crash.proofs.Reach.{lost}
use Rattle.fo_tree_look.specs.of_ports.Blocks.{blank, IsLevel}
use Rattle.fo_tree_look.proofs.of_looks.Looks.{rooted_of_apart}
use Rattle.fo_tree_look.specs.of_tree_read.Tree.{kind_at}
use Rattle.fo_tree_own.proofs.Link.{came, came_filled, blank_leads, same, at_current, unwaited, may_spell, may_settled, may_lead, may_cost, none_dropped}
use Rattle.fo_tree_own.proofs.May.{Making, may_put, new_shown, slot_none, nil_leads, held_leads, level_of}
use Rattle.fo_tree_own.proofs.Filling.{bare_gives}
use Rattle.fo_tree_own.proofs.After.{links}
use Rattle.fo_tree_own.proofs.kept.kept_below.Goals as goal

pub new_block-made-requires-clause-level : goal.new_block-made-requires-clause-level
new_block-made-requires-clause-level g c = subst (λ q. IsLevel q) (sym c.kind_at-kind.ensures) (level_of c.args.tree.now.dir c.args.level c.requires.level)

pub fill_kept-requires-clause-bare : goal.fill_kept-requires-clause-bare
fill_kept-requires-clause-bare g c =
    let on = c.args.on.now in
    let raw = c.new_block-made.new.self in
    let s = g.B.Blocks.state on in
    let r = g.B.Blocks.state raw in
    let t = c.args.tree.now in
    let e = c.new_block-made.ensures in
    let gives = subst (λ q. Gives c.new_block-made.result (blank q) (record { state = Live; kind = q; tag = t.tag; epoch = s.high; closing = 2 ^ 32 - 1 }) s r) c.kind_at-kind.ensures e.gives in
    bare_gives (g.met.B.Blocks.keeps_all on raw e.keeps) gives refl refl (blank_leads t.dir c.args.level)

pub fill_kept-requires-clause-place : goal.fill_kept-requires-clause-place
fill_kept-requires-clause-place g c = λ told p stands.
    let on = c.args.on.now in
    let raw = c.new_block-made.new.self in
    let t = c.args.tree.now in
    let e = c.new_block-made.ensures in
    let before = (g.met.B.Blocks.keeps_all on raw e.keeps).still_tells.0 told in
    ap (λ (q : Place). q.rank) ((g.met.B.Blocks.one_place raw).each c.new_block-made.result p (place c.kind_at-kind.result t.tag 0 (t.rank + c.args.level)) stands (e.place before))

pub fill_kept-requires-clause-kind : goal.fill_kept-requires-clause-kind
fill_kept-requires-clause-kind g c = λ told p stands.
    let on = c.args.on.now in
    let raw = c.new_block-made.new.self in
    let t = c.args.tree.now in
    let e = c.new_block-made.ensures in
    let before = (g.met.B.Blocks.keeps_all on raw e.keeps).still_tells.0 told in
    ap (λ (q : Place). q.kind) ((g.met.B.Blocks.one_place raw).each c.new_block-made.result p (place c.kind_at-kind.result t.tag 0 (t.rank + c.args.level)) stands (e.place before)) ∙ c.kind_at-kind.ensures

pub put_slot-requires-clause-spelled : goal.put_slot-requires-clause-spelled
put_slot-requires-clause-spelled g c =
    let on = c.args.on.now in
    let raw = c.new_block-made.new.self in
    let mid = c.fill_kept.new.on in
    let s = g.B.Blocks.state on in
    let r = g.B.Blocks.state raw in
    let m = g.B.Blocks.state mid in
    let t = c.args.tree.now in
    let i = c.args.k % 409 in
    let few : i < 409 = omega arith in
    let e = c.new_block-made.ensures in
    let gives = subst (λ q. Gives c.new_block-made.result (blank q) (record { state = Live; kind = q; tag = t.tag; epoch = s.high; closing = 2 ^ 32 - 1 }) s r) c.kind_at-kind.ensures e.gives in
    let first = g.met.B.Blocks.keeps_all on raw e.keeps in
    let then = g.met.B.Blocks.keeps_all raw mid c.fill_kept.ensures.keeps in
    let joined = g.met.B.Blocks.keeps_joins on raw mid e.keeps c.fill_kept.ensures.keeps in
    let filled = c.fill_kept.ensures.filled in
    let x : Making t c.args.level (c.args.k / 409) c.args.above i (record { state = Live; kind = kind_at t.dir c.args.level; tag = t.tag; epoch = s.high; closing = 2 ^ 32 - 1 }) c.new_block-made.result s m = record {
      link = record {
        came = came_filled first then (came gives) filled;
        all = g.met.B.Blocks.keeps_all on mid joined;
        above = c.requires.above;
        few = few;
        laws = record { present = g.met.B.Blocks.present on; active = (g.met.B.Blocks.active on).0; not_one = (g.met.B.Blocks.active on).1; one = g.met.B.Blocks.one_place on; super_stands = g.met.B.Blocks.super_stands on; placed = λ told. g.met.B.Blocks.placed on s.now (g.met.B.Blocks.present on told); ranked = λ told. g.met.B.Blocks.ranked on s.now (g.met.B.Blocks.present on told); live = λ y told ne r. g.met.B.Blocks.live on y told ne r; clears = g.met.B.Blocks.clears_entries on; waits_within = g.met.B.Blocks.waits_within on; covers_told = g.met.B.Blocks.covers_told on; within = g.met.B.Blocks.within on; spelled = g.met.B.Blocks.spelled on; apart_hangs = λ told w is r. g.met.B.Blocks.apart_hangs on s.now 1 w is (g.met.B.Blocks.present on told) (g.met.B.Blocks.active on).0 r; small = g.met.B.Blocks.small on };
        later = record { present = g.met.B.Blocks.present mid; active = (g.met.B.Blocks.active mid).0; not_one = (g.met.B.Blocks.active mid).1; one = g.met.B.Blocks.one_place mid; super_stands = g.met.B.Blocks.super_stands mid; placed = λ told. g.met.B.Blocks.placed mid m.now (g.met.B.Blocks.present mid told); ranked = λ told. g.met.B.Blocks.ranked mid m.now (g.met.B.Blocks.present mid told); live = λ y told ne r. g.met.B.Blocks.live mid y told ne r; clears = g.met.B.Blocks.clears_entries mid; waits_within = g.met.B.Blocks.waits_within mid; covers_told = g.met.B.Blocks.covers_told mid; within = g.met.B.Blocks.within mid; spelled = g.met.B.Blocks.spelled mid; apart_hangs = λ told w is r. g.met.B.Blocks.apart_hangs mid m.now 1 w is (g.met.B.Blocks.present mid told) (g.met.B.Blocks.active mid).0 r; small = g.met.B.Blocks.small mid };
        is_live = refl;
        is_current = refl;
      };
      leads = λ b h. held_leads c.args.score.now b (sym c.requires.leads ∙ h);
      bare = c.fill_kept.ensures.bare.bare;
      low = let small = c.ranges.k.fits in omega (arith, small);
      instead = λ y h. e.instead y ((filled.instead c.new_block-made.result y).0 h);
      place = λ told. filled.places (first.still_tells.1 told) c.new_block-made.result (place (kind_at t.dir c.args.level) t.tag 0 (t.rank + c.args.level)) c.fill_kept.ensures.bare.uncovered (rooted_of_apart m c.new_block-made.result c.fill_kept.ensures.bare.is_apart) (subst (λ q. r.stands c.new_block-made.result (place q t.tag 0 (t.rank + c.args.level))) c.kind_at-kind.ensures (e.place told));
    } in
    may_spell x.link

pub put_slot-requires-clause-current : goal.put_slot-requires-clause-current
put_slot-requires-clause-current g c =
    let on = c.args.on.now in
    let raw = c.new_block-made.new.self in
    let mid = c.fill_kept.new.on in
    let s = g.B.Blocks.state on in
    let r = g.B.Blocks.state raw in
    let m = g.B.Blocks.state mid in
    let t = c.args.tree.now in
    let i = c.args.k % 409 in
    let few : i < 409 = omega arith in
    let e = c.new_block-made.ensures in
    let gives = subst (λ q. Gives c.new_block-made.result (blank q) (record { state = Live; kind = q; tag = t.tag; epoch = s.high; closing = 2 ^ 32 - 1 }) s r) c.kind_at-kind.ensures e.gives in
    let first = g.met.B.Blocks.keeps_all on raw e.keeps in
    let then = g.met.B.Blocks.keeps_all raw mid c.fill_kept.ensures.keeps in
    let joined = g.met.B.Blocks.keeps_joins on raw mid e.keeps c.fill_kept.ensures.keeps in
    let filled = c.fill_kept.ensures.filled in
    let x : Making t c.args.level (c.args.k / 409) c.args.above i (record { state = Live; kind = kind_at t.dir c.args.level; tag = t.tag; epoch = s.high; closing = 2 ^ 32 - 1 }) c.new_block-made.result s m = record {
      link = record {
        came = came_filled first then (came gives) filled;
        all = g.met.B.Blocks.keeps_all on mid joined;
        above = c.requires.above;
        few = few;
        laws = record { present = g.met.B.Blocks.present on; active = (g.met.B.Blocks.active on).0; not_one = (g.met.B.Blocks.active on).1; one = g.met.B.Blocks.one_place on; super_stands = g.met.B.Blocks.super_stands on; placed = λ told. g.met.B.Blocks.placed on s.now (g.met.B.Blocks.present on told); ranked = λ told. g.met.B.Blocks.ranked on s.now (g.met.B.Blocks.present on told); live = λ y told ne r. g.met.B.Blocks.live on y told ne r; clears = g.met.B.Blocks.clears_entries on; waits_within = g.met.B.Blocks.waits_within on; covers_told = g.met.B.Blocks.covers_told on; within = g.met.B.Blocks.within on; spelled = g.met.B.Blocks.spelled on; apart_hangs = λ told w is r. g.met.B.Blocks.apart_hangs on s.now 1 w is (g.met.B.Blocks.present on told) (g.met.B.Blocks.active on).0 r; small = g.met.B.Blocks.small on };
        later = record { present = g.met.B.Blocks.present mid; active = (g.met.B.Blocks.active mid).0; not_one = (g.met.B.Blocks.active mid).1; one = g.met.B.Blocks.one_place mid; super_stands = g.met.B.Blocks.super_stands mid; placed = λ told. g.met.B.Blocks.placed mid m.now (g.met.B.Blocks.present mid told); ranked = λ told. g.met.B.Blocks.ranked mid m.now (g.met.B.Blocks.present mid told); live = λ y told ne r. g.met.B.Blocks.live mid y told ne r; clears = g.met.B.Blocks.clears_entries mid; waits_within = g.met.B.Blocks.waits_within mid; covers_told = g.met.B.Blocks.covers_told mid; within = g.met.B.Blocks.within mid; spelled = g.met.B.Blocks.spelled mid; apart_hangs = λ told w is r. g.met.B.Blocks.apart_hangs mid m.now 1 w is (g.met.B.Blocks.present mid told) (g.met.B.Blocks.active mid).0 r; small = g.met.B.Blocks.small mid };
        is_live = refl;
        is_current = refl;
      };
      leads = λ b h. held_leads c.args.score.now b (sym c.requires.leads ∙ h);
      bare = c.fill_kept.ensures.bare.bare;
      low = let small = c.ranges.k.fits in omega (arith, small);
      instead = λ y h. e.instead y ((filled.instead c.new_block-made.result y).0 h);
      place = λ told. filled.places (first.still_tells.1 told) c.new_block-made.result (place (kind_at t.dir c.args.level) t.tag 0 (t.rank + c.args.level)) c.fill_kept.ensures.bare.uncovered (rooted_of_apart m c.new_block-made.result c.fill_kept.ensures.bare.is_apart) (subst (λ q. r.stands c.new_block-made.result (place q t.tag 0 (t.rank + c.args.level))) c.kind_at-kind.ensures (e.place told));
    } in
    at_current x.link

pub put_slot-requires-clause-settled : goal.put_slot-requires-clause-settled
put_slot-requires-clause-settled g c =
    let on = c.args.on.now in
    let raw = c.new_block-made.new.self in
    let mid = c.fill_kept.new.on in
    let s = g.B.Blocks.state on in
    let r = g.B.Blocks.state raw in
    let m = g.B.Blocks.state mid in
    let t = c.args.tree.now in
    let i = c.args.k % 409 in
    let few : i < 409 = omega arith in
    let e = c.new_block-made.ensures in
    let gives = subst (λ q. Gives c.new_block-made.result (blank q) (record { state = Live; kind = q; tag = t.tag; epoch = s.high; closing = 2 ^ 32 - 1 }) s r) c.kind_at-kind.ensures e.gives in
    let first = g.met.B.Blocks.keeps_all on raw e.keeps in
    let then = g.met.B.Blocks.keeps_all raw mid c.fill_kept.ensures.keeps in
    let joined = g.met.B.Blocks.keeps_joins on raw mid e.keeps c.fill_kept.ensures.keeps in
    let filled = c.fill_kept.ensures.filled in
    let x : Making t c.args.level (c.args.k / 409) c.args.above i (record { state = Live; kind = kind_at t.dir c.args.level; tag = t.tag; epoch = s.high; closing = 2 ^ 32 - 1 }) c.new_block-made.result s m = record {
      link = record {
        came = came_filled first then (came gives) filled;
        all = g.met.B.Blocks.keeps_all on mid joined;
        above = c.requires.above;
        few = few;
        laws = record { present = g.met.B.Blocks.present on; active = (g.met.B.Blocks.active on).0; not_one = (g.met.B.Blocks.active on).1; one = g.met.B.Blocks.one_place on; super_stands = g.met.B.Blocks.super_stands on; placed = λ told. g.met.B.Blocks.placed on s.now (g.met.B.Blocks.present on told); ranked = λ told. g.met.B.Blocks.ranked on s.now (g.met.B.Blocks.present on told); live = λ y told ne r. g.met.B.Blocks.live on y told ne r; clears = g.met.B.Blocks.clears_entries on; waits_within = g.met.B.Blocks.waits_within on; covers_told = g.met.B.Blocks.covers_told on; within = g.met.B.Blocks.within on; spelled = g.met.B.Blocks.spelled on; apart_hangs = λ told w is r. g.met.B.Blocks.apart_hangs on s.now 1 w is (g.met.B.Blocks.present on told) (g.met.B.Blocks.active on).0 r; small = g.met.B.Blocks.small on };
        later = record { present = g.met.B.Blocks.present mid; active = (g.met.B.Blocks.active mid).0; not_one = (g.met.B.Blocks.active mid).1; one = g.met.B.Blocks.one_place mid; super_stands = g.met.B.Blocks.super_stands mid; placed = λ told. g.met.B.Blocks.placed mid m.now (g.met.B.Blocks.present mid told); ranked = λ told. g.met.B.Blocks.ranked mid m.now (g.met.B.Blocks.present mid told); live = λ y told ne r. g.met.B.Blocks.live mid y told ne r; clears = g.met.B.Blocks.clears_entries mid; waits_within = g.met.B.Blocks.waits_within mid; covers_told = g.met.B.Blocks.covers_told mid; within = g.met.B.Blocks.within mid; spelled = g.met.B.Blocks.spelled mid; apart_hangs = λ told w is r. g.met.B.Blocks.apart_hangs mid m.now 1 w is (g.met.B.Blocks.present mid told) (g.met.B.Blocks.active mid).0 r; small = g.met.B.Blocks.small mid };
        is_live = refl;
        is_current = refl;
      };
      leads = λ b h. held_leads c.args.score.now b (sym c.requires.leads ∙ h);
      bare = c.fill_kept.ensures.bare.bare;
      low = let small = c.ranges.k.fits in omega (arith, small);
      instead = λ y h. e.instead y ((filled.instead c.new_block-made.result y).0 h);
      place = λ told. filled.places (first.still_tells.1 told) c.new_block-made.result (place (kind_at t.dir c.args.level) t.tag 0 (t.rank + c.args.level)) c.fill_kept.ensures.bare.uncovered (rooted_of_apart m c.new_block-made.result c.fill_kept.ensures.bare.is_apart) (subst (λ q. r.stands c.new_block-made.result (place q t.tag 0 (t.rank + c.args.level))) c.kind_at-kind.ensures (e.place told));
    } in
    may_settled x.link

pub put_slot-requires-clause-same_use : goal.put_slot-requires-clause-same_use
put_slot-requires-clause-same_use g c = λ a w.
    let on = c.args.on.now in
    let raw = c.new_block-made.new.self in
    let mid = c.fill_kept.new.on in
    let s = g.B.Blocks.state on in
    let r = g.B.Blocks.state raw in
    let m = g.B.Blocks.state mid in
    let t = c.args.tree.now in
    let i = c.args.k % 409 in
    let few : i < 409 = omega arith in
    let e = c.new_block-made.ensures in
    let gives = subst (λ q. Gives c.new_block-made.result (blank q) (record { state = Live; kind = q; tag = t.tag; epoch = s.high; closing = 2 ^ 32 - 1 }) s r) c.kind_at-kind.ensures e.gives in
    let first = g.met.B.Blocks.keeps_all on raw e.keeps in
    let then = g.met.B.Blocks.keeps_all raw mid c.fill_kept.ensures.keeps in
    let joined = g.met.B.Blocks.keeps_joins on raw mid e.keeps c.fill_kept.ensures.keeps in
    let filled = c.fill_kept.ensures.filled in
    let x : Making t c.args.level (c.args.k / 409) c.args.above i (record { state = Live; kind = kind_at t.dir c.args.level; tag = t.tag; epoch = s.high; closing = 2 ^ 32 - 1 }) c.new_block-made.result s m = record {
      link = record {
        came = came_filled first then (came gives) filled;
        all = g.met.B.Blocks.keeps_all on mid joined;
        above = c.requires.above;
        few = few;
        laws = record { present = g.met.B.Blocks.present on; active = (g.met.B.Blocks.active on).0; not_one = (g.met.B.Blocks.active on).1; one = g.met.B.Blocks.one_place on; super_stands = g.met.B.Blocks.super_stands on; placed = λ told. g.met.B.Blocks.placed on s.now (g.met.B.Blocks.present on told); ranked = λ told. g.met.B.Blocks.ranked on s.now (g.met.B.Blocks.present on told); live = λ y told ne r. g.met.B.Blocks.live on y told ne r; clears = g.met.B.Blocks.clears_entries on; waits_within = g.met.B.Blocks.waits_within on; covers_told = g.met.B.Blocks.covers_told on; within = g.met.B.Blocks.within on; spelled = g.met.B.Blocks.spelled on; apart_hangs = λ told w is r. g.met.B.Blocks.apart_hangs on s.now 1 w is (g.met.B.Blocks.present on told) (g.met.B.Blocks.active on).0 r; small = g.met.B.Blocks.small on };
        later = record { present = g.met.B.Blocks.present mid; active = (g.met.B.Blocks.active mid).0; not_one = (g.met.B.Blocks.active mid).1; one = g.met.B.Blocks.one_place mid; super_stands = g.met.B.Blocks.super_stands mid; placed = λ told. g.met.B.Blocks.placed mid m.now (g.met.B.Blocks.present mid told); ranked = λ told. g.met.B.Blocks.ranked mid m.now (g.met.B.Blocks.present mid told); live = λ y told ne r. g.met.B.Blocks.live mid y told ne r; clears = g.met.B.Blocks.clears_entries mid; waits_within = g.met.B.Blocks.waits_within mid; covers_told = g.met.B.Blocks.covers_told mid; within = g.met.B.Blocks.within mid; spelled = g.met.B.Blocks.spelled mid; apart_hangs = λ told w is r. g.met.B.Blocks.apart_hangs mid m.now 1 w is (g.met.B.Blocks.present mid told) (g.met.B.Blocks.active mid).0 r; small = g.met.B.Blocks.small mid };
        is_live = refl;
        is_current = refl;
      };
      leads = λ b h. held_leads c.args.score.now b (sym c.requires.leads ∙ h);
      bare = c.fill_kept.ensures.bare.bare;
      low = let small = c.ranges.k.fits in omega (arith, small);
      instead = λ y h. e.instead y ((filled.instead c.new_block-made.result y).0 h);
      place = λ told. filled.places (first.still_tells.1 told) c.new_block-made.result (place (kind_at t.dir c.args.level) t.tag 0 (t.rank + c.args.level)) c.fill_kept.ensures.bare.uncovered (rooted_of_apart m c.new_block-made.result c.fill_kept.ensures.bare.is_apart) (subst (λ q. r.stands c.new_block-made.result (place q t.tag 0 (t.rank + c.args.level))) c.kind_at-kind.ensures (e.place told));
    } in
    absurd (unwaited x.link a i w)

pub put_slot-requires-clause-leads : goal.put_slot-requires-clause-leads
put_slot-requires-clause-leads g c =
    let on = c.args.on.now in
    let raw = c.new_block-made.new.self in
    let mid = c.fill_kept.new.on in
    let s = g.B.Blocks.state on in
    let r = g.B.Blocks.state raw in
    let m = g.B.Blocks.state mid in
    let t = c.args.tree.now in
    let i = c.args.k % 409 in
    let few : i < 409 = omega arith in
    let e = c.new_block-made.ensures in
    let gives = subst (λ q. Gives c.new_block-made.result (blank q) (record { state = Live; kind = q; tag = t.tag; epoch = s.high; closing = 2 ^ 32 - 1 }) s r) c.kind_at-kind.ensures e.gives in
    let first = g.met.B.Blocks.keeps_all on raw e.keeps in
    let then = g.met.B.Blocks.keeps_all raw mid c.fill_kept.ensures.keeps in
    let joined = g.met.B.Blocks.keeps_joins on raw mid e.keeps c.fill_kept.ensures.keeps in
    let filled = c.fill_kept.ensures.filled in
    let x : Making t c.args.level (c.args.k / 409) c.args.above i (record { state = Live; kind = kind_at t.dir c.args.level; tag = t.tag; epoch = s.high; closing = 2 ^ 32 - 1 }) c.new_block-made.result s m = record {
      link = record {
        came = came_filled first then (came gives) filled;
        all = g.met.B.Blocks.keeps_all on mid joined;
        above = c.requires.above;
        few = few;
        laws = record { present = g.met.B.Blocks.present on; active = (g.met.B.Blocks.active on).0; not_one = (g.met.B.Blocks.active on).1; one = g.met.B.Blocks.one_place on; super_stands = g.met.B.Blocks.super_stands on; placed = λ told. g.met.B.Blocks.placed on s.now (g.met.B.Blocks.present on told); ranked = λ told. g.met.B.Blocks.ranked on s.now (g.met.B.Blocks.present on told); live = λ y told ne r. g.met.B.Blocks.live on y told ne r; clears = g.met.B.Blocks.clears_entries on; waits_within = g.met.B.Blocks.waits_within on; covers_told = g.met.B.Blocks.covers_told on; within = g.met.B.Blocks.within on; spelled = g.met.B.Blocks.spelled on; apart_hangs = λ told w is r. g.met.B.Blocks.apart_hangs on s.now 1 w is (g.met.B.Blocks.present on told) (g.met.B.Blocks.active on).0 r; small = g.met.B.Blocks.small on };
        later = record { present = g.met.B.Blocks.present mid; active = (g.met.B.Blocks.active mid).0; not_one = (g.met.B.Blocks.active mid).1; one = g.met.B.Blocks.one_place mid; super_stands = g.met.B.Blocks.super_stands mid; placed = λ told. g.met.B.Blocks.placed mid m.now (g.met.B.Blocks.present mid told); ranked = λ told. g.met.B.Blocks.ranked mid m.now (g.met.B.Blocks.present mid told); live = λ y told ne r. g.met.B.Blocks.live mid y told ne r; clears = g.met.B.Blocks.clears_entries mid; waits_within = g.met.B.Blocks.waits_within mid; covers_told = g.met.B.Blocks.covers_told mid; within = g.met.B.Blocks.within mid; spelled = g.met.B.Blocks.spelled mid; apart_hangs = λ told w is r. g.met.B.Blocks.apart_hangs mid m.now 1 w is (g.met.B.Blocks.present mid told) (g.met.B.Blocks.active mid).0 r; small = g.met.B.Blocks.small mid };
        is_live = refl;
        is_current = refl;
      };
      leads = λ b h. held_leads c.args.score.now b (sym c.requires.leads ∙ h);
      bare = c.fill_kept.ensures.bare.bare;
      low = let small = c.ranges.k.fits in omega (arith, small);
      instead = λ y h. e.instead y ((filled.instead c.new_block-made.result y).0 h);
      place = λ told. filled.places (first.still_tells.1 told) c.new_block-made.result (place (kind_at t.dir c.args.level) t.tag 0 (t.rank + c.args.level)) c.fill_kept.ensures.bare.uncovered (rooted_of_apart m c.new_block-made.result c.fill_kept.ensures.bare.is_apart) (subst (λ q. r.stands c.new_block-made.result (place q t.tag 0 (t.rank + c.args.level))) c.kind_at-kind.ensures (e.place told));
    } in
    may_lead x.link

pub put_slot-requires-clause-may : goal.put_slot-requires-clause-may
put_slot-requires-clause-may g c = λ now.
    let on = c.args.on.now in
    let raw = c.new_block-made.new.self in
    let mid = c.fill_kept.new.on in
    let s = g.B.Blocks.state on in
    let r = g.B.Blocks.state raw in
    let m = g.B.Blocks.state mid in
    let t = c.args.tree.now in
    let i = c.args.k % 409 in
    let few : i < 409 = omega arith in
    let e = c.new_block-made.ensures in
    let gives = subst (λ q. Gives c.new_block-made.result (blank q) (record { state = Live; kind = q; tag = t.tag; epoch = s.high; closing = 2 ^ 32 - 1 }) s r) c.kind_at-kind.ensures e.gives in
    let first = g.met.B.Blocks.keeps_all on raw e.keeps in
    let then = g.met.B.Blocks.keeps_all raw mid c.fill_kept.ensures.keeps in
    let joined = g.met.B.Blocks.keeps_joins on raw mid e.keeps c.fill_kept.ensures.keeps in
    let filled = c.fill_kept.ensures.filled in
    let x : Making t c.args.level (c.args.k / 409) c.args.above i (record { state = Live; kind = kind_at t.dir c.args.level; tag = t.tag; epoch = s.high; closing = 2 ^ 32 - 1 }) c.new_block-made.result s m = record {
      link = record {
        came = came_filled first then (came gives) filled;
        all = g.met.B.Blocks.keeps_all on mid joined;
        above = c.requires.above;
        few = few;
        laws = record { present = g.met.B.Blocks.present on; active = (g.met.B.Blocks.active on).0; not_one = (g.met.B.Blocks.active on).1; one = g.met.B.Blocks.one_place on; super_stands = g.met.B.Blocks.super_stands on; placed = λ told. g.met.B.Blocks.placed on s.now (g.met.B.Blocks.present on told); ranked = λ told. g.met.B.Blocks.ranked on s.now (g.met.B.Blocks.present on told); live = λ y told ne r. g.met.B.Blocks.live on y told ne r; clears = g.met.B.Blocks.clears_entries on; waits_within = g.met.B.Blocks.waits_within on; covers_told = g.met.B.Blocks.covers_told on; within = g.met.B.Blocks.within on; spelled = g.met.B.Blocks.spelled on; apart_hangs = λ told w is r. g.met.B.Blocks.apart_hangs on s.now 1 w is (g.met.B.Blocks.present on told) (g.met.B.Blocks.active on).0 r; small = g.met.B.Blocks.small on };
        later = record { present = g.met.B.Blocks.present mid; active = (g.met.B.Blocks.active mid).0; not_one = (g.met.B.Blocks.active mid).1; one = g.met.B.Blocks.one_place mid; super_stands = g.met.B.Blocks.super_stands mid; placed = λ told. g.met.B.Blocks.placed mid m.now (g.met.B.Blocks.present mid told); ranked = λ told. g.met.B.Blocks.ranked mid m.now (g.met.B.Blocks.present mid told); live = λ y told ne r. g.met.B.Blocks.live mid y told ne r; clears = g.met.B.Blocks.clears_entries mid; waits_within = g.met.B.Blocks.waits_within mid; covers_told = g.met.B.Blocks.covers_told mid; within = g.met.B.Blocks.within mid; spelled = g.met.B.Blocks.spelled mid; apart_hangs = λ told w is r. g.met.B.Blocks.apart_hangs mid m.now 1 w is (g.met.B.Blocks.present mid told) (g.met.B.Blocks.active mid).0 r; small = g.met.B.Blocks.small mid };
        is_live = refl;
        is_current = refl;
      };
      leads = λ b h. held_leads c.args.score.now b (sym c.requires.leads ∙ h);
      bare = c.fill_kept.ensures.bare.bare;
      low = let small = c.ranges.k.fits in omega (arith, small);
      instead = λ y h. e.instead y ((filled.instead c.new_block-made.result y).0 h);
      place = λ told. filled.places (first.still_tells.1 told) c.new_block-made.result (place (kind_at t.dir c.args.level) t.tag 0 (t.rank + c.args.level)) c.fill_kept.ensures.bare.uncovered (rooted_of_apart m c.new_block-made.result c.fill_kept.ensures.bare.is_apart) (subst (λ q. r.stands c.new_block-made.result (place q t.tag 0 (t.rank + c.args.level))) c.kind_at-kind.ensures (e.place told));
    } in
    let told = x.link.all.still_tells.0 now in may_put x.link told (new_shown x told)

pub put_slot-requires-clause-room : goal.put_slot-requires-clause-room
put_slot-requires-clause-room g c =
    let on = c.args.on.now in
    let raw = c.new_block-made.new.self in
    let mid = c.fill_kept.new.on in
    let s = g.B.Blocks.state on in
    let r = g.B.Blocks.state raw in
    let m = g.B.Blocks.state mid in
    let t = c.args.tree.now in
    let i = c.args.k % 409 in
    let few : i < 409 = omega arith in
    let e = c.new_block-made.ensures in
    let gives = subst (λ q. Gives c.new_block-made.result (blank q) (record { state = Live; kind = q; tag = t.tag; epoch = s.high; closing = 2 ^ 32 - 1 }) s r) c.kind_at-kind.ensures e.gives in
    let first = g.met.B.Blocks.keeps_all on raw e.keeps in
    let then = g.met.B.Blocks.keeps_all raw mid c.fill_kept.ensures.keeps in
    let joined = g.met.B.Blocks.keeps_joins on raw mid e.keeps c.fill_kept.ensures.keeps in
    let filled = c.fill_kept.ensures.filled in
    let x : Making t c.args.level (c.args.k / 409) c.args.above i (record { state = Live; kind = kind_at t.dir c.args.level; tag = t.tag; epoch = s.high; closing = 2 ^ 32 - 1 }) c.new_block-made.result s m = record {
      link = record {
        came = came_filled first then (came gives) filled;
        all = g.met.B.Blocks.keeps_all on mid joined;
        above = c.requires.above;
        few = few;
        laws = record { present = g.met.B.Blocks.present on; active = (g.met.B.Blocks.active on).0; not_one = (g.met.B.Blocks.active on).1; one = g.met.B.Blocks.one_place on; super_stands = g.met.B.Blocks.super_stands on; placed = λ told. g.met.B.Blocks.placed on s.now (g.met.B.Blocks.present on told); ranked = λ told. g.met.B.Blocks.ranked on s.now (g.met.B.Blocks.present on told); live = λ y told ne r. g.met.B.Blocks.live on y told ne r; clears = g.met.B.Blocks.clears_entries on; waits_within = g.met.B.Blocks.waits_within on; covers_told = g.met.B.Blocks.covers_told on; within = g.met.B.Blocks.within on; spelled = g.met.B.Blocks.spelled on; apart_hangs = λ told w is r. g.met.B.Blocks.apart_hangs on s.now 1 w is (g.met.B.Blocks.present on told) (g.met.B.Blocks.active on).0 r; small = g.met.B.Blocks.small on };
        later = record { present = g.met.B.Blocks.present mid; active = (g.met.B.Blocks.active mid).0; not_one = (g.met.B.Blocks.active mid).1; one = g.met.B.Blocks.one_place mid; super_stands = g.met.B.Blocks.super_stands mid; placed = λ told. g.met.B.Blocks.placed mid m.now (g.met.B.Blocks.present mid told); ranked = λ told. g.met.B.Blocks.ranked mid m.now (g.met.B.Blocks.present mid told); live = λ y told ne r. g.met.B.Blocks.live mid y told ne r; clears = g.met.B.Blocks.clears_entries mid; waits_within = g.met.B.Blocks.waits_within mid; covers_told = g.met.B.Blocks.covers_told mid; within = g.met.B.Blocks.within mid; spelled = g.met.B.Blocks.spelled mid; apart_hangs = λ told w is r. g.met.B.Blocks.apart_hangs mid m.now 1 w is (g.met.B.Blocks.present mid told) (g.met.B.Blocks.active mid).0 r; small = g.met.B.Blocks.small mid };
        is_live = refl;
        is_current = refl;
      };
      leads = λ b h. held_leads c.args.score.now b (sym c.requires.leads ∙ h);
      bare = c.fill_kept.ensures.bare.bare;
      low = let small = c.ranges.k.fits in omega (arith, small);
      instead = λ y h. e.instead y ((filled.instead c.new_block-made.result y).0 h);
      place = λ told. filled.places (first.still_tells.1 told) c.new_block-made.result (place (kind_at t.dir c.args.level) t.tag 0 (t.rank + c.args.level)) c.fill_kept.ensures.bare.uncovered (rooted_of_apart m c.new_block-made.result c.fill_kept.ensures.bare.is_apart) (subst (λ q. r.stands c.new_block-made.result (place q t.tag 0 (t.rank + c.args.level))) c.kind_at-kind.ensures (e.place told));
    } in
    let none = may_cost x.link in omega (arith, none)

pub put_slot-requires-clause-tops : goal.put_slot-requires-clause-tops
put_slot-requires-clause-tops g c = λ n y lt h.
    let on = c.args.on.now in
    let raw = c.new_block-made.new.self in
    let mid = c.fill_kept.new.on in
    let s = g.B.Blocks.state on in
    let r = g.B.Blocks.state raw in
    let m = g.B.Blocks.state mid in
    let t = c.args.tree.now in
    let i = c.args.k % 409 in
    let few : i < 409 = omega arith in
    let e = c.new_block-made.ensures in
    let gives = subst (λ q. Gives c.new_block-made.result (blank q) (record { state = Live; kind = q; tag = t.tag; epoch = s.high; closing = 2 ^ 32 - 1 }) s r) c.kind_at-kind.ensures e.gives in
    let first = g.met.B.Blocks.keeps_all on raw e.keeps in
    let then = g.met.B.Blocks.keeps_all raw mid c.fill_kept.ensures.keeps in
    let joined = g.met.B.Blocks.keeps_joins on raw mid e.keeps c.fill_kept.ensures.keeps in
    let filled = c.fill_kept.ensures.filled in
    let x : Making t c.args.level (c.args.k / 409) c.args.above i (record { state = Live; kind = kind_at t.dir c.args.level; tag = t.tag; epoch = s.high; closing = 2 ^ 32 - 1 }) c.new_block-made.result s m = record {
      link = record {
        came = came_filled first then (came gives) filled;
        all = g.met.B.Blocks.keeps_all on mid joined;
        above = c.requires.above;
        few = few;
        laws = record { present = g.met.B.Blocks.present on; active = (g.met.B.Blocks.active on).0; not_one = (g.met.B.Blocks.active on).1; one = g.met.B.Blocks.one_place on; super_stands = g.met.B.Blocks.super_stands on; placed = λ told. g.met.B.Blocks.placed on s.now (g.met.B.Blocks.present on told); ranked = λ told. g.met.B.Blocks.ranked on s.now (g.met.B.Blocks.present on told); live = λ y told ne r. g.met.B.Blocks.live on y told ne r; clears = g.met.B.Blocks.clears_entries on; waits_within = g.met.B.Blocks.waits_within on; covers_told = g.met.B.Blocks.covers_told on; within = g.met.B.Blocks.within on; spelled = g.met.B.Blocks.spelled on; apart_hangs = λ told w is r. g.met.B.Blocks.apart_hangs on s.now 1 w is (g.met.B.Blocks.present on told) (g.met.B.Blocks.active on).0 r; small = g.met.B.Blocks.small on };
        later = record { present = g.met.B.Blocks.present mid; active = (g.met.B.Blocks.active mid).0; not_one = (g.met.B.Blocks.active mid).1; one = g.met.B.Blocks.one_place mid; super_stands = g.met.B.Blocks.super_stands mid; placed = λ told. g.met.B.Blocks.placed mid m.now (g.met.B.Blocks.present mid told); ranked = λ told. g.met.B.Blocks.ranked mid m.now (g.met.B.Blocks.present mid told); live = λ y told ne r. g.met.B.Blocks.live mid y told ne r; clears = g.met.B.Blocks.clears_entries mid; waits_within = g.met.B.Blocks.waits_within mid; covers_told = g.met.B.Blocks.covers_told mid; within = g.met.B.Blocks.within mid; spelled = g.met.B.Blocks.spelled mid; apart_hangs = λ told w is r. g.met.B.Blocks.apart_hangs mid m.now 1 w is (g.met.B.Blocks.present mid told) (g.met.B.Blocks.active mid).0 r; small = g.met.B.Blocks.small mid };
        is_live = refl;
        is_current = refl;
      };
      leads = λ b h. held_leads c.args.score.now b (sym c.requires.leads ∙ h);
      bare = c.fill_kept.ensures.bare.bare;
      low = let small = c.ranges.k.fits in omega (arith, small);
      instead = λ y h. e.instead y ((filled.instead c.new_block-made.result y).0 h);
      place = λ told. filled.places (first.still_tells.1 told) c.new_block-made.result (place (kind_at t.dir c.args.level) t.tag 0 (t.rank + c.args.level)) c.fill_kept.ensures.bare.uncovered (rooted_of_apart m c.new_block-made.result c.fill_kept.ensures.bare.is_apart) (subst (λ q. r.stands c.new_block-made.result (place q t.tag 0 (t.rank + c.args.level))) c.kind_at-kind.ensures (e.place told));
    } in
    let none = none_dropped x.link in absurd (omega (arith, lt, none))

pub returns-clause-links : goal.returns-clause-links
returns-clause-links g c =
    let on = c.args.on.now in
    let raw = c.new_block-made.new.self in
    let mid = c.fill_kept.new.on in
    let s = g.B.Blocks.state on in
    let r = g.B.Blocks.state raw in
    let m = g.B.Blocks.state mid in
    let t = c.args.tree.now in
    let i = c.args.k % 409 in
    let few : i < 409 = omega arith in
    let e = c.new_block-made.ensures in
    let gives = subst (λ q. Gives c.new_block-made.result (blank q) (record { state = Live; kind = q; tag = t.tag; epoch = s.high; closing = 2 ^ 32 - 1 }) s r) c.kind_at-kind.ensures e.gives in
    let first = g.met.B.Blocks.keeps_all on raw e.keeps in
    let then = g.met.B.Blocks.keeps_all raw mid c.fill_kept.ensures.keeps in
    let joined = g.met.B.Blocks.keeps_joins on raw mid e.keeps c.fill_kept.ensures.keeps in
    let filled = c.fill_kept.ensures.filled in
    let x : Making t c.args.level (c.args.k / 409) c.args.above i (record { state = Live; kind = kind_at t.dir c.args.level; tag = t.tag; epoch = s.high; closing = 2 ^ 32 - 1 }) c.new_block-made.result s m = record {
      link = record {
        came = came_filled first then (came gives) filled;
        all = g.met.B.Blocks.keeps_all on mid joined;
        above = c.requires.above;
        few = few;
        laws = record { present = g.met.B.Blocks.present on; active = (g.met.B.Blocks.active on).0; not_one = (g.met.B.Blocks.active on).1; one = g.met.B.Blocks.one_place on; super_stands = g.met.B.Blocks.super_stands on; placed = λ told. g.met.B.Blocks.placed on s.now (g.met.B.Blocks.present on told); ranked = λ told. g.met.B.Blocks.ranked on s.now (g.met.B.Blocks.present on told); live = λ y told ne r. g.met.B.Blocks.live on y told ne r; clears = g.met.B.Blocks.clears_entries on; waits_within = g.met.B.Blocks.waits_within on; covers_told = g.met.B.Blocks.covers_told on; within = g.met.B.Blocks.within on; spelled = g.met.B.Blocks.spelled on; apart_hangs = λ told w is r. g.met.B.Blocks.apart_hangs on s.now 1 w is (g.met.B.Blocks.present on told) (g.met.B.Blocks.active on).0 r; small = g.met.B.Blocks.small on };
        later = record { present = g.met.B.Blocks.present mid; active = (g.met.B.Blocks.active mid).0; not_one = (g.met.B.Blocks.active mid).1; one = g.met.B.Blocks.one_place mid; super_stands = g.met.B.Blocks.super_stands mid; placed = λ told. g.met.B.Blocks.placed mid m.now (g.met.B.Blocks.present mid told); ranked = λ told. g.met.B.Blocks.ranked mid m.now (g.met.B.Blocks.present mid told); live = λ y told ne r. g.met.B.Blocks.live mid y told ne r; clears = g.met.B.Blocks.clears_entries mid; waits_within = g.met.B.Blocks.waits_within mid; covers_told = g.met.B.Blocks.covers_told mid; within = g.met.B.Blocks.within mid; spelled = g.met.B.Blocks.spelled mid; apart_hangs = λ told w is r. g.met.B.Blocks.apart_hangs mid m.now 1 w is (g.met.B.Blocks.present mid told) (g.met.B.Blocks.active mid).0 r; small = g.met.B.Blocks.small mid };
        is_live = refl;
        is_current = refl;
      };
      leads = λ b h. held_leads c.args.score.now b (sym c.requires.leads ∙ h);
      bare = c.fill_kept.ensures.bare.bare;
      low = let small = c.ranges.k.fits in omega (arith, small);
      instead = λ y h. e.instead y ((filled.instead c.new_block-made.result y).0 h);
      place = λ told. filled.places (first.still_tells.1 told) c.new_block-made.result (place (kind_at t.dir c.args.level) t.tag 0 (t.rank + c.args.level)) c.fill_kept.ensures.bare.uncovered (rooted_of_apart m c.new_block-made.result c.fill_kept.ensures.bare.is_apart) (subst (λ q. r.stands c.new_block-made.result (place q t.tag 0 (t.rank + c.args.level))) c.kind_at-kind.ensures (e.place told));
    } in
    let end = c.put_slot.new.self in
    let u = g.B.Blocks.state end in
    let p = c.put_slot.ensures in
    let all = g.met.B.Blocks.keeps_all mid end p.keeps in
    links {s = s} {m = m} {u = u} (record {
      link = x.link;
      kind = refl;
      tagged = refl;
      long = c.fill_kept.ensures.bare.long;
      leads = ap target (same x.link i) ∙ c.requires.leads;
      alike = λ j. inr (c.fill_kept.ensures.bare.bare j, nil_leads);
      other = λ y h. absurd (held_leads c.args.score.now y h);
      raised = λ y h. absurd (x.instead y h);
      in_tree = λ told y h. absurd (held_leads c.args.score.now y h);
      not_apart = λ told w is h. held_leads c.args.score.now w h;
      no_one = λ told r. lost m.now r.path ((m.now c.args.above).slot i) (slot_none x) 1 r.leads;
      was_older = λ y h. absurd (held_leads c.args.score.now y h);
      fresh = λ h. held_leads c.args.score.now c.new_block-made.result h;
      no_cost = may_cost x.link;
      tells_of = λ image is. g.met.B.Blocks.told mid image is;
      placed = λ image is. g.met.B.Blocks.placed mid image is;
      placed_first = record { super_at = λ image is. g.met.B.Blocks.super_stands on (g.met.B.Blocks.told on image is); each = λ image is. g.met.B.Blocks.placed on image is };
      placed_end = record { super_at = λ image is. g.met.B.Blocks.super_stands end (g.met.B.Blocks.told end image is); each = λ image is. g.met.B.Blocks.placed end image is };
      content = inr (c.fill_kept.ensures.bare.bare, inr c.requires.plain, held_leads c.args.score.now);
      puts = p.now;
      images = p.images;
      frame = p.frame;
      hangs = p.hangs;
      order = p.order;
      no_wait = p.no_wait;
      covers = p.covers;
      all = all;
      whole = g.met.B.Blocks.keeps_all on end (g.met.B.Blocks.keeps_joins on mid end joined p.keeps);
      laws = record { present = g.met.B.Blocks.present end; active = (g.met.B.Blocks.active end).0; not_one = (g.met.B.Blocks.active end).1; one = g.met.B.Blocks.one_place end; super_stands = g.met.B.Blocks.super_stands end; placed = λ told. g.met.B.Blocks.placed end u.now (g.met.B.Blocks.present end told); ranked = λ told. g.met.B.Blocks.ranked end u.now (g.met.B.Blocks.present end told); live = λ y told ne r. g.met.B.Blocks.live end y told ne r; clears = g.met.B.Blocks.clears_entries end; waits_within = g.met.B.Blocks.waits_within end; covers_told = g.met.B.Blocks.covers_told end; within = g.met.B.Blocks.within end; spelled = g.met.B.Blocks.spelled end; apart_hangs = λ told w is r. g.met.B.Blocks.apart_hangs end u.now 1 w is (g.met.B.Blocks.present end told) (g.met.B.Blocks.active end).0 r; small = g.met.B.Blocks.small end };
      sure = g.met.B.Blocks.sure end c.new_block-made.result (inr ((p.frame.stays.marks c.new_block-made.result (λ h. h)).2 x.link.came.is.2));
    })

pub returns-clause-content : goal.returns-clause-content
returns-clause-content g c = λ bytes found.
    let p = c.put_slot.ensures in
    let had = c.fill_kept.ensures.content bytes found in
    let ne : c.new_block-made.result ≢ c.args.above = λ h. c.new_block-made.ensures.gives.was.0 (ap (λ b. ((g.B.Blocks.state c.args.on.now).label b).state) h ∙ c.requires.above.live) in
    record {
      leaf = λ low. p.now.bytes c.new_block-made.result ∙ had.leaf low;
      slots = λ high j few. ap target (p.now.others c.new_block-made.result j (inl ne)) ∙ had.slots high j few;
    }
