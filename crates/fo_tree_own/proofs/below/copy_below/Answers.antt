use Rattle.std.proofs.Common.{length, inl, inr, ◌-◌, ◌/◌, ◌%◌, ◌^◌, ◌<◌, refl, sym, ◌∙◌, ap, subst, arith}
use Rattle.fo_image.specs.declared.types.State.TheVariants.{Live}
use Rattle.fo_image.specs.declared.types.Pointer.TheVariants.{Local}
use Rattle.fo_crash.specs.Images.{Reaches, target, to_block}
use Rattle.fo_crash.specs.Places.{super_place}
use Rattle.fo_crash.proofs.Reach.{reaches_same}
use Rattle.fo_tree_own.proofs.Link.{came, at_current, local_eq, reaches_mid, back, unwaited, may_spell, may_settled, may_lead, may_cost, none_dropped}
use Rattle.fo_tree_own.proofs.May.{Copying, there, may_put, copy_shown, below_ne, below_one, at_below, leads_on, copied_in_tree, copied_in_mid, copied_same, still_older, below_stands, never_one, copy_alike}
use Rattle.fo_tree_own.proofs.After.{links}
use Rattle.fo_tree_own.proofs.below.copy_below.Goals as goal

pub copy-copy-requires-clause-in_tree : goal.copy-copy-requires-clause-in_tree
copy-copy-requires-clause-in_tree g c = λ told. (c.requires.told told).in_tree c.requires.older

pub put_slot-requires-clause-spelled : goal.put_slot-requires-clause-spelled
put_slot-requires-clause-spelled g c =
    let on = c.args.on.now in
    let mid = c.copy-copy.new.self in
    let s = g.B.Blocks.state on in
    let m = g.B.Blocks.state mid in
    let t = c.args.tree.now in
    let i = c.args.k % 409 in
    let few : i < 409 = omega arith in
    let e = c.copy-copy.ensures in
    let x : Copying t c.args.level (c.args.k / 409) c.args.above i c.args.below (record (s.label c.args.below) { state = Live; epoch = s.high; closing = 2 ^ 32 - 1 }) c.copy-copy.result s m = record {
      link = record {
        came = came e.gives;
        all = g.met.B.Blocks.keeps_all on mid e.keeps;
        above = c.requires.above;
        few = few;
        laws = record { present = g.met.B.Blocks.present on; active = (g.met.B.Blocks.active on).0; not_one = (g.met.B.Blocks.active on).1; one = g.met.B.Blocks.one_place on; super_stands = g.met.B.Blocks.super_stands on; placed = λ told. g.met.B.Blocks.placed on s.now (g.met.B.Blocks.present on told); ranked = λ told. g.met.B.Blocks.ranked on s.now (g.met.B.Blocks.present on told); live = λ y told ne r. g.met.B.Blocks.live on y told ne r; clears = g.met.B.Blocks.clears_entries on; waits_within = g.met.B.Blocks.waits_within on; covers_told = g.met.B.Blocks.covers_told on; within = g.met.B.Blocks.within on; spelled = g.met.B.Blocks.spelled on; apart_hangs = λ told w is r. g.met.B.Blocks.apart_hangs on s.now 1 w is (g.met.B.Blocks.present on told) (g.met.B.Blocks.active on).0 r; small = g.met.B.Blocks.small on };
        later = record { present = g.met.B.Blocks.present mid; active = (g.met.B.Blocks.active mid).0; not_one = (g.met.B.Blocks.active mid).1; one = g.met.B.Blocks.one_place mid; super_stands = g.met.B.Blocks.super_stands mid; placed = λ told. g.met.B.Blocks.placed mid m.now (g.met.B.Blocks.present mid told); ranked = λ told. g.met.B.Blocks.ranked mid m.now (g.met.B.Blocks.present mid told); live = λ y told ne r. g.met.B.Blocks.live mid y told ne r; clears = g.met.B.Blocks.clears_entries mid; waits_within = g.met.B.Blocks.waits_within mid; covers_told = g.met.B.Blocks.covers_told mid; within = g.met.B.Blocks.within mid; spelled = g.met.B.Blocks.spelled mid; apart_hangs = λ told w is r. g.met.B.Blocks.apart_hangs mid m.now 1 w is (g.met.B.Blocks.present mid told) (g.met.B.Blocks.active mid).0 r; small = g.met.B.Blocks.small mid };
        is_live = refl;
        is_current = refl;
      };
      here = e.gives.memory.here;
      leads = c.requires.leads;
      was_live = c.requires.below.live;
      older = c.requires.older;
      told = c.requires.told;
      instead = e.instead;
      place = e.place;
    } in
    may_spell x.link

pub put_slot-requires-clause-current : goal.put_slot-requires-clause-current
put_slot-requires-clause-current g c =
    let on = c.args.on.now in
    let mid = c.copy-copy.new.self in
    let s = g.B.Blocks.state on in
    let m = g.B.Blocks.state mid in
    let t = c.args.tree.now in
    let i = c.args.k % 409 in
    let few : i < 409 = omega arith in
    let e = c.copy-copy.ensures in
    let x : Copying t c.args.level (c.args.k / 409) c.args.above i c.args.below (record (s.label c.args.below) { state = Live; epoch = s.high; closing = 2 ^ 32 - 1 }) c.copy-copy.result s m = record {
      link = record {
        came = came e.gives;
        all = g.met.B.Blocks.keeps_all on mid e.keeps;
        above = c.requires.above;
        few = few;
        laws = record { present = g.met.B.Blocks.present on; active = (g.met.B.Blocks.active on).0; not_one = (g.met.B.Blocks.active on).1; one = g.met.B.Blocks.one_place on; super_stands = g.met.B.Blocks.super_stands on; placed = λ told. g.met.B.Blocks.placed on s.now (g.met.B.Blocks.present on told); ranked = λ told. g.met.B.Blocks.ranked on s.now (g.met.B.Blocks.present on told); live = λ y told ne r. g.met.B.Blocks.live on y told ne r; clears = g.met.B.Blocks.clears_entries on; waits_within = g.met.B.Blocks.waits_within on; covers_told = g.met.B.Blocks.covers_told on; within = g.met.B.Blocks.within on; spelled = g.met.B.Blocks.spelled on; apart_hangs = λ told w is r. g.met.B.Blocks.apart_hangs on s.now 1 w is (g.met.B.Blocks.present on told) (g.met.B.Blocks.active on).0 r; small = g.met.B.Blocks.small on };
        later = record { present = g.met.B.Blocks.present mid; active = (g.met.B.Blocks.active mid).0; not_one = (g.met.B.Blocks.active mid).1; one = g.met.B.Blocks.one_place mid; super_stands = g.met.B.Blocks.super_stands mid; placed = λ told. g.met.B.Blocks.placed mid m.now (g.met.B.Blocks.present mid told); ranked = λ told. g.met.B.Blocks.ranked mid m.now (g.met.B.Blocks.present mid told); live = λ y told ne r. g.met.B.Blocks.live mid y told ne r; clears = g.met.B.Blocks.clears_entries mid; waits_within = g.met.B.Blocks.waits_within mid; covers_told = g.met.B.Blocks.covers_told mid; within = g.met.B.Blocks.within mid; spelled = g.met.B.Blocks.spelled mid; apart_hangs = λ told w is r. g.met.B.Blocks.apart_hangs mid m.now 1 w is (g.met.B.Blocks.present mid told) (g.met.B.Blocks.active mid).0 r; small = g.met.B.Blocks.small mid };
        is_live = refl;
        is_current = refl;
      };
      here = e.gives.memory.here;
      leads = c.requires.leads;
      was_live = c.requires.below.live;
      older = c.requires.older;
      told = c.requires.told;
      instead = e.instead;
      place = e.place;
    } in
    at_current x.link

pub put_slot-requires-clause-settled : goal.put_slot-requires-clause-settled
put_slot-requires-clause-settled g c =
    let on = c.args.on.now in
    let mid = c.copy-copy.new.self in
    let s = g.B.Blocks.state on in
    let m = g.B.Blocks.state mid in
    let t = c.args.tree.now in
    let i = c.args.k % 409 in
    let few : i < 409 = omega arith in
    let e = c.copy-copy.ensures in
    let x : Copying t c.args.level (c.args.k / 409) c.args.above i c.args.below (record (s.label c.args.below) { state = Live; epoch = s.high; closing = 2 ^ 32 - 1 }) c.copy-copy.result s m = record {
      link = record {
        came = came e.gives;
        all = g.met.B.Blocks.keeps_all on mid e.keeps;
        above = c.requires.above;
        few = few;
        laws = record { present = g.met.B.Blocks.present on; active = (g.met.B.Blocks.active on).0; not_one = (g.met.B.Blocks.active on).1; one = g.met.B.Blocks.one_place on; super_stands = g.met.B.Blocks.super_stands on; placed = λ told. g.met.B.Blocks.placed on s.now (g.met.B.Blocks.present on told); ranked = λ told. g.met.B.Blocks.ranked on s.now (g.met.B.Blocks.present on told); live = λ y told ne r. g.met.B.Blocks.live on y told ne r; clears = g.met.B.Blocks.clears_entries on; waits_within = g.met.B.Blocks.waits_within on; covers_told = g.met.B.Blocks.covers_told on; within = g.met.B.Blocks.within on; spelled = g.met.B.Blocks.spelled on; apart_hangs = λ told w is r. g.met.B.Blocks.apart_hangs on s.now 1 w is (g.met.B.Blocks.present on told) (g.met.B.Blocks.active on).0 r; small = g.met.B.Blocks.small on };
        later = record { present = g.met.B.Blocks.present mid; active = (g.met.B.Blocks.active mid).0; not_one = (g.met.B.Blocks.active mid).1; one = g.met.B.Blocks.one_place mid; super_stands = g.met.B.Blocks.super_stands mid; placed = λ told. g.met.B.Blocks.placed mid m.now (g.met.B.Blocks.present mid told); ranked = λ told. g.met.B.Blocks.ranked mid m.now (g.met.B.Blocks.present mid told); live = λ y told ne r. g.met.B.Blocks.live mid y told ne r; clears = g.met.B.Blocks.clears_entries mid; waits_within = g.met.B.Blocks.waits_within mid; covers_told = g.met.B.Blocks.covers_told mid; within = g.met.B.Blocks.within mid; spelled = g.met.B.Blocks.spelled mid; apart_hangs = λ told w is r. g.met.B.Blocks.apart_hangs mid m.now 1 w is (g.met.B.Blocks.present mid told) (g.met.B.Blocks.active mid).0 r; small = g.met.B.Blocks.small mid };
        is_live = refl;
        is_current = refl;
      };
      here = e.gives.memory.here;
      leads = c.requires.leads;
      was_live = c.requires.below.live;
      older = c.requires.older;
      told = c.requires.told;
      instead = e.instead;
      place = e.place;
    } in
    may_settled x.link

pub put_slot-requires-clause-same_use : goal.put_slot-requires-clause-same_use
put_slot-requires-clause-same_use g c = λ a w.
    let on = c.args.on.now in
    let mid = c.copy-copy.new.self in
    let s = g.B.Blocks.state on in
    let m = g.B.Blocks.state mid in
    let t = c.args.tree.now in
    let i = c.args.k % 409 in
    let few : i < 409 = omega arith in
    let e = c.copy-copy.ensures in
    let x : Copying t c.args.level (c.args.k / 409) c.args.above i c.args.below (record (s.label c.args.below) { state = Live; epoch = s.high; closing = 2 ^ 32 - 1 }) c.copy-copy.result s m = record {
      link = record {
        came = came e.gives;
        all = g.met.B.Blocks.keeps_all on mid e.keeps;
        above = c.requires.above;
        few = few;
        laws = record { present = g.met.B.Blocks.present on; active = (g.met.B.Blocks.active on).0; not_one = (g.met.B.Blocks.active on).1; one = g.met.B.Blocks.one_place on; super_stands = g.met.B.Blocks.super_stands on; placed = λ told. g.met.B.Blocks.placed on s.now (g.met.B.Blocks.present on told); ranked = λ told. g.met.B.Blocks.ranked on s.now (g.met.B.Blocks.present on told); live = λ y told ne r. g.met.B.Blocks.live on y told ne r; clears = g.met.B.Blocks.clears_entries on; waits_within = g.met.B.Blocks.waits_within on; covers_told = g.met.B.Blocks.covers_told on; within = g.met.B.Blocks.within on; spelled = g.met.B.Blocks.spelled on; apart_hangs = λ told w is r. g.met.B.Blocks.apart_hangs on s.now 1 w is (g.met.B.Blocks.present on told) (g.met.B.Blocks.active on).0 r; small = g.met.B.Blocks.small on };
        later = record { present = g.met.B.Blocks.present mid; active = (g.met.B.Blocks.active mid).0; not_one = (g.met.B.Blocks.active mid).1; one = g.met.B.Blocks.one_place mid; super_stands = g.met.B.Blocks.super_stands mid; placed = λ told. g.met.B.Blocks.placed mid m.now (g.met.B.Blocks.present mid told); ranked = λ told. g.met.B.Blocks.ranked mid m.now (g.met.B.Blocks.present mid told); live = λ y told ne r. g.met.B.Blocks.live mid y told ne r; clears = g.met.B.Blocks.clears_entries mid; waits_within = g.met.B.Blocks.waits_within mid; covers_told = g.met.B.Blocks.covers_told mid; within = g.met.B.Blocks.within mid; spelled = g.met.B.Blocks.spelled mid; apart_hangs = λ told w is r. g.met.B.Blocks.apart_hangs mid m.now 1 w is (g.met.B.Blocks.present mid told) (g.met.B.Blocks.active mid).0 r; small = g.met.B.Blocks.small mid };
        is_live = refl;
        is_current = refl;
      };
      here = e.gives.memory.here;
      leads = c.requires.leads;
      was_live = c.requires.below.live;
      older = c.requires.older;
      told = c.requires.told;
      instead = e.instead;
      place = e.place;
    } in
    absurd (unwaited x.link a i w)

pub put_slot-requires-clause-leads : goal.put_slot-requires-clause-leads
put_slot-requires-clause-leads g c =
    let on = c.args.on.now in
    let mid = c.copy-copy.new.self in
    let s = g.B.Blocks.state on in
    let m = g.B.Blocks.state mid in
    let t = c.args.tree.now in
    let i = c.args.k % 409 in
    let few : i < 409 = omega arith in
    let e = c.copy-copy.ensures in
    let x : Copying t c.args.level (c.args.k / 409) c.args.above i c.args.below (record (s.label c.args.below) { state = Live; epoch = s.high; closing = 2 ^ 32 - 1 }) c.copy-copy.result s m = record {
      link = record {
        came = came e.gives;
        all = g.met.B.Blocks.keeps_all on mid e.keeps;
        above = c.requires.above;
        few = few;
        laws = record { present = g.met.B.Blocks.present on; active = (g.met.B.Blocks.active on).0; not_one = (g.met.B.Blocks.active on).1; one = g.met.B.Blocks.one_place on; super_stands = g.met.B.Blocks.super_stands on; placed = λ told. g.met.B.Blocks.placed on s.now (g.met.B.Blocks.present on told); ranked = λ told. g.met.B.Blocks.ranked on s.now (g.met.B.Blocks.present on told); live = λ y told ne r. g.met.B.Blocks.live on y told ne r; clears = g.met.B.Blocks.clears_entries on; waits_within = g.met.B.Blocks.waits_within on; covers_told = g.met.B.Blocks.covers_told on; within = g.met.B.Blocks.within on; spelled = g.met.B.Blocks.spelled on; apart_hangs = λ told w is r. g.met.B.Blocks.apart_hangs on s.now 1 w is (g.met.B.Blocks.present on told) (g.met.B.Blocks.active on).0 r; small = g.met.B.Blocks.small on };
        later = record { present = g.met.B.Blocks.present mid; active = (g.met.B.Blocks.active mid).0; not_one = (g.met.B.Blocks.active mid).1; one = g.met.B.Blocks.one_place mid; super_stands = g.met.B.Blocks.super_stands mid; placed = λ told. g.met.B.Blocks.placed mid m.now (g.met.B.Blocks.present mid told); ranked = λ told. g.met.B.Blocks.ranked mid m.now (g.met.B.Blocks.present mid told); live = λ y told ne r. g.met.B.Blocks.live mid y told ne r; clears = g.met.B.Blocks.clears_entries mid; waits_within = g.met.B.Blocks.waits_within mid; covers_told = g.met.B.Blocks.covers_told mid; within = g.met.B.Blocks.within mid; spelled = g.met.B.Blocks.spelled mid; apart_hangs = λ told w is r. g.met.B.Blocks.apart_hangs mid m.now 1 w is (g.met.B.Blocks.present mid told) (g.met.B.Blocks.active mid).0 r; small = g.met.B.Blocks.small mid };
        is_live = refl;
        is_current = refl;
      };
      here = e.gives.memory.here;
      leads = c.requires.leads;
      was_live = c.requires.below.live;
      older = c.requires.older;
      told = c.requires.told;
      instead = e.instead;
      place = e.place;
    } in
    may_lead x.link

pub put_slot-requires-clause-may : goal.put_slot-requires-clause-may
put_slot-requires-clause-may g c = λ now.
    let on = c.args.on.now in
    let mid = c.copy-copy.new.self in
    let s = g.B.Blocks.state on in
    let m = g.B.Blocks.state mid in
    let t = c.args.tree.now in
    let i = c.args.k % 409 in
    let few : i < 409 = omega arith in
    let e = c.copy-copy.ensures in
    let x : Copying t c.args.level (c.args.k / 409) c.args.above i c.args.below (record (s.label c.args.below) { state = Live; epoch = s.high; closing = 2 ^ 32 - 1 }) c.copy-copy.result s m = record {
      link = record {
        came = came e.gives;
        all = g.met.B.Blocks.keeps_all on mid e.keeps;
        above = c.requires.above;
        few = few;
        laws = record { present = g.met.B.Blocks.present on; active = (g.met.B.Blocks.active on).0; not_one = (g.met.B.Blocks.active on).1; one = g.met.B.Blocks.one_place on; super_stands = g.met.B.Blocks.super_stands on; placed = λ told. g.met.B.Blocks.placed on s.now (g.met.B.Blocks.present on told); ranked = λ told. g.met.B.Blocks.ranked on s.now (g.met.B.Blocks.present on told); live = λ y told ne r. g.met.B.Blocks.live on y told ne r; clears = g.met.B.Blocks.clears_entries on; waits_within = g.met.B.Blocks.waits_within on; covers_told = g.met.B.Blocks.covers_told on; within = g.met.B.Blocks.within on; spelled = g.met.B.Blocks.spelled on; apart_hangs = λ told w is r. g.met.B.Blocks.apart_hangs on s.now 1 w is (g.met.B.Blocks.present on told) (g.met.B.Blocks.active on).0 r; small = g.met.B.Blocks.small on };
        later = record { present = g.met.B.Blocks.present mid; active = (g.met.B.Blocks.active mid).0; not_one = (g.met.B.Blocks.active mid).1; one = g.met.B.Blocks.one_place mid; super_stands = g.met.B.Blocks.super_stands mid; placed = λ told. g.met.B.Blocks.placed mid m.now (g.met.B.Blocks.present mid told); ranked = λ told. g.met.B.Blocks.ranked mid m.now (g.met.B.Blocks.present mid told); live = λ y told ne r. g.met.B.Blocks.live mid y told ne r; clears = g.met.B.Blocks.clears_entries mid; waits_within = g.met.B.Blocks.waits_within mid; covers_told = g.met.B.Blocks.covers_told mid; within = g.met.B.Blocks.within mid; spelled = g.met.B.Blocks.spelled mid; apart_hangs = λ told w is r. g.met.B.Blocks.apart_hangs mid m.now 1 w is (g.met.B.Blocks.present mid told) (g.met.B.Blocks.active mid).0 r; small = g.met.B.Blocks.small mid };
        is_live = refl;
        is_current = refl;
      };
      here = e.gives.memory.here;
      leads = c.requires.leads;
      was_live = c.requires.below.live;
      older = c.requires.older;
      told = c.requires.told;
      instead = e.instead;
      place = e.place;
    } in
    let told = x.link.all.still_tells.0 now in may_put x.link told (copy_shown x told)

pub put_slot-requires-clause-room : goal.put_slot-requires-clause-room
put_slot-requires-clause-room g c =
    let on = c.args.on.now in
    let mid = c.copy-copy.new.self in
    let s = g.B.Blocks.state on in
    let m = g.B.Blocks.state mid in
    let t = c.args.tree.now in
    let i = c.args.k % 409 in
    let few : i < 409 = omega arith in
    let e = c.copy-copy.ensures in
    let x : Copying t c.args.level (c.args.k / 409) c.args.above i c.args.below (record (s.label c.args.below) { state = Live; epoch = s.high; closing = 2 ^ 32 - 1 }) c.copy-copy.result s m = record {
      link = record {
        came = came e.gives;
        all = g.met.B.Blocks.keeps_all on mid e.keeps;
        above = c.requires.above;
        few = few;
        laws = record { present = g.met.B.Blocks.present on; active = (g.met.B.Blocks.active on).0; not_one = (g.met.B.Blocks.active on).1; one = g.met.B.Blocks.one_place on; super_stands = g.met.B.Blocks.super_stands on; placed = λ told. g.met.B.Blocks.placed on s.now (g.met.B.Blocks.present on told); ranked = λ told. g.met.B.Blocks.ranked on s.now (g.met.B.Blocks.present on told); live = λ y told ne r. g.met.B.Blocks.live on y told ne r; clears = g.met.B.Blocks.clears_entries on; waits_within = g.met.B.Blocks.waits_within on; covers_told = g.met.B.Blocks.covers_told on; within = g.met.B.Blocks.within on; spelled = g.met.B.Blocks.spelled on; apart_hangs = λ told w is r. g.met.B.Blocks.apart_hangs on s.now 1 w is (g.met.B.Blocks.present on told) (g.met.B.Blocks.active on).0 r; small = g.met.B.Blocks.small on };
        later = record { present = g.met.B.Blocks.present mid; active = (g.met.B.Blocks.active mid).0; not_one = (g.met.B.Blocks.active mid).1; one = g.met.B.Blocks.one_place mid; super_stands = g.met.B.Blocks.super_stands mid; placed = λ told. g.met.B.Blocks.placed mid m.now (g.met.B.Blocks.present mid told); ranked = λ told. g.met.B.Blocks.ranked mid m.now (g.met.B.Blocks.present mid told); live = λ y told ne r. g.met.B.Blocks.live mid y told ne r; clears = g.met.B.Blocks.clears_entries mid; waits_within = g.met.B.Blocks.waits_within mid; covers_told = g.met.B.Blocks.covers_told mid; within = g.met.B.Blocks.within mid; spelled = g.met.B.Blocks.spelled mid; apart_hangs = λ told w is r. g.met.B.Blocks.apart_hangs mid m.now 1 w is (g.met.B.Blocks.present mid told) (g.met.B.Blocks.active mid).0 r; small = g.met.B.Blocks.small mid };
        is_live = refl;
        is_current = refl;
      };
      here = e.gives.memory.here;
      leads = c.requires.leads;
      was_live = c.requires.below.live;
      older = c.requires.older;
      told = c.requires.told;
      instead = e.instead;
      place = e.place;
    } in
    let none = may_cost x.link in omega (arith, none)

pub put_slot-requires-clause-tops : goal.put_slot-requires-clause-tops
put_slot-requires-clause-tops g c = λ n y lt h.
    let on = c.args.on.now in
    let mid = c.copy-copy.new.self in
    let s = g.B.Blocks.state on in
    let m = g.B.Blocks.state mid in
    let t = c.args.tree.now in
    let i = c.args.k % 409 in
    let few : i < 409 = omega arith in
    let e = c.copy-copy.ensures in
    let x : Copying t c.args.level (c.args.k / 409) c.args.above i c.args.below (record (s.label c.args.below) { state = Live; epoch = s.high; closing = 2 ^ 32 - 1 }) c.copy-copy.result s m = record {
      link = record {
        came = came e.gives;
        all = g.met.B.Blocks.keeps_all on mid e.keeps;
        above = c.requires.above;
        few = few;
        laws = record { present = g.met.B.Blocks.present on; active = (g.met.B.Blocks.active on).0; not_one = (g.met.B.Blocks.active on).1; one = g.met.B.Blocks.one_place on; super_stands = g.met.B.Blocks.super_stands on; placed = λ told. g.met.B.Blocks.placed on s.now (g.met.B.Blocks.present on told); ranked = λ told. g.met.B.Blocks.ranked on s.now (g.met.B.Blocks.present on told); live = λ y told ne r. g.met.B.Blocks.live on y told ne r; clears = g.met.B.Blocks.clears_entries on; waits_within = g.met.B.Blocks.waits_within on; covers_told = g.met.B.Blocks.covers_told on; within = g.met.B.Blocks.within on; spelled = g.met.B.Blocks.spelled on; apart_hangs = λ told w is r. g.met.B.Blocks.apart_hangs on s.now 1 w is (g.met.B.Blocks.present on told) (g.met.B.Blocks.active on).0 r; small = g.met.B.Blocks.small on };
        later = record { present = g.met.B.Blocks.present mid; active = (g.met.B.Blocks.active mid).0; not_one = (g.met.B.Blocks.active mid).1; one = g.met.B.Blocks.one_place mid; super_stands = g.met.B.Blocks.super_stands mid; placed = λ told. g.met.B.Blocks.placed mid m.now (g.met.B.Blocks.present mid told); ranked = λ told. g.met.B.Blocks.ranked mid m.now (g.met.B.Blocks.present mid told); live = λ y told ne r. g.met.B.Blocks.live mid y told ne r; clears = g.met.B.Blocks.clears_entries mid; waits_within = g.met.B.Blocks.waits_within mid; covers_told = g.met.B.Blocks.covers_told mid; within = g.met.B.Blocks.within mid; spelled = g.met.B.Blocks.spelled mid; apart_hangs = λ told w is r. g.met.B.Blocks.apart_hangs mid m.now 1 w is (g.met.B.Blocks.present mid told) (g.met.B.Blocks.active mid).0 r; small = g.met.B.Blocks.small mid };
        is_live = refl;
        is_current = refl;
      };
      here = e.gives.memory.here;
      leads = c.requires.leads;
      was_live = c.requires.below.live;
      older = c.requires.older;
      told = c.requires.told;
      instead = e.instead;
      place = e.place;
    } in
    let none = none_dropped x.link in absurd (omega (arith, lt, none))

pub returns-clause-links : goal.returns-clause-links
returns-clause-links g c =
    let on = c.args.on.now in
    let mid = c.copy-copy.new.self in
    let s = g.B.Blocks.state on in
    let m = g.B.Blocks.state mid in
    let t = c.args.tree.now in
    let i = c.args.k % 409 in
    let few : i < 409 = omega arith in
    let e = c.copy-copy.ensures in
    let x : Copying t c.args.level (c.args.k / 409) c.args.above i c.args.below (record (s.label c.args.below) { state = Live; epoch = s.high; closing = 2 ^ 32 - 1 }) c.copy-copy.result s m = record {
      link = record {
        came = came e.gives;
        all = g.met.B.Blocks.keeps_all on mid e.keeps;
        above = c.requires.above;
        few = few;
        laws = record { present = g.met.B.Blocks.present on; active = (g.met.B.Blocks.active on).0; not_one = (g.met.B.Blocks.active on).1; one = g.met.B.Blocks.one_place on; super_stands = g.met.B.Blocks.super_stands on; placed = λ told. g.met.B.Blocks.placed on s.now (g.met.B.Blocks.present on told); ranked = λ told. g.met.B.Blocks.ranked on s.now (g.met.B.Blocks.present on told); live = λ y told ne r. g.met.B.Blocks.live on y told ne r; clears = g.met.B.Blocks.clears_entries on; waits_within = g.met.B.Blocks.waits_within on; covers_told = g.met.B.Blocks.covers_told on; within = g.met.B.Blocks.within on; spelled = g.met.B.Blocks.spelled on; apart_hangs = λ told w is r. g.met.B.Blocks.apart_hangs on s.now 1 w is (g.met.B.Blocks.present on told) (g.met.B.Blocks.active on).0 r; small = g.met.B.Blocks.small on };
        later = record { present = g.met.B.Blocks.present mid; active = (g.met.B.Blocks.active mid).0; not_one = (g.met.B.Blocks.active mid).1; one = g.met.B.Blocks.one_place mid; super_stands = g.met.B.Blocks.super_stands mid; placed = λ told. g.met.B.Blocks.placed mid m.now (g.met.B.Blocks.present mid told); ranked = λ told. g.met.B.Blocks.ranked mid m.now (g.met.B.Blocks.present mid told); live = λ y told ne r. g.met.B.Blocks.live mid y told ne r; clears = g.met.B.Blocks.clears_entries mid; waits_within = g.met.B.Blocks.waits_within mid; covers_told = g.met.B.Blocks.covers_told mid; within = g.met.B.Blocks.within mid; spelled = g.met.B.Blocks.spelled mid; apart_hangs = λ told w is r. g.met.B.Blocks.apart_hangs mid m.now 1 w is (g.met.B.Blocks.present mid told) (g.met.B.Blocks.active mid).0 r; small = g.met.B.Blocks.small mid };
        is_live = refl;
        is_current = refl;
      };
      here = e.gives.memory.here;
      leads = c.requires.leads;
      was_live = c.requires.below.live;
      older = c.requires.older;
      told = c.requires.told;
      instead = e.instead;
      place = e.place;
    } in
    let end = c.put_slot.new.self in
    let u = g.B.Blocks.state end in
    let p = c.put_slot.ensures in
    let all = g.met.B.Blocks.keeps_all mid end p.keeps in
    links {s = s} {m = m} {u = u} (record {
      link = x.link;
      kind = c.requires.below.has_kind;
      tagged = c.requires.below.tagged;
      long = ap length e.gives.memory.here.bytes ∙ c.requires.below.long;
      leads = leads_on x;
      alike = λ j. inl (ap target (copy_alike x j));
      other = λ y h same. at_below x (sym same ∙ sym (local_eq h));
      raised = λ y h. ap (λ z. Local z) (sym ((e.instead y).0 h));
      in_tree = λ told y h. subst (λ z. Reaches m.now (to_block 1) z) (local_eq h) (reaches_mid x.link told 1 c.args.below super_place (x.link.laws.super_stands told) (copied_in_tree x told));
      not_apart = λ told w is h. x.link.laws.apart_hangs told w is (subst (λ z. Reaches s.now (to_block 1) z) (local_eq h) (copied_in_tree x told));
      no_one = λ told r. never_one x told (back x.link told c.args.below 1 (there t c.args.level (c.args.k / 409) i) (below_stands x told) (reaches_same {t = to_block c.args.below} (leads_on x) r));
      was_older = λ y e. subst (λ z. (s.label z).epoch < s.high) (local_eq e) c.requires.older;
      fresh = λ h. below_ne x (local_eq h);
      no_cost = may_cost x.link;
      tells_of = λ image is. g.met.B.Blocks.told mid image is;
      placed = λ image is. g.met.B.Blocks.placed mid image is;
      placed_first = record { super_at = λ image is. g.met.B.Blocks.super_stands on (g.met.B.Blocks.told on image is); each = λ image is. g.met.B.Blocks.placed on image is };
      placed_end = record { super_at = λ image is. g.met.B.Blocks.super_stands end (g.met.B.Blocks.told end image is); each = λ image is. g.met.B.Blocks.placed end image is };
      content = inl (c.args.below, refl, copied_same x, record { each = λ image is. (g.met.B.Blocks.old_is_sure mid 1 c.args.below (g.met.B.Blocks.active mid).0 (below_one x) (copied_in_mid x (x.link.all.still_tells.0 (g.met.B.Blocks.told mid image is))) (still_older x)).each image is });
      puts = p.now;
      images = p.images;
      frame = p.frame;
      hangs = p.hangs;
      order = p.order;
      no_wait = p.no_wait;
      covers = p.covers;
      all = all;
      whole = g.met.B.Blocks.keeps_all on end (g.met.B.Blocks.keeps_joins on mid end e.keeps p.keeps);
      laws = record { present = g.met.B.Blocks.present end; active = (g.met.B.Blocks.active end).0; not_one = (g.met.B.Blocks.active end).1; one = g.met.B.Blocks.one_place end; super_stands = g.met.B.Blocks.super_stands end; placed = λ told. g.met.B.Blocks.placed end u.now (g.met.B.Blocks.present end told); ranked = λ told. g.met.B.Blocks.ranked end u.now (g.met.B.Blocks.present end told); live = λ y told ne r. g.met.B.Blocks.live end y told ne r; clears = g.met.B.Blocks.clears_entries end; waits_within = g.met.B.Blocks.waits_within end; covers_told = g.met.B.Blocks.covers_told end; within = g.met.B.Blocks.within end; spelled = g.met.B.Blocks.spelled end; apart_hangs = λ told w is r. g.met.B.Blocks.apart_hangs end u.now 1 w is (g.met.B.Blocks.present end told) (g.met.B.Blocks.active end).0 r; small = g.met.B.Blocks.small end };
      sure = g.met.B.Blocks.sure end c.copy-copy.result (inr ((p.frame.stays.marks c.copy-copy.result (λ h. h)).2 x.link.came.is.2));
    })
