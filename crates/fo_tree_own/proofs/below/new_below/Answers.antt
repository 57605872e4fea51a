use Rattle.std.proofs.Common.{◌≡◌, ◌+◌, ◌-◌, ◌/◌, ◌%◌, ◌^◌, ◌<◌, ℕ, length, inl, inr, refl, sym, ap, ◌∙◌, subst, arith}
use Rattle.fo_image.specs.declared.types.State.TheVariants.{Live}
use Rattle.fo_image.specs.declared.types.Pointer.TheVariants.{Nil}
use Rattle.fo_crash.specs.Images.{target}
use Rattle.fo_crash.specs.Places.{place}
use Rattle.fo_tree_look.specs.of_ports.State.{Gives}
use Rattle.fo_crash.proofs.Reach.{lost}
use Rattle.fo_tree_look.specs.of_ports.Blocks.{blank, IsLevel}
use Rattle.fo_tree_look.proofs.of_ports.Lengths.{length_zero_bytes}
use Rattle.fo_tree_look.specs.of_tree_read.Tree.{kind_at}
use Rattle.fo_tree_own.proofs.Link.{came, blank_leads, same, at_current, unwaited, may_spell, may_settled, may_lead, may_cost, none_dropped}
use Rattle.fo_tree_own.proofs.May.{Making, may_put, new_shown, slot_none, nil_leads, level_of}
use Rattle.fo_tree_own.proofs.After.{links}
use Rattle.fo_tree_own.proofs.below.new_below.Goals as goal

pub new_block-made-requires-clause-level : goal.new_block-made-requires-clause-level
new_block-made-requires-clause-level g c = subst (λ q. IsLevel q) (sym c.kind_at-kind.ensures) (level_of c.args.tree.now.dir c.args.level c.requires.level)

pub put_slot-requires-clause-spelled : goal.put_slot-requires-clause-spelled
put_slot-requires-clause-spelled g c =
    let on = c.args.on.now in
    let mid = c.new_block-made.new.self in
    let s = g.B.Blocks.state on in
    let m = g.B.Blocks.state mid in
    let t = c.args.tree.now in
    let i = c.args.k % 409 in
    let few : i < 409 = omega arith in
    let e = c.new_block-made.ensures in
    let gives = subst (λ q. Gives c.new_block-made.result (blank q) (record { state = Live; kind = q; tag = t.tag; epoch = s.high; closing = 2 ^ 32 - 1 }) s m) c.kind_at-kind.ensures e.gives in
    let bare : (j : ℕ) → target ((m.now c.new_block-made.result).slot j) ≡ Nil = λ j. ap target (gives.memory.here.slots j) ∙ blank_leads t.dir c.args.level j in
    let x : Making t c.args.level (c.args.k / 409) c.args.above i (record { state = Live; kind = kind_at t.dir c.args.level; tag = t.tag; epoch = s.high; closing = 2 ^ 32 - 1 }) c.new_block-made.result s m = record {
      link = record {
        came = came gives;
        all = g.met.B.Blocks.keeps_all on mid e.keeps;
        above = c.requires.above;
        few = few;
        laws = record { present = g.met.B.Blocks.present on; active = (g.met.B.Blocks.active on).0; not_one = (g.met.B.Blocks.active on).1; one = g.met.B.Blocks.one_place on; super_stands = g.met.B.Blocks.super_stands on; placed = λ told. g.met.B.Blocks.placed on s.now (g.met.B.Blocks.present on told); ranked = λ told. g.met.B.Blocks.ranked on s.now (g.met.B.Blocks.present on told); live = λ y told ne r. g.met.B.Blocks.live on y told ne r; clears = g.met.B.Blocks.clears_entries on; waits_within = g.met.B.Blocks.waits_within on; covers_told = g.met.B.Blocks.covers_told on; within = g.met.B.Blocks.within on; spelled = g.met.B.Blocks.spelled on; apart_hangs = λ told w is r. g.met.B.Blocks.apart_hangs on s.now 1 w is (g.met.B.Blocks.present on told) (g.met.B.Blocks.active on).0 r; small = g.met.B.Blocks.small on };
        later = record { present = g.met.B.Blocks.present mid; active = (g.met.B.Blocks.active mid).0; not_one = (g.met.B.Blocks.active mid).1; one = g.met.B.Blocks.one_place mid; super_stands = g.met.B.Blocks.super_stands mid; placed = λ told. g.met.B.Blocks.placed mid m.now (g.met.B.Blocks.present mid told); ranked = λ told. g.met.B.Blocks.ranked mid m.now (g.met.B.Blocks.present mid told); live = λ y told ne r. g.met.B.Blocks.live mid y told ne r; clears = g.met.B.Blocks.clears_entries mid; waits_within = g.met.B.Blocks.waits_within mid; covers_told = g.met.B.Blocks.covers_told mid; within = g.met.B.Blocks.within mid; spelled = g.met.B.Blocks.spelled mid; apart_hangs = λ told w is r. g.met.B.Blocks.apart_hangs mid m.now 1 w is (g.met.B.Blocks.present mid told) (g.met.B.Blocks.active mid).0 r; small = g.met.B.Blocks.small mid };
        is_live = refl;
        is_current = refl;
      };
      leads = λ b h. nil_leads b (sym c.requires.leads ∙ h);
      bare = λ j b h. nil_leads b (sym (bare j) ∙ h);
      low = let small = c.ranges.k.fits in omega (arith, small);
      instead = e.instead;
      place = λ told. subst (λ q. m.stands c.new_block-made.result (place q t.tag 0 (t.rank + c.args.level))) c.kind_at-kind.ensures (e.place told);
    } in
    may_spell x.link

pub put_slot-requires-clause-current : goal.put_slot-requires-clause-current
put_slot-requires-clause-current g c =
    let on = c.args.on.now in
    let mid = c.new_block-made.new.self in
    let s = g.B.Blocks.state on in
    let m = g.B.Blocks.state mid in
    let t = c.args.tree.now in
    let i = c.args.k % 409 in
    let few : i < 409 = omega arith in
    let e = c.new_block-made.ensures in
    let gives = subst (λ q. Gives c.new_block-made.result (blank q) (record { state = Live; kind = q; tag = t.tag; epoch = s.high; closing = 2 ^ 32 - 1 }) s m) c.kind_at-kind.ensures e.gives in
    let bare : (j : ℕ) → target ((m.now c.new_block-made.result).slot j) ≡ Nil = λ j. ap target (gives.memory.here.slots j) ∙ blank_leads t.dir c.args.level j in
    let x : Making t c.args.level (c.args.k / 409) c.args.above i (record { state = Live; kind = kind_at t.dir c.args.level; tag = t.tag; epoch = s.high; closing = 2 ^ 32 - 1 }) c.new_block-made.result s m = record {
      link = record {
        came = came gives;
        all = g.met.B.Blocks.keeps_all on mid e.keeps;
        above = c.requires.above;
        few = few;
        laws = record { present = g.met.B.Blocks.present on; active = (g.met.B.Blocks.active on).0; not_one = (g.met.B.Blocks.active on).1; one = g.met.B.Blocks.one_place on; super_stands = g.met.B.Blocks.super_stands on; placed = λ told. g.met.B.Blocks.placed on s.now (g.met.B.Blocks.present on told); ranked = λ told. g.met.B.Blocks.ranked on s.now (g.met.B.Blocks.present on told); live = λ y told ne r. g.met.B.Blocks.live on y told ne r; clears = g.met.B.Blocks.clears_entries on; waits_within = g.met.B.Blocks.waits_within on; covers_told = g.met.B.Blocks.covers_told on; within = g.met.B.Blocks.within on; spelled = g.met.B.Blocks.spelled on; apart_hangs = λ told w is r. g.met.B.Blocks.apart_hangs on s.now 1 w is (g.met.B.Blocks.present on told) (g.met.B.Blocks.active on).0 r; small = g.met.B.Blocks.small on };
        later = record { present = g.met.B.Blocks.present mid; active = (g.met.B.Blocks.active mid).0; not_one = (g.met.B.Blocks.active mid).1; one = g.met.B.Blocks.one_place mid; super_stands = g.met.B.Blocks.super_stands mid; placed = λ told. g.met.B.Blocks.placed mid m.now (g.met.B.Blocks.present mid told); ranked = λ told. g.met.B.Blocks.ranked mid m.now (g.met.B.Blocks.present mid told); live = λ y told ne r. g.met.B.Blocks.live mid y told ne r; clears = g.met.B.Blocks.clears_entries mid; waits_within = g.met.B.Blocks.waits_within mid; covers_told = g.met.B.Blocks.covers_told mid; within = g.met.B.Blocks.within mid; spelled = g.met.B.Blocks.spelled mid; apart_hangs = λ told w is r. g.met.B.Blocks.apart_hangs mid m.now 1 w is (g.met.B.Blocks.present mid told) (g.met.B.Blocks.active mid).0 r; small = g.met.B.Blocks.small mid };
        is_live = refl;
        is_current = refl;
      };
      leads = λ b h. nil_leads b (sym c.requires.leads ∙ h);
      bare = λ j b h. nil_leads b (sym (bare j) ∙ h);
      low = let small = c.ranges.k.fits in omega (arith, small);
      instead = e.instead;
      place = λ told. subst (λ q. m.stands c.new_block-made.result (place q t.tag 0 (t.rank + c.args.level))) c.kind_at-kind.ensures (e.place told);
    } in
    at_current x.link

pub put_slot-requires-clause-settled : goal.put_slot-requires-clause-settled
put_slot-requires-clause-settled g c =
    let on = c.args.on.now in
    let mid = c.new_block-made.new.self in
    let s = g.B.Blocks.state on in
    let m = g.B.Blocks.state mid in
    let t = c.args.tree.now in
    let i = c.args.k % 409 in
    let few : i < 409 = omega arith in
    let e = c.new_block-made.ensures in
    let gives = subst (λ q. Gives c.new_block-made.result (blank q) (record { state = Live; kind = q; tag = t.tag; epoch = s.high; closing = 2 ^ 32 - 1 }) s m) c.kind_at-kind.ensures e.gives in
    let bare : (j : ℕ) → target ((m.now c.new_block-made.result).slot j) ≡ Nil = λ j. ap target (gives.memory.here.slots j) ∙ blank_leads t.dir c.args.level j in
    let x : Making t c.args.level (c.args.k / 409) c.args.above i (record { state = Live; kind = kind_at t.dir c.args.level; tag = t.tag; epoch = s.high; closing = 2 ^ 32 - 1 }) c.new_block-made.result s m = record {
      link = record {
        came = came gives;
        all = g.met.B.Blocks.keeps_all on mid e.keeps;
        above = c.requires.above;
        few = few;
        laws = record { present = g.met.B.Blocks.present on; active = (g.met.B.Blocks.active on).0; not_one = (g.met.B.Blocks.active on).1; one = g.met.B.Blocks.one_place on; super_stands = g.met.B.Blocks.super_stands on; placed = λ told. g.met.B.Blocks.placed on s.now (g.met.B.Blocks.present on told); ranked = λ told. g.met.B.Blocks.ranked on s.now (g.met.B.Blocks.present on told); live = λ y told ne r. g.met.B.Blocks.live on y told ne r; clears = g.met.B.Blocks.clears_entries on; waits_within = g.met.B.Blocks.waits_within on; covers_told = g.met.B.Blocks.covers_told on; within = g.met.B.Blocks.within on; spelled = g.met.B.Blocks.spelled on; apart_hangs = λ told w is r. g.met.B.Blocks.apart_hangs on s.now 1 w is (g.met.B.Blocks.present on told) (g.met.B.Blocks.active on).0 r; small = g.met.B.Blocks.small on };
        later = record { present = g.met.B.Blocks.present mid; active = (g.met.B.Blocks.active mid).0; not_one = (g.met.B.Blocks.active mid).1; one = g.met.B.Blocks.one_place mid; super_stands = g.met.B.Blocks.super_stands mid; placed = λ told. g.met.B.Blocks.placed mid m.now (g.met.B.Blocks.present mid told); ranked = λ told. g.met.B.Blocks.ranked mid m.now (g.met.B.Blocks.present mid told); live = λ y told ne r. g.met.B.Blocks.live mid y told ne r; clears = g.met.B.Blocks.clears_entries mid; waits_within = g.met.B.Blocks.waits_within mid; covers_told = g.met.B.Blocks.covers_told mid; within = g.met.B.Blocks.within mid; spelled = g.met.B.Blocks.spelled mid; apart_hangs = λ told w is r. g.met.B.Blocks.apart_hangs mid m.now 1 w is (g.met.B.Blocks.present mid told) (g.met.B.Blocks.active mid).0 r; small = g.met.B.Blocks.small mid };
        is_live = refl;
        is_current = refl;
      };
      leads = λ b h. nil_leads b (sym c.requires.leads ∙ h);
      bare = λ j b h. nil_leads b (sym (bare j) ∙ h);
      low = let small = c.ranges.k.fits in omega (arith, small);
      instead = e.instead;
      place = λ told. subst (λ q. m.stands c.new_block-made.result (place q t.tag 0 (t.rank + c.args.level))) c.kind_at-kind.ensures (e.place told);
    } in
    may_settled x.link

pub put_slot-requires-clause-same_use : goal.put_slot-requires-clause-same_use
put_slot-requires-clause-same_use g c = λ a w.
    let on = c.args.on.now in
    let mid = c.new_block-made.new.self in
    let s = g.B.Blocks.state on in
    let m = g.B.Blocks.state mid in
    let t = c.args.tree.now in
    let i = c.args.k % 409 in
    let few : i < 409 = omega arith in
    let e = c.new_block-made.ensures in
    let gives = subst (λ q. Gives c.new_block-made.result (blank q) (record { state = Live; kind = q; tag = t.tag; epoch = s.high; closing = 2 ^ 32 - 1 }) s m) c.kind_at-kind.ensures e.gives in
    let bare : (j : ℕ) → target ((m.now c.new_block-made.result).slot j) ≡ Nil = λ j. ap target (gives.memory.here.slots j) ∙ blank_leads t.dir c.args.level j in
    let x : Making t c.args.level (c.args.k / 409) c.args.above i (record { state = Live; kind = kind_at t.dir c.args.level; tag = t.tag; epoch = s.high; closing = 2 ^ 32 - 1 }) c.new_block-made.result s m = record {
      link = record {
        came = came gives;
        all = g.met.B.Blocks.keeps_all on mid e.keeps;
        above = c.requires.above;
        few = few;
        laws = record { present = g.met.B.Blocks.present on; active = (g.met.B.Blocks.active on).0; not_one = (g.met.B.Blocks.active on).1; one = g.met.B.Blocks.one_place on; super_stands = g.met.B.Blocks.super_stands on; placed = λ told. g.met.B.Blocks.placed on s.now (g.met.B.Blocks.present on told); ranked = λ told. g.met.B.Blocks.ranked on s.now (g.met.B.Blocks.present on told); live = λ y told ne r. g.met.B.Blocks.live on y told ne r; clears = g.met.B.Blocks.clears_entries on; waits_within = g.met.B.Blocks.waits_within on; covers_told = g.met.B.Blocks.covers_told on; within = g.met.B.Blocks.within on; spelled = g.met.B.Blocks.spelled on; apart_hangs = λ told w is r. g.met.B.Blocks.apart_hangs on s.now 1 w is (g.met.B.Blocks.present on told) (g.met.B.Blocks.active on).0 r; small = g.met.B.Blocks.small on };
        later = record { present = g.met.B.Blocks.present mid; active = (g.met.B.Blocks.active mid).0; not_one = (g.met.B.Blocks.active mid).1; one = g.met.B.Blocks.one_place mid; super_stands = g.met.B.Blocks.super_stands mid; placed = λ told. g.met.B.Blocks.placed mid m.now (g.met.B.Blocks.present mid told); ranked = λ told. g.met.B.Blocks.ranked mid m.now (g.met.B.Blocks.present mid told); live = λ y told ne r. g.met.B.Blocks.live mid y told ne r; clears = g.met.B.Blocks.clears_entries mid; waits_within = g.met.B.Blocks.waits_within mid; covers_told = g.met.B.Blocks.covers_told mid; within = g.met.B.Blocks.within mid; spelled = g.met.B.Blocks.spelled mid; apart_hangs = λ told w is r. g.met.B.Blocks.apart_hangs mid m.now 1 w is (g.met.B.Blocks.present mid told) (g.met.B.Blocks.active mid).0 r; small = g.met.B.Blocks.small mid };
        is_live = refl;
        is_current = refl;
      };
      leads = λ b h. nil_leads b (sym c.requires.leads ∙ h);
      bare = λ j b h. nil_leads b (sym (bare j) ∙ h);
      low = let small = c.ranges.k.fits in omega (arith, small);
      instead = e.instead;
      place = λ told. subst (λ q. m.stands c.new_block-made.result (place q t.tag 0 (t.rank + c.args.level))) c.kind_at-kind.ensures (e.place told);
    } in
    absurd (unwaited x.link a i w)

pub put_slot-requires-clause-leads : goal.put_slot-requires-clause-leads
put_slot-requires-clause-leads g c =
    let on = c.args.on.now in
    let mid = c.new_block-made.new.self in
    let s = g.B.Blocks.state on in
    let m = g.B.Blocks.state mid in
    let t = c.args.tree.now in
    let i = c.args.k % 409 in
    let few : i < 409 = omega arith in
    let e = c.new_block-made.ensures in
    let gives = subst (λ q. Gives c.new_block-made.result (blank q) (record { state = Live; kind = q; tag = t.tag; epoch = s.high; closing = 2 ^ 32 - 1 }) s m) c.kind_at-kind.ensures e.gives in
    let bare : (j : ℕ) → target ((m.now c.new_block-made.result).slot j) ≡ Nil = λ j. ap target (gives.memory.here.slots j) ∙ blank_leads t.dir c.args.level j in
    let x : Making t c.args.level (c.args.k / 409) c.args.above i (record { state = Live; kind = kind_at t.dir c.args.level; tag = t.tag; epoch = s.high; closing = 2 ^ 32 - 1 }) c.new_block-made.result s m = record {
      link = record {
        came = came gives;
        all = g.met.B.Blocks.keeps_all on mid e.keeps;
        above = c.requires.above;
        few = few;
        laws = record { present = g.met.B.Blocks.present on; active = (g.met.B.Blocks.active on).0; not_one = (g.met.B.Blocks.active on).1; one = g.met.B.Blocks.one_place on; super_stands = g.met.B.Blocks.super_stands on; placed = λ told. g.met.B.Blocks.placed on s.now (g.met.B.Blocks.present on told); ranked = λ told. g.met.B.Blocks.ranked on s.now (g.met.B.Blocks.present on told); live = λ y told ne r. g.met.B.Blocks.live on y told ne r; clears = g.met.B.Blocks.clears_entries on; waits_within = g.met.B.Blocks.waits_within on; covers_told = g.met.B.Blocks.covers_told on; within = g.met.B.Blocks.within on; spelled = g.met.B.Blocks.spelled on; apart_hangs = λ told w is r. g.met.B.Blocks.apart_hangs on s.now 1 w is (g.met.B.Blocks.present on told) (g.met.B.Blocks.active on).0 r; small = g.met.B.Blocks.small on };
        later = record { present = g.met.B.Blocks.present mid; active = (g.met.B.Blocks.active mid).0; not_one = (g.met.B.Blocks.active mid).1; one = g.met.B.Blocks.one_place mid; super_stands = g.met.B.Blocks.super_stands mid; placed = λ told. g.met.B.Blocks.placed mid m.now (g.met.B.Blocks.present mid told); ranked = λ told. g.met.B.Blocks.ranked mid m.now (g.met.B.Blocks.present mid told); live = λ y told ne r. g.met.B.Blocks.live mid y told ne r; clears = g.met.B.Blocks.clears_entries mid; waits_within = g.met.B.Blocks.waits_within mid; covers_told = g.met.B.Blocks.covers_told mid; within = g.met.B.Blocks.within mid; spelled = g.met.B.Blocks.spelled mid; apart_hangs = λ told w is r. g.met.B.Blocks.apart_hangs mid m.now 1 w is (g.met.B.Blocks.present mid told) (g.met.B.Blocks.active mid).0 r; small = g.met.B.Blocks.small mid };
        is_live = refl;
        is_current = refl;
      };
      leads = λ b h. nil_leads b (sym c.requires.leads ∙ h);
      bare = λ j b h. nil_leads b (sym (bare j) ∙ h);
      low = let small = c.ranges.k.fits in omega (arith, small);
      instead = e.instead;
      place = λ told. subst (λ q. m.stands c.new_block-made.result (place q t.tag 0 (t.rank + c.args.level))) c.kind_at-kind.ensures (e.place told);
    } in
    may_lead x.link

pub put_slot-requires-clause-may : goal.put_slot-requires-clause-may
put_slot-requires-clause-may g c = λ now.
    let on = c.args.on.now in
    let mid = c.new_block-made.new.self in
    let s = g.B.Blocks.state on in
    let m = g.B.Blocks.state mid in
    let t = c.args.tree.now in
    let i = c.args.k % 409 in
    let few : i < 409 = omega arith in
    let e = c.new_block-made.ensures in
    let gives = subst (λ q. Gives c.new_block-made.result (blank q) (record { state = Live; kind = q; tag = t.tag; epoch = s.high; closing = 2 ^ 32 - 1 }) s m) c.kind_at-kind.ensures e.gives in
    let bare : (j : ℕ) → target ((m.now c.new_block-made.result).slot j) ≡ Nil = λ j. ap target (gives.memory.here.slots j) ∙ blank_leads t.dir c.args.level j in
    let x : Making t c.args.level (c.args.k / 409) c.args.above i (record { state = Live; kind = kind_at t.dir c.args.level; tag = t.tag; epoch = s.high; closing = 2 ^ 32 - 1 }) c.new_block-made.result s m = record {
      link = record {
        came = came gives;
        all = g.met.B.Blocks.keeps_all on mid e.keeps;
        above = c.requires.above;
        few = few;
        laws = record { present = g.met.B.Blocks.present on; active = (g.met.B.Blocks.active on).0; not_one = (g.met.B.Blocks.active on).1; one = g.met.B.Blocks.one_place on; super_stands = g.met.B.Blocks.super_stands on; placed = λ told. g.met.B.Blocks.placed on s.now (g.met.B.Blocks.present on told); ranked = λ told. g.met.B.Blocks.ranked on s.now (g.met.B.Blocks.present on told); live = λ y told ne r. g.met.B.Blocks.live on y told ne r; clears = g.met.B.Blocks.clears_entries on; waits_within = g.met.B.Blocks.waits_within on; covers_told = g.met.B.Blocks.covers_told on; within = g.met.B.Blocks.within on; spelled = g.met.B.Blocks.spelled on; apart_hangs = λ told w is r. g.met.B.Blocks.apart_hangs on s.now 1 w is (g.met.B.Blocks.present on told) (g.met.B.Blocks.active on).0 r; small = g.met.B.Blocks.small on };
        later = record { present = g.met.B.Blocks.present mid; active = (g.met.B.Blocks.active mid).0; not_one = (g.met.B.Blocks.active mid).1; one = g.met.B.Blocks.one_place mid; super_stands = g.met.B.Blocks.super_stands mid; placed = λ told. g.met.B.Blocks.placed mid m.now (g.met.B.Blocks.present mid told); ranked = λ told. g.met.B.Blocks.ranked mid m.now (g.met.B.Blocks.present mid told); live = λ y told ne r. g.met.B.Blocks.live mid y told ne r; clears = g.met.B.Blocks.clears_entries mid; waits_within = g.met.B.Blocks.waits_within mid; covers_told = g.met.B.Blocks.covers_told mid; within = g.met.B.Blocks.within mid; spelled = g.met.B.Blocks.spelled mid; apart_hangs = λ told w is r. g.met.B.Blocks.apart_hangs mid m.now 1 w is (g.met.B.Blocks.present mid told) (g.met.B.Blocks.active mid).0 r; small = g.met.B.Blocks.small mid };
        is_live = refl;
        is_current = refl;
      };
      leads = λ b h. nil_leads b (sym c.requires.leads ∙ h);
      bare = λ j b h. nil_leads b (sym (bare j) ∙ h);
      low = let small = c.ranges.k.fits in omega (arith, small);
      instead = e.instead;
      place = λ told. subst (λ q. m.stands c.new_block-made.result (place q t.tag 0 (t.rank + c.args.level))) c.kind_at-kind.ensures (e.place told);
    } in
    let told = x.link.all.still_tells.0 now in may_put x.link told (new_shown x told)

pub put_slot-requires-clause-room : goal.put_slot-requires-clause-room
put_slot-requires-clause-room g c =
    let on = c.args.on.now in
    let mid = c.new_block-made.new.self in
    let s = g.B.Blocks.state on in
    let m = g.B.Blocks.state mid in
    let t = c.args.tree.now in
    let i = c.args.k % 409 in
    let few : i < 409 = omega arith in
    let e = c.new_block-made.ensures in
    let gives = subst (λ q. Gives c.new_block-made.result (blank q) (record { state = Live; kind = q; tag = t.tag; epoch = s.high; closing = 2 ^ 32 - 1 }) s m) c.kind_at-kind.ensures e.gives in
    let bare : (j : ℕ) → target ((m.now c.new_block-made.result).slot j) ≡ Nil = λ j. ap target (gives.memory.here.slots j) ∙ blank_leads t.dir c.args.level j in
    let x : Making t c.args.level (c.args.k / 409) c.args.above i (record { state = Live; kind = kind_at t.dir c.args.level; tag = t.tag; epoch = s.high; closing = 2 ^ 32 - 1 }) c.new_block-made.result s m = record {
      link = record {
        came = came gives;
        all = g.met.B.Blocks.keeps_all on mid e.keeps;
        above = c.requires.above;
        few = few;
        laws = record { present = g.met.B.Blocks.present on; active = (g.met.B.Blocks.active on).0; not_one = (g.met.B.Blocks.active on).1; one = g.met.B.Blocks.one_place on; super_stands = g.met.B.Blocks.super_stands on; placed = λ told. g.met.B.Blocks.placed on s.now (g.met.B.Blocks.present on told); ranked = λ told. g.met.B.Blocks.ranked on s.now (g.met.B.Blocks.present on told); live = λ y told ne r. g.met.B.Blocks.live on y told ne r; clears = g.met.B.Blocks.clears_entries on; waits_within = g.met.B.Blocks.waits_within on; covers_told = g.met.B.Blocks.covers_told on; within = g.met.B.Blocks.within on; spelled = g.met.B.Blocks.spelled on; apart_hangs = λ told w is r. g.met.B.Blocks.apart_hangs on s.now 1 w is (g.met.B.Blocks.present on told) (g.met.B.Blocks.active on).0 r; small = g.met.B.Blocks.small on };
        later = record { present = g.met.B.Blocks.present mid; active = (g.met.B.Blocks.active mid).0; not_one = (g.met.B.Blocks.active mid).1; one = g.met.B.Blocks.one_place mid; super_stands = g.met.B.Blocks.super_stands mid; placed = λ told. g.met.B.Blocks.placed mid m.now (g.met.B.Blocks.present mid told); ranked = λ told. g.met.B.Blocks.ranked mid m.now (g.met.B.Blocks.present mid told); live = λ y told ne r. g.met.B.Blocks.live mid y told ne r; clears = g.met.B.Blocks.clears_entries mid; waits_within = g.met.B.Blocks.waits_within mid; covers_told = g.met.B.Blocks.covers_told mid; within = g.met.B.Blocks.within mid; spelled = g.met.B.Blocks.spelled mid; apart_hangs = λ told w is r. g.met.B.Blocks.apart_hangs mid m.now 1 w is (g.met.B.Blocks.present mid told) (g.met.B.Blocks.active mid).0 r; small = g.met.B.Blocks.small mid };
        is_live = refl;
        is_current = refl;
      };
      leads = λ b h. nil_leads b (sym c.requires.leads ∙ h);
      bare = λ j b h. nil_leads b (sym (bare j) ∙ h);
      low = let small = c.ranges.k.fits in omega (arith, small);
      instead = e.instead;
      place = λ told. subst (λ q. m.stands c.new_block-made.result (place q t.tag 0 (t.rank + c.args.level))) c.kind_at-kind.ensures (e.place told);
    } in
    let none = may_cost x.link in omega (arith, none)

pub put_slot-requires-clause-tops : goal.put_slot-requires-clause-tops
put_slot-requires-clause-tops g c = λ n y lt h.
    let on = c.args.on.now in
    let mid = c.new_block-made.new.self in
    let s = g.B.Blocks.state on in
    let m = g.B.Blocks.state mid in
    let t = c.args.tree.now in
    let i = c.args.k % 409 in
    let few : i < 409 = omega arith in
    let e = c.new_block-made.ensures in
    let gives = subst (λ q. Gives c.new_block-made.result (blank q) (record { state = Live; kind = q; tag = t.tag; epoch = s.high; closing = 2 ^ 32 - 1 }) s m) c.kind_at-kind.ensures e.gives in
    let bare : (j : ℕ) → target ((m.now c.new_block-made.result).slot j) ≡ Nil = λ j. ap target (gives.memory.here.slots j) ∙ blank_leads t.dir c.args.level j in
    let x : Making t c.args.level (c.args.k / 409) c.args.above i (record { state = Live; kind = kind_at t.dir c.args.level; tag = t.tag; epoch = s.high; closing = 2 ^ 32 - 1 }) c.new_block-made.result s m = record {
      link = record {
        came = came gives;
        all = g.met.B.Blocks.keeps_all on mid e.keeps;
        above = c.requires.above;
        few = few;
        laws = record { present = g.met.B.Blocks.present on; active = (g.met.B.Blocks.active on).0; not_one = (g.met.B.Blocks.active on).1; one = g.met.B.Blocks.one_place on; super_stands = g.met.B.Blocks.super_stands on; placed = λ told. g.met.B.Blocks.placed on s.now (g.met.B.Blocks.present on told); ranked = λ told. g.met.B.Blocks.ranked on s.now (g.met.B.Blocks.present on told); live = λ y told ne r. g.met.B.Blocks.live on y told ne r; clears = g.met.B.Blocks.clears_entries on; waits_within = g.met.B.Blocks.waits_within on; covers_told = g.met.B.Blocks.covers_told on; within = g.met.B.Blocks.within on; spelled = g.met.B.Blocks.spelled on; apart_hangs = λ told w is r. g.met.B.Blocks.apart_hangs on s.now 1 w is (g.met.B.Blocks.present on told) (g.met.B.Blocks.active on).0 r; small = g.met.B.Blocks.small on };
        later = record { present = g.met.B.Blocks.present mid; active = (g.met.B.Blocks.active mid).0; not_one = (g.met.B.Blocks.active mid).1; one = g.met.B.Blocks.one_place mid; super_stands = g.met.B.Blocks.super_stands mid; placed = λ told. g.met.B.Blocks.placed mid m.now (g.met.B.Blocks.present mid told); ranked = λ told. g.met.B.Blocks.ranked mid m.now (g.met.B.Blocks.present mid told); live = λ y told ne r. g.met.B.Blocks.live mid y told ne r; clears = g.met.B.Blocks.clears_entries mid; waits_within = g.met.B.Blocks.waits_within mid; covers_told = g.met.B.Blocks.covers_told mid; within = g.met.B.Blocks.within mid; spelled = g.met.B.Blocks.spelled mid; apart_hangs = λ told w is r. g.met.B.Blocks.apart_hangs mid m.now 1 w is (g.met.B.Blocks.present mid told) (g.met.B.Blocks.active mid).0 r; small = g.met.B.Blocks.small mid };
        is_live = refl;
        is_current = refl;
      };
      leads = λ b h. nil_leads b (sym c.requires.leads ∙ h);
      bare = λ j b h. nil_leads b (sym (bare j) ∙ h);
      low = let small = c.ranges.k.fits in omega (arith, small);
      instead = e.instead;
      place = λ told. subst (λ q. m.stands c.new_block-made.result (place q t.tag 0 (t.rank + c.args.level))) c.kind_at-kind.ensures (e.place told);
    } in
    let none = none_dropped x.link in absurd (omega (arith, lt, none))

pub returns-clause-links : goal.returns-clause-links
returns-clause-links g c =
    let on = c.args.on.now in
    let mid = c.new_block-made.new.self in
    let s = g.B.Blocks.state on in
    let m = g.B.Blocks.state mid in
    let t = c.args.tree.now in
    let i = c.args.k % 409 in
    let few : i < 409 = omega arith in
    let e = c.new_block-made.ensures in
    let gives = subst (λ q. Gives c.new_block-made.result (blank q) (record { state = Live; kind = q; tag = t.tag; epoch = s.high; closing = 2 ^ 32 - 1 }) s m) c.kind_at-kind.ensures e.gives in
    let bare : (j : ℕ) → target ((m.now c.new_block-made.result).slot j) ≡ Nil = λ j. ap target (gives.memory.here.slots j) ∙ blank_leads t.dir c.args.level j in
    let x : Making t c.args.level (c.args.k / 409) c.args.above i (record { state = Live; kind = kind_at t.dir c.args.level; tag = t.tag; epoch = s.high; closing = 2 ^ 32 - 1 }) c.new_block-made.result s m = record {
      link = record {
        came = came gives;
        all = g.met.B.Blocks.keeps_all on mid e.keeps;
        above = c.requires.above;
        few = few;
        laws = record { present = g.met.B.Blocks.present on; active = (g.met.B.Blocks.active on).0; not_one = (g.met.B.Blocks.active on).1; one = g.met.B.Blocks.one_place on; super_stands = g.met.B.Blocks.super_stands on; placed = λ told. g.met.B.Blocks.placed on s.now (g.met.B.Blocks.present on told); ranked = λ told. g.met.B.Blocks.ranked on s.now (g.met.B.Blocks.present on told); live = λ y told ne r. g.met.B.Blocks.live on y told ne r; clears = g.met.B.Blocks.clears_entries on; waits_within = g.met.B.Blocks.waits_within on; covers_told = g.met.B.Blocks.covers_told on; within = g.met.B.Blocks.within on; spelled = g.met.B.Blocks.spelled on; apart_hangs = λ told w is r. g.met.B.Blocks.apart_hangs on s.now 1 w is (g.met.B.Blocks.present on told) (g.met.B.Blocks.active on).0 r; small = g.met.B.Blocks.small on };
        later = record { present = g.met.B.Blocks.present mid; active = (g.met.B.Blocks.active mid).0; not_one = (g.met.B.Blocks.active mid).1; one = g.met.B.Blocks.one_place mid; super_stands = g.met.B.Blocks.super_stands mid; placed = λ told. g.met.B.Blocks.placed mid m.now (g.met.B.Blocks.present mid told); ranked = λ told. g.met.B.Blocks.ranked mid m.now (g.met.B.Blocks.present mid told); live = λ y told ne r. g.met.B.Blocks.live mid y told ne r; clears = g.met.B.Blocks.clears_entries mid; waits_within = g.met.B.Blocks.waits_within mid; covers_told = g.met.B.Blocks.covers_told mid; within = g.met.B.Blocks.within mid; spelled = g.met.B.Blocks.spelled mid; apart_hangs = λ told w is r. g.met.B.Blocks.apart_hangs mid m.now 1 w is (g.met.B.Blocks.present mid told) (g.met.B.Blocks.active mid).0 r; small = g.met.B.Blocks.small mid };
        is_live = refl;
        is_current = refl;
      };
      leads = λ b h. nil_leads b (sym c.requires.leads ∙ h);
      bare = λ j b h. nil_leads b (sym (bare j) ∙ h);
      low = let small = c.ranges.k.fits in omega (arith, small);
      instead = e.instead;
      place = λ told. subst (λ q. m.stands c.new_block-made.result (place q t.tag 0 (t.rank + c.args.level))) c.kind_at-kind.ensures (e.place told);
    } in
    let end = c.put_slot.new.self in
    let u = g.B.Blocks.state end in
    let p = c.put_slot.ensures in
    let all = g.met.B.Blocks.keeps_all mid end p.keeps in
    links {s = s} {m = m} {u = u} (record {
      link = x.link;
      kind = refl;
      tagged = refl;
      long = ap length gives.memory.here.bytes ∙ length_zero_bytes;
      leads = ap target (same x.link i) ∙ c.requires.leads;
      alike = λ j. inl (bare j);
      other = λ y h. absurd (nil_leads y h);
      raised = λ y h. absurd (e.instead y h);
      in_tree = λ told y h. absurd (nil_leads y h);
      not_apart = λ told w is h. nil_leads w h;
      no_one = λ told r. lost m.now r.path ((m.now c.args.above).slot i) (slot_none x) 1 r.leads;
      was_older = λ y h. absurd (nil_leads y h);
      fresh = λ h. nil_leads c.new_block-made.result h;
      no_cost = may_cost x.link;
      tells_of = λ image is. g.met.B.Blocks.told mid image is;
      placed = λ image is. g.met.B.Blocks.placed mid image is;
      placed_first = record { super_at = λ image is. g.met.B.Blocks.super_stands on (g.met.B.Blocks.told on image is); each = λ image is. g.met.B.Blocks.placed on image is };
      placed_end = record { super_at = λ image is. g.met.B.Blocks.super_stands end (g.met.B.Blocks.told end image is); each = λ image is. g.met.B.Blocks.placed end image is };
      content = inr (λ j b h. nil_leads b (sym (bare j) ∙ h), inl gives.memory.here.bytes, nil_leads);
      puts = p.now;
      images = p.images;
      frame = p.frame;
      hangs = p.hangs;
      order = p.order;
      no_wait = p.no_wait;
      covers = p.covers;
      all = all;
      whole = g.met.B.Blocks.keeps_all on end (g.met.B.Blocks.keeps_joins on mid end e.keeps p.keeps);
      laws = record { present = g.met.B.Blocks.present end; active = (g.met.B.Blocks.active end).0; not_one = (g.met.B.Blocks.active end).1; one = g.met.B.Blocks.one_place end; super_stands = g.met.B.Blocks.super_stands end; placed = λ told. g.met.B.Blocks.placed end u.now (g.met.B.Blocks.present end told); ranked = λ told. g.met.B.Blocks.ranked end u.now (g.met.B.Blocks.present end told); live = λ y told ne r. g.met.B.Blocks.live end y told ne r; clears = g.met.B.Blocks.clears_entries end; waits_within = g.met.B.Blocks.waits_within end; covers_told = g.met.B.Blocks.covers_told end; within = g.met.B.Blocks.within end; spelled = g.met.B.Blocks.spelled end; apart_hangs = λ told w is r. g.met.B.Blocks.apart_hangs end u.now 1 w is (g.met.B.Blocks.present end told) (g.met.B.Blocks.active end).0 r; small = g.met.B.Blocks.small end };
      sure = g.met.B.Blocks.sure end c.new_block-made.result (inr ((p.frame.stays.marks c.new_block-made.result (λ h. h)).2 x.link.came.is.2));
    })
