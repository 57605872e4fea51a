use Rattle.std.proofs.Common.{◌≡◌, ◌≢◌, ◌-◌, ◌^◌, ◌<◌, ℕ, sym, ◌∙◌, ap, subst, arith}
use Rattle.fo_image.specs.declared.types.Kind.{Kind}
use Rattle.fo_image.specs.declared.types.Label.{Label}
use Rattle.fo_image.specs.declared.types.State.TheVariants.{Live}
use Rattle.fo_crash.specs.declared.slot.Slot.{Slot}
use Rattle.fo_crash.specs.declared.place.Place.{Place}
use Rattle.fo_crash.specs.Images.{note, target}
use Rattle.fo_crash.specs.Places.{place, place_below}
use Rattle.fo_crash.proofs.Reach.{reaches_on}
use Rattle.fo_ports.specs.Blocks.{IsEntry, IsInner, SlotFits, slot_count}
use Rattle.fo_ports.specs.State.{MayPutSlot}
use Rattle.fo_ports_clients.specs.Top.{raised}
use Rattle.fo_ports_clients.proofs.Own.{apart_by}
use Rattle.fo_ports_clients.proofs.Raise.{IsOver, is_over, raised_note, raised_target}
use Rattle.fo_ports_clients.proofs.Raising.{Tops, may_hang, may_raise, at_stands, none_more}
use Rattle.fo_ports_clients.proofs.Tree.{place_note}
use Rattle.fo_ports_clients.proofs.tops.raise_top.Goals as goal

abbrev label_of : Place → ℕ → Label
label_of q epoch = record { state = Live; kind = q.kind; tag = q.tag; epoch = epoch; closing = 2 ^ 32 - 1 }

pub put_slot-requires-clause-may : goal.put_slot-requires-clause-may
put_slot-requires-clause-may g c = λ told.
    let on = c.args.on.now in
    let mid = c.new_block-top.new.self in
    let s = g.B.Blocks.state on in
    let t = g.B.Blocks.state mid in
    let at = c.args.at in
    let i = c.args.i in
    let size = c.args.size in
    let p = c.args.place in
    let top = c.new_block-top.result in
    let wanted = c.below-wanted.result in
    let old_slot = (s.now at).slot i in
    let k = g.met.B.Blocks.keeps_all on mid c.new_block-top.ensures.keeps in
    let was = k.still_tells.0 told in
    let entry : IsEntry old_slot = subst (λ (x : Kind). SlotFits x i old_slot) c.requires.entries (g.met.B.Blocks.spelled on at i c.requires.pinned (subst (λ (x : Kind). i < slot_count x) (sym c.requires.entries) c.requires.slots)) in
    let raised_is : c.raised.result ≡ raised old_slot size c.args.below = c.raised.ensures ∙ ap (λ (x : Slot). raised x size c.args.below) c.slot-slot.ensures in
    let over_is : wanted ≡ place_below p i (raised old_slot size top) = c.below-wanted.ensures ∙ place_note p i c.raised.result (raised old_slot size top) (ap note raised_is ∙ raised_note old_slot size c.args.below top) in
    let over : IsOver p i old_slot wanted = subst (λ (x : Place). IsOver p i old_slot x) (sym over_is) (is_over p i old_slot size top c.requires.place.0 entry c.requires.place.1 c.requires.depth.0) in
    let tops : Tops at i c.args.below size top p wanted s t = record {
      tells = was;
      stands = c.requires.stands was;
      is_leaf = c.requires.place.0;
      kind = c.requires.entries;
      reached = c.requires.reached was;
      entry = entry;
      leads = c.requires.leads;
      current = c.requires.below_current;
      is_over = over;
      over_is = over_is;
      gives = c.new_block-top.ensures.gives;
      place = subst (λ (x : Place). t.stands top x) (ap (λ n. place wanted.kind wanted.tag n wanted.rank) (sym over.index)) (c.new_block-top.ensures.place was);
      instead = c.new_block-top.ensures.instead;
      all = k;
      tree = record { one = g.met.B.Blocks.one_place on; placed = g.met.B.Blocks.placed on s.now (g.met.B.Blocks.present on was); falls = g.met.B.Blocks.ranked on s.now (g.met.B.Blocks.present on was); super_stands = g.met.B.Blocks.super_stands on was };
      active = (g.met.B.Blocks.active mid).0;
      one = g.met.B.Blocks.one_place mid;
      live = λ b ne r. g.met.B.Blocks.live on b was ne r;
    } in
    may_hang tops

pub put_slot-requires-2-clause-may : goal.put_slot-requires-2-clause-may
put_slot-requires-2-clause-may g c = λ told.
    let on = c.args.on.now in
    let mid = c.new_block-top.new.self in
    let s = g.B.Blocks.state on in
    let t = g.B.Blocks.state mid in
    let at = c.args.at in
    let i = c.args.i in
    let size = c.args.size in
    let p = c.args.place in
    let top = c.new_block-top.result in
    let wanted = c.below-wanted.result in
    let old_slot = (s.now at).slot i in
    let k = g.met.B.Blocks.keeps_all on mid c.new_block-top.ensures.keeps in
    let last = c.put_slot.new.self in
    let put = c.put_slot.ensures in
    let all = g.met.B.Blocks.keeps_all mid last put.keeps in
    let was = k.still_tells.0 (all.still_tells.0 told) in
    let ne : c.args.below ≢ top = apart_by (λ x. (s.label x).state) c.args.below top (λ e. c.new_block-top.ensures.gives.was.0 (sym e ∙ c.requires.below_live)) in
    let joined : t.apart c.args.below → ⊥ = λ h. g.met.B.Blocks.apart_hangs on s.now 1 c.args.below ((c.new_block-top.ensures.gives.stays.apart c.args.below ne (λ n. n)).0 h) (g.met.B.Blocks.present on was) (g.met.B.Blocks.active on).0 (reaches_on i (c.requires.reached was) c.requires.leads) in
    let led_is : c.raised-2.result ≡ raised old_slot size top = c.raised-2.ensures ∙ ap (λ (x : Slot). raised x size top) c.slot-slot.ensures in
    let entry : IsEntry old_slot = subst (λ (x : Kind). SlotFits x i old_slot) c.requires.entries (g.met.B.Blocks.spelled on at i c.requires.pinned (subst (λ (x : Kind). i < slot_count x) (sym c.requires.entries) c.requires.slots)) in
    let raised_is : c.raised.result ≡ raised old_slot size c.args.below = c.raised.ensures ∙ ap (λ (x : Slot). raised x size c.args.below) c.slot-slot.ensures in
    let over_is : wanted ≡ place_below p i (raised old_slot size top) = c.below-wanted.ensures ∙ place_note p i c.raised.result (raised old_slot size top) (ap note raised_is ∙ raised_note old_slot size c.args.below top) in
    let over : IsOver p i old_slot wanted = subst (λ (x : Place). IsOver p i old_slot x) (sym over_is) (is_over p i old_slot size top c.requires.place.0 entry c.requires.place.1 c.requires.depth.0) in
    let tops : Tops at i c.args.below size top p wanted s t = record {
      tells = was;
      stands = c.requires.stands was;
      is_leaf = c.requires.place.0;
      kind = c.requires.entries;
      reached = c.requires.reached was;
      entry = entry;
      leads = c.requires.leads;
      current = c.requires.below_current;
      is_over = over;
      over_is = over_is;
      gives = c.new_block-top.ensures.gives;
      place = subst (λ (x : Place). t.stands top x) (ap (λ n. place wanted.kind wanted.tag n wanted.rank) (sym over.index)) (c.new_block-top.ensures.place was);
      instead = c.new_block-top.ensures.instead;
      all = k;
      tree = record { one = g.met.B.Blocks.one_place on; placed = g.met.B.Blocks.placed on s.now (g.met.B.Blocks.present on was); falls = g.met.B.Blocks.ranked on s.now (g.met.B.Blocks.present on was); super_stands = g.met.B.Blocks.super_stands on was };
      active = (g.met.B.Blocks.active mid).0;
      one = g.met.B.Blocks.one_place mid;
      live = λ b ne r. g.met.B.Blocks.live on b was ne r;
    } in
    subst (λ (x : Slot). MayPutSlot (g.B.Blocks.state last) at i x) (sym led_is) (may_raise tops put.frame put.hangs put.now (put.covers (k.still_tells.1 was)) all (g.met.B.Blocks.one_place last) joined)

pub returns-clause-place : goal.returns-clause-place
returns-clause-place g c = λ was.
    let on = c.args.on.now in
    let mid = c.new_block-top.new.self in
    let s = g.B.Blocks.state on in
    let t = g.B.Blocks.state mid in
    let at = c.args.at in
    let i = c.args.i in
    let size = c.args.size in
    let p = c.args.place in
    let top = c.new_block-top.result in
    let wanted = c.below-wanted.result in
    let old_slot = (s.now at).slot i in
    let k = g.met.B.Blocks.keeps_all on mid c.new_block-top.ensures.keeps in
    let last = c.put_slot.new.self in
    let put = c.put_slot.ensures in
    let all = g.met.B.Blocks.keeps_all mid last put.keeps in
    let ne : c.args.below ≢ top = apart_by (λ x. (s.label x).state) c.args.below top (λ e. c.new_block-top.ensures.gives.was.0 (sym e ∙ c.requires.below_live)) in
    let joined : t.apart c.args.below → ⊥ = λ h. g.met.B.Blocks.apart_hangs on s.now 1 c.args.below ((c.new_block-top.ensures.gives.stays.apart c.args.below ne (λ n. n)).0 h) (g.met.B.Blocks.present on was) (g.met.B.Blocks.active on).0 (reaches_on i (c.requires.reached was) c.requires.leads) in
    let led_is : c.raised-2.result ≡ raised old_slot size top = c.raised-2.ensures ∙ ap (λ (x : Slot). raised x size top) c.slot-slot.ensures in
    let entry : IsEntry old_slot = subst (λ (x : Kind). SlotFits x i old_slot) c.requires.entries (g.met.B.Blocks.spelled on at i c.requires.pinned (subst (λ (x : Kind). i < slot_count x) (sym c.requires.entries) c.requires.slots)) in
    let raised_is : c.raised.result ≡ raised old_slot size c.args.below = c.raised.ensures ∙ ap (λ (x : Slot). raised x size c.args.below) c.slot-slot.ensures in
    let over_is : wanted ≡ place_below p i (raised old_slot size top) = c.below-wanted.ensures ∙ place_note p i c.raised.result (raised old_slot size top) (ap note raised_is ∙ raised_note old_slot size c.args.below top) in
    let over : IsOver p i old_slot wanted = subst (λ (x : Place). IsOver p i old_slot x) (sym over_is) (is_over p i old_slot size top c.requires.place.0 entry c.requires.place.1 c.requires.depth.0) in
    let tops : Tops at i c.args.below size top p wanted s t = record {
      tells = was;
      stands = c.requires.stands was;
      is_leaf = c.requires.place.0;
      kind = c.requires.entries;
      reached = c.requires.reached was;
      entry = entry;
      leads = c.requires.leads;
      current = c.requires.below_current;
      is_over = over;
      over_is = over_is;
      gives = c.new_block-top.ensures.gives;
      place = subst (λ (x : Place). t.stands top x) (ap (λ n. place wanted.kind wanted.tag n wanted.rank) (sym over.index)) (c.new_block-top.ensures.place was);
      instead = c.new_block-top.ensures.instead;
      all = k;
      tree = record { one = g.met.B.Blocks.one_place on; placed = g.met.B.Blocks.placed on s.now (g.met.B.Blocks.present on was); falls = g.met.B.Blocks.ranked on s.now (g.met.B.Blocks.present on was); super_stands = g.met.B.Blocks.super_stands on was };
      active = (g.met.B.Blocks.active mid).0;
      one = g.met.B.Blocks.one_place mid;
      live = λ b ne r. g.met.B.Blocks.live on b was ne r;
    } in
    let to : target c.raised-2.result ≡ target (raised old_slot size top) = ap target led_is in
    let there = at_stands tops put.frame put.hangs put.now (put.covers (k.still_tells.1 was)) all (g.met.B.Blocks.one_place last) joined in
    subst (λ (x : Slot). (g.B.Blocks.state c.put_slot-2.new.self).stands top (place_below p i x)) led_is (c.put_slot-2.ensures.hangs.place (all.still_tells.1 (k.still_tells.1 was)) top p there (to ∙ raised_target old_slot size top entry))

pub returns-clause-instead : goal.returns-clause-instead
returns-clause-instead g c =
    let on = c.args.on.now in
    let s = g.B.Blocks.state on in
    let at = c.args.at in
    let i = c.args.i in
    let old_slot = (s.now at).slot i in
    let top = c.new_block-top.result in
    let gives = c.new_block-top.ensures.gives in
    let entry : IsEntry old_slot = subst (λ (x : Kind). SlotFits x i old_slot) c.requires.entries (g.met.B.Blocks.spelled on at i c.requires.pinned (subst (λ (x : Kind). i < slot_count x) (sym c.requires.entries) c.requires.slots)) in
    let led_is : c.raised-2.result ≡ raised old_slot c.args.size top = c.raised-2.ensures ∙ ap (λ (x : Slot). raised x c.args.size top) c.slot-slot.ensures in
    let ne : at ≢ top = apart_by (λ x. (s.label x).state) at top (λ e. gives.was.0 (sym e ∙ c.requires.live)) in
    let kind = ap (λ (l : Label). l.kind) (c.put_slot.ensures.frame.stays.labels at (λ n. n) ∙ gives.stays.labels at ne) ∙ c.requires.entries in
    none_more gives c.put_slot.ensures.frame c.put_slot.ensures.hangs c.put_slot-2.ensures.frame c.put_slot-2.ensures.hangs (ap target led_is ∙ raised_target old_slot c.args.size top entry)
    (λ inner. let none : 0 < 0 = subst (λ (x : Kind). IsInner x) kind inner in omega (arith, none))

pub returns-clause-label : goal.returns-clause-label
returns-clause-label g c =
    let on = c.args.on.now in
    let s = g.B.Blocks.state on in
    let size = c.args.size in
    let p = c.args.place in
    let i = c.args.i in
    let top = c.new_block-top.result in
    let old_slot = (s.now c.args.at).slot i in
    let gives = c.new_block-top.ensures.gives in
    let raised_is : c.raised.result ≡ raised old_slot size c.args.below = c.raised.ensures ∙ ap (λ (x : Slot). raised x size c.args.below) c.slot-slot.ensures in
    let over_is : c.below-wanted.result ≡ place_below p i (raised old_slot size top) = c.below-wanted.ensures ∙ place_note p i c.raised.result (raised old_slot size top) (ap note raised_is ∙ raised_note old_slot size c.args.below top) in
    let label = c.put_slot-2.ensures.frame.stays.labels top (λ n. n) ∙ c.put_slot.ensures.frame.stays.labels top (λ n. n) ∙ gives.label in
    let pinned = (c.put_slot-2.ensures.frame.stays.marks top (λ n. n)).0 ((c.put_slot.ensures.frame.stays.marks top (λ n. n)).0 gives.is.1) in
    (gives.was.0, pinned, label ∙ ap (λ (q : Place). label_of q s.high) over_is)

pub returns-clause-order : goal.returns-clause-order
returns-clause-order g c = λ b j.
    let gives = c.new_block-top.ensures.gives.order in
    let first = c.put_slot.ensures.order in
    let second = c.put_slot-2.ensures.order in (
      λ h. gives.clearing b j (first.clearing b j (second.clearing b j h).1).1,
      λ ne h. second.goes_on b j (λ n. n) (first.goes_on b j (λ n. n) (gives.goes_on b j ne h)),
    )
