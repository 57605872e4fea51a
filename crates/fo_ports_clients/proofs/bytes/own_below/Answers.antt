use Rattle.std.proofs.Common.{◌≡◌, ◌≢◌, ◌<◌, sym, ◌∙◌, ap, subst}
use Rattle.fo_image.specs.declared.types.Label.{Label}
use Rattle.fo_image.specs.declared.types.Pointer.TheVariants.{Local}
use Rattle.fo_crash.specs.declared.slot.Slot.{Slot}
use Rattle.fo_crash.specs.Images.{target, note}
use Rattle.fo_crash.specs.Steps.{IsSure}
use Rattle.fo_crash.specs.Names.{SameUse}
use Rattle.fo_crash.proofs.Keeps.{copy_keeps}
use Rattle.fo_crash.proofs.Reach.{reaches_on}
use Rattle.fo_ports.specs.Blocks.{SlotFits, slot_count}
use Rattle.fo_ports_clients.specs.Own.{led}
use Rattle.fo_ports_clients.proofs.Own.{led_note, led_target, led_fits, led_use, waited_entry, one_way, apart_by, older_apart}
use Rattle.fo_ports_clients.proofs.Copies.{Copies, at_stays, may_lead, put_places, none_instead, local_eq}
use Rattle.fo_ports_clients.proofs.Tree.{Tree, standing, led_stays}
use Rattle.fo_ports_clients.proofs.bytes.own_below.Goals as goal

pub copy-copy-requires-clause-in_tree : goal.copy-copy-requires-clause-in_tree
copy-copy-requires-clause-in_tree g c = λ told. reaches_on c.args.i (c.requires.reached told) c.requires.leads

pub put_slot-requires-clause-spelled : goal.put_slot-requires-clause-spelled
put_slot-requires-clause-spelled g c =
    let on = c.args.on.now in
    let mid = c.copy-copy.new.self in
    let s = g.B.Blocks.state on in
    let t = g.B.Blocks.state mid in
    let at = c.args.at in
    let copy = c.copy-copy.result in
    let gives = c.copy-copy.ensures.gives in
    let old_slot = (s.now at).slot c.args.i in
    let at_ne : at ≢ copy = apart_by (λ x. (s.label x).state) at copy (λ e. gives.was.0 (sym e ∙ c.requires.at_live)) in
    let same : (t.now at).slot c.args.i ≡ old_slot = (gives.memory.others at at_ne).slots c.args.i in
    let led_is : c.led.result ≡ led old_slot copy = c.led.ensures ∙ ap (λ (x : Slot). led x copy) c.slot-slot.ensures in
    let notes : note c.led.result ≡ note old_slot = ap note led_is ∙ led_note old_slot copy in
    let to : target c.led.result ≡ Local copy = ap target led_is ∙ led_target old_slot c.args.below copy c.requires.leads in
    let label = gives.stays.labels at at_ne in
    let fits = led_fits (s.label at).kind c.args.i old_slot c.args.below copy c.requires.leads (g.met.B.Blocks.small mid copy gives.is.0) (g.met.B.Blocks.spelled on at c.args.i c.requires.at_pinned c.requires.slots) in
    subst (λ (l : Label). (c.args.i < slot_count l.kind) × SlotFits l.kind c.args.i c.led.result) (sym label) (c.requires.slots, subst (λ (x : Slot). SlotFits (s.label at).kind c.args.i x) (sym led_is) fits)

pub put_slot-requires-clause-leads : goal.put_slot-requires-clause-leads
put_slot-requires-clause-leads g c = λ b e.
    let on = c.args.on.now in
    let s = g.B.Blocks.state on in
    let at = c.args.at in
    let copy = c.copy-copy.result in
    let gives = c.copy-copy.ensures.gives in
    let old_slot = (s.now at).slot c.args.i in
    let at_ne : at ≢ copy = apart_by (λ x. (s.label x).state) at copy (λ e. gives.was.0 (sym e ∙ c.requires.at_live)) in
    let led_is : c.led.result ≡ led old_slot copy = c.led.ensures ∙ ap (λ (x : Slot). led x copy) c.slot-slot.ensures in
    let to : target c.led.result ≡ Local copy = ap target led_is ∙ led_target old_slot c.args.below copy c.requires.leads in
    let here : b ≡ copy = local_eq (sym e ∙ to) in
    (subst (g.B.Blocks.state c.copy-copy.new.self).is_block (sym here) gives.is.0, λ same. at_ne (sym same ∙ here))

pub put_slot-requires-clause-same_use : goal.put_slot-requires-clause-same_use
put_slot-requires-clause-same_use g c = λ a w.
    let on = c.args.on.now in
    let mid = c.copy-copy.new.self in
    let s = g.B.Blocks.state on in
    let t = g.B.Blocks.state mid in
    let at = c.args.at in
    let copy = c.copy-copy.result in
    let gives = c.copy-copy.ensures.gives in
    let old_slot = (s.now at).slot c.args.i in
    let at_ne : at ≢ copy = apart_by (λ x. (s.label x).state) at copy (λ e. gives.was.0 (sym e ∙ c.requires.at_live)) in
    let same : (t.now at).slot c.args.i ≡ old_slot = (gives.memory.others at at_ne).slots c.args.i in
    let led_is : c.led.result ≡ led old_slot copy = c.led.ensures ∙ ap (λ (x : Slot). led x copy) c.slot-slot.ensures in
    let notes : note c.led.result ≡ note old_slot = ap note led_is ∙ led_note old_slot copy in
    let to : target c.led.result ≡ Local copy = ap target led_is ∙ led_target old_slot c.args.below copy c.requires.leads in
    let label = gives.stays.labels at at_ne in
    let used = g.met.B.Blocks.waits_in_use mid a at c.args.i w in
    let lt : c.args.i < slot_count (t.label at).kind = subst (λ (l : Label). c.args.i < slot_count l.kind) (sym label) c.requires.slots in
    let entry = waited_entry t.now (t.label at).kind at c.args.i lt (λ j below. g.met.B.Blocks.spelled mid at j ((gives.stays.marks at at_ne).0 c.requires.at_pinned) below) used in
    let alike = led_use old_slot copy (λ p e. entry p (same ∙ e)) in
    subst (λ (x : Slot). SameUse x ((t.now at).slot c.args.i)) (sym led_is) (subst (λ (x : Slot). SameUse (led old_slot copy) x) (sym same) alike)

pub put_slot-requires-clause-may : goal.put_slot-requires-clause-may
put_slot-requires-clause-may g c = λ told.
    let on = c.args.on.now in
    let mid = c.copy-copy.new.self in
    let s = g.B.Blocks.state on in
    let t = g.B.Blocks.state mid in
    let at = c.args.at in
    let copy = c.copy-copy.result in
    let gives = c.copy-copy.ensures.gives in
    let old_slot = (s.now at).slot c.args.i in
    let at_ne : at ≢ copy = apart_by (λ x. (s.label x).state) at copy (λ e. gives.was.0 (sym e ∙ c.requires.at_live)) in
    let same : (t.now at).slot c.args.i ≡ old_slot = (gives.memory.others at at_ne).slots c.args.i in
    let led_is : c.led.result ≡ led old_slot copy = c.led.ensures ∙ ap (λ (x : Slot). led x copy) c.slot-slot.ensures in
    let notes : note c.led.result ≡ note old_slot = ap note led_is ∙ led_note old_slot copy in
    let to : target c.led.result ≡ Local copy = ap target led_is ∙ led_target old_slot c.args.below copy c.requires.leads in
    let k = g.met.B.Blocks.keeps_all on mid c.copy-copy.ensures.keeps in
    let was = k.still_tells.0 told in
    may_lead {below = c.args.below} {copy = copy} {s = s} (record {
      tells = was;
      at_apart = c.requires.at_apart;
      reached = c.requires.reached was;
      leads = c.requires.leads;
      older = c.requires.older;
      linked = c.requires.linked was;
      gives = gives;
      instead = c.copy-copy.ensures.instead;
      place = c.copy-copy.ensures.place was;
      notes = notes;
      to = to;
      all = k;
      tree = record { one = g.met.B.Blocks.one_place on; placed = g.met.B.Blocks.placed on s.now (g.met.B.Blocks.present on was); falls = g.met.B.Blocks.ranked on s.now (g.met.B.Blocks.present on was); super_stands = g.met.B.Blocks.super_stands on was };
      active = (g.met.B.Blocks.active mid).0;
      one = g.met.B.Blocks.one_place mid;
      live = λ b ne r. g.met.B.Blocks.live on b was ne r;
      clears = g.met.B.Blocks.clears_entries mid;
    })

pub returns-clause-shows : goal.returns-clause-shows
returns-clause-shows g c = λ told.
    let on = c.args.on.now in
    let mid = c.copy-copy.new.self in
    let s = g.B.Blocks.state on in
    let t = g.B.Blocks.state mid in
    let at = c.args.at in
    let copy = c.copy-copy.result in
    let gives = c.copy-copy.ensures.gives in
    let old_slot = (s.now at).slot c.args.i in
    let at_ne : at ≢ copy = apart_by (λ x. (s.label x).state) at copy (λ e. gives.was.0 (sym e ∙ c.requires.at_live)) in
    let same : (t.now at).slot c.args.i ≡ old_slot = (gives.memory.others at at_ne).slots c.args.i in
    let led_is : c.led.result ≡ led old_slot copy = c.led.ensures ∙ ap (λ (x : Slot). led x copy) c.slot-slot.ensures in
    let notes : note c.led.result ≡ note old_slot = ap note led_is ∙ led_note old_slot copy in
    let to : target c.led.result ≡ Local copy = ap target led_is ∙ led_target old_slot c.args.below copy c.requires.leads in
    let top = (g.met.B.Blocks.active on).0 in
    let below_ne : c.args.below ≢ copy = apart_by (λ x. (s.label x).state) c.args.below copy (λ e. gives.was.0 (sym e ∙ c.requires.below_live)) in
    let at_below : at ≢ c.args.below = older_apart (λ x. (s.label x).epoch) at c.args.below s.high c.requires.current c.requires.older in
    let sure : IsSure s.now c.args.below s.may_leave = g.met.B.Blocks.old_is_sure on 1 c.args.below top c.requires.below_apart (reaches_on c.args.i (c.requires.reached told) c.requires.leads) c.requires.older in
    record { each = λ arena is_arena. copy_keeps 1 is_arena top gives.images sure below_ne c.put_slot.ensures.images (notes ∙ ap note (sym same)) (ap target same ∙ c.requires.leads) to at_below at_ne }

pub returns-clause-one_way : goal.returns-clause-one_way
returns-clause-one_way g c = one_way (g.met.B.Blocks.active c.args.on.now).0 c.copy-copy.ensures.gives.images c.put_slot.ensures.images

pub returns-clause-place : goal.returns-clause-place
returns-clause-place g c = λ was p stands.
    let on = c.args.on.now in
    let mid = c.copy-copy.new.self in
    let s = g.B.Blocks.state on in
    let t = g.B.Blocks.state mid in
    let at = c.args.at in
    let copy = c.copy-copy.result in
    let gives = c.copy-copy.ensures.gives in
    let old_slot = (s.now at).slot c.args.i in
    let at_ne : at ≢ copy = apart_by (λ x. (s.label x).state) at copy (λ e. gives.was.0 (sym e ∙ c.requires.at_live)) in
    let same : (t.now at).slot c.args.i ≡ old_slot = (gives.memory.others at at_ne).slots c.args.i in
    let led_is : c.led.result ≡ led old_slot copy = c.led.ensures ∙ ap (λ (x : Slot). led x copy) c.slot-slot.ensures in
    let notes : note c.led.result ≡ note old_slot = ap note led_is ∙ led_note old_slot copy in
    let to : target c.led.result ≡ Local copy = ap target led_is ∙ led_target old_slot c.args.below copy c.requires.leads in
    let k = g.met.B.Blocks.keeps_all on mid c.copy-copy.ensures.keeps in
    let tree : Tree s.stands s.now = record { one = g.met.B.Blocks.one_place on; placed = g.met.B.Blocks.placed on s.now (g.met.B.Blocks.present on was); falls = g.met.B.Blocks.ranked on s.now (g.met.B.Blocks.present on was); super_stands = g.met.B.Blocks.super_stands on was } in
    let reached = c.requires.reached was in
    let copies : Copies at c.args.i c.args.below copy c.led.result s t = record {
      tells = was;
      at_apart = c.requires.at_apart;
      reached = c.requires.reached was;
      leads = c.requires.leads;
      older = c.requires.older;
      linked = c.requires.linked was;
      gives = gives;
      instead = c.copy-copy.ensures.instead;
      place = c.copy-copy.ensures.place was;
      notes = notes;
      to = to;
      all = k;
      tree = record { one = g.met.B.Blocks.one_place on; placed = g.met.B.Blocks.placed on s.now (g.met.B.Blocks.present on was); falls = g.met.B.Blocks.ranked on s.now (g.met.B.Blocks.present on was); super_stands = g.met.B.Blocks.super_stands on was };
      active = (g.met.B.Blocks.active mid).0;
      one = g.met.B.Blocks.one_place mid;
      live = λ b ne r. g.met.B.Blocks.live on b was ne r;
      clears = g.met.B.Blocks.clears_entries mid;
    } in
    let here = standing tree reached in
    let uncovered = (g.met.B.Blocks.live on at was c.requires.at_apart reached).2 in
    subst (λ q. (g.B.Blocks.state c.put_slot.new.self).stands copy q) (led_stays c.args.i c.led.result p tree reached c.requires.leads notes stands)
    (c.put_slot.ensures.hangs.place (k.still_tells.1 was) copy here.where_at (at_stays copies here.where_at here.is_there) to)

pub returns-clause-places : goal.returns-clause-places
returns-clause-places g c = λ was b p ne stands spared rooted.
    let on = c.args.on.now in
    let mid = c.copy-copy.new.self in
    let s = g.B.Blocks.state on in
    let t = g.B.Blocks.state mid in
    let at = c.args.at in
    let copy = c.copy-copy.result in
    let gives = c.copy-copy.ensures.gives in
    let old_slot = (s.now at).slot c.args.i in
    let at_ne : at ≢ copy = apart_by (λ x. (s.label x).state) at copy (λ e. gives.was.0 (sym e ∙ c.requires.at_live)) in
    let same : (t.now at).slot c.args.i ≡ old_slot = (gives.memory.others at at_ne).slots c.args.i in
    let led_is : c.led.result ≡ led old_slot copy = c.led.ensures ∙ ap (λ (x : Slot). led x copy) c.slot-slot.ensures in
    let notes : note c.led.result ≡ note old_slot = ap note led_is ∙ led_note old_slot copy in
    let to : target c.led.result ≡ Local copy = ap target led_is ∙ led_target old_slot c.args.below copy c.requires.leads in
    let told = (g.met.B.Blocks.keeps_all on mid c.copy-copy.ensures.keeps).still_tells.1 was in
    let between = gives.stays.places was b p ne (λ h. h) (λ h. spared ((c.put_slot.ensures.covers told).still b h)) (c.put_slot.ensures.frame.stays.rooted told b (λ n. n) rooted) stands in
    let new = g.B.Blocks.state c.put_slot.new.self in
    put_places told c.put_slot.ensures.frame c.put_slot.ensures.hangs b p (λ e. ne (local_eq (sym e ∙ to))) spared rooted between

pub returns-clause-linked : goal.returns-clause-linked
returns-clause-linked g c = λ told y x is.
    let on = c.args.on.now in
    let mid = c.copy-copy.new.self in
    let s = g.B.Blocks.state on in
    let t = g.B.Blocks.state mid in
    let at = c.args.at in
    let copy = c.copy-copy.result in
    let gives = c.copy-copy.ensures.gives in
    let old_slot = (s.now at).slot c.args.i in
    let at_ne : at ≢ copy = apart_by (λ x. (s.label x).state) at copy (λ e. gives.was.0 (sym e ∙ c.requires.at_live)) in
    let same : (t.now at).slot c.args.i ≡ old_slot = (gives.memory.others at at_ne).slots c.args.i in
    let led_is : c.led.result ≡ led old_slot copy = c.led.ensures ∙ ap (λ (x : Slot). led x copy) c.slot-slot.ensures in
    let notes : note c.led.result ≡ note old_slot = ap note led_is ∙ led_note old_slot copy in
    let to : target c.led.result ≡ Local copy = ap target led_is ∙ led_target old_slot c.args.below copy c.requires.leads in
    let new = g.B.Blocks.state c.put_slot.new.self in
    let between = (g.met.B.Blocks.keeps_all mid c.put_slot.new.self c.put_slot.ensures.keeps).still_tells.0 told in
    let was = (g.met.B.Blocks.keeps_all on mid c.copy-copy.ensures.keeps).still_tells.0 between in
    none_instead at copy c.args.i c.args.below c.led.result c.put_slot.ensures.frame c.put_slot.ensures.hangs to (ap target same ∙ c.requires.leads)
    (λ z w ne h. c.requires.linked was z w ((gives.stays.instead z w ne (λ n. n)).0 h)) at_ne y x is

pub returns-clause-block : goal.returns-clause-block
returns-clause-block g c = ((g.met.B.Blocks.keeps_all c.copy-copy.new.self c.put_slot.new.self c.put_slot.ensures.keeps).same_blocks c.copy-copy.result).1 c.copy-copy.ensures.gives.is.0

pub returns-clause-goes_on : goal.returns-clause-goes_on
returns-clause-goes_on g c = λ b j ne h. c.put_slot.ensures.order.goes_on b j (λ n. n) (c.copy-copy.ensures.gives.order.goes_on b j ne h)
