use Rattle.std.proofs.Common.{◌≡◌, ◌≢◌, ◌+◌, ◌*◌, ◌^◌, ◌<◌, sym, ◌∙◌, ap, subst, arith}
use Rattle.fo_image.specs.declared.types.Kind.TheVariants.{Dir}
use Rattle.fo_image.specs.declared.types.Label.{Label}
use Rattle.fo_image.specs.Format.{IsDepth}
use Rattle.fo_crash.specs.declared.slot.Slot.{Slot}
use Rattle.fo_crash.specs.Images.{target, depth_of}
use Rattle.fo_crash.specs.Places.{place, place_below}
use Rattle.fo_ports.specs.Blocks.{slot_count}
use Rattle.fo_ports_clients.specs.Top.{raised}
use Rattle.test_clients.proofs.tops.topped.Goals as goal

pub raise_top-top-requires-clause-leads : goal.raise_top-top-requires-clause-leads
raise_top-top-requires-clause-leads g c = ap target c.requires.source.entry

pub raise_top-top-requires-clause-depth : goal.raise_top-top-requires-clause-depth
raise_top-top-requires-clause-depth g c =
    subst (λ (x : Slot). (depth_of x < 4) × IsDepth 10000 (depth_of x + 1)) (sym c.requires.source.entry)
    (omega arith, record { room = omega arith; least = λ n lt. let zero_is : n ≡ 0 = omega (arith, lt) in subst (λ x. 8192 * 409 ^ x < 10000) (sym zero_is) (omega arith) })

pub slot-requires-clause-pinned : goal.slot-requires-clause-pinned
slot-requires-clause-pinned g c =
    let s = g.B.Blocks.state c.args.on.now in
    let top = c.raise_top-top.result in
    let ne : c.args.at ≢ top = λ e. c.raise_top-top.ensures.label.0 (ap (λ x. (s.label x).state) (sym e) ∙ c.requires.source.at_live) in
    (c.raise_top-top.ensures.others c.args.at ne).1 c.requires.source.at_pinned

pub slot-requires-clause-slots : goal.slot-requires-clause-slots
slot-requires-clause-slots g c =
    let s = g.B.Blocks.state c.args.on.now in
    let top = c.raise_top-top.result in
    let ne : c.args.at ≢ top = λ e. c.raise_top-top.ensures.label.0 (ap (λ x. (s.label x).state) (sym e) ∙ c.requires.source.at_live) in
    subst (λ (l : Label). 0 < slot_count l.kind) (sym (c.raise_top-top.ensures.others c.args.at ne).0) (subst (λ x. 0 < slot_count x) (sym c.requires.source.at_kind) (omega arith))

pub slot-requires-2-clause-slots : goal.slot-requires-2-clause-slots
slot-requires-2-clause-slots g c =
    subst (λ (l : Label). 0 < slot_count l.kind) (sym c.raise_top-top.ensures.label.2)
    (subst (λ (x : Slot). 0 < slot_count (place_below (place (Dir 0) 32 0 2088) 0 (raised x 10000 c.raise_top-top.result)).kind) (sym c.requires.source.entry) (omega arith))
