use Rattle.std.proofs.Common.{sym, ap, ◌∙◌}
use Rattle.std.specs.Option.{option_copied}
use Rattle.fo_image.specs.declared.types.Label.{Label}
use Rattle.fo_buffers.specs.Held.{held_at}
use Rattle.fo_bring.proofs.Copying.{good_held as bytes_good}
use Rattle.fo_mind.specs.Laws.{some_held}
use Rattle.fo_mind.proofs.Getting.{good_held}
use Rattle.fo_mind.proofs.mind.Mind.slot_held.Goals as goal

pub slot_of-requires-clause-slots : goal.slot_of-requires-clause-slots
slot_of-requires-clause-slots c =
    let self = c.args.self.now in
    let e = ap option_copied (sym c.in-Some.is) ∙ c.bytes.ensures.value in
    let some = c.requires.held in
    let kind = ap (λ (z : Label). z.kind) c.label.ensures in
    (bytes_good self.first self.count c.label.result.kind (held_at self.buffers c.args.at) c.in-Some.bytes.now e (good_held c.args.at c.label.result.kind self.holding (sym kind) some)).slots

pub label-requires : goal.label-requires
label-requires c =
    let self = c.args.self.now in
    let x = some_held (held_at self.buffers c.args.at) c.requires.held in
    self.holding.block c.args.at x.0 x.1
