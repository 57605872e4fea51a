use Rattle.std.proofs.Common.{◌∙◌, sym, ap}
use Rattle.std.specs.Option.{option_copied}
use Rattle.fo_image.specs.declared.types.Label.{Label}
use Rattle.fo_taking.proofs.Stepping.{block_of, held_kind, none_held}
use Rattle.fo_taking.proofs.taking.held_as.Goals as goal

pub label-requires : goal.label-requires
label-requires c = block_of c.args.labels.now c.args.buffers.now c.args.x.now.at c.in-Some.bytes.now (ap option_copied (sym c.in-Some.is) ∙ c.bytes.ensures.value) c.requires.good

pub returns-in-Some : goal.returns-in-Some
returns-in-Some c =
    let e = ap option_copied (sym c.in-Some.is) ∙ c.bytes.ensures.value in
    held_kind c.args.labels.now c.args.buffers.now (λ b. b.now) c.args.x.now c.in-Some.bytes.now c.label.result.kind c.if_kind.result c.requires.good e
    (ap (λ (z : Label). z.kind) c.label.ensures) c.if_kind.ensures

pub returns-in-None : goal.returns-in-None
returns-in-None c = none_held c.args.labels.now c.args.buffers.now c.args.x.now (ap option_copied (sym c.in-None.is) ∙ c.bytes.ensures.value)
