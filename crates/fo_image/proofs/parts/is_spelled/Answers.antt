use Rattle.std.proofs.Common.{◌≡◌, ◌-◌, ◌++◌, length, arith, sym, ap, ◌∙◌}
use Rattle.std.proofs.lemmas.List.{take_all}
use Rattle.fo_image.specs.declared.parts.Part.TheVariants as part
use Rattle.fo_image.specs.Part.{part_bytes, parts_bytes}
use Rattle.fo_image.proofs.Padding.{piece_lacks, padded_from_all, all_from_padded}
use Rattle.fo_image.proofs.parts.is_spelled.Goals as goal

pub returns-in_default : goal.returns-in_default
returns-in_default c =
    (λ h. absurd cc, λ e. absurd (piece_lacks part_bytes c.args.parts.now c.loop-part.part-index (part.One 0) c.args.bytes.now c.loop-part.rest.now _ (omega arith) c.loop-part.invariant c.in_default.ensures e))

pub returns : goal.returns
returns c =
    let front = parts_bytes c.args.parts.now in
    let whole : c.args.bytes.now ≡ front ++ c.loop-part.rest.now = c.loop-part.invariant ∙ ap (λ ps. parts_bytes ps ++ c.loop-part.rest.now) (take_all c.loop-part.part-index c.args.parts.now (omega arith)) in (
      λ h. padded_from_all front c.loop-part.rest.now c.args.bytes.now whole (sym c.is_zero.ensures ∙ h),
      λ e. c.is_zero.ensures ∙ all_from_padded front c.loop-part.rest.now c.args.bytes.now (length c.args.bytes.now - length front) whole e,
    )
