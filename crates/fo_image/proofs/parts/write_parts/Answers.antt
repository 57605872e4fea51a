use Rattle.std.proofs.Common.{◌≡◌, ◌-◌, arith, ap, ◌∙◌, length, take, drop}
use Rattle.std.specs.Prelude.{replicate}
use Rattle.std.proofs.lemmas.List.{take_all, length-take, length-drop}
use Rattle.fo_image.specs.declared.parts.Part.TheVariants as part
use Rattle.fo_image.specs.Part.{part_bytes, parts_bytes}
use Rattle.fo_image.proofs.Padding.{room_for_piece, filled_up}
use Rattle.fo_image.proofs.parts.write_parts.Goals as goal

pub put-at-requires : goal.put-at-requires
put-at-requires c = omega (arith, room_for_piece part_bytes c.args.parts.now c.loop-part.part-index (part.One 0) (omega arith))

pub returns : goal.returns
returns c =
    let all : parts_bytes (take c.loop-part.part-index c.args.parts.now) ≡ parts_bytes c.args.parts.now = ap parts_bytes (take_all c.loop-part.part-index c.args.parts.now (omega arith)) in
    let at_is : c.loop-part.at ≡ length (parts_bytes c.args.parts.now) = c.loop-part.invariant.1 ∙ ap length all in
    let len : length (take (length c.loop-part.into - c.loop-part.at) (drop c.loop-part.at c.loop-part.into)) ≡ length c.loop-part.into - c.loop-part.at = omega (arith, length-take (length c.loop-part.into - c.loop-part.at) (drop c.loop-part.at c.loop-part.into), length-drop c.loop-part.at c.loop-part.into) in
    filled_up (parts_bytes c.args.parts.now) c.loop-part.into c.fill.new.self c.loop-part.at (length c.args.into.now) (c.loop-part.invariant.0 ∙ all) at_is (omega arith) (omega arith) (c.fill.ensures.after (λ y e. e) ∙ ap (λ n. replicate n 0) len)
