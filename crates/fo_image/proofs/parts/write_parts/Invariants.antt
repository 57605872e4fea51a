use Rattle.std.proofs.Common.{◌≡◌, take, length}
use Rattle.fo_image.specs.Part.{parts_bytes}
use Rattle.fo_image.proofs.parts.write_parts.Given as goal

abbrev pub invariant-loop-part : goal.invariant-loop-part
invariant-loop-part l = (take l.at l.into ≡ parts_bytes (take l.part-index l.parts)) × (l.at ≡ length (parts_bytes (take l.part-index l.parts)))
