use Rattle.std.proofs.Common.{◌≡◌, ◌++◌, take}
use Rattle.fo_image.specs.Part.{parts_bytes}
use Rattle.fo_image.proofs.parts.is_spelled.Given as goal

abbrev pub invariant-loop-part : goal.invariant-loop-part
invariant-loop-part l = l.bytes ≡ parts_bytes (take l.part-index l.parts) ++ l.rest
