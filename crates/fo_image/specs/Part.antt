-- The bytes of a field as it is written.
use Rattle.std.specs.Prelude.{ℕ, List}
use Rattle.std.specs.List.{flat_map}
use Rattle.fo_image.specs.declared.parts.Part.{Part}
use Rattle.fo_image.specs.declared.parts.Part.TheVariants as part
use Rattle.fo_image.specs.Field.{One, Two, Four, Eight, number}

abbrev pub part_bytes : Part → List ℕ
part_bytes (part.One n) = number One n
part_bytes (part.Two n) = number Two n
part_bytes (part.Four n) = number Four n
part_bytes (part.Eight n) = number Eight n
part_bytes (part.Twenty bytes) = bytes
part_bytes (part.Bytes bytes) = bytes.now

abbrev pub parts_bytes : List Part → List ℕ
parts_bytes parts = flat_map part_bytes parts
