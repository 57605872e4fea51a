-- The fields of a stat record that was read in place.
use Rattle.std.specs.Prelude.{List, [], ◌∷◌}
use Rattle.nine_fields.specs.declared.parts.StatParts.{StatParts}
use Rattle.nine_fields.specs.Field.{Plain, Number, Text, Id, Two, Four, Eight}

abbrev pub parts_fields : StatParts → List Plain
parts_fields p = Number Two p.kind ∷ Number Four p.dev ∷ Id p.qid ∷ Number Four p.mode ∷ Number Four p.atime ∷ Number Four p.mtime ∷ Number Eight p.length ∷ Text p.name.now ∷ Text p.uid.now ∷ Text p.gid.now ∷ Text p.muid.now ∷ []
