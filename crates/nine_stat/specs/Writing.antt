-- The two parts of a record's fields.
use Rattle.std.specs.Prelude.{List, [], ◌∷◌}
use Rattle.nine_fields.specs.Field.{Two, Four, Eight, Plain, Number, Text, Id}
use Rattle.nine_stat.specs.declared.stat.Stat.{Stat}

abbrev pub number_fields : Stat → List Plain
number_fields s = Number Two s.kind ∷ Number Four s.dev ∷ Id s.qid ∷ Number Four s.mode ∷ Number Four s.atime ∷ Number Four s.mtime ∷ Number Eight s.length ∷ []

abbrev pub text_fields : Stat → List Plain
text_fields s = Text s.name ∷ Text s.uid ∷ Text s.gid ∷ Text s.muid ∷ []
