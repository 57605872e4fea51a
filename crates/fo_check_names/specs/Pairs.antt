-- Pairs of entries: what each names.
use Rattle.std.specs.Prelude.{cond, Bool, not, ◌&&◌, false, Option, Some, None}
use Rattle.fo_image.specs.declared.types.Entry.{Entry}
use Rattle.fo_image.specs.declared.types.Pointer.TheVariants.{Nil}

-- an entry that leads nowhere
abbrev pub no_entry : Entry
no_entry = record { generation = 0; active = false; dir = false; depth = 0; tag = 0; size = 0; top = Nil }

-- An entry names a source of entries, or another source.
abbrev pub is_folder : Entry → Bool
is_folder e = e.active && e.dir

abbrev pub is_source : Entry → Bool
is_source e = e.active && not e.dir

-- A pair is a directory where its first entry names entries and its second another source.
abbrev pub records_of : Entry → Entry → Option Entry
records_of first second = cond (is_folder first && is_source second) (Some second) None
