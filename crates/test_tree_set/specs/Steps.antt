-- What a test begins with.
use Rattle.std.specs.Prelude.{true, false}
use Rattle.fo_image.specs.declared.types.Entry.{Entry}
use Rattle.fo_image.specs.declared.types.Pointer.TheVariants.{Nil}

-- the entry of the data of file 4, which has no bytes
abbrev pub blank_data : Entry
blank_data = record { generation = 1; active = true; dir = false; depth = 0; tag = 40; size = 0; top = Nil }
