-- What a source in memory tells.
use Rattle.std.specs.Prelude.{ℕ, ◌-◌, List, length, take, drop, Some}
use Rattle.std.specs.declared.option.Option.{Option}
use Rattle.fo_links.specs.declared.memory.MemSource.{MemSource}

-- the bytes from its place on
abbrev pub left_of : MemSource → Option (List ℕ)
left_of source = Some (drop source.start source.bytes.items)

-- the bytes before its place
abbrev pub given_of : MemSource → Option (List ℕ)
given_of source = Some (take source.start source.bytes.items)

-- how many bytes there are from its place on
abbrev pub room_of : MemSource → ℕ
room_of source = length source.bytes.items - source.start
