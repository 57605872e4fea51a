-- The texts of how a run ends.
use Rattle.std.specs.Prelude.{ℕ, List, ◌++◌, codes}
use Rattle.std.specs.Fmt.{decimal}
use Rattle.fo_top.specs.declared.why.Why.{Why}
use Rattle.fo_top.specs.declared.why.Why.TheVariants as why

-- bad input at byte <place>
abbrev pub bad_input : ℕ → List ℕ
bad_input place = codes "bad input at byte " ++ decimal place

-- unsound S<rule> at block <block>
abbrev pub unsound : ℕ → ℕ → List ℕ
unsound rule block = codes "unsound S" ++ decimal rule ++ codes " at block " ++ decimal block

abbrev pub text_of : Why → List ℕ
text_of why.Ended = codes "ended"
text_of why.Usage = codes "usage: fossil command main arena [options]"
text_of why.NotFossil = codes "not a fossil image"
text_of (why.Unsound rule block) = unsound rule block
text_of why.MainRead = codes "read fault on main"
text_of why.MainWrite = codes "write fault on main"
text_of why.ArenaRead = codes "read fault on arena"
text_of why.ArenaWrite = codes "write fault on arena"
text_of why.Input = codes "read fault on input"
text_of why.Output = codes "write fault on output"
text_of why.Size = codes "size of a device out of range"
text_of why.Memory = codes "no memory"
text_of (why.BadInput place) = bad_input place
text_of why.NotArena = codes "not an arena"
text_of why.Spent = codes "turns spent"
text_of why.NotBuilt = codes "image not built yet"
