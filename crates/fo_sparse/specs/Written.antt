-- What a write and a change of length make of a list of bytes.
use Rattle.std.specs.Prelude.{ℕ, ◌+◌, ◌-◌, List, [], ◌∷◌, ◌++◌, length, take, drop, replicate}

-- The list with these bytes from the offset on, and zero bytes between its end and them. A write of
-- none changes nothing.
abbrev pub written : List ℕ → ℕ → List ℕ → List ℕ
written old offset [] = old
written old offset (b ∷ bs) =
    take offset old ++ replicate (offset - length old) 0 ++ (b ∷ bs) ++ drop (offset + length (b ∷ bs)) old

-- The list, cut to this length or filled with zero bytes up to it.
abbrev pub resized : List ℕ → ℕ → List ℕ
resized old len = take len old ++ replicate (len - length old) 0
