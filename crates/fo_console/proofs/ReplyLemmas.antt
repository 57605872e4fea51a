-- The line that tells of a file, as it is put together.
use Rattle.std.proofs.Common.{◌≡◌, ℕ, List, [], ◌∷◌, ◌++◌, codes, append_assoc}
use Rattle.std.specs.List.{join_with_byte}
use Rattle.fo_console.specs.Reply.{line}

pub stat_joined : (a b c d m l p : List ℕ) → ((((codes "stat " ++ (a ++ 32 ∷ [])) ++ (b ++ 32 ∷ [])) ++ (c ++ 32 ∷ [])) ++ (d ++ 32 ∷ [])) ++ (m ++ 32 ∷ (l ++ 32 ∷ (p ++ 10 ∷ []))) ≡ line (join_with_byte 32 (codes "stat" ∷ a ∷ b ∷ c ∷ d ∷ m ∷ l ∷ p ∷ []))
stat_joined a b c d m l p = simp append_assoc
