use Rattle.std.proofs.Common.{◌≡◌, drop, List, suc, zero, ℕ, [], ◌∷◌, refl, add-one}
use Rattle.fo_unlink.proofs.way.Way.pop.Goals as goal

drop-one : {X : Type 0} (n : ℕ) (xs : List X) → drop (suc n) xs ≡ drop 1 (drop n xs)
drop-one zero xs = refl
drop-one (suc n) [] = refl
drop-one (suc n) (x ∷ xs) = drop-one n xs

pub returns : goal.returns
returns c = rw (← c.self.view_is, add-one) (drop-one c.self.inside.top c.self.inside.stack)
