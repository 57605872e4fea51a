-- Ways through pointer blocks, one level after another.
use Rattle.std.proofs.Common.{◌≡◌, ◌/◌, ◌%◌, ℕ, zero, suc, List, [], ◌∷◌, refl, sym, ap, ◌∙◌}
use Rattle.fo_crash.specs.Images.{Link, way}
use Rattle.fo_vac_walk.specs.Walk.{Holding, follows, next}

-- a path behind a way
pub goes_way : (h : Holding) (w : Link) (down k : ℕ) (path : List ℕ) → follows h w (way down k path) ≡ follows h (follows h w (way down k [])) path
goes_way h w zero k path = refl
goes_way h w (suc down) k path = goes_way h w down (k / 409) (k % 409 ∷ path) ∙ sym (ap (λ v. follows h v path) (goes_way h w down (k / 409) (k % 409 ∷ [])))

-- one level more
pub one_down : (h : Holding) (w : Link) (down k : ℕ) → follows h w (way (suc down) k []) ≡ next h (follows h w (way down (k / 409) [])) (k % 409)
one_down h w down k = goes_way h w down (k / 409) (k % 409 ∷ [])
