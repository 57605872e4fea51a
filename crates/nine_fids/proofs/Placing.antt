-- A fid put in its place.
use Rattle.std.proofs.Common.{◌≡◌, ℕ, suc, ◌<◌, List, [], ◌∷◌, ◌++◌, length, get_or, set, take, drop, sym, ap, ◌∙◌, append_assoc, take-append-drop, drop-cons, arith}
use Rattle.std.specs.Prelude.{if◌then◌else◌}
use Rattle.std.proofs.Math.Seq.{take-suc-set, take-append_seam}
use Rattle.std.proofs.lemmas.List.{drop-set-lt}
use Rattle.std.proofs.lemmas.Bool.{eq-eqb}
use Rattle.nine_fids.specs.declared.fid.Fid.{Fid}
use Rattle.nine_fids.specs.Fids.{with_fid}

set_split : (xs : List Fid) (i : ℕ) (f : Fid) → i < length xs → set xs i f ≡ take i xs ++ f ∷ drop (suc i) xs
set_split xs i f lt =
    let below : i < suc i = omega arith in
    sym (take-append-drop (suc i) (set xs i f))
    ∙ ap (λ t. t ++ drop (suc i) (set xs i f)) (take-suc-set xs i f lt)
    ∙ ap (λ t. (take i xs ++ f ∷ []) ++ t) (drop-set-lt (suc i) xs i f below)
    ∙ append_assoc (take i xs) (f ∷ []) (drop (suc i) xs)

here : (f g : Fid) (gs : List Fid) → g.number ≡ f.number → with_fid f (g ∷ gs) ≡ f ∷ gs
here f g gs e = ap (λ b. if b then f ∷ gs else g ∷ with_fid f gs) (eq-eqb g.number f.number e)

pub put_at : (f : Fid) (xs : List Fid) (i : ℕ) (d : Fid) → i < length xs → (get_or xs i d).number ≡ f.number → take i xs ++ with_fid f (drop i xs) ≡ with_fid f xs → set xs i f ≡ with_fid f xs
put_at f xs i d lt e rest =
    set_split xs i f lt
    ∙ ap (λ t. take i xs ++ t) (sym (here f (get_or xs i d) (drop (suc i) xs) e) ∙ ap (with_fid f) (sym (drop-cons xs i d lt)))
    ∙ rest

-- what is cut from a filled buffer
pub cut_to : (n m : ℕ) (xs ys : List ℕ) → m ≡ length xs → take n (take m (xs ++ ys)) ≡ take n xs
cut_to n m xs ys e = ap (take n) (ap (λ k. take k (xs ++ ys)) e ∙ take-append_seam xs ys)
