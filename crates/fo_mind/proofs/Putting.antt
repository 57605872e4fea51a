-- Bytes that are put beside the slots of a block.
use Rattle.std.proofs.Common.{◌≡◌, ⊎_elim, ℕ, zero, suc, ◌+◌, ◌-◌, ◌≤◌, List, ◌++◌, take, drop, length, refl, sym, ap, ◌∙◌, subst, arith}
use Rattle.std.proofs.lemmas.List.{append_assoc, take-append-drop, take-append-le, drop-append-le, drop_at, length-take, length-drop, length-replicate}
use Rattle.std.proofs.Math.Seq.{take-append_seam, take-append-add, drop-append-add}
use Rattle.fo_image.specs.declared.types.Kind.{Kind}
use Rattle.fo_image.specs.declared.types.Kind.TheVariants.{Data, Dir, Root}
use Rattle.fo_image.specs.Field.{zeros}
use Rattle.fo_ports.specs.Blocks.{MayPut, put_at}
use Rattle.fo_ports.proofs.Lengths.{length_put_at}
use Rattle.fo_slots.specs.Read.{blanked}

put_front : (from : ℕ) (bs a w : List ℕ) → from + length bs ≤ length a → put_at from bs (a ++ w) ≡ put_at from bs a ++ w
put_front from bs a w le =
    ap (λ (t : List ℕ). t ++ bs ++ drop (from + length bs) (a ++ w)) (take-append-le from a w (omega (arith, le)))
    ∙ ap (λ (d : List ℕ). take from a ++ bs ++ d) (drop-append-le (from + length bs) a w le)
    ∙ sym (append_assoc (take from a ++ bs) (drop (from + length bs) a) w)

put_back : (n : ℕ) (bs a w : List ℕ) → put_at (length a + n) bs (a ++ w) ≡ a ++ put_at n bs w
put_back n bs a w =
    let e : length a + n + length bs ≡ length a + (n + length bs) = omega arith in
    ap (λ (t : List ℕ). t ++ bs ++ drop (length a + n + length bs) (a ++ w)) (take-append-add a w n)
    ∙ ap (λ k. (a ++ take n w) ++ bs ++ drop k (a ++ w)) e
    ∙ ap (λ (d : List ℕ). (a ++ take n w) ++ bs ++ d) (drop-append-add a w (n + length bs))
    ∙ ap (λ (t : List ℕ). t ++ drop (n + length bs) w) (append_assoc a (take n w) bs)
    ∙ append_assoc a (take n w ++ bs) (drop (n + length bs) w)

-- behind two parts
put_last : (n from : ℕ) (bs a b c : List ℕ) → from ≡ length a + (length b + n) → put_at from bs (a ++ (b ++ c)) ≡ a ++ (b ++ put_at n bs c)
put_last n from bs a b c is =
    ap (λ k. put_at k bs (a ++ (b ++ c))) is ∙ put_back (length b + n) bs a (b ++ c) ∙ ap (λ (w : List ℕ). a ++ w) (put_back n bs b c)

root_of : (a b c : List ℕ) → length a ≡ 16 → length b ≡ 88 → blanked Root (a ++ (b ++ c)) ≡ a ++ (zeros 88 ++ c)
root_of a b c la lb =
    let e : 104 ≡ length a + 88 = omega (arith, la) in
    ap (λ (t : List ℕ). t ++ (zeros 88 ++ drop 104 (a ++ (b ++ c)))) (subst (λ n. take n (a ++ (b ++ c)) ≡ a) la (take-append_seam a (b ++ c)))
    ∙ ap (λ k. a ++ (zeros 88 ++ drop k (a ++ (b ++ c)))) e
    ∙ ap (λ (d : List ℕ). a ++ (zeros 88 ++ d)) (drop-append-add a (b ++ c) 88 ∙ drop_at b c 88 lb)

zeros_count : length (zeros 88) ≡ 88
unfolding zeros
zeros_count = length-replicate {A = ℕ} 88 0

root_front : (from : ℕ) (bs a b c : List ℕ) → length a ≡ 16 → length b ≡ 88 → from + length bs ≤ 16 → blanked Root (put_at from bs (a ++ (b ++ c))) ≡ put_at from bs (blanked Root (a ++ (b ++ c)))
root_front from bs a b c la lb le =
    let within : from + length bs ≤ length a = omega (arith, la, le) in
    ap (blanked Root) (put_front from bs a (b ++ c) within)
    ∙ root_of (put_at from bs a) b c (length_put_at from bs a within ∙ la) lb
    ∙ sym (put_front from bs a (zeros 88 ++ c) within)
    ∙ ap (put_at from bs) (sym (root_of a b c la lb))

root_back : (from : ℕ) (bs a b c : List ℕ) → length a ≡ 16 → length b ≡ 88 → 104 ≤ from → blanked Root (put_at from bs (a ++ (b ++ c))) ≡ put_at from bs (blanked Root (a ++ (b ++ c)))
root_back from bs a b c la lb le =
    let z = zeros_count in
    let there : from ≡ length a + (length b + (from - 104)) = omega (arith, la, lb, le) in
    let here : from ≡ length a + (length (zeros 88) + (from - 104)) = omega (arith, la, z, le) in
    ap (blanked Root) (put_last (from - 104) from bs a b c there)
    ∙ root_of a b (put_at (from - 104) bs c) la lb
    ∙ sym (put_last (from - 104) from bs a (zeros 88) c here)
    ∙ ap (put_at from bs) (sym (root_of a b c la lb))

root_put : (from : ℕ) (bs old : List ℕ) → length old ≡ 8192 → MayPut Root from (from + length bs) → blanked Root (put_at from bs old) ≡ put_at from bs (blanked Root old)
root_put from bs old long may =
    let a = take 16 old in
    let b = take 88 (drop 16 old) in
    let c = drop 88 (drop 16 old) in
    let ta = length-take 16 old in
    let da = length-drop 16 old in
    let tb = length-take 88 (drop 16 old) in
    let la : length a ≡ 16 = omega (arith, ta, long) in
    let lb : length b ≡ 88 = omega (arith, tb, da, long) in
    let all : a ++ (b ++ c) ≡ old = ap (λ (w : List ℕ). a ++ w) (take-append-drop 88 (drop 16 old)) ∙ take-append-drop 16 old in
    subst (λ (x : List ℕ). blanked Root (put_at from bs x) ≡ put_at from bs (blanked Root x)) all (⊎_elim
    (λ le. root_front from bs a b c la lb (omega (arith, le)))
    (λ m. ⊎_elim
    (λ le. root_front from bs a b c la lb le.1)
    (λ le. root_back from bs a b c la lb le)
    m)
    may)

plain : (bytes : List ℕ) → blanked (Data 0) bytes ≡ bytes
unfolding zeros
plain bytes = refl

-- bytes that are put beside slots are read where they were put
pub blanked_put : (kind : Kind) (from : ℕ) (bs old : List ℕ) → length old ≡ 8192 → MayPut kind from (from + length bs) → blanked kind (put_at from bs old) ≡ put_at from bs (blanked kind old)
blanked_put (Data zero) from bs old long may = plain (put_at from bs old) ∙ ap (put_at from bs) (sym (plain old))
blanked_put (Data (suc level)) from bs old long may = absurd may
blanked_put (Dir level) from bs old long may = absurd may
blanked_put Root from bs old long may = root_put from bs old long may
