-- A part of a buffer.
use Rattle.std.proofs.Common.{◌≡◌, ℕ, ◌+◌, ◌-◌, ◌<◌, ◌≤◌, List, [], ◌++◌, length, take, drop, Some, None, sym, ap, ◌∙◌, refl, arith}
use Rattle.std.specs.declared.option.Option.{Option}
use Rattle.std.proofs.lemmas.List.{take_at, length-take, length-drop, length-append, take-append-drop, drop-drop, drop-take, append_assoc, append-nil, nil_from_length, drop-append-le}
use Rattle.fo_links.specs.Links.{TakenSome, LosesFront, IsAtEnd}
use Rattle.fo_links.specs.Filling.{FilledSome}

-- the part without its first n bytes
pub part_later : (bs : List ℕ) (start end n : ℕ) → n ≤ end - start → take (end - (start + n)) (drop (start + n) bs) ≡ drop n (take (end - start) (drop start bs))
part_later bs start end n le =
    let k : end - start ≡ n + (end - (start + n)) = omega arith in
    rw (k, drop-take n (end - (start + n)) (drop start bs), drop-drop n start bs) refl

-- the bytes up to a place, and what stands behind it
pub part_grows : (bs bs' : List ℕ) (start end n : ℕ) → start ≤ end → end ≤ length bs → take end bs' ≡ take end bs → n ≤ length (drop end bs')
    → take (end + n - start) (drop start bs') ≡ take (end - start) (drop start bs) ++ take n (drop end bs')
part_grows bs bs' start end n order within same le =
    let k = end - start in
    let p = take k (drop start bs) in
    let x = drop end bs' in
    let end-is : end ≡ start + k = omega arith in
    let p-is : drop start (take end bs) ≡ p = ap (λ (e : ℕ). drop start (take e bs)) end-is ∙ drop-take start k bs in
    let p-len : length p ≡ k = simp (length-take, length-drop) (omega arith) in
    let long : start ≤ length (take end bs) = simp length-take (omega arith) in
    let whole : bs' ≡ take end bs ++ x = sym (take-append-drop end bs') ∙ ap (λ (t : List ℕ). t ++ x) same in
    let later : drop start bs' ≡ (p ++ take n x) ++ drop n x =
    ap (drop start) whole ∙ drop-append-le start (take end bs) x long ∙ ap (λ (t : List ℕ). t ++ x) p-is ∙ ap (λ (t : List ℕ). p ++ t) (sym (take-append-drop n x)) ∙ sym (append_assoc p (take n x) (drop n x)) in
    let len : length (p ++ take n x) ≡ end + n - start = omega (arith, length-append p (take n x), length-take n x, p-len) in
    ap (take (end + n - start)) later ∙ take_at (p ++ take n x) (drop n x) (end + n - start) len

pub part_stays : (bs bs' : List ℕ) (start end : ℕ) → start ≤ end → end ≤ length bs → take end bs' ≡ take end bs → take (end - start) (drop start bs') ≡ take (end - start) (drop start bs)
part_stays bs bs' start end order within same =
    let none : end + 0 - start ≡ end - start = omega arith in
    ap (λ (k : ℕ). take k (drop start bs')) (sym none) ∙ part_grows bs bs' start end 0 order within same (omega arith) ∙ append-nil (take (end - start) (drop start bs))

at_end_stays : (came : List ℕ) (left left' : Option (List ℕ)) → LosesFront came left left' → length came ≡ 0 → IsAtEnd left → IsAtEnd left'
at_end_stays came left None lost none at_end = tt
at_end_stays came None (Some rest) lost none at_end = absurd cc
at_end_stays came (Some all) (Some rest) lost none at_end =
    let together : all ≡ came ++ rest = cc in
    let nothing : came ++ rest ≡ [] = sym together ∙ at_end in
    nil_from_length rest (omega (arith, ap length nothing, length-append came rest))

pub fills : (bs bs' : List ℕ) (start end n : ℕ) (left left' given given' : Option (List ℕ)) (room room' : ℕ) (waiting : List ℕ) → start ≤ end → end < length bs → length bs' ≡ length bs → take end bs' ≡ take end bs → take (end - start) (drop start bs) ≡ waiting
    → TakenSome left left' given given' room room' (drop end bs) (drop end bs') n → FilledSome left left' room room' waiting (take (end + n - start) (drop start bs')) n
fills bs bs' start end n left left' given given' room room' waiting order within len same is taken =
    let came = take n (drop end bs') in
    let within' : n ≤ length (drop end bs') = omega (arith, taken.within, length-drop end bs, length-drop end bs') in
    let count : n ≡ length came = simp length-take (omega arith) in
    record {
      came = came;
      count = count;
      lost = taken.lost;
      fewer = taken.fewer;
      gained = part_grows bs bs' start end n order (omega arith) same within' ∙ ap (λ (w : List ℕ). w ++ came) is;
      ended = λ none. at_end_stays came left left' taken.lost (omega arith) (taken.ended none (omega (arith, length-drop end bs)));
    }
