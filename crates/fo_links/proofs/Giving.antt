-- What a source in memory gives.
use Rattle.std.proofs.Common.{◌≡◌, ℕ, ◌+◌, ◌-◌, ◌<◌, ◌≤◌, List, ◌++◌, length, take, drop, Some, sym, ap, ◌∙◌, arith}
use Rattle.std.proofs.lemmas.List.{take_at, drop_at, drop_all, length-take, length-drop, length-append, take-append-drop, drop-drop, append_assoc}
use Rattle.fo_links.specs.Links.{TakenSome}

split_more : (bs : List ℕ) (start n : ℕ) → drop start bs ≡ take n (drop start bs) ++ drop (start + n) bs
split_more bs start n = rw (← drop-drop n start bs) (sym (take-append-drop n (drop start bs)))

pub take_further : (bs : List ℕ) (start n : ℕ) → start + n ≤ length bs → take (start + n) bs ≡ take start bs ++ take n (drop start bs)
take_further bs start n le =
    let whole : bs ≡ (take start bs ++ take n (drop start bs)) ++ drop (start + n) bs = sym (take-append-drop start bs) ∙ ap (λ (t : List ℕ). take start bs ++ t) (split_more bs start n) ∙ sym (append_assoc (take start bs) (take n (drop start bs)) (drop (start + n) bs)) in
    let long : length (take start bs ++ take n (drop start bs)) ≡ start + n = simp (length-append, length-take, length-drop) (omega arith) in
    ap (take (start + n)) whole ∙ take_at (take start bs ++ take n (drop start bs)) (drop (start + n) bs) (start + n) long

pub gives : (bs copied piece : List ℕ) (start n : ℕ) → start + n ≤ length bs → n ≤ length piece → copied ≡ take n (drop start bs) → (n ≡ 0 → 0 < length piece → length bs ≤ start)
    → TakenSome (Some (drop start bs)) (Some (drop (start + n) bs)) (Some (take start bs)) (Some (take (start + n) bs)) (length bs - start) (length bs - (start + n)) piece (copied ++ drop n piece) n
gives bs copied piece start n le fits is at_end =
    let long : length copied ≡ n = rw is (simp (length-take, length-drop) (omega arith)) in
    let front : take n (copied ++ drop n piece) ≡ take n (drop start bs) = take_at copied (drop n piece) n long ∙ is in
    record {
      within = fits;
      lost = rw front (ap (λ (x : List ℕ). Some x) (split_more bs start n));
      gained = rw front (ap (λ (x : List ℕ). Some x) (take_further bs start n le));
      fewer = omega arith;
      behind = drop_at copied (drop n piece) n long;
      ended = λ none some. drop_all start bs (at_end none some);
    }
