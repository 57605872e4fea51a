-- Histories: beginnings of lists, and legal lists of turns.
use Rattle.std.proofs.Common.{◌≡◌, ℕ, zero, suc, ◌+◌, ◌-◌, ◌<◌, ◌≤◌, List, [], ◌∷◌, ◌++◌, length, sym, refl, ap, ◌∙◌, subst, arith, inl, inr, ◌⊎◌, Bool, true, false, cond, ltb, lt_of_not-le, append-nil, append_assoc, length-append}
use Rattle.fo_gate.specs.Weights.{total, below}
use Rattle.fo_gate.specs.declared.view.Entry.{Entry}
use Rattle.fo_gate.specs.Lists.{StartsWith, longer, shorter, list_of, elements_at, split_greatest}
use Rattle.fo_gate.specs.History.{last_low, last_high, IsLegal}
use Rattle.fo_gate.proofs.Sums.{only, only-same, below-only}
use lib.ListN.{get_elem?}
use mathlib.Core.Option.{some}
use Rattle.std.proofs.lemmas.Bool.{le-ltb, lt-ltb}
use mathlib.Core.Logic.{dite}
use native.Mathlib.Decide.{dec_le}

module _ {A : Type 0} where
  abbrev pub head_or : A → List A → A
  head_or a [] = a
  head_or a (x ∷ xs) = x

  pub starts-refl : (l : List A) → StartsWith l l
  starts-refl l = ([], sym (append-nil l))

  pub starts-nil : (l : List A) → StartsWith l []
  starts-nil l = (l, refl)

  pub starts-more : (l s m : List A) → StartsWith l s → StartsWith (l ++ m) s
  starts-more l s m h = (h.0 ++ m, ap (λ x. x ++ m) h.1 ∙ append_assoc s h.0 m)

  pub starts-trans : (a b c : List A) → StartsWith a b → StartsWith b c → StartsWith a c
  starts-trans a b c h k = (k.0 ++ h.0, h.1 ∙ ap (λ x. x ++ h.0) k.1 ∙ append_assoc c k.0 h.0)

  pub starts-length : (l s : List A) → StartsWith l s → length s ≤ length l
  starts-length l s h = let e : length l ≡ length s + length h.0 = ap length h.1 ∙ length-append s h.0 in omega arith

  pub length-nil : (l : List A) → length l ≡ 0 → l ≡ []
  length-nil [] e = refl
  length-nil (x ∷ xs) e = absurd (omega arith)

module _ {S E O : Type 0} (turns : S → E → O → S → Type 0) (low high : S → ℕ) where
  pub legal-snoc : (a : S) (es : List (Entry E O)) (z : S) (e : Entry E O) (b : S) → IsLegal turns low high a es z → turns z e.event e.outcome b → e.low ≡ low b → e.high ≡ high b
      → IsLegal turns low high a (es ++ e ∷ []) b
  legal-snoc a [] z e b l t el eh = (b, subst (λ x. turns x e.event e.outcome b) (sym l) t, el, eh, refl)
  legal-snoc a (x ∷ xs) z e b l t el eh = (l.0, l.1, l.2, l.3, legal-snoc l.0 xs z e b l.4 t el eh)

  pub legal-low : (a : S) (es : List (Entry E O)) (z : S) → IsLegal turns low high a es z → last_low (low a) es ≡ low z
  legal-low a [] z l = ap low l
  legal-low a (x ∷ xs) z l = ap (λ d. last_low d xs) l.2 ∙ legal-low l.0 xs z l.4

  pub legal-high : (a : S) (es : List (Entry E O)) (z : S) → IsLegal turns low high a es z → last_high (high a) es ≡ high z
  legal-high a [] z l = ap high l
  legal-high a (x ∷ xs) z l = ap (λ d. last_high d xs) l.3 ∙ legal-high l.0 xs z l.4

  pub legal-prefix : (a : S) (seen rest : List (Entry E O)) (z : S) → IsLegal turns low high a (seen ++ rest) z → (m : S) × IsLegal turns low high a seen m
  legal-prefix a [] rest z l = (a, refl)
  legal-prefix a (x ∷ xs) rest z l = let h = legal-prefix l.0 xs rest z l.4 in (h.0, (l.0, l.1, l.2, l.3, h.1))

below-further : (f : ℕ → ℕ) (n d : ℕ) → below f n ≤ below f (n + d)
below-further f n zero = let e : n + 0 ≡ n = omega arith in subst (λ k. below f n ≤ below f k) (sym e) (omega arith)
below-further f n (suc d) = let e : n + suc d ≡ suc (n + d) = omega arith in subst (λ k. below f n ≤ below f k) (sym e) (omega (arith, below-further f n d))

pub below-mono : (f : ℕ → ℕ) (n m : ℕ) → n ≤ m → below f n ≤ below f m
below-mono f n m le = let e : n + (m - n) ≡ m = omega arith in subst (λ k. below f n ≤ below f k) e (below-further f n (m - n))

module _ {A : Type 0} where
  abbrev tail : List A → List A
  tail [] = []
  tail (x ∷ xs) = xs

  both_start : (xs ys r q : List A) → xs ++ r ≡ ys ++ q → length xs ≤ length ys → StartsWith ys xs
  both_start [] ys r q e le = starts-nil ys
  both_start (x ∷ xs) [] r q e le = absurd (omega arith)
  both_start (x ∷ xs) (y ∷ ys) r q e le =
      let head : x ≡ y = ap (head_or x) e in
      let h = both_start xs ys r q (ap tail e) (omega arith) in
      (h.0, λ k. sym head k ∷ h.1 k)

  -- of two beginnings of one list the shorter begins the longer
  pub starts-both : (l xs ys : List A) → StartsWith l xs → StartsWith l ys → length xs ≤ length ys → StartsWith ys xs
  starts-both l xs ys h k le = both_start xs ys h.0 k.0 (sym h.1 ∙ k.1) le

  pub starts-whole : (l xs : List A) → StartsWith l xs → length l ≤ length xs → xs ≡ l
  starts-whole l xs h le =
      let e : length l ≡ length xs + length h.0 = ap length h.1 ∙ length-append xs h.0 in
      sym (h.1 ∙ ap (λ r. xs ++ r) (length-nil h.0 (omega arith)) ∙ append-nil xs)

  -- the longer and the shorter of two beginnings of one list
  pub longest : (l xs ys : List A) → StartsWith l xs → StartsWith l ys
      → StartsWith (longer xs ys) (shorter xs ys) × (length xs ≤ length (longer xs ys)) × (length ys ≤ length (longer xs ys)) × (length (longer xs ys) ≤ length l)
  longest l xs ys h k =
      let a = starts-length l xs h in
      let b = starts-length l ys k in
      dite (dec_le (length ys) (length xs))
      (λ le. let e : ltb (length xs) (length ys) ≡ false = le-ltb (length xs) (length ys) le in
      subst (λ c. StartsWith (cond c ys xs) (cond c xs ys) × (length xs ≤ length (cond c ys xs)) × (length ys ≤ length (cond c ys xs)) × (length (cond c ys xs) ≤ length l)) (sym e) (starts-both l ys xs k h le, omega arith, le, a))
      (λ no. let lt : length xs < length ys = lt_of_not-le no in let e : ltb (length xs) (length ys) ≡ true = lt-ltb (length xs) (length ys) lt in
      subst (λ c. StartsWith (cond c ys xs) (cond c xs ys) × (length xs ≤ length (cond c ys xs)) × (length ys ≤ length (cond c ys xs)) × (length (cond c ys xs) ≤ length l)) (sym e) (starts-both l xs ys h k (omega arith), omega arith, omega arith, b))

  -- which of the two it is
  pub which : (xs ys : List A) → StartsWith (longer xs ys) (shorter xs ys) → (StartsWith xs ys × (longer xs ys ≡ xs)) ⊎ (StartsWith ys xs × (longer xs ys ≡ ys))
  which xs ys h = which-if xs ys (ltb (length xs) (length ys)) h
    where
      which-if : (xs ys : List A) (b : Bool) → StartsWith (cond b ys xs) (cond b xs ys) → (StartsWith xs ys × (cond b ys xs ≡ xs)) ⊎ (StartsWith ys xs × (cond b ys xs ≡ ys))
      which-if xs ys true h = inr (h, refl)
      which-if xs ys false h = inl (h, refl)

  longer-if : (l xs ys : List A) (b : Bool) → StartsWith l xs → StartsWith l ys → StartsWith l (cond b ys xs)
  longer-if l xs ys true h k = k
  longer-if l xs ys false h k = h

  pub longer-starts : (l xs ys : List A) → StartsWith l xs → StartsWith l ys → StartsWith l (longer xs ys)
  longer-starts l xs ys h k = longer-if l xs ys (ltb (length xs) (length ys)) h k

-- the part of a weight below n, and the rest of it
abbrev pub cut : ℕ → (ℕ → ℕ) → ℕ → ℕ
cut n f k = cond (ltb k n) (f k) 0

abbrev pub past : ℕ → (ℕ → ℕ) → ℕ → ℕ
past n f k = cond (ltb k n) 0 (f k)

cut-past : (n : ℕ) (f : ℕ → ℕ) (k : ℕ) → f k ≡ cut n f k + past n f k
cut-past n f k = by (ltb k n)
  where
    by : (b : Bool) → f k ≡ cond b (f k) 0 + cond b 0 (f k)
    by true = omega arith
    by false = omega arith

pub total-cut : (n : ℕ) (f : ℕ → ℕ) (xs : List ℕ) → total f xs ≡ total (cut n f) xs + total (past n f) xs
total-cut n f [] = refl
total-cut n f (x ∷ xs) = let a = cut-past n f x in let b = total-cut n f xs in omega arith

pub below-past : (n : ℕ) (f : ℕ → ℕ) (m : ℕ) → m ≤ n → below (past n f) m ≡ 0
below-past n f zero le = refl
below-past n f (suc m) le = let a = below-past n f m (omega arith) in let b : past n f m ≡ 0 = ap (λ c. cond c 0 (f m)) (lt-ltb m n (omega arith)) in omega arith

below-le-cut : (n : ℕ) (f : ℕ → ℕ) (m : ℕ) → below (cut n f) m ≤ below f m
below-le-cut n f zero = omega arith
below-le-cut n f (suc m) = let a = below-le-cut n f m in let b = cut-past n f m in omega arith

pub below-cut : (n : ℕ) (f : ℕ → ℕ) (m : ℕ) → below (cut n f) m ≤ below f n
below-cut n f zero = omega arith
below-cut n f (suc m) = dite (dec_le n m)
    (λ le. let a = below-cut n f m in let b : cut n f m ≡ 0 = ap (λ c. cond c (f m) 0) (le-ltb m n le) in omega arith)
    (λ no. let lt : m < n = lt_of_not-le no in let a = below-le-cut n f (suc m) in let b = below-mono f (suc m) n (omega arith) in omega arith)

pub greatest-weight : (f : ℕ → ℕ) (n : ℕ) (ns : List ℕ) → total f (split_greatest (n ∷ ns)).1 + f (split_greatest (n ∷ ns)).0 ≡ total f (n ∷ ns)
greatest-weight f n [] = omega arith
greatest-weight f n (m ∷ ns) = let a = greatest-weight f m ns in by (ltb n (split_greatest (m ∷ ns)).0) (split_greatest (m ∷ ns)) a
  where
    by : (b : Bool) (r : ℕ × List ℕ) → total f r.1 + f r.0 ≡ total f (m ∷ ns) → total f (cond {A = ℕ × List ℕ} b (r.0, n ∷ r.1) (n, m ∷ ns)).1 + f (cond {A = ℕ × List ℕ} b (r.0, n ∷ r.1) (n, m ∷ ns)).0 ≡ total f (n ∷ m ∷ ns)
    by true r a = omega arith
    by false r a = omega arith

pub split-weight : (f : ℕ → ℕ) (ns : List ℕ) → 0 < length ns → total f (split_greatest ns).1 + f (split_greatest ns).0 ≡ total f ns
split-weight f [] lt = absurd (omega arith)
split-weight f (n ∷ ns) lt = greatest-weight f n ns

-- a list that has each number below n at most once, no other, and as many as n, has each once
below-term : (f : ℕ → ℕ) (n k : ℕ) → k < n → f k ≤ below f n
below-term f zero k lt = absurd (omega arith)
below-term f (suc n) k lt = dite (dec_le n k) (λ le. let e : k ≡ n = omega arith in let a : f k ≡ f n = ap f e in omega arith) (λ no. let a = below-term f n k (lt_of_not-le no) in omega arith)

total-const : (M : ℕ) (ns : List ℕ) → total (λ _. M) ns ≡ below (λ _. M) (length ns)
total-const M [] = refl
total-const M (x ∷ xs) = let a = total-const M xs in omega arith

total-rest-of : (M : ℕ) (f : ℕ → ℕ) (ns : List ℕ) → total (λ _. M) ns ≤ total f ns + total (λ k. M - f k) ns
total-rest-of M f [] = omega arith
total-rest-of M f (x ∷ xs) = let a = total-rest-of M f xs in omega arith

below-rest-of : (M : ℕ) (f : ℕ → ℕ) (n : ℕ) → ((k : ℕ) → k < n → f k ≤ M) → below f n + below (λ k. M - f k) n ≡ below (λ _. M) n
below-rest-of M f zero most = refl
below-rest-of M f (suc n) most = let a = below-rest-of M f n (λ k lt. most k (omega arith)) in let b = most n (omega arith) in omega arith

pub all_held : (ns : List ℕ) (n : ℕ) → ((f : ℕ → ℕ) → total f ns ≤ below f n) → length ns ≡ n → (f : ℕ → ℕ) → total f ns ≡ below f n
all_held ns n apart len f =
    let M = below f n in
    let a = apart f in
    let b = apart (λ k. M - f k) in
    let c = total-rest-of M f ns in
    let d = below-rest-of M f n (below-term f n) in
    let e = total-const M ns in
    let g : below (λ _. M) (length ns) ≡ below (λ _. M) n = ap (below (λ _. M)) len in omega arith

module _ {A : Type 0} where
  get_more : (log more : List A) (k : ℕ) → k < length log → get_elem? (log ++ more) k ≡ get_elem? log k
  get_more [] more k lt = absurd (omega arith)
  get_more (x ∷ xs) more zero lt = refl
  get_more (x ∷ xs) more (suc k) lt = get_more xs more k (omega arith)

  get_end : (log : List A) (x : A) → get_elem? (log ++ x ∷ []) (length log) ≡ some x
  get_end [] x = refl
  get_end (y ∷ ys) x = get_end ys x

  pub own-more : (log more : List A) (ks : List ℕ) → ((f : ℕ → ℕ) → total f ks ≤ below f (length log)) → elements_at (log ++ more) ks ≡ elements_at log ks
  own-more log more [] placed = refl
  own-more log more (k ∷ ks) placed =
      let lt : k < length log = dite (dec_le (length log) k) (λ le. absurd (let a = placed (only k) in let b = (below-only k (length log)).1 le in let c = only-same k in omega arith)) (λ no. lt_of_not-le no) in
      let rest = own-more log more ks (λ f. let a = placed f in omega arith) in
      λ i. list_of (get_more log more k lt i) ++ rest i

  own-append : (log : List A) (ks js : List ℕ) → elements_at log (ks ++ js) ≡ elements_at log ks ++ elements_at log js
  own-append log [] js = refl
  own-append log (k ∷ ks) js = ap (λ l. list_of (get_elem? log k) ++ l) (own-append log ks js) ∙ sym (append_assoc (list_of (get_elem? log k)) (elements_at log ks) (elements_at log js))

  -- one call more, at the end
  pub own-call : (seen rest : List A) (x : A) (ks : List ℕ) → ((f : ℕ → ℕ) → total f ks ≤ below f (length seen)) → elements_at ((seen ++ rest) ++ x ∷ []) (ks ++ length (seen ++ rest) ∷ []) ≡ elements_at seen ks ++ x ∷ []
  own-call seen rest x ks placed =
      let log = seen ++ rest in
      own-append (log ++ x ∷ []) ks (length log ∷ []) ∙ (λ i. own-first i ++ (list_of (get_end log x i) ++ []))
    where
      own-first : elements_at ((seen ++ rest) ++ x ∷ []) ks ≡ elements_at seen ks
      own-first = ap (λ l. elements_at l ks) (append_assoc seen rest (x ∷ [])) ∙ own-more seen (rest ++ x ∷ []) ks placed

  -- of two beginnings of a history the elements at the places of both
  pub own-join : (xs ys : List A) (ks js : List ℕ) → ((f : ℕ → ℕ) → total f ks ≤ below f (length xs)) → ((f : ℕ → ℕ) → total f js ≤ below f (length ys)) → (StartsWith xs ys × (longer xs ys ≡ xs)) ⊎ (StartsWith ys xs × (longer xs ys ≡ ys))
      → elements_at (longer xs ys) (ks ++ js) ≡ elements_at xs ks ++ elements_at ys js
  own-join xs ys ks js placed placed' (inl h) = ap (λ l. elements_at l (ks ++ js)) h.1 ∙ own-append xs ks js ∙ ap (λ l. elements_at xs ks ++ l) (ap (λ l. elements_at l js) h.0.1 ∙ own-more ys h.0.0 js placed')
  own-join xs ys ks js placed placed' (inr h) = ap (λ l. elements_at l (ks ++ js)) h.1 ∙ own-append ys ks js ∙ ap (λ l. l ++ elements_at ys js) (ap (λ l. elements_at l ks) h.0.1 ∙ own-more xs h.0.0 ks placed)
