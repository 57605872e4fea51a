-- What is read is spelled so, and what is spelled so is read: for numbers, blocks, texts and qids.
use Rattle.std.proofs.Common.{◌≡◌, ℕ, zero, suc, ◌+◌, ◌-◌, ◌%◌, ◌<◌, ◌≤◌, Bool, true, false, cond, ltb, eqb, List, [], ◌∷◌, ◌++◌, length, get_or, take, drop, Some, None, refl, sym, ap, subst, ◌∙◌, append_assoc, arith, inl, inr}
use Rattle.std.specs.declared.option.Option.{Option}
use Rattle.std.specs.Int.{Width, byte_len, from_le_bytes, to_le_bytes}
use Rattle.std.proofs.lemmas.Bool.{cases_lt, ltb-false, le-ltb, eqb-true}
use Rattle.std.proofs.lemmas.List.{take_at, drop_at, take-append-drop, length-append, length-take, get_or-drop, get_or-take, get_or_past, append-nil, nil_from_length}
use Rattle.std.proofs.lemmas.Nat.{le_bytes_2, le_bytes_4, le_bytes_8, from_le_bytes-to_le_bytes_2, from_le_bytes-to_le_bytes_4, from_le_bytes-to_le_bytes_8}
use Rattle.fo_base.specs.Text.{is_text}
use Rattle.nine_fields.specs.declared.qid.Qid.{Qid}
use Rattle.nine_fields.specs.Field.{Size, One, Two, Four, Eight, width, limit, number, block, qid_bytes, TextFits, QidFits}
use Rattle.nine_fields.specs.Reading.{◌>>=◌, number_at, part_at, block_at, text_at, qid_at, all_of}

-- each is a byte
pub record IsBytes (bytes : List ℕ) : Type 0 where
  pub below : (i : ℕ) → get_or bytes i 0 < 256

pub IsBytes-drop : (n : ℕ) (bytes : List ℕ) → IsBytes bytes → IsBytes (drop n bytes)
IsBytes-drop n bytes h = record { below = λ i. rw get_or-drop (h.below (n + i)) }

pub IsBytes-take : (n : ℕ) (bytes : List ℕ) → IsBytes bytes → IsBytes (take n bytes)
IsBytes-take n bytes h = record {
  below = λ i. elim (cases_lt i n) [
    | inl lt ↦ rw (get_or-take n bytes i 0 lt) (h.below i)
    | inr le ↦ rw (get_or_past (take n bytes) i 0 (omega (arith, length-take n bytes))) (omega arith)
  ];
}

-- the value of a step that did not fail
pub bind_some : {A B : Type 0} (r : Option A) (f : A → Option B) (y : B) → (r >>= f) ≡ Some y → (x : A) × (r ≡ Some x) × (f x ≡ Some y)
bind_some (Some x) f y e = (x, refl, e)
bind_some None f y e = absurd cc

-- a test that did not fail
pub guard_some : {A : Type 0} (b : Bool) (x y : A) → cond b None (Some x) ≡ Some y → (b ≡ false) × (x ≡ y)
guard_some true x y e = absurd cc
guard_some false x y e = (refl, cc)

pub passed_some : {A : Type 0} (b : Bool) (x y : A) → cond b (Some x) None ≡ Some y → (b ≡ true) × (x ≡ y)
passed_some true x y e = (refl, cc)
passed_some false x y e = absurd cc

abbrev done : {A : Type 0} → A → Option A
done x = Some x

pub some_is : {A : Type 0} (x y : A) → done x ≡ done y → x ≡ y
some_is x y e = cc

pub whole_is : {A : Type 0} (x : A × List ℕ) (y : A) → all_of x ≡ Some y → (x.1 ≡ []) × (x.0 ≡ y)
whole_is x y e =
    let g = passed_some (eqb (length x.1) 0) x.0 y e in
    (nil_from_length x.1 (eqb-true _ _ g.0), g.1)

-- what a reader took from the front
pub record Takes (bytes text rest : List ℕ) : Type 0 where
  pub parts : bytes ≡ text ++ rest
  pub rest_fits : IsBytes rest

pub Takes-then : (a x b y c : List ℕ) → Takes a x b → Takes b y c → Takes a (x ++ y) c
Takes-then a x b y c p q = record { parts = p.parts ∙ ap (λ (t : List ℕ). x ++ t) q.parts ∙ sym (append_assoc x y c); rest_fits = q.rest_fits }

-- ---- numbers

pub record IsWide (w : Width) (limit : ℕ) : Type 0 where
  pub len : (n : ℕ) → length (to_le_bytes w n) ≡ byte_len w
  pub back : (bytes : List ℕ) → length bytes ≡ byte_len w → IsBytes bytes → to_le_bytes w (from_le_bytes w bytes) ≡ bytes
  pub again : (n : ℕ) → n < limit → from_le_bytes w (to_le_bytes w n) ≡ n
  pub below : (bytes : List ℕ) → IsBytes bytes → from_le_bytes w bytes < limit

one_byte : (bytes : List ℕ) → length bytes ≡ 1 → IsBytes bytes → to_le_bytes (width One) (from_le_bytes (width One) bytes) ≡ bytes
one_byte [] len fits = absurd cc
one_byte (b ∷ []) len fits = let lt : b < 256 = fits.below 0 in let e : b % 256 ≡ b = omega arith in ap (λ (x : ℕ). x ∷ []) e
one_byte (b ∷ c ∷ bytes) len fits = absurd (omega arith)

pub wide : (size : Size) → IsWide (width size) (limit size)
wide One = record {
  len = λ n. refl;
  back = one_byte;
  again = λ n lt. omega arith;
  below = λ bytes fits. omega (arith, fits.below 0);
}
wide Two = record {
  len = λ n. refl;
  back = λ bytes len fits. le_bytes_2 bytes _ len fits.below refl;
  again = λ n lt. from_le_bytes-to_le_bytes_2 n lt;
  below = λ bytes fits. omega (arith, fits.below 0, fits.below 1);
}
wide Four = record {
  len = λ n. refl;
  back = λ bytes len fits. le_bytes_4 bytes _ len fits.below refl;
  again = λ n lt. from_le_bytes-to_le_bytes_4 n lt;
  below = λ bytes fits. omega (arith, fits.below 0, fits.below 1, fits.below 2, fits.below 3);
}
wide Eight = record {
  len = λ n. refl;
  back = λ bytes len fits. le_bytes_8 bytes _ len fits.below refl;
  again = λ n lt. from_le_bytes-to_le_bytes_8 n lt;
  below = λ bytes fits. omega (arith, fits.below 0, fits.below 1, fits.below 2, fits.below 3, fits.below 4, fits.below 5, fits.below 6, fits.below 7);
}

pub number_takes : (size : Size) (bytes : List ℕ) (x : ℕ × List ℕ) → IsBytes bytes → number_at size bytes ≡ Some x → Takes bytes (number size x.0) x.1 × (x.0 < limit size)
unfolding number_at
number_takes size bytes x fits e =
    let w = width size in
    let is_wide = wide size in
    let front = take (byte_len w) bytes in
    let front_fits = IsBytes-take (byte_len w) bytes fits in
    let g = guard_some (ltb (length bytes) (byte_len w)) (from_le_bytes w front, drop (byte_len w) bytes) x e in
    let long : byte_len w ≤ length bytes = ltb-false _ _ g.0 in
    let same : number size (from_le_bytes w front) ≡ front = is_wide.back front (omega (arith, length-take (byte_len w) bytes)) front_fits in
    let parts : bytes ≡ number size (from_le_bytes w front) ++ drop (byte_len w) bytes = sym (take-append-drop (byte_len w) bytes) ∙ ap (λ (t : List ℕ). t ++ drop (byte_len w) bytes) (sym same) in
    subst (λ (y : ℕ × List ℕ). Takes bytes (number size y.0) y.1 × (y.0 < limit size)) g.1 (record { parts = parts; rest_fits = IsBytes-drop (byte_len w) bytes fits }, is_wide.below front front_fits)

pub number_again : (size : Size) (n : ℕ) (rest : List ℕ) → n < limit size → number_at size (number size n ++ rest) ≡ Some (n, rest)
unfolding number_at
number_again size n rest lt =
    let w = width size in
    let is_wide = wide size in
    let len = is_wide.len n in
    let long : ltb (length (to_le_bytes w n ++ rest)) (byte_len w) ≡ false = le-ltb _ _ (omega (arith, length-append (to_le_bytes w n) rest)) in
    rw (long, take_at (to_le_bytes w n) rest (byte_len w) len, drop_at (to_le_bytes w n) rest (byte_len w) len, is_wide.again n lt) refl

pub number_len : (size : Size) (n : ℕ) → length (number size n) ≡ byte_len (width size)
number_len size n = (wide size).len n

-- ---- blocks and texts

pub block_takes : (size : Size) (bytes : List ℕ) (x : List ℕ × List ℕ) → IsBytes bytes → block_at size bytes ≡ Some x → Takes bytes (block size x.0) x.1 × IsBytes x.0 × (length x.0 < limit size)
unfolding block_at part_at
block_takes size bytes x fits e =
    let b = bind_some (number_at size bytes) (λ n. part_at n.0 n.1) x e in
    let n = b.0 in
    let t = number_takes size bytes n fits b.1 in
    let g = guard_some (ltb (length n.1) n.0) (take n.0 n.1, drop n.0 n.1) x b.2 in
    let long : n.0 ≤ length n.1 = ltb-false _ _ g.0 in
    let held = take n.0 n.1 in
    let len : length held ≡ n.0 = omega (arith, length-take n.0 n.1) in
    let second : Takes n.1 held (drop n.0 n.1) = record { parts = sym (take-append-drop n.0 n.1); rest_fits = IsBytes-drop n.0 n.1 t.0.rest_fits } in
    let both = Takes-then bytes (number size n.0) n.1 held (drop n.0 n.1) t.0 second in
    let whole : Takes bytes (block size held) (drop n.0 n.1) = subst (λ (k : ℕ). Takes bytes (number size k ++ held) (drop n.0 n.1)) (sym len) both in
    subst (λ (p : List ℕ × List ℕ). Takes bytes (block size p.0) p.1 × IsBytes p.0 × (length p.0 < limit size)) g.1 (whole, IsBytes-take n.0 n.1 t.0.rest_fits, omega (arith, t.1))

pub block_again : (size : Size) (held rest : List ℕ) → length held < limit size → block_at size (block size held ++ rest) ≡ Some (held, rest)
unfolding block_at part_at
block_again size held rest lt =
    let regrouped = append_assoc (number size (length held)) held rest in
    let long : ltb (length (held ++ rest)) (length held) ≡ false = le-ltb _ _ (omega (arith, length-append held rest)) in
    ap (block_at size) regrouped ∙ rw (number_again size (length held) (held ++ rest) lt, long, take_at held rest (length held) refl, drop_at held rest (length held) refl) refl

pub text_takes : (bytes : List ℕ) (x : List ℕ × List ℕ) → IsBytes bytes → text_at bytes ≡ Some x → Takes bytes (block Two x.0) x.1 × TextFits x.0
unfolding text_at
text_takes bytes x fits e =
    let b = bind_some (block_at Two bytes) (λ b. cond (is_text b.0) (Some b) None) x e in
    let g = passed_some (is_text b.0.0) b.0 x b.2 in
    let t = block_takes Two bytes b.0 fits b.1 in
    subst (λ (p : List ℕ × List ℕ). Takes bytes (block Two p.0) p.1 × TextFits p.0) g.1 (t.0, (t.2, g.0))

pub text_again : (text rest : List ℕ) → TextFits text → text_at (block Two text ++ rest) ≡ Some (text, rest)
unfolding text_at
text_again text rest fits = rw (block_again Two text rest fits.0, fits.1) refl

-- ---- qids

pub qid_takes : (bytes : List ℕ) (x : Qid × List ℕ) → IsBytes bytes → qid_at bytes ≡ Some x → Takes bytes (qid_bytes x.0) x.1 × QidFits x.0
unfolding qid_at
qid_takes bytes x fits e =
    let a = bind_some (number_at One bytes) (λ kind. number_at Four kind.1 >>= λ vers. number_at Eight vers.1 >>= λ path. Some (record { kind = kind.0; vers = vers.0; path = path.0 }, path.1)) x e in
    let b = bind_some (number_at Four a.0.1) (λ vers. number_at Eight vers.1 >>= λ path. Some (record { kind = a.0.0; vers = vers.0; path = path.0 }, path.1)) x a.2 in
    let c = bind_some (number_at Eight b.0.1) (λ path. Some (record { kind = a.0.0; vers = b.0.0; path = path.0 }, path.1)) x b.2 in
    let t = number_takes One bytes a.0 fits a.1 in
    let u = number_takes Four a.0.1 b.0 t.0.rest_fits b.1 in
    let v = number_takes Eight b.0.1 c.0 u.0.rest_fits c.1 in
    let q : Qid = record { kind = a.0.0; vers = b.0.0; path = c.0.0 } in
    let made : Qid × List ℕ = (q, c.0.1) in
    let two = Takes-then bytes (number One a.0.0) a.0.1 (number Four b.0.0) b.0.1 t.0 u.0 in
    let three = Takes-then bytes (number One a.0.0 ++ number Four b.0.0) b.0.1 (number Eight c.0.0) c.0.1 two v.0 in
    subst (λ (y : Qid × List ℕ). Takes bytes (qid_bytes y.0) y.1 × QidFits y.0) (some_is made x c.2) (three, record { kind_fits = t.1; vers_fits = u.1; path_fits = v.1 })

pub qid_again : (q : Qid) (rest : List ℕ) → QidFits q → qid_at (qid_bytes q ++ rest) ≡ Some (q, rest)
unfolding qid_at
qid_again q rest fits =
    let regrouped : qid_bytes q ++ rest ≡ number One q.kind ++ (number Four q.vers ++ (number Eight q.path ++ rest)) =
    append_assoc (number One q.kind ++ number Four q.vers) (number Eight q.path) rest ∙ append_assoc (number One q.kind) (number Four q.vers) (number Eight q.path ++ rest) in
    ap qid_at regrouped ∙ rw (number_again One q.kind (number Four q.vers ++ (number Eight q.path ++ rest)) fits.kind_fits, number_again Four q.vers (number Eight q.path ++ rest) fits.vers_fits, number_again Eight q.path rest fits.path_fits) refl
