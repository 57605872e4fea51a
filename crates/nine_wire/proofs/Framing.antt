-- The frame that is read at the front of bytes.
use Rattle.std.proofs.Common.{◌≡◌, ℕ, ◌+◌, ◌-◌, ◌^◌, ◌<◌, ◌≤◌, Bool, true, false, cond, ltb, List, [], ◌∷◌, ◌++◌, length, take, drop, Some, None, refl, sym, ap, subst, ◌∙◌, append_assoc, arith, ◌⊎◌, inl, inr}
use Rattle.std.specs.declared.option.Option.{Option}
use Rattle.std.specs.Int.{byte_len, from_le_bytes}
use Rattle.std.proofs.lemmas.Bool.{ltb-false}
use borrow.Author.Tests.{ltb-true}
use Rattle.std.proofs.lemmas.List.{take_at, take-append-drop, length-append, length-take, length-drop}
use Rattle.nine_fields.specs.Field.{Size, One, Two, Four, width, limit, number}
use Rattle.nine_fields.specs.Reading.{◌>>=◌, number_at}
use Rattle.nine_fields.proofs.Bytes.{IsBytes, IsBytes-take, bind_some, some_is, number_takes, number_len}
use Rattle.nine_wire.specs.Message.{after_size}
use Rattle.nine_wire.specs.Stands.{size_of, IsAllowed, IsPart, IsBadSize}
use Rattle.nine_wire.specs.Reading.{header_at, Framed}
use Rattle.nine_wire.proofs.Laws.{size_read}

failed : {A : Type 0} (b : Bool) (x : A) → cond b None (Some x) ≡ None → b ≡ true
failed true x e = refl
failed false x e = absurd cc

number_none : (size : Size) (bytes : List ℕ) → number_at size bytes ≡ None → length bytes < byte_len (width size)
unfolding number_at
number_none size bytes e = ltb-true _ _ (failed (ltb (length bytes) (byte_len (width size))) (from_le_bytes (width size) (take (byte_len (width size)) bytes), drop (byte_len (width size)) bytes) e)

bind_none : {A B : Type 0} (r : Option A) (f : A → Option B) → (r >>= f) ≡ None → (r ≡ None) ⊎ ((x : A) × (r ≡ Some x) × (f x ≡ None))
bind_none (Some x) f e = inr (x, refl, e)
bind_none None f e = inl refl

some_none : {A : Type 0} (x : A) (r : Option A) → r ≡ Some x → r ≡ None → ⊥
some_none x r e f = let h = sym e ∙ f in absurd cc

-- a test that did not fail
guard : {A : Type 0} (b : Bool) (x y : A) → cond b None (Some x) ≡ Some y → (b ≡ false) × (x ≡ y)
guard true x y e = absurd cc
guard false x y e = (refl, cc)

-- what is left after a number
rest_len : (size : Size) (bytes : List ℕ) (x : ℕ × List ℕ) → number_at size bytes ≡ Some x → length bytes ≡ byte_len (width size) + length x.1
unfolding number_at
rest_len size bytes x e =
    let g = guard (ltb (length bytes) (byte_len (width size))) (from_le_bytes (width size) (take (byte_len (width size)) bytes), drop (byte_len (width size)) bytes) x e in
    let same : drop (byte_len (width size)) bytes ≡ x.1 = ap (λ (p : ℕ × List ℕ). p.1) g.1 in
    omega (arith, ltb-false _ _ g.0, length-drop (byte_len (width size)) bytes, ap length same)

-- a size field that is not there
pub no_size : (limit : ℕ) (bytes : List ℕ) → number_at Four bytes ≡ None → IsPart limit bytes
no_size limit bytes e = record { part = inl (number_none Four bytes e) }

pub size_bad : (limit : ℕ) (bytes : List ℕ) (size : ℕ) (rest : List ℕ) → number_at Four bytes ≡ Some (size, rest) → (size < 7) ⊎ (limit < size) → IsBadSize limit bytes
size_bad limit bytes size rest e w = let r = size_read bytes (size, rest) e in record { there = r.0; wrong = rw r.1 w }

pub size_allowed : (limit : ℕ) (bytes : List ℕ) (size : ℕ) (rest : List ℕ) → number_at Four bytes ≡ Some (size, rest) → 7 ≤ size → size ≤ limit → IsAllowed limit bytes
size_allowed limit bytes size rest e low high = let r = size_read bytes (size, rest) e in record { there = r.0; least = rw r.1 low; most = rw r.1 high }

pub size_part : (limit : ℕ) (bytes : List ℕ) (size : ℕ) (rest : List ℕ) → number_at Four bytes ≡ Some (size, rest) → 7 ≤ size → size ≤ limit → length bytes < size → IsPart limit bytes
size_part limit bytes size rest e low high short =
    let r = size_read bytes (size, rest) e in
    record { part = inr (size_allowed limit bytes size rest e low high, omega (arith, r.1, short)) }

-- the type, the tag and what follows them
record Header (bytes : List ℕ) (kind tag : ℕ) (inside : List ℕ) : Type 0 where
  parts : bytes ≡ after_size kind tag inside
  kind_fits : kind < 2 ^ 8
  tag_fits : tag < 2 ^ 16
  bytes_fit : IsBytes inside

header_takes : (bytes : List ℕ) (x : ℕ × ℕ × List ℕ) → IsBytes bytes → header_at bytes ≡ Some x → Header bytes x.0 x.1 x.2
unfolding header_at
header_takes bytes x fits e =
    let a = bind_some (number_at One bytes) (λ kind. number_at Two kind.1 >>= λ tag. Some (kind.0, tag.0, tag.1)) x e in
    let b = bind_some (number_at Two a.0.1) (λ tag. Some (a.0.0, tag.0, tag.1)) x a.2 in
    let t = number_takes One bytes a.0 fits a.1 in
    let u = number_takes Two a.0.1 b.0 t.0.rest_fits b.1 in
    let made : ℕ × ℕ × List ℕ = (a.0.0, b.0.0, b.0.1) in
    let parts : bytes ≡ after_size a.0.0 b.0.0 b.0.1 = t.0.parts ∙ ap (λ (r : List ℕ). number One a.0.0 ++ r) u.0.parts ∙ sym (append_assoc (number One a.0.0) (number Two b.0.0) b.0.1) in
    subst (λ (y : ℕ × ℕ × List ℕ). Header bytes y.0 y.1 y.2) (some_is made x b.2) (record { parts = parts; kind_fits = t.1; tag_fits = u.1; bytes_fit = u.0.rest_fits })

-- a type and a tag are there where three bytes are
pub no_header : (bytes : List ℕ) → header_at bytes ≡ None → length bytes < 3
unfolding header_at
no_header bytes e =
    elim (bind_none (number_at One bytes) (λ kind. number_at Two kind.1 >>= λ tag. Some (kind.0, tag.0, tag.1)) e) [
      | inl none ↦ let short = number_none One bytes none in omega arith
      | inr a ↦ elim (bind_none (number_at Two a.0.1) (λ tag. Some (a.0.0, tag.0, tag.1)) a.2) [
        | inl none ↦ let short = number_none Two a.0.1 none in let rest = rest_len One bytes a.0 a.1 in omega arith
        | inr b ↦ absurd (some_none _ _ refl b.2)
      ]
    ]

pub rest_is_long : (bytes : List ℕ) (size : ℕ) (rest : List ℕ) → number_at Four bytes ≡ Some (size, rest) → length rest ≡ length bytes - 4
rest_is_long bytes size rest e = let r = rest_len Four bytes (size, rest) e in omega arith

pub inside_len : (rest : List ℕ) (kind tag : ℕ) (inside : List ℕ) → header_at rest ≡ Some (kind, tag, inside) → length rest ≡ 3 + length inside
unfolding header_at
inside_len rest kind tag inside e =
    let x : ℕ × ℕ × List ℕ = (kind, tag, inside) in
    let a = bind_some (number_at One rest) (λ k. number_at Two k.1 >>= λ t. Some (k.0, t.0, t.1)) x e in
    let b = bind_some (number_at Two a.0.1) (λ t. Some (a.0.0, t.0, t.1)) x a.2 in
    let p = rest_len One rest a.0 a.1 in
    let q = rest_len Two a.0.1 b.0 b.1 in
    let same : b.0.1 ≡ inside = ap (λ (y : ℕ × ℕ × List ℕ). y.2) (some_is (a.0.0, b.0.0, b.0.1) x b.2) in
    omega (arith, p, q, ap length same)

-- the frame of a message that is there
pub framed : (limit : ℕ) (bytes : List ℕ) (size : ℕ) (rest : List ℕ) (kind tag : ℕ) (inside : List ℕ) → IsBytes bytes → number_at Four bytes ≡ Some (size, rest) → 7 ≤ size → size ≤ limit → size ≤ length bytes
    → header_at rest ≡ Some (kind, tag, inside) → Framed limit bytes kind tag (take (size - 7) inside) size
framed limit bytes size rest kind tag inside fits e low high there h =
    let r = size_read bytes (size, rest) e in
    let t = number_takes Four bytes (size, rest) fits e in
    let u = header_takes rest (kind, tag, inside) t.0.rest_fits h in
    let k = size - 7 in
    let header = number One kind ++ number Two tag in
    let front = number Four size ++ (header ++ take k inside) in
    let len-rest = rest_is_long bytes size rest e in
    let len-inside = inside_len rest kind tag inside h in
    let whole : bytes ≡ front ++ drop k inside =
    t.0.parts ∙ ap (λ (x : List ℕ). number Four size ++ x) (u.parts ∙ ap (λ (x : List ℕ). header ++ x) (sym (take-append-drop k inside)) ∙ sym (append_assoc header (take k inside) (drop k inside))) ∙ sym (append_assoc (number Four size) (header ++ take k inside) (drop k inside)) in
    let len : length front ≡ size = omega (arith, length-append (number Four size) (header ++ take k inside), number_len Four size, length-append header (take k inside), length-append (number One kind) (number Two tag), number_len One kind, number_len Two tag, length-take k inside, len-rest, len-inside) in
    record {
      allowed = size_allowed limit bytes size rest e low high;
      size_is = sym r.1;
      there = there;
      parts = ap (take size) whole ∙ take_at front (drop k inside) size len;
      size_fits = t.1;
      kind_fits = u.kind_fits;
      tag_fits = u.tag_fits;
      bytes_fit = IsBytes-take k inside u.bytes_fit;
    }
