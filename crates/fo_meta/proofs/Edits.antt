-- What a leaf is after a record was added or taken out.
use Rattle.std.proofs.Common.{◌≡◌, ℕ, ◌+◌, ◌-◌, ◌≤◌, ◌<◌, true, List, [], ◌∷◌, ◌++◌, length, take, drop, refl, sym, ap, subst, ◌∙◌, append_assoc, arith}
use Rattle.std.specs.Prelude.{replicate, Result, Ok, Err, MatchResult, OnErr}
use Rattle.std.specs.List.{list_any, AllByRecursion}
use Rattle.std.proofs.lemmas.List.{append-nil, length-append, length-replicate, drop-replicate, replicate-append-replicate, drop_at, take_at, take_rest, drop_all}
use borrow.Rule.Slice.PartMut.{put_mid}
use Rattle.fo_image.specs.declared.record.Record.{Record}
use Rattle.fo_image.specs.Field.{Two, number, zeros, Spells}
use Rattle.fo_image.specs.Record.{RecordHolds, record_len, record_fields}
use Rattle.fo_image.proofs.Pieces.{write_after}
use Rattle.fo_image.proofs.PointerLemmas.{padded_whole}
use Rattle.fo_image.proofs.RecordLemmas.{length-record, spells_itself}
use Rattle.fo_meta.specs.Leaf.{HasSpelling, record_bytes, records_bytes, SpellsLeaf, IsLeaf, is_named, without, Placed}
use Rattle.fo_meta.proofs.Lists.{each-left, each-right, each-both, records_bytes-append, without-first, any-first}

drop-zeros : (k z : ℕ) → drop k (zeros z) ≡ zeros (z - k)
unfolding zeros
drop-zeros k z = drop-replicate k z 0

zeros-append : (m n : ℕ) → zeros m ++ zeros n ≡ zeros (m + n)
unfolding zeros
zeros-append m n = replicate-append-replicate m n 0

zeros_are : (xs : List ℕ) (n : ℕ) → xs ≡ replicate n 0 → xs ≡ zeros n
unfolding zeros
zeros_are xs n e = e

length-zeros : (n : ℕ) → length (zeros n) ≡ n
unfolding zeros
length-zeros n = length-replicate n 0

made : (rs : List Record) (new body : List ℕ) (count used : ℕ) → AllByRecursion HasSpelling rs → length (records_bytes rs) ≤ 8188 → count ≡ length rs → used ≡ length (records_bytes rs)
    → body ≡ records_bytes rs ++ zeros (8188 - length (records_bytes rs)) → new ≡ number Two count ++ (number Two used ++ body) → SpellsLeaf rs new
made rs new body count used each room count_is used_is body_is is = record {
  each = each;
  room = room;
  bytes_are = is ∙ ap (λ n. number Two n ++ (number Two used ++ body)) count_is ∙ ap (λ n. number Two (length rs) ++ (number Two n ++ body)) used_is
      ∙ ap (λ xs. number Two (length rs) ++ (number Two (length (records_bytes rs)) ++ xs)) body_is;
}

pub record_is : (r : Record) (bytes : List ℕ) → Spells (record_len r) record_fields RecordHolds r bytes → bytes ≡ record_bytes r
record_is r bytes s = s.bytes_are ∙ padded_whole (record_bytes r) (record_len r) (length-record r)

one_more : (rs : List Record) (r : Record) → records_bytes (rs ++ r ∷ []) ≡ records_bytes rs ++ record_bytes r
one_more rs r = records_bytes-append rs (r ∷ []) ∙ ap (λ xs. records_bytes rs ++ xs) (append-nil (record_bytes r))

pub inserted : (rs : List Record) (r : Record) (leaf w new : List ℕ) (count used len : ℕ) → SpellsLeaf rs leaf → Spells (record_len r) record_fields RecordHolds r w
    → count ≡ length rs → used ≡ length (records_bytes rs) → len ≡ record_len r → used + len ≤ 8188
    → new ≡ number Two (count + 1) ++ (number Two (used + len) ++ drop 4 (put_mid (4 + used) (4 + used + len - (4 + used)) leaf w)) → SpellsLeaf (rs ++ r ∷ []) new
inserted rs r leaf w new count used len s spells count_is used_is len_is room is =
    let B = records_bytes rs in
    let z = 8188 - length B in
    let k = 4 + used + len - (4 + used) in
    let front : List ℕ = number Two (length rs) ++ (number Two (length B) ++ B) in
    let w_is = record_is r w spells in
    let w_len : length w ≡ k = ap length w_is ∙ length-record r ∙ sym len_is ∙ omega arith in
    let front_len : length front ≡ 4 + used = omega arith in
    let put : put_mid (4 + used) k leaf w ≡ (front ++ w) ++ drop k (zeros z) = ap (λ xs. put_mid (4 + used) k xs w) s.bytes_are ∙ write_after front (zeros z) w (4 + used) k front_len w_len in
    let all : records_bytes (rs ++ r ∷ []) ≡ B ++ w = one_more rs r ∙ ap (λ xs. B ++ xs) (sym w_is) in
    let all_len : length (records_bytes (rs ++ r ∷ [])) ≡ used + len = omega (arith, ap length all, length-append B w) in
    let left : z - k ≡ 8188 - length (records_bytes (rs ++ r ∷ [])) = omega arith in
    let body : drop 4 (put_mid (4 + used) k leaf w) ≡ records_bytes (rs ++ r ∷ []) ++ zeros (8188 - length (records_bytes (rs ++ r ∷ []))) =
    ap (drop 4) put ∙ ap (λ xs. (B ++ w) ++ xs) (drop-zeros k z ∙ ap zeros left) ∙ ap (λ xs. xs ++ zeros (8188 - length (records_bytes (rs ++ r ∷ [])))) (sym all) in
    made (rs ++ r ∷ []) new _ (count + 1) (used + len) (each-both rs (r ∷ []) s.each (record { holds = spells.holds; fit = spells.fit }, tt)) (omega (arith, all_len)) (omega (arith, length-append rs (r ∷ []))) (sym all_len) body is

-- ---- a record taken out

pub record Parts (name : List ℕ) (rs : List Record) (place : ℕ × ℕ) : Type 0 where
  pub rest : List Record
  pub is : without name rs ≡ rest
  pub any : list_any (is_named name) rs ≡ true
  pub len : place.1 - place.0 + length (records_bytes rest) ≡ length (records_bytes rs)
  pub some : length rs ≡ length rest + 1
  pub forward : place.0 < place.1

pub parts_are : (name : List ℕ) (rs : List Record) (place : ℕ × ℕ) → Placed name rs place → Parts name rs place
parts_are name rs place p =
    let B = p.before in
    let A = p.after in
    let r = p.named in
    let whole : records_bytes rs ≡ records_bytes B ++ (record_bytes r ++ records_bytes A) = ap (λ xs. records_bytes xs) p.split ∙ records_bytes-append B (r ∷ A) in
    record {
      rest = B ++ A;
      is = ap (without name) p.split ∙ without-first name B A r p.unnamed p.is;
      any = ap (list_any (is_named name)) p.split ∙ any-first (is_named name) B A r p.is;
      len = omega (arith, p.start, p.end, ap length whole, length-append (records_bytes B) (record_bytes r ++ records_bytes A), length-append (record_bytes r) (records_bytes A), length-record r, ap length (records_bytes-append B A), length-append (records_bytes B) (records_bytes A));
      some = omega (arith, ap length p.split, length-append B (r ∷ A), length-append B A);
      forward = omega (arith, p.end);
    }

pub leaf_len : (rs : List Record) (leaf : List ℕ) → SpellsLeaf rs leaf → length leaf ≡ 8192
leaf_len rs leaf s =
    let B = records_bytes rs in
    let z = 8188 - length B in
    omega (arith, ap length s.bytes_are, length-append B (zeros z), length-zeros z, s.room)

pub placed_record : (name : List ℕ) (rs : List Record) (leaf : List ℕ) (at end : ℕ) → SpellsLeaf rs leaf → (p : Placed name rs (at, end))
    → Spells (record_len p.named) record_fields RecordHolds p.named (take (end - at) (drop at leaf))
placed_record name rs leaf at end s p =
    let B = records_bytes p.before in
    let A = records_bytes p.after in
    let R = record_bytes p.named in
    let Z = zeros (8188 - length (records_bytes rs)) in
    let front : List ℕ = number Two (length rs) ++ (number Two (length (records_bytes rs)) ++ B) in
    let whole : records_bytes rs ≡ B ++ (R ++ A) = ap (λ xs. records_bytes xs) p.split ∙ records_bytes-append p.before (p.named ∷ p.after) in
    let body_is : records_bytes rs ++ Z ≡ B ++ (R ++ (A ++ Z)) = ap (λ xs. xs ++ Z) whole ∙ append_assoc B (R ++ A) Z ∙ ap (λ xs. B ++ xs) (append_assoc R A Z) in
    let leaf_is : leaf ≡ front ++ (R ++ (A ++ Z)) = s.bytes_are ∙ ap (λ xs. number Two (length rs) ++ (number Two (length (records_bytes rs)) ++ xs)) body_is in
    let front_len : length front ≡ at = omega (arith, p.start) in
    let R_len : length R ≡ end - at = length-record p.named ∙ omega (arith, p.end) in
    let is : take (end - at) (drop at leaf) ≡ R = ap (λ xs. take (end - at) (drop at xs)) leaf_is ∙ ap (take (end - at)) (drop_at front (R ++ (A ++ Z)) at front_len) ∙ take_at R (A ++ Z) (end - at) R_len in
    let each = each-right p.before (p.named ∷ p.after) (subst (AllByRecursion HasSpelling) p.split s.each) in
    subst (λ b. Spells (record_len p.named) record_fields RecordHolds p.named b) (sym is)
    (spells_itself (record_len p.named) record_fields RecordHolds p.named each.0.holds each.0.fit (length-record p.named))

-- what stands there once the record is zero
abbrev pub wiped : List ℕ → List ℕ → ℕ → ℕ → List ℕ
wiped leaf zs at end = put_mid at (end - at) leaf zs

pub removed : (name : List ℕ) (rs : List Record) (leaf zs rot new : List ℕ) (at end count used : ℕ) → SpellsLeaf rs leaf → Placed name rs (at, end) → count ≡ length rs → used ≡ length (records_bytes rs)
    → zs ≡ replicate (length (take (end - at) (drop at leaf))) 0
    → rot ≡ drop (end - at) (take (length (wiped leaf zs at end) - at) (drop at (wiped leaf zs at end))) ++ take (end - at) (take (length (wiped leaf zs at end) - at) (drop at (wiped leaf zs at end)))
    → new ≡ number Two (count - 1) ++ (number Two (used - (end - at)) ++ drop 4 (put_mid at (length (wiped leaf zs at end) - at) (wiped leaf zs at end) rot)) → SpellsLeaf (without name rs) new
removed name rs leaf zs rot new at end count used s p count_is used_is zs_is rot_is is =
    let q = parts_are name rs (at, end) p in
    let B = records_bytes p.before in
    let A = records_bytes p.after in
    let R = record_bytes p.named in
    let z = 8188 - length (records_bytes rs) in
    let Z = zeros z in
    let k = end - at in
    let front : List ℕ = number Two (length rs) ++ (number Two (length (records_bytes rs)) ++ B) in
    let whole : records_bytes rs ≡ B ++ (R ++ A) = ap (λ xs. records_bytes xs) p.split ∙ records_bytes-append p.before (p.named ∷ p.after) in
    let body_is : records_bytes rs ++ Z ≡ B ++ (R ++ (A ++ Z)) = ap (λ xs. xs ++ Z) whole ∙ append_assoc B (R ++ A) Z ∙ ap (λ xs. B ++ xs) (append_assoc R A Z) in
    let leaf_is : leaf ≡ front ++ (R ++ (A ++ Z)) = s.bytes_are ∙ ap (λ xs. number Two (length rs) ++ (number Two (length (records_bytes rs)) ++ xs)) body_is in
    let front_len : length front ≡ at = omega (arith, p.start) in
    let R_len : length R ≡ k = length-record p.named ∙ omega (arith, p.end) in
    let there : drop at leaf ≡ R ++ (A ++ Z) = ap (drop at) leaf_is ∙ drop_at front (R ++ (A ++ Z)) at front_len in
    let cut : length (take k (drop at leaf)) ≡ k = ap (λ xs. length (take k xs)) there ∙ ap length (take_at R (A ++ Z) k R_len) ∙ R_len in
    let zs_are : zs ≡ zeros k = zeros_are zs k (zs_is ∙ ap (λ n. replicate n 0) cut) in
    let zs_len : length zs ≡ k = ap length zs_are ∙ length-zeros k in
    let one : wiped leaf zs at end ≡ front ++ (zs ++ (A ++ Z)) =
    ap (λ xs. put_mid at k xs zs) leaf_is ∙ write_after front (R ++ (A ++ Z)) zs at k front_len zs_len ∙ ap (λ xs. (front ++ zs) ++ xs) (drop_at R (A ++ Z) k R_len) ∙ append_assoc front zs (A ++ Z) in
    let sub : take (length (wiped leaf zs at end) - at) (drop at (wiped leaf zs at end)) ≡ zs ++ (A ++ Z) =
    take_rest (wiped leaf zs at end) at ∙ ap (drop at) one ∙ drop_at front (zs ++ (A ++ Z)) at front_len in
    let rot_are : rot ≡ (A ++ Z) ++ zs = rot_is ∙ ap (λ xs. drop k xs ++ take k xs) sub ∙ ap (λ xs. xs ++ take k (zs ++ (A ++ Z))) (drop_at zs (A ++ Z) k zs_len) ∙ ap (λ xs. (A ++ Z) ++ xs) (take_at zs (A ++ Z) k zs_len) in
    let m = length (wiped leaf zs at end) - at in
    let m_is : m ≡ length (zs ++ (A ++ Z)) = omega (arith, ap length one, length-append front (zs ++ (A ++ Z))) in
    let rot_len : length rot ≡ m = omega (arith, ap length rot_are, length-append (A ++ Z) zs, length-append zs (A ++ Z)) in
    let two : put_mid at m (wiped leaf zs at end) rot ≡ front ++ rot =
    ap (λ xs. put_mid at m xs rot) one ∙ write_after front (zs ++ (A ++ Z)) rot at m front_len rot_len ∙ ap (λ xs. (front ++ rot) ++ xs) (drop_all m (zs ++ (A ++ Z)) (omega arith)) ∙ append-nil (front ++ rot) in
    let kept : records_bytes (p.before ++ p.after) ≡ B ++ A = records_bytes-append p.before p.after in
    let kept_len : length (records_bytes (p.before ++ p.after)) ≡ used - k = omega (arith, ap length kept, length-append B A, ap length whole, length-append B (R ++ A), length-append R A) in
    let back : Z ++ zs ≡ zeros (8188 - length (records_bytes (p.before ++ p.after))) =
    ap (λ xs. Z ++ xs) zs_are ∙ zeros-append z k ∙ ap zeros (omega (arith, s.room, ap length whole, length-append B (R ++ A), length-append R A)) in
    let body : drop 4 (put_mid at m (wiped leaf zs at end) rot) ≡ records_bytes (p.before ++ p.after) ++ zeros (8188 - length (records_bytes (p.before ++ p.after))) =
    ap (drop 4) two ∙ ap (λ xs. B ++ xs) (rot_are ∙ append_assoc A Z zs) ∙ sym (append_assoc B A (Z ++ zs)) ∙ ap (λ xs. xs ++ (Z ++ zs)) (sym kept) ∙ ap (λ xs. records_bytes (p.before ++ p.after) ++ xs) back in
    let each : AllByRecursion HasSpelling (p.before ++ p.named ∷ p.after) = subst (AllByRecursion HasSpelling) p.split s.each in
    let made_of = made (p.before ++ p.after) new _ (count - 1) (used - k)
    (each-both p.before p.after (each-left p.before (p.named ∷ p.after) each) (each-right p.before (p.named ∷ p.after) each).1)
    (omega (arith, kept_len, s.room)) (omega (arith, ap length p.split, length-append p.before (p.named ∷ p.after), length-append p.before p.after)) (sym kept_len) body is in
    subst (λ xs. SpellsLeaf xs new) (sym (without-first name p.before p.after p.named p.unnamed p.is) ∙ ap (without name) (sym p.split)) made_of

-- a refusal that cannot come
pub never_err : {T E : Type 0} (res : Result T E) (P : T → Type 0) (Q : E → Type 0) (R : Type 0) → MatchResult res P Q → ((e : E) → Q e → ⊥) → OnErr res R
never_err (Ok x) P Q R h none = tt
never_err (Err e) P Q R h none = absurd (none e h)

four : (xs : List ℕ) → zeros 4 ++ xs ≡ number Two 0 ++ (number Two 0 ++ xs)
unfolding zeros
four xs = refl

pub empty : (leaf : List ℕ) → leaf ≡ replicate 8192 0 → SpellsLeaf [] leaf
empty leaf e = record { each = tt; room = omega arith; bytes_are = zeros_are leaf 8192 e ∙ sym (zeros-append 4 8188) ∙ four (zeros 8188) }

-- what a leaf is after a call that answered so
pub is_leaf_after : {T E : Type 0} (res : Result T E) (rs new : List Record) (old leaf : List ℕ) (Q : E → Type 0) → MatchResult res (λ _. SpellsLeaf new leaf) Q → OnErr res (leaf ≡ old) → SpellsLeaf rs old → IsLeaf leaf
is_leaf_after (Ok x) rs new old leaf Q h stays s = record { records = new; spells = h }
is_leaf_after (Err e) rs new old leaf Q h stays s = record { records = rs; spells = subst (λ b. SpellsLeaf rs b) (sym stays) s }
