-- What stands at the front of a stream: exactly one thing, and nothing that follows a message changes it.
use Rattle.std.proofs.Common.{◌≡◌, ℕ, ◌+◌, ◌-◌, ◌^◌, ◌<◌, ◌≤◌, Bool, true, false, cond, ltb, eqb, List, [], ◌∷◌, ◌++◌, length, take, drop, Some, None, refl, sym, ap, subst, ◌∙◌, append_assoc, arith, ◌⊎◌, inl, inr}
use Rattle.std.specs.declared.option.Option.{Option}
use Rattle.std.specs.Int.{byte_len, from_le_bytes, w32}
use Rattle.std.specs.List.{AllByRecursion, flat_map}
use Rattle.std.specs.Prelude.{map}
use Rattle.std.proofs.lemmas.Bool.{ltb-false}
use Rattle.std.proofs.lemmas.List.{append-nil, take_at, drop_at, take-append-drop, take-append-le, length-append, length-take, length-drop}
use Rattle.nine_fields.specs.Field.{One, Two, Four, width, number, spelled, FieldFits, Shape, shape}
use Rattle.nine_fields.specs.Reading.{◌>>=◌, number_at, fields_at, all_of}
use Rattle.nine_fields.proofs.Bytes.{IsBytes, IsBytes-take, bind_some, guard_some, some_is, whole_is, number_takes, number_again, number_len}
use Rattle.nine_fields.proofs.Taking.{fields_take, fields_again}
use Rattle.nine_wire.specs.Message.{Message, message, body, after_size, spelling, HasSpelling}
use Rattle.nine_wire.specs.Stands.{Stands, size_of, IsAllowed, IsPart, IsBadSize, IsBadBody, Front, Part, BadSize, BadBody, Whole, IsFront}
use Rattle.nine_wire.specs.Reading.{message_at, whole_at, header_at, Framed}
use Rattle.nine_wire.proofs.Tables.{Kinds}

-- ---- lengths and the size field

after_size-len : (kind tag : ℕ) (bytes : List ℕ) → length (after_size kind tag bytes) ≡ 3 + length bytes
after_size-len kind tag bytes = omega (arith, length-append (number One kind ++ number Two tag) bytes, length-append (number One kind) (number Two tag), number_len One kind, number_len Two tag)

-- a message has seven bytes before its body
pub spelling-len : (tag : ℕ) (m : Message) → length (spelling tag m) ≡ 7 + length (body m)
unfolding spelling
spelling-len tag m = omega (arith, length-append (number Four (7 + length (body m))) (after_size m.kind tag (body m)), number_len Four (7 + length (body m)), after_size-len m.kind tag (body m))

-- the size field is what stands in front, where there are four bytes
pub size_read : (bytes : List ℕ) (x : ℕ × List ℕ) → number_at Four bytes ≡ Some x → (4 ≤ length bytes) × (size_of bytes ≡ x.0) × (drop 4 bytes ≡ x.1)
unfolding number_at size_of
size_read bytes x e =
    let g = guard_some (ltb (length bytes) 4) (from_le_bytes w32 (take 4 bytes), drop 4 bytes) x e in
    (ltb-false _ _ g.0, ap (λ (p : ℕ × List ℕ). p.0) g.1, ap (λ (p : ℕ × List ℕ). p.1) g.1)

size_more : (bytes more : List ℕ) → 4 ≤ length bytes → size_of (bytes ++ more) ≡ size_of bytes
unfolding size_of
size_more bytes more le = ap (from_le_bytes w32) (take-append-le 4 bytes more le)

-- a message in front of other bytes
pub spelling_stands : (limit tag : ℕ) (m : Message) (rest : List ℕ) → HasSpelling tag m → length (spelling tag m) ≤ limit → Stands limit (spelling tag m ++ rest) tag m (length (spelling tag m))
spelling_stands limit tag m rest fits le = record {
  spelled = take_at (spelling tag m) rest (length (spelling tag m)) refl;
  used_is = refl;
  within = omega (arith, length-append (spelling tag m) rest);
  allowed = le;
  fits = fits;
}

-- the size field of a message that stands is its length
stands_read : (limit : ℕ) (bytes : List ℕ) (tag : ℕ) (m : Message) (used : ℕ) → Stands limit bytes tag m used → number_at Four bytes ≡ Some (7 + length (body m), after_size m.kind tag (body m) ++ drop used bytes)
unfolding spelling
stands_read limit bytes tag m used s =
    let rest = drop used bytes in
    let parts : bytes ≡ number Four (7 + length (body m)) ++ (after_size m.kind tag (body m) ++ rest) =
    sym (take-append-drop used bytes) ∙ ap (λ (t : List ℕ). t ++ rest) s.spelled ∙ append_assoc (number Four (7 + length (body m))) (after_size m.kind tag (body m)) rest in
    ap (number_at Four) parts ∙ number_again Four (7 + length (body m)) (after_size m.kind tag (body m) ++ rest) s.fits.size_fits

pub stands_size : (limit : ℕ) (bytes : List ℕ) (tag : ℕ) (m : Message) (used : ℕ) → Stands limit bytes tag m used → (4 ≤ length bytes) × (size_of bytes ≡ used)
stands_size limit bytes tag m used s =
    let r = size_read bytes _ (stands_read limit bytes tag m used s) in
    (r.0, r.1 ∙ sym (spelling-len tag m) ∙ sym s.used_is)

-- ---- what a service that reads message by message needs

-- a message has at least seven bytes
pub stands_long : (limit : ℕ) (bytes : List ℕ) (tag : ℕ) (m : Message) (used : ℕ) → Stands limit bytes tag m used → 7 ≤ used
stands_long limit bytes tag m used s = omega (arith, s.used_is, spelling-len tag m)

-- what follows a message does not change it
pub stands_more : (limit : ℕ) (bytes more : List ℕ) (tag : ℕ) (m : Message) (used : ℕ) → Stands limit bytes tag m used → Stands limit (bytes ++ more) tag m used
stands_more limit bytes more tag m used s = record {
  spelled = take-append-le used bytes more s.within ∙ s.spelled;
  used_is = s.used_is;
  within = omega (arith, s.within, length-append bytes more);
  allowed = s.allowed;
  fits = s.fits;
}

stands_less : (limit : ℕ) (bytes more : List ℕ) (tag : ℕ) (m : Message) (used : ℕ) → used ≤ length bytes → Stands limit (bytes ++ more) tag m used → Stands limit bytes tag m used
stands_less limit bytes more tag m used le s = record {
  spelled = sym (take-append-le used bytes more le) ∙ s.spelled;
  used_is = s.used_is;
  within = le;
  allowed = s.allowed;
  fits = s.fits;
}

-- no message stands where only a part of one is there
pub part_none : (limit : ℕ) (bytes : List ℕ) (tag : ℕ) (m : Message) (used : ℕ) → IsPart limit bytes → Stands limit bytes tag m used → ⊥
part_none limit bytes tag m used p s =
    let z = stands_size limit bytes tag m used s in
    elim p.part [ inl short ↦ omega (arith, short, z.0) | inr q ↦ omega (arith, q.1, z.1, s.within) ]

-- a part is shorter than the limit
pub part_short : (limit : ℕ) (bytes : List ℕ) → IsPart limit bytes → 4 ≤ limit → length bytes < limit
part_short limit bytes p le = elim p.part [ inl short ↦ omega arith | inr q ↦ omega (arith, q.1, q.0.most) ]

-- where the size is not allowed no message stands, whatever follows
pub bad_size_more : (limit : ℕ) (bytes more : List ℕ) → IsBadSize limit bytes → IsBadSize limit (bytes ++ more)
bad_size_more limit bytes more b = record { there = omega (arith, b.there, length-append bytes more); wrong = rw (size_more bytes more b.there) b.wrong }

bad_size_now : (limit : ℕ) (bytes : List ℕ) (tag : ℕ) (m : Message) (used : ℕ) → IsBadSize limit bytes → Stands limit bytes tag m used → ⊥
bad_size_now limit bytes tag m used b s =
    let z = stands_size limit bytes tag m used s in
    let long = stands_long limit bytes tag m used s in
    elim b.wrong [ inl low ↦ omega (arith, low, z.1) | inr high ↦ omega (arith, high, z.1, s.allowed) ]

pub bad_size_none : (limit : ℕ) (bytes more : List ℕ) (tag : ℕ) (m : Message) (used : ℕ) → IsBadSize limit bytes → Stands limit (bytes ++ more) tag m used → ⊥
bad_size_none limit bytes more tag m used b s = bad_size_now limit (bytes ++ more) tag m used (bad_size_more limit bytes more b) s

-- where the body is that of no message none stands, whatever follows
bad_body_now : {A : Type 0} (view : A → Message) (limit : ℕ) (bytes : List ℕ) (tag : ℕ) (x : A) (used : ℕ) → IsBadBody view limit bytes → Stands limit bytes tag (view x) used → ⊥
bad_body_now view limit bytes tag x used b s =
    let z = stands_size limit bytes tag (view x) used s in
    b.no_message tag x (subst (λ (n : ℕ). Stands limit bytes tag (view x) n) (sym z.1) s)

pub bad_body_none : {A : Type 0} (view : A → Message) (limit : ℕ) (bytes more : List ℕ) (tag : ℕ) (x : A) (used : ℕ) → IsBadBody view limit bytes → Stands limit (bytes ++ more) tag (view x) used → ⊥
bad_body_none view limit bytes more tag x used b s =
    let z = stands_size limit (bytes ++ more) tag (view x) used s in
    let same = size_more bytes more b.allowed.there in
    let le : used ≤ length bytes = omega (arith, b.whole, z.1, same) in
    bad_body_now view limit bytes tag x used b (stands_less limit bytes more tag (view x) used le s)

pub bad_body_more : {A : Type 0} (view : A → Message) (limit : ℕ) (bytes more : List ℕ) → IsBadBody view limit bytes → IsBadBody view limit (bytes ++ more)
bad_body_more view limit bytes more b =
    let same = size_more bytes more b.allowed.there in
    let len = length-append bytes more in
    record {
      allowed = record { there = omega (arith, b.allowed.there, len); least = omega (arith, same, b.allowed.least); most = omega (arith, same, b.allowed.most) };
      whole = omega (arith, same, b.whole, len);
      no_message = λ tag x s. bad_body_none view limit bytes more tag x (size_of (bytes ++ more)) b s;
    }

-- ---- bodies

-- the body of a message of this type, by the table
pub record BodyTaken (kind : ℕ) (bytes : List ℕ) (m : Message) : Type 0 where
  pub parts : bytes ≡ body m
  pub kind_is : m.kind ≡ kind
  pub fields_fit : AllByRecursion FieldFits m.fields

whole_takes : (table : ℕ → Option (List Shape)) (kind : ℕ) (bytes : List ℕ) (m : Message) → IsBytes bytes → whole_at table kind bytes ≡ Some m → BodyTaken kind bytes m
unfolding whole_at message_at
whole_takes table kind bytes m fits e =
    let a = bind_some (message_at table kind bytes) (λ x. all_of x) m e in
    let b = bind_some (table kind) (λ ss. fields_at ss bytes >>= λ fs. Some (message kind fs.0, fs.1)) a.0 a.1 in
    let c = bind_some (fields_at b.0 bytes) (λ fs. Some (message kind fs.0, fs.1)) a.0 b.2 in
    let t = fields_take b.0 bytes c.0 fits c.1 in
    let whole = whole_is a.0 m a.2 in
    let made : (message kind c.0.0, c.0.1) ≡ a.0 = some_is (message kind c.0.0, c.0.1) a.0 c.2 in
    let nothing : c.0.1 ≡ [] = ap (λ (p : Message × List ℕ). p.1) made ∙ whole.0 in
    let same : message kind c.0.0 ≡ m = ap (λ (p : Message × List ℕ). p.0) made ∙ whole.1 in
    subst (BodyTaken kind bytes) same (record { parts = t.taken.parts ∙ ap (λ (r : List ℕ). flat_map spelled c.0.0 ++ r) nothing ∙ append-nil (flat_map spelled c.0.0); kind_is = refl; fields_fit = t.fits })

whole_again : (table : ℕ → Option (List Shape)) (m : Message) → AllByRecursion FieldFits m.fields → table m.kind ≡ Some (map shape m.fields) → whole_at table m.kind (body m) ≡ Some m
unfolding whole_at message_at
whole_again table m fits typed =
    let one : fields_at (map shape m.fields) (body m) ≡ Some (m.fields, []) = ap (fields_at (map shape m.fields)) (sym (append-nil (body m))) ∙ fields_again m.fields [] fits in
    rw (typed, one) refl

header_again : (kind tag : ℕ) (bytes : List ℕ) → kind < 2 ^ 8 → tag < 2 ^ 16 → header_at (after_size kind tag bytes) ≡ Some (kind, tag, bytes)
unfolding header_at
header_again kind tag bytes k t = ap header_at (append_assoc (number One kind) (number Two tag) bytes) ∙ rw (number_again One kind (number Two tag ++ bytes) k, number_again Two tag bytes t) refl

-- what is spelled behind a size tells its type, its tag and its body
pub record SameFrame (kind kind' tag tag' : ℕ) (inside inside' : List ℕ) : Type 0 where
  pub same_kind : kind ≡ kind'
  pub same_tag : tag ≡ tag'
  pub same_inside : inside ≡ inside'

frame_once : (size size' kind kind' tag tag' : ℕ) (inside inside' : List ℕ) → size < 2 ^ 32 → size' < 2 ^ 32 → kind < 2 ^ 8 → kind' < 2 ^ 8 → tag < 2 ^ 16 → tag' < 2 ^ 16
    → number Four size ++ after_size kind tag inside ≡ number Four size' ++ after_size kind' tag' inside' → SameFrame kind kind' tag tag' inside inside'
frame_once size size' kind kind' tag tag' inside inside' z z' k k' t t' e =
    let outer : (size, after_size kind tag inside) ≡ (size', after_size kind' tag' inside') = some_is _ _ (sym (number_again Four size (after_size kind tag inside) z) ∙ ap (number_at Four) e ∙ number_again Four size' (after_size kind' tag' inside') z') in
    let after : after_size kind tag inside ≡ after_size kind' tag' inside' = ap (λ (p : ℕ × List ℕ). p.1) outer in
    let inner : (kind, tag, inside) ≡ (kind', tag', inside') = some_is _ _ (sym (header_again kind tag inside k t) ∙ ap header_at after ∙ header_again kind' tag' inside' k' t') in
    record { same_kind = ap (λ (p : ℕ × ℕ × List ℕ). p.0) inner; same_tag = ap (λ (p : ℕ × ℕ × List ℕ). p.1) inner; same_inside = ap (λ (p : ℕ × ℕ × List ℕ). p.2) inner }

-- ---- at most one message stands at a front

pub record SameMessage {A : Type 0} (tag tag' : ℕ) (x x' : A) (used used' : ℕ) : Type 0 where
  pub same_tag : tag ≡ tag'
  pub same_message : x ≡ x'
  pub same_used : used ≡ used'

pub stands_once : {A : Type 0} (view : A → Message) (table : ℕ → Option (List Shape)) (kinds : Kinds view table) (limit : ℕ) (bytes : List ℕ) (tag tag' : ℕ) (x x' : A) (used used' : ℕ)
    → Stands limit bytes tag (view x) used → Stands limit bytes tag' (view x') used' → SameMessage tag tag' x x' used used'
unfolding spelling
stands_once view table kinds limit bytes tag tag' x x' used used' s s' =
    let m = view x in
    let m' = view x' in
    let z = stands_size limit bytes tag m used s in
    let z' = stands_size limit bytes tag' m' used' s' in
    let len : used ≡ used' = sym z.1 ∙ z'.1 in
    let same : spelling tag m ≡ spelling tag' m' = sym s.spelled ∙ ap (λ (n : ℕ). take n bytes) len ∙ s'.spelled in
    let f = frame_once (7 + length (body m)) (7 + length (body m')) m.kind m'.kind tag tag' (body m) (body m') s.fits.size_fits s'.fits.size_fits s.fits.kind_fits s'.fits.kind_fits s.fits.tag_fits s'.fits.tag_fits same in
    let one : whole_at table m.kind (body m) ≡ Some m = whole_again table m s.fits.fields_fit (kinds.typed x) in
    let two : whole_at table m'.kind (body m') ≡ Some m' = whole_again table m' s'.fits.fields_fit (kinds.typed x') in
    let both : whole_at table m.kind (body m) ≡ whole_at table m'.kind (body m') = ap (λ (k : ℕ). whole_at table k (body m)) f.same_kind ∙ ap (whole_at table m'.kind) f.same_inside in
    record { same_tag = f.same_tag; same_message = kinds.told x x' (some_is m m' (sym one ∙ both ∙ two)); same_used = len }

-- ---- reading

-- a frame whose body is read as a message is that message
pub frame_stands : (table : ℕ → Option (List Shape)) (limit : ℕ) (bytes : List ℕ) (kind tag : ℕ) (inside : List ℕ) (size : ℕ) (m : Message)
    → Framed limit bytes kind tag inside size → whole_at table kind inside ≡ Some m → Stands limit bytes tag m size
unfolding spelling
frame_stands table limit bytes kind tag inside size m f e =
    let t = whole_takes table kind inside m f.bytes_fit e in
    let len : size ≡ 7 + length (body m) = omega (arith, length-take size bytes, f.there, ap length f.parts, length-append (number Four size) (after_size kind tag inside), number_len Four size, after_size-len kind tag inside, ap length t.parts) in
    let same : take size bytes ≡ spelling tag m = f.parts ∙ ap (λ (n : ℕ). number Four n ++ after_size kind tag inside) len ∙ ap (λ (k : ℕ). number Four (7 + length (body m)) ++ after_size k tag inside) (sym t.kind_is) ∙ ap (λ (r : List ℕ). number Four (7 + length (body m)) ++ after_size m.kind tag r) t.parts in
    record {
      spelled = same;
      used_is = omega (arith, len, spelling-len tag m);
      within = f.there;
      allowed = omega (arith, f.size_is, f.allowed.most);
      fits = record { tag_fits = f.tag_fits; kind_fits = rw t.kind_is f.kind_fits; fields_fit = t.fields_fit; size_fits = omega (arith, len, f.size_fits) };
    }

none_some : {A : Type 0} (x : A) (r : Option A) → r ≡ None → r ≡ Some x → ⊥
none_some x r e f = let h = sym e ∙ f in absurd cc

-- a frame whose body is read as none is that of no message
pub frame_bad : {A : Type 0} (view : A → Message) (table : ℕ → Option (List Shape)) (kinds : Kinds view table) (limit : ℕ) (bytes : List ℕ) (kind tag : ℕ) (inside : List ℕ) (size : ℕ)
    → Framed limit bytes kind tag inside size → whole_at table kind inside ≡ None → IsBadBody view limit bytes
unfolding spelling
frame_bad view table kinds limit bytes kind tag inside size f e = record {
  allowed = f.allowed;
  whole = omega (arith, f.size_is, f.there);
  no_message = λ tag' x s.
      let m = view x in
      let same : number Four size ++ after_size kind tag inside ≡ spelling tag' m = sym f.parts ∙ ap (λ (n : ℕ). take n bytes) f.size_is ∙ s.spelled in
      let o = frame_once size (7 + length (body m)) kind m.kind tag tag' inside (body m) f.size_fits s.fits.size_fits f.kind_fits s.fits.kind_fits f.tag_fits s.fits.tag_fits same in
      let found : whole_at table kind inside ≡ Some m = ap (λ (k : ℕ). whole_at table k inside) o.same_kind ∙ ap (whole_at table m.kind) o.same_inside ∙ whole_again table m s.fits.fields_fit (kinds.typed x) in
      none_some m (whole_at table kind inside) e found;
}

-- ---- exactly one thing is at the front

part_allowed : (limit : ℕ) (bytes : List ℕ) → IsPart limit bytes → IsAllowed limit bytes → size_of bytes ≤ length bytes → ⊥
part_allowed limit bytes p a le = elim p.part [ inl short ↦ omega (arith, short, a.there) | inr q ↦ omega (arith, q.1, le) ]

bad_allowed : (limit : ℕ) (bytes : List ℕ) → IsBadSize limit bytes → IsAllowed limit bytes → ⊥
bad_allowed limit bytes b a = elim b.wrong [ inl low ↦ omega (arith, low, a.least) | inr high ↦ omega (arith, high, a.most) ]

part_bad : (limit : ℕ) (bytes : List ℕ) → IsPart limit bytes → IsBadSize limit bytes → ⊥
part_bad limit bytes p b = elim p.part [ inl short ↦ omega (arith, short, b.there) | inr q ↦ bad_allowed limit bytes b q.0 ]

pub front_once : {A : Type 0} (view : A → Message) (table : ℕ → Option (List Shape)) (kinds : Kinds view table) (limit : ℕ) (bytes : List ℕ) (f g : Front A) → IsFront view limit bytes f → IsFront view limit bytes g → f ≡ g
front_once view table kinds limit bytes Part Part p q = refl
front_once view table kinds limit bytes Part BadSize p q = absurd (part_bad limit bytes p q)
front_once view table kinds limit bytes Part BadBody p q = absurd (part_allowed limit bytes p q.allowed q.whole)
front_once view table kinds limit bytes Part (Whole tag x used) p q = absurd (part_none limit bytes tag (view x) used p q)
front_once view table kinds limit bytes BadSize Part p q = absurd (part_bad limit bytes q p)
front_once view table kinds limit bytes BadSize BadSize p q = refl
front_once view table kinds limit bytes BadSize BadBody p q = absurd (bad_allowed limit bytes p q.allowed)
front_once view table kinds limit bytes BadSize (Whole tag x used) p q = absurd (bad_size_now limit bytes tag (view x) used p q)
front_once view table kinds limit bytes BadBody Part p q = absurd (part_allowed limit bytes q p.allowed p.whole)
front_once view table kinds limit bytes BadBody BadSize p q = absurd (bad_allowed limit bytes q p.allowed)
front_once view table kinds limit bytes BadBody BadBody p q = refl
front_once view table kinds limit bytes BadBody (Whole tag x used) p q = absurd (bad_body_now view limit bytes tag x used p q)
front_once view table kinds limit bytes (Whole tag x used) Part p q = absurd (part_none limit bytes tag (view x) used q p)
front_once view table kinds limit bytes (Whole tag x used) BadSize p q = absurd (bad_size_now limit bytes tag (view x) used q p)
front_once view table kinds limit bytes (Whole tag x used) BadBody p q = absurd (bad_body_now view limit bytes tag x used q p)
front_once view table kinds limit bytes (Whole tag x used) (Whole tag' x' used') p q =
    let s = stands_once view table kinds limit bytes tag tag' x x' used used' p q in
    cc (s.same_tag, s.same_message, s.same_used)
