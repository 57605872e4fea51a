-- What is read is spelled so, and what is spelled so is read: for fields, lists of fields and stat records.
use Rattle.std.proofs.Common.{◌≡◌, ℕ, zero, suc, ◌+◌, ◌^◌, ◌<◌, ◌≤◌, Bool, true, false, cond, ltb, eqb, List, [], ◌∷◌, ◌++◌, length, Some, None, refl, sym, ap, subst, ◌∙◌, append_assoc, arith}
use Rattle.std.specs.declared.option.Option.{Option}
use Rattle.std.specs.List.{flat_map, AllByRecursion}
use Rattle.std.specs.Prelude.{map}
use Rattle.std.proofs.lemmas.Bool.{ltb-false, le-ltb}
use Rattle.std.proofs.lemmas.List.{append-nil}
use Rattle.std.proofs.lemmas.List.Concat.{flat_map-cons}
use Rattle.nine_fields.specs.declared.qid.Qid.{Qid}
use Rattle.nine_fields.specs.Field.{Size, Two, limit, number, block, qid_bytes, Plain, Number, Text, Id, plain_bytes, TextFits, QidFits, PlainFits, PlainShape, Numeric, Textual, Unique, plain_shape, stat_shapes, stat_bytes, StatFits, IsStat, Field, Lone, Texts, Ids, Block, Stat, Brief, spelled, FieldFits, Shape, Single, TextList, QidList, Counted, Record, Short, shape}
use Rattle.nine_fields.specs.Reading.{◌>>=◌, number_at, block_at, text_at, qid_at, plain_at, plains_at, all_of, stat_at, names_at, texts_at, ids_at, qids_at, record_at, brief_at, field_at, fields_at}
use Rattle.nine_fields.proofs.Bytes.{IsBytes, bind_some, guard_some, some_is, whole_is, Takes, Takes-then, number_takes, number_again, block_takes, block_again, text_takes, text_again, qid_takes, qid_again}

-- ---- plain fields

plain_takes : (s : PlainShape) (bytes : List ℕ) (x : Plain × List ℕ) → IsBytes bytes → plain_at s bytes ≡ Some x → Takes bytes (plain_bytes x.0) x.1 × PlainFits x.0 × (plain_shape x.0 ≡ s)
unfolding plain_at
plain_takes (Numeric size) bytes x fits e =
    let b = bind_some (number_at size bytes) (λ n. Some (Number size n.0, n.1)) x e in
    let t = number_takes size bytes b.0 fits b.1 in
    subst (λ (y : Plain × List ℕ). Takes bytes (plain_bytes y.0) y.1 × PlainFits y.0 × (plain_shape y.0 ≡ Numeric size)) (some_is (Number size b.0.0, b.0.1) x b.2) (t.0, t.1, refl)
plain_takes Textual bytes x fits e =
    let b = bind_some (text_at bytes) (λ t. Some (Text t.0, t.1)) x e in
    let t = text_takes bytes b.0 fits b.1 in
    subst (λ (y : Plain × List ℕ). Takes bytes (plain_bytes y.0) y.1 × PlainFits y.0 × (plain_shape y.0 ≡ Textual)) (some_is (Text b.0.0, b.0.1) x b.2) (t.0, t.1, refl)
plain_takes Unique bytes x fits e =
    let b = bind_some (qid_at bytes) (λ q. Some (Id q.0, q.1)) x e in
    let t = qid_takes bytes b.0 fits b.1 in
    subst (λ (y : Plain × List ℕ). Takes bytes (plain_bytes y.0) y.1 × PlainFits y.0 × (plain_shape y.0 ≡ Unique)) (some_is (Id b.0.0, b.0.1) x b.2) (t.0, t.1, refl)

plain_again : (p : Plain) (rest : List ℕ) → PlainFits p → plain_at (plain_shape p) (plain_bytes p ++ rest) ≡ Some (p, rest)
unfolding plain_at
plain_again (Number size n) rest fits = rw (number_again size n rest fits) refl
plain_again (Text bytes) rest fits = rw (text_again bytes rest fits) refl
plain_again (Id q) rest fits = rw (qid_again q rest fits) refl

pub plains_take : (ss : List PlainShape) (bytes : List ℕ) (x : List Plain × List ℕ) → IsBytes bytes → plains_at ss bytes ≡ Some x → Takes bytes (flat_map plain_bytes x.0) x.1 × AllByRecursion PlainFits x.0 × (map plain_shape x.0 ≡ ss)
unfolding plains_at
plains_take [] bytes x fits e =
    subst (λ (y : List Plain × List ℕ). Takes bytes (flat_map plain_bytes y.0) y.1 × AllByRecursion PlainFits y.0 × (map plain_shape y.0 ≡ [])) (some_is ([], bytes) x e) (record { parts = refl; rest_fits = fits }, tt, refl)
plains_take (s ∷ ss) bytes x fits e =
    let a = bind_some (plain_at s bytes) (λ first. plains_at ss first.1 >>= λ others. Some (first.0 ∷ others.0, others.1)) x e in
    let b = bind_some (plains_at ss a.0.1) (λ others. Some (a.0.0 ∷ others.0, others.1)) x a.2 in
    let first = plain_takes s bytes a.0 fits a.1 in
    let second = plains_take ss a.0.1 b.0 first.0.rest_fits b.1 in
    let both = Takes-then bytes (plain_bytes a.0.0) a.0.1 (flat_map plain_bytes b.0.0) b.0.1 first.0 second.0 in
    let made : List Plain × List ℕ = (a.0.0 ∷ b.0.0, b.0.1) in
    subst (λ (y : List Plain × List ℕ). Takes bytes (flat_map plain_bytes y.0) y.1 × AllByRecursion PlainFits y.0 × (map plain_shape y.0 ≡ s ∷ ss)) (some_is made x b.2) (rw flat_map-cons both, (first.1, second.1), cc (first.2, second.2))

pub plains_again : (ps : List Plain) (rest : List ℕ) → AllByRecursion PlainFits ps → plains_at (map plain_shape ps) (flat_map plain_bytes ps ++ rest) ≡ Some (ps, rest)
unfolding plains_at
plains_again [] rest fits = refl
plains_again (p ∷ ps) rest fits =
    let regrouped : flat_map plain_bytes (p ∷ ps) ++ rest ≡ plain_bytes p ++ (flat_map plain_bytes ps ++ rest) = ap (λ (x : List ℕ). x ++ rest) (flat_map-cons plain_bytes p ps) ∙ append_assoc (plain_bytes p) (flat_map plain_bytes ps) rest in
    ap (plains_at (map plain_shape (p ∷ ps))) regrouped ∙ rw (plain_again p (flat_map plain_bytes ps ++ rest) fits.0, plains_again ps rest fits.1) refl

-- ---- stat records

-- what is read as a stat record is one, with these fields
pub stat_takes : (bytes : List ℕ) (fields : List Plain) → IsBytes bytes → stat_at bytes ≡ Some fields → StatFits fields × (bytes ≡ stat_bytes fields)
unfolding stat_at
stat_takes bytes fields fits e =
    let a = bind_some (block_at Two bytes) (λ held. all_of held >>= λ inside. plains_at stat_shapes inside >>= λ read. all_of read) fields e in
    let b = bind_some (all_of a.0) (λ inside. plains_at stat_shapes inside >>= λ read. all_of read) fields a.2 in
    let c = bind_some (plains_at stat_shapes b.0) (λ read. all_of read) fields b.2 in
    let outer = whole_is a.0 b.0 b.1 in
    let inner = whole_is c.0 fields c.2 in
    let t = block_takes Two bytes a.0 fits a.1 in
    let u = plains_take stat_shapes b.0 c.0 (subst IsBytes outer.1 t.1) c.1 in
    let whole : b.0 ≡ flat_map plain_bytes fields = u.0.parts ∙ ap (λ (r : List ℕ). flat_map plain_bytes c.0.0 ++ r) inner.0 ∙ append-nil (flat_map plain_bytes c.0.0) ∙ ap (flat_map plain_bytes) inner.1 in
    let held : a.0.0 ≡ flat_map plain_bytes fields = outer.1 ∙ whole in (
      record { shaped = ap (map plain_shape) (sym inner.1) ∙ u.2; fields_fit = subst (AllByRecursion PlainFits) inner.1 u.1; size_fits = subst (λ (x : List ℕ). length x < 2 ^ 16) held t.2 },
      t.0.parts ∙ ap (λ (r : List ℕ). block Two a.0.0 ++ r) outer.0 ∙ append-nil (block Two a.0.0) ∙ ap (block Two) held,
    )

-- a stat record is read as its fields
pub stat_again : (fields : List Plain) → StatFits fields → stat_at (stat_bytes fields) ≡ Some fields
unfolding stat_at
stat_again fields fits =
    let inside = flat_map plain_bytes fields in
    let one : block_at Two (stat_bytes fields) ≡ Some (inside, []) = ap (block_at Two) (sym (append-nil (stat_bytes fields))) ∙ block_again Two inside [] fits.size_fits in
    let two : plains_at stat_shapes inside ≡ Some (fields, []) = rw (← fits.shaped) (ap (plains_at (map plain_shape fields)) (sym (append-nil inside)) ∙ plains_again fields [] fits.fields_fit) in
    rw (one, two) refl

pub IsStat-read : (bytes : List ℕ) (fields : List Plain) → IsBytes bytes → stat_at bytes ≡ Some fields → IsStat bytes
IsStat-read bytes fields fits e = let t = stat_takes bytes fields fits e in record { fields = fields; fits = t.0; spelled = t.1 }

pub IsStat-again : (bytes : List ℕ) (is : IsStat bytes) → stat_at bytes ≡ Some is.fields
IsStat-again bytes is = ap stat_at is.spelled ∙ stat_again is.fields is.fits

-- ---- texts and qids behind their count

names_take : (n : ℕ) (bytes : List ℕ) (x : List (List ℕ) × List ℕ) → IsBytes bytes → names_at n bytes ≡ Some x → Takes bytes (flat_map (block Two) x.0) x.1 × (length x.0 ≡ n) × AllByRecursion TextFits x.0
unfolding names_at
names_take zero bytes x fits e = subst (λ (y : List (List ℕ) × List ℕ). Takes bytes (flat_map (block Two) y.0) y.1 × (length y.0 ≡ 0) × AllByRecursion TextFits y.0) (some_is ([], bytes) x e) (record { parts = refl; rest_fits = fits }, refl, tt)
names_take (suc n) bytes x fits e =
    let a = bind_some (text_at bytes) (λ first. names_at n first.1 >>= λ others. Some (first.0 ∷ others.0, others.1)) x e in
    let b = bind_some (names_at n a.0.1) (λ others. Some (a.0.0 ∷ others.0, others.1)) x a.2 in
    let first = text_takes bytes a.0 fits a.1 in
    let second = names_take n a.0.1 b.0 first.0.rest_fits b.1 in
    let both = Takes-then bytes (block Two a.0.0) a.0.1 (flat_map (block Two) b.0.0) b.0.1 first.0 second.0 in
    let made : List (List ℕ) × List ℕ = (a.0.0 ∷ b.0.0, b.0.1) in
    subst (λ (y : List (List ℕ) × List ℕ). Takes bytes (flat_map (block Two) y.0) y.1 × (length y.0 ≡ suc n) × AllByRecursion TextFits y.0) (some_is made x b.2) (rw flat_map-cons both, ap suc second.1, (first.1, second.2))

names_again : (ts : List (List ℕ)) (rest : List ℕ) → AllByRecursion TextFits ts → names_at (length ts) (flat_map (block Two) ts ++ rest) ≡ Some (ts, rest)
unfolding names_at
names_again [] rest fits = refl
names_again (t ∷ ts) rest fits =
    let regrouped : flat_map (block Two) (t ∷ ts) ++ rest ≡ block Two t ++ (flat_map (block Two) ts ++ rest) = ap (λ (x : List ℕ). x ++ rest) (flat_map-cons (block Two) t ts) ∙ append_assoc (block Two t) (flat_map (block Two) ts) rest in
    ap (names_at (suc (length ts))) regrouped ∙ rw (text_again t (flat_map (block Two) ts ++ rest) fits.0, names_again ts rest fits.1) refl

texts_take : (bytes : List ℕ) (x : List (List ℕ) × List ℕ) → IsBytes bytes → texts_at bytes ≡ Some x → Takes bytes (spelled (Texts x.0)) x.1 × FieldFits (Texts x.0)
unfolding texts_at
texts_take bytes x fits e =
    let a = bind_some (number_at Two bytes) (λ n. names_at n.0 n.1) x e in
    let first = number_takes Two bytes a.0 fits a.1 in
    let second = names_take a.0.0 a.0.1 x first.0.rest_fits a.2 in
    let both = Takes-then bytes (number Two a.0.0) a.0.1 (flat_map (block Two) x.0) x.1 first.0 second.0 in
    (rw second.1 both, (omega (arith, first.1, second.1), second.2))

texts_again : (ts : List (List ℕ)) (rest : List ℕ) → FieldFits (Texts ts) → texts_at (spelled (Texts ts) ++ rest) ≡ Some (ts, rest)
unfolding texts_at
texts_again ts rest fits =
    ap texts_at (append_assoc (number Two (length ts)) (flat_map (block Two) ts) rest) ∙ rw (number_again Two (length ts) (flat_map (block Two) ts ++ rest) fits.0) (names_again ts rest fits.1)

ids_take : (n : ℕ) (bytes : List ℕ) (x : List Qid × List ℕ) → IsBytes bytes → ids_at n bytes ≡ Some x → Takes bytes (flat_map qid_bytes x.0) x.1 × (length x.0 ≡ n) × AllByRecursion QidFits x.0
unfolding ids_at
ids_take zero bytes x fits e = subst (λ (y : List Qid × List ℕ). Takes bytes (flat_map qid_bytes y.0) y.1 × (length y.0 ≡ 0) × AllByRecursion QidFits y.0) (some_is ([], bytes) x e) (record { parts = refl; rest_fits = fits }, refl, tt)
ids_take (suc n) bytes x fits e =
    let a = bind_some (qid_at bytes) (λ first. ids_at n first.1 >>= λ others. Some (first.0 ∷ others.0, others.1)) x e in
    let b = bind_some (ids_at n a.0.1) (λ others. Some (a.0.0 ∷ others.0, others.1)) x a.2 in
    let first = qid_takes bytes a.0 fits a.1 in
    let second = ids_take n a.0.1 b.0 first.0.rest_fits b.1 in
    let both = Takes-then bytes (qid_bytes a.0.0) a.0.1 (flat_map qid_bytes b.0.0) b.0.1 first.0 second.0 in
    let made : List Qid × List ℕ = (a.0.0 ∷ b.0.0, b.0.1) in
    subst (λ (y : List Qid × List ℕ). Takes bytes (flat_map qid_bytes y.0) y.1 × (length y.0 ≡ suc n) × AllByRecursion QidFits y.0) (some_is made x b.2) (rw flat_map-cons both, ap suc second.1, (first.1, second.2))

ids_again : (qs : List Qid) (rest : List ℕ) → AllByRecursion QidFits qs → ids_at (length qs) (flat_map qid_bytes qs ++ rest) ≡ Some (qs, rest)
unfolding ids_at
ids_again [] rest fits = refl
ids_again (q ∷ qs) rest fits =
    let regrouped : flat_map qid_bytes (q ∷ qs) ++ rest ≡ qid_bytes q ++ (flat_map qid_bytes qs ++ rest) = ap (λ (x : List ℕ). x ++ rest) (flat_map-cons qid_bytes q qs) ∙ append_assoc (qid_bytes q) (flat_map qid_bytes qs) rest in
    ap (ids_at (suc (length qs))) regrouped ∙ rw (qid_again q (flat_map qid_bytes qs ++ rest) fits.0, ids_again qs rest fits.1) refl

qids_take : (bytes : List ℕ) (x : List Qid × List ℕ) → IsBytes bytes → qids_at bytes ≡ Some x → Takes bytes (spelled (Ids x.0)) x.1 × FieldFits (Ids x.0)
unfolding qids_at
qids_take bytes x fits e =
    let a = bind_some (number_at Two bytes) (λ n. ids_at n.0 n.1) x e in
    let first = number_takes Two bytes a.0 fits a.1 in
    let second = ids_take a.0.0 a.0.1 x first.0.rest_fits a.2 in
    let both = Takes-then bytes (number Two a.0.0) a.0.1 (flat_map qid_bytes x.0) x.1 first.0 second.0 in
    (rw second.1 both, (omega (arith, first.1, second.1), second.2))

qids_again : (qs : List Qid) (rest : List ℕ) → FieldFits (Ids qs) → qids_at (spelled (Ids qs) ++ rest) ≡ Some (qs, rest)
unfolding qids_at
qids_again qs rest fits =
    ap qids_at (append_assoc (number Two (length qs)) (flat_map qid_bytes qs) rest) ∙ rw (number_again Two (length qs) (flat_map qid_bytes qs ++ rest) fits.0) (ids_again qs rest fits.1)

-- ---- fields

record_takes : (bytes : List ℕ) (x : List ℕ × List ℕ) → IsBytes bytes → record_at bytes ≡ Some x → Takes bytes (block Two x.0) x.1 × FieldFits (Stat x.0)
unfolding record_at
record_takes bytes x fits e =
    let a = bind_some (block_at Two bytes) (λ b. stat_at b.0 >>= λ fields. Some b) x e in
    let b = bind_some (stat_at a.0.0) (λ fields. Some a.0) x a.2 in
    let t = block_takes Two bytes a.0 fits a.1 in
    subst (λ (y : List ℕ × List ℕ). Takes bytes (block Two y.0) y.1 × FieldFits (Stat y.0)) (some_is a.0 x b.2) (t.0, (t.2, IsStat-read a.0.0 b.0 t.1 b.1))

record_again : (held rest : List ℕ) → FieldFits (Stat held) → record_at (block Two held ++ rest) ≡ Some (held, rest)
unfolding record_at
record_again held rest fits = rw (block_again Two held rest fits.0, IsStat-again held fits.1) refl

brief_takes : (bytes : List ℕ) (x : List ℕ × List ℕ) → IsBytes bytes → brief_at bytes ≡ Some x → Takes bytes (block Two x.0) x.1 × FieldFits (Brief x.0)
unfolding brief_at
brief_takes bytes x fits e =
    let a = bind_some (text_at bytes) (λ t. cond (ltb 128 (length t.0)) None (Some t)) x e in
    let g = guard_some (ltb 128 (length a.0.0)) a.0 x a.2 in
    let t = text_takes bytes a.0 fits a.1 in
    subst (λ (y : List ℕ × List ℕ). Takes bytes (block Two y.0) y.1 × FieldFits (Brief y.0)) g.1 (t.0, (ltb-false _ _ g.0, t.1.1))

brief_again : (text rest : List ℕ) → FieldFits (Brief text) → brief_at (block Two text ++ rest) ≡ Some (text, rest)
unfolding brief_at
brief_again text rest fits =
    let short : ltb 128 (length text) ≡ false = le-ltb _ _ fits.0 in
    rw (text_again text rest (omega (arith, fits.0), fits.1), short) refl

-- what a field that was read says of the bytes
pub record FieldTaken (s : Shape) (bytes : List ℕ) (f : Field) (rest : List ℕ) : Type 0 where
  pub taken : Takes bytes (spelled f) rest
  pub fits : FieldFits f
  pub shaped : shape f ≡ s

taken_at : {A : Type 0} (s : Shape) (bytes : List ℕ) (read : Option (A × List ℕ)) (make : A → Field) (x : Field × List ℕ) → (read >>= λ a. Some (make a.0, a.1)) ≡ Some x
    → ((a : A × List ℕ) → read ≡ Some a → Takes bytes (spelled (make a.0)) a.1 × FieldFits (make a.0) × (shape (make a.0) ≡ s)) → FieldTaken s bytes x.0 x.1
taken_at s bytes read make x e h =
    let b = bind_some read (λ a. Some (make a.0, a.1)) x e in
    let t = h b.0 b.1 in
    subst (λ (y : Field × List ℕ). FieldTaken s bytes y.0 y.1) (some_is (make b.0.0, b.0.1) x b.2) (record { taken = t.0; fits = t.1; shaped = t.2 })

pub field_takes : (s : Shape) (bytes : List ℕ) (x : Field × List ℕ) → IsBytes bytes → field_at s bytes ≡ Some x → FieldTaken s bytes x.0 x.1
unfolding field_at
field_takes (Single s) bytes x fits e = taken_at (Single s) bytes (plain_at s bytes) Lone x e (λ a h. let t = plain_takes s bytes a fits h in (t.0, t.1, ap Single t.2))
field_takes TextList bytes x fits e = taken_at TextList bytes (texts_at bytes) Texts x e (λ a h. let t = texts_take bytes a fits h in (t.0, t.1, refl))
field_takes QidList bytes x fits e = taken_at QidList bytes (qids_at bytes) Ids x e (λ a h. let t = qids_take bytes a fits h in (t.0, t.1, refl))
field_takes (Counted size) bytes x fits e = taken_at (Counted size) bytes (block_at size bytes) (Block size) x e (λ a h. let t = block_takes size bytes a fits h in (t.0, t.2, refl))
field_takes Record bytes x fits e = taken_at Record bytes (record_at bytes) Stat x e (λ a h. let t = record_takes bytes a fits h in (t.0, t.1, refl))
field_takes Short bytes x fits e = taken_at Short bytes (brief_at bytes) Brief x e (λ a h. let t = brief_takes bytes a fits h in (t.0, t.1, refl))

pub field_again : (f : Field) (rest : List ℕ) → FieldFits f → field_at (shape f) (spelled f ++ rest) ≡ Some (f, rest)
unfolding field_at
field_again (Lone p) rest fits = rw (plain_again p rest fits) refl
field_again (Texts texts) rest fits = rw (texts_again texts rest fits) refl
field_again (Ids qids) rest fits = rw (qids_again qids rest fits) refl
field_again (Block size bytes) rest fits = rw (block_again size bytes rest fits) refl
field_again (Stat bytes) rest fits = rw (record_again bytes rest fits) refl
field_again (Brief bytes) rest fits = rw (brief_again bytes rest fits) refl

-- what fields that were read say of the bytes
pub record FieldsTaken (ss : List Shape) (bytes : List ℕ) (fs : List Field) (rest : List ℕ) : Type 0 where
  pub taken : Takes bytes (flat_map spelled fs) rest
  pub fits : AllByRecursion FieldFits fs
  pub shaped : map shape fs ≡ ss

pub fields_take : (ss : List Shape) (bytes : List ℕ) (x : List Field × List ℕ) → IsBytes bytes → fields_at ss bytes ≡ Some x → FieldsTaken ss bytes x.0 x.1
unfolding fields_at
fields_take [] bytes x fits e =
    subst (λ (y : List Field × List ℕ). FieldsTaken [] bytes y.0 y.1) (some_is ([], bytes) x e) (record { taken = record { parts = refl; rest_fits = fits }; fits = tt; shaped = refl })
fields_take (s ∷ ss) bytes x fits e =
    let a = bind_some (field_at s bytes) (λ first. fields_at ss first.1 >>= λ others. Some (first.0 ∷ others.0, others.1)) x e in
    let b = bind_some (fields_at ss a.0.1) (λ others. Some (a.0.0 ∷ others.0, others.1)) x a.2 in
    let first = field_takes s bytes a.0 fits a.1 in
    let second = fields_take ss a.0.1 b.0 first.taken.rest_fits b.1 in
    let both = Takes-then bytes (spelled a.0.0) a.0.1 (flat_map spelled b.0.0) b.0.1 first.taken second.taken in
    let made : List Field × List ℕ = (a.0.0 ∷ b.0.0, b.0.1) in
    subst (λ (y : List Field × List ℕ). FieldsTaken (s ∷ ss) bytes y.0 y.1) (some_is made x b.2) (record { taken = rw flat_map-cons both; fits = (first.fits, second.fits); shaped = cc (first.shaped, second.shaped) })

pub fields_again : (fs : List Field) (rest : List ℕ) → AllByRecursion FieldFits fs → fields_at (map shape fs) (flat_map spelled fs ++ rest) ≡ Some (fs, rest)
unfolding fields_at
fields_again [] rest fits = refl
fields_again (f ∷ fs) rest fits =
    let regrouped : flat_map spelled (f ∷ fs) ++ rest ≡ spelled f ++ (flat_map spelled fs ++ rest) = ap (λ (x : List ℕ). x ++ rest) (flat_map-cons spelled f fs) ∙ append_assoc (spelled f) (flat_map spelled fs) rest in
    ap (fields_at (map shape (f ∷ fs))) regrouped ∙ rw (field_again f (flat_map spelled fs ++ rest) fits.0, fields_again fs rest fits.1) refl

-- fields of the same shapes that are spelled alike, whatever follows, are the same fields: no spelling begins another
pub fields_same : (fs gs : List Field) (a b : List ℕ) → AllByRecursion FieldFits fs → AllByRecursion FieldFits gs → map shape fs ≡ map shape gs → flat_map spelled fs ++ a ≡ flat_map spelled gs ++ b → (fs ≡ gs) × (a ≡ b)
fields_same fs gs a b f g shapes e =
    let one : fields_at (map shape gs) (flat_map spelled gs ++ b) ≡ Some (fs, a) = rw (← shapes, ← e) (fields_again fs a f) in
    let same : (fs, a) ≡ (gs, b) = some_is (fs, a) (gs, b) (sym one ∙ fields_again gs b g) in
    (ap (λ (p : List Field × List ℕ). p.0) same, ap (λ (p : List Field × List ℕ). p.1) same)
