-- What stands where in a leaf, and a walk along its records.
use Rattle.std.proofs.Common.{◌≡◌, ℕ, ◌+◌, ◌-◌, ◌%◌, ◌≤◌, ◌<◌, ◌^◌, true, false, List, [], ◌∷◌, ◌++◌, length, get_or, take, drop, refl, sym, ap, subst, ◌∙◌, append_assoc, arith}
use Rattle.std.specs.Int.{w16, from_be_bytes}
use Rattle.std.specs.List.{list_any, AllByRecursion}
use Rattle.std.proofs.lemmas.List.{append-nil, length-append, length-drop, take-append-drop, drop-drop, drop_at, take_at, get_or-drop, drop_more, take_more, take_all}
use Rattle.std.proofs.lemmas.Nat.{from_be_bytes-to_be_bytes_2}
use Rattle.fo_image.specs.declared.record.Record.{Record}
use Rattle.fo_image.specs.Field.{Two, Text, number_at, spelled, zeros}
use Rattle.fo_image.specs.Record.{record_len}
use Rattle.fo_image.proofs.RecordLemmas.{length-record}
use Rattle.fo_meta.specs.Leaf.{HasSpelling, record_bytes, records_bytes, SpellsLeaf, is_named, Placed}
use Rattle.fo_meta.proofs.Lists.{any-more, each-right, records_bytes-append, few, first_of}

-- ---- the record at a place

pub record RecordAt (leaf : List ℕ) (at : ℕ) (r : Record) : Type 0 where
  pub len : number_at Two at leaf ≡ record_len r
  pub name_len : get_or leaf (at + 30) 0 ≡ length r.name
  pub name : take (length r.name) (drop (at + 31) leaf) ≡ r.name
  pub within : at + record_len r ≤ length leaf

small : (n : ℕ) → n < 2 ^ 8 → n % 256 ≡ n
small n lt = omega arith

pub record_at_is : (leaf : List ℕ) (at : ℕ) (r : Record) (more : List ℕ) → HasSpelling r → drop at leaf ≡ record_bytes r ++ more → RecordAt leaf at r
unfolding number_at
record_at_is leaf at r more s here =
    let users = spelled (Text r.uid) ++ (spelled (Text r.gid) ++ (spelled (Text r.muid) ++ [])) in
    let name_len = s.fit.1.1.1.1.1.1.1.1.0 in
    let after : drop (at + 31) leaf ≡ r.name ++ (users ++ more) = sym (drop-drop 31 at leaf) ∙ ap (drop 31) here ∙ append_assoc r.name users more in
    record {
      len = ap (λ xs. from_be_bytes w16 (take 2 xs)) here ∙ from_be_bytes-to_be_bytes_2 (record_len r) s.fit.0;
      name_len = sym (get_or-drop at leaf 30 0) ∙ ap (λ xs. get_or xs 30 0) here ∙ small (length r.name) name_len;
      name = ap (take (length r.name)) after ∙ take_at r.name (users ++ more) (length r.name) refl;
      within = omega (arith, length-drop at leaf, ap length here, length-append (record_bytes r) more, length-record r);
    }

-- ---- the head

pub record HeadAt (leaf : List ℕ) (rs : List Record) : Type 0 where
  pub count : number_at Two 0 leaf ≡ length rs
  pub used : number_at Two 2 leaf ≡ length (records_bytes rs)
  pub body : drop 4 leaf ≡ records_bytes rs ++ zeros (8188 - length (records_bytes rs))

pub head_at : (leaf : List ℕ) (rs : List Record) → SpellsLeaf rs leaf → HeadAt leaf rs
unfolding number_at
head_at leaf rs s = subst (λ b. HeadAt b rs) (sym s.bytes_are) (record {
  count = from_be_bytes-to_be_bytes_2 (length rs) (omega (arith, few rs, s.room));
  used = from_be_bytes-to_be_bytes_2 (length (records_bytes rs)) (omega (arith, s.room));
  body = refl;
})

-- ---- a walk along the records

pub record Walks (leaf name : List ℕ) (rs : List Record) (i at : ℕ) : Type 0 where
  pub rest : drop at leaf ≡ records_bytes (drop i rs) ++ zeros (8188 - length (records_bytes rs))
  pub at_is : at ≡ 4 + length (records_bytes (take i rs))
  pub unnamed : list_any (is_named name) (take i rs) ≡ false

pub walk_none : (leaf name : List ℕ) (rs : List Record) → SpellsLeaf rs leaf → Walks leaf name rs 0 4
walk_none leaf name rs s = record { rest = (head_at leaf rs s).body; at_is = refl; unnamed = refl }

pub record Here (leaf : List ℕ) (rs : List Record) (i at : ℕ) : Type 0 where
  pub named : Record
  pub more : List ℕ
  pub spelled : HasSpelling named
  pub here : drop at leaf ≡ record_bytes named ++ more
  pub more_is : more ≡ records_bytes (drop (i + 1) rs) ++ zeros (8188 - length (records_bytes rs))
  pub split : rs ≡ take i rs ++ named ∷ drop (i + 1) rs
  pub next : take (i + 1) rs ≡ take i rs ++ named ∷ []

pub here_is : (leaf name : List ℕ) (rs : List Record) (i at : ℕ) → SpellsLeaf rs leaf → Walks leaf name rs i at → i < length rs → Here leaf rs i at
here_is leaf name rs i at s w lt =
    let d = first_of rs (omega arith) in
    let r = get_or rs i d in
    let tail = zeros (8188 - length (records_bytes rs)) in
    let e : drop i rs ≡ r ∷ drop (i + 1) rs = drop_more rs i d lt in
    let whole : rs ≡ take i rs ++ r ∷ drop (i + 1) rs = sym (take-append-drop i rs) ∙ ap (λ xs. take i rs ++ xs) e in
    let spelled : AllByRecursion HasSpelling (r ∷ drop (i + 1) rs) = each-right (take i rs) (r ∷ drop (i + 1) rs) (subst (AllByRecursion HasSpelling) whole s.each) in
    record {
      named = r;
      more = records_bytes (drop (i + 1) rs) ++ tail;
      spelled = spelled.0;
      here = w.rest ∙ ap (λ xs. records_bytes xs ++ tail) e ∙ append_assoc (record_bytes r) (records_bytes (drop (i + 1) rs)) tail;
      more_is = refl;
      split = whole;
      next = take_more rs i d lt;
    }

one_more : (rs : List Record) (r : Record) → length (records_bytes (rs ++ r ∷ [])) ≡ length (records_bytes rs) + record_len r
one_more rs r =
    ap length (records_bytes-append rs (r ∷ [])) ∙ length-append (records_bytes rs) (record_bytes r ++ [])
    ∙ ap (λ n. length (records_bytes rs) + n) (ap length (append-nil (record_bytes r)) ∙ length-record r)

pub walk_more : (leaf name : List ℕ) (rs : List Record) (i at end : ℕ) → SpellsLeaf rs leaf → Walks leaf name rs i at → (h : Here leaf rs i at) → end ≡ at + record_len h.named
    → is_named name h.named ≡ false → Walks leaf name rs (i + 1) end
walk_more leaf name rs i at end s w h end_is unnamed =
    let r = h.named in
    let front : length (records_bytes (take (i + 1) rs)) ≡ length (records_bytes (take i rs)) + record_len r = ap (λ xs. length (records_bytes xs)) h.next ∙ one_more (take i rs) r in
    record {
      rest = ap (λ n. drop n leaf) end_is ∙ sym (drop-drop (record_len r) at leaf) ∙ ap (drop (record_len r)) h.here ∙ drop_at (record_bytes r) h.more (record_len r) (length-record r) ∙ h.more_is;
      at_is = omega (arith, w.at_is);
      unnamed = ap (list_any (is_named name)) h.next ∙ any-more (is_named name) (take i rs) r w.unnamed unnamed;
    }

pub walk_found : (leaf name : List ℕ) (rs : List Record) (i at end : ℕ) → Walks leaf name rs i at → (h : Here leaf rs i at) → end ≡ at + record_len h.named → is_named name h.named ≡ true → Placed name rs (at, end)
walk_found leaf name rs i at end w h end_is is = record {
  before = take i rs;
  named = h.named;
  after = drop (i + 1) rs;
  split = h.split;
  unnamed = w.unnamed;
  is = is;
  start = w.at_is;
  end = end_is;
}

pub walk_all : (leaf name : List ℕ) (rs : List Record) (i at : ℕ) → Walks leaf name rs i at → length rs ≤ i → list_any (is_named name) rs ≡ false
walk_all leaf name rs i at w le = ap (list_any (is_named name)) (sym (take_all i rs le)) ∙ w.unnamed
