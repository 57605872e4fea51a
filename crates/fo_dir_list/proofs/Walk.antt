-- A walk along the records of a leaf.
use Rattle.std.proofs.Common.{◌≡◌, ℕ, ◌-◌, ◌≤◌, Bool, true, false, List, [], ◌∷◌, ◌++◌, length, take, drop, Option, Some, None, MatchOption, IfSome, refl, sym, ap, subst, ◌∙◌, arith}
use Rattle.std.specs.Str.{bytes_eq}
use Rattle.std.proofs.lemmas.List.{take_at}
use Rattle.fo_image.specs.declared.record.Record.{Record}
use Rattle.fo_image.specs.Field.{Spells}
use Rattle.fo_image.specs.Record.{RecordHolds, record_len, record_fields}
use Rattle.fo_image.proofs.RecordLemmas.{length-record, spells_itself}
use Rattle.fo_meta.specs.Leaf.{HasSpelling, record_bytes, SpellsLeaf, BeginsRecord, is_named}
use Rattle.fo_meta.proofs.Leaves.{Walks, Here, walk_none, record_at_is}
use Rattle.fo_world.specs.Tree.{comes_before}
use Rattle.fo_dir_list.specs.Next.{StandsAt, NextStands}
use Rattle.fo_dir_list.proofs.Least.{none_of_none, none_both, none_one, next_one, left_is, right_is, left_less, right_less}

not_empty : (xs : List ℕ) → 1 ≤ length xs → bytes_eq xs [] ≡ false
not_empty [] h = absurd (omega (arith, h))
not_empty (x ∷ xs) h = refl

-- no record has the empty name
pub unnamed : (r : Record) → HasSpelling r → is_named [] r ≡ false
unnamed r s = not_empty r.name s.holds.name_is.some

pub begins : {leaf : List ℕ} {rs : List Record} {i at : ℕ} → Here leaf rs i at → BeginsRecord leaf at
begins h = record { named = h.named; more = h.more; spelled = h.spelled; here = h.here }

-- a place that stands begins a record
pub stands_begin : (leaf after : List ℕ) (front : List Record) (best : Option (ℕ × ℕ)) → NextStands leaf after front best → IfSome best (λ place. BeginsRecord leaf place.0)
stands_begin leaf after front None h = tt
stands_begin leaf after front (Some place) h = record { named = h.0; more = h.1.more; spelled = h.1.spelled; here = h.1.here }

-- and ends within the leaf
pub stands_within : (leaf after : List ℕ) (front : List Record) (best : Option (ℕ × ℕ)) → NextStands leaf after front best → IfSome best (λ place. (place.0 ≤ place.1) × (place.1 ≤ length leaf))
stands_within leaf after front None h = tt
stands_within leaf after front (Some place) h = let at = record_at_is leaf place.0 h.0 h.1.more h.1.spelled h.1.here in (omega (arith, h.1.end), omega (arith, h.1.end, at.within))

-- what is read there
pub reads_there : (leaf : List ℕ) (from end : ℕ) (r : Record) → StandsAt leaf (from, end) r → Spells (record_len r) record_fields RecordHolds r (take (end - from) (drop from leaf))
reads_there leaf from end r s =
    let len : length (record_bytes r) ≡ end - from = length-record r ∙ omega (arith, s.end) in
    let is : take (end - from) (drop from leaf) ≡ record_bytes r = ap (take (end - from)) s.here ∙ take_at (record_bytes r) s.more (end - from) len in
    subst (λ b. Spells (record_len r) record_fields RecordHolds r b) (sym is) (spells_itself (record_len r) record_fields RecordHolds r s.spelled.holds s.spelled.fit (length-record r))

pub begin : (leaf after : List ℕ) (rs : List Record) → SpellsLeaf rs leaf → Walks leaf [] rs 0 4 × NextStands leaf after (take 0 rs) None
begin leaf after rs s = (walk_none leaf [] rs s, none_of_none after)

-- a record whose name is not after this one changes nothing
pub kept_over : (leaf after : List ℕ) (front : List Record) (r : Record) (best : Option (ℕ × ℕ)) → comes_before after r.name ≡ false → NextStands leaf after front best → NextStands leaf after (front ++ r ∷ []) best
kept_over leaf after front r None later h = none_both h (none_one r later)
kept_over leaf after front r (Some place) later h = (h.0, h.1, left_is h.2 (none_one r later))

-- whether the name comes before that of the record at a place
abbrev pub IsNearer : (leaf name : List ℕ) (nearer : Bool) → Option (ℕ × ℕ) → Type 0
IsNearer leaf name nearer best = MatchOption best (nearer ≡ true) (λ place. (x : Record) → StandsAt leaf place x → nearer ≡ comes_before name x.name)

-- nor does one that comes not before the best
pub kept_best : (leaf after : List ℕ) (front : List Record) (r : Record) (best : Option (ℕ × ℕ)) (nearer : Bool) → comes_before after r.name ≡ true → nearer ≡ false → IsNearer leaf r.name nearer best → NextStands leaf after front best → NextStands leaf after (front ++ r ∷ []) best
kept_best leaf after front r None nearer later not_less is h = let both : true ≡ false = sym is ∙ not_less in absurd (cc)
kept_best leaf after front r (Some place) nearer later not_less is h = (h.0, h.1, left_less h.2 (next_one r later) (sym (is h.0 h.1) ∙ not_less))

-- one that does is the best
pub best_here : (leaf after : List ℕ) (front : List Record) (r : Record) (best : Option (ℕ × ℕ)) (nearer : Bool) (at end : ℕ) → comes_before after r.name ≡ true → nearer ≡ true → IsNearer leaf r.name nearer best → NextStands leaf after front best → StandsAt leaf (at, end) r → NextStands leaf after (front ++ r ∷ []) (Some (at, end))
best_here leaf after front r None nearer at end later less is h stands = (r, stands, right_is h (next_one r later))
best_here leaf after front r (Some place) nearer at end later less is h stands = (r, stands, right_less h.2 (next_one r later) (sym (is h.0 h.1) ∙ less))
