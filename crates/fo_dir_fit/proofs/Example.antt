-- Of the two images of fo_dir_names the pairs of records stand; and the later one, with a record in each of two leaves, keeps what the laws ask.
use Rattle.std.proofs.Common.{◌≡◌, ◌⊎◌, inl, inr, ⊎_elim, ℕ, Bool, true, false, cond, nat_eq, List, [], ◌∷◌, length, refl, sym, ◌∙◌, ap, subst, arith}
use Rattle.std.proofs.lemmas.Bool.{cases_eq}
use Rattle.std.specs.List.{Contains}
use Rattle.fo_image.specs.declared.record.Record.{Record}
use Rattle.fo_crash.specs.Images.{Image, Arena}
use Rattle.fo_crash.specs.Spots.{Spot}
use Rattle.fo_crash.proofs.Equal.{lists}
use Rattle.fo_good.specs.Reading.{leaf_records}
use Rattle.fo_good.specs.Trees.{Lists}
use Rattle.fo_good.proofs.Leaf.{leaf_is_read}
use Rattle.fo_dir_pairs.specs.Pairs.{HasPairAt, ShowsRecord, PairsStandIn}
use Rattle.fo_dir_images.proofs.Trailing.{spot}
use Rattle.fo_dir_names.specs.Example.{first, second, leaf_of, two_leaves, both, later, leaf_spot, records_of}
use Rattle.fo_dir_names.proofs.Beside.{later_sound, first_listed, second_listed}
use Rattle.fo_dir_names.proofs.Example.{first_leaf, second_leaf, only, one_listed, both_stand_once, first_shown, second_shown}
use Rattle.fo_dir_fit.specs.Rules.{IsSoundApart, HasLengths}

-- ---- which records are shown

none_leaf : leaf_records (leaf_of []) ≡ []
unfolding leaf_of
none_leaf = leaf_is_read [] (leaf_of []) (record { each = tt; room = omega arith; bytes_are = refl })

none_in : (r : Record) (rs : List Record) → rs ≡ [] → Contains rs r → ⊥
none_in r rs e among = let long = ap length e in omega (arith, among.1, long)

in_first : (r : Record) → Contains (leaf_records (leaf_of [])) r → (r ≡ first) ⊎ (r ≡ second)
in_first r among = absurd (none_in r (leaf_records (leaf_of [])) none_leaf among)

in_second : (r : Record) → Contains (leaf_records (leaf_of (second ∷ []))) r → (r ≡ first) ⊎ (r ≡ second)
in_second r among = inr (one_listed second r (leaf_of (second ∷ [])) second_leaf among)

in_block : (v w : Bool) (rs : List Record) (r : Record) → (Contains (leaf_records (leaf_of rs)) r → (r ≡ first) ⊎ (r ≡ second))
    → Contains (leaf_records (cond v (leaf_of (first ∷ [])) (cond w (leaf_of rs) (leaf_of [])))) r → (r ≡ first) ⊎ (r ≡ second)
in_block true w rs r other among = inl (one_listed first r (leaf_of (first ∷ [])) first_leaf among)
in_block false true rs r other among = other among
in_block false false rs r other among = in_first r among

in_image : (image : Image) (b : ℕ) (r : Record) → both image → Contains (leaf_records ((image b).bytes)) r → (r ≡ first) ⊎ (r ≡ second)
in_image image b r is among = ⊎_elim
    (λ e. in_block (nat_eq b 4) (nat_eq b 6) [] r (in_first r) (subst (λ (x : Image). Contains (leaf_records ((x b).bytes)) r) e among))
    (λ e. in_block (nat_eq b 4) (nat_eq b 6) (second ∷ []) r (in_second r) (subst (λ (x : Image). Contains (leaf_records ((x b).bytes)) r) e among))
    is

-- ---- where they are shown

never_not : (m n : ℕ) → ((m ≡ n → ⊥) → ⊥) → m ≡ n
never_not m n f = ⊎_elim (λ e. e) (λ ne. absurd (f ne)) (cases_eq m n)

one_spot : (p q : Spot) → p.place.kind ≡ q.place.kind → ((p ≡ q → ⊥) → ⊥) → p ≡ q
one_spot p q kind f =
    let tag : p.place.tag ≡ q.place.tag = never_not p.place.tag q.place.tag (λ ne. f (λ e. ne (ap (λ (x : Spot). x.place.tag) e))) in
    let index : p.place.index ≡ q.place.index = never_not p.place.index q.place.index (λ ne. f (λ e. ne (ap (λ (x : Spot). x.place.index) e))) in
    let rank : p.place.rank ≡ q.place.rank = never_not p.place.rank q.place.rank (λ ne. f (λ e. ne (ap (λ (x : Spot). x.place.rank) e))) in
    let trail : p.trail ≡ q.trail = ⊎_elim (λ e. e) (λ ne. absurd (f (λ e. ne (ap (λ (x : Spot). x.trail) e)))) (lists p.trail q.trail) in
    ap (λ x. spot x p.place.tag p.place.index p.place.rank p.trail) kind
    ∙ ap (λ x. spot q.place.kind x p.place.index p.place.rank p.trail) tag
    ∙ ap (λ x. spot q.place.kind q.place.tag x p.place.rank p.trail) index
    ∙ ap (λ x. spot q.place.kind q.place.tag q.place.index x p.trail) rank
    ∙ ap (λ x. spot q.place.kind q.place.tag q.place.index q.place.rank x) trail

-- a record at its leaf
abbrev IsKnown : Spot → Record → Type 0
IsKnown p r = ((p ≡ leaf_spot 0) × (r ≡ first)) ⊎ ((p ≡ leaf_spot 1) × (r ≡ second))

known : (image : Image) (p : Spot) (r : Record) → both image → ShowsRecord image p r → IsKnown p r
known image p r is shows = ⊎_elim
    (λ e. inl (
      one_spot p (leaf_spot 0) shows.of.0 (λ ne. both_stand_once.between p (leaf_spot 0) ((image shows.block).bytes) (leaf_of (first ∷ [])) r first shows.of (refl, refl) ne
          (record { image = image; is = is; block = shows.block; found = shows.found; same = refl }) first_shown shows.listed (subst (λ xs. Contains xs first) (sym first_leaf) (only first)) (inl (ap (λ (x : Record). x.number) e))),
      e,
    ))
    (λ e. inr (
      one_spot p (leaf_spot 1) shows.of.0 (λ ne. both_stand_once.between p (leaf_spot 1) ((image shows.block).bytes) (leaf_of (second ∷ [])) r second shows.of (refl, refl) ne
          (record { image = image; is = is; block = shows.block; found = shows.found; same = refl }) second_shown shows.listed (subst (λ xs. Contains xs second) (sym second_leaf) (only second)) (inl (ap (λ (x : Record). x.number) e))),
      e,
    ))
    (in_image image shows.block r is shows.listed)

-- ---- their pairs

first_pair : (rs : List Record) → HasPairAt (two_leaves rs) (leaf_spot 0) first
first_pair rs = record {
  block = 3;
  found = record { top = 1; is_top = refl; path = 0 ∷ 0 ∷ []; leads = refl; spot = refl };
  both = record { first = (refl, refl, refl, refl); second = (refl, refl, λ e. cc) };
}

second_pair : (rs : List Record) → HasPairAt (two_leaves rs) (leaf_spot 1) second
second_pair rs = record {
  block = 3;
  found = record { top = 1; is_top = refl; path = 0 ∷ 0 ∷ []; leads = refl; spot = refl };
  both = record { first = (refl, refl, refl, refl); second = (refl, refl, λ e. cc) };
}

has_pair : (rs : List Record) (p : Spot) (r : Record) → IsKnown p r → HasPairAt (two_leaves rs) p r
has_pair rs p r (inl x) = subst (λ q. HasPairAt (two_leaves rs) q r) (sym x.0) (subst (λ t. HasPairAt (two_leaves rs) (leaf_spot 0) t) (sym x.1) (first_pair rs))
has_pair rs p r (inr x) = subst (λ q. HasPairAt (two_leaves rs) q r) (sym x.0) (subst (λ t. HasPairAt (two_leaves rs) (leaf_spot 1) t) (sym x.1) (second_pair rs))

pub stand : PairsStandIn later both
stand = record {
  each = λ image is. record {
    each = λ p r shows. ⊎_elim
        (λ e. subst (λ x. HasPairAt x p r) (sym e) (has_pair [] p r (known image p r is shows)))
        (λ e. subst (λ x. HasPairAt x p r) (sym e) (has_pair (second ∷ []) p r (known image p r is shows)))
        is;
  };
  memory = λ image p r is shows begins. has_pair (second ∷ []) p r (known image p r is shows);
}

pub apart : (arena : Arena) → IsSoundApart arena later 2 × HasLengths arena later 2 × Lists arena later (records_of arena) 0 0 first × Lists arena later (records_of arena) 1 0 second
apart arena =
    let sound = later_sound arena in (
      record { in_use = record { in_use = (refl, refl); tags = refl }; of_data = sound.of_data; records_room = sound.records_room; depths = sound.depths; scores = sound.scores },
      record { entries_room = sound.entries_room; reaches = λ trail entries meta k j r dir l. (sound.fit trail entries meta k j r dir l).within },
      first_listed arena,
      second_listed arena,
    )
