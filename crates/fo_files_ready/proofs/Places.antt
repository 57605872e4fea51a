-- A record and its place in a leaf.
use Rattle.std.proofs.Common.{◌≡◌, ◌+◌, ◌<◌, ℕ, true, false, List, [], ◌∷◌, ◌++◌, length, Option, IfSome, sym, ap, subst, ◌∙◌, arith}
use Rattle.std.specs.List.{list_any}
use Rattle.std.proofs.lemmas.List.{length-append, append-nil}
use Rattle.fo_image.specs.declared.record.Record.{Record}
use Rattle.fo_image.specs.Record.{record_len}
use Rattle.fo_image.proofs.RecordLemmas.{length-record}
use Rattle.fo_meta.specs.Leaf.{SpellsLeaf, IsLeaf, is_named, record_bytes, records_bytes, without}
use Rattle.fo_meta.proofs.Lists.{any-first, without-none, without-first, records_bytes-append}
use Rattle.fo_files_move.proofs.of_good.Leaf.{leaf_is_read}
use Rattle.fo_files_move.specs.of_dir_add.Adds.{HasAdded}
use Rattle.fo_files_move.specs.of_dir_change.Changes.{IsFirstOf, IsTooLong}
use Rattle.fo_files_move.proofs.of_dir_read.Looking.{found_passes}
use Rattle.fo_files_ready.specs.Ready.{HasPlace, HasRoom}

one_more : (rs : List Record) (r : Record) → length (records_bytes (rs ++ r ∷ [])) ≡ length (records_bytes rs) + record_len r
one_more rs r =
    ap (λ (xs : List ℕ). length xs) (records_bytes-append rs (r ∷ [])) ∙ length-append (records_bytes rs) (record_bytes r ++ [])
    ∙ ap (λ n. length (records_bytes rs) + n) (ap (λ (xs : List ℕ). length xs) (append-nil (record_bytes r)) ∙ length-record r)

-- what was put has room
pub not_long : (name : List ℕ) (named : Record) (old new : List ℕ) → IsLeaf old → ((rs : List Record) → SpellsLeaf rs old → SpellsLeaf (without name rs ++ named ∷ []) new) → IsTooLong name named old → ⊥
not_long name named old new leaf put long =
    let rs = leaf.records in
    let room = (put rs leaf.spells).room in
    let len = one_more (without name rs) named in
    let over = long.each rs leaf.spells in
    omega (arith, room, len, over)

-- a leaf spells one list
one_list : (a b : List Record) (leaf : List ℕ) → SpellsLeaf a leaf → SpellsLeaf b leaf → a ≡ b
one_list a b leaf x y = sym (leaf_is_read a leaf x) ∙ leaf_is_read b leaf y

first_named : (name from : List ℕ) (moved : Record) → IsLeaf from → IsFirstOf name from moved → is_named name moved ≡ true
first_named name from moved leaf first = subst (λ (o : Option Record). IfSome o (λ r. is_named name r ≡ true)) (first.each leaf.records leaf.spells) (found_passes (is_named name) leaf.records)

-- a record that came into a leaf with room for another has a place for that
pub came : (name : List ℕ) (named moved : Record) (from old new : List ℕ) → HasRoom name named old → IsLeaf from → IsFirstOf name from moved → HasAdded moved old new → HasPlace name named new
came name named moved from old new room leaf first added =
    let is : is_named name moved ≡ true = first_named name from moved leaf first in
    let rs = room.leaf.records in
    record {
      bears = record { each = λ others spells. subst (λ (xs : List Record). list_any (is_named name) xs ≡ true) (one_list (rs ++ moved ∷ []) others new (added.each rs room.leaf.spells) spells) (any-first (is_named name) rs [] moved is) };
      fits = λ long. room.fits (record { each = λ xs spells. shorter xs is (room.bears_not.each xs spells) (long.each (xs ++ moved ∷ []) (added.each xs spells)) });
    }
  where
    shorter : (xs : List Record) → is_named name moved ≡ true → list_any (is_named name) xs ≡ false → 8188 < length (records_bytes (without name (xs ++ moved ∷ []))) + record_len named → 8188 < length (records_bytes (without name xs)) + record_len named
    shorter xs is none over = subst (λ (ys : List Record). 8188 < length (records_bytes ys) + record_len named) (without-first name xs [] moved none is ∙ append-nil xs ∙ sym (without-none name xs none)) over
