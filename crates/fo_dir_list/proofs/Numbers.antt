-- The record of a file number: where it stands in a leaf, and in which leaf.
use Rattle.std.proofs.Common.{◌≡◌, ◌⊎◌, ◌+◌, ◌<◌, ◌≤◌, ℕ, true, false, List, [], ◌++◌, length, take, drop, find, Option, Some, None, refl, ⊎_elim, sym, ap, ◌∙◌, subst, arith}
use Rattle.std.specs.Int.{w32, from_be_bytes}
use Rattle.std.specs.List.{list_any}
use Rattle.std.proofs.lemmas.List.{drop-drop, take_all}
use Rattle.std.proofs.lemmas.Nat.{from_be_bytes-to_be_bytes_4}
use Rattle.fo_image.specs.declared.record.Record.{Record}
use Rattle.fo_image.specs.Field.{Four, number_at}
use Rattle.fo_image.specs.Record.{record_len}
use Rattle.fo_meta.specs.Leaf.{HasSpelling, SpellsLeaf, record_bytes}
use Rattle.fo_meta.proofs.Leaves.{Walks, Here, walk_none, walk_more}
use Rattle.fo_meta.proofs.Lists.{any-more, find-none, find-first}
use Rattle.fo_ports.specs.of_crash.Images.{Image, SameImage}
use Rattle.fo_ports.specs.Sources.{Leaves}
use Rattle.fo_dir_read.specs.Names.{HasRecords}
use Rattle.fo_dir_read.proofs.Looking.{records_back, none_any}
use Rattle.fo_dir_list.specs.Numbered.{has_number, FirstStands, LacksNumberBelow, FindsNumber}
use Rattle.fo_dir_list.proofs.Walk.{unnamed}

-- the number of the record at a place
pub number_there : (leaf : List ℕ) (at : ℕ) (r : Record) (more : List ℕ) → HasSpelling r → drop at leaf ≡ record_bytes r ++ more → number_at Four (at + 2) leaf ≡ r.number
unfolding number_at
number_there leaf at r more s here = ap (λ xs. from_be_bytes w32 (take 4 xs)) (sym (drop-drop 2 at leaf) ∙ ap (drop 2) here) ∙ from_be_bytes-to_be_bytes_4 r.number s.fit.1.0

-- ---- a walk along the records of a leaf, none of which has the number so far

pub record Passes (leaf : List ℕ) (number : ℕ) (rs : List Record) (i at : ℕ) : Type 0 where
  pub walks : Walks leaf [] rs i at
  pub none : list_any (has_number number) (take i rs) ≡ false

pub passes_none : (leaf : List ℕ) (number : ℕ) (rs : List Record) → SpellsLeaf rs leaf → Passes leaf number rs 0 4
passes_none leaf number rs s = record { walks = walk_none leaf [] rs s; none = refl }

pub passes_more : (leaf : List ℕ) (number : ℕ) (rs : List Record) (i at end : ℕ) → SpellsLeaf rs leaf → Passes leaf number rs i at → (h : Here leaf rs i at) → end ≡ at + record_len h.named → has_number number h.named ≡ false → Passes leaf number rs (i + 1) end
passes_more leaf number rs i at end s p h is other = record {
  walks = walk_more leaf [] rs i at end s p.walks h is (unnamed h.named h.spelled);
  none = ap (list_any (has_number number)) h.next ∙ any-more (has_number number) (take i rs) h.named p.none other;
}

pub passes_here : (leaf : List ℕ) (number : ℕ) (rs : List Record) (i at end : ℕ) → Passes leaf number rs i at → (h : Here leaf rs i at) → end ≡ at + record_len h.named → has_number number h.named ≡ true → FirstStands leaf number rs (Some (at, end))
passes_here leaf number rs i at end p h is same = (
  h.named,
  record { more = h.more; spelled = h.spelled; here = h.here; end = is },
  ap (find (has_number number)) h.split ∙ find-first (has_number number) (take i rs) (drop (i + 1) rs) h.named p.none same,
)

pub passes_all : (leaf : List ℕ) (number : ℕ) (rs : List Record) (i at : ℕ) → Passes leaf number rs i at → length rs ≤ i → FirstStands leaf number rs None
passes_all leaf number rs i at p le = find-none (has_number number) rs (ap (list_any (has_number number)) (sym (take_all i rs le)) ∙ p.none)

-- ---- leaf by leaf

-- leaves without the number, before and after a look
pub lacks_on : {now next : Image} {x y : Leaves} {number i : ℕ} → SameImage next now → ((j : ℕ) → y.at j ≡ x.at j) → LacksNumberBelow now x number i → LacksNumberBelow next y number i
lacks_on same there lacks = record { each = λ j rs lt h. lacks.each j rs lt (records_back same (there j) h) }

-- one more leaf that hasn't the number
pub lacks_more : {now : Image} {x : Leaves} {number i : ℕ} {found : Option Record} → found ≡ None → LacksNumberBelow now x number i → FindsNumber now x number i found → LacksNumberBelow now x number (i + 1)
lacks_more {now = now} {x = x} {number = number} {i = i} is lacks finds = record { each = λ j rs lt h. ⊎_elim (λ before. lacks.each j rs before h) (λ here. none_any (has_number number) rs (sym is ∙ finds.each rs (subst (λ k. HasRecords now x k rs) here h))) (last j lt) }
  where
    last : (j : ℕ) → j < i + 1 → (j < i) ⊎ (j ≡ i)
    last j lt = grind (arith, lt)
