-- The label table, one label or one block more.
use Rattle.std.proofs.Common.{◌≡◌, ◌⊎◌, inl, inr, ⊎_elim, ℕ, ◌+◌, ◌*◌, ◌%◌, ◌-◌, ◌<◌, ◌≤◌, true, false, cond, List, length, drop, replicate, refl, sym, ap, ◌∙◌, subst, arith, length-set, length-drop}
use Rattle.std.specs.List.{list_all}
use Rattle.std.specs.Prelude.{◌==◌}
use Rattle.std.proofs.lemmas.Bool.{cases_eq, cases_lt, le-ltb, lt-ltb}
use Rattle.std.proofs.lemmas.List.{get_or_past, get_or-replicate, length-replicate}
use Rattle.fo_disk.specs.Disk.{Content as Holds}
use Rattle.fo_image.specs.declared.types.Label.{Label}
use Rattle.fo_image.specs.Field.{zeros}
use Rattle.fo_image.specs.Format.{LabelHolds, SpellsLabel}
use Rattle.fo_image.specs.Place.{first_data, label_block, label_blocks, label_byte}
use Rattle.fo_image.specs.Usable.{free_label}
use Rattle.fo_image.proofs.Padding.{zeros-from_all}
use Rattle.fo_labels.specs.Region.{IsDataBlock, Region, label_of, relabeled}
use Rattle.fo_labels.specs.Spelled.{AreLabels, SpellsLabels, label_at, part_at}
use Rattle.fo_mind.specs.Parts.{count_of}
use Rattle.fo_mind.proofs.Giving.{label_here, label_other}
use Rattle.fo_opening.specs.Loads.{IsLabelOf, IsNoBlock, Loads, LoadsBlock, LoadsPart}
use Rattle.fo_opening.specs.Opens.{HasTable, IsRead, IsTable}
use Rattle.fo_opening.specs.Refuses.{IsNoTable}

never : {A : Type 0} → true ≡ false → A
never e = cc

-- ---- one label

data_label : (r : Region) (a : ℕ) → r.first ≤ a → label_at r a ≡ label_of r a
data_label r a le = ap (λ t. cond t free_label (label_of r a)) (le-ltb a r.first le)

pub free_beside : (r : Region) (a : ℕ) → (IsDataBlock r a → ⊥) → label_at r a ≡ free_label
free_beside r a none = ⊎_elim
    (λ lt. ap (λ t. cond t free_label (label_of r a)) (lt-ltb a r.first lt))
    (λ le. data_label r a le ∙ ⊎_elim
    (λ lt. absurd (none (record { from = le; to = omega (arith, lt, le) })))
    (λ past. get_or_past r.labels (a - r.first) free_label past)
    (cases_lt (a - r.first) (length r.labels)))
    (cases_lt a r.first)

pub loads_data : (old new : Region) (address : ℕ) (l : Label) (bytes : List ℕ) → IsDataBlock old address → AreLabels old → SpellsLabel l bytes → new ≡ relabeled old address l → Loads address bytes old new
loads_data old new address l bytes is labels spells new_is = record {
  stays = record {
    first = ap (λ (r : Region). r.first) new_is;
    count = ap (λ (r : Region). length r.labels) new_is ∙ length-set old.labels (address - old.first) l;
    labels = subst AreLabels (sym new_is) (record { each = λ at block. each at (still at block) });
  };
  here = subst (λ (x : Label). SpellsLabel x bytes) (sym (ap (λ (r : Region). label_at r address) new_is ∙ label_here old address l is)) spells;
  others = λ x ne. ap (λ (r : Region). label_at r x) new_is ∙ label_other old address l x is ne;
}
  where
    still : (at : ℕ) → IsDataBlock (relabeled old address l) at → IsDataBlock old at
    still at block =
        let n = length-set old.labels (address - old.first) l in
        let lo = block.from in
        let hi = block.to in
        record { from = lo; to = omega (arith, n, hi) }

    each : (at : ℕ) → IsDataBlock old at → LabelHolds (label_of (relabeled old address l) at)
    each at block = ⊎_elim
        (λ e. subst LabelHolds (sym (ap (label_of (relabeled old address l)) e ∙ sym (data_label (relabeled old address l) address is.from) ∙ label_here old address l is)) spells.holds)
        (λ ne. subst LabelHolds (sym (sym (data_label (relabeled old address l) at block.from) ∙ label_other old address l at is ne ∙ data_label old at block.from)) (labels.each at block))
        (cases_eq at address)

pub loads_free : (old : Region) (address : ℕ) (l : Label) (bytes : List ℕ) → (IsDataBlock old address → ⊥) → AreLabels old → SpellsLabel l bytes → l ≡ free_label → Loads address bytes old old
loads_free old address l bytes none labels spells is = record {
  stays = record { first = refl; count = refl; labels = labels };
  here = subst (λ (x : Label). SpellsLabel x bytes) (is ∙ sym (free_beside old address none)) spells;
  others = λ x ne. refl;
}

-- ---- a part of a block

pub part_none : (n : ℕ) (block : List ℕ) (old : Region) → AreLabels old → LoadsPart n 0 block old old
part_none n block old labels = record {
  stays = record { first = refl; count = refl; labels = labels };
  spelled = λ i lt. absurd (omega (arith, lt));
  others = λ x far. refl;
}

pub part_more : (n k address : ℕ) (bytes block : List ℕ) (old mid new : Region) → address ≡ 585 * n + k → k < 585 → bytes ≡ part_at (14 * k) block → LoadsPart n k block old mid → Loads address bytes mid new → LoadsPart n (k + 1) block old new
part_more n k address bytes block old mid new at lt is p l = record {
  stays = record { first = l.stays.first ∙ p.stays.first; count = l.stays.count ∙ p.stays.count; labels = l.stays.labels };
  spelled = λ i below. ⊎_elim
      (λ e. subst (λ m. SpellsLabel (label_at new (585 * n + m)) (part_at (14 * m) block)) (sym e)
      (subst (λ (bs : List ℕ). SpellsLabel (label_at new (585 * n + k)) bs) is (subst (λ a. SpellsLabel (label_at new a) bytes) at l.here)))
      (λ ne. subst (λ (x : Label). SpellsLabel x (part_at (14 * i) block)) (sym (l.others (585 * n + i) (λ e. ne (omega (arith, e, at))))) (p.spelled i (omega (arith, below, ne))))
      (cases_eq i k);
  others = λ x far. l.others x (λ e. absurd (beyond x e far)) ∙ p.others x (⊎_elim (λ lo. inl lo) (λ hi. inr (omega (arith, hi))) far);
}
  where
    beyond : (x : ℕ) → x ≡ address → (x < 585 * n) ⊎ (585 * n + (k + 1) ≤ x) → ⊥
    beyond x e (inl lo) = omega (arith, e, at, lo)
    beyond x e (inr hi) = omega (arith, e, at, hi)

-- ---- a block

place_of : (n address : ℕ) → label_block address ≡ 2 + n → 585 * n + address % 585 ≡ address
place_of n address e = omega (arith, e)

block_at : (n i : ℕ) → i < 585 → label_block (585 * n + i) ≡ 2 + n
block_at n i lt = omega arith

byte_at : (n i : ℕ) → i < 585 → label_byte (585 * n + i) ≡ 14 * i
byte_at n i lt = ap (λ (k : ℕ). 14 * k) (omega arith)

two_zeros : (block : List ℕ) → length block ≡ 8192 → list_all (λ b. b == 0) (drop 8190 block) ≡ true → drop 8190 block ≡ replicate 2 0
unfolding zeros
two_zeros block long z =
    let n = length-drop 8190 block in
    let two : length (drop 8190 block) ≡ 2 = omega (arith, n, long) in
    zeros-from_all (drop 8190 block) z ∙ ap zeros two

pub block_whole : (n : ℕ) (block : List ℕ) (old new : Region) → length block ≡ 8192 → list_all (λ b. b == 0) (drop 8190 block) ≡ true → LoadsPart n 585 block old new → LoadsBlock n block old new
block_whole n block old new long z p = record {
  stays = p.stays;
  spells = record {
    long = long;
    each = λ address here. subst (λ a. SpellsLabel (label_at new a) (part_at (label_byte address) block)) (place_of n address here) (p.spelled (address % 585) (omega arith));
    rest = two_zeros block long z;
  };
  others = p.others;
}

pub no_rest : (n : ℕ) (block : List ℕ) (old : Region) → list_all (λ b. b == 0) (drop 8190 block) ≡ false → IsNoBlock n block old
no_rest n block old z = record { none = λ r first count s. never (ap (list_all (λ b. b == 0)) (sym s.rest) ∙ z) }

pub no_label : (n k address : ℕ) (bytes block : List ℕ) (old mid : Region) → address ≡ 585 * n + k → k < 585 → bytes ≡ part_at (14 * k) block → LoadsPart n k block old mid → ((l : Label) → IsLabelOf mid address l → SpellsLabel l bytes → ⊥) → IsNoBlock n block old
no_label n k address bytes block old mid at lt is p bad = record {
  none = λ r first count s.
      bad (label_at r address)
      (record { other = λ none. free_beside r address (λ block. none (still r first count block)) })
      (subst (λ (bs : List ℕ). SpellsLabel (label_at r address) bs) (sym is) (subst (λ a. SpellsLabel (label_at r a) (part_at (14 * k) block)) (sym at) (subst (λ b. SpellsLabel (label_at r (585 * n + k)) (part_at b block)) (byte_at n k lt) (s.each (585 * n + k) (block_at n k lt)))));
}
  where
    still : (r : Region) → r.first ≡ old.first → length r.labels ≡ length old.labels → IsDataBlock r address → IsDataBlock mid address
    still r first count block =
        let lo = block.from in
        let hi = block.to in
        let f = p.stays.first in
        let c = p.stays.count in
        record { from = omega (arith, lo, first, f); to = omega (arith, hi, first, f, count, c) }

-- ---- the table

pub table_none : (count : ℕ) (holds : Holds) (r : Region) → 64 ≤ count → r ≡ record { first = first_data count; labels = replicate (count - first_data count) free_label } → IsTable count r × HasTable holds 0 r
table_none count holds r least is = (
  record {
    first = ap (λ (x : Region). x.first) is;
    count_is = ap count_of is ∙ (let n = length-replicate (count - first_data count) free_label in omega (arith, n, least));
    labels = subst AreLabels (sym is) (record { each = λ at block. subst LabelHolds (sym (free_at at)) (record { state_holds = (refl, refl, refl, refl) }) });
  },
  record { each = λ k lt. absurd (omega (arith, lt)) },
)
  where
    free_at : (at : ℕ) → label_of (record { first = first_data count; labels = replicate (count - first_data count) free_label }) at ≡ free_label
    free_at at = ⊎_elim
        (λ lt. get_or-replicate (count - first_data count) (at - first_data count) free_label free_label lt)
        (λ ge. get_or_past (replicate (count - first_data count) free_label) (at - first_data count) free_label (let n = length-replicate (count - first_data count) free_label in omega (arith, n, ge)))
        (cases_lt (at - first_data count) (count - first_data count))

respelled : (n k : ℕ) (block bytes : List ℕ) (old new : Region) → k < n → LoadsBlock n block old new → SpellsLabels old (2 + k) bytes → SpellsLabels new (2 + k) bytes
respelled n k block bytes old new lt l s = record {
  long = s.long;
  each = λ address here. subst (λ (x : Label). SpellsLabel x (part_at (label_byte address) bytes)) (sym (l.others address (inl (below address here)))) (s.each address here);
  rest = s.rest;
}
  where
    below : (address : ℕ) → label_block address ≡ 2 + k → address < 585 * n
    below address here = omega (arith, here, lt)

pub table_more : (count n : ℕ) (holds : Holds) (block : List ℕ) (old new : Region) → IsTable count old → HasTable holds n old → IsRead holds (2 + n) block → LoadsBlock n block old new → IsTable count new × HasTable holds (n + 1) new
table_more count n holds block old new t h read l = (
  record {
    first = l.stays.first ∙ t.first;
    count_is = (let f = l.stays.first in let c = l.stays.count in let k = t.count_is in omega (arith, f, c, k));
    labels = l.stays.labels;
  },
  record {
    each = λ k lt. ⊎_elim
        (λ e. (block, subst (λ m. IsRead holds (2 + m) block) (sym e) read, subst (λ m. SpellsLabels new (2 + m) block) (sym e) l.spells))
        (λ ne.
        let was = h.each k (omega (arith, lt, ne)) in
        (was.0, was.1, respelled n k block was.0 old new (omega (arith, lt, ne)) l was.2))
        (cases_eq k n);
  },
)

pub no_table : (count n : ℕ) (holds : Holds) (block : List ℕ) (old : Region) → n < label_blocks count → IsTable count old → IsRead holds (2 + n) block → IsNoBlock n block old → IsNoTable holds count (2 + n)
no_table count n holds block old lt t read bad = record {
  from = omega arith;
  to = omega (arith, lt);
  bytes = block;
  read = read;
  none = λ r first len s. bad.none r (first ∙ sym t.first) (let k = t.count_is in let f = t.first in omega (arith, len, first, k, f)) s;
}
