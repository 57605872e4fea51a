-- The device that was just formatted has a root alone.
use Rattle.std.proofs.Common.{◌≡◌, ◌⊎◌, inl, inr, ⊎_elim, ℕ, ◌+◌, ◌-◌, ◌<◌, ◌≤◌, cond, List, length, get_or, refl, sym, ◌∙◌, ap, subst, arith}
use Rattle.std.specs.Prelude.{nat_lt}
use Rattle.std.proofs.lemmas.Bool.{cases_eq, cases_lt}
use Rattle.std.proofs.lemmas.Grind.{common_steps}
use Rattle.std.proofs.lemmas.List.{get_or_past}
use Rattle.fo_disk.specs.Disk.{Block}
use Rattle.fo_image.specs.declared.types.Kind.TheVariants.{Root}
use Rattle.fo_image.specs.declared.types.Label.{Label}
use Rattle.fo_image.specs.declared.types.State.TheVariants.{Free, Live, Closed}
use Rattle.fo_image.specs.Place.{first_data, label_block}
use Rattle.fo_image.specs.Usable.{free_label, live_label}
use Rattle.fo_labels.specs.Region.{Region, label_of}
use Rattle.fo_sound.specs.Image.{IsDataBlock, HasLabel}
use Rattle.fo_sound.specs.Sizes.{IsMainSize}
use Rattle.fo_sound.specs.Sound.{HasLabels}
use Rattle.fo_sound.specs.Fresh.{IsFresh, fresh_super, fresh_root}
use Rattle.fo_cells_fresh.specs.Fresh.{Reading, HasRootAlone, label_at, block_at}
use Rattle.fo_cells_fresh.specs.Formatted.{Reads}

module _ {r : Reading} {time : ℕ} {image : List Block} {labels : List Label} (reads : Reads r (length image)) (size : IsMainSize (length image)) (fresh : IsFresh time image) (has : HasLabels image labels) where
  abbrev N : ℕ
  N = length image

  abbrev R : ℕ
  R = first_data N

  abbrev T : Region
  T = record { first = R; labels = labels }

  root_below : R < N
  root_below = let least = size.0 in omega (arith, least)

  root_data : IsDataBlock N R
  root_data = record { from = omega arith; to = root_below }

  label_below : label_block R < N
  label_below = let least = size.0 in omega (arith, least)

  -- the label of a data block, and of another address
  before : (n m : ℕ) (x y : Label) → n < m → cond (nat_lt n m) x y ≡ x
  before n m x y lt = grind (arith, common_steps, lt)

  behind : (n m : ℕ) (x y : Label) → m ≤ n → cond (nat_lt n m) x y ≡ y
  behind n m x y le = grind (arith, common_steps, le)

  has_label : (b : ℕ) → IsDataBlock N b → HasLabel image b (label_at T b)
  has_label b is =
      let from = is.from in
      let to = is.to in
      let count = has.count in
      let lt : b - R < length labels = omega (arith, from, to, count) in
      let at : R + (b - R) ≡ b = omega (arith, from) in
      subst (λ l. HasLabel image b l) (sym (behind b R free_label (label_of T b) from)) (subst (λ z. HasLabel image z (get_or labels (b - R) free_label)) at (has.each (b - R) lt))

  -- a data block has one label
  reads_label : (b : ℕ) (l : Label) → IsDataBlock N b → HasLabel image b l → r.label_in b (block_at image (label_block b)) ≡ l
  reads_label b l is one = reads.label b l (block_at image (label_block b)) is one.spelled

  same_label : (b : ℕ) (l : Label) → IsDataBlock N b → HasLabel image b l → label_at T b ≡ l
  same_label b l is one = sym (reads_label b (label_at T b) is (has_label b is)) ∙ reads_label b l is one

  data_or_free : (b : ℕ) → IsDataBlock N b ⊎ ((IsDataBlock N b → ⊥) × (label_at T b ≡ free_label))
  data_or_free b = ⊎_elim
      (λ lt. inr ((λ is. let from = is.from in omega (arith, from, lt)), before b R free_label (label_of T b) lt))
      (λ le. ⊎_elim
      (λ to. inl (record { from = le; to = to }))
      (λ past. inr (
        (λ is. let to = is.to in omega (arith, to, past)),
        behind b R free_label (label_of T b) le ∙ get_or_past labels (b - R) free_label (let count = has.count in omega (arith, count, past, le)),
      ))
      (cases_lt b N))
      (cases_lt b R)

  root_label : label_at T R ≡ live_label Root 1 1
  root_label = same_label R (live_label Root 1 1) root_data fresh.root_label

  pub formatted_alone : HasRootAlone r image T R 1
  formatted_alone = record {
    super_here = let least = size.0 in omega (arith, least);
    root_here = root_below;
    label_here = subst (λ z. z < N) (sym (reads.block R root_data)) label_below;
    other = λ e. omega (arith, e);
    leads = reads.super_leads (fresh_super N) (block_at image 1) fresh.formatted.super_block;
    only = λ i b e. reads.super_only (fresh_super N) (block_at image 1) fresh.formatted.super_block i b e;
    empty = λ i b e. reads.root_empty (fresh_root time) (block_at image R) fresh.root refl refl i b e;
    high_is = reads.super_high (fresh_super N) (block_at image 1) fresh.formatted.super_block;
    spelled = λ b lt. ⊎_elim
        (λ is. ap (λ z. r.label_in b (block_at image z)) (reads.block b is) ∙ reads_label b (label_at T b) is (has_label b is))
        (λ none. let out = reads.outside b none.0 in absurd (omega (arith, out, lt)))
        (data_or_free b);
    root_label = root_label;
    usable = λ b closed. absurd (⊎_elim
        (λ is. ⊎_elim
        (λ at. let e : Live ≡ Closed = ap (λ (l : Label). l.state) (sym root_label) ∙ ap (λ z. (label_at T z).state) (sym at) ∙ closed in cc)
        (λ ne. let e : Free ≡ Closed = ap (λ (l : Label). l.state) (sym (same_label b free_label is (fresh.free b is ne))) ∙ closed in cc)
        (cases_eq b R))
        (λ none. let e : Free ≡ Closed = ap (λ (l : Label). l.state) (sym none.1) ∙ closed in cc)
        (data_or_free b));
  }
