-- The label table, one label or one block more.
use Rattle.std.proofs.Common.{◌≡◌, ⊎_elim, ℕ, zero, suc, ◌+◌, ◌*◌, ◌<◌, ◌≤◌, true, List, [], ◌∷◌, ◌++◌, length, take, drop, refl, sym, ◌∙◌, ap, subst, Result, Ok, Err, arith, length-drop}
use Rattle.std.specs.Prelude.{◌==◌, MatchResult, OnOk, IfErr}
use Rattle.std.specs.List.{Any}
use Rattle.std.proofs.lemmas.Bool.{cases_eq}
use Rattle.std.proofs.lemmas.List.{length-take-le, get_or_append_left, length-append}
use Rattle.std.proofs.lemmas.List.Elements.{All-take, All-drop, All-push}
use Rattle.std.proofs.lemmas.List.Quantifiers.{Any-push}
use Rattle.std.proofs.lemmas.List.Sums.{AllPass-from_list_all, list_all-from_AllPass}
use Rattle.fo_disk.specs.Disk.{Block}
use Rattle.fo_image.specs.declared.types.Label.{Label}
use Rattle.fo_image.specs.declared.types.State.TheVariants.{Free}
use Rattle.fo_image.specs.Place.{label_blocks, label_block, label_byte}
use Rattle.fo_sound.specs.Image.{block_of, is_zero, IsDataBlock, label_bytes, HasLabel, rest_bytes}
use Rattle.fo_sound.specs.Sound.{HasTable}
use Rattle.fo_sound.proofs.Labels.{free_spelled}
use Rattle.fo_check_labels.specs.declared.labels.Known.{Known}
use Rattle.fo_check_labels.specs.declared.error.TreeError.{TreeError}
use Rattle.fo_check_labels.specs.declared.error.TreeError.TheVariants.{Memory}
use Rattle.fo_check_labels.specs.Known.{IsKnown, fresh}
use Rattle.fo_check_labels.specs.Table.{IsRight, IsListed, IsScanned, RefusesTable}

-- ---- where labels stand

block_is : (n place : ℕ) → place < 585 → label_block (585 * n + place) ≡ 2 + n
block_is n place lt = omega arith

byte_is : (n place : ℕ) → place < 585 → label_byte (585 * n + place) ≡ 14 * place
byte_is n place lt = ap (λ (k : ℕ). 14 * k) (omega arith)

pub label-bytes : (image : List Block) (block : Block) (n place from len : ℕ) → place < 585 → block ≡ block_of image (2 + n) → from ≡ 14 * place → len ≡ 14 → take len (drop from block) ≡ label_bytes image (585 * n + place)
label-bytes image block n place from len lt is from_is len_is =
    ap (λ (k : ℕ). take k (drop from block)) len_is
    ∙ ap (λ (k : ℕ). take 14 (drop k block)) (from_is ∙ sym (byte_is n place lt))
    ∙ ap (λ b. take 14 (drop (label_byte (585 * n + place)) b)) (is ∙ ap (block_of image) (sym (block_is n place lt)))

-- ---- one label more

Any-append : (P : Known → Type 0) (xs ys : List Known) → Any P xs → Any P (xs ++ ys)
Any-append P xs ys a = (a.0, a.1, omega (arith, length-append xs ys, a.2), get_or_append_left xs ys a.1 a.0 a.2 ∙ a.3, a.4)

module _ {image : List Block} {seen upto : ℕ} {known : List Known} where
  -- the next address has no label that is listed
  pub scanned_more : (IsDataBlock (length image) upto → IsListed image known upto) → (¬ IsDataBlock (length image) upto → is_zero (label_bytes image upto) ≡ true)
      → IsScanned image seen upto known → IsScanned image seen (upto + 1) known
  scanned_more label blank w = record {
    right = w.right;
    labels = λ k lt. ⊎_elim
        (λ here. subst (λ (n : ℕ). IsDataBlock (length image) n → IsListed image known n) (sym here) label)
        (λ apart. w.labels k (omega (arith, apart)))
        (cases_eq k upto);
    others = λ k lt. ⊎_elim
        (λ here. subst (λ (n : ℕ). ¬ IsDataBlock (length image) n → is_zero (label_bytes image n) ≡ true) (sym here) blank)
        (λ apart. w.others k (omega (arith, apart)))
        (cases_eq k upto);
    rests = w.rests;
  }

  pub scanned_rest : is_zero (rest_bytes (block_of image (2 + seen))) ≡ true → IsScanned image seen upto known → IsScanned image (seen + 1) upto known
  scanned_rest blank w = record {
    right = w.right;
    labels = w.labels;
    others = w.others;
    rests = λ k from to. ⊎_elim
        (λ here. subst (λ (n : ℕ). is_zero (rest_bytes (block_of image n)) ≡ true) (sym here) blank)
        (λ apart. w.rests k from (omega (arith, apart)))
        (cases_eq k (2 + seen));
  }

  -- one block more in the list
  pub scanned_push : (k : Known) → IsRight image k → IsScanned image seen upto known → IsScanned image seen upto (known ++ k ∷ [])
  scanned_push k is w = record {
    right = All-push (IsRight image) known k w.right is;
    labels = λ address lt place.
        let old = w.labels address lt place in
        record { label = old.label; has = old.has; listed = λ used. Any-append (IsKnown address old.label) known (k ∷ []) (old.listed used) };
    others = w.others;
    rests = w.rests;
  }

-- a block that is not free, with its label
pub listed_last : {image : List Block} {address : ℕ} {l : Label} (known : List Known) (k : Known) → HasLabel image address l → IsKnown address l k → IsListed image (known ++ k ∷ []) address
listed_last {image} {address} {l} known k has is = record { label = l; has = has; listed = λ used. Any-push (IsKnown address l) known k is }

pub listed_free : {image : List Block} {address : ℕ} {l : Label} (known : List Known) → HasLabel image address l → l.state ≡ Free → IsListed image known address
listed_free {image} {address} {l} known has free = record { label = l; has = has; listed = λ used. absurd (used free) }

pub table_added : {image : List Block} {seen : ℕ} {T : Type 0} (known new : List Known) (address : ℕ) (l : Label) (r : Result T TreeError) → OnOk r (new ≡ known ++ fresh address l ∷ []) → IfErr r (λ e. e ≡ Memory)
    → IsScanned image seen (address + 1) (known ++ fresh address l ∷ []) → MatchResult r (λ _. IsScanned image seen (address + 1) new) (RefusesTable image)
table_added {image} {seen} {T} known new address l (Ok x) added memory scan = subst (λ (ks : List Known). IsScanned image seen (address + 1) ks) (sym added) scan
table_added {image} {seen} {T} known new address l (Err e) added memory scan = subst (RefusesTable image) (sym memory) tt

-- ---- a block of zeros

zero-take : (n : ℕ) (xs : List ℕ) → is_zero xs ≡ true → is_zero (take n xs) ≡ true
zero-take n xs h = list_all-from_AllPass _ (take n xs) (All-take (λ x. (x == 0) ≡ true) n xs (AllPass-from_list_all _ xs h))

zero-drop : (n : ℕ) (xs : List ℕ) → is_zero xs ≡ true → is_zero (drop n xs) ≡ true
zero-drop n xs h = list_all-from_AllPass _ (drop n xs) (All-drop (λ x. (x == 0) ≡ true) n xs (AllPass-from_list_all _ xs h))

module _ {image : List Block} (block : Block) (n : ℕ) (len : length block ≡ 8192) (is : block ≡ block_of image (2 + n)) (z : is_zero block ≡ true) where
  next_label : {known : List Known} (place : ℕ) → place < 585 → IsScanned image (n + 1) (585 * n + place) known → IsScanned image (n + 1) (585 * n + place + 1) known
  next_label {known} place lt scan =
      let here : take 14 (drop (14 * place) block) ≡ label_bytes image (585 * n + place) = label-bytes image block n place (14 * place) 14 lt is refl refl in
      let long : length (take 14 (drop (14 * place) block)) ≡ 14 = length-take-le 14 (drop (14 * place) block) (omega (arith, length-drop (14 * place) block, len, lt)) in
      let zeros : is_zero (label_bytes image (585 * n + place)) ≡ true = ap is_zero (sym here) ∙ zero-take 14 (drop (14 * place) block) (zero-drop (14 * place) block z) in
      scanned_more (λ _. listed_free known (record { spelled = free_spelled (label_bytes image (585 * n + place)) (ap length (sym here) ∙ long) zeros }) refl) (λ _. zeros) scan

  labels : {known : List Known} (k : ℕ) → k ≤ 585 → IsScanned image (n + 1) (585 * n) known → IsScanned image (n + 1) (585 * n + k) known
  labels {known} zero le scan = subst (λ (m : ℕ). IsScanned image (n + 1) m known) (omega arith) scan
  labels {known} (suc k) le scan = subst (λ (m : ℕ). IsScanned image (n + 1) m known) (omega arith) (next_label k (omega (arith, le)) (labels k (omega (arith, le)) scan))

  pub scanned_block : {known : List Known} → IsScanned image n (585 * n) known → IsScanned image (n + 1) (585 * (n + 1)) known
  scanned_block {known} scan =
      let rest : is_zero (rest_bytes (block_of image (2 + n))) ≡ true = ap (λ b. is_zero (rest_bytes b)) (sym is) ∙ zero-drop 8190 block z in
      subst (λ (m : ℕ). IsScanned image (n + 1) m known) (omega arith) (labels 585 (omega arith) (scanned_rest rest scan))

-- ---- the whole table

pub table_whole : {image : List Block} {known : List Known} (blocks : ℕ) → length image ≡ blocks → IsScanned image (label_blocks blocks) (585 * label_blocks blocks) known → HasTable image
table_whole {image} {known} blocks len w = record {
  labels = λ address place. let l = w.labels address (omega (arith, place.to, len)) place in (l.label, l.has);
  others = λ address lt none. w.others address (omega (arith, len, lt)) none;
  rests = λ at from to. w.rests at from (omega (arith, len, to));
}
