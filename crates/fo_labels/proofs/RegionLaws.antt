-- What one block with a new label changes. For the crates above, too.
use Rattle.std.proofs.Common.{◌≡◌, ◌≢◌, ℕ, ◌+◌, ◌-◌, cond, arith}
use Rattle.std.proofs.lemmas.List.{get_or-set_same, get_or-set_other, length-set}
use Rattle.std.proofs.lemmas.List.Sums.{sum_by-set}
use Rattle.fo_image.specs.declared.types.Label.{Label}
use Rattle.fo_image.specs.Usable.{is_usable, free_label}
use Rattle.fo_labels.specs.Region.{Region, IsDataBlock, relabeled, label_of, usable_count}

pub block-relabeled : (r : Region) (at other : ℕ) (l : Label) → IsDataBlock r other → IsDataBlock (relabeled r at l) other
block-relabeled r at other l b = record {
  from = b.from;
  to = omega (arith, b.to, length-set r.labels (at - r.first) l);
}

pub label_of-relabeled : (r : Region) (at : ℕ) (l : Label) → IsDataBlock r at → label_of (relabeled r at l) at ≡ l
label_of-relabeled r at l b = get_or-set_same r.labels (at - r.first) l free_label (omega (arith, b.from, b.to))

pub label_of-relabeled-other : (r : Region) (at other : ℕ) (l : Label) → IsDataBlock r at → IsDataBlock r other → other ≢ at → label_of (relabeled r at l) other ≡ label_of r other
label_of-relabeled-other r at other l b o ne = get_or-set_other r.labels (at - r.first) (other - r.first) l free_label (omega (arith, b.from, o.from))

pub usable_count-relabeled : (low : ℕ) (r : Region) (at : ℕ) (l : Label) → IsDataBlock r at → usable_count low (relabeled r at l) + cond (is_usable low (label_of r at)) 1 0 ≡ usable_count low r + cond (is_usable low l) 1 0
usable_count-relabeled low r at l b = sum_by-set (λ x. cond (is_usable low x) 1 0) r.labels (at - r.first) l free_label (omega (arith, b.from, b.to))
