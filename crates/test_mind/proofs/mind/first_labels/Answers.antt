use Rattle.std.proofs.Common.{◌≡◌, ℕ, zero, suc, ◌-◌, Option, Some, MatchOption, replicate, slice_index_or, refl, sym, ap, ◌∙◌, subst, arith}
use Rattle.fo_image.specs.Format.{LabelHolds}
use Rattle.fo_image.specs.declared.types.Kind.TheVariants.{Root}
use Rattle.fo_image.specs.Usable.{free_label, is_usable, live_label}
use Rattle.fo_labels.specs.Region.{Region, least_usable, relabeled}
use Rattle.fo_mind.specs.Parts.{count_of, label_at}
use Rattle.fo_mind.proofs.Giving.{labelled_given}
use Rattle.fo_mind.specs.Sound.{Labelled}
use Rattle.test_mind.proofs.mind.first_labels.Goals as goal

free_holds : LabelHolds free_label
free_holds = record { state_holds = (refl, refl, refl, refl) }

free_in : (n k : ℕ) → slice_index_or (replicate n free_label) k free_label ≡ free_label
free_in zero k = refl
free_in (suc n) zero = refl
free_in (suc n) (suc k) = free_in n k

all_free : (n : ℕ) → Labelled (record { first = 3; labels = replicate n free_label })
all_free n = record { each = λ b block. subst LabelHolds (sym (free_in n (b - 3))) free_holds }

abbrev ten : Region
ten = record { first = 3; labels = replicate 7 free_label }

abbrev rooted : Region
rooted = relabeled (record { first = 3; labels = replicate 7 free_label }) 3 (live_label Root 1 1)

root_holds : LabelHolds (live_label Root 1 1)
root_holds = record { state_holds = (tt, omega arith, refl) }

is_rooted : (old new : Region) (o : Option ℕ) → old ≡ ten → o ≡ least_usable 1 old → MatchOption o (new ≡ old) (λ at. new ≡ relabeled old at (live_label Root 1 1)) → new ≡ rooted
is_rooted old new o is least m =
    let here : o ≡ Some 3 = least ∙ ap (least_usable 1) is in
    let one : new ≡ relabeled old 3 (live_label Root 1 1) = subst (λ (z : Option ℕ). MatchOption z (new ≡ old) (λ at. new ≡ relabeled old at (live_label Root 1 1))) here m in
    one ∙ ap (λ (r : Region). relabeled r 3 (live_label Root 1 1)) is

pub returns-clause-first : goal.returns-clause-first
returns-clause-first c = ap (λ (r : Region). r.first) (is_rooted _ _ _ c.in_ok-labels.ensures c.alloc-root.ensures.least c.alloc-root.ensures.labels)

pub returns-clause-count : goal.returns-clause-count
returns-clause-count c = ap count_of (is_rooted _ _ _ c.in_ok-labels.ensures c.alloc-root.ensures.least c.alloc-root.ensures.labels)

pub returns-clause-labelled : goal.returns-clause-labelled
returns-clause-labelled c = subst Labelled (sym (is_rooted _ _ _ c.in_ok-labels.ensures c.alloc-root.ensures.least c.alloc-root.ensures.labels)) (labelled_given ten 3 (live_label Root 1 1) (record { from = omega arith; to = omega arith }) root_holds (all_free 7))

pub returns-clause-root : goal.returns-clause-root
returns-clause-root c = ap (λ (r : Region). is_usable 1 (label_at r 3)) (is_rooted _ _ _ c.in_ok-labels.ensures c.alloc-root.ensures.least c.alloc-root.ensures.labels)
