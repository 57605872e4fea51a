-- Two images that differ in one slot, which leads nowhere in the first.
use Rattle.std.proofs.Common.{◌≡◌, ◌≢◌, ◌⊎◌, inl, inr, ⊎_elim, ℕ, suc, ◌+◌, ◌*◌, ◌%◌, true, List, sym, ◌∙◌, ap, arith}
use Rattle.std.proofs.lemmas.Bool.{cases_eq}
use Rattle.fo_image.specs.declared.types.Entry.{Entry}
use Rattle.fo_image.specs.declared.types.Pointer.TheVariants.{Nil, Local}
use Rattle.fo_image.specs.declared.record.Record.{Record}
use Rattle.fo_crash.specs.declared.slot.Slot.TheVariants.{Entry as Head}
use Rattle.fo_crash.specs.Images.{Image, target}
use Rattle.fo_crash.specs.Spots.{Spot, FoundAt, spot_below}
use Rattle.fo_ports.specs.Shown.{active}
use Rattle.fo_shown.proofs.Ways.{Follows, found_on}
use Rattle.fo_dir_put.specs.Paired.{HasBoth}
use Rattle.fo_dir_put.proofs.Paired.{both_on}
use Rattle.fo_dir_pairs.specs.Pairs.{IsNamed}

-- The entry that names the source is in this slot.
pub record IsNamedBy (image : Image) (at i tag : ℕ) : Type 0 where
  pub entry : Entry
  pub is : (image at).slot i ≡ Head entry
  pub used : (entry.active ≡ true) × (entry.dir ≡ true)
  pub tag_is : suc entry.tag ≡ tag

module _ (image other : Image) (at i : ℕ) (nil : target ((image at).slot i) ≡ Nil) (same : (b j : ℕ) → (b ≢ at) ⊎ (j ≢ i) → (other b).slot j ≡ (image b).slot j) where
  pub slots : (a j c : ℕ) → target ((image a).slot j) ≡ Local c → (other a).slot j ≡ (image a).slot j
  slots a j c to = ⊎_elim
      (λ is_at. ⊎_elim
      (λ is_i. let none : Nil ≡ Local c = sym nil ∙ ap (λ k. target ((image at).slot k)) (sym is_i) ∙ ap (λ k. target ((image k).slot j)) (sym is_at) ∙ to in absurd (cc))
      (λ ne. same a j (inr ne))
      (cases_eq j i))
      (λ ne. same a j (inl ne))
      (cases_eq a at)

  follows : Follows (λ a q. Unit {0}) image other
  follows = record { each = λ a j c q here to. (ap target (slots a j c to) ∙ to, ap (λ x. spot_below q j x) (sym (slots a j c to)), tt) }

  pub found_beside : {b : ℕ} {p : Spot} → FoundAt active image b p → FoundAt active other b p
  found_beside f = (found_on follows tt f).0

  -- what names a source is the slot itself, or names it in the other image, too
  pub named_beside : (trail : List ℕ) (tag : ℕ) → IsNamed image trail tag → IsNamed other trail tag ⊎ IsNamedBy image at i tag
  named_beside trail tag n = ⊎_elim
      (λ is_at. ⊎_elim
      (λ is_i. inr (record { entry = n.entry; is = ap (λ k. (image at).slot k) (sym is_i) ∙ ap (λ b. (image b).slot n.slot) (sym is_at) ∙ n.is; used = n.used; tag_is = n.tag_is }))
      (λ ne. inl (there (inr ne)))
      (cases_eq n.slot i))
      (λ ne. inl (there (inl ne)))
      (cases_eq n.block at)
    where
      there : (n.block ≢ at) ⊎ (n.slot ≢ i) → IsNamed other trail tag
      there ne = record { block = n.block; at = n.at; slot = n.slot; entry = n.entry; found = found_beside n.found; holds = n.holds; within = n.within; is = same n.block n.slot ne ∙ n.is; used = n.used; trail_is = n.trail_is; tag_is = n.tag_is }

-- a pair that has not the slot is the same in the other image
pub both_beside : (image other : Image) (at i k e : ℕ) (r : Record) → (i ≡ 2 * k) ⊎ (i ≡ 2 * k + 1) → ((b j : ℕ) → (b ≢ at) ⊎ (j ≢ i) → (other b).slot j ≡ (image b).slot j) → (e ≢ at) ⊎ (r.slot % 102 ≢ k) → HasBoth e image r → HasBoth e other r
both_beside image other at i k e r which same ne h = both_on (same e (2 * (r.slot % 102)) (first ne)) (same e (2 * (r.slot % 102) + 1) (second ne)) h
  where
    first : (e ≢ at) ⊎ (r.slot % 102 ≢ k) → (e ≢ at) ⊎ (2 * (r.slot % 102) ≢ i)
    first (inl n) = inl n
    first (inr n) = inr (λ f. ⊎_elim (λ g. n (omega (arith, f, g))) (λ g. omega (arith, f, g)) which)

    second : (e ≢ at) ⊎ (r.slot % 102 ≢ k) → (e ≢ at) ⊎ (2 * (r.slot % 102) + 1 ≢ i)
    second (inl n) = inl n
    second (inr n) = inr (λ f. ⊎_elim (λ g. omega (arith, f, g)) (λ g. n (omega (arith, f, g))) which)

-- a pair is this one, or another
pub which_pair : (at k e : ℕ) (r : Record) → ((e ≡ at) × (r.slot % 102 ≡ k)) ⊎ ((e ≢ at) ⊎ (r.slot % 102 ≢ k))
which_pair at k e r = ⊎_elim (λ a. ⊎_elim (λ b. inl (a, b)) (λ ne. inr (inr ne)) (cases_eq (r.slot % 102) k)) (λ ne. inr (inl ne)) (cases_eq e at)
