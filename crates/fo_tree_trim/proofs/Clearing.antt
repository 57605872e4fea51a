-- Nothing stands behind a way, level by level.
use Rattle.std.proofs.Common.{◌≡◌, ◌+◌, ◌*◌, ◌/◌, ◌%◌, ◌^◌, ◌<◌, ℕ, zero, suc, List, inl, inr, ⊎_elim, sym, ◌∙◌, ap, subst, refl, arith}
use Rattle.std.proofs.lemmas.Bool.{cases_eq}
use Rattle.std.proofs.Math.Nat.{pow-succ'}
use Rattle.fo_image.specs.declared.types.Pointer.{Pointer}
use Rattle.fo_image.specs.declared.types.Pointer.TheVariants.{Nil}
use Rattle.fo_ports.specs.State.{State}
use Rattle.fo_tree_read.specs.declared.tree.Tree.{Tree}
use Rattle.fo_tree_read.specs.Tree.{kind_down, below, block_at}
use Rattle.fo_tree_look.specs.declared.ways.Kept.{Kept}
use Rattle.fo_tree_look.specs.Source.{seen}
use Rattle.fo_tree_down.proofs.Beside.{index_last}
use Rattle.fo_tree_trim.specs.Behind.{IsClearTo}

-- No slot behind slot i of the block that a pointer names leads anywhere.
abbrev pub IsClearIn : State → Tree → List Kept → ℕ → Pointer → ℕ → Type 0
IsClearIn s t kept n p i = (j : ℕ) → i < j → j < 409 → below (seen s kept) (kind_down t n) p j ≡ Nil

module _ (s : State) (t : Tree) (kept : List Kept) where
  pub clear_top : (k : ℕ) → IsClearTo s t kept zero k
  clear_top k m a b is lt few =
      let level = is.0 in
      let one : 409 ^ m ≡ 1 = ap (λ x. 409 ^ x) level in
      absurd (omega (arith, lt, few, one))

  pub clear_down : (n k : ℕ) → IsClearTo s t kept n (k / 409) → IsClearIn s t kept n (block_at (seen s kept) t n (k / 409)) (k % 409) → IsClearTo s t kept (suc n) k
  clear_down n k above inside m a b is lt few = ⊎_elim
      (λ here.
      let level = here.0 in
      let index = here.1 in
      let more : 409 ^ suc n ≡ 409 * 409 ^ n = pow-succ' 409 n in
      let size : 409 ^ m ≡ 409 ^ suc n = ap (λ x. 409 ^ x) level in
      let room : b / 409 < 409 ^ n = omega (arith, few, more, size) in
      subst (λ x. block_at (seen s kept) t x b ≡ Nil) (sym level) (⊎_elim
      (λ same. ap (λ y. below (seen s kept) (kind_down t n) (block_at (seen s kept) t n y) (b % 409)) (sym same) ∙ inside (b % 409) (omega (arith, lt, index, same)) (omega arith))
      (λ ne. ap (λ (p : Pointer). below (seen s kept) (kind_down t n) p (b % 409)) (above n (k / 409) (b / 409) (index_last n (k / 409)) (omega (arith, lt, index, ne)) room))
      (cases_eq (k / 409) (b / 409))))
      (λ up. above m a b up lt few)
      is

  pub clear_up : (n k : ℕ) → IsClearTo s t kept (suc n) k → IsClearTo s t kept n (k / 409)
  clear_up n k clear m a b is lt few = clear m a b (inr is) lt few

  pub clear_in : (n k j : ℕ) → k < 409 ^ suc n → IsClearTo s t kept (suc n) k → k % 409 < j → j < 409 → below (seen s kept) (kind_down t n) (block_at (seen s kept) t n (k / 409)) j ≡ Nil
  clear_in n k j few clear lt le =
      let b : ℕ = 409 * (k / 409) + j in
      let more : 409 ^ suc n ≡ 409 * 409 ^ n = pow-succ' 409 n in
      let up : (409 * (k / 409) + j) / 409 ≡ k / 409 = omega (arith, le) in
      let rest : (409 * (k / 409) + j) % 409 ≡ j = omega (arith, le) in
      sym (ap (λ y. below (seen s kept) (kind_down t n) (block_at (seen s kept) t n y) j) up)
      ∙ sym (ap (λ y. below (seen s kept) (kind_down t n) (block_at (seen s kept) t n ((409 * (k / 409) + j) / 409)) y) rest)
      ∙ clear (suc n) k (409 * (k / 409) + j) (inl (refl, refl)) (omega (arith, lt, le)) (omega (arith, few, more, le))
