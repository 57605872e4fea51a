-- How many blocks the levels of a plan leave to be written.
use Rattle.std.specs.List.{Contains}
use Rattle.std.specs.Prelude.{slice_index}
use Rattle.std.proofs.Common.{◌≡◌, ◌⊎◌, ◌+◌, ◌*◌, ◌<◌, ◌≤◌, ℕ, List, [], ◌∷◌, length, inl, inr, ⊎_elim, refl, sym, ap, subst, ◌∙◌, arith}
use Rattle.std.proofs.lemmas.Bool.{cases_eq}
use Rattle.fo_ports.specs.State.{State}
use Rattle.fo_ports.specs.Sources.{AddsDirty, Dirties, most_to_own}
use Rattle.fo_files_way.proofs.of_dirties.Putting.{dirties_at_once, first_among}
use Rattle.fo_files_way.proofs.of_dirties.Adding.{cons_counted, dirties_gives, none_counted}
use Rattle.fo_files_way.specs.declared.plan.Level.{Level}
use Rattle.fo_files_way.specs.Plan.{most_for_levels}
use Rattle.fo_files_way.specs.Owns.{IsIn, SetsAt}

-- one of the first blocks of a plan
abbrev pub IsDone : (k : ℕ) (at : List ℕ) → ℕ → Type 0
IsDone k at b = (i : ℕ) × (i ≤ k) × (slice_index at i ≡ b)

-- The levels before number k were owned, and these are left: so many blocks at most are to be written, and the plan's first are among them.
pub record Counted (all rest : List Level) (k : ℕ) (at : List ℕ) (s u : State) : Type 0 where
  pub most : ℕ
  pub few : most + 2 * most_for_levels rest ≤ 2 * most_for_levels all + 1
  pub dirties : Dirties most (IsDone k at) s u

pub counted_none : (s : State) (all : List Level) (at : List ℕ) → Counted all all 0 at s s
counted_none s all at = record {
  most = 1;
  few = omega arith;
  dirties = record {
    blocks = slice_index at 0 ∷ [];
    few = omega arith;
    within = dirties_at_once s (slice_index at 0 ∷ []);
    each = λ b h. subst (λ x. Contains (slice_index at 0 ∷ []) x) (first h.0 h.1 ∙ h.2) (first_among (slice_index at 0) []);
  };
}
  where
    first : (i : ℕ) → i ≤ 0 → slice_index at 0 ≡ slice_index at i
    first i le = let none : 0 ≡ i = omega (arith, le) in subst (λ j. slice_index at 0 ≡ slice_index at j) none refl

pub counted_next : (s m u : State) (all : List Level) (l : Level) (rest : List Level) (k leaf : ℕ) (at new : List ℕ) → l.above ≤ k → SetsAt at new (k + 1) leaf → Counted all (l ∷ rest) k at s m
    → AddsDirty (2 * most_to_own l.source.ways.tree.size l.leaf) (slice_index at l.above ∷ []) (slice_index new (k + 1)) m u → Counted all rest (k + 1) new s u
counted_next s m u all l rest k leaf at new above sets was adds =
    let joined = dirties_gives was.dirties adds (cons_counted (l.above, above, refl) none_counted) in
    record {
      most = was.most + 2 * most_to_own l.source.ways.tree.size l.leaf;
      few = let few : was.most + 2 * (most_to_own l.source.ways.tree.size l.leaf + most_for_levels rest) ≤ 2 * most_for_levels all + 1 = was.few in omega (arith, few);
      dirties = record {
        blocks = joined.blocks;
        few = joined.few;
        within = joined.within;
        each = λ b h. ⊎_elim
            (λ here. joined.each b (inl (sym h.2 ∙ ap (λ j. slice_index new j) here)))
            (λ other. joined.each b (inr (h.0, below h.0 h.1 other, sym (sets.others h.0 other) ∙ h.2)))
            (cases_eq h.0 (k + 1));
      };
    }
  where
    below : (i : ℕ) → i ≤ k + 1 → (i ≡ k + 1 → ⊥) → i ≤ k
    below i le ne = omega (arith, le, ne)

-- at the end all blocks of the plan are counted
pub counted_all : (s u : State) (all rest : List Level) (k : ℕ) (at : List ℕ) → length at ≤ k + 1 → Counted all rest k at s u → Dirties (2 * most_for_levels all + 1) (IsIn at) s u
counted_all s u all rest k at long was = record {
  blocks = was.dirties.blocks;
  few = let few = was.few in let less = was.dirties.few in omega (arith, few, less);
  within = was.dirties.within;
  each = λ b h. was.dirties.each b (h.0, last h.0 h.1, h.2);
}
  where
    last : (i : ℕ) → i < length at → i ≤ k
    last i lt = omega (arith, lt, long)
