-- Where pairs of entries stand.
use Rattle.std.proofs.Common.{◌≡◌, ◌+◌, ◌*◌, ◌%◌, ◌<◌, ℕ, List, [], length, get_or, sym, ap, subst, ⊎_elim, ◌∙◌, arith}
use Rattle.std.proofs.lemmas.Bool.{cases_lt}
use Rattle.fo_image.specs.declared.types.Kind.{Kind}
use Rattle.fo_image.specs.declared.types.Kind.TheVariants.{Dir, Root}
use Rattle.fo_ports.specs.State.{State}
use Rattle.fo_files_dir.specs.of_tree_open.Open.{HasEntry}
use Rattle.fo_files_way.specs.declared.plan.Plan.{Plan}
use Rattle.fo_files_way.specs.Plan.{IsPlanned, IsFirstSlot, AreBlocks}
use Rattle.fo_files_way.proofs.Going.{Going, going_all}
use Rattle.fo_files_dir.specs.Dir.{IsPairAt}
use Rattle.fo_files_plan.specs.Owned.{AreOwned}

-- all of a plan was owned
pub owned_all : (s u : State) (k : ℕ) (plan : Plan) (at tags : List ℕ) → IsPlanned s plan → Going s u k plan.levels.items [] plan.at.items at tags → AreBlocks u at → AreOwned u at
owned_all s u k plan at tags planned going blocks =
    let current = going_all s u k plan.levels.items plan.at.items at tags going in
    let has = going.has in
    let count = has.count in
    let was = planned.may.count in
    let some : 0 < length at = omega (arith, count, was) in
    record {
      some = some;
      each = λ i lt. record { is_one = blocks i lt; is_pinned = (current.held i lt).is_pinned; live = (current.held i lt).live; current = current.current i lt };
      root = (has.carries 0 (subst (λ n. 0 < n) count some)).kind ∙ planned.root;
      dirs = λ i later lt. (has.carries i (subst (λ n. i < n) count lt)).kind ∙ planned.dirs i later (subst (λ n. i < n) count lt);
      apart = λ i j first second same. going.may.differ i j first second (sym (current.held i first).tagged ∙ ap (λ x. (u.label x).tag) same ∙ (current.held j second).tagged);
    }

root_slots : (kind : Kind) (j : ℕ) → kind ≡ Root → j ≡ 0 → HasEntry kind j × HasEntry kind (j + 1)
root_slots kind j is none = (subst (λ k. HasEntry k j) (sym is) (few j none), subst (λ k. HasEntry k (j + 1)) (sym is) (next j none))
  where
    few : (n : ℕ) → n ≡ 0 → n < 2
    few n e = omega (arith, e)

    next : (n : ℕ) → n ≡ 0 → n + 1 < 2
    next n e = omega (arith, e)

leaf_slots : (kind : Kind) (j pair : ℕ) → kind ≡ Dir 0 → j ≡ 2 * (pair % 102) → HasEntry kind j × HasEntry kind (j + 1)
leaf_slots kind j pair is at = (subst (λ k. HasEntry k j) (sym is) (few j at), subst (λ k. HasEntry k (j + 1)) (sym is) (next j at))
  where
    few : (n : ℕ) → n ≡ 2 * (pair % 102) → n < 204
    few n e = omega (arith, e)

    next : (n : ℕ) → n ≡ 2 * (pair % 102) → n + 1 < 204
    next n e = omega (arith, e)

-- the pair of a file on a way that was owned
pub pair_of : (s : State) (at : List ℕ) (k pair slot : ℕ) → AreOwned s at → k < length at → IsFirstSlot k pair slot → IsPairAt s (get_or at k 0) slot
pair_of s at k pair slot owned lt first =
    let block = owned.each k lt in
    let slots : HasEntry (s.label (get_or at k 0)).kind slot × HasEntry (s.label (get_or at k 0)).kind (slot + 1) = ⊎_elim
    (λ some. leaf_slots (s.label (get_or at k 0)).kind slot pair (owned.dirs k some lt) (first.below some))
    (λ none. let is : k ≡ 0 = omega (arith, none) in root_slots (s.label (get_or at k 0)).kind slot (ap (λ n. (s.label (get_or at n 0)).kind) is ∙ owned.root) (first.root is))
    (cases_lt 0 k) in
    record { is_one = block.is_one; is_pinned = block.is_pinned; live = block.live; current = block.current; first = slots.0; second = slots.1 }
