-- The pairs on a way that was owned.
use Rattle.std.proofs.Common.{◌≡◌, ◌≢◌, ◌+◌, ◌-◌, ◌<◌, ◌≤◌, ℕ, List, length, get_or, Option, Some, None, sym, ap, subst, ◌∙◌, arith}
use Rattle.std.specs.Prelude.{MatchOption}
use Rattle.fo_image.specs.declared.types.Label.{Label}
use Rattle.fo_ports.specs.State.{State, KeepsAll, Looks}
use Rattle.fo_files_plan.specs.of_files_at.declared.at.Step.{Step}
use Rattle.fo_files_plan.specs.of_files_at.declared.at.Way.{Way}
use Rattle.fo_files_dir.specs.declared.dir.DirAt.{DirAt}
use Rattle.fo_files_dir.specs.Dir.{IsDirAt}
use Rattle.fo_files_record.specs.Leaf.{IsEntriesAt}
use Rattle.fo_files_record.specs.Own.{IsRootAt}
use Rattle.fo_files_plan.specs.Owned.{AreOwned}
use Rattle.fo_files_along.specs.Along.{AreApart, IsApart, IsStepOf, IsAboveOf}

-- a block behind the first is a leaf of entries
pub entries_at : (s : State) (at : List ℕ) (k b : ℕ) → AreOwned s at → 0 < k → k < length at → b ≡ get_or at k 0 → IsEntriesAt s b
entries_at s at k b owned later within is =
    let one = owned.each k within in
    subst (λ x. IsEntriesAt s x) (sym is) (record { is_one = one.is_one; is_pinned = one.is_pinned; live = one.live; current = one.current; leaf_kind = owned.dirs k later within })

-- a leaf of entries stays over a look
pub entries_looks : (s u : State) (e : ℕ) → KeepsAll s u → Looks s u → IsEntriesAt s e → IsEntriesAt u e
entries_looks s u e all looks is =
    let same = looks.stays.labels e (λ n. n) in
    record {
      is_one = (all.same_blocks e).1 is.is_one;
      is_pinned = (looks.stays.marks e (λ n. n)).0 is.is_pinned;
      live = ap (λ (l : Label). l.state) same ∙ is.live;
      current = ap (λ (l : Label). l.epoch) same ∙ is.current ∙ sym all.same_high;
      leaf_kind = ap (λ (l : Label). l.kind) same ∙ is.leaf_kind;
    }

-- the first is the root block
pub root_at : (s : State) (at : List ℕ) (k b : ℕ) → AreOwned s at → k ≡ 0 → b ≡ get_or at k 0 → IsRootAt s b
root_at s at k b owned none is =
    let one = owned.each 0 owned.some in
    let here : get_or at 0 0 ≡ b = ap (λ n. get_or at n 0) (sym none) ∙ sym is in
    subst (λ x. IsRootAt s x) here (record { is_one = one.is_one; is_pinned = one.is_pinned; current = one.current; root_kind = owned.root })

-- two directories on a way have two numbers
pub numbers_differ : (at : List ℕ) (steps : List Step) (k : ℕ) (a d : DirAt) → AreApart steps → 0 < k → IsStepOf at steps (k - 1) a → IsStepOf at steps k d → a.number ≢ d.number
numbers_differ at steps k a d apart some above own = λ same.
    let first : (get_or steps (k - 1) above.step).dir.named.number ≡ a.number = ap (λ (x : Step). x.dir.named.number) (sym above.step_is) ∙ sym above.pair.number_is in
    let second : d.number ≡ (get_or steps k own.step).dir.named.number = own.pair.number_is ∙ ap (λ (x : Step). x.dir.named.number) own.step_is in
    let is : k - 1 ≡ k = apart (k - 1) k above.step own.step above.within own.within (first ∙ same ∙ second) in
    omega (arith, is, some)

-- so has the directory at its end, and the one above it
pub end_differs : (at : List ℕ) (w : Way) (k number : ℕ) (a : DirAt) → IsApart w → k ≡ length w.steps.items → 0 < k → IsStepOf at w.steps.items (k - 1) a → number ≡ w.file.named.number → a.number ≢ number
end_differs at w k number a apart end some above is = λ same. apart (k - 1) above.step (omega (arith, end, some)) (ap (λ (x : Step). x.dir.named.number) (sym above.step_is) ∙ sym above.pair.number_is ∙ same ∙ is)

-- what stands above file k of a way that was owned
pub above_stands : (s : State) (at : List ℕ) (steps : List Step) (k b number : ℕ) (above : Option DirAt) → AreOwned s at → length at ≡ length steps + 1 → k ≤ length steps → b ≡ get_or at k 0
    → MatchOption above (k ≡ 0) (λ a. IsDirAt s a) → IsAboveOf at steps k above → ((a : DirAt) → 0 < k → IsStepOf at steps (k - 1) a → a.number ≢ number) → MatchOption above (IsRootAt s b) (λ a. IsDirAt s a × IsEntriesAt s b × (a.number ≢ number))
above_stands s at steps k b number None owned count within is holds one differ = root_at s at k b owned one is
above_stands s at steps k b number (Some a) owned count within is holds one differ = (holds, entries_at s at k b owned one.0 (omega (arith, count, within)) is, differ a one.0 one.1)
