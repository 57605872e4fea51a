-- A plan goes along a way, step by step.
use Rattle.std.proofs.Common.{◌≡◌, ◌⊎◌, ◌+◌, ◌-◌, ◌<◌, ◌≤◌, ◌++◌, ℕ, zero, suc, List, [], ◌∷◌, length, length-drop, get_or, take, drop, inl, inr, ⊎_elim, refl, sym, ap, subst, ◌∙◌, arith}
use Rattle.std.proofs.lemmas.List.{drop_more, drop_all, take_all}
use Rattle.std.specs.Prelude.{Result, Ok, Err, IfOk, IfErr}
use Rattle.fo_base.specs.Cause.{Rose}
use Rattle.fo_image.specs.declared.types.Kind.TheVariants.{Root}
use Rattle.fo_ports.specs.State.{State, KeepsAll}
use Rattle.fo_ports.specs.declared.error.BlockError.{BlockError}
use Rattle.fo_ports.specs.declared.error.BlockError.TheVariants.{Full, Damaged, Fault, Arena, Memory}
use Rattle.fo_ports.specs.Causes.{Caused}
use Rattle.fo_files_way.proofs.of_looks.Looks.{rose_later}
use Rattle.fo_files_way.specs.of_files_at.declared.at.Step.{Step}
use Rattle.fo_files_way.specs.of_files_at.declared.at.Way.{Way}
use Rattle.fo_files_way.specs.of_files_at.declared.file.File.{File}
use Rattle.fo_files_way.specs.of_files_at.Held.{FileHolds}
use Rattle.fo_files_way.specs.of_files_at.Way.{Follows, IsStep, IsWay, first_of}
use Rattle.fo_files_way.proofs.of_files_at.Ways.{first_up}
use Rattle.fo_files_way.specs.declared.plan.Level.{Level}
use Rattle.fo_files_way.specs.declared.plan.Plan.{Plan}
use Rattle.fo_files_way.specs.Plan.{MayOwnAll, AreBlocks, IsPlanned, IsEntries, AddsWanted, most_for_levels}
use Rattle.fo_files_way.specs.Owns.{IsFreeOf}
use Rattle.fo_files_plan.specs.Along.{IsLeafOf, AreLeavesOf, IsAlong}

-- a step of a way
pub step_in : (s : State) (rank : ℕ) (steps : List Step) (file : File) (trail : List ℕ) (k : ℕ) (d : Step) → k < length steps → Follows s rank steps file trail → (r : ℕ) × IsStep s r (get_or steps k d)
step_in s rank [] file trail k d lt h = absurd (omega (arith, lt))
step_in s rank (step ∷ steps) file [] k d lt h = absurd h
step_in s rank (step ∷ steps) file (q ∷ trail) zero d lt h = (rank, h.0)
step_in s rank (step ∷ steps) file (q ∷ trail) (suc k) d lt h = step_in s h.2.0 steps file trail k d (omega (arith, lt)) h.2.2

-- the file to which it goes first holds
pub first_holds : (s : State) (rank : ℕ) (steps : List Step) (file : File) (trail : List ℕ) → Follows s rank steps file trail → FileHolds s (first_of steps file)
first_holds s rank [] file [] h = h.0
first_holds s rank [] file (q ∷ trail) h = absurd h
first_holds s rank (step ∷ steps) file [] h = absurd h
first_holds s rank (step ∷ steps) file (q ∷ trail) h = h.0.holds

-- as many steps as numbers
pub steps_count : (s : State) (rank : ℕ) (steps : List Step) (file : File) (trail : List ℕ) → Follows s rank steps file trail → length steps ≡ length trail
steps_count s rank [] file [] h = refl
steps_count s rank [] file (q ∷ trail) h = absurd h
steps_count s rank (step ∷ steps) file [] h = absurd h
steps_count s rank (step ∷ steps) file (q ∷ trail) h = let more = steps_count s h.2.0 steps file trail h.2.2 in omega (arith, more)

-- where the steps behind the first so many go first
pub first_here : (steps : List Step) (file : File) (k : ℕ) (d : Step) → k < length steps → first_of (drop k steps) file ≡ (get_or steps k d).dir
first_here steps file k d lt = ap (λ xs. first_of xs file) (drop_more steps k d lt)

pub first_end : (steps : List Step) (file : File) (k : ℕ) → length steps ≤ k → first_of (drop k steps) file ≡ file
first_end steps file k le = ap (λ xs. first_of xs file) (drop_all k steps le)

pub count_more : (steps : List Step) (step : Step) → length (steps ++ step ∷ []) ≡ length steps + 1
count_more [] step = refl
count_more (y ∷ steps) step = let more = count_more steps step in omega (arith, more)

-- one leaf more
pub leaves_more : (k : ℕ) (steps : List Step) (step : Step) (next : File) (levels : List Level) (l : Level) → AreLeavesOf k steps step.dir levels → IsLeafOf (k + length steps) step.dir next.named.slot l → AreLeavesOf k (steps ++ step ∷ []) next (levels ++ l ∷ [])
leaves_more k [] step next [] l h is = (subst (λ n. IsLeafOf n step.dir next.named.slot l) (sum k) is, tt)
  where
    sum : (n : ℕ) → n + 0 ≡ n
    sum n = omega arith
leaves_more k [] step next (x ∷ levels) l h is = absurd h
leaves_more k (y ∷ steps) step next [] l h is = absurd h
leaves_more k (y ∷ steps) step next (x ∷ levels) l h is = (
  subst (λ (f : File). IsLeafOf k y.dir f.named.slot x) (sym (first_up steps step next)) h.0,
  leaves_more (k + 1) steps step next levels l h.1 (subst (λ n. IsLeafOf n step.dir next.named.slot l) (sum k (length steps)) is),
)
  where
    sum : (n m : ℕ) → n + suc m ≡ n + 1 + m
    sum n m = omega arith

-- no entry of these stands behind them
pub leaves_free : (k : ℕ) (steps : List Step) (file : File) (levels : List Level) (n j : ℕ) → k + length steps ≤ n → AreLeavesOf k steps file levels → IsFreeOf levels n j
leaves_free k [] file [] n j le h = tt
leaves_free k [] file (x ∷ levels) n j le h = absurd h
leaves_free k (y ∷ steps) file [] n j le h = absurd h
leaves_free k (y ∷ steps) file (x ∷ levels) n j le h = (
  λ both. let is : x.above ≡ k = h.0.2.above ∙ h.0.1.above_is in let here = both.0 in omega (arith, is, here, le),
  leaves_free (k + 1) steps file levels n j (omega (arith, le)) h.1,
)

-- a plan of no step
pub along_none : (s : State) (root : ℕ) (file : File) (p : Plan) → MayOwnAll s 0 p.at.items p.tags.items p.levels.items → AreBlocks s p.at.items → (p.at.items ≡ root ∷ []) × (p.levels.items ≡ []) → (s.label root).kind ≡ Root → root ≡ file.leaf → IsAlong s [] file p
along_none s root file p may blocks is kind leaf =
    let here : get_or p.at.items 0 0 ≡ root = ap (λ xs. get_or xs 0 0) is.0 in
    let one : length p.at.items ≡ 1 = ap (λ xs. length xs) is.0 in
    record {
      planned = record {
        may = may;
        blocks = blocks;
        root = ap (λ x. (s.label x).kind) here ∙ kind;
        dirs = λ i later lt. absurd (omega (arith, later, lt, one));
      };
      count = one;
      root = here ∙ leaf;
      leaves = subst (λ xs. AreLeavesOf 0 [] file xs) (sym is.1) tt;
      free = λ j. subst (λ xs. IsFreeOf xs 0 j) (sym is.1) tt;
      most = subst (λ xs. most_for_levels xs ≤ 0) (sym is.1) (omega arith);
    }

-- and of one step more
pub along_more : (s u : State) (done : List Step) (step : Step) (next : File) (plan p : Plan) → IsAlong s done step.dir plan → IsPlanned u p → (length p.at.items ≡ length plan.at.items + 1) × (get_or p.at.items 0 0 ≡ get_or plan.at.items 0 0)
    → AddsWanted (IsEntries (length plan.at.items - 1) step.dir next.named.slot) plan.levels.items p.levels.items → most_for_levels p.levels.items ≤ most_for_levels plan.levels.items + 5 → IsAlong u (done ++ step ∷ []) next p
along_more s u done step next plan p was planned more adds most =
    let count = was.count in
    let longer = more.0 in
    let steps = count_more done step in
    let few = was.most in
    let above : length plan.at.items - 1 ≡ 0 + length done = omega (arith, count) in
    let leaf : IsLeafOf (0 + length done) step.dir next.named.slot adds.2.level = (adds.0, subst (λ n. IsEntries n step.dir next.named.slot adds.0) above adds.1, adds.2.fulfils) in
    let leaves : AreLeavesOf 0 (done ++ step ∷ []) next p.levels.items = subst (λ xs. AreLeavesOf 0 (done ++ step ∷ []) next xs) (sym adds.2.is) (leaves_more 0 done step next plan.levels.items adds.2.level was.leaves leaf) in
    record {
      planned = planned;
      count = omega (arith, count, longer, steps);
      root = more.1 ∙ was.root ∙ sym (ap (λ (f : File). f.leaf) (first_up done step next));
      leaves = leaves;
      free = λ j. leaves_free 0 (done ++ step ∷ []) next p.levels.items (length (done ++ step ∷ [])) j (omega arith) leaves;
      most = omega (arith, few, most, steps);
    }

pub along_with : (s u : State) (step : Step) (next : File) (plan : Plan) (r : Result Plan BlockError) → IfOk r (IsPlanned u) → IfOk r (λ p. (length p.at.items ≡ length plan.at.items + 1) × (get_or p.at.items 0 0 ≡ get_or plan.at.items 0 0))
    → IfOk r (λ p. AddsWanted (IsEntries (length plan.at.items - 1) step.dir next.named.slot) plan.levels.items p.levels.items) → IfOk r (λ p. most_for_levels p.levels.items ≤ most_for_levels plan.levels.items + 5)
    → IfOk r (λ p. (done : List Step) → IsAlong s done step.dir plan → IsAlong u (done ++ step ∷ []) next p)
along_with s u step next plan (Ok p) planned more adds most = λ done was. along_more s u done step next plan p was planned more adds most
along_with s u step next plan (Err why) planned more adds most = tt

-- what it says of the trail
pub along_trail : (s u : State) (w : Way) (r : Result Plan BlockError) → IfOk r (IsAlong u w.steps.items w.file) → IfOk r (λ p. (root : ℕ) (trail : List ℕ) → IsWay s root trail w → (length p.at.items ≡ length trail + 1) × (get_or p.at.items 0 0 ≡ root))
along_trail s u w (Ok p) is = λ root trail way. let count = is.count in let steps = steps_count s 2120 w.steps.items w.file trail way.follows in (omega (arith, count, steps), is.root ∙ way.starts)
along_trail s u w (Err why) is = tt

-- the cause of a refusal, said of where a call before it began
pub caused_since : (a b c : State) → KeepsAll a b → (why : BlockError) → Caused ⊥ (λ x. b.is_block x ⊎ (x ≡ 1)) (Rose b.faults c.faults) (Rose b.arena_faults c.arena_faults) why
    → Caused ⊥ (λ x. a.is_block x ⊎ (x ≡ 1)) (Rose a.faults c.faults) (Rose a.arena_faults c.arena_faults) why
caused_since a b c all Full cause = cause
caused_since a b c all (Damaged x) cause = ⊎_elim (λ block. inl ((all.same_blocks x).0 block)) (λ one. inr one) cause
caused_since a b c all (Fault which) cause = rose_later a.faults b.faults c.faults all.more_faults cause
caused_since a b c all (Arena which) cause = rose_later a.arena_faults b.arena_faults c.arena_faults all.more_arena_faults cause
caused_since a b c all Memory cause = cause

pub refused_since : (a b c : State) → KeepsAll a b → (r : Result Plan BlockError) → IfErr r (Caused ⊥ (λ x. b.is_block x ⊎ (x ≡ 1)) (Rose b.faults c.faults) (Rose b.arena_faults c.arena_faults)) → IfErr r (Caused ⊥ (λ x. a.is_block x ⊎ (x ≡ 1)) (Rose a.faults c.faults) (Rose a.arena_faults c.arena_faults))
refused_since a b c all (Ok p) cause = cause
refused_since a b c all (Err why) cause = caused_since a b c all why cause

-- the end of a slice
pub slice_end : (xs ys : List Step) (n : ℕ) → xs ≡ ys → take (length xs - n) (drop n xs) ≡ drop n ys
slice_end xs ys n is = take_all (length xs - n) (drop n xs) (let long = length-drop n xs in omega (arith, long)) ∙ ap (λ z. drop n z) is
