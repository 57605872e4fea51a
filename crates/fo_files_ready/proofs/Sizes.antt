-- What leaves of a directory's records take, by how long these are.
use Rattle.std.proofs.Common.{◌≡◌, ◌+◌, ◌*◌, ◌^◌, ◌<◌, ◌≤◌, ℕ, Bool, true, false, cond, nat_le, [], ◌∷◌, sym, ap, subst, ◌∙◌, arith}
use Rattle.std.proofs.lemmas.Bool.{le-leb}
use Rattle.fo_crash.specs.declared.slot.Slot.{Slot}
use Rattle.fo_ports.specs.State.{State, Looks}
use Rattle.fo_ports.specs.Sources.{most_to_own, way_for, AddsDirty}
use Rattle.fo_files_dir.specs.declared.dir.DirAt.{DirAt}
use Rattle.fo_files_dir.specs.Dir.{IsDirAt}
use Rattle.fo_files_ready.specs.Ready.{most_spare, records_size, size_in}

cond_true : {T : Type 0} (b : Bool) (x y : T) → b ≡ true → cond b x y ≡ x
cond_true b x y e = ap (λ c. cond c x y) e

-- a leaf that is there takes its way
pub there : (size i : ℕ) → 8192 * (i + 1) ≤ size → most_to_own size i ≡ way_for size
there size i le = cond_true (nat_le (8192 * (i + 1)) size) (way_for size) (2 * way_for (8192 * (i + 1))) (le-leb (8192 * (i + 1)) size le)

pub took_way : (is size i old mid new : ℕ) → is ≡ size → 8192 * (i + 1) ≤ size → mid ≡ old → mid ≤ new + most_to_own size i → old ≤ new + way_for is
took_way is size i old mid new told le same took =
    let took_there = subst (λ n. mid ≤ new + n) (there size i le ∙ sym (ap (λ n. way_for n) told)) took in subst (λ n. n ≤ new + way_for is) same took_there

pub dirties_way : (is size i at leaf : ℕ) (m u : State) → is ≡ size → 8192 * (i + 1) ≤ size → AddsDirty (2 * most_to_own size i) (at ∷ []) leaf m u → AddsDirty (2 * way_for is) (at ∷ []) leaf m u
dirties_way is size i at leaf m u told le adds = subst (λ n. AddsDirty (2 * n) (at ∷ []) leaf m u) (there size i le ∙ sym (ap (λ n. way_for n) told)) adds

-- a way is one of five blocks at most
pub way_five : (size : ℕ) → way_for size ≤ 5
way_five size = by (nat_le size 8192) (nat_le size (8192 * 409)) (nat_le size (8192 * 409 ^ 2)) (nat_le size (8192 * 409 ^ 3))
  where
    by : (a b c d : Bool) → cond a 0 (cond b 1 (cond c 2 (cond d 3 4))) + 1 ≤ 5
    by true b c d = omega arith
    by false true c d = omega arith
    by false false true d = omega arith
    by false false false true = omega arith
    by false false false false = omega arith

-- the way to a leaf that is there, and then another leaf: three and eight, or five and six
pub eleven : (size : ℕ) → way_for size + most_spare size ≤ 11
eleven size = by (nat_le size 8192) (nat_le size (8192 * 409)) (nat_le size (8192 * 409 ^ 2)) (nat_le size (8192 * 409 ^ 3))
  where
    by : (a b c d : Bool) → (cond a 0 (cond b 1 (cond c 2 (cond d 3 4))) + 1) + cond c 8 6 ≤ 11
    by true b true d = omega arith
    by true b false d = omega arith
    by false true true d = omega arith
    by false true false d = omega arith
    by false false true d = omega arith
    by false false false true = omega arith
    by false false false false = omega arith

pub way_few : (size : ℕ) → 2 * way_for size ≤ 22
way_few size = let five = way_five size in omega (arith, five)

pub spare_six : (size : ℕ) → 6 ≤ most_spare size
spare_six size = by (nat_le size (8192 * 409 ^ 2))
  where
    by : (c : Bool) → 6 ≤ cond c 8 6
    by true = omega arith
    by false = omega arith

-- where one of the first leaves isn't there, two levels lead to all
pub spare_eight : (size i : ℕ) → i < 409 ^ 2 → size < 8192 * (i + 1) → most_spare size ≡ 8
spare_eight size i few lacks = cond_true (nat_le size (8192 * 409 ^ 2)) 8 6 (le-leb size (8192 * 409 ^ 2) (omega (arith, few, lacks)))

-- what another leaf may take, after the way to one
pub left_spare : (was is old mid new : ℕ) → is ≡ was → 11 ≤ old → old ≤ mid + way_for was → new ≡ mid → most_spare is ≤ new
left_spare was is old mid new told enough took same =
    let sum = eleven was in subst (λ n. most_spare n ≤ new) (sym told) (omega (arith, sum, enough, took, same))

pub took_both : (was is old mid then new : ℕ) → is ≡ was → old ≤ mid + way_for was → then ≡ mid → then ≤ new + most_spare is → old ≤ new + 11
took_both was is old mid then new told took same last =
    let sum = eleven was in let more = subst (λ n. then ≤ new + most_spare n) told last in omega (arith, sum, took, same, more)

pub few_both : (was is : ℕ) → is ≡ was → 2 * way_for was + 2 * most_spare is ≤ 22
few_both was is told = let sum = eleven was in subst (λ n. 2 * way_for was + 2 * most_spare n ≤ 22) (sym told) (omega (arith, sum))

-- a look leaves the entry
pub size_kept : (m n : State) (d : DirAt) → IsDirAt m d → Looks m n → records_size n d ≡ records_size m d
size_kept m n d is looks = ap (λ (z : Slot). size_in z) ((looks.known d.at is.pair.is_pinned).slots (d.slot + 1))
