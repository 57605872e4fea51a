-- Records, leaf by leaf.
use Rattle.std.proofs.Common.{◌≡◌, ◌⊎◌, ◌∙◌, inl, inr, ⊎_elim, ℕ, zero, suc, ◌+◌, ◌<◌, Bool, true, false, cond, List, [], ◌∷◌, ◌++◌, Option, Some, None, Result, Ok, Err, MatchResult, refl, sym, ap, subst, arith}
use Rattle.std.specs.Global.{Vec}
use Rattle.std.specs.List.{AllByRecursion, flat_map, range_with_len}
use Rattle.std.proofs.lemmas.Grind.{flat_map-append}
use Rattle.std.proofs.lemmas.List.{append_assoc, append-nil}
use Rattle.fo_image.specs.declared.record.Record.{Record}
use Rattle.fo_image.specs.Record.{RecordHolds}
use Rattle.fo_image.specs.declared.types.Pointer.{Pointer}
use Rattle.fo_image.specs.Field.{number_at}
use Rattle.fo_crash.specs.Images.{Link, meant}
use Rattle.fo_good.specs.Trees.{size_of}
use Rattle.fo_good.specs.Reading.{leaf_records, leaves_in}
use Rattle.fo_meta.specs.Leaf.{HasSpelling, IsLeaf}
use Rattle.fo_vac_open.specs.Tree.{no_image}
use Rattle.fo_vac_walk.specs.declared.error.WalkError.{WalkError}
use Rattle.fo_vac_walk.specs.declared.error.WalkError.TheVariants.{Damaged, ArenaRead, Memory}
use Rattle.fo_vac_walk.specs.Walk.{Holding, blocks_of, bytes_of, leaf_of, HasLeaf, HasNone, Spoils}
use Rattle.fo_world.specs.Tree.{comes_before}
use Rattle.fo_vac_dir.specs.Choice.{passes, better, least, chosen, AllHold, OneHolds}
use Rattle.fo_vac_dir.specs.Dir.{IsAmong, IsOneOf, Spoiled}
use Rattle.fo_vac_dir.proofs.Names.{least_snoc}

-- records that have a spelling are within the limits
pub spelled_hold : (rs : List Record) → AllByRecursion HasSpelling rs → AllHold rs
spelled_hold [] each = tt
spelled_hold (r ∷ rs) each = (each.0.holds, spelled_hold rs each.1)

-- one more of a list that comes after others
pub next_least : (test : List ℕ → ℕ → Bool) (before front : List Record) (r : Record) → least test (before ++ (front ++ r ∷ [])) ≡ chosen test (least test (before ++ front)) r
next_least test before front r = ap (least test) (sym (append_assoc before front (r ∷ []))) ∙ least_snoc test (before ++ front) r

range_snoc : (a n : ℕ) → range_with_len a (suc n) ≡ range_with_len a n ++ (a + n) ∷ []
range_snoc a zero = let e : a ≡ a + 0 = omega arith in ap (λ x. x ∷ []) e
range_snoc a (suc n) = let e : a + 1 + n ≡ a + suc n = omega arith in ap (λ xs. a ∷ xs) (range_snoc (a + 1) n ∙ ap (λ x. range_with_len (a + 1) n ++ x ∷ []) e)

-- the records of one leaf more
pub next_leaf : (f : ℕ → List Record) (n : ℕ) → flat_map f (range_with_len 0 n) ++ f n ≡ flat_map f (range_with_len 0 (suc n))
next_leaf f n =
    let e : 0 + n ≡ n = omega arith in
    sym (ap (flat_map f) (range_snoc 0 n) ∙ flat_map-append f (range_with_len 0 n) ((0 + n) ∷ []) ∙ ap (λ x. flat_map f (range_with_len 0 n) ++ x) (append-nil (f (0 + n)) ∙ ap f e))

-- what is chosen is one of those that came
pub least_one : (test : List ℕ → ℕ → Bool) (rs : List Record) → IsOneOf rs (least test rs)
least_one test [] = tt
least_one test (x ∷ rs) = by (passes test x) (least test rs) (least_one test rs)
  where
    either : (u : Bool) (b : Record) → IsAmong rs b → IsAmong (x ∷ rs) (cond u x b)
    either true b one = inl refl
    either false b one = inr one

    by : (v : Bool) (l : Option Record) → IsOneOf rs l → IsOneOf (x ∷ rs) (cond v (Some (better x l)) l)
    by true None one = inl refl
    by true (Some b) one = either (comes_before x.name b.name) b one
    by false None one = tt
    by false (Some b) one = inr one

-- ---- leaves

abbrev no_bytes : List ℕ
no_bytes = []

none_read : leaf_records no_bytes ≡ []
unfolding number_at
none_read = refl

-- a leaf that is nowhere has no records
pub none_records : (h : Holding) (leaf : Link) (block : List ℕ) → HasNone leaf block → [] ≡ leaf_records (bytes_of h leaf)
none_records h leaf block f = sym (ap (λ (p : Pointer). leaf_records ((meant (blocks_of h) no_image leaf.kind p).bytes)) f.leads ∙ none_read)

pub spoiled_by : (h : Holding) (w : Link) (holder : ℕ) (x : WalkError) → Spoils h w holder x → Spoiled h w holder x
spoiled_by h w holder (Damaged at) b = inl b
spoiled_by h w holder ArenaRead b = tt
spoiled_by h w holder Memory b = tt

pub records_given : (h : Holding) (w : Link) (holder k at : ℕ) (dir : Bool) (block : List ℕ) → k < leaves_in (size_of w.slot) → HasLeaf h w holder dir (leaf_of h w k) block at → (result : Result (Vec Record) WalkError)
    → MatchResult result (λ v. v.items ≡ leaf_records block) (λ x. (x ≡ Memory) ⊎ ((x ≡ Damaged at) × ¬ IsLeaf block))
    → MatchResult result (λ v. v.items ≡ leaf_records (bytes_of h (leaf_of h w k))) (Spoiled h w holder)
records_given h w holder k at dir block lt f (Ok v) is = is ∙ ap leaf_records f.bytes
records_given h w holder k at dir block lt f (Err x) is = ⊎_elim
    (λ memory. subst (Spoiled h w holder) (sym memory) tt)
    (λ bad. subst (Spoiled h w holder) (sym bad.0) (inr (record { k = k; within = lt; dir = dir; block = block; has = f; none = bad.1 })))
    is

-- ---- what is chosen is within the limits

pub all_snoc : (rs : List Record) (r : Record) → AllHold (rs ++ r ∷ []) → AllHold rs × RecordHolds r
all_snoc [] r all = (tt, all.0)
all_snoc (x ∷ rs) r all = let rest = all_snoc rs r all.1 in ((all.0, rest.0), rest.1)

pub chosen_holds : (test : List ℕ → ℕ → Bool) (best : Option Record) (r : Record) → OneHolds best → RecordHolds r → OneHolds (chosen test best r)
chosen_holds test None r old new = by (passes test r)
  where
    by : (p : Bool) → OneHolds (cond p (Some r) None)
    by true = new
    by false = tt
chosen_holds test (Some b) r old new = by (passes test r) (comes_before b.name r.name)
  where
    by : (p q : Bool) → OneHolds (cond p (Some (cond q b r)) (Some b))
    by true true = old
    by true false = new
    by false q = old
