-- A way, step by step.
use Rattle.std.proofs.Common.{◌≡◌, ◌+◌, ◌-◌, ◌*◌, ◌<◌, ◌≤◌, ℕ, zero, suc, true, List, [], ◌∷◌, ◌++◌, length, take, get_or, refl, sym, ap, subst, ◌∙◌, arith}
use Rattle.fo_ports.specs.State.{State, KeepsAll}
use Rattle.fo_dir_read.specs.Pairs.{LeadsWithin}
use Rattle.fo_dir_read.specs.Names.{leaf_count}
use Rattle.fo_image.specs.declared.types.Entry.{Entry}
use Rattle.fo_files_at.specs.declared.at.Step.{Step}
use Rattle.fo_files_at.specs.declared.at.Way.{Way}
use Rattle.fo_files_at.specs.declared.file.File.{File}
use Rattle.fo_files_at.specs.Held.{FileHolds}
use Rattle.fo_files_at.specs.Way.{Follows, IsStep, IsWay, first_of}

leads_stay : (a b : State) (e : Entry) → KeepsAll a b → LeadsWithin a e → LeadsWithin b e
leads_stay a b e all leads = record { few = leads.few; block = λ x to. (all.same_blocks x).1 (leads.block x to) }

-- a file that was found holds after other calls
pub file_stays : (a b : State) (f : File) → KeepsAll a b → FileHolds a f → FileHolds b f
file_stays a b f all h = record {
  named = h.named;
  first = (h.first.0, leads_stay a b f.first all h.first.1);
  second = (h.second.0, leads_stay a b f.second all h.second.1);
  stands = (all.same_blocks f.leaf).1 h.stands;
  ranked = h.ranked;
  high = h.high;
}

pub step_stays : (a b : State) (rank : ℕ) (step : Step) → KeepsAll a b → IsStep a rank step → IsStep b rank step
step_stays a b rank step all h = record { holds = file_stays a b step.dir all h.holds; ranked = h.ranked; high = h.high; is_dir = h.is_dir; within = h.within }

pub follows_stays : (a b : State) (rank : ℕ) (steps : List Step) (file : File) (trail : List ℕ) → KeepsAll a b → Follows a rank steps file trail → Follows b rank steps file trail
follows_stays a b rank [] file [] all h = (file_stays a b file all h.0, h.1)
follows_stays a b rank [] file (q ∷ trail) all h = absurd h
follows_stays a b rank (step ∷ steps) file [] all h = absurd h
follows_stays a b rank (step ∷ steps) file (q ∷ trail) all h = (step_stays a b rank step all h.0, h.1, (h.2.0, h.2.1, follows_stays a b h.2.0 steps file trail all h.2.2))

-- a way stays one after other calls
pub way_stays : (a b : State) (root : ℕ) (trail : List ℕ) (w : Way) → KeepsAll a b → IsWay a root trail w → IsWay b root trail w
way_stays a b root trail w all h = record { follows = follows_stays a b 2120 w.steps.items w.file trail all h.follows; starts = h.starts }

-- the file at the end holds
pub end_holds : (s : State) (rank : ℕ) (steps : List Step) (file : File) (trail : List ℕ) → Follows s rank steps file trail → FileHolds s file
end_holds s rank [] file [] h = h.0
end_holds s rank [] file (q ∷ trail) h = absurd h
end_holds s rank (step ∷ steps) file [] h = absurd h
end_holds s rank (step ∷ steps) file (q ∷ trail) h = end_holds s h.2.0 steps file trail h.2.2

more : (r below rank n : ℕ) → below + 32 ≡ rank → r + 32 * n ≡ below → r + 32 * suc n ≡ rank
more r below rank n is h = omega (arith, is, h)

pub end_rank : (s : State) (rank : ℕ) (steps : List Step) (file : File) (trail : List ℕ) → Follows s rank steps file trail → file.rank + 32 * length trail ≡ rank
end_rank s rank [] file [] h = omega (arith, h.1)
end_rank s rank [] file (q ∷ trail) h = absurd h
end_rank s rank (step ∷ steps) file [] h = absurd h
end_rank s rank (step ∷ steps) file (q ∷ trail) h = more file.rank h.2.0 rank (length trail) h.2.1 (end_rank s h.2.0 steps file trail h.2.2)

-- the file to which the steps go first has the rank
pub first_rank : (s : State) (rank : ℕ) (steps : List Step) (file : File) (trail : List ℕ) → Follows s rank steps file trail → (first_of steps file).rank ≡ rank
first_rank s rank [] file [] h = h.1
first_rank s rank [] file (q ∷ trail) h = absurd h
first_rank s rank (step ∷ steps) file [] h = absurd h
first_rank s rank (step ∷ steps) file (q ∷ trail) h = h.0.ranked

pub first_more : (steps : List Step) (file : File) (leaf : ℕ) (next : File) → first_of (steps ++ record { dir = file; leaf = leaf } ∷ []) next ≡ first_of steps file
first_more [] file leaf next = refl
first_more (step ∷ steps) file leaf next = refl

-- one step more
pub follows_on : (s : State) (rank : ℕ) (steps : List Step) (file : File) (trail : List ℕ) (leaf : ℕ) (next : File) (q : ℕ) → Follows s rank steps file trail
    → FileHolds s next → next.rank + 32 ≡ file.rank → 40 ≤ file.rank → file.dir ≡ true → leaf < leaf_count file.second.size → next.named.number ≡ q
    → Follows s rank (steps ++ record { dir = file; leaf = leaf } ∷ []) next (trail ++ q ∷ [])
follows_on s rank [] file [] leaf next q h holds below high dir within number = (
  record { holds = h.0; ranked = h.1; high = subst (λ r. 40 ≤ r) h.1 high; is_dir = dir; within = within },
  number,
  (next.rank, below ∙ h.1, (holds, refl)),
)
follows_on s rank [] file (p ∷ trail) leaf next q h holds below high dir within number = absurd h
follows_on s rank (step ∷ steps) file [] leaf next q h holds below high dir within number = absurd h
follows_on s rank (step ∷ steps) file (p ∷ trail) leaf next q h holds below high dir within number = (
  h.0,
  subst (λ f. f.named.number ≡ p) (sym (first_more steps file leaf next)) h.1,
  (h.2.0, h.2.1, follows_on s h.2.0 steps file trail leaf next q h.2.2 holds below high dir within number),
)

-- the last number is that of the file
last_next : (p q : ℕ) (trail : List ℕ) → get_or (p ∷ q ∷ trail) (length (p ∷ q ∷ trail) - 1) 0 ≡ get_or (q ∷ trail) (length (q ∷ trail) - 1) 0
last_next p q trail = let at : length (p ∷ q ∷ trail) - 1 ≡ suc (length (q ∷ trail) - 1) = lengths (length trail) in ap (λ n. get_or (p ∷ q ∷ trail) n 0) at
  where
    lengths : (n : ℕ) → suc (suc n) - 1 ≡ suc (suc n - 1)
    lengths n = omega arith

pub end_number : (s : State) (rank : ℕ) (steps : List Step) (file : File) (trail : List ℕ) → Follows s rank steps file trail → 0 < length trail → file.named.number ≡ get_or trail (length trail - 1) 0
end_number s rank [] file [] h some = absurd (omega (arith, some))
end_number s rank [] file (q ∷ trail) h some = absurd h
end_number s rank (step ∷ steps) file [] h some = absurd h
end_number s rank (step ∷ []) file (q ∷ []) h some = h.1
end_number s rank (step ∷ other ∷ steps) file (q ∷ []) h some = absurd h.2.2
end_number s rank (step ∷ steps) file (q ∷ p ∷ trail) h some = end_number s h.2.0 steps file (p ∷ trail) h.2.2 (omega arith) ∙ sym (last_next q p trail)

-- the way without its last step
front_next : (p q : ℕ) (trail : List ℕ) → take (length (p ∷ q ∷ trail) - 1) (p ∷ q ∷ trail) ≡ p ∷ take (length (q ∷ trail) - 1) (q ∷ trail)
front_next p q trail = let at : length (p ∷ q ∷ trail) - 1 ≡ suc (length (q ∷ trail) - 1) = lengths (length trail) in ap (λ n. take n (p ∷ q ∷ trail)) at
  where
    lengths : (n : ℕ) → suc (suc n) - 1 ≡ suc (suc n - 1)
    lengths n = omega arith

pub follows_up : (s : State) (rank : ℕ) (steps : List Step) (last : Step) (file : File) (trail : List ℕ) → Follows s rank (steps ++ last ∷ []) file trail → Follows s rank steps last.dir (take (length trail - 1) trail)
follows_up s rank [] last file [] h = absurd h
follows_up s rank [] last file (q ∷ []) h = (h.0.holds, h.0.ranked)
follows_up s rank [] last file (q ∷ p ∷ trail) h = absurd h.2.2
follows_up s rank (step ∷ steps) last file [] h = absurd h
follows_up s rank (step ∷ []) last file (q ∷ []) h = absurd h.2.2
follows_up s rank (step ∷ other ∷ steps) last file (q ∷ []) h = absurd h.2.2
follows_up s rank (step ∷ steps) last file (q ∷ p ∷ trail) h = subst (λ t. Follows s rank (step ∷ steps) last.dir t) (sym (front_next q p trail)) (
  h.0,
  subst (λ f. f.named.number ≡ q) (first_up steps) h.1,
  (h.2.0, h.2.1, follows_up s h.2.0 steps last file (p ∷ trail) h.2.2),
)
  where
    first_up : (rest : List Step) → first_of (rest ++ last ∷ []) file ≡ first_of rest last.dir
    first_up [] = refl
    first_up (x ∷ rest) = refl

pub none_up : (s : State) (rank : ℕ) (file : File) (trail : List ℕ) → Follows s rank [] file trail → Follows s rank [] file (take (length trail - 1) trail)
none_up s rank file [] h = h
none_up s rank file (q ∷ trail) h = absurd h

pub first_up : (steps : List Step) (last : Step) (file : File) → first_of (steps ++ last ∷ []) file ≡ first_of steps last.dir
first_up [] last file = refl
first_up (step ∷ steps) last file = refl

-- one step more on a way
pub way_on : (a b : State) (root : ℕ) (trail : List ℕ) (w next : Way) (leaf q : ℕ) (file : File) → KeepsAll a b → IsWay a root trail w → FileHolds b file → file.rank + 32 ≡ w.file.rank → 40 ≤ w.file.rank → w.file.dir ≡ true
    → leaf < leaf_count w.file.second.size → file.named.number ≡ q → next.file ≡ file → next.steps.items ≡ w.steps.items ++ record { dir = w.file; leaf = leaf } ∷ [] → IsWay b root (trail ++ q ∷ []) next
way_on a b root trail w next leaf q file all h holds below high dir within number is steps =
    let on = follows_on b 2120 w.steps.items w.file trail leaf file q (follows_stays a b 2120 w.steps.items w.file trail all h.follows) holds below high dir within number in
    record {
      follows = subst (λ xs. Follows b 2120 xs next.file (trail ++ q ∷ [])) (sym steps) (subst (λ f. Follows b 2120 (w.steps.items ++ record { dir = w.file; leaf = leaf } ∷ []) f (trail ++ q ∷ [])) (sym is) on);
      starts = subst (λ xs. (first_of xs next.file).leaf ≡ root) (sym steps) (ap (λ (f : File). f.leaf) (first_more w.steps.items w.file leaf next.file) ∙ h.starts);
    }

-- a way without its last step
pub way_up : (s : State) (root : ℕ) (trail : List ℕ) (w next : Way) (last : Step) → w.steps.items ≡ next.steps.items ++ last ∷ [] → next.file ≡ last.dir → IsWay s root trail w → IsWay s root (take (length trail - 1) trail) next
way_up s root trail w next last steps is h = record {
  follows = subst (λ f. Follows s 2120 next.steps.items f (take (length trail - 1) trail)) (sym is) (follows_up s 2120 next.steps.items last w.file trail (subst (λ xs. Follows s 2120 xs w.file trail) steps h.follows));
  starts = subst (λ f. (first_of next.steps.items f).leaf ≡ root) (sym is) (subst (λ f. f.leaf ≡ root) (first_up next.steps.items last w.file) (subst (λ xs. (first_of xs w.file).leaf ≡ root) steps h.starts));
}

-- the way to the root directory
pub way_none : (s : State) (root : ℕ) (trail : List ℕ) (w next : Way) → w.steps.items ≡ [] → next.steps.items ≡ [] → next.file ≡ w.file → IsWay s root trail w → IsWay s root (take (length trail - 1) trail) next
way_none s root trail w next none same is h = record {
  follows = subst (λ xs. Follows s 2120 xs next.file (take (length trail - 1) trail)) (sym same) (subst (λ f. Follows s 2120 [] f (take (length trail - 1) trail)) (sym is) (none_up s 2120 w.file trail (subst (λ xs. Follows s 2120 xs w.file trail) none h.follows)));
  starts = subst (λ xs. (first_of xs next.file).leaf ≡ root) (sym same) (subst (λ f. f.leaf ≡ root) (sym is) (subst (λ xs. (first_of xs w.file).leaf ≡ root) none h.starts));
}

-- a way of no steps
pub way_starts : (s : State) (root : ℕ) (w : Way) → FileHolds s w.file → w.file.rank ≡ 2120 → w.file.leaf ≡ root → w.steps.items ≡ [] → IsWay s root [] w
way_starts s root w holds rank leaf none = record {
  follows = subst (λ xs. Follows s 2120 xs w.file []) (sym none) (holds, rank);
  starts = subst (λ xs. (first_of xs w.file).leaf ≡ root) (sym none) leaf;
}
