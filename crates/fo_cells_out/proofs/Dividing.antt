-- The tree, what was made, the parent fact and the removals, kept together over each step.
use Rattle.std.proofs.Common.{◌≡◌, ◌⊎◌, inl, inr, ⊎_elim, ℕ, List, [], ◌∷◌, ◌++◌, refl, sym, ◌∙◌, ap, subst}
use Rattle.std.specs.List.{Contains}
use Rattle.fo_image.specs.declared.types.Label.{Label}
use Rattle.fo_image.specs.declared.types.Pointer.TheVariants.{Local}
use Rattle.fo_crash.specs.declared.slot.Slot.{Slot}
use Rattle.fo_crash.specs.declared.place.Place.{Place}
use Rattle.fo_crash.specs.Images.{Content, target}
use Rattle.fo_cells.specs.Known.{Known, MaySlot, Stands}
use Rattle.fo_cells_out.specs.Removals.{Pending, IsCovered}
use Rattle.fo_cells_out.specs.Parents.{Tree, Points, Parents, Moves, Stays, making, AllLeaving, blocks_of, Removes, Replaces, IsDivided}
use Rattle.fo_cells.specs.Writes.{Relabels, Gives}
use Rattle.fo_cells.proofs.Standing.{first_among, next_among, among_cases}
use Rattle.fo_cells_out.proofs.Queue.{Passes, behind_still, first_nowhere, close_next, among_left, among_right, among_either, nothing_among}
use Rattle.fo_cells_out.proofs.Parents.{parents_still, append_behind}
use Rattle.fo_cells_out.proofs.Steps.{relabel_stays, tree_still, forest_still, filled_tree, filled_forest, filled_parents, give_tree, give_forest, give_parents, behind_given}
use Rattle.fo_cells_out.proofs.Takeout.{removed_tree, removed_forest, removed_keeps, removed_behind, replaced_tree, replaced_forest, replaced_keeps, replaced_behind}

-- what removals have left is listed
pub listed_one : (queue : List Pending) (b : ℕ) → IsCovered queue b → Contains (blocks_of queue) b
listed_one [] b c = absurd c
listed_one (r ∷ rs) b c = ⊎_elim (λ own. among_left r.blocks (blocks_of rs) b own) (λ more. among_right r.blocks (blocks_of rs) b (listed_one rs b more)) c

pub covered_one : (queue : List Pending) (b : ℕ) → Contains (blocks_of queue) b → IsCovered queue b
covered_one [] b h = absurd (nothing_among b h)
covered_one (r ∷ rs) b h = ⊎_elim (λ own. inl own) (λ more. inr (covered_one rs b more)) (among_either r.blocks (blocks_of rs) b h)

pub covered_either : (queue rs : List Pending) (b : ℕ) → IsCovered (queue ++ rs) b → IsCovered queue b ⊎ IsCovered rs b
covered_either [] rs b c = inr c
covered_either (r ∷ queue) rs b c = ⊎_elim (λ own. inl (inl own)) (λ more. ⊎_elim (λ x. inl (inr x)) (λ y. inr y) (covered_either queue rs b more)) c

pub covered_left : (queue rs : List Pending) (b : ℕ) → IsCovered queue b → IsCovered (queue ++ rs) b
covered_left [] rs b c = absurd c
covered_left (r ∷ queue) rs b c = ⊎_elim (λ own. inl own) (λ more. inr (covered_left queue rs b more)) c

pub covered_right : (queue rs : List Pending) (b : ℕ) → IsCovered rs b → IsCovered (queue ++ rs) b
covered_right [] rs b c = c
covered_right (r ∷ queue) rs b c = inr (covered_right queue rs b c)

-- more removals are listed, and what they have is covered
pub more_listed : (before : List ℕ) (queue rs : List Pending) (b : ℕ) → Contains (before ++ blocks_of queue) b ⊎ IsCovered rs b → Contains (before ++ blocks_of (queue ++ rs)) b
more_listed before queue rs b h = ⊎_elim
    (λ was. ⊎_elim
    (λ x. among_left before (blocks_of (queue ++ rs)) b x)
    (λ y. among_right before (blocks_of (queue ++ rs)) b (listed_one (queue ++ rs) b (covered_left queue rs b (covered_one queue b y))))
    (among_either before (blocks_of queue) b was))
    (λ own. among_right before (blocks_of (queue ++ rs)) b (listed_one (queue ++ rs) b (covered_right queue rs b own)))
    h

pub less_covered : (before : List ℕ) (queue rs : List Pending) (b : ℕ) → Contains before b ⊎ IsCovered (queue ++ rs) b → (Contains before b ⊎ IsCovered queue b) ⊎ IsCovered rs b
less_covered before queue rs b h = ⊎_elim
    (λ x. inl (inl x))
    (λ c. ⊎_elim (λ y. inl (inr y)) (λ own. inr own) (covered_either queue rs b c))
    h

-- One slot moves, and where it leads is not covered: the removals of before stay behind.
pub moves_pass : {at i : ℕ} {s : Slot} {old new : Known} (queue : List Pending) → Moves at i s old new → ((b : ℕ) → target s ≡ Local b → IsCovered queue b → ⊥) → Passes queue old new
moves_pass {at} {i} {s} {old} {new} queue m out = record {
  stands = m.stands;
  may = λ a j x p b st may e c. ⊎_elim (λ was. was) (λ n. absurd (out b (ap target (sym n.2) ∙ e) c)) (m.may a j x may);
  memory = λ a j b e c. ⊎_elim
      (λ k. absurd (out b (ap target (sym m.here) ∙ ap (λ y. target ((new.memory y).slot i)) (sym k.0) ∙ ap (λ n. target ((new.memory a).slot n)) (sym k.1) ∙ e) c))
      (λ ne. ap target (sym (m.others a j ne)) ∙ e)
      (Rattle.fo_cells_out.proofs.Takeout.cell at i a j);
  tops = λ x h c. m.tops x h;
}

still_pass : {old new : Known} (t : Tree) (queue : List Pending) → Stays old new t → Passes queue old new
still_pass {old} {new} t queue k = record {
  stands = k.stands;
  may = λ a j x p b st m e c. k.may a j b x m e;
  memory = λ a j b e c. ap target (sym (k.slots a j)) ∙ e;
  tops = λ y h c. k.tops y h;
}

-- REPLACED, GAINED, LOST
pub replaced_divided : {at i : ℕ} {s : Slot} {old new : Known} {t u : Tree} {Copy_of : ℕ → ℕ → Type 0} {Gone Lost Turns : ℕ → Type 0} {From : ℕ → ℕ → ℕ → Type 0} (before : List ℕ) (queue rs : List Pending) → Replaces at i s old new t u Copy_of Gone Lost Turns From → IsDivided old t before queue → AllLeaving s old new t (before ++ blocks_of queue) rs → ((b : ℕ) → u.Covered b → t.Covered b ⊎ IsCovered rs b) → ((b : ℕ) → IsCovered rs b → u.Covered b) → IsDivided new u before (queue ++ rs)
replaced_divided {at} {i} {s} {old} {new} {t} {u} before queue rs r d l listed cover =
    let tree = replaced_tree r d.tree d.forest in record {
      tree = tree;
      forest = replaced_forest r d.tree d.forest;
      parents = replaced_keeps r d.tree d.forest d.parents;
      behind = append_behind new queue rs before (before ++ blocks_of queue) (λ b h. among_either before (blocks_of queue) b h)
          (behind_still queue queue before (λ b c. c) (moves_pass queue r.moves (λ b e c. tree.gone b (r.cover b (inl (d.covered b (inr c)))) (r.put b e).0)) d.behind)
          (replaced_behind r d.tree d.forest d.parents rs (before ++ blocks_of queue) d.listed l);
      listed = λ b c. more_listed before queue rs b (⊎_elim (λ was. inl (d.listed b was)) (λ own. inr own) (listed b c));
      covered = λ b c. ⊎_elim (λ was. r.cover b (inl (d.covered b was))) (λ own. cover b own) (less_covered before queue rs b c);
    }

-- REMOVED
pub removed_divided : {at i : ℕ} {s : Slot} {old new : Known} {t u : Tree} {x : ℕ} {Leaves : ℕ → Type 0} {blocks : List ℕ} (before : List ℕ) (queue : List Pending) → Removes at i s old new t u x Leaves blocks → IsDivided old t before queue → IsDivided new u before (queue ++ record { blocks = blocks; after = at } ∷ [])
removed_divided {at} {i} {s} {old} {new} {t} {u} {x} {Leaves} {blocks} before queue r d =
    let one : List Pending = record { blocks = blocks; after = at } ∷ [] in record {
      tree = removed_tree r d.tree;
      forest = removed_forest r d.tree d.forest;
      parents = removed_keeps r d.tree d.parents;
      behind = append_behind new queue one before (before ++ blocks_of queue) (λ b h. among_either before (blocks_of queue) b h)
          (behind_still queue queue before (λ b c. c) (moves_pass queue r.moves (λ b e c. r.nowhere b e)) d.behind)
          (removed_behind r d.tree d.parents (before ++ blocks_of queue) d.listed);
      listed = λ b c. more_listed before queue one b (⊎_elim (λ was. inl (d.listed b was)) (λ own. inr (inl own)) (r.covered b c));
      covered = λ b c. ⊎_elim (λ was. r.cover b (inl (d.covered b was))) (λ own. r.cover b (inr (⊎_elim (λ is. is) (λ none. absurd none) own))) (less_covered before queue one b c);
    }

-- ALL SETTLED: every slot that may be there is memory's, so that all blocks may become older ones, as when a snapshot begins.
pub settled_parents : {k : Known} (t : Tree) (Older : ℕ → Type 0) → ((a i : ℕ) (s : Slot) → MaySlot k a i s → s ≡ (k.memory a).slot i) → Parents k t → Parents k (record t { Older = Older })
settled_parents {k} t Older settled h = record {
  tree = λ a i b s p st may e w. ⊎_elim
      (λ x. inl (record { within = x.within; levels = 0; over = (i, ap target (sym (settled a i s may)) ∙ e); older = λ _. refl }))
      (λ y. inr y)
      (h.tree a i b s p st may e w);
  made = h.made;
  unwritten = h.unwritten;
}

-- A WRITE, A SYNC, THE END OF A WAIT, OTHER BYTES, A SLOT THAT BEGINS TO WAIT
pub still_divided : {old new : Known} (t : Tree) (before : List ℕ) (queue : List Pending) → Stays old new t → IsDivided old t before queue → IsDivided new t before queue
still_divided {old} {new} t before queue k d = record {
  tree = tree_still t t.Covered k (λ a c. c) d.tree;
  forest = forest_still t t.Covered k (λ a c. c) d.forest;
  parents = parents_still t t.Covered k (λ a p st c. c) d.parents;
  behind = behind_still queue queue before (λ b c. c) (still_pass t queue k) d.behind;
  listed = d.listed;
  covered = d.covered;
}

-- CLOSED: the next block of the first removal, whose block is set.
pub closed_divided : {b after : ℕ} {bs : List ℕ} {rs : List Pending} {l : Label} {old new : Known} (t : Tree) → Relabels b l old new → ((i : ℕ) (s : Slot) → MaySlot old after i s → s ≡ (old.memory after).slot i) → IsDivided old t [] (record { blocks = b ∷ bs; after = after } ∷ rs) → ((p : Place) → Stands old b p → ⊥) × IsDivided new (record t { Covered = λ a. IsCovered (record { blocks = bs; after = after } ∷ rs) a }) [] (record { blocks = bs; after = after } ∷ rs)
closed_divided {b} {after} {bs} {rs} {l} {old} {new} t r set d =
    let first : Pending = record { blocks = b ∷ bs; after = after } in
    let rest : List Pending = record { blocks = bs; after = after } ∷ rs in
    let k : Stays old new t = relabel_stays t r in
    let nowhere = λ (p : Place) (st : Stands old b p). first_nowhere first d.behind.0 set b p st (first_among b bs) in
    let less = λ (a : ℕ) (c : IsCovered rest a). d.covered a (inr (⊎_elim (λ own. inl (next_among b a bs own)) (λ more. inr more) c)) in (
      nowhere,
      record {
        tree = tree_still t (λ a. IsCovered rest a) k less d.tree;
        forest = forest_still t (λ a. IsCovered rest a) k less d.forest;
        parents = parents_still t (λ a. IsCovered rest a) k (λ a p st c. ⊎_elim
            (λ own. ⊎_elim (λ e. absurd (nowhere p (subst (λ y. Stands old y p) (sym e) (k.stands a p st)))) (λ more. inl more) (among_cases b bs a own))
            (λ more. inr more)
            (covered_one (first ∷ rs) a (d.listed a c))) d.parents;
        behind = behind_still rest rest [] (λ a c. c) (still_pass t rest k) (close_next b bs after rs nowhere d.behind);
        listed = λ a c. listed_one rest a c;
        covered = λ a c. ⊎_elim (λ none. absurd (nothing_among a none)) (λ is. is) c;
      },
    )

-- a removal with nothing left is gone
pub done_divided : {k : Known} {after : ℕ} {rs : List Pending} (t : Tree) → IsDivided k t [] (record { blocks = []; after = after } ∷ rs) → IsDivided k t [] rs
done_divided {k} {after} {rs} t d = record {
  tree = d.tree;
  forest = d.forest;
  parents = d.parents;
  behind = d.behind.1;
  listed = d.listed;
  covered = λ b c. d.covered b (⊎_elim (λ none. inl none) (λ is. inr (inr is)) c);
}

-- A MADE BLOCK IS PUT INTO
pub filled_divided : {at i : ℕ} {s : Slot} {old new : Known} (t : Tree) (before : List ℕ) (queue : List Pending) → Moves at i s old new → t.Made at → ((b : ℕ) → target s ≡ Local b → t.Within b ⊎ (t.Made b × ((a j : ℕ) → t.Made a → Points old a j b → ⊥))) → IsDivided old t before queue → IsDivided new t before queue
filled_divided {at} {i} {s} {old} {new} t before queue m made leads d = record {
  tree = filled_tree t m d.tree d.forest made leads;
  forest = filled_forest t m d.tree d.forest made leads;
  parents = filled_parents t m d.tree d.forest made leads d.parents;
  behind = behind_still queue queue before (λ b c. c) (moves_pass queue m (λ b e c. ⊎_elim
      (λ w. d.tree.gone b (d.covered b (inr c)) w)
      (λ y. d.forest.uncovered b y.0 (d.covered b (inr c)))
      (leads b e))) d.behind;
  listed = d.listed;
  covered = d.covered;
}

-- A BLOCK IS GIVEN OUT: empty, or as the copy of a block of the tree.
pub given_divided : {at : ℕ} {c : Content} {p : Place} {old new : Known} (t : Tree) (before : List ℕ) (queue : List Pending) → Gives at c p old new → (t.Within at → ⊥) → (t.Made at → ⊥) → (t.Covered at → ⊥) → (t.Older at → ⊥) → ((j b : ℕ) → target (c.slot j) ≡ Local b → t.Within b) → IsDivided old t before queue → IsDivided new (making t at) before queue
given_divided {at} {c} {p} {old} {new} t before queue g outside unmade uncovered young inside d = record {
  tree = give_tree t g outside unmade inside d.tree;
  forest = give_forest t g outside unmade inside young uncovered d.tree d.forest;
  parents = give_parents t g outside unmade inside d.parents;
  behind = behind_given t g outside unmade inside queue queue before (λ b k. k) (λ b k is. ⊎_elim
      (λ w. d.tree.gone b (d.covered b (inr k)) w)
      (λ e. uncovered (subst (λ y. t.Covered y) e (d.covered b (inr k))))
      is) d.behind;
  listed = d.listed;
  covered = d.covered;
}
