-- What is seen from the tops of an epoch on, and that removals stay behind over a step.
use Rattle.std.proofs.Common.{◌≡◌, ◌⊎◌, inl, inr, ⊎_elim, ℕ, ◌≤◌, Bool, true, false, cond, leb, List, [], ◌∷◌, ◌++◌, refl, sym, ◌∙◌, subst, arith}
use Rattle.std.proofs.lemmas.Bool.Decides.{leb_tells}
use Rattle.std.specs.List.{Contains}
use Rattle.fo_image.specs.declared.types.Pointer.TheVariants.{Local}
use Rattle.fo_crash.specs.declared.slot.Slot.{Slot}
use Rattle.fo_crash.specs.declared.place.Place.{Place}
use Rattle.fo_crash.specs.Images.{target}
use Rattle.fo_cells_epochs.specs.of_cells.Known.{Known, Top, MaySlot, Stands}
use Rattle.fo_cells_epochs.proofs.of_cells.Standing.{among_cases, first_among, next_among}
use Rattle.fo_cells_epochs.specs.of_cells_out.Removals.{Pending, IsBehind}
use Rattle.fo_cells_epochs.specs.of_cells_out.Parents.{view}
use Rattle.fo_cells_epochs.proofs.of_cells_out.Queue.{among_left, among_right}
use Rattle.fo_cells_epochs.specs.Epochs.{Root, root_top, tree_of, KeepsTrees}
use Rattle.fo_cells_epochs.proofs.Trees.{tree_still, active_still}
use Rattle.fo_cells_queue.specs.Queue.{Queued, tops_from, past_blocks, ArePast}

le_true : (a b : ℕ) → leb a b ≡ true → a ≤ b
le_true a b is = ⊎_elim (λ y. y.1) (λ n. let e : true ≡ false = sym is ∙ n.0 in absurd (cc)) (leb_tells a b)

true_le : (a b : ℕ) → a ≤ b → leb a b ≡ true
true_le a b le = ⊎_elim (λ y. y.0) (λ n. let lt = n.1 in absurd (omega (arith, lt, le))) (leb_tells a b)

-- the tops of an epoch
pub from_active : (active : List Top) (roots : List Root) (epoch : ℕ) (t : Top) → Contains active t → Contains (tops_from active roots epoch) t
from_active active [] epoch t is = is
from_active active (r ∷ rs) epoch t is = by (leb epoch r.epoch) (from_active active rs epoch t is)
  where
    by : (v : Bool) → Contains (tops_from active rs epoch) t → Contains (cond v (root_top r ∷ tops_from active rs epoch) (tops_from active rs epoch)) t
    by true h = next_among (root_top r) t (tops_from active rs epoch) h
    by false h = h

pub from_root : (active : List Top) (roots : List Root) (epoch : ℕ) (r : Root) → Contains roots r → epoch ≤ r.epoch → Contains (tops_from active roots epoch) (root_top r)
from_root active [] epoch r is le = absurd (none is)
  where
    none : Contains [] r → ⊥
    none (n, lt, e) = omega (arith, lt)
from_root active (x ∷ xs) epoch r is le = ⊎_elim
    (λ e. subst (λ v. Contains (cond v (root_top x ∷ tops_from active xs epoch) (tops_from active xs epoch)) (root_top r)) (sym (true_le epoch x.epoch (subst (λ (y : Root). epoch ≤ y.epoch) (sym e) le))) (subst (λ (y : Root). Contains (root_top x ∷ tops_from active xs epoch) (root_top y)) e (first_among (root_top x) (tops_from active xs epoch))))
    (λ more. by (leb epoch x.epoch) (from_root active xs epoch r more le))
    (among_cases x xs r is)
  where
    by : (v : Bool) → Contains (tops_from active xs epoch) (root_top r) → Contains (cond v (root_top x ∷ tops_from active xs epoch) (tops_from active xs epoch)) (root_top r)
    by true h = next_among (root_top x) (root_top r) (tops_from active xs epoch) h
    by false h = h

pub record IsRootFrom (roots : List Root) (epoch : ℕ) (t : Top) : Type 0 where
  pub root : Root
  pub among : Contains roots root
  pub from : epoch ≤ root.epoch
  pub is : root_top root ≡ t

pub from_cases : (active : List Top) (roots : List Root) (epoch : ℕ) (t : Top) → Contains (tops_from active roots epoch) t → Contains active t ⊎ IsRootFrom roots epoch t
from_cases active [] epoch t is = inl is
from_cases active (r ∷ rs) epoch t is = by (λ h. from_cases active rs epoch t h) (leb epoch r.epoch) refl is
  where
    more : (Contains (tops_from active rs epoch) t → Contains active t ⊎ IsRootFrom rs epoch t) → Contains (tops_from active rs epoch) t → Contains active t ⊎ IsRootFrom (r ∷ rs) epoch t
    more rec h = ⊎_elim (λ a. inl a) (λ x. inr (record { root = x.root; among = next_among r x.root rs x.among; from = x.from; is = x.is })) (rec h)

    by : (Contains (tops_from active rs epoch) t → Contains active t ⊎ IsRootFrom rs epoch t) → (v : Bool) → leb epoch r.epoch ≡ v → Contains (cond v (root_top r ∷ tops_from active rs epoch) (tops_from active rs epoch)) t → Contains active t ⊎ IsRootFrom (r ∷ rs) epoch t
    by rec true e h = ⊎_elim
        (λ first. inr (record { root = r; among = first_among r rs; from = le_true epoch r.epoch e; is = first }))
        (λ rest. more rec rest)
        (among_cases (root_top r) (tops_from active rs epoch) t h)
    by rec false e h = more rec h

-- what is seen from them stands in the active trees or in the tree of one of these roots, and back
pub record StandsFrom (k : Known) (roots : List Root) (epoch b : ℕ) (q : Place) : Type 0 where
  pub root : Root
  pub among : Contains roots root
  pub from : epoch ≤ root.epoch
  pub stands : Stands (tree_of k root) b q

pub seen_cases : (k : Known) (active : List Top) (roots : List Root) (epoch b : ℕ) (q : Place) → Stands (view k (tops_from active roots epoch)) b q → Stands (view k active) b q ⊎ StandsFrom k roots epoch b q
seen_cases k active roots epoch b q st = ⊎_elim
    (λ a. inl (record { top = st.top; is_top = a; path = st.path; leads = st.leads }))
    (λ x. inr (record { root = x.root; among = x.among; from = x.from; stands = record { top = st.top; is_top = subst (λ (t : Top). Contains (root_top x.root ∷ []) t) x.is (first_among (root_top x.root) []); path = st.path; leads = st.leads } }))
    (from_cases active roots epoch st.top st.is_top)

pub seen_active : (k : Known) (active : List Top) (roots : List Root) (epoch b : ℕ) (q : Place) → Stands (view k active) b q → Stands (view k (tops_from active roots epoch)) b q
seen_active k active roots epoch b q st = record { top = st.top; is_top = from_active active roots epoch st.top st.is_top; path = st.path; leads = st.leads }

pub seen_tree : (k : Known) (active : List Top) (roots : List Root) (epoch b : ℕ) (q : Place) → StandsFrom k roots epoch b q → Stands (view k (tops_from active roots epoch)) b q
seen_tree k active roots epoch b q x = record {
  top = x.stands.top;
  is_top = subst (λ (t : Top). Contains (tops_from active roots epoch) t) (Rattle.fo_cells_epochs.proofs.Trees.only_one (root_top x.root) x.stands.top x.stands.is_top) (from_root active roots epoch x.root x.among x.from);
  path = x.stands.path;
  leads = x.stands.leads;
}

-- over a step that keeps the trees
pub seen_still : {old new : Known} {before after : List Top} {roots : List Root} → KeepsTrees old new before after roots → (epoch b : ℕ) (q : Place) → Stands (view new (tops_from after roots epoch)) b q → Stands (view old (tops_from before roots epoch)) b q
seen_still {old} {new} {before} {after} {roots} s epoch b q st = ⊎_elim
    (λ a. seen_active old before roots epoch b q (active_still s b q a))
    (λ x. seen_tree old before roots epoch b q (record { root = x.root; among = x.among; from = x.from; stands = tree_still s x.root x.among b q x.stands }))
    (seen_cases new after roots epoch b q st)

-- ONE REMOVAL, over a step
pub record PassesOne (old new : Known) (r : Pending) : Type 0 where
  -- a slot that leads to one of its blocks may have been there
  pub led : (a i b : ℕ) (s : Slot) (p : Place) → Stands new a p → MaySlot new a i s → target s ≡ Local b → Contains r.blocks b → ((q : Place) × Stands old a q) × MaySlot old a i s
  pub memory : (i b : ℕ) → target ((new.memory r.after).slot i) ≡ Local b → Contains r.blocks b → target ((old.memory r.after).slot i) ≡ Local b
  pub tops : (t : Top) → Contains new.tops t → Contains r.blocks t.at → Contains old.tops t

pub behind_one : {old new : Known} {r : Pending} (earlier : List ℕ) → PassesOne old new r → IsBehind old earlier r → IsBehind new earlier r
behind_one {old} {new} {r} earlier p h = record {
  only = λ a i b s q st may e is. let l = p.led a i b s q st may e is in h.only a i b s (l.0).0 (l.0).1 l.1 e is;
  away = λ i b e is. h.away i b (p.memory i b e is) is;
  tops = λ t k is. h.tops t (p.tops t k is) is;
}

-- ALL OF EARLIER EPOCHS
pub past_each : (old new : Known) (before after : List Top) (roots kept : List Root) (past : List Queued) (earlier : List ℕ) → ((r : Queued) → Contains past r → PassesOne (view old (tops_from before roots r.epoch)) (view new (tops_from after kept r.epoch)) r.pending) → ArePast old before roots earlier past → ArePast new after kept earlier past
past_each old new before after roots kept [] earlier one h = tt
past_each old new before after roots kept (r ∷ rs) earlier one h = (behind_one earlier (one r (first_among r rs)) h.0, past_each old new before after roots kept rs (earlier ++ r.pending.blocks) (λ x is. one x (next_among r x rs is)) h.1)

pub block_among : (past : List Queued) (r : Queued) (b : ℕ) → Contains past r → Contains r.pending.blocks b → Contains (past_blocks past) b
block_among [] r b is own = absurd (none is)
  where
    none : Contains [] r → ⊥
    none (n, lt, e) = omega (arith, lt)
block_among (x ∷ xs) r b is own = ⊎_elim
    (λ e. among_left x.pending.blocks (past_blocks xs) b (subst (λ (y : Queued). Contains y.pending.blocks b) (sym e) own))
    (λ more. among_right x.pending.blocks (past_blocks xs) b (block_among xs r b more own))
    (among_cases x xs r is)
