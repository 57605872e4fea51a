-- The later of the two images keeps what the rules ask beside names, and lists both records.
use Rattle.std.proofs.Common.{◌≡◌, ◌≢◌, ◌⊎◌, inl, inr, ℕ, zero, suc, ◌*◌, ◌%◌, ◌^◌, ◌<◌, ◌≤◌, Bool, true, false, cond, nat_eq, List, [], ◌∷◌, refl, sym, ◌∙◌, ap, subst, arith}
use Rattle.fo_image.specs.declared.record.Record.{Record}
use Rattle.fo_image.specs.declared.types.Score.{Score}
use Rattle.fo_image.specs.declared.types.Pointer.{Pointer}
use Rattle.fo_image.specs.declared.types.Pointer.TheVariants.{Nil, Local, Score as Held}
use Rattle.fo_crash.specs.declared.slot.Slot.{Slot}
use Rattle.fo_crash.specs.Images.{Arena, Link, target, meant, goes, step, depth_of, entry_of, from_block}
use Rattle.fo_good.specs.of_world.Step.{is_dir_mode}
use Rattle.fo_good.specs.Trees.{IsDir, IsEntries, InTree, HasRecords, HasPair, Lists, size_of}
use Rattle.fo_good.specs.Trees.IsDir.{top as dir_top, below as dir_below}
use Rattle.fo_good.specs.Trees.InTree.{top as tree_top, below as tree_below}
use Rattle.fo_good.specs.Trees.HasRecords.{top as records_top, pair as records_pair}
use Rattle.fo_dir_images.proofs.Listing.{IsAt, contained}
use Rattle.fo_dir_names.specs.Example.{first, second, leaf_of, super_slots, root_slots, entry_slots, top_slots, slots, later, records_of}
use Rattle.fo_dir_names.specs.Rules.{IsSoundBeside}
use Rattle.fo_dir_names.proofs.Example.{first_spells, second_spells, first_leaf, second_leaf, one_listed}

-- ---- no slot is a score

abbrev IsNoScore : Slot → Type 0
IsNoScore s = (score : Score) → target s ≢ Held score

pick : (v : Bool) (s t : Slot) → IsNoScore s → IsNoScore t → IsNoScore (cond v s t)
pick true s t one other = one
pick false s t one other = other

super_none : (i : ℕ) → IsNoScore (super_slots i)
super_none zero = λ score e. cc
super_none (suc i) = λ score e. cc

root_none : (i : ℕ) → IsNoScore (root_slots i)
root_none zero = λ score e. cc
root_none (suc zero) = λ score e. cc
root_none (suc (suc i)) = λ score e. cc

entry_none : (i : ℕ) → IsNoScore (entry_slots i)
entry_none zero = λ score e. cc
entry_none (suc zero) = λ score e. cc
entry_none (suc (suc zero)) = λ score e. cc
entry_none (suc (suc (suc i))) = λ score e. cc

top_none : (i : ℕ) → IsNoScore (top_slots i)
top_none zero = λ score e. cc
top_none (suc zero) = λ score e. cc
top_none (suc (suc i)) = λ score e. cc

slots_none : (b i : ℕ) → IsNoScore (slots b i)
slots_none b i = pick (nat_eq b 1) _ _ (super_none i) (pick (nat_eq b 2) _ _ (root_none i) (pick (nat_eq b 3) _ _ (entry_none i) (pick (nat_eq b 5) _ _ (top_none i) (λ score e. cc))))

no_entries : (i : ℕ) → IsEntries (entry_slots i) → ⊥
no_entries zero e = let no : false ≡ true = e.1 in cc
no_entries (suc zero) e = let no : false ≡ true = e.1 in cc
no_entries (suc (suc zero)) e = let no : false ≡ true = e.1 in cc
no_entries (suc (suc (suc i))) e = let no : false ≡ true = e.1 in cc

module _ (arena : Arena) where
  abbrev entries_of : Link
  entries_of = step arena later (from_block 2) 0

  path_none : (path : List ℕ) (w : Link) → IsNoScore w.slot → IsNoScore (goes arena later w path).slot
  path_none [] w none = none
  path_none (i ∷ path) w none = path_none path (step arena later w i) (by (target w.slot) none)
    where
      by : (p : Pointer) → ((score : Score) → p ≢ Held score) → IsNoScore ((meant arena later w.kind p).slot i)
      by Nil none = λ score e. cc
      by (Local a) none = slots_none a i
      by (Held score) none = absurd (none score refl)

  tree_is : (depth : ℕ) (w : Link) → InTree arena later 2 depth w → (depth ≡ 0) × (w ≡ entries_of)
  tree_is depth w tree_top = (refl, refl)
  tree_is depth w (tree_below d v j up entries) =
      let is = tree_is d v up in
      absurd (no_entries (j % 204) (subst (λ x. IsEntries (entry_of arena later x j).slot) is.1 entries))

  records_is : (meta : Link) → HasRecords arena later 2 meta → meta ≡ records_of arena
  records_is meta records_top = refl
  records_is meta (records_pair d v k up entries records) =
      let is = tree_is d v up in
      absurd (no_entries ((2 * k) % 204) (subst (λ x. IsEntries (entry_of arena later x (2 * k)).slot) is.1 entries))

  -- what is listed
  first_at : IsAt arena later (records_of arena) 0 4
  first_at = record { room = omega arith; leads = refl }

  second_at : IsAt arena later (records_of arena) 1 6
  second_at = record { room = omega arith; leads = refl }

  listed_is : (k j : ℕ) (r : Record) → Lists arena later (records_of arena) k j r → (r ≡ first) ⊎ (r ≡ second)
  listed_is zero j r l = inl (one_listed first r (leaf_of (first ∷ [])) first_leaf (contained first_at l))
  listed_is (suc zero) j r l = inr (one_listed second r (leaf_of (second ∷ [])) second_leaf (contained second_at l))
  listed_is (suc (suc k)) j r l = let within : 8192 * suc (suc k) < 16384 = l.within in absurd (omega (arith, within))

  not_dir : (r : Record) → (r ≡ first) ⊎ (r ≡ second) → is_dir_mode r.mode ≡ true → ⊥
  not_dir r (inl e) dir = let no : false ≡ true = sym (ap (λ (x : Record). is_dir_mode x.mode) e) ∙ dir in cc
  not_dir r (inr e) dir = let no : false ≡ true = sym (ap (λ (x : Record). is_dir_mode x.mode) e) ∙ dir in cc

  dir_is : (trail : List ℕ) (entries meta : Link) → IsDir arena later 2 trail entries meta → (entries ≡ entries_of) × (meta ≡ records_of arena)
  dir_is trail entries meta dir_top = (refl, refl)
  dir_is trail entries meta (dir_below up e m k j r dir listed folder) =
      absurd (not_dir r (listed_is k j r (subst (λ x. Lists arena later x k j r) (dir_is up e m dir).1 listed)) folder)

  first_pair : HasPair arena later entries_of first
  first_pair = record { within = omega arith; first = (refl, refl, refl, refl); second = (refl, refl, λ e. cc) }

  second_pair : HasPair arena later entries_of second
  second_pair = record { within = omega arith; first = (refl, refl, refl, refl); second = (refl, refl, λ e. cc) }

  pair_of : (r : Record) → (r ≡ first) ⊎ (r ≡ second) → HasPair arena later entries_of r
  pair_of r (inl e) = subst (λ x. HasPair arena later entries_of x) (sym e) first_pair
  pair_of r (inr e) = subst (λ x. HasPair arena later entries_of x) (sym e) second_pair

  pub later_sound : IsSoundBeside arena later 2
  later_sound = record {
    of_data = refl;
    entries_room = λ depth w tree. subst (λ (x : Link). size_of x.slot ≤ 8192 * 409 ^ depth_of x.slot) (sym (tree_is depth w tree).1) (omega arith);
    records_room = λ meta records. subst (λ (x : Link). size_of x.slot ≤ 8192 * 409 ^ depth_of x.slot) (sym (records_is meta records)) (omega arith);
    fit = λ trail entries meta k j r dir l.
        let is = dir_is trail entries meta dir in
        subst (λ x. HasPair arena later x r) (sym is.0) (pair_of r (listed_is k j r (subst (λ x. Lists arena later x k j r) is.1 l)));
    depths = λ depth w tree. let none = (tree_is depth w tree).0 in omega (arith, none);
    scores = record { none = λ path score. path_none path (from_block 2) (λ score e. cc) score };
  }

  pub first_listed : Lists arena later (records_of arena) 0 0 first
  first_listed = record { within = omega arith; before = []; after = []; spelled = first_spells; place = refl }

  pub second_listed : Lists arena later (records_of arena) 1 0 second
  second_listed = record { within = omega arith; before = []; after = []; spelled = second_spells; place = refl }
