-- What is found in the pairs of a leaf of entries, one pair more.
use Rattle.std.proofs.Common.{◌≡◌, ◌≢◌, ⊎_elim, inl, inr, ℕ, ◌+◌, ◌*◌, ◌<◌, ◌≤◌, Bool, true, false, not, List, [], ◌∷◌, ◌++◌, length, get_or, set, get_or-set_same, get_or-set_other, length-set, take, drop, take_all, length-drop, append-nil, Option, Some, None, refl, sym, ap, ◌∙◌, subst, arith}
use Rattle.std.specs.Prelude.{◌&&◌, cond}
use Rattle.std.proofs.lemmas.Bool.{cases_eq}
use Rattle.fo_image.specs.declared.types.Entry.{Entry}
use Rattle.fo_image.specs.declared.record.Record.{Record}
use Rattle.fo_crash.specs.declared.slot.Slot.TheVariants.{Entry as Head}
use Rattle.fo_crash.specs.Images.{Content}
use Rattle.fo_world.specs.Step.{is_dir_mode}
use Rattle.fo_good.specs.Trees.{IsFirst, IsSecond}
use Rattle.fo_check_names.specs.Finds.{Finds}
use Rattle.fo_check_names.specs.Finds.Finds.{none as finds_none, some as finds_some}
use Rattle.fo_check_names.specs.Pairs.{is_folder, is_source, records_of}
use Rattle.fo_check_names.specs.declared.names.Named.{Named}
use Rattle.fo_check_tree.specs.declared.walk.Folder.{Folder}
use Rattle.fo_check_tree.specs.declared.walk.Holder.{Holder}
use Rattle.fo_check_tree.specs.Listing.{SomeOf}
use Rattle.fo_check_tree.specs.Pairing.{SameRecords, IsOfPair, pair_number, HasPairHere, Searches}
use Rattle.fo_check_tree.specs.Slots.{entry_of, folders_by, pair_folders}
use Rattle.fo_check_tree.proofs.Leaves.{some_left, some_right}

both_true : (a b : Bool) → a ≡ true → b ≡ true → (a && b) ≡ true
both_true a b p q = ap (λ (x : Bool). x && b) p ∙ q

-- The folder of a pair is left.
of_pair : (here : Holder) (first second : Entry) (depth : ℕ) (leads : Bool) (r : Record) → leads ≡ true → is_dir_mode r.mode ≡ true → IsFirst (Head first) r → IsSecond (Head second) r → SomeOf (IsOfPair first second) (pair_folders here first second depth leads)
of_pair here first second depth leads r lead dir a b =
    let folder : is_folder first ≡ true = both_true first.active first.dir a.0 (a.2 ∙ dir) in
    let source : is_source second ≡ true = both_true second.active (not second.dir) (b.0 ∙ dir) (ap not b.1) in
    let records : records_of first second ≡ Some second = ap (λ (x : Bool). cond (x && is_source second) (Some second) None) folder ∙ ap (λ (x : Bool). cond x (Some second) None) source in
    let f : Folder = record { entries = first; records = Some second; holder = here; depth = depth; named = leads } in
    let one : folders_by here first (records_of first second) depth leads ≡ f ∷ [] = ap (λ (o : Option Entry). folders_by here first o depth leads) records ∙ ap (λ (x : Bool). cond x (f ∷ []) []) folder in
    let has : IsOfPair first second f = record { entries = refl; records = refl; named = lead } in
    some_left (IsOfPair first second) (folders_by here first (records_of first second) depth leads) (folders_by here second None depth false)
    (subst (λ (fs : List Folder). SomeOf (IsOfPair first second) fs) (sym one) (inl has))

pub same_refl : (xs : List Named) → SameRecords xs xs
same_refl xs = record { long = refl; each = λ i d lt. refl; leaves = λ i d lt. refl }

pub same_then : (xs ys zs : List Named) → SameRecords xs ys → SameRecords ys zs → SameRecords xs zs
same_then xs ys zs a b = record { long = b.long ∙ a.long; each = λ i d lt. b.each i d lt ∙ a.each i d (omega (arith, lt, b.long)); leaves = λ i d lt. b.leaves i d lt ∙ a.leaves i d (omega (arith, lt, b.long)) }

module _ (index : ℕ) (c : Content) (named : Bool) where
  pub searches_first : (old : List Named) (folders : List Folder) → Searches index c named 0 old old folders
  searches_first old folders = record { same = same_refl old; each = λ i d lt h. inl h; still = λ i d lt. refl }

  lift : (k : ℕ) (folders added : List Folder) (r : Record) → HasPairHere index c named k folders r → HasPairHere index c named (k + 1) (folders ++ added) r
  lift k folders added r h = record {
    pair = h.pair;
    within = omega (arith, h.within);
    slot = h.slot;
    first = h.first;
    second = h.second;
    folder = λ lead dir. some_left (IsOfPair (entry_of (c.slot (2 * h.pair))) (entry_of (c.slot (2 * h.pair + 1)))) folders added (h.folder lead dir);
  }

  module _ (here : Holder) (depth k : ℕ) (old now new : List Named) (folders : List Folder) (found leads : Bool) (both : leads ≡ named && found) (s : Searches index c named k old now folders) where
    abbrev first : Entry
    first = entry_of (c.slot (2 * k))

    abbrev second : Entry
    second = entry_of (c.slot (2 * k + 1))

    abbrev added : List Folder
    added = pair_folders here first second depth leads

    kept : new ≡ now → Searches index c named (k + 1) old new (folders ++ added)
    kept same = subst (λ (xs : List Named). Searches index c named (k + 1) old xs (folders ++ added)) (sym same) (record {
      same = s.same;
      each = λ i d lt h. ⊎_elim (λ before. inl before) (λ (p : HasPairHere index c named k folders (get_or now i d).listed). inr (lift k folders added (get_or now i d).listed p)) (s.each i d lt h);
      still = s.still;
    })

    module _ (at : ℕ) (n : Named) (within : at < length now) (read : (d : Named) → get_or now at d ≡ n) where
      abbrev marked : Named
      marked = record n { found = found }

      long : length (set now at marked) ≡ length now
      long = length-set now at marked

      same_at : SameRecords now (set now at marked)
      same_at = record {
        long = long;
        each = λ i d lt. ⊎_elim
            (λ (here' : i ≡ at). subst (λ (j : ℕ). (get_or (set now at marked) j d).listed ≡ (get_or now j d).listed) (sym here') (ap (λ (x : Named). x.listed) (get_or-set_same now at marked d within) ∙ sym (ap (λ (x : Named). x.listed) (read d))))
            (λ (apart : i ≢ at). ap (λ (x : Named). x.listed) (get_or-set_other now at i marked d apart))
            (cases_eq i at);
        leaves = λ i d lt. ⊎_elim
            (λ (here' : i ≡ at). subst (λ (j : ℕ). (get_or (set now at marked) j d).leaf ≡ (get_or now j d).leaf) (sym here') (ap (λ (x : Named). x.leaf) (get_or-set_same now at marked d within) ∙ sym (ap (λ (x : Named). x.leaf) (read d))))
            (λ (apart : i ≢ at). ap (λ (x : Named). x.leaf) (get_or-set_other now at i marked d apart))
            (cases_eq i at);
      }

      found_here : n.listed.slot ≡ pair_number index k → found ≡ true → IsFirst (Head first) n.listed → IsSecond (Head second) n.listed → HasPairHere index c named (k + 1) (folders ++ added) n.listed
      found_here slot fits a b = record {
        pair = k;
        within = omega arith;
        slot = slot;
        first = a;
        second = b;
        folder = λ lead dir. some_right (IsOfPair first second) folders added (of_pair here first second depth leads n.listed (both ∙ both_true named found lead fits) dir a b);
      }

      marks : n.listed.slot ≡ pair_number index k → (found ≡ true → IsFirst (Head first) n.listed × IsSecond (Head second) n.listed) → Searches index c named (k + 1) old (set now at marked) (folders ++ added)
      marks slot fits = record {
        same = same_then old now (set now at marked) s.same same_at;
        each = λ i d lt h. ⊎_elim
            (λ (here' : i ≡ at).
            let is : get_or (set now at marked) i d ≡ marked = ap (λ (j : ℕ). get_or (set now at marked) j d) here' ∙ get_or-set_same now at marked d within in
            let yes : found ≡ true = sym (ap (λ (x : Named). x.found) is) ∙ h in
            let f = fits yes in
            inr (subst (λ (x : Named). HasPairHere index c named (k + 1) (folders ++ added) x.listed) (sym is) (found_here slot yes f.0 f.1)))
            (λ (apart : i ≢ at).
            let is : get_or (set now at marked) i d ≡ get_or now i d = get_or-set_other now at i marked d apart in
            ⊎_elim
            (λ (before : (get_or old i d).found ≡ true). inl before)
            (λ (p : HasPairHere index c named k folders (get_or now i d).listed). inr (subst (λ (x : Named). HasPairHere index c named (k + 1) (folders ++ added) x.listed) (sym is) (lift k folders added (get_or now i d).listed p)))
            (s.each i d (omega (arith, lt, long)) (sym (ap (λ (x : Named). x.found) is) ∙ h)))
            (cases_eq i at);
        still = λ i d lt. ⊎_elim
            (λ (here' : i ≡ at).
            let is : get_or (set now at marked) i d ≡ marked = ap (λ (j : ℕ). get_or (set now at marked) j d) here' ∙ get_or-set_same now at marked d within in
            let was : n ≡ get_or now i d = sym (read d) ∙ ap (λ (j : ℕ). get_or now j d) (sym here') in
            ap (λ (x : Named). x.missed) is ∙ ap (λ (x : Named). x.missed) was ∙ s.still i d (omega (arith, lt, long)))
            (λ (apart : i ≢ at). ap (λ (x : Named). x.missed) (get_or-set_other now at i marked d apart) ∙ s.still i d (omega (arith, lt, long)))
            (cases_eq i at);
      }

    pub searches_more : Finds (pair_number index k) first second found now new → Searches index c named (k + 1) old new (folders ++ added)
    searches_more (finds_none unfound same none') = kept same
    searches_more (finds_some at n within read slot fits is) = subst (λ (xs : List Named). Searches index c named (k + 1) old xs (folders ++ added)) (sym is) (marks at n within read slot (λ yes. fits.0 yes))

-- ---- a list behind a reference

pub finds_long : (slot : ℕ) (first second : Entry) (found : Bool) (old new : List Named) → Finds slot first second found old new → length new ≡ length old
finds_long slot a b found old new (finds_none unfound same none') = ap (λ (xs : List Named). length xs) same
finds_long slot a b found old new (finds_some at n within read slot' fits is) = ap (λ (xs : List Named). length xs) is ∙ length-set old at (record n { found = found })

no_items : (xs : List Named) → length xs ≡ 0 → xs ≡ []
no_items [] e = refl
no_items (x ∷ xs) e = absurd (omega (arith, e))

none_left : (n : ℕ) (xs : List Named) → length xs ≤ n → drop n xs ≡ []
none_left n xs le = no_items (drop n xs) (omega (arith, length-drop n xs, le))

pub written : (xs new : List Named) (n : ℕ) → n ≡ length xs → length new ≡ length xs → take n (new ++ drop (length new) xs) ≡ new
written xs new n is same =
    ap (λ (ys : List Named). take n (new ++ ys)) (none_left (length new) xs (omega (arith, same)))
    ∙ ap (λ (ys : List Named). take n ys) (append-nil new)
    ∙ take_all n new (omega (arith, is, same))

-- The same with what was read and pushed.
pub searches_on : (index : ℕ) (c : Content) (named : Bool) (here : Holder) (depth k : ℕ) (old now new : List Named) (folders folders' : List Folder) (found leads : Bool) (a b : Entry) (slot : ℕ) → slot ≡ pair_number index k → leads ≡ named && found → a ≡ entry_of (c.slot (2 * k)) → b ≡ entry_of (c.slot (2 * k + 1))
    → Searches index c named k old now folders → Finds slot a b found now new → folders' ≡ folders ++ pair_folders here a b depth leads → Searches index c named (k + 1) old new folders'
searches_on index c named here depth k old now new folders folders' found leads a b slot number both is is' s f grown =
    let f' : Finds (pair_number index k) (entry_of (c.slot (2 * k))) (entry_of (c.slot (2 * k + 1))) found now new =
    subst (λ (x : ℕ). Finds x (entry_of (c.slot (2 * k))) (entry_of (c.slot (2 * k + 1))) found now new) number
    (subst (λ (x : Entry). Finds slot x (entry_of (c.slot (2 * k + 1))) found now new) is (subst (λ (x : Entry). Finds slot a x found now new) is' f)) in
    let same : folders' ≡ folders ++ pair_folders here (entry_of (c.slot (2 * k))) (entry_of (c.slot (2 * k + 1))) depth leads =
    grown ∙ ap (λ (x : Entry). folders ++ pair_folders here x b depth leads) is ∙ ap (λ (x : Entry). folders ++ pair_folders here (entry_of (c.slot (2 * k))) x depth leads) is' in
    subst (λ (fs : List Folder). Searches index c named (k + 1) old new fs) (sym same) (searches_more index c named here depth k old now new folders found leads both s f')
