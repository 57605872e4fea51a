-- The slots of a block that is entered: each that leads anywhere is left once, in a step or in a folder.
use Rattle.std.proofs.Common.{◌≡◌, ◌≢◌, ◌⊎◌, ⊎_elim, inl, inr, ℕ, zero, suc, ◌+◌, ◌-◌, ◌*◌, ◌^◌, ◌<◌, ◌≤◌, Bool, true, false, not, cond, List, [], ◌∷◌, ◌++◌, append-nil, Some, None, refl, sym, ap, ◌∙◌, subst, arith}
use Rattle.std.specs.Prelude.{◌&&◌, min}
use Rattle.std.proofs.lemmas.Bool.{cases_eq, cases_lt, false≢true}
use Rattle.fo_disk.specs.Disk.{Block}
use Rattle.fo_image.specs.declared.types.Kind.{Kind}
use Rattle.fo_image.specs.declared.types.Kind.TheVariants.{Data, Dir, Root}
use Rattle.fo_image.specs.declared.types.Entry.{Entry}
use Rattle.fo_image.specs.declared.types.Label.{Label}
use Rattle.fo_image.specs.declared.types.Pointer.{Pointer}
use Rattle.fo_image.specs.declared.types.Pointer.TheVariants.{Nil, Local, Score as Held}
use Rattle.fo_image.specs.Format.{ActiveHolds}
use Rattle.fo_crash.specs.declared.slot.Slot.{Slot}
use Rattle.fo_crash.specs.declared.slot.Slot.TheVariants.{Entry as Head}
use Rattle.fo_crash.specs.Images.{Content, Image, target, kind_below}
use Rattle.fo_sound.specs.Image.{block_of, HasLabel}
use Rattle.fo_good.specs.Means.{EndsAt}
use Rattle.fo_check_tree.specs.declared.walk.Folder.{Folder}
use Rattle.fo_check_tree.specs.declared.walk.Holder.{Holder}
use Rattle.fo_check_tree.specs.declared.walk.Holds.{Holds}
use Rattle.fo_check_tree.specs.declared.walk.Holds.TheVariants.{Bytes, Records}
use Rattle.fo_check_tree.specs.declared.walk.Step.{Step}
use Rattle.fo_check_tree.specs.Follows.{Puts}
use Rattle.fo_check_tree.specs.Slots.{HasSlot, HasSlots, steps_by, steps_below, steps_by_pairs, steps_of, entry_of, top_step, pair_steps, pair_folders, AreFolders}
use Rattle.fo_check_tree.specs.Slots.HasSlot.{entry, other}
use Rattle.fo_check_tree.specs.Slots.AreFolders.{none, more}
use Rattle.fo_check_tree.specs.Walking.{IsStepOf, tag_below, one, Fits, all_tops}
use Rattle.fo_check_tree.proofs.Slots.{none_below, one_below, no_pairs, one_pair}
use Rattle.fo_check_tree.proofs.Waiting.{one_here, one_block, one_slot, one_most, fits_nothing, fits_join, fits_one, all_tops_join}

-- The first slots of a block that lead anywhere are left once, and no others are.
pub record IsFresh (at : ℕ) (c : Content) (k : ℕ) (n : ℕ → ℕ → ℕ) : Type 0 where
  pub apart : (b j : ℕ) → b ≢ at → n b j ≡ 0
  pub past : (j : ℕ) → k ≤ j → n at j ≡ 0
  pub few : (j : ℕ) → n at j ≤ 1
  pub all : (j : ℕ) → j < k → (target (c.slot j) ≡ Nil) ⊎ (n at j ≡ 1)

pub record Sprouts (device : List Block) (image : Image) (at k : ℕ) (steps : List Step) (folders : List Folder) : Type 0 where
  pub first : ℕ → ℕ → ℕ
  pub second : ℕ → ℕ → ℕ
  pub first_fits : Fits device image steps first
  pub second_fits : Fits device image (all_tops folders) second
  pub fresh : IsFresh at (image at) k (λ b j. first b j + second b j)

-- Steps and folders by two slots, or by one of them, or by none.
pub record AreTwo (device : List Block) (image : Image) (at k : ℕ) (steps : List Step) (folders : List Folder) : Type 0 where
  pub first : ℕ → ℕ → ℕ
  pub second : ℕ → ℕ → ℕ
  pub first_fits : Fits device image steps first
  pub second_fits : Fits device image (all_tops folders) second
  pub most : (b j : ℕ) → first b j + second b j ≤ one at k b j + one at (k + 1) b j
  pub low : (target ((image at).slot k) ≡ Nil) ⊎ (first at k + second at k ≡ 1)
  pub high : (target ((image at).slot (k + 1)) ≡ Nil) ⊎ (first at (k + 1) + second at (k + 1) ≡ 1)

-- The entry in slot i: where it is in use it stands there, else the slot leads nowhere.
pub record IsEntryAt (c : Content) (i : ℕ) (e : Entry) : Type 0 where
  pub head : e.active ≡ true → c.slot i ≡ Head e
  pub rest : e.active ≡ false → target (c.slot i) ≡ Nil

by_top : (e : Entry) (c : Content) (i : ℕ) → c.slot i ≡ Head e → e.top ≡ Nil → target (c.slot i) ≡ Nil
by_top e c i is nil = ap target is ∙ nil

nil_top : (e : Entry) (active : Bool) → active ≡ false → ActiveHolds active e → e.top ≡ Nil
nil_top e true isnt h = absurd (false≢true (sym isnt))
nil_top e false isnt h = h.4

pub entry_is : (c : Content) (bytes : Block) (i : ℕ) → HasSlot c bytes i → IsEntryAt c i (entry_of (c.slot i))
entry_is c bytes i (entry h) = subst (λ (e : Entry). IsEntryAt c i e) (sym (ap entry_of h.is)) (record {
  head = λ active. h.is;
  rest = λ isnt. by_top h.entry c i h.is (nil_top h.entry h.entry.active isnt h.spelled.holds.active_holds);
})
entry_is c bytes i (other is deep) = subst (λ (e : Entry). IsEntryAt c i e) (sym (ap entry_of is)) (record {
  head = λ active. absurd (false≢true active);
  rest = λ isnt. ap target is;
})

pub top_not_root : (dir : Bool) (depth : ℕ) → cond dir (Dir depth) (Data depth) ≡ Root → ⊥
top_not_root true depth e = cc
top_not_root false depth e = cc

-- One slot: in a step, in a folder, or in none as it leads nowhere.
record IsSlot (device : List Block) (image : Image) (at i : ℕ) (steps others : List Step) : Type 0 where
  first : ℕ → ℕ → ℕ
  second : ℕ → ℕ → ℕ
  first_fits : Fits device image steps first
  second_fits : Fits device image others second
  most : (b j : ℕ) → first b j + second b j ≤ one at i b j
  all : (target ((image at).slot i) ≡ Nil) ⊎ (first at i + second at i ≡ 1)

module _ (device : List Block) (image : Image) (at : ℕ) (l : Label) (has : HasLabel device at l) where
  abbrev here : Holder
  here = record { block = at; label = l }

  absent : (i : ℕ) → target ((image at).slot i) ≡ Nil → IsSlot device image at i [] []
  absent i nil = record { first = λ b j. 0; second = λ b j. 0; first_fits = fits_nothing device image; second_fits = fits_nothing device image; most = λ b j. omega arith; all = inl nil }

  as_step : (i : ℕ) (s : Step) → IsStepOf device image at l i s → IsSlot device image at i (s ∷ []) []
  as_step i s is = record { first = one at i; second = λ b j. 0; first_fits = fits_one device image s at l i is; second_fits = fits_nothing device image; most = λ b j. omega arith; all = inr (omega (arith, one_here at i)) }

  as_folder : (i : ℕ) (s : Step) → IsStepOf device image at l i s → IsSlot device image at i [] (s ∷ [])
  as_folder i s is = record { first = λ b j. 0; second = one at i; first_fits = fits_nothing device image; second_fits = fits_one device image s at l i is; most = λ b j. omega arith; all = inr (omega (arith, one_here at i)) }

  -- ---- blocks of pointers

  none_yet : (steps : List Step) → steps ≡ [] → Sprouts device image at 0 steps []
  none_yet steps is = record {
    first = λ b j. 0;
    second = λ b j. 0;
    first_fits = subst (λ (s : List Step). Fits device image s (λ b j. 0)) (sym is) (fits_nothing device image);
    second_fits = fits_nothing device image;
    fresh = record { apart = λ b j other. refl; past = λ j le. refl; few = λ j. omega arith; all = λ j lt. absurd (omega (arith, lt)) };
  }

  slot_more : (k : ℕ) (steps ys : List Step) → Sprouts device image at k steps [] → IsSlot device image at k ys [] → Sprouts device image at (suc k) (steps ++ ys) []
  slot_more k steps ys w s = record {
    first = λ b j. w.first b j + s.first b j;
    second = λ b j. w.second b j + s.second b j;
    first_fits = fits_join device image steps ys w.first s.first w.first_fits s.first_fits;
    second_fits = fits_join device image [] [] w.second s.second w.second_fits s.second_fits;
    fresh = record {
      apart = λ b j other. omega (arith, w.fresh.apart b j other, s.most b j, one_block at k b j other);
      past = λ j le. let none : one at k at j ≡ 0 = one_slot at k at j (λ same. omega (arith, le, same)) in omega (arith, w.fresh.past j (omega (arith, le)), s.most at j, none);
      few = λ j. ⊎_elim
          (λ (same : j ≡ k). omega (arith, w.fresh.past j (omega (arith, same)), s.most at j, one_most at k at j))
          (λ (other : j ≢ k). omega (arith, w.fresh.few j, s.most at j, one_slot at k at j other))
          (cases_eq j k);
      all = λ j lt. ⊎_elim
          (λ (same : j ≡ k). subst (λ (i : ℕ). (target ((image at).slot i) ≡ Nil) ⊎ (w.first at i + s.first at i + (w.second at i + s.second at i) ≡ 1)) (sym same)
          (⊎_elim (λ nil. inl nil) (λ is. inr (omega (arith, is, w.fresh.past k (omega arith)))) s.all))
          (λ (other : j ≢ k). ⊎_elim (λ nil. inl nil) (λ is. inr (omega (arith, is, s.most at j, one_slot at k at j other))) (w.fresh.all j (omega (arith, lt, other))))
          (cases_eq j k);
    };
  }

  module _ (step : Step) (kind : Kind) (kinds : (i : ℕ) → kind ≡ kind_below l.kind ((image at).slot i)) (tags : (i : ℕ) → step.tag ≡ tag_below l.kind l.tag ((image at).slot i)) (not_root : kind ≡ Root → ⊥) where
    by_pointer : (k : ℕ) (p : Pointer) → target ((image at).slot k) ≡ p → IsSlot device image at k (steps_by step kind here k p) []
    by_pointer k Nil is = absent k is
    by_pointer k (Local a) is = as_step k _ (record { has = has; holder = refl; pointer = sym is; kind = λ some. kinds k; tag = λ some. tags k; not_root = not_root })
    by_pointer k (Held a) is = as_step k _ (record { has = has; holder = refl; pointer = sym is; kind = λ some. kinds k; tag = λ some. tags k; not_root = not_root })

    pub pointers : (k : ℕ) → Sprouts device image at k (steps_below step kind here (image at) k) []
    pointers zero = none_yet (steps_below step kind here (image at) zero) (none_below step kind here (image at))
    pointers (suc k) = subst (λ (s : List Step). Sprouts device image at (suc k) s []) (sym (one_below step kind here (image at) k))
        (slot_more k (steps_below step kind here (image at) k) (steps_by step kind here k (target ((image at).slot k))) (pointers k) (by_pointer k (target ((image at).slot k)) refl))

  -- ---- leaves of entries

  both : (k : ℕ) (xs ys : List Step) (xs' ys' : List Step) (folders : List Folder) → all_tops folders ≡ xs' ++ ys' → IsSlot device image at k xs xs' → IsSlot device image at (k + 1) ys ys' → AreTwo device image at k (xs ++ ys) folders
  both k xs ys xs' ys' folders tops a b' =
      let low : one at (k + 1) at k ≡ 0 = one_slot at (k + 1) at k (λ same. omega (arith, same)) in
      let high : one at k at (k + 1) ≡ 0 = one_slot at k at (k + 1) (λ same. omega (arith, same)) in
      record {
        first = λ b j. a.first b j + b'.first b j;
        second = λ b j. a.second b j + b'.second b j;
        first_fits = fits_join device image xs ys a.first b'.first a.first_fits b'.first_fits;
        second_fits = subst (λ (s : List Step). Fits device image s (λ b j. a.second b j + b'.second b j)) (sym tops) (fits_join device image xs' ys' a.second b'.second a.second_fits b'.second_fits);
        most = λ b j. omega (arith, a.most b j, b'.most b j);
        low = ⊎_elim (λ nil. inl nil) (λ is. inr (omega (arith, is, b'.most at k, low))) a.all;
        high = ⊎_elim (λ nil. inl nil) (λ is. inr (omega (arith, is, a.most at (k + 1), high))) b'.all;
      }

  two_more : (k : ℕ) (steps ys : List Step) (folders gs : List Folder) → Sprouts device image at k steps folders → AreTwo device image at k ys gs → Sprouts device image at (k + 2) (steps ++ ys) (folders ++ gs)
  two_more k steps ys folders gs w s = record {
    first = λ b j. w.first b j + s.first b j;
    second = λ b j. w.second b j + s.second b j;
    first_fits = fits_join device image steps ys w.first s.first w.first_fits s.first_fits;
    second_fits = subst (λ (xs : List Step). Fits device image xs (λ b j. w.second b j + s.second b j)) (sym (all_tops_join folders gs)) (fits_join device image (all_tops folders) (all_tops gs) w.second s.second w.second_fits s.second_fits);
    fresh = record {
      apart = λ b j other. omega (arith, w.fresh.apart b j other, s.most b j, one_block at k b j other, one_block at (k + 1) b j other);
      past = λ j le.
          let none : one at k at j ≡ 0 = one_slot at k at j (λ same. omega (arith, le, same)) in
          let none' : one at (k + 1) at j ≡ 0 = one_slot at (k + 1) at j (λ same. omega (arith, le, same)) in
          omega (arith, w.fresh.past j (omega (arith, le)), s.most at j, none, none');
      few = λ j. ⊎_elim
          (λ (same : j ≡ k). omega (arith, w.fresh.past j (omega (arith, same)), s.most at j, one_most at k at j, one_slot at (k + 1) at j (λ here. omega (arith, same, here))))
          (λ (other : j ≢ k). ⊎_elim
          (λ (same : j ≡ k + 1). omega (arith, w.fresh.past j (omega (arith, same)), s.most at j, one_most at (k + 1) at j, one_slot at k at j other))
          (λ (other' : j ≢ k + 1). omega (arith, w.fresh.few j, s.most at j, one_slot at k at j other, one_slot at (k + 1) at j other'))
          (cases_eq j (k + 1)))
          (cases_eq j k);
      all = λ j lt. ⊎_elim
          (λ (same : j ≡ k). subst (λ (i : ℕ). (target ((image at).slot i) ≡ Nil) ⊎ (w.first at i + s.first at i + (w.second at i + s.second at i) ≡ 1)) (sym same)
          (⊎_elim (λ nil. inl nil) (λ is. inr (omega (arith, is, w.fresh.past k (omega arith)))) s.low))
          (λ (other : j ≢ k). ⊎_elim
          (λ (same : j ≡ k + 1). subst (λ (i : ℕ). (target ((image at).slot i) ≡ Nil) ⊎ (w.first at i + s.first at i + (w.second at i + s.second at i) ≡ 1)) (sym same)
          (⊎_elim (λ nil. inl nil) (λ is. inr (omega (arith, is, w.fresh.past (k + 1) (omega arith)))) s.high))
          (λ (other' : j ≢ k + 1). ⊎_elim (λ nil. inl nil) (λ is. inr (omega (arith, is, s.most at j, one_slot at k at j other, one_slot at (k + 1) at j other'))) (w.fresh.all j (omega (arith, lt, other, other'))))
          (cases_eq j (k + 1)))
          (cases_eq j k);
    };
  }

  module _ (leaf : l.kind ≡ Dir zero) where
    top_at : (i : ℕ) (e : Entry) (holds : Holds) → e.active ≡ true → IsEntryAt (image at) i e → IsStepOf device image at l i (top_step e holds here)
    top_at i e holds active w =
        let is : (image at).slot i ≡ Head e = w.head active in
        record {
          has = has;
          holder = refl;
          pointer = sym (ap target is);
          kind = λ some. sym (ap (λ (k : Kind). kind_below k ((image at).slot i)) leaf ∙ ap (λ (s : Slot). kind_below (Dir zero) s) is);
          tag = λ some. sym (ap (λ (k : Kind). tag_below k l.tag ((image at).slot i)) leaf ∙ ap (λ (s : Slot). tag_below (Dir zero) l.tag s) is);
          not_root = top_not_root e.dir e.depth;
        }

    module _ (k depth : ℕ) (named : Bool) (e f : Entry) (w : IsEntryAt (image at) k e) (v : IsEntryAt (image at) (k + 1) f) where
      abbrev steps_at : Bool → Bool → Bool → Bool → List Step
      steps_at a d b c = cond (a && not d) (top_step e Bytes here ∷ []) [] ++ cond ((b && not c) && not (a && d)) (record (top_step f Records here) { size = 0 } ∷ []) []

      abbrev folders_at : Bool → Bool → Bool → Bool → List Folder
      folders_at a d b c = cond (a && d) (record { entries = e; records = cond ((a && d) && (b && not c)) (Some f) None; holder = here; depth = depth; named = named } ∷ []) []
          ++ cond (b && c) (record { entries = f; records = None; holder = here; depth = depth; named = false } ∷ []) []

      alone_at : f.active ≡ true → IsStepOf device image at l (k + 1) (record (top_step f Records here) { size = 0 })
      alone_at active = let s = top_at (k + 1) f Records active v in record { has = s.has; holder = s.holder; pointer = s.pointer; kind = s.kind; tag = s.tag; not_root = s.not_root }

      two : (a d b c : Bool) → e.active ≡ a → f.active ≡ b → AreTwo device image at k (steps_at a d b c) (folders_at a d b c)
      two false d false c x y = both k [] [] [] [] [] refl (absent k (w.rest x)) (absent (k + 1) (v.rest y))
      two false d true false x y = both k [] _ [] [] [] refl (absent k (w.rest x)) (as_step (k + 1) _ (alone_at y))
      two false d true true x y = both k [] [] [] _ _ refl (absent k (w.rest x)) (as_folder (k + 1) _ (top_at (k + 1) f Bytes y v))
      two true false false c x y = both k _ [] [] [] [] refl (as_step k _ (top_at k e Bytes x w)) (absent (k + 1) (v.rest y))
      two true false true false x y = both k _ _ [] [] [] refl (as_step k _ (top_at k e Bytes x w)) (as_step (k + 1) _ (alone_at y))
      two true false true true x y = both k _ [] [] _ _ refl (as_step k _ (top_at k e Bytes x w)) (as_folder (k + 1) _ (top_at (k + 1) f Bytes y v))
      two true true false c x y = both k [] [] _ [] _ refl (as_folder k _ (top_at k e Bytes x w)) (absent (k + 1) (v.rest y))
      two true true true false x y = both k [] [] _ _ _ refl (as_folder k _ (top_at k e Bytes x w)) (as_folder (k + 1) _ (top_at (k + 1) f Records y v))
      two true true true true x y = both k [] [] _ _ _ refl (as_folder k _ (top_at k e Bytes x w)) (as_folder (k + 1) _ (top_at (k + 1) f Bytes y v))

      pub pair : AreTwo device image at k (pair_steps here e f) (pair_folders here e f depth named)
      pair = two e.active e.dir f.active f.dir refl refl

    pub pairs : (bytes : Block) (depth : ℕ) (named : Bool) (n : ℕ) (folders : List Folder) → ((i : ℕ) → i < 2 * n → HasSlot (image at) bytes i) → AreFolders here (image at) depth named n folders → Sprouts device image at (2 * n) (steps_by_pairs here (image at) n) folders
    pairs bytes depth named n folders each none = none_yet (steps_by_pairs here (image at) zero) (no_pairs here (image at))
    pairs bytes depth named n folders each (more k found old are) =
        let a : IsEntryAt (image at) (2 * k) (entry_of ((image at).slot (2 * k))) = entry_is (image at) bytes (2 * k) (each (2 * k) (omega arith)) in
        let b : IsEntryAt (image at) (2 * k + 1) (entry_of ((image at).slot (2 * k + 1))) = entry_is (image at) bytes (2 * k + 1) (each (2 * k + 1) (omega arith)) in
        let e : Entry = entry_of ((image at).slot (2 * k)) in
        let f : Entry = entry_of ((image at).slot (2 * k + 1)) in
        let more_steps : steps_by_pairs here (image at) (suc k) ≡ steps_by_pairs here (image at) k ++ pair_steps here e f = one_pair here (image at) k in
        let end : 2 * k + 2 ≡ 2 * suc k = omega arith in
        subst (λ (m : ℕ). Sprouts device image at m (steps_by_pairs here (image at) (suc k)) (old ++ pair_folders here e f depth (named && found))) end
        (subst (λ (s : List Step). Sprouts device image at (2 * k + 2) s (old ++ pair_folders here e f depth (named && found))) (sym more_steps)
        (two_more (2 * k) (steps_by_pairs here (image at) k) (pair_steps here e f) old (pair_folders here e f depth (named && found))
        (pairs bytes depth named k old (λ i lt. each i (omega (arith, lt))) are) (pair (2 * k) depth (named && found) e f a b)))

-- A block was entered: each of its slots that leads anywhere is left once more, in a step or in a folder.
pub record Enters (device : List Block) (image : Image) (at : ℕ) (steps steps' : List Step) (folders folders' : List Folder) : Type 0 where
  pub first : ℕ → ℕ → ℕ
  pub second : ℕ → ℕ → ℕ
  pub added : List Step
  pub added' : List Folder
  pub steps_are : steps' ≡ steps ++ added
  pub folders_are : folders' ≡ folders ++ added'
  pub first_fits : Fits device image added first
  pub second_fits : Fits device image (all_tops added') second
  pub apart : (b j : ℕ) → b ≢ at → first b j + second b j ≡ 0
  pub few : (j : ℕ) → first at j + second at j ≤ 1
  pub all : (j : ℕ) → (target ((image at).slot j) ≡ Nil) ⊎ (first at j + second at j ≡ 1)

module _ (device : List Block) (image : Image) (at : ℕ) (l : Label) (has : HasLabel device at l) (steps steps' : List Step) (folders folders' : List Folder) where
  ended : (k : ℕ) (added : List Step) (added' : List Folder) → EndsAt k (image at) → steps' ≡ steps ++ added → folders' ≡ folders ++ added' → Sprouts device image at k added added' → Enters device image at steps steps' folders folders'
  ended k added added' ends is is' w = record {
    first = w.first;
    second = w.second;
    added = added;
    added' = added';
    steps_are = is;
    folders_are = is';
    first_fits = w.first_fits;
    second_fits = w.second_fits;
    apart = w.fresh.apart;
    few = w.fresh.few;
    all = λ j. ⊎_elim (λ low. w.fresh.all j low) (λ high. inl (ends.each j high)) (cases_lt j k);
  }

  same_folders : folders' ≡ folders → folders' ≡ folders ++ []
  same_folders is = is ∙ sym (append-nil folders)

  pub enters_by : (step : Step) (kind : Kind) (depth : ℕ) (named : Bool) → l.kind ≡ kind → l.tag ≡ step.tag → (kind ≡ Root → ⊥) → HasSlots kind (image at) (block_of device at)
      → steps' ≡ steps ++ steps_of step (record { block = at; label = l }) (image at) kind → Puts (record { block = at; label = l }) (image at) depth named kind folders folders' → Enters device image at steps steps' folders folders'
  enters_by step (Data zero) depth named is tag not_root slots s f = ended 0 [] [] slots s (same_folders f) (none_yet device image at l has [] refl)
  enters_by step (Data (suc level)) depth named is tag not_root slots s f =
      ended 409 (steps_below step (Data level) (record { block = at; label = l }) (image at) 409) [] slots.1 s (same_folders f)
      (pointers device image at l has step (Data level) (λ i. sym (ap (λ (k : Kind). kind_below k ((image at).slot i)) is)) (λ i. sym (ap (λ (k : Kind). tag_below k l.tag ((image at).slot i)) is ∙ tag)) (λ e. cc) 409)
  enters_by step (Dir zero) depth named is tag not_root slots s f =
      ended 204 (steps_by_pairs (record { block = at; label = l }) (image at) 102) f.added slots.1 s f.behind
      (pairs device image at l has is (block_of device at) (min (depth + 1) (2 ^ 32 - 1)) named 102 f.added (λ i lt. slots.0 i (omega (arith, lt))) f.are)
  enters_by step (Dir (suc level)) depth named is tag not_root slots s f =
      ended 409 (steps_below step (Dir level) (record { block = at; label = l }) (image at) 409) [] slots.1 s (same_folders f)
      (pointers device image at l has step (Dir level) (λ i. sym (ap (λ (k : Kind). kind_below k ((image at).slot i)) is)) (λ i. sym (ap (λ (k : Kind). tag_below k l.tag ((image at).slot i)) is ∙ tag)) (λ e. cc) 409)
  enters_by step Root depth named is tag not_root slots s f = absurd (not_root refl)
