-- The leaves of a source of records, with one step more of the walk.
use Rattle.std.proofs.Common.{◌≡◌, ◌≢◌, ◌⊎◌, ⊎_elim, inl, inr, ℕ, zero, suc, ◌+◌, ◌*◌, ◌/◌, ◌%◌, ◌^◌, ◌<◌, ◌≤◌, List, [], ◌∷◌, ◌++◌, map, length, length-append, append-nil, append_assoc, refl, sym, ap, ◌∙◌, subst, arith}
use Rattle.std.proofs.Math.Nat.{pow-succ'}
use Rattle.std.specs.List.{Any, AllByRecursion}
use Rattle.std.proofs.lemmas.Bool.{cases_eq, cases_lt}
use Rattle.fo_disk.specs.Disk.{Block}
use Rattle.fo_image.specs.declared.types.Kind.{Kind}
use Rattle.fo_image.specs.declared.types.Kind.TheVariants.{Data}
use Rattle.fo_image.specs.declared.types.Label.{Label}
use Rattle.fo_image.specs.declared.types.Score.{Score}
use Rattle.fo_image.specs.declared.types.Pointer.{Pointer}
use Rattle.fo_image.specs.declared.types.Pointer.TheVariants.{Nil, Local, Score as Held}
use Rattle.fo_crash.specs.Images.{Content, Image, Arena, Link, target, meant, step as step_to, goes, way, leaf_path, depth_of, nothing}
use Rattle.fo_meta.specs.Leaf.{IsLeaf, SpellsLeaf}
use Rattle.fo_good.specs.Means.{EndsAt}
use Rattle.fo_good.specs.Trees.{IsWithin}
use Rattle.fo_good.specs.Sound.{Kept}
use Rattle.fo_check_names.specs.Names.{named_in}
use Rattle.fo_check_names.specs.declared.names.Named.{Named}
use Rattle.fo_check_labels.specs.declared.labels.Known.{Known}
use Rattle.fo_check_tree.specs.declared.walk.Holder.{Holder}
use Rattle.fo_check_tree.specs.declared.walk.Step.{Step}
use Rattle.fo_check_labels.specs.Known.{Ascend, IsKnown, Marks}
use Rattle.fo_check_tree.specs.Answer.{IsAlone}
use Rattle.fo_check_tree.specs.Walking.{Reached}
use Rattle.fo_check_tree.specs.Slots.{index_below, step_below, steps_by, steps_below}
use Rattle.fo_check_tree.specs.Listing.{AddsNamed, SomeOf, Leaf, IsSeen, IsInSource, IsOnWay, IsListed, IsListing}
use Rattle.fo_check_tree.specs.Listing.AddsNamed.{none, some}
use Rattle.fo_check_tree.proofs.Paths.{slot_end}
use Rattle.fo_check_tree.proofs.Reaching.{reached_kept, not_before, reached_new}
use Rattle.fo_check_tree.proofs.Slots.{none_below, one_below}

-- ---- lists

module _ {X : Type 0} (P : X → Type 0) where
  pub all_join : (xs ys : List X) → AllByRecursion P xs → AllByRecursion P ys → AllByRecursion P (xs ++ ys)
  all_join [] ys a b = b
  all_join (x ∷ xs) ys a b = (a.0, all_join xs ys a.1 b)

  pub all_front : (xs ys : List X) → AllByRecursion P (xs ++ ys) → AllByRecursion P xs
  all_front [] ys a = tt
  all_front (x ∷ xs) ys a = (a.0, all_front xs ys a.1)

  pub all_back : (xs ys : List X) → AllByRecursion P (xs ++ ys) → AllByRecursion P ys
  all_back [] ys a = a
  all_back (x ∷ xs) ys a = all_back xs ys a.1

  pub some_left : (xs ys : List X) → SomeOf P xs → SomeOf P (xs ++ ys)
  some_left [] ys s = absurd s
  some_left (x ∷ xs) ys s = ⊎_elim (λ (h : P x). inl h) (λ (h : SomeOf P xs). inr (some_left xs ys h)) s

  pub some_right : (xs ys : List X) → SomeOf P ys → SomeOf P (xs ++ ys)
  some_right [] ys s = s
  some_right (x ∷ xs) ys s = inr (some_right xs ys s)

  pub some_parts : (xs ys : List X) → SomeOf P (xs ++ ys) → SomeOf P xs ⊎ SomeOf P ys
  some_parts [] ys s = inr s
  some_parts (x ∷ xs) ys s = ⊎_elim (λ (h : P x). inl (inl h)) (λ (h : SomeOf P (xs ++ ys)). ⊎_elim (λ (a : SomeOf P xs). inl (inr a)) (λ (b : SomeOf P ys). inr b) (some_parts xs ys h)) s

pub all_by : {X : Type 0} (P Q : X → Type 0) → ((x : X) → P x → Q x) → (xs : List X) → AllByRecursion P xs → AllByRecursion Q xs
all_by P Q f [] a = tt
all_by P Q f (x ∷ xs) a = (f x a.0, all_by P Q f xs a.1)

length_none : (xs : List ℕ) → length xs ≡ 0 → xs ≡ []
length_none [] e = refl
length_none (x ∷ xs) e = absurd (omega (arith, e))

cons_parts : (a b : ℕ) (p q : List ℕ) → a ∷ p ≡ b ∷ q → (a ≡ b) × (p ≡ q)
cons_parts a b p q e = (cc, cc)

data_level : {a b : ℕ} → Data a ≡ Data b → a ≡ b
data_level e = cc

-- ---- paths to leaves

pub way_long : (d k : ℕ) (p : List ℕ) → length (way d k p) ≡ d + length p
way_long zero k p = omega arith
way_long (suc d) k p =
    let e : length (way d (k / 409) (k % 409 ∷ p)) ≡ d + suc (length p) = way_long d (k / 409) (k % 409 ∷ p) in
    e ∙ omega arith

pub way_same : (d n m : ℕ) (p q : List ℕ) → n < 409 ^ d → m < 409 ^ d → way d n p ≡ way d m q → (n ≡ m) × (p ≡ q)
way_same zero n m p q a b e = (omega (arith, a, b), e)
way_same (suc d) n m p q a b e =
    let up : 409 ^ suc d ≡ 409 * 409 ^ d = pow-succ' 409 d in
    let r = way_same d (n / 409) (m / 409) (n % 409 ∷ p) (m % 409 ∷ q) (omega (arith, a, up)) (omega (arith, b, up)) e in
    let h = cons_parts (n % 409) (m % 409) p q r.1 in
    (omega (arith, r.0, h.0), h.1)

pow_small : (n : ℕ) → n ≤ 3 → 409 ^ n ≤ 68417929
pow_small zero le = omega arith
pow_small (suc zero) le = omega arith
pow_small (suc (suc zero)) le = omega arith
pow_small (suc (suc (suc zero))) le = omega arith
pow_small (suc (suc (suc (suc n)))) le = absurd (omega (arith, le))

-- ---- one source

module _ (arena : Arena) (image : Image) (empty : (kind : Kind) (score : Score) → arena kind score ≡ nothing) where
  pub goes_join : (p q : List ℕ) (w : Link) → goes arena image w (p ++ q) ≡ goes arena image (goes arena image w p) q
  goes_join [] q w = refl
  goes_join (i ∷ p) q w = goes_join p q (step_to arena image w i)

  by_pointer : (kind : Kind) (p : Pointer) (i b : ℕ) → ((a : ℕ) → p ≢ Local a) → target ((meant arena image kind p).slot i) ≡ Local b → ⊥
  by_pointer kind Nil i b isnt e = cc
  by_pointer kind (Local a) i b isnt e = isnt a refl
  by_pointer kind (Held x) i b isnt e = let n : Nil ≡ Local b = sym (ap (λ (c : Content). target (c.slot i)) (empty kind x)) ∙ e in cc

  pub lost : (path : List ℕ) (w : Link) → ((a : ℕ) → target w.slot ≢ Local a) → (b : ℕ) → target ((goes arena image w path).slot) ≡ Local b → ⊥
  lost [] w isnt b e = isnt b e
  lost (i ∷ path) w isnt b e = lost path (step_to arena image w i) (λ a h. by_pointer w.kind (target w.slot) i a isnt h) b e

  module _ (k : Kept) (meta : Link) where
    pub along : (p q : List ℕ) (at : ℕ) → target ((goes arena image meta (p ++ q)).slot) ≡ Local at → target ((goes arena image (goes arena image meta p) q).slot) ≡ Local at
    along p q at e = ap (λ (v : Link). target v.slot) (sym (goes_join p q meta)) ∙ e

    -- Nothing is behind a step that leads to no block.
    pub off_way : (path : List ℕ) (step : Step) (at : ℕ) → ((a : ℕ) → step.pointer ≢ Local a) → target ((goes arena image meta path).slot) ≡ Local at → IsOnWay arena image meta path step → ⊥
    off_way path step at isnt leads w =
        lost w.more (goes arena image meta w.source.path) (λ a e. isnt a (w.source.pointer ∙ e)) at
        (along w.source.path w.more at (ap (λ (p : List ℕ). target ((goes arena image meta p).slot)) (sym w.is) ∙ leads))

    module _ (known : List Known) (steps : List Step) (step : Step) (named : List Named) (l : IsListing arena image k meta known (steps ++ step ∷ []) named) where
      pub one_source : IsInSource arena image meta step
      one_source = (all_back (IsInSource arena image meta) steps (step ∷ []) l.sources).0

      -- where the leaf is left: by another step, or by this one
      parts : (path : List ℕ) → SomeOf (IsOnWay arena image meta path) (steps ++ step ∷ []) → SomeOf (IsOnWay arena image meta path) steps ⊎ IsOnWay arena image meta path step
      parts path s = ⊎_elim (λ (a : SomeOf (IsOnWay arena image meta path) steps). inl a) (λ (b : SomeOf (IsOnWay arena image meta path) (step ∷ [])). ⊎_elim (λ (w : IsOnWay arena image meta path step). inr w) (λ (no' : ⊥). absurd no') b)
          (some_parts (IsOnWay arena image meta path) steps (step ∷ []) s)

      -- A step was taken behind which no leaf is.
      pub shorter : ((n at : ℕ) → IsAlone arena image k at → IsListed arena image meta n at → IsOnWay arena image meta (leaf_path meta.slot n) step → ⊥) → IsListing arena image k meta known steps named
      shorter none' = record {
        room = l.room;
        shallow = l.shallow;
        leaves = l.leaves;
        named_is = l.named_is;
        right = l.right;
        seen = l.seen;
        apart = l.apart;
        sources = all_front (IsInSource arena image meta) steps (step ∷ []) l.sources;
        whole = λ n at h alone. ⊎_elim
            (λ (s : SomeOf (IsOnWay arena image meta (leaf_path meta.slot n)) (steps ++ step ∷ [])). ⊎_elim
            (λ (a : SomeOf (IsOnWay arena image meta (leaf_path meta.slot n)) steps). inl a)
            (λ (w : IsOnWay arena image meta (leaf_path meta.slot n) step). absurd (none' n at alone h w))
            (parts (leaf_path meta.slot n) s))
            (λ (v : SomeOf (λ (u : Leaf). u.path ≡ leaf_path meta.slot n) l.leaves). inr v)
            (l.whole n at h alone);
      }

      -- ---- to a block that is reached now

      module _ (known' : List Known) (below : ℕ) (m : Label) (up : Ascend known) (marks : Marks below known known') (has : Any (IsKnown below m) known) (is : step.pointer ≡ Local below) where
        seen_still : (v : Leaf) → IsSeen known v → IsSeen known' v
        seen_still v h = (h.0, reached_kept known known' below up marks v.block h.0 h.1)

        leads_here : (s : IsInSource arena image meta step) → target ((goes arena image meta s.path).slot) ≡ Local below
        leads_here s = sym s.pointer ∙ is

        local_is : (a b : ℕ) → Local a ≡ Local b → a ≡ b
        local_is a b e = cc

        -- ---- a leaf

        module _ (leaf : step.kind ≡ Data 0) where
          full : (s : IsInSource arena image meta step) → length s.path ≡ depth_of meta.slot
          full s = let none' : s.level ≡ 0 = data_level (sym s.kind ∙ leaf) in omega (arith, none', s.depth)

          path_here : (s : IsInSource arena image meta step) → leaf_path meta.slot step.index ≡ s.path
          path_here s = ap (λ (d : ℕ). way d step.index []) (sym (full s)) ∙ s.index [] ∙ append-nil s.path

          ends_here : (n : ℕ) (w : IsOnWay arena image meta (leaf_path meta.slot n) step) → leaf_path meta.slot n ≡ w.source.path
          ends_here n w =
              let long : length (leaf_path meta.slot n) ≡ depth_of meta.slot + 0 = way_long (depth_of meta.slot) n [] in
              let parts' : length (leaf_path meta.slot n) ≡ length w.source.path + length w.more = ap (λ (p : List ℕ). length p) w.is ∙ length-append w.source.path w.more in
              let rest : w.more ≡ [] = length_none w.more (omega (arith, long, parts', full w.source)) in
              w.is ∙ ap (λ (p : List ℕ). w.source.path ++ p) rest ∙ append-nil w.source.path

          same_number : (n : ℕ) → IsWithin meta.slot n → (w : IsOnWay arena image meta (leaf_path meta.slot n) step) → n ≡ step.index
          same_number n within w =
              let few : step.index < 409 ^ depth_of meta.slot = subst (λ (d : ℕ). step.index < 409 ^ d) (full w.source) w.source.few in
              let low : n < 409 ^ depth_of meta.slot = omega (arith, within, l.room) in
              (way_same (depth_of meta.slot) n step.index [] [] low few (ends_here n w ∙ sym (path_here w.source))).0

          block_here : (n at : ℕ) → IsListed arena image meta n at → IsOnWay arena image meta (leaf_path meta.slot n) step → at ≡ below
          block_here n at h w = local_is at below (sym h.leads ∙ ap (λ (p : List ℕ). target ((goes arena image meta p).slot)) (ends_here n w) ∙ leads_here w.source)

          other_block : (v : Leaf) → IsSeen known v → v.block ≡ below → ⊥
          other_block v h same = not_before known known' below up marks h.0 (subst (λ (b : ℕ). Reached known b h.0) same h.1)

          module _ (bytes : Block) (same_bytes : (image below).bytes ≡ bytes) where
            leaf_bytes : (n at : ℕ) → IsListed arena image meta n at → IsOnWay arena image meta (leaf_path meta.slot n) step → IsLeaf bytes
            leaf_bytes n at h w = subst (λ (b : Block). IsLeaf b) (ap (λ (a : ℕ). (image a).bytes) (block_here n at h w) ∙ same_bytes) h.leaf

            pub one_leaf : (named' : List Named) → AddsNamed step below bytes named named' → IsListing arena image k meta known' steps named'
            one_leaf named' (none same past) = record {
              room = l.room;
              shallow = l.shallow;
              leaves = l.leaves;
              named_is = same ∙ l.named_is;
              right = l.right;
              seen = all_by (IsSeen known) (IsSeen known') seen_still l.leaves l.seen;
              apart = l.apart;
              sources = all_front (IsInSource arena image meta) steps (step ∷ []) l.sources;
              whole = λ n at h alone. ⊎_elim
                  (λ (s : SomeOf (IsOnWay arena image meta (leaf_path meta.slot n)) (steps ++ step ∷ [])). ⊎_elim
                  (λ (a : SomeOf (IsOnWay arena image meta (leaf_path meta.slot n)) steps). inl a)
                  (λ (w : IsOnWay arena image meta (leaf_path meta.slot n) step).
                  absurd (omega (arith, past w.source.holds (leaf_bytes n at h w), h.within, w.source.size, same_number n h.within w)))
                  (parts (leaf_path meta.slot n) s))
                  (λ (v : SomeOf (λ (u : Leaf). u.path ≡ leaf_path meta.slot n) l.leaves). inr v)
                  (l.whole n at h alone);
            }
            one_leaf named' (some records spelled within grown) =
                let s = one_source in
                let v : Leaf = record { index = step.index; path = s.path; block = below; records = records } in
                record {
                  room = l.room;
                  shallow = l.shallow;
                  leaves = v ∷ l.leaves;
                  named_is = grown ∙ ap (λ (xs : List Named). xs ++ map (named_in below) records) l.named_is;
                  right = (
                    record {
                      leads = leads_here s;
                      path_is = path_here s;
                      within = omega (arith, within, s.size);
                      spelled = subst (λ (b : Block). SpellsLeaf records b) (sym same_bytes) spelled;
                    },
                    l.right,
                  );
                  seen = ((m, reached_new known known' below up marks m has), all_by (IsSeen known) (IsSeen known') seen_still l.leaves l.seen);
                  apart = (all_by (IsSeen known) (λ (u : Leaf). u.block ≡ below → ⊥) other_block l.leaves l.seen, l.apart);
                  sources = all_front (IsInSource arena image meta) steps (step ∷ []) l.sources;
                  whole = λ n at h alone. ⊎_elim
                      (λ (t : SomeOf (IsOnWay arena image meta (leaf_path meta.slot n)) (steps ++ step ∷ [])). ⊎_elim
                      (λ (a : SomeOf (IsOnWay arena image meta (leaf_path meta.slot n)) steps). inl a)
                      (λ (w : IsOnWay arena image meta (leaf_path meta.slot n) step).
                      inr (inl (sym (path_here s) ∙ ap (λ (i : ℕ). leaf_path meta.slot i) (sym (same_number n h.within w)))))
                      (parts (leaf_path meta.slot n) t))
                      (λ (u : SomeOf (λ (x : Leaf). x.path ≡ leaf_path meta.slot n) l.leaves). inr (inr u))
                      (l.whole n at h alone);
                }

        -- ---- a block of pointers

        module _ (level : ℕ) (inner : step.kind ≡ Data (suc level)) (here : Holder) (ends : EndsAt 409 (image below)) where
          level_is : (s : IsInSource arena image meta step) → s.level ≡ suc level
          level_is s = data_level (sym s.kind ∙ inner)

          long_is : (s : IsInSource arena image meta step) (i : ℕ) → length (s.path ++ i ∷ []) ≡ suc (length s.path)
          long_is s i = let e : length (s.path ++ i ∷ []) ≡ length s.path + 1 = length-append s.path (i ∷ []) in omega (arith, e)

          index_is : (s : IsInSource arena image meta step) (i : ℕ) → i < 409 → index_below step.index i ≡ step.index * 409 + i
          index_is s i lt =
              let few : step.index < 68417929 = omega (arith, s.few, pow_small (length s.path) (omega (arith, s.depth, l.shallow, level_is s))) in
              omega (arith, few, lt)

          index_on : (s : IsInSource arena image meta step) (i : ℕ) → i < 409 → (more : List ℕ) → way (length (s.path ++ i ∷ [])) (index_below step.index i) more ≡ (s.path ++ i ∷ []) ++ more
          index_on s i lt more =
              let div : (step.index * 409 + i) / 409 ≡ step.index = omega (arith, lt) in
              let rem : (step.index * 409 + i) % 409 ≡ i = omega (arith, lt) in
              ap (λ (d : ℕ). way d (index_below step.index i) more) (long_is s i)
              ∙ ap (λ (x : ℕ). way (length s.path) (x / 409) (x % 409 ∷ more)) (index_is s i lt)
              ∙ ap (λ (x : ℕ). way (length s.path) x ((step.index * 409 + i) % 409 ∷ more)) div
              ∙ ap (λ (x : ℕ). way (length s.path) step.index (x ∷ more)) rem
              ∙ s.index (i ∷ more)
              ∙ sym (append_assoc s.path (i ∷ []) more)

          few_on : (s : IsInSource arena image meta step) (i : ℕ) → i < 409 → index_below step.index i < 409 ^ length (s.path ++ i ∷ [])
          few_on s i lt =
              let up : 409 ^ suc (length s.path) ≡ 409 * 409 ^ length s.path = pow-succ' 409 (length s.path) in
              let low : index_below step.index i < 409 ^ suc (length s.path) = omega (arith, up, s.few, lt, index_is s i lt) in
              subst (λ (d : ℕ). index_below step.index i < 409 ^ d) (sym (long_is s i)) low

          source_on : (s : IsInSource arena image meta step) (i : ℕ) (p : Pointer) → i < 409 → target ((image below).slot i) ≡ p → IsInSource arena image meta (step_below step (Data level) here i p)
          source_on s i p lt leads = record {
            path = s.path ++ i ∷ [];
            level = level;
            kind = refl;
            pointer = sym (ap target (slot_end arena image s.path meta i below (leads_here s)) ∙ leads);
            depth = omega (arith, s.depth, level_is s, long_is s i);
            index = index_on s i lt;
            few = few_on s i lt;
            size = s.size;
            holds = s.holds;
          }

          all_by_pointer : (i : ℕ) (p : Pointer) → i < 409 → target ((image below).slot i) ≡ p → AllByRecursion (IsInSource arena image meta) (steps_by step (Data level) here i p)
          all_by_pointer i Nil lt leads = tt
          all_by_pointer i (Local a) lt leads = (source_on one_source i (Local a) lt leads, tt)
          all_by_pointer i (Held x) lt leads = (source_on one_source i (Held x) lt leads, tt)

          all_below : (n : ℕ) → n ≤ 409 → AllByRecursion (IsInSource arena image meta) (steps_below step (Data level) here (image below) n)
          all_below zero le = subst (λ (s : List Step). AllByRecursion (IsInSource arena image meta) s) (sym (none_below step (Data level) here (image below))) tt
          all_below (suc n) le = subst (λ (s : List Step). AllByRecursion (IsInSource arena image meta) s) (sym (one_below step (Data level) here (image below) n))
              (all_join (IsInSource arena image meta) (steps_below step (Data level) here (image below) n) (steps_by step (Data level) here n (target ((image below).slot n)))
              (all_below n (omega (arith, le))) (all_by_pointer n (target ((image below).slot n)) (omega (arith, le)) refl))

          -- ---- the way on, by one of its slots

          module _ (path : List ℕ) where
            some_below : (n j a : ℕ) → j < n → target ((image below).slot j) ≡ Local a → IsOnWay arena image meta path (step_below step (Data level) here j (Local a)) → SomeOf (IsOnWay arena image meta path) (steps_below step (Data level) here (image below) n)
            some_below zero j a lt leads w = absurd (omega (arith, lt))
            some_below (suc n) j a lt leads w = subst (λ (s : List Step). SomeOf (IsOnWay arena image meta path) s) (sym (one_below step (Data level) here (image below) n)) (⊎_elim
                (λ (same : j ≡ n). some_right (IsOnWay arena image meta path) (steps_below step (Data level) here (image below) n) (steps_by step (Data level) here n (target ((image below).slot n)))
                (subst (λ (p : Pointer). SomeOf (IsOnWay arena image meta path) (steps_by step (Data level) here n p)) (sym leads ∙ ap (λ (i : ℕ). target ((image below).slot i)) same)
                (inl (subst (λ (i : ℕ). IsOnWay arena image meta path (step_below step (Data level) here i (Local a))) same w))))
                (λ (apart : j ≢ n). some_left (IsOnWay arena image meta path) (steps_below step (Data level) here (image below) n) (steps_by step (Data level) here n (target ((image below).slot n)))
                (some_below n j a (omega (arith, lt, apart)) leads w))
                (cases_eq j n))

            by_slot : (s : IsInSource arena image meta step) (j : ℕ) (more : List ℕ) (at : ℕ) → path ≡ s.path ++ j ∷ more → target ((goes arena image meta path).slot) ≡ Local at → (p : Pointer) → target ((image below).slot j) ≡ p
                → SomeOf (IsOnWay arena image meta path) (steps_below step (Data level) here (image below) 409)
            unfolding source_on
            by_slot s j more at is' leads p slot = go p slot
              where
                longer : path ≡ (s.path ++ j ∷ []) ++ more
                longer = is' ∙ sym (append_assoc s.path (j ∷ []) more)

                down : target ((goes arena image (goes arena image meta (s.path ++ j ∷ [])) more).slot) ≡ Local at
                down = along (s.path ++ j ∷ []) more at (ap (λ (q : List ℕ). target ((goes arena image meta q).slot)) (sym longer) ∙ leads)

                top : target ((goes arena image meta (s.path ++ j ∷ [])).slot) ≡ target ((image below).slot j)
                top = ap target (slot_end arena image s.path meta j below (leads_here s))

                go : (p : Pointer) → target ((image below).slot j) ≡ p → SomeOf (IsOnWay arena image meta path) (steps_below step (Data level) here (image below) 409)
                go Nil e = absurd (lost more (goes arena image meta (s.path ++ j ∷ [])) (λ a h. let n : Nil ≡ Local a = sym e ∙ sym top ∙ h in cc) at down)
                go (Held x) e = absurd (lost more (goes arena image meta (s.path ++ j ∷ [])) (λ a h. let n : Held x ≡ Local a = sym e ∙ sym top ∙ h in cc) at down)
                go (Local a) e = ⊎_elim
                    (λ (lt : j < 409). some_below 409 j a lt e (record { source = source_on s j (Local a) lt e; more = more; is = longer }))
                    (λ (ge : 409 ≤ j). let n : Nil ≡ Local a = sym (ends.each j ge) ∙ e in absurd (cc))
                    (cases_lt j 409)

          way_on : (n at : ℕ) → IsListed arena image meta n at → (w : IsOnWay arena image meta (leaf_path meta.slot n) step) → SomeOf (IsOnWay arena image meta (leaf_path meta.slot n)) (steps_below step (Data level) here (image below) 409)
          way_on n at h w = by w.more w.is
            where
              long : length (leaf_path meta.slot n) ≡ depth_of meta.slot + 0
              long = way_long (depth_of meta.slot) n []

              by : (more : List ℕ) → leaf_path meta.slot n ≡ w.source.path ++ more → SomeOf (IsOnWay arena image meta (leaf_path meta.slot n)) (steps_below step (Data level) here (image below) 409)
              by [] e =
                  let same : length (leaf_path meta.slot n) ≡ length w.source.path = ap (λ (p : List ℕ). length p) (e ∙ append-nil w.source.path) in
                  absurd (omega (arith, long, same, w.source.depth, level_is w.source))
              by (j ∷ more) e = by_slot (leaf_path meta.slot n) w.source j more at e h.leads (target ((image below).slot j)) refl

          pub one_inner : IsListing arena image k meta known' (steps ++ steps_below step (Data level) here (image below) 409) named
          one_inner = record {
            room = l.room;
            shallow = l.shallow;
            leaves = l.leaves;
            named_is = l.named_is;
            right = l.right;
            seen = all_by (IsSeen known) (IsSeen known') seen_still l.leaves l.seen;
            apart = l.apart;
            sources = all_join (IsInSource arena image meta) steps (steps_below step (Data level) here (image below) 409) (all_front (IsInSource arena image meta) steps (step ∷ []) l.sources) (all_below 409 (omega arith));
            whole = λ n at h alone. ⊎_elim
                (λ (s : SomeOf (IsOnWay arena image meta (leaf_path meta.slot n)) (steps ++ step ∷ [])). inl (⊎_elim
                (λ (a : SomeOf (IsOnWay arena image meta (leaf_path meta.slot n)) steps). some_left (IsOnWay arena image meta (leaf_path meta.slot n)) steps (steps_below step (Data level) here (image below) 409) a)
                (λ (w : IsOnWay arena image meta (leaf_path meta.slot n) step). some_right (IsOnWay arena image meta (leaf_path meta.slot n)) steps (steps_below step (Data level) here (image below) 409) (way_on n at h w))
                (parts (leaf_path meta.slot n) s)))
                (λ (v : SomeOf (λ (u : Leaf). u.path ≡ leaf_path meta.slot n) l.leaves). inr v)
                (l.whole n at h alone);
          }
