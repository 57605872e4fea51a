-- The leaves of a source of entries, while it is walked: in each that was read the records are marked whose pairs are there.
use Rattle.std.proofs.Common.{◌≡◌, ◌≢◌, ◌⊎◌, ⊎_elim, inl, inr, ℕ, zero, suc, ◌+◌, ◌*◌, ◌/◌, ◌%◌, ◌^◌, ◌<◌, ◌≤◌, Bool, true, false, List, [], ◌∷◌, ◌++◌, length, length-append, append-nil, append_assoc, get_or, refl, sym, ap, ◌∙◌, subst, arith}
use Rattle.std.specs.Prelude.{◌||◌}
use Rattle.std.specs.List.Sorted.{IsNonDecreasingBy}
use Rattle.std.proofs.Math.Nat.{pow-succ', div-div-eq-div-mul}
use Rattle.std.proofs.lemmas.Bool.{cases_eq, cases_lt}
use Rattle.fo_disk.specs.Disk.{Block}
use Rattle.fo_image.specs.declared.types.Kind.{Kind}
use Rattle.fo_image.specs.declared.types.Kind.TheVariants.{Data, Dir}
use Rattle.fo_image.specs.declared.types.Super.{Super}
use Rattle.fo_image.specs.declared.types.Score.{Score}
use Rattle.fo_image.specs.declared.types.Pointer.{Pointer}
use Rattle.fo_image.specs.declared.types.Pointer.TheVariants.{Nil, Local, Score as Held}
use Rattle.fo_image.specs.declared.record.Record.{Record}
use Rattle.fo_crash.specs.declared.slot.Slot.{Slot}
use Rattle.fo_crash.specs.declared.slot.Slot.TheVariants.{Pointer as To, Entry as Head, Prev}
use Rattle.fo_crash.specs.Images.{Image, Arena, Link, target, goes, way, leaf_path, depth_of}
use Rattle.fo_sound.specs.Image.{block_of}
use Rattle.fo_good.specs.Means.{EndsAt}
use Rattle.fo_good.specs.Trees.{IsFirst, IsSecond}
use Rattle.fo_good.specs.Sound.{Kept}
use Rattle.fo_check_names.specs.Finds.{Misses, leaf_for, row_for}
use Rattle.fo_check_names.specs.Names.{slot_of}
use Rattle.fo_check_names.specs.declared.names.Named.{Named}
use Rattle.fo_check_tree.specs.declared.walk.Holder.{Holder}
use Rattle.fo_check_tree.specs.declared.walk.Step.{Step}
use Rattle.fo_check_tree.specs.declared.walk.Walk.{Walk}
use Rattle.fo_check_tree.specs.Follows.{Reaches, Follows}
use Rattle.fo_check_tree.specs.Follows.Reaches.{again, enters}
use Rattle.fo_check_tree.specs.Follows.Follows.{nowhere, held, local}
use Rattle.fo_check_tree.specs.Listing.{SomeOf, Adds}
use Rattle.fo_check_tree.specs.Lower.{level}
use Rattle.fo_check_tree.specs.Pairing.{SameRecords, pair_number, IsApart, Asks, AsksOf, Searches, Seeks, IsInEntries, IsQuiet, IsEntriesStep, AreSought, IsOnEntries, IsAsked, AreAsked, IsMissedBy, MissesBy, IsHidden, AreHidden}
use Rattle.fo_check_tree.specs.Slots.{HasSlots, steps_of, steps_below, entry_of}
use Rattle.fo_check_tree.specs.Walking.{Walking}
use Rattle.fo_check_tree.proofs.Asking.{apart_same}
use Rattle.fo_check_tree.proofs.Formatting.{some_slot}
use Rattle.fo_check_tree.proofs.Leaves.{goes_join, lost, all_back, some_left, some_right, some_parts, way_same, way_long}
use Rattle.fo_check_tree.proofs.Paths.{slot_end}
use Rattle.fo_check_tree.proofs.Seeking.{source_on, path_here, number_is, no_names, pow_small}
use Rattle.fo_check_tree.proofs.Stepping.{again_breaks, taken_of, slots_on}

dir_level : {a b : ℕ} → Dir a ≡ Dir b → a ≡ b
dir_level e = cc

data_dir : (a b : ℕ) → Data a ≡ Dir b → ⊥
data_dir a b e = cc

local_is : (a b : ℕ) → Local a ≡ Local b → a ≡ b
local_is a b e = cc

not_nil : (a : ℕ) → Nil ≡ Local a → ⊥
not_nil a e = cc

not_held : {x : Score} → (a : ℕ) → Held x ≡ Local a → ⊥
not_held a e = cc

first_by : (s : Slot) (r : Record) → IsFirst s r → IsFirst (Head (entry_of s)) r
first_by (Head e) r h = h
first_by (To p) r h = absurd h
first_by (Prev epoch at) r h = absurd h

second_by : (s : Slot) (r : Record) → IsSecond s r → IsSecond (Head (entry_of s)) r
second_by (Head e) r h = h
second_by (To p) r h = absurd h
second_by (Prev epoch at) r h = absurd h

none_long : (xs : List ℕ) → length xs ≡ 0 → xs ≡ []
none_long [] e = refl
none_long (x ∷ xs) e = absurd (omega (arith, e))

or_left : (a b : Bool) → a ≡ true → (a || b) ≡ true
or_left a b e = ap (λ (x : Bool). x || b) e

or_right : (a b : Bool) → b ≡ true → (a || b) ≡ true
or_right true b e = refl
or_right false b e = e

pub either : (a b : Bool) (P : Type 0) → (a || b) ≡ true → (a ≡ true → P) → (b ≡ true → P) → P
either true b P e f g = f refl
either false b P e f g = g e

-- ---- the row of a leaf: which block above it leads on to it

-- The way to a leaf goes by the block of its row.
way_row : (level d n : ℕ) (more : List ℕ) → (rest : List ℕ) × (way (d + level) n more ≡ way d (n / 409 ^ level) rest)
way_row zero d n more = let e : d + 0 ≡ d = omega arith in let one' : n ≡ n / 409 ^ 0 = omega arith in (more, ap (λ (x : ℕ). way x n more) e ∙ ap (λ (x : ℕ). way d x more) one')
way_row (suc level) d n more =
    let r = way_row level d (n / 409) (n % 409 ∷ more) in
    let e : d + suc level ≡ suc (d + level) = omega arith in
    let row : n / 409 / 409 ^ level ≡ n / 409 ^ suc level = div-div-eq-div-mul n 409 (409 ^ level) ∙ ap (λ (x : ℕ). n / x) (sym (pow-succ' 409 level)) in
    (r.0, ap (λ (x : ℕ). way x n more) e ∙ r.1 ∙ ap (λ (x : ℕ). way d x r.0) row)

row_small : (n d level : ℕ) → n < 409 ^ (d + level) → n / 409 ^ level < 409 ^ d
row_small n d zero lt = let e : d + 0 ≡ d = omega arith in let one' : n / 409 ^ 0 ≡ n = omega arith in omega (arith, subst (λ (x : ℕ). n < 409 ^ x) e lt, one')
row_small n d (suc level) lt =
    let e : d + suc level ≡ suc (d + level) = omega arith in
    let lt' : n < 409 ^ suc (d + level) = subst (λ (x : ℕ). n < 409 ^ x) e lt in
    let up : 409 ^ suc (d + level) ≡ 409 * 409 ^ (d + level) = pow-succ' 409 (d + level) in
    let row : n / 409 / 409 ^ level ≡ n / 409 ^ suc level = div-div-eq-div-mul n 409 (409 ^ level) ∙ ap (λ (x : ℕ). n / x) (sym (pow-succ' 409 level)) in
    omega (arith, row_small (n / 409) d level (omega (arith, lt', up)), row)

row_on : {arena : Arena} {image : Image} (entries : Link) (step : Step) (index : ℕ) (x : IsOnEntries arena image entries index step) → index < 409 ^ depth_of entries.slot → index / 409 ^ x.source.level ≡ step.index
row_on entries step index x few =
    let p = way_row x.source.level (length x.source.path) index [] in
    let deep : way (length x.source.path + x.source.level) index [] ≡ leaf_path entries.slot index = ap (λ (d : ℕ). way d index []) x.source.depth in
    let both : way (length x.source.path) (index / 409 ^ x.source.level) p.0 ≡ way (length x.source.path) step.index x.more = sym p.1 ∙ deep ∙ x.is ∙ sym (x.source.index x.more) in
    (way_same (length x.source.path) (index / 409 ^ x.source.level) step.index p.0 x.more (row_small index (length x.source.path) x.source.level (subst (λ (d : ℕ). index < 409 ^ d) (sym x.source.depth) few)) x.source.few both).0

module _ (arena : Arena) (device : List Block) (image : Image) (s : Super) (k : Kept) (rest : List Step) (step : Step) (old new : Walk) (w : Walking arena device image s k (step ∷ rest) old) (low : level new.noted ≤ level old.noted) (depth : ℕ)
    (entries : Link) (names : List Named) (a : AreSought arena image entries names old.noted (old.steps.items ++ step ∷ []) old.named.items old.folders.items) (apart : IsApart names) (b : AreAsked arena image entries (old.steps.items ++ step ∷ []) old.named.items) where
  this : IsEntriesStep arena image entries step
  this = (all_back (IsEntriesStep arena image entries) old.steps.items (step ∷ []) a.sources).0

  -- what is said once the step was taken, of leaves that were read before, and of what is behind it
  asked_by : (steps added : List Step) (named : List Named) → steps ≡ old.steps.items ++ added
      → ((index at : ℕ) → index < 409 ^ depth_of entries.slot → target ((goes arena image entries (leaf_path entries.slot index)).slot) ≡ Local at → IsAsked image index at old.named.items → IsAsked image index at named)
      → ((index at : ℕ) → index < 409 ^ depth_of entries.slot → target ((goes arena image entries (leaf_path entries.slot index)).slot) ≡ Local at → IsOnEntries arena image entries index step → SomeOf (IsOnEntries arena image entries index) added ⊎ IsAsked image index at named)
      → AreAsked arena image entries steps named
  asked_by steps added named is before behind = record {
    whole = λ index at few leads. ⊎_elim
        (λ (x : SomeOf (IsOnEntries arena image entries index) (old.steps.items ++ step ∷ [])). ⊎_elim
        (λ (l : SomeOf (IsOnEntries arena image entries index) old.steps.items). inl (subst (λ (xs : List Step). SomeOf (IsOnEntries arena image entries index) xs) (sym is) (some_left (IsOnEntries arena image entries index) old.steps.items added l)))
        (λ (r : SomeOf (IsOnEntries arena image entries index) (step ∷ [])). ⊎_elim
        (λ (v : IsOnEntries arena image entries index step). ⊎_elim
        (λ (y : SomeOf (IsOnEntries arena image entries index) added). inl (subst (λ (xs : List Step). SomeOf (IsOnEntries arena image entries index) xs) (sym is) (some_right (IsOnEntries arena image entries index) old.steps.items added y)))
        (λ (z : IsAsked image index at named). inr z)
        (behind index at few leads v))
        (λ (no' : ⊥). absurd no')
        r)
        (some_parts (IsOnEntries arena image entries index) old.steps.items (step ∷ []) x))
        (λ (z : IsAsked image index at old.named.items). inr (before index at few leads z))
        (b.whole index at few leads);
  }

  same_asked : (named : List Named) → named ≡ old.named.items → (index at : ℕ) → IsAsked image index at old.named.items → IsAsked image index at named
  same_asked named is index at z = subst (λ (xs : List Named). IsAsked image index at xs) (sym is) z

  module _ (index at : ℕ) (leads : target ((goes arena image entries (leaf_path entries.slot index)).slot) ≡ Local at) (v : IsOnEntries arena image entries index step) where
    leads_on : target ((goes arena image (goes arena image entries v.source.path) v.more).slot) ≡ Local at
    leads_on = ap (λ (u : Link). target u.slot) (sym (goes_join arena image w.holds.empty v.source.path v.more entries)) ∙ ap (λ (p : List ℕ). target ((goes arena image entries p).slot)) (sym v.is) ∙ leads

    -- Nothing is behind a step that leads to no block.
    off_way : ((c : ℕ) → step.pointer ≢ Local c) → ⊥
    off_way isnt = lost arena image w.holds.empty v.more (goes arena image entries v.source.path) (λ c e. isnt c (v.source.pointer ∙ e)) at leads_on

    more_long : length v.more ≡ v.source.level
    more_long =
        let long : length (leaf_path entries.slot index) ≡ depth_of entries.slot + 0 = way_long (depth_of entries.slot) index [] in
        let parts' : length (leaf_path entries.slot index) ≡ length v.source.path + length v.more = ap (λ (p : List ℕ). length p) v.is ∙ length-append v.source.path v.more in
        omega (arith, long, parts', v.source.depth)

    module _ (below : ℕ) (is : step.pointer ≡ Local below) where
      leads_here : target ((goes arena image entries v.source.path).slot) ≡ Local below
      leads_here = sym v.source.pointer ∙ is

      top : (j : ℕ) → target ((goes arena image entries (v.source.path ++ j ∷ [])).slot) ≡ target ((image below).slot j)
      top j = ap target (slot_end arena image v.source.path entries j below leads_here)

      longer : (j : ℕ) (more' : List ℕ) → v.more ≡ j ∷ more' → leaf_path entries.slot index ≡ (v.source.path ++ j ∷ []) ++ more'
      longer j more' e = v.is ∙ ap (λ (r : List ℕ). v.source.path ++ r) e ∙ sym (append_assoc v.source.path (j ∷ []) more')

      off_slot : (j : ℕ) (more' : List ℕ) → v.more ≡ j ∷ more' → ((c : ℕ) → target ((image below).slot j) ≢ Local c) → ⊥
      off_slot j more' e isnt = lost arena image w.holds.empty more' (goes arena image entries (v.source.path ++ j ∷ [])) (λ c h. isnt c (sym (top j) ∙ h)) at
          (ap (λ (u : Link). target u.slot) (sym (goes_join arena image w.holds.empty (v.source.path ++ j ∷ []) more' entries)) ∙ ap (λ (p : List ℕ). target ((goes arena image entries p).slot)) (sym (longer j more' e)) ∙ leads)

      module _ (level' : ℕ) (kind : step.kind ≡ Dir (suc level')) (here' : Holder) (ends : EndsAt 409 (image below)) where
        by_slot : (j : ℕ) (more' : List ℕ) → v.more ≡ j ∷ more' → (p : Pointer) → target ((image below).slot j) ≡ p → SomeOf (IsOnEntries arena image entries index) (steps_below step (Dir level') here' (image below) 409)
        by_slot j more' e Nil h = absurd (off_slot j more' e (λ c x. not_nil c (sym h ∙ x)))
        by_slot j more' e (Held y) h = absurd (off_slot j more' e (λ c x. not_held c (sym h ∙ x)))
        by_slot j more' e (Local c) h = ⊎_elim
            (λ (lt : j < 409). some_slot (IsOnEntries arena image entries index) step (Dir level') here' (image below) 409 j c lt h
            (record { source = source_on arena image entries step level' below here' v.source kind leads_here a.shallow j (Local c) lt h; more = more'; is = longer j more' e }))
            (λ (ge : 409 ≤ j). absurd (not_nil c (sym (ends.each j ge) ∙ h)))
            (cases_lt j 409)

        through : (r : List ℕ) → v.more ≡ r → SomeOf (IsOnEntries arena image entries index) (steps_below step (Dir level') here' (image below) 409)
        through [] e = let none' : length v.more ≡ 0 = ap (λ (r : List ℕ). length r) e in absurd (omega (arith, none', more_long, dir_level (sym v.source.kind ∙ kind)))
        through (j ∷ more') e = by_slot j more' e (target ((image below).slot j)) refl

      module _ (leaf : step.kind ≡ Dir zero) where
        ends_here : leaf_path entries.slot index ≡ v.source.path
        ends_here = v.is ∙ ap (λ (p : List ℕ). v.source.path ++ p) (none_long v.more (more_long ∙ dir_level (sym v.source.kind ∙ leaf))) ∙ append-nil v.source.path

        same_block : at ≡ below
        same_block = local_is at below (sym leads ∙ ap (λ (p : List ℕ). target ((goes arena image entries p).slot)) ends_here ∙ leads_here)

        same_index : index < 409 ^ depth_of entries.slot → index ≡ step.index
        same_index few =
            let full : length v.source.path ≡ depth_of entries.slot = omega (arith, dir_level (sym v.source.kind ∙ leaf), v.source.depth) in
            let few' : step.index < 409 ^ depth_of entries.slot = subst (λ (d : ℕ). step.index < 409 ^ d) full v.source.few in
            (way_same (depth_of entries.slot) index step.index [] [] few few' (ends_here ∙ sym (path_here arena image entries w.holds.empty step below v.source leaf leads_here a.shallow a.kind))).0

  -- ---- a leaf that is read now

  module _ (at : ℕ) (is : step.pointer ≡ Local at) (v : IsInEntries arena image entries step) (leaf : step.kind ≡ Dir zero) (same : SameRecords old.named.items new.named.items) (still : (i : ℕ) (d : Named) → i < length new.named.items → (get_or new.named.items i d).missed ≡ (get_or old.named.items i d).missed) (asks : step.index < 27982932961 → IsApart old.named.items → Asks step.index (image at) 102 old.named.items new.named.items) where
    leads_leaf : target ((goes arena image entries v.path).slot) ≡ Local at
    leads_leaf = sym v.pointer ∙ is

    low_path : length v.path ≤ 4
    low_path = omega (arith, v.depth, a.shallow)

    small : step.index < 27982932961
    small = omega (arith, v.few, pow_small (length v.path) low_path)

    asks_now : Asks step.index (image at) 102 old.named.items new.named.items
    asks_now = asks small (apart_same names old.named.items a.same apart)

    number : (p : ℕ) → p < 102 → pair_number step.index p ≡ step.index * 102 + p
    number p lt = number_is arena image entries w.holds.empty step at v leaf leads_leaf a.shallow a.kind p lt

    now_asked : IsAsked image step.index at new.named.items
    now_asked = record {
      each = λ p lt i d li slot x y. or_left (get_or new.named.items i d).found (get_or new.named.items i d).missed (asks_now.each p lt i d li (slot ∙ sym (number p lt)) (first_by ((image at).slot (2 * p)) (get_or new.named.items i d).listed x) (second_by ((image at).slot (2 * p + 1)) (get_or new.named.items i d).listed y));
    }

    still_asked : (index b' : ℕ) → index ≢ step.index → IsAsked image index b' old.named.items → IsAsked image index b' new.named.items
    still_asked index b' other z = record {
      each = λ p lt i d li slot x y.
          let listed : (get_or new.named.items i d).listed ≡ (get_or old.named.items i d).listed = same.each i d li in
          let was = z.each p lt i d (omega (arith, li, same.long)) (sym (ap (λ (r : Record). r.slot) listed) ∙ slot) (subst (λ (r : Record). IsFirst ((image b').slot (2 * p)) r) listed x) (subst (λ (r : Record). IsSecond ((image b').slot (2 * p + 1)) r) listed y) in
          either (get_or old.named.items i d).found (get_or old.named.items i d).missed (((get_or new.named.items i d).found || (get_or new.named.items i d).missed) ≡ true) was
          (λ found. or_left (get_or new.named.items i d).found (get_or new.named.items i d).missed (asks_now.kept i d li found (λ q lq e.
          let numbers : index * 102 + p ≡ step.index * 102 + q = sym slot ∙ e ∙ number q lq in
          other (omega (arith, numbers, lt, lq)))))
          (λ missed. or_right (get_or new.named.items i d).found (get_or new.named.items i d).missed (still i d li ∙ missed));
    }

    before_leaf : (index b' : ℕ) → index < 409 ^ depth_of entries.slot → target ((goes arena image entries (leaf_path entries.slot index)).slot) ≡ Local b' → IsAsked image index b' old.named.items → IsAsked image index b' new.named.items
    before_leaf index b' few leads z = ⊎_elim
        (λ (here' : index ≡ step.index).
        let block : at ≡ b' = local_is at b' (sym leads_leaf ∙ ap (λ (p : List ℕ). target ((goes arena image entries p).slot)) (sym (path_here arena image entries w.holds.empty step at v leaf leads_leaf a.shallow a.kind)) ∙ ap (λ (n : ℕ). target ((goes arena image entries (leaf_path entries.slot n)).slot)) (sym here') ∙ leads) in
        subst (λ (n : ℕ). IsAsked image n b' new.named.items) (sym here') (subst (λ (n : ℕ). IsAsked image step.index n new.named.items) block now_asked))
        (λ (other : index ≢ step.index). still_asked index b' other z)
        (cases_eq index step.index)

    behind_leaf : (index b' : ℕ) → index < 409 ^ depth_of entries.slot → target ((goes arena image entries (leaf_path entries.slot index)).slot) ≡ Local b' → IsOnEntries arena image entries index step → IsAsked image index b' new.named.items
    behind_leaf index b' few leads x =
        subst (λ (n : ℕ). IsAsked image n b' new.named.items) (sym (same_index index b' leads x at is leaf few)) (subst (λ (n : ℕ). IsAsked image step.index n new.named.items) (sym (same_block index b' leads x at is leaf)) now_asked)

  -- ---- a block that was entered from elsewhere

  missed_asked : (count : ℕ) → Misses step.index count old.named.items new.named.items → (index b' : ℕ) → IsAsked image index b' old.named.items → IsAsked image index b' new.named.items
  missed_asked count m index b' z = record {
    each = λ p lt i d li slot x y.
        let s = m.same i d li in
        let was = z.each p lt i d (omega (arith, li, m.long)) (sym (ap (λ (r : Record). r.slot) s.0) ∙ slot) (subst (λ (r : Record). IsFirst ((image b').slot (2 * p)) r) s.0 x) (subst (λ (r : Record). IsSecond ((image b').slot (2 * p + 1)) r) s.0 y) in
        either (get_or old.named.items i d).found (get_or old.named.items i d).missed (((get_or new.named.items i d).found || (get_or new.named.items i d).missed) ≡ true) was
        (λ found. or_left (get_or new.named.items i d).found (get_or new.named.items i d).missed (s.2 ∙ found))
        (λ missed. or_right (get_or new.named.items i d).found (get_or new.named.items i d).missed (m.kept i d li missed));
  }

  missed_now : (v : IsInEntries arena image entries step) (m : IsMissedBy step v.level old.named.items new.named.items) (index b' : ℕ) → index < 409 ^ depth_of entries.slot → IsOnEntries arena image entries index step → IsAsked image index b' new.named.items
  missed_now v m index b' few x = record {
    each = λ p lt i d li slot first second.
        let leaf : leaf_for (get_or new.named.items i d) ≡ index = omega (arith, slot, lt) in
        let level : x.source.level ≡ v.level = dir_level (sym x.source.kind ∙ v.kind) in
        let row : index / m.count ≡ step.index = ap (λ (n : ℕ). index / n) (m.is (omega (arith, v.depth, a.shallow))) ∙ ap (λ (n : ℕ). index / 409 ^ n) (sym level) ∙ row_on entries step index x few in
        or_right (get_or new.named.items i d).found (get_or new.named.items i d).missed (m.misses.all sorted_old i d li (ap (λ (n : ℕ). n / m.count) leaf ∙ row));
  }
    where
      sorted_old : IsNonDecreasingBy slot_of old.named.items
      sorted_old = (apart_same names old.named.items a.same apart).sorted

  -- ---- any step

  none_left : (steps : List Step) → steps ≡ old.steps.items → steps ≡ old.steps.items ++ []
  none_left steps is = is ∙ sym (append-nil old.steps.items)

  no_way : (q : IsQuiet step) (index : ℕ) → IsOnEntries arena image entries index step → ⊥
  no_way q index x = data_dir q.level x.source.level (sym q.kind ∙ x.source.kind)

  after_block : (at : ℕ) → step.pointer ≡ Local at → Reaches device image depth true step at old new → AreAsked arena image entries new.steps.items new.named.items
  after_block at is (again m allowed marks same same' noted kept) = ⊎_elim
      (λ (v : IsInEntries arena image entries step).
      let m : IsMissedBy step v.level old.named.items new.named.items = subst (λ (d : Kind). MissesBy step d old.named.items new.named.items) v.kind kept in
      asked_by new.steps.items [] new.named.items (none_left new.steps.items same) (λ index b' few leads z. missed_asked m.count m.misses index b' z) (λ index b' few leads x. inr (missed_now v m index b' few x)))
      (λ (q : IsQuiet step). asked_by new.steps.items [] new.named.items (none_left new.steps.items same) (λ index b' few leads z. same_asked new.named.items (subst (λ (d : Kind). MissesBy step d old.named.items new.named.items) q.kind kept) index b' z)
      (λ index b' few leads x. absurd (no_way q index x)))
      this
  after_block at is (enters m allowed marks steps folders notes read adds leafs seeks bytes deeps clean asks eights heads) = ⊎_elim (λ (v : IsInEntries arena image entries step). inside v v.level v.kind) (λ (q : IsQuiet step). outside q q.level q.kind) this
    where
      here' : Holder
      here' = record { block = at; label = m }

      slots : HasSlots step.kind (image at) (block_of device at)
      slots = let t = taken_of device old.labels.known.items at m w.goes.table allowed.known in subst (λ (d : Kind). HasSlots d (image at) (block_of device at)) allowed.may.kind (slots_on arena device image s k rest step old new w at m is t)

      inside : (v : IsInEntries arena image entries step) (level' : ℕ) → step.kind ≡ Dir level' → AreAsked arena image entries new.steps.items new.named.items
      inside v zero kind =
          let found : Searches step.index (image at) true 102 old.named.items new.named.items new.folders.items = subst (λ (d : Kind). Seeks step (image at) true d old.named.items new.named.items new.folders.items) kind (seeks slots) in
          let asks' : step.index < 27982932961 → IsApart old.named.items → Asks step.index (image at) 102 old.named.items new.named.items = subst (λ (d : Kind). AsksOf step (image at) d old.named.items new.named.items) kind (asks slots) in
          asked_by new.steps.items (steps_of step here' (image at) step.kind) new.named.items (steps slots) (before_leaf at is v kind found.same found.still asks') (λ index b' few leads x. inr (behind_leaf at is v kind found.same found.still asks' index b' few leads x))
      inside v (suc level') kind =
          let inner : HasSlots (Dir (suc level')) (image at) (block_of device at) = subst (λ (d : Kind). HasSlots d (image at) (block_of device at)) kind slots in
          let same : new.named.items ≡ old.named.items = subst (λ (d : Kind). Seeks step (image at) true d old.named.items new.named.items new.folders.items) kind (seeks slots) in
          asked_by new.steps.items (steps_of step here' (image at) step.kind) new.named.items (steps slots) (λ index b' few leads z. same_asked new.named.items same index b' z)
          (λ index b' few leads x. inl (subst (λ (d : Kind). SomeOf (IsOnEntries arena image entries index) (steps_of step here' (image at) d)) (sym kind) (through index b' leads x at is level' kind here' inner.1 x.more refl)))

      outside : (q : IsQuiet step) (level' : ℕ) → step.kind ≡ Data level' → AreAsked arena image entries new.steps.items new.named.items
      outside q zero kind =
          let same : new.named.items ≡ old.named.items = no_names arena device image s k rest step old new w low depth entries names a at q.quiet kind bytes (subst (λ (d : Kind). Adds step at (block_of device at) d old.named.items new.named.items) kind adds) in
          asked_by new.steps.items (steps_of step here' (image at) step.kind) new.named.items (steps slots) (λ index b' few leads z. same_asked new.named.items same index b' z) (λ index b' few leads x. absurd (no_way q index x))
      outside q (suc level') kind =
          let same : new.named.items ≡ old.named.items = subst (λ (d : Kind). Adds step at (block_of device at) d old.named.items new.named.items) kind adds in
          asked_by new.steps.items (steps_of step here' (image at) step.kind) new.named.items (steps slots) (λ index b' few leads z. same_asked new.named.items same index b' z) (λ index b' few leads x. absurd (no_way q index x))

  pub asked_on : Follows device image depth true step old new → AreAsked arena image entries new.steps.items new.named.items
  asked_on (nowhere nil same) = subst (λ (x : Walk). AreAsked arena image entries x.steps.items x.named.items) (sym same)
      (asked_by old.steps.items [] old.named.items (none_left old.steps.items refl) (λ index b' few leads z. z) (λ index b' few leads x. absurd (off_way index b' leads x (λ c e. not_nil c (sym nil ∙ e)))))
  asked_on (held y is same) = subst (λ (x : Walk). AreAsked arena image entries x.steps.items x.named.items) (sym same)
      (asked_by old.steps.items [] old.named.items (none_left old.steps.items refl) (λ index b' few leads z. z) (λ index b' few leads x. absurd (off_way index b' leads x (λ c e. not_held c (sym is ∙ e)))))
  asked_on (local at is r) = after_block at is r

-- ---- records that are marked as missed

module _ (arena : Arena) (device : List Block) (image : Image) (s : Super) (k : Kept) (rest : List Step) (step : Step) (old new : Walk) (w : Walking arena device image s k (step ∷ rest) old) (low : level new.noted ≤ level old.noted) (depth : ℕ)
    (entries : Link) (names : List Named) (a : AreSought arena image entries names old.noted (old.steps.items ++ step ∷ []) old.named.items old.folders.items) (h : AreHidden arena image k entries old.named.items) where
  hidden_same : (named : List Named) → named ≡ old.named.items → AreHidden arena image k entries named
  hidden_same named is = subst (λ (xs : List Named). AreHidden arena image k entries xs) (sym is) h

  leaf_same : (x y : Named) → x.listed ≡ y.listed → leaf_for x ≡ leaf_for y
  leaf_same x y e = ap (λ (r : Record). r.slot / 102) e

  hidden_still : SameRecords old.named.items new.named.items → ((i : ℕ) (d : Named) → i < length new.named.items → (get_or new.named.items i d).missed ≡ (get_or old.named.items i d).missed) → AreHidden arena image k entries new.named.items
  hidden_still same still = record {
    each = λ i d lt is few.
        let leaf = leaf_same (get_or new.named.items i d) (get_or old.named.items i d) (same.each i d lt) in
        subst (λ (n : ℕ). IsHidden arena image k entries n) (sym leaf) (h.each i d (omega (arith, lt, same.long)) (sym (still i d lt) ∙ is) (omega (arith, few, leaf)));
  }

  hidden_block : (at : ℕ) → step.pointer ≡ Local at → Reaches device image depth true step at old new → AreHidden arena image k entries new.named.items
  hidden_block at is (again m allowed marks same same' noted kept) = ⊎_elim
      (λ (v : IsInEntries arena image entries step).
      let n : IsMissedBy step v.level old.named.items new.named.items = subst (λ (d : Kind). MissesBy step d old.named.items new.named.items) v.kind kept in
      record {
        each = λ i d lt is' few. ⊎_elim
            (λ (before : (get_or old.named.items i d).missed ≡ true).
            let leaf = leaf_same (get_or new.named.items i d) (get_or old.named.items i d) (n.misses.same i d lt).0 in
            subst (λ (x : ℕ). IsHidden arena image k entries x) (sym leaf) (h.each i d (omega (arith, lt, n.misses.long)) before (omega (arith, few, leaf))))
            (λ (now : row_for n.count (get_or new.named.items i d) ≡ step.index).
            let row : leaf_for (get_or new.named.items i d) / 409 ^ v.level ≡ step.index = ap (λ (c : ℕ). leaf_for (get_or new.named.items i d) / c) (sym (n.is (omega (arith, v.depth, a.shallow)))) ∙ now in
            let p = way_row v.level (length v.path) (leaf_for (get_or new.named.items i d)) [] in
            record {
              front = v.path;
              rest = p.0;
              block = at;
              is = ap (λ (d' : ℕ). way d' (leaf_for (get_or new.named.items i d)) []) (sym v.depth) ∙ p.1 ∙ ap (λ (x : ℕ). way (length v.path) x p.0) row ∙ v.index p.0;
              leads = sym v.pointer ∙ is;
              twice = again_breaks arena device image s k rest step old new w at m is marks.none allowed.known;
            })
            (n.misses.only i d lt is');
      })
      (λ (q : IsQuiet step). hidden_same new.named.items (subst (λ (d : Kind). MissesBy step d old.named.items new.named.items) q.kind kept))
      (all_back (IsEntriesStep arena image entries) old.steps.items (step ∷ []) a.sources).0
  hidden_block at is (enters m allowed marks steps folders notes read adds leafs seeks bytes deeps clean asks eights heads) = ⊎_elim
      (λ (v : IsInEntries arena image entries step). inside v.level v.kind)
      (λ (q : IsQuiet step). outside q q.level q.kind)
      (all_back (IsEntriesStep arena image entries) old.steps.items (step ∷ []) a.sources).0
    where
      slots : HasSlots step.kind (image at) (block_of device at)
      slots = let t = taken_of device old.labels.known.items at m w.goes.table allowed.known in subst (λ (d : Kind). HasSlots d (image at) (block_of device at)) allowed.may.kind (slots_on arena device image s k rest step old new w at m is t)

      inside : (level' : ℕ) → step.kind ≡ Dir level' → AreHidden arena image k entries new.named.items
      inside zero kind =
          let found : Searches step.index (image at) true 102 old.named.items new.named.items new.folders.items = subst (λ (d : Kind). Seeks step (image at) true d old.named.items new.named.items new.folders.items) kind (seeks slots) in
          hidden_still found.same found.still
      inside (suc level') kind = hidden_same new.named.items (subst (λ (d : Kind). Seeks step (image at) true d old.named.items new.named.items new.folders.items) kind (seeks slots))

      outside : (q : IsQuiet step) (level' : ℕ) → step.kind ≡ Data level' → AreHidden arena image k entries new.named.items
      outside q zero kind = hidden_same new.named.items (no_names arena device image s k rest step old new w low depth entries names a at q.quiet kind bytes (subst (λ (d : Kind). Adds step at (block_of device at) d old.named.items new.named.items) kind adds))
      outside q (suc level') kind = hidden_same new.named.items (subst (λ (d : Kind). Adds step at (block_of device at) d old.named.items new.named.items) kind adds)

  pub hidden_on : Follows device image depth true step old new → AreHidden arena image k entries new.named.items
  hidden_on (nowhere nil same) = subst (λ (x : Walk). AreHidden arena image k entries x.named.items) (sym same) h
  hidden_on (held y is same) = subst (λ (x : Walk). AreHidden arena image k entries x.named.items) (sym same) h
  hidden_on (local at is r) = hidden_block at is r
