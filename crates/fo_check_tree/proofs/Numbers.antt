-- The numbers of all files to which names lead: they differ, and are those of files.
use Rattle.std.proofs.Common.{◌≡◌, ◌≢◌, ◌⊎◌, ⊎_elim, inl, inr, ℕ, zero, suc, ◌+◌, ◌*◌, ◌<◌, ◌≤◌, List, [], ◌∷◌, ◌++◌, map, Some, length, length-append, get_or, refl, sym, ap, ◌∙◌, subst, arith}
use Rattle.std.specs.List.{All, AllByRecursion}
use Rattle.std.proofs.lemmas.Bool.{cases_eq, cases_lt}
use Rattle.std.proofs.lemmas.List.{length-map, get_or_append_left, get_or-append-add, get_or-map}
use Rattle.fo_image.specs.declared.types.Entry.{Entry}
use Rattle.fo_image.specs.declared.types.Kind.TheVariants.{Data}
use Rattle.fo_image.specs.declared.record.Record.{Record}
use Rattle.fo_crash.specs.declared.slot.Slot.{Slot}
use Rattle.fo_crash.specs.declared.slot.Slot.TheVariants.{Pointer as To, Entry as Head, Prev}
use Rattle.fo_crash.specs.Images.{Image, Arena, Link, from_block, step as link_below, entry_of as entry_at}
use Rattle.fo_good.specs.Trees.{InTree, HasNumbers, Lists, IsDir, IsFirst}
use Rattle.fo_good.specs.Trees.IsDir.{top as dir_top, below as dir_below}
use Rattle.fo_good.specs.Sound.{Kept}
use Rattle.fo_check_names.specs.Names.{number_of, number_in, named_in, Differ, IsFileNumber}
use Rattle.fo_check_names.specs.declared.names.Named.{Named}
use Rattle.fo_check_names.specs.declared.names.Number.{Number}
use Rattle.fo_check_tree.specs.declared.walk.Folder.{Folder}
use Rattle.fo_check_tree.specs.Listing.{SomeOf, IsMetaOf}
use Rattle.fo_check_tree.specs.Pairing.{IsHeadOf, IsNamedIn, HasAllPairs, Counted, all_numbers, IsWhole, AreWhole}

-- ---- a place in the list of numbers

record IsHere (c : Counted) (cs : List Counted) (at : ℕ) (v : Counted) (p : ℕ) : Type 0 where
  is : v ≡ c
  place : at ≡ length (all_numbers cs) + p
  within : p < length v.names

-- the number of record p of a directory of the list is at this place
abbrev At : List Counted → ℕ → Counted → ℕ → Type 0
At [] at v p = ⊥
At (c ∷ cs) at v p = IsHere c cs at v p ⊎ At cs at v p

long : (c : Counted) (cs : List Counted) → length (all_numbers (c ∷ cs)) ≡ length (all_numbers cs) + length c.names
long c cs =
    let a : length (all_numbers cs ++ map number_in c.names) ≡ length (all_numbers cs) + length (map number_in c.names) = length-append (all_numbers cs) (map number_in c.names) in
    let b : length (map number_in c.names) ≡ length c.names = length-map c.names number_in in
    omega (arith, a, b)

names_long : (c v : Counted) → v ≡ c → length v.names ≡ length c.names
names_long c v e = ap (λ (x : Counted). length x.names) e

low : (cs : List Counted) (at : ℕ) (v : Counted) (p : ℕ) → At cs at v p → at < length (all_numbers cs)
low [] at v p w = absurd w
low (c ∷ cs) at v p w = ⊎_elim
    (λ (h : IsHere c cs at v p). omega (arith, long c cs, h.place, h.within, names_long c v h.is))
    (λ (h : At cs at v p). omega (arith, long c cs, low cs at v p h))
    w

number_at : (cs : List Counted) (at : ℕ) (v : Counted) (p : ℕ) → At cs at v p → (d : Number) (n : Named) → get_or (all_numbers cs) at d ≡ number_in (get_or v.names p n)
number_at [] at v p w d n = absurd w
number_at (c ∷ cs) at v p w d n = ⊎_elim
    (λ (h : IsHere c cs at v p).
    ap (λ (i : ℕ). get_or (all_numbers (c ∷ cs)) i d) h.place
    ∙ get_or-append-add (all_numbers cs) (map number_in c.names) p d
    ∙ get_or-map number_in c.names p n d (omega (arith, h.within, names_long c v h.is))
    ∙ ap (λ (x : Counted). number_in (get_or x.names p n)) (sym h.is))
    (λ (h : At cs at v p). get_or_append_left (all_numbers cs) (map number_in c.names) d at (low cs at v p h) ∙ number_at cs at v p h d n)
    w

one_place : (cs : List Counted) (at : ℕ) (v : Counted) (p : ℕ) (u : Counted) (q : ℕ) → At cs at v p → At cs at u q → (v ≡ u) × (p ≡ q)
one_place [] at v p u q a b = absurd a
one_place (c ∷ cs) at v p u q a b = ⊎_elim
    (λ (h : IsHere c cs at v p). ⊎_elim
    (λ (g : IsHere c cs at u q). (h.is ∙ sym g.is, omega (arith, h.place, g.place)))
    (λ (g : At cs at u q). absurd (omega (arith, h.place, low cs at u q g))) b)
    (λ (h : At cs at v p). ⊎_elim
    (λ (g : IsHere c cs at u q). absurd (omega (arith, g.place, low cs at v p h)))
    (λ (g : At cs at u q). one_place cs at v p u q h g) b)
    a

record Stands (P Q : Counted → Type 0) (cs : List Counted) : Type 0 where
  dir : Counted
  has : P dir
  also : Q dir
  from : ℕ
  at : (p : ℕ) → p < length dir.names → At cs (from + p) dir p

stands : (P Q : Counted → Type 0) (cs : List Counted) → AllByRecursion Q cs → SomeOf P cs → Stands P Q cs
stands P Q [] all s = absurd s
stands P Q (c ∷ cs) all s = ⊎_elim
    (λ (h : P c). record { dir = c; has = h; also = all.0; from = length (all_numbers cs); at = λ p lt. inl (record { is = refl; place = refl; within = lt }) })
    (λ (h : SomeOf P cs). let r = stands P Q cs all.1 h in record { dir = r.dir; has = r.has; also = r.also; from = r.from; at = λ p lt. inr (r.at p lt) })
    s

-- ---- tags

abbrev pub tag_at : Slot → ℕ
tag_at (Head e) = e.tag
tag_at (To p) = 0
tag_at (Prev epoch at) = 0

tag_is : (s : Slot) (r : Record) → IsFirst s r → tag_at s ≡ 32 + 2 * r.number
tag_is (Head e) r h = h.3
tag_is (To p) r h = absurd h
tag_is (Prev epoch at) r h = absurd h

length_end : (t : List ℕ) (s : ℕ) → length (t ++ s ∷ []) ≡ length t + 1
length_end t s = length-append t (s ∷ [])

some_is : (a b : Entry) → Some a ≡ Some b → a ≡ b
some_is a b e = cc

-- the records of a folder are below one link
one_meta : (f : Folder) (m w : Link) → IsMetaOf f m → IsMetaOf f w → m ≡ w
one_meta f m w a b =
    let e : a.entry ≡ b.entry = some_is a.entry b.entry (sym a.is ∙ b.is) in
    let kind : m.kind ≡ w.kind = a.kind ∙ ap (λ (x : Entry). Data x.depth) e ∙ sym b.kind in
    let slot : m.slot ≡ w.slot = a.slot ∙ ap (λ (x : Entry). Head x) e ∙ sym b.slot in
    λ t. record { kind = kind t; slot = slot t }

-- ---- all numbers

module _ (arena : Arena) (image : Image) (k : Kept) (limit : ℕ) (numbers : List Number) (a : AreWhole arena image k numbers) (root : tag_at ((link_below arena image (from_block k.at) 0).slot) ≡ 32) (differ : Differ number_of numbers) (files : All (IsFileNumber limit) numbers) where
  record Spot (entries meta : Link) (r : Record) : Type 0 where
    dir : Counted
    head : IsHeadOf entries meta dir.folder
    counted : IsWhole arena image dir
    place : ℕ
    number : ℕ
    at : At a.counted number dir place
    is : (d : Named) → (get_or dir.names place d).listed ≡ r

  spot : (trail : List ℕ) (entries meta : Link) (n j : ℕ) (r : Record) → IsDir arena image k.at trail entries meta → Lists arena image meta n j r → Spot entries meta r
  spot trail entries meta n j r dir h =
      let some' : SomeOf (λ (c : Counted). IsHeadOf entries meta c.folder) a.counted = a.each trail entries meta dir in
      let st = stands (λ (c : Counted). IsHeadOf entries meta c.folder) (IsWhole arena image) a.counted a.right some' in
      let m : IsNamedIn st.dir.names r = st.also.whole entries meta st.has n j r h in
      record { dir = st.dir; head = st.has; counted = st.also; place = m.at; number = st.from + m.at; at = st.at m.at m.within; is = m.is }

  number_is : (entries meta : Link) (r : Record) (s : Spot entries meta r) (d : Number) → number_of (get_or numbers s.number d) ≡ r.number
  number_is entries meta r s d =
      ap (λ (xs : List Number). number_of (get_or xs s.number d)) a.numbers_are
      ∙ ap number_of (number_at a.counted s.number s.dir s.place s.at d (named_in 0 r))
      ∙ ap (λ (x : Record). x.number) (s.is (named_in 0 r))

  within : (entries meta : Link) (r : Record) (s : Spot entries meta r) → s.number < length numbers
  within entries meta r s = omega (arith, low a.counted s.number s.dir s.place s.at, ap (λ (xs : List Number). length xs) a.numbers_are)

  below_limit : (trail : List ℕ) (entries meta : Link) (n j : ℕ) (r : Record) → IsDir arena image k.at trail entries meta → Lists arena image meta n j r → (0 < r.number) × (r.number < limit)
  below_limit trail entries meta n j r dir h =
      let s = spot trail entries meta n j r dir h in
      let d : Number = record { number = 0; leaf = 0 } in
      let f : IsFileNumber limit (get_or numbers s.number d) = files s.number d (within entries meta r s) in
      let e : number_of (get_or numbers s.number d) ≡ r.number = number_is entries meta r s d in
      (omega (arith, f.least, e), omega (arith, f.below, e))

  same_number : (entries meta entries' meta' : Link) (r q : Record) (s : Spot entries meta r) (t : Spot entries' meta' q) → r.number ≡ q.number → s.number ≡ t.number
  same_number entries meta entries' meta' r q s t same =
      let d : Number = record { number = 0; leaf = 0 } in
      let e : number_of (get_or numbers s.number d) ≡ number_of (get_or numbers t.number d) = number_is entries meta r s d ∙ same ∙ sym (number_is entries' meta' q t d) in
      ⊎_elim
      (λ (less : s.number < t.number). absurd (differ.each s.number t.number d less (within entries' meta' q t) e))
      (λ (ge : t.number ≤ s.number). ⊎_elim
      (λ (eq : s.number ≡ t.number). eq)
      (λ (apart : s.number ≢ t.number). absurd (differ.each t.number s.number d (omega (arith, ge, apart)) (within entries meta r s) (sym e)))
      (cases_eq s.number t.number))
      (cases_lt s.number t.number)

  record Same (trail other : List ℕ) (n m j i : ℕ) (r q : Record) : Type 0 where
    trails : trail ≡ other
    leaf : n ≡ m
    place : j ≡ i
    is : r ≡ q

  -- Two records with one number are one, where a trail to a directory is the only one.
  one_record : (trail other : List ℕ) (entries meta entries' meta' : Link) (n j m i : ℕ) (r q : Record) → (entries.slot ≡ entries'.slot → trail ≡ other) → IsDir arena image k.at trail entries meta → IsDir arena image k.at other entries' meta' → Lists arena image meta n j r → Lists arena image meta' m i q
      → r.number ≡ q.number → Same trail other n m j i r q
  one_record trail other entries meta entries' meta' n j m i r q one dir dir' h g same =
      let s = spot trail entries meta n j r dir h in
      let t = spot other entries' meta' m i q dir' g in
      let e : s.number ≡ t.number = same_number entries meta entries' meta' r q s t same in
      let o = one_place a.counted s.number s.dir s.place t.dir t.place s.at (subst (λ (x : ℕ). At a.counted x t.dir t.place) (sym e) t.at) in
      let head : IsHeadOf entries' meta' s.dir.folder = subst (λ (x : Counted). IsHeadOf entries' meta' x.folder) (sym o.0) t.head in
      let is : r ≡ q = sym (s.is (named_in 0 r)) ∙ ap (λ (x : Counted). (get_or x.names s.place (named_in 0 r)).listed) o.0 ∙ ap (λ (p : ℕ). (get_or t.dir.names p (named_in 0 r)).listed) o.1 ∙ t.is (named_in 0 r) in
      let metas : meta ≡ meta' = one_meta s.dir.folder meta meta' s.head.records head.records in
      let g' : Lists arena image meta m i q = subst (λ (w : Link). Lists arena image w m i q) (sym metas) g in
      let own : HasAllPairs arena image entries meta = s.counted.own entries meta s.head in
      let places = own.differ n j m i r q h g' (ap (λ (x : Record). x.slot) is) in
      record { trails = one (s.head.slot ∙ sym head.slot); leaf = places.0; place = places.1; is = is }

  pair_of : (trail : List ℕ) (entries meta : Link) (n j : ℕ) (r : Record) → IsDir arena image k.at trail entries meta → Lists arena image meta n j r → tag_at ((entry_at arena image entries (2 * r.slot)).slot) ≡ 32 + 2 * r.number
  pair_of trail entries meta n j r dir h =
      let s = spot trail entries meta n j r dir h in
      tag_is (entry_at arena image entries (2 * r.slot)).slot r ((s.counted.own entries meta s.head).fit n j r h).first

  not_root : (trail : List ℕ) (entries meta : Link) (n j : ℕ) (r : Record) → IsDir arena image k.at trail entries meta → Lists arena image meta n j r → (link_below arena image (from_block k.at) 0).slot ≡ (entry_at arena image entries (2 * r.slot)).slot → ⊥
  not_root trail entries meta n j r dir h same =
      let e : 32 ≡ 32 + 2 * r.number = sym root ∙ ap tag_at same ∙ pair_of trail entries meta n j r dir h in
      omega (arith, e, (below_limit trail entries meta n j r dir h).0)

  one_trail : (len : ℕ) (trail other : List ℕ) (entries meta entries' meta' : Link) → length trail ≤ len → IsDir arena image k.at trail entries meta → IsDir arena image k.at other entries' meta' → entries.slot ≡ entries'.slot → trail ≡ other
  one_trail len trail other entries meta entries' meta' le dir_top dir_top same = refl
  one_trail len trail other entries meta entries' meta' le dir_top (dir_below t e m n j r dir h mode) same = absurd (not_root t e m n j r dir h same)
  one_trail len trail other entries meta entries' meta' le (dir_below t e m n j r dir h mode) dir_top same = absurd (not_root t e m n j r dir h (sym same))
  one_trail zero trail other entries meta entries' meta' le (dir_below t e m n j r dir h mode) (dir_below t' e' m' n' j' r' dir' h' mode') same = absurd (omega (arith, le, length_end t r.slot))
  one_trail (suc len) trail other entries meta entries' meta' le (dir_below t e m n j r dir h mode) (dir_below t' e' m' n' j' r' dir' h' mode') same =
      let number : 32 + 2 * r.number ≡ 32 + 2 * r'.number = sym (pair_of t e m n j r dir h) ∙ ap tag_at same ∙ pair_of t' e' m' n' j' r' dir' h' in
      let s = one_record t t' e m e' m' n j n' j' r r' (λ slots. one_trail len t t' e m e' m' (omega (arith, le, length_end t r.slot)) dir dir' slots) dir dir' h h' (omega (arith, number)) in
      ap (λ (xs : List ℕ). xs ++ r.slot ∷ []) s.trails ∙ ap (λ (x : Record). t' ++ x.slot ∷ []) s.is

  pub own_numbers : ((depth : ℕ) (w : Link) → InTree arena image k.at depth w → depth ≤ 64) → HasNumbers arena image k.at limit
  own_numbers depths = record {
    differ = λ trail other entries meta entries' meta' n j m i r q dir dir' h g same.
        let s = one_record trail other entries meta entries' meta' n j m i r q (λ slots. one_trail (length trail) trail other entries meta entries' meta' (omega arith) dir dir' slots) dir dir' h g same in
        (s.trails, s.leaf, s.place);
    below = below_limit;
    depths = depths;
  }
