-- What a source has that got more levels and a leaf.
use Rattle.std.specs.List.{range_with_len}
use Rattle.std.proofs.Common.{◌≡◌, ◌≢◌, ◌⊎◌, ◌+◌, ◌-◌, ◌*◌, ◌/◌, ◌%◌, ◌^◌, ◌<◌, ◌≤◌, ℕ, Bool, true, false, cond, nat_lt, List, map, slice_index, Option, Some, None, MatchOption, inl, inr, ⊎_elim, refl, sym, ◌∙◌, ap, subst, arith}
use Rattle.std.proofs.lemmas.Bool.{cases_lt, lt-ltb}
use Rattle.std.proofs.lemmas.List.{ext_get_or}
use Rattle.std.proofs.lemmas.List.FromFn.{length-map-range_with_len, get_or-map-range_with_len}
use Rattle.fo_sparse.specs.Written.{resized}
use Rattle.fo_image.specs.declared.types.State.TheVariants.{Live}
use Rattle.fo_image.specs.declared.types.Pointer.{Pointer}
use Rattle.fo_image.specs.declared.types.Pointer.TheVariants.{Nil, Local, Score as Held}
use Rattle.fo_image.specs.Format.{kind_code}
use Rattle.fo_ports.specs.of_crash.Images.{SameContent}
use Rattle.fo_ports.specs.Blocks.{blank}
use Rattle.fo_ports.specs.State.{State, KeepsAll}
use Rattle.fo_ports.specs.Sources.{Made, IsCut, EndsWithin, StaysLeaf, Renewed, Owned, byte_at, source_bytes}
use Rattle.fo_tree_read.specs.declared.tree.Tree.{Tree}
use Rattle.fo_tree_read.specs.Tree.{kind_at, block_at, leaf_at, address_of, held_of}
use Rattle.fo_tree_look.specs.declared.ways.Kept.{Kept}
use Rattle.fo_tree_look.specs.Source.{HasBlock, Over, IsPlainTree, form_of, leaves_of, address_here, held_here}
use Rattle.fo_tree_look.proofs.Held.{seen_leaf}
use Rattle.fo_tree_look.proofs.Places.{is_here, here_owned}
use Rattle.fo_tree_look.proofs.Shown.{address_past, held_past}
use Rattle.fo_tree_grow.specs.of_tree_down.Way.{OnWay, with_top}
use Rattle.fo_tree_grow.specs.of_tree_raise.Levels.{grown}
use Rattle.fo_tree_grow.proofs.of_tree_raise.Climbing.{room_more}
use Rattle.fo_tree_grow.proofs.of_tree_leaf.Owning.{LeafCame, owned, bytes_end}
use Rattle.fo_tree_grow.specs.Grow.{sized, TailClear}
use Rattle.fo_tree_grow.proofs.Sizing.{address_sized, held_sized}
use Rattle.fo_tree_grow.proofs.Growing.{ends_in_zeros, bytes_sized}
use Rattle.fo_tree_lift.specs.Lift.{IsCopied, Lifts}

-- Levels were put above a source, and a leaf past those that it had came.
pub record LeafRaised (s m u : State) (t : Tree) (kept : List Kept) (limit levels : ℕ) (p : Pointer) (z i top at : ℕ) : Type 0 where
  pub lifts : Lifts s m t kept levels p
  pub most : ℕ
  pub over : Over s t kept most
  pub tail : TailClear s t kept
  pub past : t.size ≤ 8192 * i
  pub end : z ≡ 8192 * (i + 1)
  pub room : z ≤ 8192 * 409 ^ (t.depth + levels)
  pub came : LeafCame m u (sized (grown t levels p) z) kept limit top i at
  pub only : (b : ℕ) → OnWay m (sized (grown t levels p) z) (t.depth + levels) i b → p ≡ Local b
  pub all : KeepsAll s m

none_cond : (c : Bool) (h : Option (List ℕ)) → h ≡ None → cond c h None ≡ None
none_cond true h e = e
none_cond false h e = refl

-- A leaf of the source with its levels is the one that it was.
record SameLeaf (s m : State) (t g : Tree) (kept : List Kept) (j : ℕ) : Type 0 where
  pub at : address_here m g j ≡ address_here s t j
  pub held : held_here m g kept j ≡ held_here s t kept j

-- It is a copy of the only one.
record NewLeaf (s m : State) (t g : Tree) (kept : List Kept) (p : Pointer) (j : ℕ) : Type 0 where
  pub copied : IsCopied s m t p (block_at s t t.depth j) (block_at m g g.depth j)
  pub at : address_here m g j ≡ Some copied.copy
  pub held : held_here m g kept j ≡ None
  pub was : address_here s t j ≡ Some copied.at
  pub inside : 8192 * j < t.size

module _ {s m u : State} {t : Tree} {kept : List Kept} {limit levels : ℕ} {p : Pointer} {z i top at : ℕ} (x : LeafRaised s m u t kept limit levels p z i top at) where
  more : t.size ≤ z
  more = let past = x.past in let end = x.end in omega (arith, past, end)

  addresses : (j : ℕ) → address_here m (sized (grown t levels p) z) j ≡ address_here m (grown t levels p) j
  addresses j = address_sized m (grown t levels p) z kept x.lifts.clear more x.room j

  holds : (j : ℕ) → held_here m (sized (grown t levels p) z) kept j ≡ held_here m (grown t levels p) kept j
  holds j = held_sized m (grown t levels p) z kept x.lifts.clear more x.room j

  mid : s.tells → m.tells
  mid told = x.all.still_tells.1 told

  few : (j : ℕ) → 8192 * j < t.size → j < 409 ^ t.depth
  few j lt = let room = x.over.hangs.room in omega (arith, room, lt)

  few_new : (j : ℕ) → 8192 * j < t.size → j < 409 ^ (t.depth + levels)
  few_new j lt =
      let old = few j lt in
      let room : 8192 * (j + 1) ≤ 8192 * 409 ^ (t.depth + levels) = room_more (8192 * (j + 1)) t.depth levels (omega (arith, old)) in
      omega (arith, room)

  leaf_new : (j : ℕ) → 8192 * j < t.size → leaf_at m (grown t levels p) j ≡ block_at m (grown t levels p) (t.depth + levels) j
  leaf_new j lt = ap (λ c. cond c (block_at m (grown t levels p) (t.depth + levels) j) Nil) (lt-ltb j (409 ^ (t.depth + levels)) (few_new j lt))

  leaf_old : (j : ℕ) → 8192 * j < t.size → leaf_at s t j ≡ block_at s t t.depth j
  leaf_old j lt = ap (λ c. cond c (block_at s t t.depth j) Nil) (lt-ltb j (409 ^ t.depth) (few j lt))

  held_of_same : (q : Pointer) → held_of m (kind_at t.dir 0) q ≡ held_of s (kind_at t.dir 0) q
  held_of_same Nil = refl
  held_of_same (Local a) = refl
  held_of_same (Held score) = x.all.same_held score (kind_code (kind_at t.dir 0))

  same_leaf : s.tells → (j : ℕ) → leaf_at m (grown t levels p) j ≡ leaf_at s t j → SameLeaf s m t (grown t levels p) kept j
  same_leaf told j e = record {
    at = ap (λ (q : Pointer). cond (nat_lt (8192 * j) t.size) (address_of q) None) e;
    held =
        seen_leaf m (grown t levels p) kept x.lifts.bears.held (mid told) j
        ∙ ap (λ (q : Pointer). cond (nat_lt (8192 * j) t.size) (held_of m (kind_at t.dir 0) q) None) e
        ∙ ap (λ (h : Option (List ℕ)). cond (nat_lt (8192 * j) t.size) h None) (held_of_same (leaf_at s t j))
        ∙ sym (seen_leaf s t kept x.over.held told j);
  }

  new_leaf : s.tells → (j : ℕ) → 8192 * j < t.size → IsCopied s m t p (block_at s t t.depth j) (block_at m (grown t levels p) (t.depth + levels) j) → NewLeaf s m t (grown t levels p) kept p j
  new_leaf told j lt y = record {
    copied = y;
    at = ap (λ c. cond c (address_of (leaf_at m (grown t levels p) j)) None) (lt-ltb (8192 * j) t.size lt) ∙ ap (λ (q : Pointer). address_of q) (leaf_new j lt ∙ y.is);
    held =
        seen_leaf m (grown t levels p) kept x.lifts.bears.held (mid told) j
        ∙ ap (λ (q : Pointer). cond (nat_lt (8192 * j) t.size) (held_of m (kind_at t.dir 0) q) None) (leaf_new j lt ∙ y.is)
        ∙ none_cond (nat_lt (8192 * j) t.size) None refl;
    was = ap (λ c. cond c (address_of (leaf_at s t j)) None) (lt-ltb (8192 * j) t.size lt) ∙ ap (λ (q : Pointer). address_of q) (leaf_old j lt ∙ y.was);
    inside = lt;
  }

  leaf_by : s.tells → (j : ℕ) → SameLeaf s m t (grown t levels p) kept j ⊎ NewLeaf s m t (grown t levels p) kept p j
  leaf_by told j = ⊎_elim
      (λ lt. ⊎_elim
      (λ same. inl (same_leaf told j (leaf_new j lt ∙ same ∙ sym (leaf_old j lt))))
      (λ y. inr (new_leaf told j lt y))
      (x.lifts.leaves told j (few j lt)))
      (λ ge. inl (record {
        at = address_past m (grown t levels p) j ge ∙ sym (address_past s t j ge);
        held = held_past m (grown t levels p) kept j ge ∙ sym (held_past s t kept j ge);
      }))
      (cases_lt (8192 * j) t.size)

  -- ---- bytes

  byte_stays : s.tells → (j : ℕ) (leaf : Option ℕ) → address_here s t j ≡ leaf → (held : Option (List ℕ)) (r : ℕ) → byte_at m.now leaf held r ≡ byte_at s.now leaf held r
  byte_stays told j (Some b) e held r = ap (λ xs. slice_index xs r) (x.lifts.adds.same b (λ made. made.0 (x.over.told told b (here_owned (is_here s t j b e))).live)).bytes
  byte_stays told j None e (Some bytes) r = refl
  byte_stays told j None e None r = refl

  pub byte_same : s.tells → (j r : ℕ) → byte_at m.now (address_here m (grown t levels p) j) (held_here m (grown t levels p) kept j) r ≡ byte_at s.now (address_here s t j) (held_here s t kept j) r
  byte_same told j r = ⊎_elim
      (λ same.
      ap (λ a. byte_at m.now a (held_here m (grown t levels p) kept j) r) same.at
      ∙ ap (λ h. byte_at m.now (address_here s t j) h r) same.held
      ∙ byte_stays told j (address_here s t j) refl (held_here s t kept j) r)
      (λ new.
      ap (λ a. byte_at m.now a (held_here m (grown t levels p) kept j) r) new.at
      ∙ ap (λ xs. slice_index xs r) new.copied.content.bytes
      ∙ sym (ap (λ a. byte_at s.now a (held_here s t kept j) r) new.was))
      (leaf_by told j)

  tail_new : s.tells → TailClear m (grown t levels p) kept
  tail_new told = λ plain k past. byte_same told (k / 8192) (k % 8192) ∙ x.tail plain k past

  -- lists of values below a length
  values_same : (f g : ℕ → ℕ) (len : ℕ) → ((k : ℕ) → f k ≡ g k) → map f (range_with_len 0 len) ≡ map g (range_with_len 0 len)
  values_same f g len same =
      ext_get_or 0 (map f (range_with_len 0 len)) (map g (range_with_len 0 len))
      (length-map-range_with_len f 0 len ∙ sym (length-map-range_with_len g 0 len))
      (λ k lt. let below : k < len = omega (arith, lt, length-map-range_with_len f 0 len) in
      get_or-map-range_with_len f 0 len k k 0 below (omega arith) ∙ same k ∙ sym (get_or-map-range_with_len g 0 len k k 0 below (omega arith)))

  pub bytes_raised : (told : s.tells) → IsPlainTree t ⊎ (t.size % 8192 ≡ 0) → ((b : ℕ) → HasBlock m (sized (grown t levels p) z) b → (m.label b).state ≡ Live)
      → source_bytes (address_here u (with_top (sized (grown t levels p) z) top)) (held_here u (with_top (sized (grown t levels p) z) top) kept) u.now z ≡ resized (source_bytes (address_here s t) (held_here s t kept) s.now t.size) z
  bytes_raised told ends live =
      bytes_end x.came (mid told) live
      ∙ bytes_sized m (grown t levels p) (t.depth + levels) z i kept addresses holds (tail_new told) x.end ends
      ∙ ap (λ xs. resized xs z) (values_same
      (λ k. byte_at m.now (address_here m (grown t levels p) (k / 8192)) (held_here m (grown t levels p) kept (k / 8192)) (k % 8192))
      (λ k. byte_at s.now (address_here s t (k / 8192)) (held_here s t kept (k / 8192)) (k % 8192))
      t.size
      (λ k. byte_same told (k / 8192) (k % 8192)))

  -- ---- the leaf that came, and the others

  old_none : address_here s t i ≡ None
  old_none = address_past s t i x.past

  old_unheld : held_here s t kept i ≡ None
  old_unheld = held_past s t kept i x.past

  mid_none : address_here m (sized (grown t levels p) z) i ≡ None
  mid_none = addresses i ∙ address_past m (grown t levels p) i x.past

  mid_unheld : held_here m (sized (grown t levels p) z) kept i ≡ None
  mid_unheld = holds i ∙ held_past m (grown t levels p) kept i x.past

  made_first : (b : ℕ) → Made s m b → Made s u b
  made_first b made = (made.0, ap (λ l. l.state) (x.came.comes.descends.others b (λ n. n.0 made.1)).label ∙ made.1)

  made_second : (b : ℕ) → Made m u b → Made s u b
  made_second b made = (λ e. made.0 (ap (λ l. l.state) (x.lifts.adds.labels b (λ n. n.0 e)) ∙ e), made.1)

  module _ (generation : ℕ) where
    stays : s.tells → (j : ℕ) → j ≢ i → StaysLeaf (leaves_of m (sized (grown t levels p) z) kept limit) (leaves_of u (with_top (sized (grown t levels p) z) top) kept limit) j
    stays told j ne = ⊎_elim (λ leaf. leaf) (λ renewed. let lt = renewed.0 in let end = x.end in absurd (omega (arith, lt, end))) ((owned x.came generation).others (mid told) j ne)

    same_end : s.tells → (j : ℕ) → j ≢ i → SameLeaf s m t (grown t levels p) kept j → StaysLeaf (leaves_of s t kept limit) (leaves_of u (with_top (sized (grown t levels p) z) top) kept limit) j
    same_end told j ne same =
        let leaf = stays told j ne in
        let back = holds j ∙ same.held in
        record {
          at = leaf.at ∙ addresses j ∙ same.at;
          held = ⊎_elim (λ e. inl (e ∙ back)) (λ none. inr (sym back ∙ none.0, none.1)) leaf.held;
        }

    module _ (told : s.tells) (j : ℕ) (ne : j ≢ i) (y : NewLeaf s m t (grown t levels p) kept p j) where
      within : t.size ≤ 8192 * (j + 1)
      within =
          let room : t.size ≤ 8192 * 409 ^ 0 = subst (λ d. t.size ≤ 8192 * 409 ^ d) y.copied.only x.over.hangs.room in
          omega (arith, room)

      -- no slot was put into the copy
      content : SameContent (u.now y.copied.copy) (m.now y.copied.copy)
      content = record {
        bytes = x.came.comes.descends.bytes y.copied.copy (λ n. n.0 y.copied.made.1);
        slots = λ k. ⊎_elim (λ e. e) (λ put. absurd (y.copied.other (x.only y.copied.copy put.is_mine))) (x.came.comes.descends.slots y.copied.copy k (λ n. n.0 y.copied.made.1));
      }

      zero_in : IsPlainTree t → (r : ℕ) → t.size - 8192 * j ≤ r → r < 8192 → slice_index ((s.now y.copied.at).bytes) r ≡ 0
      zero_in plain r past lt =
          let up : (8192 * j + r) / 8192 ≡ j = omega (arith, lt) in
          let rest : (8192 * j + r) % 8192 ≡ r = omega (arith, lt) in
          sym (ap (λ n. byte_at s.now (address_here s t n) (held_here s t kept n) ((8192 * j + r) % 8192)) up
          ∙ ap (λ k. byte_at s.now (address_here s t j) (held_here s t kept j) k) rest
          ∙ ap (λ a. byte_at s.now a (held_here s t kept j) r) y.was)
          ∙ x.tail plain (8192 * j + r) (omega (arith, past))

      cut : IsCut (form_of t generation limit) t.size j ((u.now y.copied.copy).bytes) ((s.now y.copied.at).bytes)
      cut =
          let same = content.bytes ∙ y.copied.content.bytes in
          record {
            whole = λ no_end. same;
            cut = λ ends. same ∙ ends_in_zeros ((s.now y.copied.at).bytes) (t.size - 8192 * j) y.copied.long (λ r past lt. zero_in ends.0 r past lt);
          }

      renewed : Renewed (form_of t generation limit) t.size j s u (leaves_of s t kept limit) (leaves_of u (with_top (sized (grown t levels p) z) top) kept limit)
      renewed =
          let leaf = stays told j ne in
          record {
            last = (y.inside, within);
            block = y.copied.copy;
            is = (leaf.at ∙ addresses j ∙ y.at, ⊎_elim (λ e. e ∙ holds j ∙ y.held) (λ none. none.1) leaf.held);
            made = made_first y.copied.copy y.copied.made;
            content = subst (λ a. MatchOption a (MatchOption (held_here s t kept j) ⊥ (λ bytes. EndsWithin (form_of t generation limit) t.size j × IsCut (form_of t generation limit) t.size j ((u.now y.copied.copy).bytes) bytes)) (λ b. ((s.label b).epoch < s.high) × IsCut (form_of t generation limit) t.size j ((u.now y.copied.copy).bytes) ((s.now b).bytes) × ((k : ℕ) → (u.now y.copied.copy).slot k ≡ (s.now b).slot k)))
                (sym y.was)
                (y.copied.older, cut, λ k. content.slots k ∙ y.copied.content.slots k);
          }

    abbrev Has : State → ℕ → Option ℕ → Option (List ℕ) → Type 0
    Has on size leaf held = MatchOption leaf (MatchOption held (SameContent (u.now at) (blank (kind_at t.dir 0))) (λ bytes. IsCut (form_of t generation limit) size i ((u.now at).bytes) bytes)) (λ b. IsCut (form_of t generation limit) size i ((u.now at).bytes) ((on.now b).bytes) × ((k : ℕ) → (u.now at).slot k ≡ (on.now b).slot k))

    blank_here : SameContent (u.now at) (blank (kind_at t.dir 0))
    blank_here = subst (λ h. Has m z None h) mid_unheld (subst (λ a. Has m z a (held_here m (sized (grown t levels p) z) kept i)) mid_none (owned x.came generation).content)

    made_here : Made s u at
    made_here = made_second at (subst (λ a. MatchOption a (Made m u at) (λ b. ((b ≡ at) × ((m.label b).epoch ≡ m.high)) ⊎ (((m.label b).epoch < m.high) × Made m u at))) mid_none (owned x.came generation).copied)

    pub owned_raised : Owned (form_of t generation limit) t.size i at s u (leaves_of s t kept limit) (leaves_of u (with_top (sized (grown t levels p) z) top) kept limit)
    owned_raised = record {
      is = (owned x.came generation).is;
      others = λ told j ne. ⊎_elim
          (λ same. inl (same_end told j ne same))
          (λ new. inr (let past = x.past in omega (arith, past), renewed told j ne new))
          (leaf_by told j);
      content = subst (λ a. Has s t.size a (held_here s t kept i)) (sym old_none) (subst (λ h. Has s t.size None h) (sym old_unheld) blank_here);
      copied = subst (λ a. MatchOption a (Made s u at) (λ b. ((b ≡ at) × ((s.label b).epoch ≡ s.high)) ⊎ (((s.label b).epoch < s.high) × Made s u at))) (sym old_none) made_here;
      label = (owned x.came generation).label;
      ready = (owned x.came generation).ready;
    }
