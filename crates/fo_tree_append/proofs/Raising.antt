-- A source as it is once levels were put above it, and it ends further on.
use Rattle.std.proofs.Common.{◌≡◌, ◌⊎◌, ◌+◌, ◌*◌, ◌/◌, ◌%◌, ◌^◌, ◌<◌, ◌≤◌, ℕ, Bool, true, false, cond, nat_lt, List, slice_index, Option, Some, None, inl, inr, ⊎_elim, refl, sym, ◌∙◌, ap, subst, arith}
use Rattle.std.proofs.lemmas.Bool.{cases_lt, lt-ltb}
use Rattle.fo_image.specs.declared.types.Pointer.{Pointer}
use Rattle.fo_image.specs.declared.types.Pointer.TheVariants.{Nil, Local, Score as Held}
use Rattle.fo_image.specs.Format.{kind_code}
use Rattle.fo_ports.specs.State.{State, KeepsAll}
use Rattle.fo_ports.specs.Sources.{byte_at, depth_for}
use Rattle.fo_tree_read.specs.declared.tree.Tree.{Tree}
use Rattle.fo_tree_read.specs.Tree.{kind_at, block_at, leaf_at, address_of, held_of}
use Rattle.fo_tree_look.specs.declared.ways.Kept.{Kept}
use Rattle.fo_tree_look.specs.Source.{Over, Prepared, WayReady, address_here, held_here}
use Rattle.fo_tree_look.proofs.Held.{seen_leaf}
use Rattle.fo_tree_look.proofs.Places.{is_here, here_owned}
use Rattle.fo_tree_look.proofs.Shown.{address_past, held_past}
use Rattle.fo_tree_clear.specs.of_tree_down.Clear.{EndsClear, last_leaf}
use Rattle.fo_tree_lift.specs.of_tree_raise.Levels.{grown}
use Rattle.fo_tree_lift.proofs.of_tree_raise.Climbing.{room_more}
use Rattle.fo_tree_lift.specs.of_tree_grow.Grow.{sized}
use Rattle.fo_tree_lift.proofs.of_tree_grow.Sizing.{room_for, way_sized, prepared_sized, clear_sized, address_sized, held_sized}
use Rattle.fo_tree_lift.specs.Lift.{IsCopied, Lifts}
use Rattle.fo_tree_lift.proofs.Lifting.{over_lifted}
use Rattle.fo_tree_clear.specs.Put.{byte_here}

-- Levels were put above a source, as many as its new size asks for.
pub record IsLifted (s m : State) (t : Tree) (kept : List Kept) (levels : ℕ) (p : Pointer) (z : ℕ) : Type 0 where
  pub lifts : Lifts s m t kept levels p
  pub most : ℕ
  pub over : Over s t kept most
  pub end : z ≤ most
  pub past : t.size < z
  pub some : 0 < t.size
  pub depth : t.depth + levels ≡ depth_for z
  pub all : KeepsAll s m

none_cond : (c : Bool) (h : Option (List ℕ)) → h ≡ None → cond c h None ≡ None
none_cond true h e = e
none_cond false h e = refl

-- A leaf of the source with its levels is the one that it was.
record SameLeaf (s m : State) (t g : Tree) (kept : List Kept) (j : ℕ) : Type 0 where
  pub at : address_here m g j ≡ address_here s t j
  pub held : held_here m g kept j ≡ held_here s t kept j

-- It is a copy of the only one.
record NewLeaf (s m : State) (t g : Tree) (kept : List Kept) (p : Pointer) (j : ℕ) : Type 0 where
  pub copied : IsCopied s m t p (block_at s t t.depth j) (block_at m g g.depth j)
  pub at : address_here m g j ≡ Some copied.copy
  pub held : held_here m g kept j ≡ None
  pub was : address_here s t j ≡ Some copied.at
  pub inside : 8192 * j < t.size

module _ {s m : State} {t : Tree} {kept : List Kept} {levels : ℕ} {p : Pointer} {z : ℕ} (x : IsLifted s m t kept levels p z) where
  mid : s.tells → m.tells
  mid told = x.all.still_tells.1 told

  few : (j : ℕ) → 8192 * j < t.size → j < 409 ^ t.depth
  few j lt = let room = x.over.hangs.room in omega (arith, room, lt)

  few_new : (j : ℕ) → 8192 * j < t.size → j < 409 ^ (t.depth + levels)
  few_new j lt =
      let old = few j lt in
      let room : 8192 * (j + 1) ≤ 8192 * 409 ^ (t.depth + levels) = room_more (8192 * (j + 1)) t.depth levels (omega (arith, old)) in
      omega (arith, room)

  leaf_new : (j : ℕ) → 8192 * j < t.size → leaf_at m (grown t levels p) j ≡ block_at m (grown t levels p) (t.depth + levels) j
  leaf_new j lt = ap (λ c. cond c (block_at m (grown t levels p) (t.depth + levels) j) Nil) (lt-ltb j (409 ^ (t.depth + levels)) (few_new j lt))

  leaf_old : (j : ℕ) → 8192 * j < t.size → leaf_at s t j ≡ block_at s t t.depth j
  leaf_old j lt = ap (λ c. cond c (block_at s t t.depth j) Nil) (lt-ltb j (409 ^ t.depth) (few j lt))

  held_of_same : (q : Pointer) → held_of m (kind_at t.dir 0) q ≡ held_of s (kind_at t.dir 0) q
  held_of_same Nil = refl
  held_of_same (Local a) = refl
  held_of_same (Held score) = x.all.same_held score (kind_code (kind_at t.dir 0))

  same_leaf : s.tells → (j : ℕ) → leaf_at m (grown t levels p) j ≡ leaf_at s t j → SameLeaf s m t (grown t levels p) kept j
  same_leaf told j e = record {
    at = ap (λ (q : Pointer). cond (nat_lt (8192 * j) t.size) (address_of q) None) e;
    held =
        seen_leaf m (grown t levels p) kept x.lifts.bears.held (mid told) j
        ∙ ap (λ (q : Pointer). cond (nat_lt (8192 * j) t.size) (held_of m (kind_at t.dir 0) q) None) e
        ∙ ap (λ (h : Option (List ℕ)). cond (nat_lt (8192 * j) t.size) h None) (held_of_same (leaf_at s t j))
        ∙ sym (seen_leaf s t kept x.over.held told j);
  }

  new_leaf : s.tells → (j : ℕ) → 8192 * j < t.size → IsCopied s m t p (block_at s t t.depth j) (block_at m (grown t levels p) (t.depth + levels) j) → NewLeaf s m t (grown t levels p) kept p j
  new_leaf told j lt y = record {
    copied = y;
    at = ap (λ c. cond c (address_of (leaf_at m (grown t levels p) j)) None) (lt-ltb (8192 * j) t.size lt) ∙ ap (λ (q : Pointer). address_of q) (leaf_new j lt ∙ y.is);
    held =
        seen_leaf m (grown t levels p) kept x.lifts.bears.held (mid told) j
        ∙ ap (λ (q : Pointer). cond (nat_lt (8192 * j) t.size) (held_of m (kind_at t.dir 0) q) None) (leaf_new j lt ∙ y.is)
        ∙ none_cond (nat_lt (8192 * j) t.size) None refl;
    was = ap (λ c. cond c (address_of (leaf_at s t j)) None) (lt-ltb (8192 * j) t.size lt) ∙ ap (λ (q : Pointer). address_of q) (leaf_old j lt ∙ y.was);
    inside = lt;
  }

  leaf_by : s.tells → (j : ℕ) → SameLeaf s m t (grown t levels p) kept j ⊎ NewLeaf s m t (grown t levels p) kept p j
  leaf_by told j = ⊎_elim
      (λ lt. ⊎_elim
      (λ same. inl (same_leaf told j (leaf_new j lt ∙ same ∙ sym (leaf_old j lt))))
      (λ y. inr (new_leaf told j lt y))
      (x.lifts.leaves told j (few j lt)))
      (λ ge. inl (record {
        at = address_past m (grown t levels p) j ge ∙ sym (address_past s t j ge);
        held = held_past m (grown t levels p) kept j ge ∙ sym (held_past s t kept j ge);
      }))
      (cases_lt (8192 * j) t.size)

  -- ---- bytes

  byte_stays : s.tells → (j : ℕ) (leaf : Option ℕ) → address_here s t j ≡ leaf → (held : Option (List ℕ)) (r : ℕ) → byte_at m.now leaf held r ≡ byte_at s.now leaf held r
  byte_stays told j (Some b) e held r = ap (λ xs. slice_index xs r) (x.lifts.adds.same b (λ made. made.0 (x.over.told told b (here_owned (is_here s t j b e))).live)).bytes
  byte_stays told j None e (Some bytes) r = refl
  byte_stays told j None e None r = refl

  pub byte_same : s.tells → (j r : ℕ) → byte_at m.now (address_here m (grown t levels p) j) (held_here m (grown t levels p) kept j) r ≡ byte_at s.now (address_here s t j) (held_here s t kept j) r
  byte_same told j r = ⊎_elim
      (λ same.
      ap (λ a. byte_at m.now a (held_here m (grown t levels p) kept j) r) same.at
      ∙ ap (λ h. byte_at m.now (address_here s t j) h r) same.held
      ∙ byte_stays told j (address_here s t j) refl (held_here s t kept j) r)
      (λ new.
      ap (λ a. byte_at m.now a (held_here m (grown t levels p) kept j) r) new.at
      ∙ ap (λ xs. slice_index xs r) new.copied.content.bytes
      ∙ sym (ap (λ a. byte_at s.now a (held_here s t kept j) r) new.was))
      (leaf_by told j)

  room : z ≤ 8192 * 409 ^ (t.depth + levels)
  room = let end = x.end in let low = x.over.low in subst (λ d. z ≤ 8192 * 409 ^ d) (sym x.depth) (room_for z (omega (arith, end, low)))

  longer : t.size ≤ z
  longer = let past = x.past in omega (arith, past)

  begun : 0 < z
  begun = let past = x.past in omega (arith, past)

  pub over_mid : (limit : ℕ) → z ≤ limit → limit ≤ 2 ^ 47 → Over m (sized (grown t levels p) z) kept limit
  over_mid limit within low = over_lifted m (grown t levels p) z limit kept begun within low x.depth x.lifts.bears

  pub prepared_mid : (limit o n : ℕ) → Prepared s t kept limit o n → Prepared m (sized (grown t levels p) z) kept limit o n
  prepared_mid limit o n was = prepared_sized m (grown t levels p) z kept x.lifts.clear longer room limit o n (x.lifts.still limit o n was)

  pub clear_mid : EndsClear m (sized (grown t levels p) z) kept
  clear_mid = clear_sized m (grown t levels p) z kept x.lifts.clear longer room begun

  pub way_mid : 0 < t.size % 8192 → WayReady m (sized (grown t levels p) z) kept (t.depth + levels) (t.size / 8192)
  way_mid part =
      let last : last_leaf t.size ≡ t.size / 8192 = omega (arith, part) in
      way_sized m (grown t levels p) z kept (t.depth + levels) (t.size / 8192) (subst (λ i. WayReady m (grown t levels p) kept (t.depth + levels) i) last (x.lifts.clear.way x.some))

  pub bytes_mid : s.tells → (k : ℕ) → byte_here m (sized (grown t levels p) z) kept k ≡ byte_here s t kept k
  bytes_mid told k =
      ap (λ a. byte_at m.now a (held_here m (sized (grown t levels p) z) kept (k / 8192)) (k % 8192)) (address_sized m (grown t levels p) z kept x.lifts.clear longer room (k / 8192))
      ∙ ap (λ h. byte_at m.now (address_here m (grown t levels p) (k / 8192)) h (k % 8192)) (held_sized m (grown t levels p) z kept x.lifts.clear longer room (k / 8192))
      ∙ byte_same told (k / 8192) (k % 8192)
