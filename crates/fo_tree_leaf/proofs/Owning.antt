-- A leaf below the end was owned.
use Rattle.std.specs.List.{range_with_len}
use Rattle.std.proofs.Common.{◌≡◌, ◌≢◌, ◌⊎◌, ◌+◌, ◌-◌, ◌*◌, ◌^◌, ◌<◌, ◌≤◌, ℕ, Bool, true, cond, nat_lt, nat_le, List, Option, Some, None, MatchOption, inl, inr, ⊎_elim, refl, sym, ◌∙◌, ap, subst, arith, ◌/◌, ◌%◌, map, slice_index}
use Rattle.std.proofs.lemmas.List.{ext_get_or, get_or-replicate, get_or_past}
use Rattle.std.proofs.lemmas.List.FromFn.{length-map-range_with_len, get_or-map-range_with_len}
use Rattle.std.proofs.lemmas.Bool.{cases_eq, cases_lt, lt-ltb, le-ltb, le-leb}
use Rattle.fo_tree_look.specs.of_image.declared.types.Label.{Label}
use Rattle.fo_tree_look.specs.of_image.declared.types.Score.{Score}
use Rattle.fo_tree_look.specs.of_image.declared.types.Pointer.{Pointer}
use Rattle.fo_tree_look.specs.of_image.declared.types.Pointer.TheVariants.{Nil, Local, Score as Held}
use Rattle.fo_tree_look.specs.of_image.Format.{kind_code}
use Rattle.fo_tree_down.specs.of_crash.Images.{SameContent}
use Rattle.fo_tree_look.specs.of_ports.Blocks.{blank, zero_bytes}
use Rattle.fo_tree_look.specs.of_ports.State.{State, KeepsAll}
use Rattle.fo_tree_look.specs.of_ports.Sources.{depth_for, way_for, most_to_own, Form, Made, IsCut, Owned, byte_at, source_bytes, EndsWithin}
use Rattle.fo_tree_look.specs.of_tree_read.declared.tree.Tree.{Tree}
use Rattle.fo_tree_look.specs.of_tree_read.Tree.{kind_at, kind_down, block_at, leaf_at, address_of, held_of, address, held_leaf}
use Rattle.fo_tree_look.specs.declared.ways.Kept.{Kept}
use Rattle.fo_tree_look.specs.Source.{IsPrepared, IsKept, AllHeld, IsTopCurrent, find_kept, or_held, seen, Ready, form_of, leaves_of, address_here, held_here, HasBlock}
use Rattle.fo_tree_look.proofs.Places.{is_here, here_owned}
use Rattle.fo_tree_look.specs.of_image.declared.types.State.TheVariants.{Live}
use Rattle.fo_tree_look.proofs.Held.{seen_leaf, seen_address}
use Rattle.fo_tree_down.specs.of_tree_own.Step.{Becomes}
use Rattle.fo_tree_down.specs.Way.{Comes, Replaces, StaysBeside, IsTopOf, with_top}
use Rattle.fo_tree_down.proofs.Next.{local_seen, local_eq}
use Rattle.fo_tree_down.proofs.Beside.{index_last}
use Rattle.fo_tree_down.proofs.Stilling.{index_one}

cond_true : {T : Type 0} (b : Bool) (x y : T) → b ≡ true → cond b x y ≡ x
cond_true b x y e = ap (λ c. cond c x y) e

nil_local : (a : ℕ) → Nil ≡ Local a → ⊥
nil_local a e = cc

held_local : (score : Score) (a : ℕ) → Held score ≡ Local a → ⊥
held_local score a e = cc

-- The leaf that came, and what is known of it.
pub record LeafCame (s u : State) (t : Tree) (kept : List Kept) (limit top i at : ℕ) : Type 0 where
  pub all : KeepsAll s u
  pub inside : 8192 * (i + 1) ≤ t.size
  pub few : i < 409 ^ t.depth
  pub comes : Comes s u t kept t.depth i at
  pub replaces : Replaces s u t t.depth i at
  pub leads : block_at u (with_top t top) t.depth i ≡ Local at
  pub ready : Ready s t kept t.depth (block_at (seen s kept) t t.depth i)
  pub beside : s.tells → StaysBeside s u t (with_top t top) t.depth i
  pub held : AllHeld s kept
  pub still_held : AllHeld u kept

module _ {s u : State} {t : Tree} {kept : List Kept} {limit top i at : ℕ} (x : LeafCame s u t kept limit top i at) where
  leaf_in : nat_lt i (409 ^ t.depth) ≡ true
  leaf_in = lt-ltb i (409 ^ t.depth) x.few

  end_in : nat_lt (8192 * i) t.size ≡ true
  end_in = let le = x.inside in lt-ltb (8192 * i) t.size (omega (arith, le))

  leaf_new : leaf_at u (with_top t top) i ≡ Local at
  leaf_new = cond_true (nat_lt i (409 ^ t.depth)) (block_at u (with_top t top) t.depth i) Nil leaf_in ∙ x.leads

  is_end : address_here u (with_top t top) i ≡ Some at
  is_end = cond_true (nat_lt (8192 * i) t.size) (address u (with_top t top) i) None end_in ∙ ap (λ (p : Pointer). address_of p) leaf_new

  -- ---- other leaves

  leaf_same : s.tells → (j : ℕ) → j ≢ i → leaf_at u (with_top t top) j ≡ leaf_at s t j
  leaf_same told j ne = ⊎_elim
      (λ lt. ap (λ (p : Pointer). cond (nat_lt j (409 ^ t.depth)) p Nil) ((x.beside told).each t.depth j (omega arith) lt (λ is. ne (index_one t.depth i t.depth j i is (index_last t.depth i)))))
      (λ ge. let past = le-ltb j (409 ^ t.depth) ge in ap (λ c. cond c (block_at u (with_top t top) t.depth j) Nil) past ∙ sym (ap (λ c. cond c (block_at s t t.depth j) Nil) past))
      (cases_lt j (409 ^ t.depth))

  address_same : s.tells → (j : ℕ) → j ≢ i → address_here u (with_top t top) j ≡ address_here s t j
  address_same told j ne = ap (λ (p : Pointer). cond (nat_lt (8192 * j) t.size) (address_of p) None) (leaf_same told j ne)

  held_of_same : (p : Pointer) → held_of u (kind_at t.dir 0) p ≡ held_of s (kind_at t.dir 0) p
  held_of_same Nil = refl
  held_of_same (Local a) = refl
  held_of_same (Held score) = x.all.same_held score (kind_code (kind_at t.dir 0))

  held_same : s.tells → (j : ℕ) → j ≢ i → held_here u (with_top t top) kept j ≡ held_here s t kept j
  held_same told j ne =
      seen_leaf u (with_top t top) kept x.still_held (x.all.still_tells.1 told) j
      ∙ ap (λ (p : Pointer). cond (nat_lt (8192 * j) t.size) (held_of u (kind_at t.dir 0) p) None) (leaf_same told j ne)
      ∙ ap (λ (h : Option (List ℕ)). cond (nat_lt (8192 * j) t.size) h None) (held_of_same (leaf_at s t j))
      ∙ sym (seen_leaf s t kept x.held told j)

  -- ---- what it has

  whole : (form : Form) (xs ys : List ℕ) → xs ≡ ys → IsCut form t.size i xs ys
  whole form xs ys same = record {
    whole = λ no. same;
    cut = λ ends. let lt = ends.2 in let le = x.inside in absurd (omega (arith, lt, le));
  }

  old_leaf : leaf_at s t i ≡ block_at s t t.depth i
  old_leaf = cond_true (nat_lt i (409 ^ t.depth)) (block_at s t t.depth i) Nil leaf_in

  old_address : address_here s t i ≡ address_of (block_at s t t.depth i)
  old_address = cond_true (nat_lt (8192 * i) t.size) (address s t i) None end_in ∙ ap (λ (p : Pointer). address_of p) old_leaf

  old_held : held_here s t kept i ≡ held_of (seen s kept) (kind_at t.dir 0) (block_at (seen s kept) t t.depth i)
  old_held = cond_true (nat_lt (8192 * i) t.size) (held_leaf (seen s kept) t i) None end_in ∙ ap (λ (p : Pointer). held_of (seen s kept) (kind_at t.dir 0) p) (cond_true (nat_lt i (409 ^ t.depth)) (block_at (seen s kept) t t.depth i) Nil leaf_in)

  none : t.depth - t.depth ≡ 0
  none = omega arith

  abbrev Has : Form → Option ℕ → Option (List ℕ) → Type 0
  Has form leaf held = MatchOption leaf (MatchOption held (SameContent (u.now at) (blank (kind_at t.dir 0))) (λ bytes. IsCut form t.size i ((u.now at).bytes) bytes)) (λ b. IsCut form t.size i ((u.now at).bytes) ((s.now b).bytes) × ((k : ℕ) → (u.now at).slot k ≡ (s.now b).slot k))

  has : (form : Form) (p : Pointer) → Ready s t kept t.depth p → Becomes s u t kept 0 p at → Has form (address_of p) (held_of (seen s kept) (kind_at t.dir 0) p)
  has form Nil is content = content
  has form (Local b) is content = (whole form ((u.now at).bytes) ((s.now b).bytes) content.bytes, content.slots)
  has form (Held score) is content =
      let kept_is : IsKept kept score (kind_code (kind_at t.dir 0)) = subst (λ l. IsKept kept score (kind_code (kind_at t.dir l))) none is.0 in
      let found : or_held (find_kept kept score (kind_code (kind_at t.dir 0))) (s.held score (kind_code (kind_at t.dir 0))) ≡ Some kept_is.0 = ap (λ f. or_held f (s.held score (kind_code (kind_at t.dir 0)))) kept_is.1 in
      subst (λ h. Has form None h) (sym found) (whole form ((u.now at).bytes) kept_is.0 ((content kept_is.0 kept_is.1).leaf refl))

  content_end : (form : Form) → Has form (address_here s t i) (held_here s t kept i)
  content_end form =
      let p : Pointer = block_at (seen s kept) t t.depth i in
      let addresses : address_here s t i ≡ address_of (block_at (seen s kept) t t.depth i) = old_address ∙ sym (seen_address s kept t t.depth i) in
      subst (λ a. Has form a (held_here s t kept i)) (sym addresses)
      (subst (λ h. Has form (address_of (block_at (seen s kept) t t.depth i)) h) (sym old_held)
      (has form (block_at (seen s kept) t t.depth i) x.ready (subst (λ l. Becomes s u t kept l (block_at (seen s kept) t t.depth i) at) none x.comes.content)))

  abbrev Copied : Option ℕ → Type 0
  Copied leaf = MatchOption leaf (Made s u at) (λ b. ((b ≡ at) × ((s.label b).epoch ≡ s.high)) ⊎ (((s.label b).epoch < s.high) × Made s u at))

  made_or : (block_at s t t.depth i ≡ Local at → Made s u at) → Made s u at
  made_or from = ⊎_elim (λ made. made) (λ is. from is.0) x.comes.from

  copied : (p : Pointer) → block_at s t t.depth i ≡ p → ((b : ℕ) → p ≡ Local b → IsPrepared s (kind_down t t.depth) t.tag b) → Copied (address_of p)
  copied Nil e is = made_or (λ f. absurd (nil_local at (sym e ∙ f)))
  copied (Held score) e is = made_or (λ f. absurd (held_local score at (sym e ∙ f)))
  copied (Local b) e is = ⊎_elim
      (λ current. inl (sym (x.replaces.kept b e current), current))
      (λ older.
      let up = (is b refl).up_to in
      inr (
        omega (arith, up, older),
        made_or (λ f.
            let same : b ≡ at = local_eq (sym e ∙ f) in
            absurd (not_older b same (is b refl) older)),
      ))
      (cases_eq ((s.label b).epoch) s.high)
    where
      not_older : (b : ℕ) → b ≡ at → IsPrepared s (kind_down t t.depth) t.tag b → (s.label b).epoch ≢ s.high → ⊥
      not_older b same prepared older =
          let label = (x.comes.descends.others b (λ made. made.0 prepared.live)).label in
          older (sym (ap (λ (l : Label). l.epoch) label) ∙ ap (λ y. (u.label y).epoch) same ∙ x.comes.own.current ∙ x.all.same_high)

  prepared_block : (b : ℕ) → block_at s t t.depth i ≡ Local b → IsPrepared s (kind_down t t.depth) t.tag b
  prepared_block b e = subst (λ (p : Pointer). Ready s t kept t.depth p) (local_seen s kept t t.depth i b e) x.ready

  pub owned : (generation : ℕ) → Owned (form_of t generation limit) t.size i at s u (leaves_of s t kept limit) (leaves_of u (with_top t top) kept limit)
  owned generation = record {
    is = is_end;
    others = λ told j ne. inl (record { at = address_same told j ne; held = inl (held_same told j ne) });
    content = content_end (form_of t generation limit);
    copied = subst (λ a. Copied a) (sym old_address) (copied (block_at s t t.depth i) refl (λ b e. prepared_block b e));
    label = (
      x.comes.own.live,
      x.comes.own.has_kind ∙ ap (λ l. kind_at t.dir l) none,
      x.comes.own.tagged,
      x.comes.own.current,
    );
    ready = (record { down = t.depth; index = i; within = omega arith; is = x.leads }, x.comes.own.is_pinned, x.comes.own.long);
  }

-- ---- all bytes

zero_at : (k : ℕ) → slice_index zero_bytes k ≡ 0
unfolding zero_bytes
zero_at k = ⊎_elim (λ lt. get_or-replicate 8192 k 0 0 lt) (λ ge. get_or_past zero_bytes k 0 ge) (cases_lt k 8192)

-- two lists of values below a length
values_same : (f g : ℕ → ℕ) (len : ℕ) → ((k : ℕ) → k < len → f k ≡ g k) → map f (range_with_len 0 len) ≡ map g (range_with_len 0 len)
values_same f g len same =
    ext_get_or 0 (map f (range_with_len 0 len)) (map g (range_with_len 0 len))
    (length-map-range_with_len f 0 len ∙ sym (length-map-range_with_len g 0 len))
    (λ k lt. let below : k < len = omega (arith, lt, length-map-range_with_len f 0 len) in
    get_or-map-range_with_len f 0 len k k 0 below (omega arith) ∙ same k below ∙ sym (get_or-map-range_with_len g 0 len k k 0 below (omega arith)))

module _ {s u : State} {t : Tree} {kept : List Kept} {limit top i at : ℕ} (x : LeafCame s u t kept limit top i at) (told : s.tells) (live : (b : ℕ) → HasBlock s t b → (s.label b).state ≡ Live) where
  not_end : (form : Form) → EndsWithin form t.size i → ⊥
  not_end form ends = let lt = ends.2 in let le = x.inside in omega (arith, lt, le)

  -- a byte of the leaf that came
  byte_came : (form : Form) (leaf : Option ℕ) (held : Option (List ℕ)) (r : ℕ) → Has x form leaf held → slice_index ((u.now at).bytes) r ≡ byte_at s.now leaf held r
  byte_came form (Some b) held r had = ap (λ xs. slice_index xs r) (had.0.whole (not_end form))
  byte_came form None (Some bytes) r had = ap (λ xs. slice_index xs r) (had.whole (not_end form))
  byte_came form None None r had = ap (λ xs. slice_index xs r) had.bytes ∙ zero_at r

  -- a byte of another leaf
  byte_stays : (j : ℕ) (leaf : Option ℕ) → address_here s t j ≡ leaf → (held : Option (List ℕ)) (r : ℕ) → byte_at u.now leaf held r ≡ byte_at s.now leaf held r
  byte_stays j (Some b) e held r = ap (λ xs. slice_index xs r) (x.comes.descends.bytes b (λ made. made.0 (live b (here_owned (is_here s t j b e)))))
  byte_stays j None e (Some bytes) r = refl
  byte_stays j None e None r = refl

  byte_here : (k : ℕ) → k / 8192 ≡ i → byte_at u.now (address_here u (with_top t top) (k / 8192)) (held_here u (with_top t top) kept (k / 8192)) (k % 8192) ≡ byte_at s.now (address_here s t (k / 8192)) (held_here s t kept (k / 8192)) (k % 8192)
  byte_here k e =
      ap (λ j. byte_at u.now (address_here u (with_top t top) j) (held_here u (with_top t top) kept j) (k % 8192)) e
      ∙ ap (λ a. byte_at u.now a (held_here u (with_top t top) kept i) (k % 8192)) (is_end x)
      ∙ byte_came (form_of t 0 limit) (address_here s t i) (held_here s t kept i) (k % 8192) (content_end x (form_of t 0 limit))
      ∙ sym (ap (λ j. byte_at s.now (address_here s t j) (held_here s t kept j) (k % 8192)) e)

  byte_beside : (k : ℕ) → k / 8192 ≢ i → byte_at u.now (address_here u (with_top t top) (k / 8192)) (held_here u (with_top t top) kept (k / 8192)) (k % 8192) ≡ byte_at s.now (address_here s t (k / 8192)) (held_here s t kept (k / 8192)) (k % 8192)
  byte_beside k ne =
      ap (λ a. byte_at u.now a (held_here u (with_top t top) kept (k / 8192)) (k % 8192)) (address_same x told (k / 8192) ne)
      ∙ ap (λ h. byte_at u.now (address_here s t (k / 8192)) h (k % 8192)) (held_same x told (k / 8192) ne)
      ∙ byte_stays (k / 8192) (address_here s t (k / 8192)) refl (held_here s t kept (k / 8192)) (k % 8192)

  pub bytes_end : source_bytes (address_here u (with_top t top)) (held_here u (with_top t top) kept) u.now t.size ≡ source_bytes (address_here s t) (held_here s t kept) s.now t.size
  bytes_end = values_same
      (λ k. byte_at u.now (address_here u (with_top t top) (k / 8192)) (held_here u (with_top t top) kept (k / 8192)) (k % 8192))
      (λ k. byte_at s.now (address_here s t (k / 8192)) (held_here s t kept (k / 8192)) (k % 8192))
      t.size
      (λ k lt. ⊎_elim (λ e. byte_here k e) (λ ne. byte_beside k ne) (cases_eq (k / 8192) i))

-- ---- the top, and how many blocks it takes

pub top_current : {s u : State} {t : Tree} {top : ℕ} → IsTopOf s u t top → IsTopCurrent u (with_top t top)
top_current {top = top} is = record { at = top; is = refl; current = is.current }

-- how many blocks it takes at most
pub most_within : (size i : ℕ) → 8192 * (i + 1) ≤ size → most_to_own size i ≡ depth_for size + 1
most_within size i le = cond_true (nat_le (8192 * (i + 1)) size) (way_for size) (2 * way_for (8192 * (i + 1))) (le-leb (8192 * (i + 1)) size le)
