-- Which blocks a source has, as its entry leads to them.
use Rattle.std.proofs.Common.{◌≡◌, ◌≢◌, ◌⊎◌, ◌↔◌, ◌+◌, ◌-◌, ◌*◌, ◌/◌, ◌%◌, ◌<◌, ◌≤◌, ℕ, zero, suc, Bool, true, false, List, [], ◌∷◌, ◌++◌, inl, inr, ⊎_elim, refl, sym, ◌∙◌, ap, subst, arith}
use Rattle.std.proofs.lemmas.Bool.{cases_lt}
use Rattle.fo_image.specs.declared.types.Kind.{Kind}
use Rattle.fo_image.specs.declared.types.Kind.TheVariants.{Root}
use Rattle.fo_image.specs.declared.types.Score.{Score}
use Rattle.fo_image.specs.declared.types.Pointer.{Pointer}
use Rattle.fo_image.specs.declared.types.Pointer.TheVariants.{Nil, Local, Score as Held}
use Rattle.fo_image.specs.Format.{kind_code}
use Rattle.fo_crash.specs.declared.slot.Slot.{Slot}
use Rattle.fo_crash.specs.Images.{Image, target, walk, local, to_block}
use Rattle.fo_crash.specs.Places.{place, super_place, IsPlaced, OnePlace}
use Rattle.fo_crash.specs.declared.place.Place.{Place}
use Rattle.fo_crash.specs.Spots.{slots_of, FewSlots}
use Rattle.fo_crash.specs.Steps.{Through}
use Rattle.fo_crash.proofs.Reach.{lost, walk_joins}
use Rattle.fo_ports.specs.Blocks.{IsInner}
use Rattle.fo_ports.specs.State.{State, IsPointers}
use Rattle.fo_tree_read.specs.declared.tree.Tree.{Tree}
use Rattle.fo_tree_read.specs.Tree.{kind_at, kind_down, below, block_at, Hangs}
use Rattle.fo_tree_read.proofs.Walk.{is_down, inner_kind}
use Rattle.fo_tree_read.proofs.Walk.{held_apart}
use Rattle.fo_tree_look.specs.Source.{HasBlock}

local_eq : {a b : ℕ} → Local a ≡ Local b → a ≡ b
local_eq e = cc

nil_local : (b : ℕ) → Nil ≡ Local b → ⊥
nil_local b e = cc

held_local : (score : Score) (b : ℕ) → Held score ≡ Local b → ⊥
held_local score b e = cc

root_apart : (dir : Bool) (level : ℕ) → kind_at dir level ≡ Root → ⊥
root_apart true level e = cc
root_apart false level e = cc

-- a leaf is no block of pointers
leaf_plain : (dir : Bool) → IsInner (kind_at dir 0) → ⊥
leaf_plain true inner = omega (arith, inner)
leaf_plain false inner = omega (arith, inner)

few_slots : (dir : Bool) (level : ℕ) → slots_of (kind_at dir level) ≤ 409
few_slots true zero = omega arith
few_slots true (suc level) = omega arith
few_slots false zero = omega arith
few_slots false (suc level) = omega arith

-- ---- paths that go one slot on

-- A path with one slot more begins with all of the path, or goes on from within it.
pub record Cut (path front rest : List ℕ) (i : ℕ) : Type 0 where
  pub after : List ℕ
  pub is : path ≡ front ++ (i ∷ after)

empty_apart : (front rest : List ℕ) (i : ℕ) → [] ≡ front ++ (i ∷ rest) → ⊥
empty_apart [] rest i e = cc
empty_apart (x ∷ front) rest i e = cc

split_last : (path front rest : List ℕ) (i j : ℕ) → path ++ (i ∷ []) ≡ front ++ (j ∷ rest) → (front ≡ path) ⊎ Cut path front rest j
split_last [] [] rest i j e = inl refl
split_last [] (x ∷ front) rest i j e = absurd (empty_apart front rest j (tails i x [] (front ++ (j ∷ rest)) e))
  where
    tails : (a b : ℕ) (x y : List ℕ) → a ∷ x ≡ b ∷ y → x ≡ y
    tails a b x y e = cc
split_last (p ∷ path) [] rest i j e = inr (record { after = path; is = ap (λ y. y ∷ path) (heads p j (path ++ (i ∷ [])) rest e) })
  where
    heads : (a b : ℕ) (x y : List ℕ) → a ∷ x ≡ b ∷ y → a ≡ b
    heads a b x y e = cc
split_last (p ∷ path) (x ∷ front) rest i j e = ⊎_elim
    (λ whole. inl (ap (λ y. y ∷ front) (sym (heads p x (path ++ (i ∷ [])) (front ++ (j ∷ rest)) e)) ∙ ap (λ l. p ∷ l) whole))
    (λ cut. inr (record { after = cut.after; is = ap (λ l. p ∷ l) cut.is ∙ ap (λ y. y ∷ (front ++ (j ∷ cut.after))) (heads p x (path ++ (i ∷ [])) (front ++ (j ∷ rest)) e) }))
    (split_last path front rest i j (tails p x (path ++ (i ∷ [])) (front ++ (j ∷ rest)) e))
  where
    heads : (a b : ℕ) (x y : List ℕ) → a ∷ x ≡ b ∷ y → a ≡ b
    heads a b x y e = cc

    tails : (a b : ℕ) (x y : List ℕ) → a ∷ x ≡ b ∷ y → x ≡ y
    tails a b x y e = cc

through_on : {on : ℕ → Type 0} {now : Image} {s : Slot} {a b : ℕ} (i : ℕ) → Through on now s a → on a → target ((now a).slot i) ≡ Local b → Through on now s b
through_on {on = on} {now = now} {s = s} {a = a} {b = b} i t here e = record {
  path = t.path ++ (i ∷ []);
  leads = ap (λ (q : Slot). target q) (walk_joins now s t.path (i ∷ [])) ∙ ap (λ (p : Pointer). target ((local now p).slot i)) t.leads ∙ e;
  within = λ front j rest y is leads. ⊎_elim
      (λ whole. subst on (local_eq (sym t.leads ∙ ap (λ l. target (walk now s l)) (sym whole) ∙ leads)) here)
      (λ cut. t.within front j cut.after y cut.is leads)
      (split_last t.path front rest i j is);
}

-- ---- the blocks of a source

pub record Told (s : State) (t : Tree) : Type 0 where
  pub told : s.tells
  pub hangs : Hangs s t
  pub placed : IsPlaced s.stands s.now
  pub one : OnePlace s.stands
  pub super_stands : s.stands 1 super_place
  pub few : FewSlots s.stands s.now
  pub labelled : (b : ℕ) (p : Place) → b ≢ 1 → s.stands b p → (s.label b).kind ≡ p.kind

module _ {s : State} {t : Tree} (x : Told s t) where
  kind_is : (n k b : ℕ) → n ≤ t.depth → block_at s t n k ≡ Local b → (s.label b).kind ≡ kind_at t.dir (t.depth - n)
  kind_is n k b le e =
      let is = is_down s t x.placed x.hangs x.told n k b le e in
      let p : Place = place (kind_down t n) t.tag is.index (t.rank + (t.depth - n)) in
      x.labelled b (place (kind_down t n) t.tag is.index (t.rank + (t.depth - n)))
      (λ one. root_apart t.dir (t.depth - n) (ap (λ (q : Place). q.kind) (x.one.each b (place (kind_down t n) t.tag is.index (t.rank + (t.depth - n))) super_place is.stands (subst (λ y. s.stands y super_place) (sym one) x.super_stands))))
      is.stands

  pointers_above : (n k b : ℕ) → suc n ≤ t.depth → block_at s t n k ≡ Local b → IsPointers s b
  pointers_above n k b le e = subst (λ (q : Kind). IsInner q) (sym (kind_is n k b (omega (arith, le)) e)) (inner_kind t.dir (t.depth - n) (omega (arith, le)))

  -- each block hangs from the slot that leads to the top
  own_through : (from : Slot) → target from ≡ t.top → (n k b : ℕ) → n ≤ t.depth → block_at s t n k ≡ Local b → Through (IsPointers s) s.now from b
  own_through from top zero k b le e = record {
    path = [];
    leads = top ∙ e;
    within = λ front i rest y is leads. absurd (empty_apart front rest i is);
  }
  own_through from top (suc n) k b le e = go (λ a is. own_through from top n (k / 409) a (omega (arith, le)) is) (block_at s t n (k / 409)) refl e
    where
      go : ((a : ℕ) → block_at s t n (k / 409) ≡ Local a → Through (IsPointers s) s.now from a) → (p : Pointer) → block_at s t n (k / 409) ≡ p → below s (kind_down t n) p (k % 409) ≡ Local b → Through (IsPointers s) s.now from b
      go above Nil at is = absurd (nil_local b is)
      go above (Local a) at is = through_on (k % 409) (above a at) (pointers_above n (k / 409) a le at) is
      go above (Held score) at is = absurd (held_apart (s.held score (kind_code (kind_down t n))) (k % 409) b is)

  next : (n k a j c : ℕ) → j < 409 → block_at s t n k ≡ Local a → target ((s.now a).slot j) ≡ Local c → block_at s t (suc n) (409 * k + j) ≡ Local c
  next n k a j c lt is f =
      let up : (409 * k + j) / 409 ≡ k = omega (arith, lt) in
      let rest : (409 * k + j) % 409 ≡ j = omega (arith, lt) in
      ap (λ y. below s (kind_down t n) (block_at s t n y) ((409 * k + j) % 409)) up
      ∙ ap (λ y. below s (kind_down t n) (block_at s t n k) y) rest
      ∙ ap (λ (p : Pointer). below s (kind_down t n) p j) is
      ∙ f

  -- a path through blocks of pointers stays in the source
  own_by : (path : List ℕ) (n k a b : ℕ) → n ≤ t.depth → block_at s t n k ≡ Local a → target (walk s.now (to_block a) path) ≡ Local b
      → ((front : List ℕ) (i : ℕ) (rest : List ℕ) (y : ℕ) → path ≡ front ++ (i ∷ rest) → target (walk s.now (to_block a) front) ≡ Local y → IsPointers s y) → HasBlock s t b
  own_by [] n k a b le is f inner = record { down = n; index = k; within = le; is = is ∙ f }
  own_by (j ∷ path) n k a b le is f inner = by (λ m c k' near here leads more. own_by path m k' c b near here leads more) (target ((s.now a).slot j)) refl
    where
      from_block : (c : ℕ) → target ((s.now a).slot j) ≡ Local c → (q : List ℕ) (z : ℕ) → target (walk s.now ((s.now a).slot j) q) ≡ Local z → target (walk s.now (to_block c) q) ≡ Local z
      from_block c g [] z h = sym g ∙ h
      from_block c g (m ∷ rest) z h = ap (λ (p : Pointer). target (walk s.now ((local s.now p).slot m) rest)) (sym g) ∙ h

      to_slot : (c : ℕ) → target ((s.now a).slot j) ≡ Local c → (q : List ℕ) (z : ℕ) → target (walk s.now (to_block c) q) ≡ Local z → target (walk s.now ((s.now a).slot j) q) ≡ Local z
      to_slot c g [] z h = g ∙ h
      to_slot c g (m ∷ rest) z h = ap (λ (p : Pointer). target (walk s.now ((local s.now p).slot m) rest)) g ∙ h

      here_inner : IsPointers s a
      here_inner = inner [] j path a refl refl

      lt : n < t.depth
      lt = ⊎_elim
          (λ inside. inside)
          (λ last. absurd (let level : t.depth - n ≡ 0 = omega (arith, last) in leaf_plain t.dir (subst (λ d. IsInner (kind_at t.dir d)) level (subst (λ (q : Kind). IsInner q) (kind_is n k a le is) here_inner))))
          (cases_lt n t.depth)

      slot_few : (c : ℕ) → target ((s.now a).slot j) ≡ Local c → j < 409
      slot_few c g =
          let down = is_down s t x.placed x.hangs x.told n k a le is in
          let within : j < slots_of (kind_down t n) = x.few.each a j c (place (kind_down t n) t.tag down.index (t.rank + (t.depth - n))) down.stands g in
          let most : slots_of (kind_down t n) ≤ 409 = few_slots t.dir (t.depth - n) in
          omega (arith, within, most)

      by : ((m c k' : ℕ) → m ≤ t.depth → block_at s t m k' ≡ Local c → target (walk s.now (to_block c) path) ≡ Local b → ((front : List ℕ) (i : ℕ) (rest : List ℕ) (y : ℕ) → path ≡ front ++ (i ∷ rest) → target (walk s.now (to_block c) front) ≡ Local y → IsPointers s y) → HasBlock s t b) → (p : Pointer) → target ((s.now a).slot j) ≡ p → HasBlock s t b
      by on Nil g = absurd (lost s.now path ((s.now a).slot j) (λ c h. nil_local c (sym g ∙ h)) b f)
      by on (Held score) g = absurd (lost s.now path ((s.now a).slot j) (λ c h. held_local score c (sym g ∙ h)) b f)
      by on (Local c) g =
          let inside = lt in
          on (suc n) c (409 * k + j) (omega (arith, inside)) (next n k a j c (slot_few c g) is g) (from_block c g path b f)
          (λ front i rest y e leads. inner (j ∷ front) i rest y (ap (λ l. j ∷ l) e) (to_slot c g front y leads))

  pub blocks_are : (from : Slot) → target from ≡ t.top → (b : ℕ) → HasBlock s t b ↔ Through (IsPointers s) s.now from b
  blocks_are from top b = (
    λ has. own_through from top has.down has.index b has.within has.is,
    λ through. by (target from) refl through,
  )
    where
      from_top : (a : ℕ) → target from ≡ Local a → (q : List ℕ) (z : ℕ) → target (walk s.now from q) ≡ Local z → target (walk s.now (to_block a) q) ≡ Local z
      from_top a g [] z h = sym g ∙ h
      from_top a g (m ∷ rest) z h = ap (λ (p : Pointer). target (walk s.now ((local s.now p).slot m) rest)) (sym g) ∙ h

      to_top : (a : ℕ) → target from ≡ Local a → (q : List ℕ) (z : ℕ) → target (walk s.now (to_block a) q) ≡ Local z → target (walk s.now from q) ≡ Local z
      to_top a g [] z h = g ∙ h
      to_top a g (m ∷ rest) z h = ap (λ (p : Pointer). target (walk s.now ((local s.now p).slot m) rest)) g ∙ h

      by : (p : Pointer) → target from ≡ p → Through (IsPointers s) s.now from b → HasBlock s t b
      by Nil g through = absurd (lost s.now through.path from (λ c h. nil_local c (sym g ∙ h)) b through.leads)
      by (Held score) g through = absurd (lost s.now through.path from (λ c h. held_local score c (sym g ∙ h)) b through.leads)
      by (Local a) g through = own_by through.path 0 0 a b (omega arith) (sym top ∙ g) (from_top a g through.path b through.leads)
          (λ front i rest y e leads. through.within front i rest y e (to_top a g front y leads))
