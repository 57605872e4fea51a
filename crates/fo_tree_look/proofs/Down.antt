-- A way is looked at, block by block.
use Rattle.std.proofs.Common.{◌≡◌, ◌⊎◌, ◌+◌, ◌-◌, ◌/◌, ◌%◌, ◌<◌, ◌≤◌, ℕ, zero, suc, List, inl, inr, ⊎_elim, refl, sym, ap, ◌∙◌, subst, arith}
use Rattle.std.proofs.lemmas.Bool.{cases_lt}
use Rattle.fo_image.specs.declared.types.Pointer.{Pointer}
use Rattle.fo_image.specs.declared.types.Pointer.TheVariants.{Local}
use Rattle.fo_tree_read.specs.of_crash.declared.place.Place.{Place}
use Rattle.fo_tree_read.specs.of_crash.Places.{place, IsPlaced}
use Rattle.fo_tree_read.specs.of_ports.State.{State, KeepsAll, Looks}
use Rattle.fo_tree_read.specs.declared.tree.Tree.{Tree}
use Rattle.fo_tree_read.specs.Tree.{kind_at, kind_down, below, block_at, address_of, Got}
use Rattle.fo_tree_read.specs.Reading.{LeafWay, passed, IsNext, HasLeafPins}
use Rattle.fo_tree_read.proofs.Exits.{held_got}
use Rattle.fo_tree_read.proofs.Walk.{way_same, way_looks, got_looks, is_down}
use Rattle.fo_tree_look.specs.declared.ways.Kept.{Kept}
use Rattle.fo_tree_look.specs.Source.{HasLabel, Over, AllHeld, Extends, Ready, WayReady, WayGot, Looked, seen}
use Rattle.fo_tree_look.proofs.Held.{seen_block, seen_address, address_got}
use Rattle.fo_tree_look.proofs.Shown.{held_on, seen_same, way_seen, block_same, way_on, extends_none}

-- the label of a block of the source, where the device tells
pub has_label : (s : State) (t : Tree) (kept : List Kept) (limit : ℕ) → IsPlaced s.stands s.now → ((at : ℕ) (p : Place) → s.tells → (at ≡ 1 → ⊥) → s.stands at p → s.is_block at × ((s.label at).kind ≡ p.kind) × ((s.label at).tag ≡ p.tag)) → (s.is_block 1 → ⊥) → Over s t kept limit → s.tells → (down k at : ℕ) → down ≤ t.depth → s.is_block at → block_at s t down k ≡ Local at → HasLabel s t.tag at
has_label s t kept limit placed labelled active over told down k at within block e =
    let is = over.told told at (record { down = down; index = k; within = within; is = e }) in
    let stands = is_down s t placed over.hangs told down k at within e in
    let label = labelled at (place (kind_down t down) t.tag stands.index (t.rank + (t.depth - down))) told (λ one. active (subst (λ b. s.is_block b) one block)) stands.stands in
    record { live = is.live; tagged = label.2; up_to = is.up_to }

module _ (a b : State) (t : Tree) (all : KeepsAll a b) (looks : Looks a b) where
  pub way_got_looks : (n k : ℕ) → WayGot a t n k → WayGot b t n k
  way_got_looks n k got = (
    way_looks all looks t n k got.0,
    subst (λ (p : Pointer). Got b (kind_down t n) p) (sym (way_same all looks t n k got.0)) (got_looks looks (kind_down t n) (block_at a t n k) got.1),
  )

-- the top was looked at
pub looked_top : (old new : State) (t : Tree) (kept : List Kept) (k : ℕ) → ((at : ℕ) → t.top ≡ Local at → new.is_block at) → (Got old (kind_down t zero) t.top → Ready new t kept zero t.top) → Looked old new t kept zero k t.top
looked_top old new t kept k is_one ready = record {
  found = λ known. refl;
  ready = λ got. ready got.1;
  is_one = is_one;
  is_kept = λ score e. (subst (λ (p : Pointer). Ready new t kept zero p) e (ready (held_got old (kind_down t zero) t.top score e))).0;
}

-- what was looked at last was got
pub above_got : (old m1 : State) (t : Tree) (kept : List Kept) (n k : ℕ) (above : Pointer) → KeepsAll old m1 → Looks old m1 → Looked old m1 t kept n (k / 409) above → WayGot old t (suc n) k → Got m1 (kind_down t n) above
above_got old m1 t kept n k above all looks looked got =
    let way : WayGot old t n (k / 409) = (got.0.0, got.0.1) in
    address_got m1 (kind_down t n) (ap (λ (q : Pointer). address_of q) (looked.found (inr way)) ∙ seen_address m1 kept t n (k / 409)) (way_got_looks old m1 t all looks n (k / 409) way).1

-- A way was looked at as far as this pointer, and then slot k % 409 of the block that it names.
pub record StepsDown (old m1 m2 : State) (t : Tree) (kept : List Kept) (n k : ℕ) (above p : Pointer) : Type 0 where
  pub all : KeepsAll old m1
  pub looks : Looks old m1
  pub more : KeepsAll m1 m2
  pub more_looks : Looks m1 m2
  pub both : KeepsAll old m2
  pub both_looks : Looks old m2
  pub held : AllHeld m1 kept
  pub looked : Looked old m1 t kept n (k / 409) above
  pub step : p ≡ below (seen m2 kept) (kind_down t n) above (k % 409)
  pub is_one : (b : ℕ) → p ≡ Local b → m2.is_block b

module _ {old m1 m2 : State} {t : Tree} {kept : List Kept} {n k : ℕ} {above p : Pointer} (x : StepsDown old m1 m2 t kept n k above p) where
  way_above : WayGot old t (suc n) k → WayGot old t n (k / 409)
  way_above got = (got.0.0, got.0.1)

  still : AllHeld m2 kept
  still = held_on x.more kept x.held

  none_more : Extends m2 kept kept
  none_more = extends_none x.more kept x.held

  above_is : old.tells ⊎ WayGot old t (suc n) k → above ≡ block_at (seen m2 kept) t n (k / 409)
  above_is known = ⊎_elim
      (λ told. x.looked.found (inl told) ∙ sym (seen_same m1 m2 t x.more x.more_looks (x.all.still_tells.1 told) kept kept x.held still n (k / 409)))
      (λ got. x.looked.found (inr (way_above got)) ∙ sym (way_seen m1 m2 t kept kept x.more x.more_looks none_more n (k / 409) (x.looked.ready (way_above got))))
      known

  pub step_found : old.tells ⊎ WayGot old t (suc n) k → p ≡ block_at (seen m2 kept) t (suc n) k
  step_found known = x.step ∙ ap (λ (q : Pointer). below (seen m2 kept) (kind_down t n) q (k % 409)) (above_is known)

  pub step_got : WayGot old t (suc n) k → Got m2 (kind_down t (suc n)) p
  step_got got = address_got m2 (kind_down t (suc n)) (ap (λ (q : Pointer). address_of q) (step_found (inr got)) ∙ seen_address m2 kept t (suc n) k) (way_got_looks old m2 t x.both x.both_looks (suc n) k got).1

  pub step_there : m2.tells → (j : ℕ) × (p ≡ block_at m2 t (suc n) j)
  step_there told = (k, step_found (inl (x.both.still_tells.0 told)) ∙ seen_block m2 kept still told t (suc n) k)

  -- and then the block below
  pub step_looked : {new : State} {last : List Kept} → KeepsAll m2 new → Looks m2 new → Extends new kept last → (Got m2 (kind_down t (suc n)) p → Ready new t last (suc n) p) → Looked old new t last (suc n) k p
  step_looked {new = new} {last = last} then then_looks grown ready = record {
    found = found;
    ready = λ got. (
      way_on m2 new t kept last then then_looks grown n (k / 409) (way_mid got),
      subst (λ (q : Pointer). Ready new t last (suc n) q) (found (inr got)) (ready (step_got got)),
    );
    is_one = λ b e. (then.same_blocks b).1 (x.is_one b e);
    is_kept = λ score e. (subst (λ (q : Pointer). Ready new t last (suc n) q) e (ready (held_got m2 (kind_down t (suc n)) p score e))).0;
  }
    where
      way_mid : WayGot old t (suc n) k → WayReady m2 t kept n (k / 409)
      way_mid got = way_on m1 m2 t kept kept x.more x.more_looks none_more n (k / 409) (x.looked.ready (way_above got))

      found : old.tells ⊎ WayGot old t (suc n) k → p ≡ block_at (seen new last) t (suc n) k
      found known = step_found known ∙ sym (⊎_elim
          (λ told. seen_same m2 new t then then_looks (x.both.still_tells.1 told) kept last still grown.held (suc n) k)
          (λ got. block_same m2 new t kept last then then_looks grown n k (way_mid got))
          known)

-- how many pins a leaf takes whose way was then looked at
module _ (a b c : State) (t : Tree) (i : ℕ)
    (pins : a.pins_left ≤ b.pins_left + t.depth + 1)
    (near : (j : ℕ) → IsNext a t j i → a.pins_left + passed t.depth j ≤ b.pins_left + passed t.depth i)
    (way : HasLeafPins a t i → LeafWay b t i)
    (again : WayGot b t t.depth i → b.pins_left ≤ c.pins_left) where
  pub leaf_way_got : LeafWay b t i → WayGot b t t.depth i
  leaf_way_got leaf =
      let none : 0 ≡ t.depth - t.depth = omega arith in
      (leaf.way, subst (λ l. Got b (kind_at t.dir l) (block_at b t t.depth i)) none leaf.leaf)

  pub leaf_pins : a.pins_left ≤ c.pins_left + t.depth + 1
  leaf_pins = ⊎_elim
      (λ (lt : a.pins_left < t.depth + 1). omega (arith, lt))
      (λ (ge : t.depth + 1 ≤ a.pins_left). let le = again (leaf_way_got (way (inl ge))) in omega (arith, le, pins))
      (cases_lt a.pins_left (t.depth + 1))

  pub leaf_near : (j : ℕ) → IsNext a t j i → a.pins_left + passed t.depth j ≤ c.pins_left + passed t.depth i
  leaf_near j next = ⊎_elim
      (λ (lt : a.pins_left + passed t.depth j < passed t.depth i). omega (arith, lt))
      (λ (ge : passed t.depth i ≤ a.pins_left + passed t.depth j).
      let le = again (leaf_way_got (way (inr (j, next, ge)))) in
      let p = near j next in
      omega (arith, le, p))
      (cases_lt (a.pins_left + passed t.depth j) (passed t.depth i))
