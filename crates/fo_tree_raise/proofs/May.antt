-- A block that was given out may lead to the top of a source.
use Rattle.std.proofs.Common.{◌≡◌, ◌≢◌, ◌⊎◌, ◌+◌, ◌<◌, ◌≤◌, ℕ, suc, Bool, true, false, length, inl, inr, ⊎_elim, refl, sym, ◌∙◌, ap, subst, arith}
use Rattle.fo_image.specs.declared.types.Label.{Label}
use Rattle.fo_image.specs.declared.types.Score.{Score}
use Rattle.fo_image.specs.declared.types.State.TheVariants.{Live}
use Rattle.fo_image.specs.declared.types.Pointer.{Pointer}
use Rattle.fo_image.specs.declared.types.Pointer.TheVariants.{Nil, Local, Score as Held}
use Rattle.fo_crash.specs.declared.slot.Slot.TheVariants.{Pointer as To}
use Rattle.fo_crash.specs.declared.place.Place.{Place}
use Rattle.fo_crash.specs.Images.{Reaches, target, to_block}
use Rattle.fo_crash.specs.Places.{place, place_below, super_place}
use Rattle.fo_crash.proofs.Places.{stands_below}
use Rattle.fo_crash.proofs.Reach.{lost, reach_aside, reach_into, reaches_itself}
use Rattle.fo_ports.specs.Blocks.{IsInner, SlotFits, slot_count, cost, dropped, blank_slot, IsLevel}
use Rattle.fo_ports.specs.State.{State, KeepsAll, IsRooted, Comes, IsLoose, IsRaised, MayPutSlot}
use Rattle.fo_tree_read.proofs.of_looks.Looks.{rooted_of_apart}
use Rattle.fo_tree_read.specs.declared.tree.Tree.{Tree}
use Rattle.fo_tree_read.specs.Tree.{kind_at}
use Rattle.fo_tree_read.proofs.Walk.{inner_kind}
use Rattle.fo_tree_down.proofs.of_tree_own.Link.{Laws, Came, inner_slots, inner_below, pointer_fits}
use Rattle.fo_tree_raise.specs.Raise.{CanRaise}

-- A block of zeros was given out for the place above the source's top.
pub record Lifting (t : Tree) (l : Label) (result : ℕ) (s m : State) : Type 0 where
  pub came : Came l result s m
  pub all : KeepsAll s m
  pub laws : Laws s
  pub later : Laws m
  pub is_live : l.state ≡ Live
  pub is_current : l.epoch ≡ s.high
  pub kind : l.kind ≡ kind_at t.dir (suc t.depth)
  pub tagged : l.tag ≡ t.tag
  pub long : length ((m.now result).bytes) ≡ 8192
  pub slot : (m.now result).slot 0 ≡ To Nil
  pub bare : (j : ℕ) → target ((m.now result).slot j) ≡ Nil
  pub instead : (y : ℕ) → m.instead result y → ⊥
  pub place : s.tells → m.stands result (place (kind_at t.dir (suc t.depth)) t.tag 0 (t.rank + suc t.depth))
  pub can : CanRaise s t

pub level_of : (dir : Bool) (level : ℕ) → level ≤ 4 → IsLevel (kind_at dir level)
level_of true level lt = lt
level_of false level lt = lt

pub blank_first : (dir : Bool) (level : ℕ) → blank_slot (kind_at dir (suc level)) 0 ≡ To Nil
blank_first true level = refl
blank_first false level = refl

nil_local : (b : ℕ) → Nil ≡ Local b → ⊥
nil_local b e = cc

held_local : (score : Score) (b : ℕ) → Held score ≡ Local b → ⊥
held_local score b e = cc

module _ {t : Tree} {l : Label} {result : ℕ} {s m : State} (x : Lifting t l result s m) where
  pub told_mid : s.tells → m.tells
  told_mid told = x.all.still_tells.1 told

  pub bare_none : (j b : ℕ) → target ((m.now result).slot j) ≢ Local b
  bare_none j b e = nil_local b (sym (x.bare j) ∙ e)

  -- the block that was the top is another
  pub under_ne : (b : ℕ) → t.top ≡ Local b → b ≢ result
  under_ne b e f = x.came.was.0 (ap (λ y. (s.label y).state) (sym f) ∙ (x.can.under b e).live)

  pub label_kind : (m.label result).kind ≡ kind_at t.dir (suc t.depth)
  label_kind = ap (λ (q : Label). q.kind) x.came.label ∙ x.kind

  -- ---- what a put asks over any device

  pub may_spell : (0 < slot_count (m.label result).kind) × SlotFits (m.label result).kind 0 (To t.top)
  may_spell = subst (λ q. (0 < slot_count q) × SlotFits q 0 (To t.top)) (sym label_kind)
      (subst (λ n. 0 < n) (sym (inner_slots t.dir t.depth)) (omega arith), pointer_fits t.dir t.depth 0 t.top x.can.holds)

  pub may_lead : (b : ℕ) → t.top ≡ Local b → m.is_block b × (b ≢ result)
  may_lead b e = ((x.all.same_blocks b).1 (x.can.under b e).is_one, under_ne b e)

  pub may_settled : m.clearing result 0 → ⊥
  may_settled h = (x.came.order.clearing result 0 h).0 refl

  pub may_cost : cost ((m.now result).slot 0) (To t.top) ≡ 0
  may_cost = ap (λ q. cost q (To t.top)) x.slot

  pub none_dropped : dropped ((m.now result).slot 0) (To t.top) ≡ 0
  none_dropped = ap (λ q. dropped q (To t.top)) x.slot

  -- ---- what it asks of a device that tells

  -- what stands leads not to the block that was given out
  pub away : s.tells → (w : ℕ) (p : Place) → s.stands w p → Reaches s.now (to_block w) result → ⊥
  away told w p stands r =
      let q = stands_below p (x.laws.placed told) (x.laws.ranked told) stands r in
      (x.came.was.3 told).1 q.0 q.1

  pub reaches_mid : s.tells → (w b : ℕ) (p : Place) → s.stands w p → Reaches s.now (to_block w) b → Reaches m.now (to_block w) b
  reaches_mid told w b p stands r = reach_aside s.now m.now (λ y. y ≡ result) w (λ y j ne. sym ((x.came.others y ne).slots j)) (λ y e far. away told w p stands (subst (λ z. Reaches s.now (to_block w) z) e far)) b r

  pub back : s.tells → (w b : ℕ) (p : Place) → s.stands w p → Reaches m.now (to_block w) b → Reaches s.now (to_block w) b
  back told w b p stands r = reach_into s.now m.now (λ y. y ≡ result) w (λ y j ne. sym ((x.came.others y ne).slots j)) (λ y e far. away told w p stands (subst (λ z. Reaches s.now (to_block w) z) e far)) b r

  abbrev Fine : ℕ → Type 0
  Fine b = ((m.label b).state ≡ Live) × ((m.label b).epoch ≤ m.high) × (m.covered b → ⊥)

  pub fine_on : (b : ℕ) → ((s.label b).state ≡ Live) × ((s.label b).epoch ≤ s.high) × (s.covered b → ⊥) → Fine b
  fine_on b is =
      let ne : b ≢ result = λ f. x.came.was.0 (ap (λ y. (s.label y).state) (sym f) ∙ is.0) in
      let label = x.came.stays.labels b ne in (
        ap (λ (q : Label). q.state) label ∙ is.0,
        subst (λ n. (m.label b).epoch ≤ n) (sym x.all.same_high) (subst (λ (q : Label). q.epoch ≤ s.high) (sym label) is.1),
        x.came.only b ne is.2,
      )

  pub brings_mid : s.tells → (y : ℕ) → t.top ≡ Local y → (b : ℕ) → Reaches m.now (to_block y) b → Fine b
  brings_mid told y e b r =
      let under = (x.can.under y e).told told in
      fine_on b (under.brings.each b (back told y b (place (kind_at t.dir t.depth) t.tag 0 (t.rank + t.depth)) under.stands r))

  brings_by : s.tells → (p : Pointer) → t.top ≡ p → (b : ℕ) → Reaches m.now (To p) b → Fine b
  brings_by told Nil e b r = absurd (lost m.now r.path (To Nil) nil_local b r.leads)
  brings_by told (Local y) e b r = brings_mid told y e b r
  brings_by told (Held score) e b r = absurd (lost m.now r.path (To (Held score)) (held_local score) b r.leads)

  -- it hangs in memory still
  under_rooted : s.tells → (b : ℕ) → t.top ≡ Local b → IsRooted m b
  under_rooted told b e = ⊎_elim
      (λ h. rooted_of_apart m b ((x.came.stays.apart b (under_ne b e) (λ n. n)).1 h))
      (λ r. (1, inl x.later.active, reaches_mid told 1 b super_place (x.laws.super_stands told) r))
      ((x.can.under b e).told told).free

  pub under_stands : s.tells → (b : ℕ) → t.top ≡ Local b → m.stands b (place (kind_at t.dir t.depth) t.tag 0 (t.rank + t.depth))
  under_stands told b e =
      let under = (x.can.under b e).told told in
      x.came.stays.places told b (place (kind_at t.dir t.depth) t.tag 0 (t.rank + t.depth)) (under_ne b e) (λ h. h) (brings_mid told b e b (reaches_itself m.now b)).2 (under_rooted told b e) under.stands

  pub place_is : s.tells → (p : Place) → m.stands result p → place_below p 0 (To t.top) ≡ place (kind_at t.dir t.depth) t.tag 0 (t.rank + t.depth)
  place_is told p stands =
      ap (λ q. place_below q 0 (To t.top)) (x.later.one.each result p (place (kind_at t.dir (suc t.depth)) t.tag 0 (t.rank + suc t.depth)) stands (x.place told))
      ∙ inner_below t.dir t.depth t.tag 0 t.rank 0 (To t.top)

  lower : s.tells → (p : Place) → m.stands result p → (place_below p 0 (To t.top)).rank < p.rank
  lower told p stands =
      let low : (place_below p 0 (To t.top)).rank ≡ t.rank + t.depth = ap (λ (q : Place). q.rank) (place_is told p stands) in
      let high : p.rank ≡ t.rank + suc t.depth = ap (λ (q : Place). q.rank) (x.later.one.each result p (place (kind_at t.dir (suc t.depth)) t.tag 0 (t.rank + suc t.depth)) stands (x.place told)) in
      omega (arith, low, high)

  loose : IsLoose m result
  loose = ((x.came.is.3, x.instead), bare_none)

  -- it is raised over what its slot is led to
  pub raised_over : IsRaised m result 0
  raised_over = (loose, subst (λ q. IsInner q) (sym label_kind) (inner_kind t.dir (suc t.depth) (omega arith)), refl)

  free_mid : s.tells → (b : ℕ) → t.top ≡ Local b → m.apart b ⊎ Reaches m.now (to_block 1) b
  free_mid told b e = ⊎_elim
      (λ apart. inl ((x.came.stays.apart b (under_ne b e) (λ h. h)).1 apart))
      (λ r. inr (reaches_mid told 1 b super_place (x.laws.super_stands told) r))
      ((x.can.under b e).told told).free

  comes : s.tells → (b : ℕ) → t.top ≡ Local b → Comes m result 0 ((m.now result).slot 0) (To t.top) b
  comes told b e = inr (inr (bare_none 0, inr (inr (raised_over, free_mid told b e))))

  pub may_put : s.tells → MayPutSlot m result 0 (To t.top)
  may_put told = record {
    brings = record { each = λ b r. brings_by told t.top refl b r };
    fits = record {
      each = λ b p stands e. (
        place (kind_at t.dir t.depth) t.tag 0 (t.rank + t.depth),
        under_stands told b e,
        inl (sym (place_is told p stands)),
      );
    };
    lower = λ b p stands e. lower told p stands;
    parent = record {
      each = λ b e older.
          let same : (m.label b).epoch ≡ (s.label b).epoch = ap (λ (q : Label). q.epoch) (x.came.stays.labels b (under_ne b e)) in
          let current = (x.can.under b e).current in
          let high = x.all.same_high in
          absurd (omega (arith, older, same, current, high));
    };
    comes = comes told;
    leaves = record {
      each = λ y z is r. absurd (lost m.now r.path ((m.now result).slot 0) (bare_none 0) z r.leads);
      still = λ b j waits r. absurd (lost m.now r.path ((m.now result).slot 0) (bare_none 0) b r.leads);
    };
    uncovered = x.came.is.4;
    first = λ inner first y e. absurd (bare_none 0 y e);
    holder = inr (result, x.came.is.3, reaches_itself m.now result);
    linked = λ some. let none = may_cost in absurd (omega (arith, some, none));
    entry = λ outer b e ne. absurd (bare_none 0 b e);
    keeps = λ b e. absurd (bare_none 0 b e);
  }
