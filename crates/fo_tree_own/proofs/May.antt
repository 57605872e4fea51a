-- What was given out may be put: a copy where its original hangs, and a new block where there is none.
use Rattle.std.proofs.Common.{◌≡◌, ◌≢◌, ◌⊎◌, ◌↔◌, ◌+◌, ◌*◌, ◌^◌, ◌<◌, ◌≤◌, ℕ, suc, Bool, true, false, List, [], ◌∷◌, inl, inr, ⊎_elim, refl, sym, ◌∙◌, ap, subst, arith}
use Rattle.std.proofs.lemmas.Bool.{cases_eq}
use Rattle.fo_image.specs.declared.types.Label.{Label}
use Rattle.fo_image.specs.declared.types.Score.{Score}
use Rattle.fo_image.specs.declared.types.State.TheVariants.{Live}
use Rattle.fo_image.specs.declared.types.Pointer.TheVariants.{Nil, Local, Score as Held}
use Rattle.fo_crash.specs.declared.slot.Slot.TheVariants.{Pointer as To}
use Rattle.fo_crash.specs.declared.place.Place.{Place}
use Rattle.fo_crash.specs.Images.{SameContent, Reaches, target, local, walk, to_block}
use Rattle.fo_crash.specs.Steps.{Brings}
use Rattle.fo_crash.specs.Places.{place, place_below, super_place, FitsAt}
use Rattle.fo_crash.proofs.Places.{stands_below, never_above}
use Rattle.fo_crash.proofs.Reach.{lost, reaches_joins, reaches_itself}
use Rattle.fo_tree_look.specs.of_ports.Blocks.{IsInner, IsLevel, zeros}
use Rattle.fo_tree_look.specs.of_ports.State.{State, Comes, IsLoose, LeavesNone, MayPutSlot}
use Rattle.fo_tree_look.specs.of_tree_read.declared.tree.Tree.{Tree}
use Rattle.fo_tree_look.specs.of_tree_read.Tree.{kind_at}
use Rattle.fo_tree_look.specs.Source.{IsTold}
use Rattle.fo_tree_own.proofs.Link.{Linking, local_eq, inner_below, at_kind, at_ne, at_place, same, none_dropped, may_cost, result_label, reaches_mid, back, held}

-- the place of the block to be put
abbrev pub there : Tree → ℕ → ℕ → ℕ → Place
there t level k i = place (kind_at t.dir level) t.tag (409 * k + i) (t.rank + level)

-- What the two cases show of the block that was given out; the rest is shared.
pub record Shown (t : Tree) (level k at i result : ℕ) (m : State) : Type 0 where
  pub brings : Brings m.now (To (Local result)) (λ b. ((m.label b).state ≡ Live) × ((m.label b).epoch ≤ m.high) × (m.covered b → ⊥))
  pub fits : (q : Place) × m.stands result q × FitsAt (IsLoose m result) q (there t level k i)
  pub comes : Comes m at i ((m.now at).slot i) (To (Local result)) result
  pub leaves : LeavesNone m ((m.now at).slot i) (To (Local result))
  pub keeps : (c : ℕ) → target ((m.now at).slot i) ≡ Local c → (Local result ≡ Local c) ⊎ Reaches m.now (to_block 1) c

pub inner_kind : (dir : Bool) (level : ℕ) → IsInner (kind_at dir (suc level))
inner_kind true level = omega arith
inner_kind false level = omega arith

module _ {t : Tree} {level k at i : ℕ} {l : Label} {result : ℕ} {s m : State} (x : Linking t level k at i l result s m) where
  pub place_is : s.tells → (p : Place) → m.stands at p → place_below p i (To (Local result)) ≡ there t level k i
  place_is told p stands = ap (λ q. place_below q i (To (Local result))) (x.later.one.each at p (place (kind_at t.dir (suc level)) t.tag k (t.rank + suc level)) stands (at_place x told)) ∙ inner_below t.dir level t.tag k t.rank i (To (Local result))

  lower : s.tells → (p : Place) → m.stands at p → (place_below p i (To (Local result))).rank < p.rank
  lower told p stands =
      let low : (place_below p i (To (Local result))).rank ≡ t.rank + level = ap (λ (q : Place). q.rank) (place_is told p stands) in
      let high : p.rank ≡ t.rank + suc level = ap (λ (q : Place). q.rank) (x.later.one.each at p (place (kind_at t.dir (suc level)) t.tag k (t.rank + suc level)) stands (at_place x told)) in
      omega (arith, low, high)

  pub may_put : s.tells → Shown t level k at i result m → MayPutSlot m at i (To (Local result))
  may_put told shown = record {
    brings = shown.brings;
    fits = record {
      each = λ b p stands e. (
        shown.fits.0,
        subst (λ y. m.stands y shown.fits.0) (local_eq e) shown.fits.1,
        subst (λ y. FitsAt (IsLoose m y) shown.fits.0 (place_below p i (To (Local result)))) (local_eq e) (subst (λ q. FitsAt (IsLoose m result) shown.fits.0 q) (sym (place_is told p stands)) shown.fits.2),
      );
    };
    lower = λ b p stands e. lower told p stands;
    parent = record {
      each = λ b e older.
          let low : (m.label result).epoch < m.high = subst (λ y. (m.label y).epoch < m.high) (sym (local_eq e)) older in
          let is = (result_label x).1 in
          absurd (omega (arith, low, is));
    };
    comes = λ b e. subst (λ y. Comes m at i ((m.now at).slot i) (To (Local result)) y) (local_eq e) shown.comes;
    leaves = shown.leaves;
    uncovered = x.came.only at (at_ne x) (x.above.told told).uncovered;
    first = λ inner first y e. (result, refl);
    holder = held x told;
    linked = λ some. let none = may_cost x in absurd (omega (arith, some, none));
    entry = λ outer b e ne. absurd (outer (subst IsInner (sym (at_kind x)) (inner_kind t.dir level)));
    keeps = shown.keeps;
  }

-- An older block was copied, which hangs from the slot.
pub record Copying (t : Tree) (level k at i below : ℕ) (l : Label) (result : ℕ) (s m : State) : Type 0 where
  pub link : Linking t level k at i l result s m
  pub here : SameContent (m.now result) (s.now below)
  pub leads : target ((s.now at).slot i) ≡ Local below
  pub was_live : (s.label below).state ≡ Live
  pub older : (s.label below).epoch < s.high
  pub told : s.tells → IsTold s t.top below
  pub instead : (y : ℕ) → m.instead result y ↔ (y ≡ below)
  pub place : s.tells → (p : Place) → s.stands below p → m.stands result p

module _ {t : Tree} {level k at i below : ℕ} {l : Label} {result : ℕ} {s m : State} (x : Copying t level k at i below l result s m) where
  pub below_ne : below ≢ result
  below_ne e = x.link.came.was.0 (ap (λ b. (s.label b).state) (sym e) ∙ x.was_live)

  pub at_below : at ≢ below
  at_below e =
      let here : (s.label below).epoch ≡ s.high = ap (λ b. (s.label b).epoch) (sym e) ∙ x.link.above.current in
      let older = x.older in
      absurd (omega (arith, here, older))

  pub leads_on : target ((m.now at).slot i) ≡ Local below
  leads_on = ap target (same x.link i) ∙ x.leads

  pub copied_in_tree : s.tells → Reaches s.now (to_block 1) below
  copied_in_tree told = (x.told told).in_tree x.older

  pub still_older : (m.label below).epoch < m.high
  still_older = subst (λ n. (m.label below).epoch < n) (sym x.link.all.same_high) (subst (λ (q : Label). q.epoch < s.high) (sym (x.link.came.stays.labels below below_ne)) x.older)

  pub copied_same : SameContent (m.now result) (m.now below)
  copied_same = let other = x.link.came.others below below_ne in record { bytes = x.here.bytes ∙ sym other.bytes; slots = λ j. x.here.slots j ∙ sym (other.slots j) }

  pub copied_in_mid : s.tells → Reaches m.now (to_block 1) below
  copied_in_mid told = reaches_mid x.link told 1 below super_place (x.link.laws.super_stands told) (copied_in_tree told)

  pub below_stands : s.tells → s.stands below (there t level k i)
  below_stands told = subst (λ q. s.stands below q) (inner_below t.dir level t.tag k t.rank i ((s.now at).slot i)) ((x.link.laws.placed told).each at i below (place (kind_at t.dir (suc level)) t.tag k (t.rank + suc level)) (x.link.above.told told).stands x.leads)

  pub below_one : below ≢ 1
  below_one e = x.link.laws.not_one (subst (λ y. s.is_block y) e (x.link.laws.within at i below x.link.above.is_pinned x.leads))

  -- nothing below leads back to block 1
  pub never_one : s.tells → Reaches s.now (to_block below) 1 → ⊥
  never_one told r =
      let q = stands_below super_place (x.link.laws.placed told) (x.link.laws.ranked told) (x.link.laws.super_stands told) (copied_in_tree told) in
      ⊎_elim
      (λ lt. never_above q.0 super_place x.link.laws.one (x.link.laws.placed told) (x.link.laws.ranked told) q.1 (x.link.laws.super_stands told) lt r)
      (λ e. below_one (sym e.0))
      q.2

  pub copy_alike : (j : ℕ) → (m.now result).slot j ≡ (m.now below).slot j
  copy_alike j = x.here.slots j ∙ sym ((x.link.came.others below below_ne).slots j)

  -- what is below the slot but the block itself is below the copy
  past : (b j : ℕ) (path : List ℕ) → target (walk m.now ((m.now at).slot i) (j ∷ path)) ≡ Local b → target (walk m.now ((m.now below).slot j) path) ≡ Local b
  past b j path e = ap (λ p. target (walk m.now ((local m.now p).slot j) path)) (sym leads_on) ∙ e

  under : (b j : ℕ) (path : List ℕ) → target (walk m.now ((m.now at).slot i) (j ∷ path)) ≡ Local b → Reaches m.now (To (Local result)) b
  under b j path e = record { path = j ∷ path; leads = ap (λ q. target (walk m.now q path)) (copy_alike j) ∙ past b j path e }

  brought : s.tells → (b : ℕ) (path : List ℕ) → target (walk m.now (To (Local result)) path) ≡ Local b → ((m.label b).state ≡ Live) × ((m.label b).epoch ≤ m.high) × (m.covered b → ⊥)
  brought told b [] e =
      let is = result_label x.link in
      let up : (m.label result).epoch ≤ m.high = let same = is.1 in omega (arith, same) in
      subst (λ y. ((m.label y).state ≡ Live) × ((m.label y).epoch ≤ m.high) × (m.covered y → ⊥)) (local_eq e) (is.0, up, x.link.came.is.4)
  brought told b (j ∷ path) e =
      let near : Reaches m.now (to_block below) b = record { path = j ∷ path; leads = ap (λ q. target (walk m.now q path)) (sym (copy_alike j)) ∙ e } in
      let was : Reaches s.now (to_block below) b = back x.link told below b (there t level k i) (below_stands told) near in
      let apart : b ≢ 1 = λ f. never_one told (subst (λ y. Reaches s.now (to_block below) y) f was) in
      let is = x.link.laws.live b told apart (reaches_joins (copied_in_tree told) was) in
      let ne : b ≢ result = λ f. x.link.came.was.0 (ap (λ y. (s.label y).state) (sym f) ∙ is.0) in
      let label = x.link.came.stays.labels b ne in (
        ap (λ (q : Label). q.state) label ∙ is.0,
        subst (λ n. (m.label b).epoch ≤ n) (sym x.link.all.same_high) (subst (λ (q : Label). q.epoch ≤ s.high) (sym label) is.1),
        x.link.came.only b ne is.2,
      )

  quiet : (b : ℕ) (path : List ℕ) (j : ℕ) → m.clearing b j → target (walk m.now ((m.now at).slot i) path) ≡ Local b → Reaches m.now (To (Local result)) b
  quiet b [] j waits e =
      let is : below ≡ b = local_eq (sym leads_on ∙ e) in
      let young : (m.label below).epoch ≡ m.high = ap (λ y. (m.label y).epoch) is ∙ (x.link.later.clears b j waits).1 in
      let label : (m.label below).epoch ≡ (s.label below).epoch = ap (λ (q : Label). q.epoch) (x.link.came.stays.labels below below_ne) in
      let high = x.link.all.same_high in
      let older = x.older in
      absurd (omega (arith, young, label, high, older))
  quiet b (j' ∷ path) j waits e = under b j' path e

  instead_of : s.tells → (y z : ℕ) (path : List ℕ) → m.instead y z → target (walk m.now ((m.now at).slot i) path) ≡ Local z → Reaches m.now (To (Local result)) z ⊎ Reaches m.now (To (Local result)) y
  instead_of told y z [] is e =
      let here : z ≡ below = local_eq (sym e ∙ leads_on) in
      ⊎_elim
      (λ own. inr (subst (λ w. Reaches m.now (To (Local result)) w) (sym own) (reaches_itself m.now result)))
      (λ other.
      let young = ((x.told told).alone y (subst (λ w. s.instead y w) here ((x.link.came.stays.instead y z other (λ h. h)).0 is))).1 in
      let older = x.older in
      absurd (omega (arith, young, older)))
      (cases_eq y result)
  instead_of told y z (j ∷ path) is e = inl (under z j path e)

  pub copy_shown : s.tells → Shown t level k at i result m
  copy_shown told = record {
    brings = record { each = λ b r. brought told b r.path r.leads };
    fits = (there t level k i, x.place told (there t level k i) (below_stands told), inl refl);
    comes = inr (inl (below, (x.instead below).1 refl, ap (λ n. target (walk m.now ((m.now at).slot i) (zeros n))) (none_dropped x.link) ∙ leads_on));
    leaves = record {
      each = λ y z is r. instead_of told y z r.path is r.leads;
      still = λ b j waits r. quiet b r.path j waits r.leads;
    };
    keeps = λ b e. inr (subst (λ y. Reaches m.now (to_block 1) y) (local_eq (sym leads_on ∙ e)) (reaches_mid x.link told 1 below super_place (x.link.laws.super_stands told) (copied_in_tree told)));
  }

-- A block that leads to no block was given out, for a slot that leads to none.
pub record Making (t : Tree) (level k at i : ℕ) (l : Label) (result : ℕ) (s m : State) : Type 0 where
  pub link : Linking t level k at i l result s m
  pub leads : (b : ℕ) → target ((s.now at).slot i) ≢ Local b
  pub bare : (j b : ℕ) → target ((m.now result).slot j) ≢ Local b
  pub low : 409 * k + i < 2 ^ 64
  pub instead : (y : ℕ) → m.instead result y → ⊥
  pub place : s.tells → m.stands result (place (kind_at t.dir level) t.tag 0 (t.rank + level))

-- a level that is made empty
pub level_of : (dir : Bool) (level : ℕ) → level < 4 → IsLevel (kind_at dir level)
level_of true level lt = omega (arith, lt)
level_of false level lt = omega (arith, lt)

pub nil_leads : (c : ℕ) → Nil ≢ Local c
nil_leads c e = cc

pub held_leads : (score : Score) (c : ℕ) → Held score ≢ Local c
held_leads score c e = cc

module _ {t : Tree} {level k at i : ℕ} {l : Label} {result : ℕ} {s m : State} (x : Making t level k at i l result s m) where
  pub slot_none : (b : ℕ) → target ((m.now at).slot i) ≢ Local b
  slot_none b e = x.leads b (sym (ap target (same x.link i)) ∙ e)

  loose : IsLoose m result
  loose = ((x.link.came.is.3, x.instead), x.bare)

  new_brings : (b : ℕ) (path : List ℕ) → target (walk m.now (To (Local result)) path) ≡ Local b → ((m.label b).state ≡ Live) × ((m.label b).epoch ≤ m.high) × (m.covered b → ⊥)
  new_brings b [] e =
      let is = result_label x.link in
      let up : (m.label result).epoch ≤ m.high = let same = is.1 in omega (arith, same) in
      subst (λ y. ((m.label y).state ≡ Live) × ((m.label y).epoch ≤ m.high) × (m.covered y → ⊥)) (local_eq e) (is.0, up, x.link.came.is.4)
  new_brings b (j ∷ path) e = absurd (lost m.now path ((m.now result).slot j) (x.bare j) b e)

  pub new_shown : s.tells → Shown t level k at i result m
  new_shown told = record {
    brings = record { each = λ b r. new_brings b r.path r.leads };
    fits = (place (kind_at t.dir level) t.tag 0 (t.rank + level), x.place told, inr (loose, x.low, refl));
    comes = inr (inr (slot_none, inl loose));
    leaves = record {
      each = λ y z is r. absurd (lost m.now r.path ((m.now at).slot i) slot_none z r.leads);
      still = λ b j waits r. absurd (lost m.now r.path ((m.now at).slot i) slot_none b r.leads);
    };
    keeps = λ b e. absurd (slot_none b e);
  }
