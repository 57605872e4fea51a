-- What a put slot does, block by block.
use Rattle.std.proofs.Common.{◌≡◌, ◌≢◌, ◌⊎◌, inl, inr, ⊎_elim, ℕ, ◌^◌, ◌≤◌, false, cond, List, length, get_or-set_other, refl, sym, ◌∙◌, ap, subst, arith}
use Rattle.std.proofs.lemmas.Bool.{cases_eq}
use Rattle.fo_image.specs.declared.types.Pointer.TheVariants.{Nil}
use Rattle.fo_crash.specs.declared.slot.Slot.{Slot}
use Rattle.fo_crash.specs.declared.slot.Slot.TheVariants.{Pointer as To}
use Rattle.fo_crash.specs.Places.{place_below, FitsAt}
use Rattle.fo_ports.specs.Blocks.{IsInner}
use Rattle.fo_ports_plain.specs.declared.home.Home.{Home}
use Rattle.fo_ports_plain.specs.declared.block.PlainBlock.{PlainBlock}
use Rattle.fo_ports_plain.specs.Plain.{block_at, slot_of, index_in, index_below, Updates}
use Rattle.fo_ports_plain.specs.Sound.{HangsAt, home_of}
use Rattle.fo_ports_plain.specs.Moves.{IsFree, PutsLink, JoinsInner, JoinsOuter, Raises, Linking, MayLink}
use Rattle.fo_ports_plain.proofs.Fits.{index_any, fits_at, fits_rank}

-- Blocks are the same but for where sources hang.
pub record SameButHome (old mid : List PlainBlock) : Type 0 where
  pub as_long : length mid ≡ length old
  pub each : (b : ℕ) → block_at mid b ≡ record (block_at old b) { home = home_of mid b }

pub no_home : (old : List PlainBlock) → SameButHome old old
no_home old = record { as_long = refl; each = λ b. refl }

pub one_home : {old mid : List PlainBlock} {x : ℕ} {h : Home} → Updates x (record (block_at old x) { home = h }) old mid → SameButHome old mid
one_home {old} {mid} {x} {h} up = record {
  as_long = up.as_long;
  each = λ b. ⊎_elim
      (λ e. subst (λ y. block_at mid y ≡ record (block_at old y) { home = home_of mid y }) (sym e)
      (up.here ∙ ap (λ (k : Home). record (block_at old x) { home = k }) (sym (ap (λ (y : PlainBlock). y.home) up.here))))
      (λ ne. up.others b ne ∙ ap (λ (k : Home). record (block_at old b) { home = k }) (sym (ap (λ (y : PlainBlock). y.home) (up.others b ne))))
      (cases_eq b x);
}

module _ {old mid new : List PlainBlock} {at i below index under source origin : ℕ} {s : Slot} (m : SameButHome old mid) (puts : PutsLink at i below s index under source origin mid new) (ne : at ≢ below) where
  -- a part of blocks that a put slot leaves
  part : {X : Type 0} (f : PlainBlock → X) → f (record (block_at mid below) { place = record ((block_at mid below).place) { index = index }; apart = false; origin = 0; source = under }) ≡ f (block_at mid below)
      → ((xs : List Slot) → f (record (block_at mid at) { slots = xs; source = source; origin = origin }) ≡ f (block_at mid at))
      → (b : ℕ) → f (block_at new b) ≡ f (block_at mid b)
  part f x y b = ⊎_elim
      (λ e. subst (λ z. f (block_at new z) ≡ f (block_at mid z)) (sym e) (ap f puts.under_is ∙ x))
      (λ nb. ⊎_elim
      (λ e. subst (λ z. f (block_at new z) ≡ f (block_at mid z)) (sym e) (ap f puts.at_is ∙ y _))
      (λ na. ap f (puts.others b na nb))
      (cases_eq b at))
      (cases_eq b below)

  pub homes : (b : ℕ) → home_of new b ≡ home_of mid b
  homes = part (λ (z : PlainBlock). z.home) refl (λ xs. refl)

  pub under_is : (block_at new below).source ≡ under
  under_is = ap (λ (z : PlainBlock). z.source) puts.under_is

  pub source_is : (block_at new at).source ≡ source
  source_is = ap (λ (z : PlainBlock). z.source) puts.at_is

  pub origin_is : (block_at new at).origin ≡ origin
  origin_is = ap (λ (z : PlainBlock). z.origin) puts.at_is

  place : FitsAt (IsFree (block_at old below)) (block_at old below).place (place_below (block_at old at).place i s) → (index ≡ index_below (block_at old at).place i) ⊎ ((2 ^ 64 ≤ index_below (block_at old at).place i) × (index ≡ (block_at old below).place.index)) → (block_at new below).place ≡ place_below (block_at old at).place i s
  place fits which =
      ap (λ (z : PlainBlock). z.place) puts.under_is
      ∙ ap (λ (z : PlainBlock). record z.place { index = index }) (m.each below)
      ∙ fits_at (block_at old below).place (place_below (block_at old at).place i s) (IsFree (block_at old below)) (index_below (block_at old at).place i) index (index_any (block_at old at).place i s) fits which

  slots : (b j : ℕ) → (b ≢ at) ⊎ (j ≢ i) → slot_of (block_at new b) j ≡ slot_of (block_at old b) j
  slots b j other = ⊎_elim
      (λ e. subst (λ z. slot_of (block_at new z) j ≡ slot_of (block_at mid z) j) (sym e) (ap (λ (z : PlainBlock). slot_of z j) puts.under_is))
      (λ nb. ⊎_elim
      (λ e. subst (λ z. slot_of (block_at new z) j ≡ slot_of (block_at mid z) j) (sym e)
      (ap (λ (z : PlainBlock). slot_of z j) puts.at_is ∙ get_or-set_other ((block_at mid at).slots) i j s (To Nil) (⊎_elim (λ na. absurd (na e)) (λ nj. nj) other)))
      (λ na. ap (λ (z : PlainBlock). slot_of z j) (puts.others b na nb))
      (cases_eq b at))
      (cases_eq b below)
      ∙ ap (λ (z : PlainBlock). slot_of z j) (m.each b)

  pub linking : FitsAt (IsFree (block_at old below)) (block_at old below).place (place_below (block_at old at).place i s) → (index ≡ index_below (block_at old at).place i) ⊎ ((2 ^ 64 ≤ index_below (block_at old at).place i) × (index ≡ (block_at old below).place.index)) → JoinsInner at i below old new ⊎ (JoinsOuter at i below old new ⊎ Raises at i below old new) → Linking at i below s old new
  linking fits which way = record {
    as_long = puts.as_long ∙ m.as_long;
    place = place fits which;
    places = λ b nb. ⊎_elim
        (λ e. subst (λ z. (block_at new z).place ≡ (block_at mid z).place) (sym e) (ap (λ (z : PlainBlock). z.place) puts.at_is))
        (λ na. ap (λ (z : PlainBlock). z.place) (puts.others b na nb))
        (cases_eq b at)
        ∙ ap (λ (z : PlainBlock). z.place) (m.each b);
    kinds = λ b. (
      part (λ (z : PlainBlock). z.place.kind) refl (λ xs. refl) b ∙ ap (λ (z : PlainBlock). z.place.kind) (m.each b),
      part (λ (z : PlainBlock). z.place.tag) refl (λ xs. refl) b ∙ ap (λ (z : PlainBlock). z.place.tag) (m.each b),
      part (λ (z : PlainBlock). z.place.rank) refl (λ xs. refl) b ∙ ap (λ (z : PlainBlock). z.place.rank) (m.each b),
    );
    same = λ b. (
      part (λ (z : PlainBlock). z.epoch) refl (λ xs. refl) b ∙ ap (λ (z : PlainBlock). z.epoch) (m.each b),
      part (λ (z : PlainBlock). z.bytes) refl (λ xs. refl) b ∙ ap (λ (z : PlainBlock). z.bytes) (m.each b),
      part (λ (z : PlainBlock). z.taken) refl (λ xs. refl) b ∙ ap (λ (z : PlainBlock). z.taken) (m.each b),
      part (λ (z : PlainBlock). z.kept) refl (λ xs. refl) b ∙ ap (λ (z : PlainBlock). z.kept) (m.each b),
      part (λ (z : PlainBlock). z.retired) refl (λ xs. refl) b ∙ ap (λ (z : PlainBlock). z.retired) (m.each b),
    );
    put = puts.put;
    slots = slots;
    joined = ap (λ (z : PlainBlock). z.apart) puts.under_is;
    aparts = λ b nb. ⊎_elim
        (λ e. subst (λ z. (block_at new z).apart ≡ (block_at mid z).apart) (sym e) (ap (λ (z : PlainBlock). z.apart) puts.at_is))
        (λ na. ap (λ (z : PlainBlock). z.apart) (puts.others b na nb))
        (cases_eq b at)
        ∙ ap (λ (z : PlainBlock). z.apart) (m.each b);
    origins = λ b na nb. (
      ap (λ (z : PlainBlock). z.origin) (puts.others b na nb) ∙ ap (λ (z : PlainBlock). z.origin) (m.each b),
      ap (λ (z : PlainBlock). z.source) (puts.others b na nb) ∙ ap (λ (z : PlainBlock). z.source) (m.each b),
    );
    way = way;
  }

-- a block below has a lower rank, so it is another
pub other_block : {blocks : List PlainBlock} {made at i below : ℕ} {s : Slot} → MayLink blocks made at i below s → at ≢ below
other_block {blocks} {made} {at} {i} {below} {s} may e =
    let rank : (block_at blocks below).place.rank ≡ (place_below (block_at blocks at).place i s).rank = fits_rank (block_at blocks below).place (place_below (block_at blocks at).place i s) (IsFree (block_at blocks below)) may.fits in
    let same : (block_at blocks at).place.rank ≡ (block_at blocks below).place.rank = ap (λ x. (block_at blocks x).place.rank) e in
    let lower = may.lower in
    omega (arith, rank, same, lower)

-- the index, the sources and the origin that a slot is put with
pub record IsJoint (blocks : List PlainBlock) (at i below index under source origin : ℕ) : Type 0 where
  pub index_is : (index ≡ index_below (block_at blocks at).place i) ⊎ ((2 ^ 64 ≤ index_below (block_at blocks at).place i) × (index ≡ (block_at blocks below).place.index))
  pub under_is : under ≡ (block_at blocks below).source
  pub source_is : source ≡ (block_at blocks at).source
  pub origin_is : origin ≡ (block_at blocks at).origin

pub entry_linking : {old mid new : List PlainBlock} {made at i below index under source origin : ℕ} {s : Slot} {h : Home} → MayLink old made at i below s → (IsInner (block_at old at).place.kind → ⊥) → IsJoint old at i below index under source origin → HangsAt h source (index_in (block_at old at).place) i → Updates under (record (block_at old under) { home = h }) old mid → PutsLink at i below s index under source origin mid new → Linking at i below s old new
entry_linking {old} {mid} {new} {made} {at} {i} {below} {index} {under} {source} {origin} {s} {h} may outer joint hangs up puts =
    let ne = other_block may in
    let m = one_home up in
    let here : home_of new (block_at old below).source ≡ h = homes m puts ne (block_at old below).source ∙ ap (λ x. home_of mid x) (sym joint.under_is) ∙ ap (λ (z : PlainBlock). z.home) up.here in
    linking m puts ne may.fits joint.index_is (inr (inl (record {
      outer = outer;
      under = under_is m puts ne ∙ joint.under_is;
      source = source_is m puts ne ∙ joint.source_is;
      origin = origin_is m puts ne ∙ joint.origin_is;
      hangs = subst (λ x. HangsAt x (block_at old at).source (index_in (block_at old at).place) i) (sym here) (subst (λ x. HangsAt h x (index_in (block_at old at).place) i) joint.source_is hangs);
      homes = λ x other. homes m puts ne x ∙ ap (λ (z : PlainBlock). z.home) (up.others x (λ e. other (e ∙ joint.under_is)));
    })))

pub inner_linking : {old new : List PlainBlock} {made at i below index under source origin : ℕ} {s : Slot} → MayLink old made at i below s → IsInner (block_at old at).place.kind → (i ≡ 0 → IsFree (block_at old at) → ⊥) → IsJoint old at i below index under source origin → PutsLink at i below s index source source origin old new → Linking at i below s old new
inner_linking {old} {new} {made} {at} {i} {below} {index} {under} {source} {origin} {s} may inner not_raised joint puts =
    let ne = other_block may in
    let m = no_home old in
    linking m puts ne may.fits joint.index_is (inl (record {
      inner = inner;
      not_raised = not_raised;
      under = under_is m puts ne ∙ joint.source_is;
      source = source_is m puts ne ∙ joint.source_is;
      origin = origin_is m puts ne ∙ joint.origin_is;
      homes = homes m puts ne;
    }))

pub raise_linking : {old new : List PlainBlock} {made at i below index under source origin over : ℕ} {s : Slot} → MayLink old made at i below s → IsInner (block_at old at).place.kind × (i ≡ 0) × IsFree (block_at old at) → IsJoint old at i below index under source origin → over ≡ cond (block_at old below).apart (block_at old below).origin below → PutsLink at i below s index under under over old new → Linking at i below s old new
raise_linking {old} {new} {made} {at} {i} {below} {index} {under} {source} {origin} {over} {s} may top joint over_is puts =
    let ne = other_block may in
    let m = no_home old in
    linking m puts ne may.fits joint.index_is (inr (inr (record {
      inner = top.0;
      first = top.1;
      free = top.2;
      under = under_is m puts ne ∙ joint.under_is;
      source = source_is m puts ne ∙ joint.under_is;
      origin = origin_is m puts ne ∙ over_is;
      homes = homes m puts ne;
    })))
