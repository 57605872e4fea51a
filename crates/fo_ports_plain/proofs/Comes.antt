-- Why a slot that may be put leads to a block of its source, or to one that may come to be of it.
use Rattle.std.proofs.Common.{◌≡◌, ◌≢◌, ◌⊎◌, inl, inr, ⊎_elim, ℕ, zero, suc, ◌-◌, ◌/◌, ◌^◌, ◌<◌, ◌≤◌, Bool, true, false, cond, nat_lt, ◌&&◌, List, [], refl, sym, ◌∙◌, ap, subst, arith}
use Rattle.std.proofs.lemmas.Bool.{cases_eq, cases_lt}
use Rattle.std.proofs.lemmas.Grind.{common_steps}
use Rattle.fo_image.specs.declared.types.Kind.{Kind}
use Rattle.fo_image.specs.declared.types.Kind.TheVariants.{Data, Dir, Root}
use Rattle.fo_image.specs.declared.types.State.TheVariants.{Free, Live}
use Rattle.fo_image.specs.declared.types.Label.{Label}
use Rattle.fo_image.specs.declared.types.Entry.{Entry}
use Rattle.fo_image.specs.declared.types.Pointer.{Pointer}
use Rattle.fo_image.specs.declared.types.Pointer.TheVariants.{Nil, Local, Score as Held}
use Rattle.fo_crash.specs.declared.slot.Slot.{Slot}
use Rattle.fo_crash.specs.declared.slot.Slot.TheVariants.{Pointer as To, Entry as Head, Prev}
use Rattle.fo_crash.specs.declared.place.Place.{Place}
use Rattle.fo_crash.specs.Images.{target, walk, local, kind_of_top, depth_of}
use Rattle.fo_crash.specs.Names.{SameUse}
use Rattle.fo_crash.specs.Places.{place_below, FitsAt}
use Rattle.fo_crash.proofs.Reach.{lost}
use Rattle.fo_ports.specs.Blocks.{IsInner, IsPointer, slot_count, SlotFits, dropped, zeros}
use Rattle.fo_ports.specs.State.{IsNew, IsLoose, MayPutSlot, led_to}
use Rattle.fo_ports_plain.specs.declared.block.PlainBlock.{PlainBlock}
use Rattle.fo_ports_plain.specs.Plain.{block_at, slot_of, memory, is_live, label_of, label_at, index_in, is_active, wait_at, pair_of, Stands, IsMade, Awaits}
use Rattle.fo_ports_plain.specs.Sound.{HangsAt, InSource, Linked, IsFirst, Sound, Waiting, home_of}
use Rattle.fo_ports_plain.specs.Meaning.{Plain, state_of}
use Rattle.fo_ports_plain.specs.Moves.{IsFree, Joins, MayLink, KeepsUse}
use Rattle.fo_ports_plain.specs.Laws.{label_kind, epoch_made}

abbrev level : Kind → ℕ
level (Data n) = n
level (Dir n) = n
level Root = 0

level_top : (s : Slot) → level (kind_of_top s) ≡ depth_of s
level_top (Head e) = by e.dir e.depth
  where
    by : (b : Bool) (d : ℕ) → level (cond b (Dir d) (Data d)) ≡ d
    by true d = refl
    by false d = refl
level_top (To p) = refl
level_top (Prev epoch at) = refl

-- a block with levels below it is a block of pointers, and what is below it is one level lower
inner_level : (k : Kind) → 0 < level k → IsInner k
inner_level (Data n) lt = lt
inner_level (Dir n) lt = lt
inner_level Root lt = let no : 0 < 0 = lt in omega (arith, no)

lower_level : (k : Kind) (p : Place) (i : ℕ) (s : Slot) (n : ℕ) → level k ≡ suc n → level (place_below (record p { kind = k }) i s).kind ≡ n
lower_level (Data zero) p i s n e = let no : 0 ≡ suc n = e in absurd (omega (arith, no))
lower_level (Data (suc l)) p i s n e = let is : suc l ≡ suc n = e in omega (arith, is)
lower_level (Dir zero) p i s n e = let no : 0 ≡ suc n = e in absurd (omega (arith, no))
lower_level (Dir (suc l)) p i s n e = let is : suc l ≡ suc n = e in omega (arith, is)
lower_level Root p i s n e = let no : 0 ≡ suc n = e in absurd (omega (arith, no))

-- the top of a source has as many levels as its entry says
outer_level : (k : Kind) (p : Place) (i : ℕ) (s : Slot) → i < slot_count k → (IsInner k → ⊥) → level (place_below (record p { kind = k }) i s).kind ≡ depth_of s
outer_level (Data zero) p i s lt outer = let no : i < 0 = lt in absurd (omega (arith, no))
outer_level (Data (suc l)) p i s lt outer = absurd (outer (omega arith))
outer_level (Dir zero) p i s lt outer = level_top s
outer_level (Dir (suc l)) p i s lt outer = absurd (outer (omega arith))
outer_level Root p i s lt outer = level_top s

-- a slot of a block of pointers has no depth
inner_depth : (k : Kind) (i : ℕ) (s : Slot) → IsInner k → SlotFits k i s → depth_of s ≡ 0
inner_depth (Data n) i s inner fits = pointer s fits
  where
    pointer : (s : Slot) → IsPointer s → depth_of s ≡ 0
    pointer (To p) f = refl
    pointer (Head e) f = absurd f
    pointer (Prev x y) f = absurd f
inner_depth (Dir zero) i s inner fits = let no : 0 < 0 = inner in absurd (omega (arith, no))
inner_depth (Dir (suc n)) i s inner fits = pointer s fits
  where
    pointer : (s : Slot) → IsPointer s → depth_of s ≡ 0
    pointer (To p) f = refl
    pointer (Head e) f = absurd f
    pointer (Prev x y) f = absurd f
inner_depth Root i s inner fits = absurd inner

module _ {blocks : List PlainBlock} {made high root : ℕ} (sound : Sound blocks made high root) where
  -- below slots 0 of a source all is of that source
  down : (n : ℕ) (u : Slot) (y x : ℕ) → target u ≡ Local y → n ≤ level (block_at blocks y).place.kind → target (walk (memory blocks) u (zeros n)) ≡ Local x → (block_at blocks x).source ≡ (block_at blocks y).source
  down zero u y x to le e = let both : Local y ≡ Local x = sym to ∙ e in ap (λ z. (block_at blocks z).source) (let is : x ≡ y = cc in is)
  down (suc n) u y x to le e = one (target ((local (memory blocks) (target u)).slot 0)) refl (λ z q fits. down n ((local (memory blocks) (target u)).slot 0) z x q fits e)
    where
      is : (local (memory blocks) (target u)).slot 0 ≡ slot_of (block_at blocks y) 0
      is = ap (λ p. (local (memory blocks) p).slot 0) to

      one : (p : Pointer) → target ((local (memory blocks) (target u)).slot 0) ≡ p → ((z : ℕ) → target ((local (memory blocks) (target u)).slot 0) ≡ Local z → n ≤ level (block_at blocks z).place.kind → (block_at blocks x).source ≡ (block_at blocks z).source) → (block_at blocks x).source ≡ (block_at blocks y).source
      one Nil q on = absurd (lost (memory blocks) (zeros n) ((local (memory blocks) (target u)).slot 0) (λ c h. let no : Nil ≡ Local c = sym q ∙ h in cc) x e)
      one (Held v) q on = absurd (lost (memory blocks) (zeros n) ((local (memory blocks) (target u)).slot 0) (λ c h. let no : Held v ≡ Local c = sym q ∙ h in cc) x e)
      one (Local z) q on =
          let l = sound.links y 0 z (ap target (sym is) ∙ q) in
          let some : level (block_at blocks y).place.kind ≡ suc (level (block_at blocks y).place.kind - 1) = omega (arith, le) in
          let below : level (block_at blocks z).place.kind ≡ level (block_at blocks y).place.kind - 1 = ap (λ (r : Place). level r.kind) l.place ∙ lower_level (block_at blocks y).place.kind (block_at blocks y).place 0 (slot_of (block_at blocks y) 0) (level (block_at blocks y).place.kind - 1) some in
          on z q (omega (arith, le, below)) ∙ l.source.inner (inner_level (block_at blocks y).place.kind (omega (arith, le)))

  -- what hangs from a slot, below the levels that go, is of the source of that slot
  pub led_source : (at i x : ℕ) (new : Slot) → 1 < at → led_to (memory blocks) (slot_of (block_at blocks at) i) new ≡ Local x → InSource i (block_at blocks at) (block_at blocks x) (home_of blocks (block_at blocks x).source)
  led_source at i x new past e = first (target old) refl
    where
      old : Slot
      old = slot_of (block_at blocks at) i

      same : (y : ℕ) → InSource i (block_at blocks at) (block_at blocks y) (home_of blocks (block_at blocks y).source) → (block_at blocks x).source ≡ (block_at blocks y).source → InSource i (block_at blocks at) (block_at blocks x) (home_of blocks (block_at blocks x).source)
      same y h is = record {
        inner = λ inner. is ∙ h.inner inner;
        outer = λ outer. subst (λ z. HangsAt (home_of blocks z) (block_at blocks at).source (index_in (block_at blocks at).place) i) (sym is) (h.outer outer);
      }

      levels : (y : ℕ) (l : Linked made at i y (block_at blocks at) (block_at blocks y) (home_of blocks (block_at blocks y).source)) → dropped (slot_of (block_at blocks at) i) new ≤ level (block_at blocks y).place.kind
      levels y l = by (cases_lt 0 (level (block_at blocks at).place.kind))
        where
          by : (0 < level (block_at blocks at).place.kind) ⊎ (level (block_at blocks at).place.kind ≤ 0) → dropped (slot_of (block_at blocks at) i) new ≤ level (block_at blocks y).place.kind
          by (inl lt) =
              let none : depth_of (slot_of (block_at blocks at) i) ≡ 0 = inner_depth (block_at blocks at).place.kind i (slot_of (block_at blocks at) i) (inner_level (block_at blocks at).place.kind lt) (sound.spelled at past i l.few) in
              omega (arith, none)
          by (inr le) =
              let deep : level (block_at blocks y).place.kind ≡ depth_of (slot_of (block_at blocks at) i) = ap (λ (r : Place). level r.kind) l.place ∙ outer_level (block_at blocks at).place.kind (block_at blocks at).place i (slot_of (block_at blocks at) i) l.few (not_inner (block_at blocks at).place.kind le) in
              omega (arith, deep)
            where
              not_inner : (k : Kind) → level k ≤ 0 → IsInner k → ⊥
              not_inner (Data n) le inner = let lt : 0 < n = inner in omega (arith, le, lt)
              not_inner (Dir n) le inner = let lt : 0 < n = inner in omega (arith, le, lt)
              not_inner Root le inner = inner

      first : (p : Pointer) → target (slot_of (block_at blocks at) i) ≡ p → InSource i (block_at blocks at) (block_at blocks x) (home_of blocks (block_at blocks x).source)
      first Nil q = absurd (lost (memory blocks) (zeros (dropped (slot_of (block_at blocks at) i) new)) (slot_of (block_at blocks at) i) (λ c h. let no : Nil ≡ Local c = sym q ∙ h in cc) x e)
      first (Held v) q = absurd (lost (memory blocks) (zeros (dropped (slot_of (block_at blocks at) i) new)) (slot_of (block_at blocks at) i) (λ c h. let no : Held v ≡ Local c = sym q ∙ h in cc) x e)
      first (Local y) q =
          let l = sound.links at i y q in
          same y l.source (down (dropped (slot_of (block_at blocks at) i) new) (slot_of (block_at blocks at) i) y x q (levels y l) e)

-- a block that comes in the place of none has no origin
new_first : (p : Plain) (b : ℕ) → IsNew (state_of p) b → IsFirst (block_at p.blocks b)
new_first p b h = (h.0, ⊎_elim (λ e. e) (λ ne. absurd (h.1 (block_at p.blocks b).origin (record { apart = h.0; origin = refl; some = ne }))) (cases_eq (block_at p.blocks b).origin 0))

pub loose_free : (p : Plain) (b : ℕ) → IsLoose (state_of p) b → IsFree (block_at p.blocks b)
loose_free p b h = (new_first p b h.0, h.1)

pub free_loose : (p : Plain) (b : ℕ) → IsFree (block_at p.blocks b) → IsLoose (state_of p) b
free_loose p b h = ((h.0.0, λ x is. is.some (sym is.origin ∙ h.0.1)), h.1)

-- the label of a block that was not made
pub label_free : (blocks : List PlainBlock) (made b : ℕ) → (b ≤ 1) ⊎ (made ≤ b) → label_at blocks made b ≡ label_of Free 0 0 (block_at blocks b)
label_free blocks made b out = ap (λ t. cond t (label_of Live (block_at blocks b).epoch (2 ^ 32 - 1) (block_at blocks b)) (label_of Free 0 0 (block_at blocks b))) (⊎_elim low high out)
  where
    low : b ≤ 1 → is_live made b ≡ false
    low le = let test : nat_lt 1 b ≡ false = grind (arith, common_steps) in ap (λ t. t && nat_lt b made) test

    none : (t : Bool) → (t && false) ≡ false
    none true = refl
    none false = refl

    high : made ≤ b → is_live made b ≡ false
    high le = let test : nat_lt b made ≡ false = grind (arith, common_steps) in ap (λ t. nat_lt 1 b && t) test ∙ none (nat_lt 1 b)

pub live_made : (blocks : List PlainBlock) (made b : ℕ) → (label_at blocks made b).state ≡ Live → (1 < b) × (b < made)
live_made blocks made b e = (
  ⊎_elim (λ lt. lt) (λ low. absurd (never (inl low))) (cases_lt 1 b),
  ⊎_elim (λ lt. lt) (λ le. absurd (never (inr le))) (cases_lt b made),
)
  where
    never : (b ≤ 1) ⊎ (made ≤ b) → ⊥
    never out = let free_is_live : Free ≡ Live = sym (ap (λ (l : Label). l.state) (label_free blocks made b out)) ∙ e in cc

-- no slot leads to a block at the place of a root block
entry_below : (e : Entry) → cond e.dir (Dir e.depth) (Data e.depth) ≢ Root
entry_below e = by e.dir
  where
    by : (t : Bool) → cond t (Dir e.depth) (Data e.depth) ≢ Root
    by true = λ h. cc
    by false = λ h. cc

pub never_root : (p : Place) (k : Kind) (i : ℕ) (s : Slot) (b : ℕ) → i < slot_count k → SlotFits k i s → target s ≡ Local b → (place_below (record p { kind = k }) i s).kind ≢ Root
never_root p (Data zero) i s b lt fits e = absurd (omega arith)
never_root p (Data (suc level)) i s b lt fits e = λ h. cc
never_root p (Dir (suc level)) i s b lt fits e = λ h. cc
never_root p (Dir zero) i (Head x) b lt fits e = entry_below x
never_root p (Dir zero) i (To q) b lt fits e = absurd fits
never_root p (Dir zero) i (Prev x y) b lt fits e = absurd fits
never_root p Root zero (Head x) b lt fits e = entry_below x
never_root p Root zero (To q) b lt fits e = absurd fits
never_root p Root zero (Prev x y) b lt fits e = absurd fits
never_root p Root (suc zero) (Head x) b lt fits e = entry_below x
never_root p Root (suc zero) (To q) b lt fits e = absurd fits
never_root p Root (suc zero) (Prev x y) b lt fits e = absurd fits
never_root p Root (suc (suc i)) (Prev x y) b lt fits e = let nil : Nil ≡ Local b = e in absurd (cc)
never_root p Root (suc (suc i)) (To q) b lt fits e = absurd fits
never_root p Root (suc (suc i)) (Head x) b lt fits e = absurd fits

-- What the calls on blocks ask of a slot is what is asked of blocks in memory.
pub may_link : (p : Plain) (at i below : ℕ) (s : Slot) → Sound p.blocks p.made p.high p.root → IsMade p.made at → (label_at p.blocks p.made at).epoch ≡ p.high → i < slot_count (label_at p.blocks p.made at).kind → SlotFits (label_at p.blocks p.made at).kind i s → target s ≡ Local below → MayPutSlot (state_of p) at i s → MayLink p.blocks p.made at i below s
may_link p at i below s sound is_made current few spelled leads may = record {
  at_made = is_made;
  below_made = was_made;
  few = few_is;
  spelled = spelled_is;
  leads = leads;
  fits = fits;
  lower = lower;
  ages = omega (arith, own, its);
  joins = joins;
}
  where
    kind : (label_at p.blocks p.made at).kind ≡ (block_at p.blocks at).place.kind
    kind = (label_kind p.blocks p.made at).0

    few_is : i < slot_count (block_at p.blocks at).place.kind
    few_is = subst (λ k. i < slot_count k) kind few

    spelled_is : SlotFits (block_at p.blocks at).place.kind i s
    spelled_is = subst (λ k. SlotFits k i s) kind spelled

    brought : ((label_at p.blocks p.made below).state ≡ Live) × ((label_at p.blocks p.made below).epoch ≤ p.high) × ((state_of p).covered below → ⊥)
    brought = may.brings.each below (record { path = []; leads = leads })

    was_made : (1 < below) × (below < p.made)
    was_made = live_made p.blocks p.made below brought.0

    stands_at : Stands p.blocks p.made at (block_at p.blocks at).place
    stands_at = let past : 1 < at = is_made.0 in record { above = omega (arith, past); was_made = is_made.1; is = refl }

    found : (q : Place) × Stands p.blocks p.made below q × FitsAt (IsLoose (state_of p) below) q (place_below (block_at p.blocks at).place i s)
    found = may.fits.each below (block_at p.blocks at).place stands_at leads

    fits : FitsAt (IsFree (block_at p.blocks below)) (block_at p.blocks below).place (place_below (block_at p.blocks at).place i s)
    fits = subst (λ (q : Place). FitsAt (IsFree (block_at p.blocks below)) q (place_below (block_at p.blocks at).place i s)) (sym found.1.is) (⊎_elim (λ e. inl e) (λ h. inr (loose_free p below h.0, h.1, h.2)) found.2)

    lower : (place_below (block_at p.blocks at).place i s).rank < (block_at p.blocks at).place.rank
    lower = may.lower below (block_at p.blocks at).place stands_at leads

    own : (block_at p.blocks at).epoch ≡ p.high
    own = sym (epoch_made p.blocks p.made at is_made.0 is_made.1) ∙ current

    its : (block_at p.blocks below).epoch ≤ p.high
    its = subst (λ n. n ≤ p.high) (epoch_made p.blocks p.made below was_made.0 was_made.1) brought.1

    joins : Joins p.blocks at i below
    joins = ⊎_elim
        (λ e. inl (led_source sound at i below s is_made.0 e))
        (λ h. ⊎_elim
        (λ w.
        let is = w.1 in
        let x = led_source sound at i w.0 s is_made.0 w.2 in
        let k = sound.sources.steads below is.apart (λ e. is.some (sym is.origin ∙ e)) in
        let same : (block_at p.blocks w.0).source ≡ (block_at p.blocks below).source = ap (λ z. (block_at p.blocks z).source) (sym is.origin) ∙ k.source in
        inl (record {
          inner = λ inner. sym same ∙ x.inner inner;
          outer = λ outer. subst (λ z. HangsAt (home_of p.blocks z) (block_at p.blocks at).source (index_in (block_at p.blocks at).place) i) same (x.outer outer);
        }))
        (λ w. ⊎_elim
        (λ loose. inr (inl (loose_free p below loose)))
        (λ h. ⊎_elim
        (λ f. inr (inr (inl (new_first p below f.0, λ inner. f.1 (subst (λ k. IsInner k) (sym kind) inner)))))
        (λ f. inr (inr (inr (loose_free p at f.0.0, subst (λ k. IsInner k) kind f.0.1, f.0.2))))
        h)
        w.1)
        h)
        (may.comes below leads)

-- an entry in the same use is as active
pub same_active : (s t : Slot) → SameUse s t → is_active t ≡ true → is_active s ≡ true
same_active (Head e) (Head f) h is = h.1 ∙ is
same_active (To x) (To y) h is = absurd (cc)
same_active (To x) (Head f) h is = let no : To x ≡ Head f = h in absurd (cc)
same_active (To x) (Prev y z) h is = absurd (cc)
same_active (Prev x y) (To z) h is = absurd (cc)
same_active (Prev x y) (Head f) h is = let no : Prev x y ≡ Head f = h in absurd (cc)
same_active (Prev x y) (Prev z w) h is = absurd (cc)
same_active (Head e) (To y) h is = absurd (cc)
same_active (Head e) (Prev y z) h is = absurd (cc)

pub keeps_use : (p : Plain) (at i : ℕ) (s : Slot) → Waiting p.blocks p.made p.waits → ((a : ℕ) → (state_of p).waits a at i → SameUse s (slot_of (block_at p.blocks at) i)) → KeepsUse p.waits at i s
keeps_use p at i s waiting same = record {
  each = λ n k lt on i_is pair.
      let w = waiting n k lt pair in
      let half : k ≡ i / 2 = omega (arith, i_is) in
      let awaits : Awaits p.waits (wait_at p.waits n).at at i = record { number = n; within = lt; is_at = refl; is_on = on; pair = subst (λ z. pair_of (wait_at p.waits n) z ≡ true) half pair } in
      same_active s (slot_of (block_at p.blocks at) i) (same (wait_at p.waits n).at awaits)
      (ap (λ z. is_active (slot_of (block_at p.blocks z) i)) (sym on) ∙ ap (λ z. is_active (slot_of (block_at p.blocks (wait_at p.waits n).on) z)) i_is ∙ w.used);
}

pub few_slots : (k : Kind) → slot_count k ≤ 409
few_slots (Data zero) = omega arith
few_slots (Data (suc n)) = omega arith
few_slots (Dir zero) = omega arith
few_slots (Dir (suc n)) = omega arith
few_slots Root = omega arith
