-- A slot that leads to a block is put, and all that is kept of blocks stays true.
use Rattle.std.proofs.Common.{◌≡◌, ◌≢◌, ◌⊎◌, inl, inr, ⊎_elim, ℕ, ◌*◌, ◌<◌, ◌≤◌, Bool, true, false, cond, List, refl, sym, ◌∙◌, ap, subst, arith}
use Rattle.std.proofs.lemmas.Bool.{cases_eq}
use Rattle.fo_image.specs.declared.types.Pointer.TheVariants.{Local}
use Rattle.fo_crash.specs.declared.slot.Slot.{Slot}
use Rattle.fo_crash.specs.declared.place.Place.{Place}
use Rattle.fo_crash.specs.Images.{target}
use Rattle.fo_crash.specs.Places.{place_below}
use Rattle.fo_ports.specs.Blocks.{IsInner, IsFormed, slot_count, SlotFits}
use Rattle.fo_ports_plain.specs.declared.home.Home.{Home}
use Rattle.fo_ports_plain.specs.declared.block.PlainBlock.{PlainBlock}
use Rattle.fo_ports_plain.specs.declared.wait.Wait.{Wait}
use Rattle.fo_ports_plain.specs.Plain.{block_at, slot_of, index_in, is_active, wait_at}
use Rattle.fo_ports_plain.specs.Sound.{HangsAt, InSource, Linked, Links, IsSpelled, IsSuper, IsKept, IsUnmade, IsFirst, IsStead, Sound, Formed, Waiting, Queue, home_of, leads_to}
use Rattle.fo_ports_plain.specs.Moves.{IsFree, JoinsOuter, Raises, Linking, MayLink, KeepsUse}
use Rattle.fo_ports_plain.proofs.Fits.{fits_rank, fits_firm}

pub never_both : {x : Bool} → x ≡ true → x ≡ false → ⊥
never_both {x} t f = let both : true ≡ false = sym t ∙ f in cc

module _ {old new : List PlainBlock} {made high root at i below : ℕ} {s : Slot} (may : MayLink old made at i below s) (l : Linking at i below s old new) (sound : Sound old made high root) where
  p : Place
  p = place_below (block_at old at).place i s

  apart_blocks : at ≢ below
  apart_blocks e =
      let rank : (block_at old below).place.rank ≡ (place_below (block_at old at).place i s).rank = fits_rank (block_at old below).place (place_below (block_at old at).place i s) (IsFree (block_at old below)) may.fits in
      let same : (block_at old at).place.rank ≡ (block_at old below).place.rank = ap (λ x. (block_at old x).place.rank) e in
      let lower = may.lower in
      omega (arith, rank, same, lower)

  -- a block that is put somewhere keeps its place and its source
  same_place : (b : ℕ) → (IsFree (block_at old b) → ⊥) → (block_at new b).place ≡ (block_at old b).place
  same_place b firm = ⊎_elim
      (λ e. subst (λ x. (IsFree (block_at old x) → ⊥) → (block_at new x).place ≡ (block_at old x).place) (sym e)
      (λ f. l.place ∙ sym (fits_firm (block_at old below).place (place_below (block_at old at).place i s) (IsFree (block_at old below)) may.fits f)) firm)
      (λ ne. l.places b ne)
      (cases_eq b below)

  source_under : (IsFree (block_at old below) → ⊥) → (block_at new below).source ≡ (block_at old below).source
  source_under firm = ⊎_elim
      (λ w. w.under ∙ ⊎_elim
      (λ h. sym (h.inner w.inner))
      (λ h. ⊎_elim
      (λ free. absurd (firm free))
      (λ h. ⊎_elim
      (λ h. absurd (h.1 w.inner))
      (λ h. absurd (w.not_raised h.2 h.0))
      h)
      h)
      may.joins)
      (λ h. ⊎_elim (λ w. w.under) (λ w. w.under) h)
      l.way

  source_at : (IsFree (block_at old at) → ⊥) → (block_at new at).source ≡ (block_at old at).source
  source_at firm = ⊎_elim (λ w. w.source) (λ h. ⊎_elim (λ w. w.source) (λ w. absurd (firm w.free)) h) l.way

  same_source : (b : ℕ) → (IsFree (block_at old b) → ⊥) → (block_at new b).source ≡ (block_at old b).source
  same_source b firm = ⊎_elim
      (λ e. subst (λ x. (IsFree (block_at old x) → ⊥) → (block_at new x).source ≡ (block_at old x).source) (sym e) source_under firm)
      (λ ne. ⊎_elim
      (λ e. subst (λ x. (IsFree (block_at old x) → ⊥) → (block_at new x).source ≡ (block_at old x).source) (sym e) source_at firm)
      (λ na. (l.origins b na ne).1)
      (cases_eq b at))
      (cases_eq b below)

  joined_firm : (b : ℕ) → (block_at old b).apart ≡ false → IsFree (block_at old b) → ⊥
  joined_firm b joined free = never_both free.0.0 joined

  leads_firm : (b j x : ℕ) → target (slot_of (block_at old b) j) ≡ Local x → IsFree (block_at old b) → ⊥
  leads_firm b j x e free = free.1 j x e

  joined_still : (b : ℕ) → (block_at old b).apart ≡ false → (block_at new b).apart ≡ false
  joined_still b joined = ⊎_elim
      (λ e. ap (λ x. (block_at new x).apart) e ∙ l.joined)
      (λ ne. l.aparts b ne ∙ joined)
      (cases_eq b below)

  -- a source that hung from a slot still hangs from it
  same_home : (h : ℕ) (n m j : ℕ) → HangsAt (home_of old h) n m j → HangsAt (home_of new h) n m j
  same_home h n m j hangs = ⊎_elim
      (λ w. subst (λ x. HangsAt x n m j) (sym (w.homes h)) hangs)
      (λ c. ⊎_elim outer (λ w. subst (λ x. HangsAt x n m j) (sym (w.homes h)) hangs) c)
      l.way
    where
      again : h ≡ (block_at old below).source → JoinsOuter at i below old new → HangsAt (home_of new (block_at old below).source) n m j
      again e w =
          let own : HangsAt (home_of old (block_at old below).source) n m j = subst (λ x. HangsAt (home_of old x) n m j) e hangs in
          let first : IsFirst (block_at old below) → ⊥ = λ f. never_both own.hangs (sound.sources.free below f) in
          ⊎_elim
          (λ k.
          let was = k.outer w.outer in
          let is = w.hangs in
          record { hangs = is.hangs; source = is.source ∙ sym was.source ∙ own.source; index = is.index ∙ sym was.index ∙ own.index; slot = is.slot ∙ sym was.slot ∙ own.slot })
          (λ k. ⊎_elim
          (λ free. absurd (first free.0))
          (λ k. ⊎_elim (λ f. absurd (first f.0)) (λ f. absurd (w.outer f.1)) k)
          k)
          may.joins

      outer : JoinsOuter at i below old new → HangsAt (home_of new h) n m j
      outer w = ⊎_elim
          (λ e. subst (λ x. HangsAt (home_of new x) n m j) (sym e) (again e w))
          (λ ne. subst (λ x. HangsAt x n m j) (sym (w.homes h ne)) hangs)
          (cases_eq h (block_at old below).source)

  same_in_source : (a j b : ℕ) → (IsFree (block_at old a) → ⊥) → (IsFree (block_at old b) → ⊥) → InSource j (block_at old a) (block_at old b) (home_of old (block_at old b).source) → InSource j (block_at new a) (block_at new b) (home_of new (block_at new b).source)
  same_in_source a j b fa fb h =
      let pa = same_place a fa in
      let sa = same_source a fa in
      let sb = same_source b fb in
      record {
        inner = λ inner. sb ∙ h.inner (subst (λ (q : Place). IsInner q.kind) pa inner) ∙ sym sa;
        outer = λ outer.
            let k = h.outer (λ inner. outer (subst (λ (q : Place). IsInner q.kind) (sym pa) inner)) in
            let n = same_home (block_at old b).source (block_at old a).source (index_in (block_at old a).place) j k in
            subst (λ x. HangsAt (home_of new x) (block_at new a).source (index_in (block_at new a).place) j) (sym sb)
            (subst (λ x. HangsAt (home_of new (block_at old b).source) x (index_in (block_at new a).place) j) (sym sa)
            (subst (λ (q : Place). HangsAt (home_of new (block_at old b).source) (block_at old a).source (index_in q) j) (sym pa) n));
      }

  -- a link of before
  still : (a j b : ℕ) → slot_of (block_at new a) j ≡ slot_of (block_at old a) j → target (slot_of (block_at old a) j) ≡ Local b → Linked made a j b (block_at new a) (block_at new b) (home_of new (block_at new b).source)
  still a j b same e =
      let k = sound.links a j b e in
      let fa = leads_firm a j b e in
      let fb = joined_firm b k.joined in
      let pa = same_place a fa in
      let pb = same_place b fb in
      let falls = k.falls in
      let ra : (block_at new a).place.rank ≡ (block_at old a).place.rank = ap (λ (q : Place). q.rank) pa in
      let rb : (block_at new b).place.rank ≡ (block_at old b).place.rank = ap (λ (q : Place). q.rank) pb in
      record {
        past = k.past;
        was_made = k.was_made;
        few = subst (λ (q : Place). j < slot_count q.kind) (sym pa) k.few;
        place = pb ∙ k.place ∙ ap (λ (q : Place). place_below q j (slot_of (block_at old a) j)) (sym pa) ∙ ap (λ (t : Slot). place_below (block_at new a).place j t) (sym same);
        falls = omega (arith, falls, ra, rb);
        joined = joined_still b k.joined;
        source = same_in_source a j b fa fb k.source;
        ages = λ ne. let le = k.ages ne in let ea = (l.same a).0 in let eb = (l.same b).0 in omega (arith, le, ea, eb);
      }

  place_at : (block_at new at).place ≡ (block_at old at).place
  place_at = l.places at apart_blocks

  -- the link that was put
  put_source : InSource i (block_at new at) (block_at new below) (home_of new (block_at new below).source)
  put_source = ⊎_elim
      (λ w. record {
        inner = λ _. w.under ∙ sym w.source;
        outer = λ outer. absurd (outer (subst (λ (q : Place). IsInner q.kind) (sym place_at) w.inner));
      })
      (λ h. ⊎_elim
      (λ w. record {
        inner = λ inner. absurd (w.outer (subst (λ (q : Place). IsInner q.kind) place_at inner));
        outer = λ _. subst (λ x. HangsAt (home_of new x) (block_at new at).source (index_in (block_at new at).place) i) (sym w.under)
            (subst (λ x. HangsAt (home_of new (block_at old below).source) x (index_in (block_at new at).place) i) (sym w.source)
            (subst (λ (q : Place). HangsAt (home_of new (block_at old below).source) (block_at old at).source (index_in q) i) (sym place_at) w.hangs));
      })
      (λ w. record {
        inner = λ _. w.under ∙ sym w.source;
        outer = λ outer. absurd (outer (subst (λ (q : Place). IsInner q.kind) (sym place_at) w.inner));
      })
      h)
      l.way

  put : Linked made at i below (block_at new at) (block_at new below) (home_of new (block_at new below).source)
  put =
      let lower = may.lower in
      let ra : (block_at new at).place.rank ≡ (block_at old at).place.rank = ap (λ (q : Place). q.rank) place_at in
      let rb : (block_at new below).place.rank ≡ (place_below (block_at old at).place i s).rank = ap (λ (q : Place). q.rank) l.place in
      record {
        past = may.below_made.0;
        was_made = may.below_made.1;
        few = subst (λ (q : Place). i < slot_count q.kind) (sym place_at) may.few;
        place = l.place ∙ ap (λ (q : Place). place_below q i s) (sym place_at) ∙ ap (λ (t : Slot). place_below (block_at new at).place i t) (sym l.put);
        falls = omega (arith, lower, ra, rb);
        joined = l.joined;
        source = put_source;
        ages = λ _. let le = may.ages in let ea = (l.same at).0 in let eb = (l.same below).0 in omega (arith, le, ea, eb);
      }

  links : Links new made
  links a j b e = ⊎_elim
      (λ a_is. ⊎_elim
      (λ j_is.
      let own : target s ≡ Local b = ap target (sym l.put) ∙ ap (λ x. target (slot_of (block_at new x) i)) (sym a_is) ∙ ap (λ x. target (slot_of (block_at new a) x)) (sym j_is) ∙ e in
      let both : Local below ≡ Local b = sym may.leads ∙ own in
      let b_is : below ≡ b = cc in
      subst (λ x. Linked made x j b (block_at new x) (block_at new b) (home_of new (block_at new b).source)) (sym a_is)
      (subst (λ x. Linked made at x b (block_at new at) (block_at new b) (home_of new (block_at new b).source)) (sym j_is)
      (subst (λ x. Linked made at i x (block_at new at) (block_at new x) (home_of new (block_at new x).source)) b_is put)))
      (λ ne. still a j b (l.slots a j (inr ne)) (ap target (sym (l.slots a j (inr ne))) ∙ e))
      (cases_eq j i))
      (λ ne. still a j b (l.slots a j (inl ne)) (ap target (sym (l.slots a j (inl ne))) ∙ e))
      (cases_eq a at)

  -- no source that was not made, and not that of block 1, comes to hang
  other_home : (h : ℕ) → h ≢ (block_at old below).source → home_of new h ≡ home_of old h
  other_home h ne = ⊎_elim (λ w. w.homes h) (λ k. ⊎_elim (λ w. w.homes h ne) (λ w. w.homes h) k) l.way

  below_source : (1 < (block_at old below).source) × ((block_at old below).source < made)
  below_source = sound.sources.numbered below may.below_made.0 may.below_made.1

  at_source : (1 < (block_at old at).source) × ((block_at old at).source < made)
  at_source = sound.sources.numbered at may.at_made.0 may.at_made.1

  super_at : IsSuper root (block_at new 1)
  super_at =
      let old_super = sound.super_at in
      let low = below_source.0 in
      let a : 1 < at = may.at_made.0 in
      let b : 1 < below = may.below_made.0 in
      record {
        place = l.places 1 (λ e. omega (arith, b, e)) ∙ old_super.place;
        way = ap (λ t. leads_to root t) (l.slots 1 0 (inl (λ e. omega (arith, a, e)))) ∙ old_super.way;
        joined = joined_still 1 old_super.joined;
        source = (l.origins 1 (λ e. omega (arith, a, e)) (λ e. omega (arith, b, e))).1 ∙ old_super.source;
        ends = ap (λ (h : Home). h.hangs) (other_home 1 (λ e. omega (arith, low, e))) ∙ old_super.ends;
        others = λ j c ne e. old_super.others j c ne (ap target (sym (l.slots 1 j (inl (λ e. omega (arith, a, e))))) ∙ e);
      }

  spelled : (a : ℕ) → 1 < a → IsSpelled (block_at new a)
  spelled a above j lt = subst (λ k. SlotFits k j (slot_of (block_at new a) j)) (sym kind) fits
    where
      kind : (block_at new a).place.kind ≡ (block_at old a).place.kind
      kind = (l.kinds a).0

      was : SlotFits (block_at old a).place.kind j (slot_of (block_at old a) j)
      was = sound.spelled a above j (subst (λ k. j < slot_count k) kind lt)

      fits : SlotFits (block_at old a).place.kind j (slot_of (block_at new a) j)
      fits = ⊎_elim
          (λ a_is. ⊎_elim
          (λ j_is. subst (λ x. SlotFits (block_at old x).place.kind j (slot_of (block_at new x) j)) (sym a_is)
          (subst (λ x. SlotFits (block_at old at).place.kind x (slot_of (block_at new at) x)) (sym j_is)
          (subst (λ t. SlotFits (block_at old at).place.kind i t) (sym l.put) may.spelled)))
          (λ ne. subst (λ t. SlotFits (block_at old a).place.kind j t) (sym (l.slots a j (inr ne))) was)
          (cases_eq j i))
          (λ ne. subst (λ t. SlotFits (block_at old a).place.kind j t) (sym (l.slots a j (inl ne))) was)
          (cases_eq a at)

  tops : (b : ℕ) → (block_at new b).kept ≡ true → IsKept made b (block_at new b)
  tops b e =
      let k = sound.tops b (sym (l.same b).3 ∙ e) in
      let firm = joined_firm b k.joined in
      record {
        past = k.past;
        was_made = k.was_made;
        place = same_place b firm ∙ k.place;
        joined = joined_still b k.joined;
        source = same_source b firm ∙ k.source;
      }

  rest : (b : ℕ) → made ≤ b → IsUnmade (block_at new b)
  rest b le =
      let k = sound.rest b le in
      let a : at < made = may.at_made.1 in
      let c : below < made = may.below_made.1 in
      let low = below_source.1 in
      record {
        joined = joined_still b k.joined;
        stays = (l.same b).2 ∙ k.stays;
        goes_on = (l.same b).4 ∙ k.goes_on;
        loses = (l.same b).3 ∙ k.loses;
        ends = ap (λ (h : Home). h.hangs) (other_home b (λ e. omega (arith, low, le, e))) ∙ k.ends;
        unused = λ j. ap is_active (l.slots b j (inl (λ e. omega (arith, a, le, e)))) ∙ k.unused j;
      }

  -- A first block of a source was one before, or a new top was raised over one.
  record Was (b : ℕ) : Type 0 where
    first : IsFirst (block_at old b)
    source : (block_at new b).source ≡ (block_at old b).source
    ne : b ≢ below

  record Over (b : ℕ) : Type 0 where
    is : b ≡ at
    first : IsFirst (block_at old below)
    source : (block_at new b).source ≡ (block_at old below).source
    homes : (h : ℕ) → home_of new h ≡ home_of old h

  raised_over : (w : Raises at i below old new) → (block_at new at).origin ≡ 0 → (block_at old below).apart ≡ true → (block_at old below).origin ≡ 0
  raised_over w e is = ap (λ t. cond t (block_at old below).origin below) (sym is) ∙ sym w.origin ∙ e

  raised_apart : (w : Raises at i below old new) → (block_at new at).origin ≡ 0 → (block_at old below).apart ≡ false → ⊥
  raised_apart w e is =
      let no : below ≡ 0 = ap (λ t. cond t (block_at old below).origin below) (sym is) ∙ sym w.origin ∙ e in
      let past : 1 < below = may.below_made.0 in
      omega (arith, no, past)

  bool : (x : Bool) → (x ≡ true) ⊎ (x ≡ false)
  bool true = inl refl
  bool false = inr refl

  first_at : IsFirst (block_at new at) → Was at ⊎ Over at
  first_at f = ⊎_elim
      (λ w. inl (record { first = (was_apart, sym w.origin ∙ f.1); source = w.source; ne = apart_blocks }))
      (λ h. ⊎_elim
      (λ w. inl (record { first = (was_apart, sym w.origin ∙ f.1); source = w.source; ne = apart_blocks }))
      (λ w. ⊎_elim
      (λ is. inr (record { is = refl; first = (is, raised_over w f.1 is); source = w.source; homes = w.homes }))
      (λ is. absurd (raised_apart w f.1 is))
      (bool (block_at old below).apart))
      h)
      l.way
    where
      was_apart : (block_at old at).apart ≡ true
      was_apart = sym (l.aparts at apart_blocks) ∙ f.0

  first_was : (b : ℕ) → IsFirst (block_at new b) → Was b ⊎ Over b
  first_was b f = ⊎_elim
      (λ e. absurd (never_both f.0 (ap (λ x. (block_at new x).apart) e ∙ l.joined)))
      (λ ne. ⊎_elim
      (λ e. subst (λ x. IsFirst (block_at new x) → Was x ⊎ Over x) (sym e) first_at f)
      (λ na. inl (record { first = (sym (l.aparts b ne) ∙ f.0, sym (l.origins b na ne).0 ∙ f.1); source = (l.origins b na ne).1; ne = ne }))
      (cases_eq b at))
      (cases_eq b below)

  -- the source of the block below is that of no other first block
  other_source : (b : ℕ) → Was b → JoinsOuter at i below old new → (block_at old b).source ≢ (block_at old below).source
  other_source b was w e = ⊎_elim
      (λ k. never_both (k.outer w.outer).hangs (subst (λ x. (home_of old x).hangs ≡ false) e (sound.sources.free b was.first)))
      (λ k. ⊎_elim
      (λ free. was.ne (sound.sources.one b below was.first free.0 e))
      (λ k. ⊎_elim (λ f. was.ne (sound.sources.one b below was.first f.0 e)) (λ f. w.outer f.1) k)
      k)
      may.joins

  free : (b : ℕ) → IsFirst (block_at new b) → (home_of new (block_at new b).source).hangs ≡ false
  free b f = ⊎_elim
      (λ was. ap (λ x. (home_of new x).hangs) was.source ∙ ap (λ (h : Home). h.hangs) (home was) ∙ sound.sources.free b was.first)
      (λ over. ap (λ x. (home_of new x).hangs) over.source ∙ ap (λ (h : Home). h.hangs) (over.homes (block_at old below).source) ∙ sound.sources.free below over.first)
      (first_was b f)
    where
      home : Was b → home_of new (block_at old b).source ≡ home_of old (block_at old b).source
      home was = ⊎_elim (λ w. w.homes (block_at old b).source) (λ h. ⊎_elim (λ w. w.homes (block_at old b).source (other_source b was w)) (λ w. w.homes (block_at old b).source) h) l.way

  one : (b c : ℕ) → IsFirst (block_at new b) → IsFirst (block_at new c) → (block_at new b).source ≡ (block_at new c).source → b ≡ c
  one b c f g e = ⊎_elim
      (λ x. ⊎_elim
      (λ y. sound.sources.one b c x.first y.first (sym x.source ∙ e ∙ y.source))
      (λ y. absurd (x.ne (sound.sources.one b below x.first y.first (sym x.source ∙ e ∙ y.source))))
      (first_was c g))
      (λ x. ⊎_elim
      (λ y. absurd (y.ne (sound.sources.one c below y.first x.first (sym y.source ∙ sym e ∙ x.source))))
      (λ y. x.is ∙ sym y.is)
      (first_was c g))
      (first_was b f)

  -- what comes in the place of a block that is apart no more
  stead : (b x : ℕ) → (block_at new b).origin ≡ x → x < made → (block_at old x).apart ≡ false → (block_at new x).source ≡ (block_at new b).source → IsStead made (block_at new b) (block_at new (block_at new b).origin)
  stead b x is lt joined same = subst (λ y. IsStead made (block_at new b) (block_at new y)) (sym is) (record { was_made = subst (λ y. y < made) (sym is) lt; joined = joined_still x joined; source = same })

  stead_was : (b : ℕ) → b ≢ below → (block_at new b).origin ≡ (block_at old b).origin → (block_at new b).source ≡ (block_at old b).source → (block_at new b).apart ≡ true → (block_at new b).origin ≢ 0 → IsStead made (block_at new b) (block_at new (block_at new b).origin)
  stead_was b ne origin source apart some =
      let k = sound.sources.steads b (sym (l.aparts b ne) ∙ apart) (λ e. some (origin ∙ e)) in
      stead b (block_at old b).origin origin k.was_made k.joined (same_source (block_at old b).origin (joined_firm (block_at old b).origin k.joined) ∙ k.source ∙ sym source)

  stead_at : (block_at new at).apart ≡ true → (block_at new at).origin ≢ 0 → IsStead made (block_at new at) (block_at new (block_at new at).origin)
  stead_at apart some = ⊎_elim
      (λ w. stead_was at apart_blocks w.origin w.source apart some)
      (λ h. ⊎_elim
      (λ w. stead_was at apart_blocks w.origin w.source apart some)
      (λ w. ⊎_elim
      (λ is.
      let origin : (block_at new at).origin ≡ (block_at old below).origin = w.origin ∙ ap (λ t. cond t (block_at old below).origin below) is in
      let k = sound.sources.steads below is (λ e. some (origin ∙ e)) in
      stead at (block_at old below).origin origin k.was_made k.joined (same_source (block_at old below).origin (joined_firm (block_at old below).origin k.joined) ∙ k.source ∙ sym w.source))
      (λ is. stead at below (w.origin ∙ ap (λ t. cond t (block_at old below).origin below) is) may.below_made.1 is (w.under ∙ sym w.source))
      (bool (block_at old below).apart))
      h)
      l.way

  steads : (b : ℕ) → (block_at new b).apart ≡ true → (block_at new b).origin ≢ 0 → IsStead made (block_at new b) (block_at new (block_at new b).origin)
  steads b apart some = ⊎_elim
      (λ e. absurd (never_both apart (ap (λ x. (block_at new x).apart) e ∙ l.joined)))
      (λ ne. ⊎_elim
      (λ e. subst (λ x. (block_at new x).apart ≡ true → (block_at new x).origin ≢ 0 → IsStead made (block_at new x) (block_at new (block_at new x).origin)) (sym e) stead_at apart some)
      (λ na. stead_was b ne (l.origins b na ne).0 (l.origins b na ne).1 apart some)
      (cases_eq b at))
      (cases_eq b below)

  IsNumber : ℕ → Type 0
  IsNumber n = (1 < n) × (n < made)

  numbered : (b : ℕ) → 1 < b → b < made → (1 < (block_at new b).source) × ((block_at new b).source < made)
  numbered b past lt = ⊎_elim
      (λ e. subst (λ x. (1 < (block_at new x).source) × ((block_at new x).source < made)) (sym e) under)
      (λ ne. ⊎_elim
      (λ e. subst (λ x. (1 < (block_at new x).source) × ((block_at new x).source < made)) (sym e) own)
      (λ na. subst (λ n. (1 < n) × (n < made)) (sym (l.origins b na ne).1) (sound.sources.numbered b past lt))
      (cases_eq b at))
      (cases_eq b below)
    where
      under : (1 < (block_at new below).source) × ((block_at new below).source < made)
      under = ⊎_elim
          (λ w. subst (λ n. (1 < n) × (n < made)) (sym w.under) at_source)
          (λ h. ⊎_elim (λ w. subst (λ n. (1 < n) × (n < made)) (sym w.under) below_source) (λ w. subst (λ n. (1 < n) × (n < made)) (sym w.under) below_source) h)
          l.way

      own : (1 < (block_at new at).source) × ((block_at new at).source < made)
      own = ⊎_elim
          (λ w. subst (λ n. (1 < n) × (n < made)) (sym w.source) at_source)
          (λ h. ⊎_elim (λ w. subst (λ n. (1 < n) × (n < made)) (sym w.source) at_source) (λ w. subst (λ n. (1 < n) × (n < made)) (sym w.source) below_source) h)
          l.way

  apart : (b : ℕ) → (block_at new b).apart ≡ true → (1 < b) × (b < made)
  apart b is = ⊎_elim
      (λ e. absurd (never_both is (ap (λ x. (block_at new x).apart) e ∙ l.joined)))
      (λ ne. sound.sources.apart b (sym (l.aparts b ne) ∙ is))
      (cases_eq b below)

  pub link_sound : Sound new made high root
  link_sound = record {
    super_at = super_at;
    root_kept = ((l.same root).3 ∙ sound.root_kept.0, (l.same root).0 ∙ sound.root_kept.1);
    links = links;
    spelled = spelled;
    aged = λ b lt. subst (λ n. n ≤ high) (sym (l.same b).0) (sound.aged b lt);
    tops = tops;
    rest = rest;
    sources = record { apart = apart; numbered = numbered; free = free; one = one; steads = steads };
  }

  pub link_formed : Formed old made → Formed new made
  link_formed formed b past lt =
      let kinds = l.kinds b in
      subst (λ x. ∥ IsFormed (block_at new b).place.kind (block_at new b).place.rank x ∥₁) (sym (l.same b).1)
      (subst (λ x. ∥ IsFormed (block_at new b).place.kind x (block_at old b).bytes ∥₁) (sym kinds.2)
      (subst (λ x. ∥ IsFormed x (block_at old b).place.rank (block_at old b).bytes ∥₁) (sym kinds.0) (formed b past lt)))

  pub link_waiting : {waits : List Wait} → KeepsUse waits at i s → Waiting old made waits → Waiting new made waits
  link_waiting {waits} keeps waiting n k lt is =
      let was = waiting n k lt is in
      record {
        was_made = was.was_made;
        entries = (l.kinds (wait_at waits n).on).0 ∙ was.entries;
        used = ⊎_elim
            (λ on_is. ⊎_elim
            (λ i_is. ap is_active (ap (λ x. slot_of (block_at new x) (2 * k)) on_is ∙ ap (λ x. slot_of (block_at new at) x) (sym i_is) ∙ l.put) ∙ keeps.each n k lt on_is i_is is)
            (λ ne. ap is_active (l.slots (wait_at waits n).on (2 * k) (inr (λ e. ne (sym e)))) ∙ was.used)
            (cases_eq i (2 * k)))
            (λ ne. ap is_active (l.slots (wait_at waits n).on (2 * k) (inl ne)) ∙ was.used)
            (cases_eq (wait_at waits n).on at);
      }

  pub link_queue : {queued : ℕ} → Queue old queued → Queue new queued
  link_queue queue none b = ((l.same b).2 ∙ (queue none b).0, (l.same b).4 ∙ (queue none b).1)
