-- Slots are cleared one after another.
use Rattle.std.proofs.Common.{◌≡◌, ◌≢◌, ◌⊎◌, ◌<◌, ◌≤◌, ℕ, List, inl, inr, ⊎_elim, refl, sym, ◌∙◌, ap, subst, arith}
use Rattle.std.proofs.lemmas.Bool.{cases_eq}
use Rattle.fo_image.specs.declared.types.Pointer.TheVariants.{Nil, Local}
use Rattle.fo_crash.specs.declared.slot.Slot.{Slot}
use Rattle.fo_crash.specs.declared.slot.Slot.TheVariants.{Pointer as To}
use Rattle.fo_crash.specs.declared.place.Place.{Place}
use Rattle.fo_crash.specs.Images.{Image, Reaches, target, walk, to_block, with_slot}
use Rattle.fo_crash.specs.Spots.{OnePath}
use Rattle.fo_crash.specs.Steps.{Through}
use Rattle.fo_crash.proofs.Reach.{lost}
use Rattle.fo_crash.proofs.Updates.{slot_bytes, slot_other}
use Rattle.fo_ports.specs.State.{State, IsRooted, KeepsAll, IsPointers}
use Rattle.fo_tree_trim.specs.Cut.{CutsOne, IsCut, HangsFrom, HangsThrough, Cuts}
use Rattle.fo_tree_trim.proofs.Paths.{Fewer, CutAt, Gone, path_back, reaches_back, uses_or, intact_or, broken_dead}

spot_cases : (at i b j : ℕ) → ((b ≡ at) × (j ≡ i)) ⊎ ((b ≢ at) ⊎ (j ≢ i))
spot_cases at i b j = ⊎_elim
    (λ e. ⊎_elim (λ f. inl (e, f)) (λ ne. inr (inr ne)) (cases_eq j i))
    (λ ne. inr (inl ne))
    (cases_eq b at)

nil_local : (b : ℕ) → Nil ≢ Local b
nil_local b e = cc

pub cut_less : {cut : ℕ → ℕ → Type 0} {s u : State} → Cuts cut s u → Fewer s.now u.now
cut_less x = record { each = λ b j. ⊎_elim (λ e. inl e) (λ h. inr (ap target h.1)) (x.slots b j) }

-- Some slots were cleared, and then one more.
pub record CutMore (first cut : ℕ → ℕ → Type 0) (at i : ℕ) (s m u : State) : Type 0 where
  pub before : Cuts first s m
  pub step : CutsOne at i m u
  pub all : KeepsAll s m
  pub within : (b j : ℕ) → first b j → cut b j
  pub here : cut at i
  pub only : (b j : ℕ) → cut b j → first b j ⊎ ((b ≡ at) × (j ≡ i))
  pub one : s.tells → OnePath 1 s.now
  pub through : s.tells → (path : List ℕ) (b : ℕ) → HangsThrough cut s b → target (walk m.now ((m.now at).slot i) path) ≡ Local b → Through (IsPointers m) m.now ((m.now at).slot i) b
  pub through_first : s.tells → (a j : ℕ) → first a j → (path : List ℕ) (b : ℕ) → HangsThrough cut s b → target (walk s.now ((s.now a).slot j) path) ≡ Local b → Through (IsPointers s) s.now ((s.now a).slot j) b
  pub unwaited : (a j : ℕ) → m.waits a at j → ⊥
  pub covers_told : (b : ℕ) → m.covered b → m.tells

module _ {first cut : ℕ → ℕ → Type 0} {at i : ℕ} {s m u : State} (x : CutMore first cut at i s m u) where
  mid : s.tells → m.tells
  mid told = x.all.still_tells.1 told

  cut_at : CutAt at i m.now u.now
  cut_at = record { here = ap target x.step.puts.here; others = x.step.puts.others }

  wider : (b : ℕ) → HangsFrom first s b → HangsFrom cut s b
  wider b h = (h.0, h.1, x.within h.0 h.1 h.2, h.3)

  -- what hangs from the slot hung from it at first
  below_back : (b : ℕ) → Reaches m.now ((m.now at).slot i) b → HangsFrom cut s b
  below_back b r =
      let r' = reaches_back (cut_less x.before) r in (
        at,
        i,
        x.here,
        ⊎_elim
            (λ same. subst (λ (q : Slot). Reaches s.now q b) same r')
            (λ nil. absurd (gone (subst (λ (q : Slot). Reaches s.now q b) nil.1 r')))
            (x.before.slots at i),
      )
    where
      gone : Reaches s.now (To Nil) b → ⊥
      gone r = lost s.now r.path (To Nil) (λ c e. nil_local c e) b r.leads

  nil_on : (b j : ℕ) → (m.now b).slot j ≡ To Nil → (u.now b).slot j ≡ To Nil
  nil_on b j nil = ⊎_elim
      (λ h. ap (λ y. (u.now y).slot j) h.0 ∙ ap (λ y. (u.now at).slot y) h.1 ∙ x.step.puts.here)
      (λ aside. x.step.puts.others b j aside ∙ nil)
      (spot_cases at i b j)

  slots_end : (b j : ℕ) → ((u.now b).slot j ≡ (s.now b).slot j) ⊎ (cut b j × ((u.now b).slot j ≡ To Nil))
  slots_end b j = ⊎_elim
      (λ h. inr (
        subst (λ y. cut y j) (sym h.0) (subst (λ y. cut at y) (sym h.1) x.here),
        ap (λ y. (u.now y).slot j) h.0 ∙ ap (λ y. (u.now at).slot y) h.1 ∙ x.step.puts.here,
      ))
      (λ aside. ⊎_elim
      (λ e. inl (x.step.puts.others b j aside ∙ e))
      (λ h. inr (x.within b j h.0, x.step.puts.others b j aside ∙ h.1))
      (x.before.slots b j))
      (spot_cases at i b j)

  empty_end : (b j : ℕ) → cut b j → target ((u.now b).slot j) ≡ Nil
  empty_end b j q = ⊎_elim
      (λ h. ap (λ y. target ((u.now y).slot j)) h.0 ∙ ap (λ y. target ((u.now at).slot y)) h.1 ∙ ap target x.step.puts.here)
      (λ aside. ap target (x.step.puts.others b j aside) ∙ ⊎_elim
      (λ p. x.before.empty b j p)
      (λ h. absurd (⊎_elim (λ ne. ne h.0) (λ ne. ne h.1) aside))
      (x.only b j q))
      (spot_cases at i b j)

  images_end : (image : Image) → u.may_leave image → IsCut cut s u image
  images_end image is = ⊎_elim
      (λ old. let c = x.before.images image old in record {
        other = c.other;
        was = c.was;
        bytes = c.bytes;
        slots = λ b j. ⊎_elim (λ e. inl e) (λ h. inr (x.within b j h.0, h.1, nil_on b j h.2)) (c.slots b j);
      })
      (λ new. let c = x.before.images (with_slot image at i ((m.now at).slot i)) new.1 in record {
        other = c.other;
        was = c.was;
        bytes = λ b. sym (slot_bytes image at i ((m.now at).slot i) b) ∙ c.bytes b;
        slots = λ b j. ⊎_elim
            (λ h. inr (
              subst (λ y. cut y j) (sym h.0) (subst (λ y. cut at y) (sym h.1) x.here),
              ap (λ y. (image y).slot j) h.0 ∙ ap (λ y. (image at).slot y) h.1 ∙ new.0,
              ap (λ y. (u.now y).slot j) h.0 ∙ ap (λ y. (u.now at).slot y) h.1 ∙ x.step.puts.here,
            ))
            (λ aside. let e = sym (slot_other image at i ((m.now at).slot i) b j aside) in ⊎_elim
            (λ same. inl (e ∙ same))
            (λ h. inr (x.within b j h.0, e ∙ h.1, nil_on b j h.2))
            (c.slots b j))
            (spot_cases at i b j);
      })
      (x.step.images.each image is)

  rooted_mid : s.tells → (b : ℕ) → IsRooted u b → IsRooted m b
  rooted_mid told b r = x.step.frame.stays.rooted (mid told) b (λ h. h) r

  places_end : s.tells → (b : ℕ) (p : Place) → (u.covered b → ⊥) → IsRooted u b → s.stands b p → u.stands b p
  places_end told b p free r stands =
      let before = x.before.places told b p (λ h. free ((x.step.covers (mid told)).still b h)) (rooted_mid told b r) stands in
      ⊎_elim
      (λ e. subst (λ y. u.stands y p) (sym e) (x.step.hangs.at_place (mid told) p (λ h. free (subst (λ y. u.covered y) (sym e) h)) (subst (λ y. m.stands y p) e before)))
      (λ away. x.step.frame.stays.places (mid told) b p (λ h. h) away free r before)
      (cases_eq b at)

  apart_step : (b : ℕ) → (u.apart b → m.apart b) × (m.apart b → u.apart b)
  apart_step b = ⊎_elim
      (λ e. let h = x.step.hangs.at_apart (nil_local at) in (
        λ a. subst (λ y. m.apart y) (sym e) (h.0 (subst (λ y. u.apart y) e a)),
        λ a. subst (λ y. u.apart y) (sym e) (h.1 (subst (λ y. m.apart y) e a)),
      ))
      (λ away. let h = x.step.frame.stays.apart b (λ h. h) away in (h.0, h.1))
      (cases_eq b at)

  instead_step : (b y : ℕ) → u.instead b y → m.instead b y
  instead_step b y h = ⊎_elim
      (λ e. subst (λ z. m.instead z y) (sym e) (⊎_elim
      (λ old. old)
      (λ raised. absurd (nil_local raised.1.0 raised.1.1))
      (x.step.hangs.raised y (subst (λ z. u.instead z y) e h))))
      (λ away. (x.step.frame.stays.instead b y (λ z. z) away).0 h)
      (cases_eq b at)

  instead_still : (b y : ℕ) → m.instead b y → u.instead b y
  instead_still b y h = ⊎_elim
      (λ e. subst (λ z. u.instead z y) (sym e) (x.step.hangs.still y (subst (λ z. m.instead z y) e h)))
      (λ away. (x.step.frame.stays.instead b y (λ z. z) away).1 h)
      (cases_eq b at)

  gone : Gone first s.now m.now
  gone = record { each = λ b j. ⊎_elim (λ e. inl e) (λ h. inr (h.0, ap target h.1)) (x.before.slots b j) }

  leaves_end : s.tells → (b : ℕ) → HangsThrough cut s b → Reaches s.now (to_block 1) b → (Reaches u.now (to_block 1) b → ⊥) → u.covered b
  leaves_end told b h r away = ⊎_elim
      (λ on. ⊎_elim
      (λ after. absurd (away (record { path = r.path; leads = after })))
      (λ uses. (x.step.covers (mid told)).leaves b (x.through told uses.rest b h uses.leads) (record { path = r.path; leads = on }) away)
      (uses_or cut_at r.path (to_block 1) b on))
      (λ broken. (x.step.covers (mid told)).still b (x.before.leaves told b (broken.at, broken.i, broken.was, x.through_first told broken.at broken.i broken.was broken.rest b h broken.leads) r
      (λ after.
      let same : after.path ≡ r.path = (x.one told).each b after.path r.path (path_back (cut_less x.before) after.path (to_block 1) b after.leads) r.leads in
      broken_dead (cut_less x.before) broken (ap (λ y. target (walk m.now (to_block 1) y)) (sym same) ∙ after.leads))))
      (intact_or gone r.path (to_block 1) b r.leads)

  queues_end : (s.queued ≤ u.queued) × ((b j c : ℕ) → cut b j → target ((s.now b).slot j) ≡ Local c → 0 < u.queued)
  queues_end = (
    let p = x.before.queues.0 in let q = x.step.queues.0 in omega (arith, p, q),
    λ b j c h e. ⊎_elim
        (λ old. let p = x.before.queues.1 b j c old e in let q = x.step.queues.0 in omega (arith, p, q))
        (λ here. queued_here c (ap (λ y. target ((s.now at).slot y)) (sym here.1) ∙ ap (λ y. target ((s.now y).slot j)) (sym here.0) ∙ e))
        (x.only b j h),
  )
    where
      queued_here : (c : ℕ) → target ((s.now at).slot i) ≡ Local c → 0 < u.queued
      queued_here c e = ⊎_elim
          (λ same. x.step.queues.1 c (ap target same ∙ e))
          (λ h. let p = x.before.queues.1 at i c h.0 e in let q = x.step.queues.0 in omega (arith, p, q))
          (x.before.slots at i)

  reached_end : s.tells → (w b : ℕ) → (HangsFrom cut s b → ⊥) → Reaches s.now (to_block w) b → Reaches u.now (to_block w) b
  reached_end told w b not r =
      let before = x.before.reached told w b (λ h. not (wider b h)) r in
      ⊎_elim
      (λ on. record { path = before.path; leads = on })
      (λ uses. absurd (not (below_back b (record { path = uses.rest; leads = uses.leads }))))
      (uses_or cut_at before.path (to_block w) b before.leads)

  waits_end : (a on j : ℕ) → s.waits a on j → u.waits a on j
  waits_end a on j w = ⊎_elim
      (λ e. absurd (x.unwaited a j (subst (λ y. m.waits a y j) e (x.before.waits a on j w))))
      (λ away. x.step.hangs.waits a on j (inl away) (x.before.waits a on j w))
      (cases_eq on at)

  pub cut_more : Cuts cut s u
  cut_more = record {
    bytes = λ b. x.step.puts.bytes b ∙ x.before.bytes b;
    slots = slots_end;
    empty = empty_end;
    images = images_end;
    labels = λ b. x.step.frame.stays.labels b (λ h. h) ∙ x.before.labels b;
    marks = λ b. let p = x.before.marks b in let q = x.step.frame.stays.marks b (λ h. h) in (λ h. q.0 (p.0 h), λ h. q.1 (p.1 h), λ h. q.2 (p.2 h));
    places = places_end;
    rooted = λ told b r. x.before.rooted told b (rooted_mid told b r);
    apart = λ b. let p = x.before.apart b in let q = apart_step b in (λ h. p.0 (q.0 h), λ h. q.1 (p.1 h));
    instead = λ b y. let was = x.before.instead b y in (λ h. was.0 (instead_step b y h), λ h. instead_still b y (was.1 h));
    still = λ b h. let before = x.before.still b h in (x.step.covers (x.covers_told b before)).still b before;
    only = λ told b free not h. (x.step.covers (mid told)).only b (x.before.only told b free (λ f. not (wider b f))) (λ r. not (below_back b r)) h;
    leaves = leaves_end;
    reached = reached_end;
    queues = queues_end;
    waits = waits_end;
    no_wait = record { each = λ a on j h w. x.before.no_wait.each a on j h (x.step.no_wait.each a on j h w) };
    order = λ b j. let p = x.before.order b j in let q = x.step.order b j in (λ h. p.0 (q.0 h), λ h. q.1 (p.1 h));
    dirty = λ b d. ⊎_elim
        (λ before. ⊎_elim (λ old. inl old) (λ h. inr (h.0, x.within b h.0 h.1)) (x.before.dirty b before))
        (λ e. inr (i, subst (λ y. cut y i) (sym e) x.here))
        (x.step.frame.dirty b d);
    moments = x.step.frame.uses.moments ∙ x.before.moments;
    left = λ k image h. x.before.left k image (x.step.frame.uses.left k image h);
    pins = x.step.frame.uses.pins ∙ x.before.pins;
    spare = let p = x.before.spare in let q = x.step.frame.uses.spare in omega (arith, p, q);
    usable = let p = x.before.usable in let q = x.step.frame.uses.usable in omega (arith, p, q);
    numbers = record { next = x.step.frame.numbers.next ∙ x.before.numbers.next; grants = λ h. x.step.frame.numbers.grants (x.before.numbers.grants h) };
  }

-- no slot was cleared
pub cut_none : (cut : ℕ → ℕ → Type 0) (s : State) → ((b j : ℕ) → cut b j → ⊥) → Cuts cut s s
cut_none cut s none = record {
  bytes = λ b. refl;
  slots = λ b j. inl refl;
  empty = λ b j h. absurd (none b j h);
  images = λ image is. record { other = image; was = is; bytes = λ b. refl; slots = λ b j. inl refl };
  labels = λ b. refl;
  marks = λ b. (λ h. h, λ h. h, λ h. h);
  places = λ told b p free r stands. stands;
  rooted = λ told b r. r;
  apart = λ b. (λ h. h, λ h. h);
  instead = λ b y. (λ h. h, λ h. h);
  still = λ b h. h;
  only = λ told b free not h. free h;
  leaves = λ told b h r away. absurd (none h.0 h.1 h.2);
  reached = λ told w b not r. r;
  queues = (omega arith, λ b j c h e. absurd (none b j h));
  waits = λ a on j w. w;
  no_wait = record { each = λ a on j h w. w };
  order = λ b j. (λ h. h, λ h. h);
  dirty = λ b d. inl d;
  moments = refl;
  left = λ k image h. h;
  pins = refl;
  spare = refl;
  usable = refl;
  numbers = record { next = refl; grants = λ h. h };
}

-- slots that lead nowhere anyhow
pub cut_same : {first cut : ℕ → ℕ → Type 0} {s u : State} → Cuts first s u → ((b j : ℕ) → first b j → cut b j) → ((b j : ℕ) → cut b j → first b j ⊎ (target ((u.now b).slot j) ≡ Nil)) → Cuts cut s u
cut_same {first = first} {cut = cut} {s = s} {u = u} x within rest = record {
  bytes = x.bytes;
  slots = λ b j. ⊎_elim (λ e. inl e) (λ h. inr (within b j h.0, h.1)) (x.slots b j);
  empty = λ b j h. ⊎_elim (λ p. x.empty b j p) (λ nil. nil) (rest b j h);
  images = λ image is. let c = x.images image is in record { other = c.other; was = c.was; bytes = c.bytes; slots = λ b j. ⊎_elim (λ e. inl e) (λ h. inr (within b j h.0, h.1, h.2)) (c.slots b j) };
  labels = x.labels;
  marks = x.marks;
  places = x.places;
  rooted = x.rooted;
  apart = x.apart;
  instead = x.instead;
  still = x.still;
  only = λ told b free not h. x.only told b free (λ f. not (f.0, f.1, within f.0 f.1 f.2, f.3)) h;
  leaves = λ told b h r away. ⊎_elim
      (λ old. x.leaves told b (h.0, h.1, old, h.3) r away)
      (λ nil. absurd (lost s.now h.3.path ((s.now h.0).slot h.1) (λ c e. nil_local c (sym nil ∙ e)) b h.3.leads))
      (was_cut h.0 h.1 h.2);
  queues = (x.queues.0, λ b j c h e. ⊎_elim (λ old. x.queues.1 b j c old e) (λ nil. absurd (nil_local c (sym nil ∙ e))) (was_cut b j h));
  reached = λ told w b not r. x.reached told w b (λ f. not (f.0, f.1, within f.0 f.1 f.2, f.3)) r;
  waits = x.waits;
  no_wait = x.no_wait;
  order = x.order;
  dirty = λ b d. ⊎_elim (λ old. inl old) (λ h. inr (h.0, within b h.0 h.1)) (x.dirty b d);
  moments = x.moments;
  left = x.left;
  pins = x.pins;
  spare = x.spare;
  usable = x.usable;
  numbers = x.numbers;
}
  where
    -- a slot that is one of them was one before, or led nowhere
    was_cut : (b j : ℕ) → cut b j → first b j ⊎ (target ((s.now b).slot j) ≡ Nil)
    was_cut b j h = ⊎_elim
        (λ old. inl old)
        (λ nil. ⊎_elim (λ same. inr (ap target (sym same) ∙ nil)) (λ old. inl old.0) (x.slots b j))
        (rest b j h)
