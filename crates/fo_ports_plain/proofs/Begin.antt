-- What is kept of blocks stays true where an epoch begins: a new root block comes after the old one, and block 1 leads to it.
use Rattle.std.proofs.Common.{◌≡◌, ◌≢◌, ⊎_elim, ℕ, ◌+◌, ◌*◌, ◌<◌, true, false, nat_eq, List, length, refl, sym, ◌∙◌, ap, subst, arith}
use Rattle.std.proofs.lemmas.Bool.{cases_eq}
use Rattle.std.proofs.lemmas.Grind.{common_steps}
use Rattle.fo_image.specs.declared.types.Pointer.TheVariants.{Nil, Local, Score as Held}
use Rattle.fo_crash.specs.declared.place.Place.{Place}
use Rattle.fo_crash.specs.declared.slot.Slot.{Slot}
use Rattle.fo_crash.specs.declared.slot.Slot.TheVariants.{Pointer as To, Entry as Head, Prev}
use Rattle.fo_crash.specs.Images.{target}
use Rattle.fo_crash.specs.Places.{super_place, root_place, place_below}
use Rattle.fo_ports.specs.Blocks.{IsInner, IsFormed, slot_count, SlotFits}
use Rattle.fo_ports_plain.specs.declared.home.Home.{Home}
use Rattle.fo_ports_plain.specs.declared.block.PlainBlock.{PlainBlock}
use Rattle.fo_ports_plain.specs.declared.wait.Wait.{Wait}
use Rattle.fo_ports_plain.specs.Plain.{block_at, slot_of, is_active, index_in, wait_at}
use Rattle.fo_ports_plain.specs.Sound.{HangsAt, Linked, Links, IsSpelled, IsKept, IsUnmade, IsFirst, IsStead, Sound, Well, home_of, leads_to}
use Rattle.fo_ports_plain.proofs.Still.{Alike, alike, moved}

-- The new root block: that of the next epoch, with all of the old one but its home, its mark and slot 2.
pub record IsNext (high at : ℕ) (was x : PlainBlock) : Type 0 where
  pub place : x.place ≡ was.place
  pub epoch : x.epoch ≡ high + 1
  pub apart : x.apart ≡ was.apart
  pub origin : x.origin ≡ was.origin
  pub source : x.source ≡ was.source
  pub ends : x.home.hangs ≡ false
  pub taken : x.taken ≡ false
  pub retired : x.retired ≡ false
  pub kept : x.kept ≡ was.kept
  pub bytes : x.bytes ≡ was.bytes
  pub before : slot_of x 2 ≡ Prev was.epoch at
  pub slots : (i : ℕ) → i ≢ 2 → slot_of x i ≡ slot_of was i

-- Block 1, which leads to the new root block.
pub record LeadsOn (made : ℕ) (was x : PlainBlock) : Type 0 where
  pub same : Alike x was
  pub taken : x.taken ≡ was.taken
  pub retired : x.retired ≡ was.retired
  pub bytes : x.bytes ≡ was.bytes
  pub way : slot_of x 0 ≡ To (Local made)
  pub slots : (i : ℕ) → i ≢ 0 → slot_of x i ≡ slot_of was i

pub record Grows (made high root : ℕ) (old new : List PlainBlock) : Type 0 where
  pub next : IsNext high root (block_at old root) (block_at new made)
  pub top : LeadsOn made (block_at old 1) (block_at new 1)
  pub others : (b : ℕ) → b ≢ made → b ≢ 1 → block_at new b ≡ block_at old b
  pub as_long : length new ≡ length old

same_number : (n : ℕ) → nat_eq n n ≡ true
same_number n = grind (arith, common_steps)

-- a slot that leads to a block by a pointer is no entry in use
leads_unused : (root : ℕ) (s : Slot) → leads_to root s ≡ true → is_active s ≡ true → ⊥
leads_unused root (To p) way e = let no : false ≡ true = e in cc
leads_unused root (Head h) way e = let no : false ≡ true = way in cc
leads_unused root (Prev epoch at) way e = let no : false ≡ true = e in cc

leads_local : (root : ℕ) (s : Slot) → leads_to root s ≡ true → target s ≡ Local root
leads_local root (To (Local at)) way = ap Local (number_is at root way)
  where
    number_is : (a b : ℕ) → nat_eq a b ≡ true → a ≡ b
    number_is a b e = grind (arith, common_steps)
leads_local root (To Nil) way = let no : false ≡ true = way in absurd cc
leads_local root (To (Held score)) way = let no : false ≡ true = way in absurd cc
leads_local root (Head h) way = let no : false ≡ true = way in absurd cc
leads_local root (Prev epoch at) way = let no : false ≡ true = way in absurd cc

module _ {old new : List PlainBlock} {made high root queued : ℕ} {waits : List Wait} (g : Grows made high root old new) (three : 2 < made) (well : Well old made high root waits queued) where
  sound : Sound old made high root
  sound = well.sound

  root_kept : IsKept made root (block_at old root)
  root_kept = sound.tops root sound.root_kept.0

  pub root_below : (1 < root) × (root < made)
  root_below = (root_kept.past, root_kept.was_made)

  pub next_place : (block_at new made).place ≡ root_place
  next_place = g.next.place ∙ root_kept.place

  next_source : (block_at new made).source ≡ 2
  next_source = g.next.source ∙ root_kept.source

  next_joined : (block_at new made).apart ≡ false
  next_joined = g.next.apart ∙ root_kept.joined

  -- what was made is what it was, but for a slot of block 1
  pub was : (b : ℕ) → b < made → Alike (block_at new b) (block_at old b)
  was b lt = ⊎_elim
      (λ e. subst (λ y. Alike (block_at new y) (block_at old y)) (sym e) g.top.same)
      (λ ne. subst (λ z. Alike z (block_at old b)) (sym (g.others b (λ e. omega (arith, lt, e)) ne)) (alike (block_at old b)))
      (cases_eq b 1)

  -- one case for the new root block, and one for what was made or is not yet
  home_was : (s : ℕ) → s ≢ made → home_of new s ≡ home_of old s
  home_was s ne = ⊎_elim
      (λ e. ap (home_of new) e ∙ g.top.same.home ∙ ap (home_of old) (sym e))
      (λ not_one. ap (λ (z : PlainBlock). z.home) (g.others s ne not_one))
      (cases_eq s 1)

  home_below : (b : ℕ) → 1 < b → b < made → home_of new (block_at new b).source ≡ home_of old (block_at old b).source
  home_below b past lt =
      let small = (sound.sources.numbered b past lt).1 in
      ap (home_of new) (was b lt).source ∙ home_was (block_at old b).source (λ e. omega (arith, small, e))

  wider : {a i b : ℕ} {x y : PlainBlock} {h : Home} → Linked made a i b x y h → Linked (made + 1) a i b x y h
  wider l = let lt = l.was_made in record { past = l.past; was_made = omega (arith, lt); few = l.few; place = l.place; falls = l.falls; joined = l.joined; source = l.source; ages = l.ages }

  -- a link of before
  kept_link : (a i b : ℕ) → Alike (block_at new a) (block_at old a) → slot_of (block_at new a) i ≡ slot_of (block_at old a) i → target (slot_of (block_at new a) i) ≡ Local b → Linked (made + 1) a i b (block_at new a) (block_at new b) (home_of new (block_at new b).source)
  kept_link a i b same slot e =
      let l = sound.links a i b (ap target (sym slot) ∙ e) in
      moved same (was b l.was_made) (home_below b l.past l.was_made) slot (wider l)

  -- a link of the new root block
  next_link : (i b : ℕ) → i ≢ 2 → target (slot_of (block_at new made) i) ≡ Local b → Linked (made + 1) made i b (block_at new made) (block_at new b) (home_of new (block_at new b).source)
  next_link i b ne e =
      let l = sound.links root i b (ap target (sym (g.next.slots i ne)) ∙ e) in
      let lt = l.was_made in
      let aged = sound.aged b lt in
      let w = block_at old root in
      let x : PlainBlock = record w { epoch = high + 1; home = (block_at new made).home } in
      let k : Linked (made + 1) made i b x (block_at old b) (home_of old (block_at old b).source) = record { past = l.past; was_made = omega (arith, lt); few = l.few; place = l.place; falls = l.falls; joined = l.joined; source = record { inner = l.source.inner; outer = l.source.outer }; ages = λ _. omega (arith, aged) } in
      moved {u = x} (record { place = g.next.place; epoch = g.next.epoch; apart = g.next.apart; origin = g.next.origin; source = g.next.source; home = refl; kept = g.next.kept }) (was b lt) (home_below b l.past lt) (g.next.slots i ne) k

  -- block 1 leads to the new root block, as it led to the old one
  top_link : Linked (made + 1) 1 0 made (block_at new 1) (block_at new made) (home_of new (block_at new made).source)
  top_link =
      let l = sound.links 1 0 root (leads_local root (slot_of (block_at old 1) 0) sound.super_at.way) in
      let place = g.top.same.place ∙ sound.super_at.place in
      let home : home_of new (block_at new made).source ≡ home_of old (block_at old root).source =
      let two = root_kept.source in ap (home_of new) g.next.source ∙ home_was (block_at old root).source (λ e. omega (arith, two, e, three)) in
      record {
        past = omega (arith, three);
        was_made = omega arith;
        few = subst (λ (p : Place). 0 < slot_count p.kind) (sym place) (omega arith);
        place = next_place ∙ ap (λ t. place_below super_place 0 t) (sym g.top.way) ∙ ap (λ p. place_below p 0 (slot_of (block_at new 1) 0)) (sym place);
        falls = subst (λ (p : Place). p.rank < (block_at new 1).place.rank) (sym next_place) (subst (λ (p : Place). 2144 < p.rank) (sym place) (omega arith));
        joined = next_joined;
        source = record {
          inner = λ inner. absurd (subst (λ (p : Place). IsInner p.kind) place inner);
          outer = λ _.
              let h = l.source.outer (λ inner. subst (λ (p : Place). IsInner p.kind) sound.super_at.place inner) in
              subst (λ z. HangsAt z (block_at new 1).source (index_in (block_at new 1).place) 0) (sym home)
              (subst (λ z. HangsAt (home_of old (block_at old root).source) z (index_in (block_at new 1).place) 0) (sym g.top.same.source)
              (subst (λ p. HangsAt (home_of old (block_at old root).source) (block_at old 1).source (index_in p) 0) (sym g.top.same.place) h));
        };
        ages = λ ne. absurd (ne refl);
      }

  links_top : (i b : ℕ) → target (slot_of (block_at new 1) i) ≡ Local b → Linked (made + 1) 1 i b (block_at new 1) (block_at new b) (home_of new (block_at new b).source)
  links_top i b e = ⊎_elim
      (λ is.
      let leads : Local b ≡ Local made = sym e ∙ ap (λ k. target (slot_of (block_at new 1) k)) is ∙ ap target g.top.way in
      let b_is : b ≡ made = cc in
      subst (λ k. Linked (made + 1) 1 k b (block_at new 1) (block_at new b) (home_of new (block_at new b).source)) (sym is)
      (subst (λ y. Linked (made + 1) 1 0 y (block_at new 1) (block_at new y) (home_of new (block_at new y).source)) (sym b_is) top_link))
      (λ ne. kept_link 1 i b g.top.same (g.top.slots i ne) e)
      (cases_eq i 0)

  links_next : (i b : ℕ) → target (slot_of (block_at new made) i) ≡ Local b → Linked (made + 1) made i b (block_at new made) (block_at new b) (home_of new (block_at new b).source)
  links_next i b e = ⊎_elim
      (λ is. let no : Nil ≡ Local b = sym (ap target g.next.before) ∙ ap (λ k. target (slot_of (block_at new made) k)) (sym is) ∙ e in absurd cc)
      (λ ne. next_link i b ne e)
      (cases_eq i 2)

  three_cases : (P : ℕ → Type 0) → P made → P 1 → ((b : ℕ) → b ≢ made → b ≢ 1 → P b) → (b : ℕ) → P b
  three_cases P one two more b = ⊎_elim
      (λ e. subst P (sym e) one)
      (λ n. ⊎_elim (λ e. subst P (sym e) two) (λ m. more b n m) (cases_eq b 1))
      (cases_eq b made)

  links : Links new (made + 1)
  links = three_cases (λ a. (i b : ℕ) → target (slot_of (block_at new a) i) ≡ Local b → Linked (made + 1) a i b (block_at new a) (block_at new b) (home_of new (block_at new b).source)) links_next links_top
      (λ a n m i b e. kept_link a i b (subst (λ z. Alike z (block_at old a)) (sym (g.others a n m)) (alike (block_at old a))) (ap (λ (z : PlainBlock). slot_of z i) (g.others a n m)) e)

  next_spelled : IsSpelled (block_at new made)
  next_spelled i lt = ⊎_elim
      (λ is. subst (λ k. SlotFits (block_at new made).place.kind k (slot_of (block_at new made) k)) (sym is)
      (subst (λ s. SlotFits (block_at new made).place.kind 2 s) (sym g.next.before) (subst (λ (p : Place). SlotFits p.kind 2 (Prev (block_at old root).epoch root)) (sym next_place) tt)))
      (λ ne. subst (λ s. SlotFits (block_at new made).place.kind i s) (sym (g.next.slots i ne)) (subst (λ (p : Place). SlotFits p.kind i (slot_of (block_at old root) i)) (sym g.next.place)
      (sound.spelled root root_kept.past i (subst (λ (p : Place). i < slot_count p.kind) g.next.place lt))))
      (cases_eq i 2)

  tops : (b : ℕ) → (block_at new b).kept ≡ true → IsKept (made + 1) b (block_at new b)
  tops = three_cases (λ b. (block_at new b).kept ≡ true → IsKept (made + 1) b (block_at new b))
      (λ _. record { past = omega (arith, three); was_made = omega arith; place = next_place; joined = next_joined; source = next_source })
      (λ e. let past = (sound.tops 1 (sym g.top.same.kept ∙ e)).past in absurd (omega (arith, past)))
      (λ b n m e.
      let k = sound.tops b (sym (ap (λ (z : PlainBlock). z.kept) (g.others b n m)) ∙ e) in
      let lt = k.was_made in
      subst (IsKept (made + 1) b) (sym (g.others b n m)) (record { past = k.past; was_made = omega (arith, lt); place = k.place; joined = k.joined; source = k.source }))

  -- what is apart was apart, and is what it was
  pub apart_was : (b : ℕ) → (block_at new b).apart ≡ true → ((block_at old b).apart ≡ true) × (block_at new b ≡ block_at old b)
  apart_was = three_cases (λ b. (block_at new b).apart ≡ true → ((block_at old b).apart ≡ true) × (block_at new b ≡ block_at old b))
      (λ e. let no : true ≡ false = sym e ∙ next_joined in absurd cc)
      (λ e. let no : true ≡ false = sym e ∙ g.top.same.apart ∙ sound.super_at.joined in absurd cc)
      (λ b n m e. (sym (ap (λ (z : PlainBlock). z.apart) (g.others b n m)) ∙ e, g.others b n m))

  was_first : (b : ℕ) → IsFirst (block_at new b) → IsFirst (block_at old b) × (block_at new b ≡ block_at old b)
  was_first b f = let h = apart_was b f.0 in ((h.0, sym (ap (λ (z : PlainBlock). z.origin) h.1) ∙ f.1), h.1)

  numbered : (b : ℕ) → 1 < b → b < made + 1 → (1 < (block_at new b).source) × ((block_at new b).source < made + 1)
  numbered b past lt = ⊎_elim
      (λ e. let two : (block_at new b).source ≡ 2 = ap (λ y. (block_at new y).source) e ∙ next_source in (omega (arith, two), omega (arith, two, three)))
      (λ ne.
      let k = sound.sources.numbered b past (omega (arith, lt, ne)) in
      let small = k.1 in
      subst (λ n. (1 < n) × (n < made + 1)) (sym (was b (omega (arith, lt, ne))).source) (k.0, omega (arith, small)))
      (cases_eq b made)

  steads : (b : ℕ) → (block_at new b).apart ≡ true → (block_at new b).origin ≢ 0 → IsStead (made + 1) (block_at new b) (block_at new (block_at new b).origin)
  steads b is some =
      let h = apart_was b is in
      let k = sound.sources.steads b h.0 (λ e. some (ap (λ (z : PlainBlock). z.origin) h.1 ∙ e)) in
      let lt = k.was_made in
      let w = was (block_at old b).origin lt in
      subst (λ (z : PlainBlock). IsStead (made + 1) z (block_at new z.origin)) (sym h.1) (record { was_made = omega (arith, lt); joined = w.apart ∙ k.joined; source = w.source ∙ k.source })

  pub begun_sound : Sound new (made + 1) (high + 1) made
  begun_sound = record {
    super_at = record {
      place = g.top.same.place ∙ sound.super_at.place;
      way = ap (leads_to made) g.top.way ∙ same_number made;
      joined = g.top.same.apart ∙ sound.super_at.joined;
      source = g.top.same.source ∙ sound.super_at.source;
      ends = ap (λ (h : Home). h.hangs) g.top.same.home ∙ sound.super_at.ends;
      others = λ j c ne e. sound.super_at.others j c ne (ap target (sym (g.top.slots j ne)) ∙ e);
    };
    root_kept = (g.next.kept ∙ sound.root_kept.0, g.next.epoch);
    links = links;
    spelled = three_cases (λ a. 1 < a → IsSpelled (block_at new a)) (λ _. next_spelled) (λ lt. absurd (omega (arith, lt))) (λ a n m past. subst IsSpelled (sym (g.others a n m)) (sound.spelled a past));
    aged = λ b lt. ⊎_elim
        (λ e. let is : (block_at new b).epoch ≡ high + 1 = ap (λ y. (block_at new y).epoch) e ∙ g.next.epoch in omega (arith, is))
        (λ ne. let is = (was b (omega (arith, lt, ne))).epoch in let le = sound.aged b (omega (arith, lt, ne)) in omega (arith, is, le))
        (cases_eq b made);
    tops = tops;
    rest = λ b le. subst IsUnmade (sym (g.others b (λ e. omega (arith, le, e)) (λ e. omega (arith, le, e, three)))) (sound.rest b (omega (arith, le)));
    sources = record {
      apart = λ b e. let k = sound.sources.apart b (apart_was b e).0 in let lt = k.1 in (k.0, omega (arith, lt));
      numbered = numbered;
      free = λ b f.
          let w = was_first b f in
          let k = sound.sources.apart b w.0.0 in
          ap (λ (h : Home). h.hangs) (home_below b k.0 k.1) ∙ sound.sources.free b w.0;
      one = λ b c f h e.
          let v = was_first b f in
          let w = was_first c h in
          sound.sources.one b c v.0 w.0 (sym (ap (λ (z : PlainBlock). z.source) v.1) ∙ e ∙ ap (λ (z : PlainBlock). z.source) w.1);
      steads = steads;
    };
  }

  used_was : (b k : ℕ) → b < made → is_active (slot_of (block_at old b) (2 * k)) ≡ true → is_active (slot_of (block_at new b) (2 * k)) ≡ true
  used_was b k lt used = ⊎_elim
      (λ e. ⊎_elim
      (λ zero_is. absurd (leads_unused root (slot_of (block_at old 1) 0) sound.super_at.way (ap (λ j. is_active (slot_of (block_at old 1) j)) (sym zero_is) ∙ ap (λ y. is_active (slot_of (block_at old y) (2 * k))) (sym e) ∙ used)))
      (λ ne. ap (λ y. is_active (slot_of (block_at new y) (2 * k))) e ∙ ap is_active (g.top.slots (2 * k) ne) ∙ ap (λ y. is_active (slot_of (block_at old y) (2 * k))) (sym e) ∙ used)
      (cases_eq (2 * k) 0))
      (λ ne. ap (λ (z : PlainBlock). is_active (slot_of z (2 * k))) (g.others b (λ e. omega (arith, lt, e)) ne) ∙ used)
      (cases_eq b 1)

  kind_was : (b : ℕ) → b < made → (block_at new b).place.kind ≡ (block_at old b).place.kind
  kind_was b lt = ⊎_elim
      (λ e. ap (λ y. (block_at new y).place.kind) e ∙ ap (λ (p : Place). p.kind) g.top.same.place ∙ ap (λ y. (block_at old y).place.kind) (sym e))
      (λ ne. ap (λ (z : PlainBlock). z.place.kind) (g.others b (λ e. omega (arith, lt, e)) ne))
      (cases_eq b 1)

  pub begun_well : Well new (made + 1) (high + 1) made waits queued
  begun_well = record {
    sound = begun_sound;
    formed = three_cases (λ b. 1 < b → b < made + 1 → ∥ IsFormed (block_at new b).place.kind (block_at new b).place.rank (block_at new b).bytes ∥₁)
        (λ _ _. subst (λ (p : Place). ∥ IsFormed p.kind p.rank (block_at new made).bytes ∥₁) (sym g.next.place) (subst (λ x. ∥ IsFormed (block_at old root).place.kind (block_at old root).place.rank x ∥₁) (sym g.next.bytes) (well.formed root root_kept.past root_kept.was_made)))
        (λ lt _. absurd (omega (arith, lt)))
        (λ b n m past lt. subst (λ (z : PlainBlock). ∥ IsFormed z.place.kind z.place.rank z.bytes ∥₁) (sym (g.others b n m)) (well.formed b past (omega (arith, lt, n))));
    waiting = λ n k lt is.
        let w = well.waiting n k lt is in
        let small = w.was_made in
        record { was_made = omega (arith, small); entries = kind_was (wait_at waits n).on small ∙ w.entries; used = used_was (wait_at waits n).on k small w.used };
    queue = λ none. three_cases (λ b. ((block_at new b).taken ≡ false) × ((block_at new b).retired ≡ false))
        (g.next.taken, g.next.retired)
        (g.top.taken ∙ (well.queue none 1).0, g.top.retired ∙ (well.queue none 1).1)
        (λ b n m. (ap (λ (z : PlainBlock). z.taken) (g.others b n m) ∙ (well.queue none b).0, ap (λ (z : PlainBlock). z.retired) (g.others b n m) ∙ (well.queue none b).1));
  }
