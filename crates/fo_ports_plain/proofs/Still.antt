-- What is kept of blocks stays true where bytes are put, a slot comes to lead nowhere, or a mark is made.
use Rattle.std.proofs.Common.{◌≡◌, ◌≢◌, ◌⊎◌, inl, inr, ⊎_elim, ℕ, ◌*◌, ◌<◌, ◌≤◌, true, false, cond, nat_eq, List, set, get_or-set_other, refl, sym, ◌∙◌, ap, subst, arith}
use Rattle.std.proofs.lemmas.Bool.{cases_eq}
use Rattle.std.proofs.lemmas.Grind.{common_steps}
use Rattle.fo_image.specs.declared.types.Pointer.{Pointer}
use Rattle.fo_image.specs.declared.types.Pointer.TheVariants.{Nil, Local, Score as Held}
use Rattle.fo_crash.specs.declared.slot.Slot.{Slot}
use Rattle.fo_crash.specs.declared.slot.Slot.TheVariants.{Pointer as To}
use Rattle.fo_crash.specs.declared.place.Place.{Place}
use Rattle.fo_crash.specs.Images.{target}
use Rattle.fo_crash.specs.Places.{place_below}
use Rattle.fo_ports.specs.Blocks.{IsInner, IsFormed, slot_count, SlotFits}
use Rattle.fo_ports_plain.specs.declared.home.Home.{Home}
use Rattle.fo_ports_plain.specs.declared.block.PlainBlock.{PlainBlock}
use Rattle.fo_ports_plain.specs.declared.wait.Wait.{Wait}
use Rattle.fo_ports_plain.specs.Plain.{block_at, slot_of, index_in, is_active, wait_at, IsMade, Updates}
use Rattle.fo_ports_plain.specs.Sound.{HangsAt, Linked, IsSpelled, IsFirst, Sound, Formed, Waiting, Well, home_of, leads_to}
use Rattle.fo_ports_plain.specs.Moves.{KeepsUse, Takes, elsewhere}
use Rattle.fo_ports_plain.proofs.Lists.{part_kept}

-- all of two blocks that sources and places are made of
pub record Alike (x y : PlainBlock) : Type 0 where
  pub place : x.place ≡ y.place
  pub epoch : x.epoch ≡ y.epoch
  pub apart : x.apart ≡ y.apart
  pub origin : x.origin ≡ y.origin
  pub source : x.source ≡ y.source
  pub home : x.home ≡ y.home
  pub kept : x.kept ≡ y.kept

pub alike : (x : PlainBlock) → Alike x x
alike x = record { place = refl; epoch = refl; apart = refl; origin = refl; source = refl; home = refl; kept = refl }

-- a link between blocks that are alike
pub moved : {made a i b : ℕ} {u v x y : PlainBlock} {h k : Home} → Alike x u → Alike y v → k ≡ h → slot_of x i ≡ slot_of u i → Linked made a i b u v h → Linked made a i b x y k
moved {made} {a} {i} {b} {u} {v} {x} {y} {h} {k} p q home slot l =
    let falls = l.falls in
    let rx : x.place.rank ≡ u.place.rank = ap (λ (z : Place). z.rank) p.place in
    let ry : y.place.rank ≡ v.place.rank = ap (λ (z : Place). z.rank) q.place in
    record {
      past = l.past;
      was_made = l.was_made;
      few = subst (λ (z : Place). i < slot_count z.kind) (sym p.place) l.few;
      place = q.place ∙ l.place ∙ ap (λ (z : Place). place_below z i (slot_of u i)) (sym p.place) ∙ ap (λ (t : Slot). place_below x.place i t) (sym slot);
      falls = omega (arith, falls, rx, ry);
      joined = q.apart ∙ l.joined;
      source = record {
        inner = λ inner. q.source ∙ l.source.inner (subst (λ (z : Place). IsInner z.kind) p.place inner) ∙ sym p.source;
        outer = λ outer.
            let w = l.source.outer (λ inner. outer (subst (λ (z : Place). IsInner z.kind) (sym p.place) inner)) in
            subst (λ z. HangsAt z x.source (index_in x.place) i) (sym home) (subst (λ z. HangsAt h z (index_in x.place) i) (sym p.source) (subst (λ z. HangsAt h u.source (index_in z) i) (sym p.place) w));
      };
      ages = λ ne. let le = l.ages ne in let ea = p.epoch in let eb = q.epoch in omega (arith, le, ea, eb);
    }

pub record Still (made : ℕ) (old new : List PlainBlock) : Type 0 where
  pub same : (b : ℕ) → Alike (block_at new b) (block_at old b)
  pub slots : (a j x : ℕ) → target (slot_of (block_at new a) j) ≡ Local x → slot_of (block_at new a) j ≡ slot_of (block_at old a) j
  pub way : slot_of (block_at new 1) 0 ≡ slot_of (block_at old 1) 0
  pub spelled : (a : ℕ) → 1 < a → IsSpelled (block_at new a)
  pub rest : (b : ℕ) → made ≤ b → ((block_at new b).taken ≡ (block_at old b).taken) × ((j : ℕ) → slot_of (block_at new b) j ≡ slot_of (block_at old b) j)
  pub retired : (b : ℕ) → made ≤ b → (block_at new b).retired ≡ (block_at old b).retired

pub still_sound : {old new : List PlainBlock} {made high root : ℕ} → Still made old new → Sound old made high root → Sound new made high root
still_sound {old} {new} {made} {high} {root} still sound = record {
  super_at = record {
    place = (still.same 1).place ∙ sound.super_at.place;
    way = ap (λ t. leads_to root t) still.way ∙ sound.super_at.way;
    joined = (still.same 1).apart ∙ sound.super_at.joined;
    source = (still.same 1).source ∙ sound.super_at.source;
    ends = ap (λ (h : Home). h.hangs) (still.same 1).home ∙ sound.super_at.ends;
    others = λ j c ne e. sound.super_at.others j c ne (ap target (sym (still.slots 1 j c e)) ∙ e);
  };
  root_kept = ((still.same root).kept ∙ sound.root_kept.0, (still.same root).epoch ∙ sound.root_kept.1);
  links = λ a j b e.
      let slot = still.slots a j b e in
      moved (still.same a) (still.same b) (home b) slot (sound.links a j b (ap target (sym slot) ∙ e));
  spelled = still.spelled;
  aged = λ b lt. subst (λ n. n ≤ high) (sym (still.same b).epoch) (sound.aged b lt);
  tops = λ b e.
      let k = sound.tops b (sym (still.same b).kept ∙ e) in
      record { past = k.past; was_made = k.was_made; place = (still.same b).place ∙ k.place; joined = (still.same b).apart ∙ k.joined; source = (still.same b).source ∙ k.source };
  rest = λ b le.
      let k = sound.rest b le in
      record {
        joined = (still.same b).apart ∙ k.joined;
        stays = (still.rest b le).0 ∙ k.stays;
        goes_on = still.retired b le ∙ k.goes_on;
        loses = (still.same b).kept ∙ k.loses;
        ends = ap (λ (h : Home). h.hangs) (still.same b).home ∙ k.ends;
        unused = λ j. ap is_active ((still.rest b le).1 j) ∙ k.unused j;
      };
  sources = record {
    apart = λ b is. sound.sources.apart b (sym (still.same b).apart ∙ is);
    numbered = λ b past lt. subst (λ n. (1 < n) × (n < made)) (sym (still.same b).source) (sound.sources.numbered b past lt);
    free = λ b f. ap (λ (h : Home). h.hangs) (home b) ∙ sound.sources.free b (first b f);
    one = λ b c f g e. sound.sources.one b c (first b f) (first c g) (sym (still.same b).source ∙ e ∙ (still.same c).source);
    steads = λ b is some.
        let k = sound.sources.steads b (sym (still.same b).apart ∙ is) (λ e. some ((still.same b).origin ∙ e)) in
        let x = (still.same b).origin in
        record {
          was_made = subst (λ n. n < made) (sym x) k.was_made;
          joined = ap (λ n. (block_at new n).apart) x ∙ (still.same (block_at old b).origin).apart ∙ k.joined;
          source = ap (λ n. (block_at new n).source) x ∙ (still.same (block_at old b).origin).source ∙ k.source ∙ sym (still.same b).source;
        };
  };
}
  where
    home : (b : ℕ) → home_of new (block_at new b).source ≡ home_of old (block_at old b).source
    home b = ap (λ n. home_of new n) (still.same b).source ∙ (still.same (block_at old b).source).home

    first : (b : ℕ) → IsFirst (block_at new b) → IsFirst (block_at old b)
    first b f = (sym (still.same b).apart ∙ f.0, sym (still.same b).origin ∙ f.1)

-- one block is another that is alike
pub alike_by : {old new : List PlainBlock} {at : ℕ} {x : PlainBlock} → Updates at x old new → Alike x (block_at old at) → (b : ℕ) → Alike (block_at new b) (block_at old b)
alike_by {old} {new} {at} {x} up same b = ⊎_elim
    (λ e. subst (λ z. Alike (block_at new z) (block_at old z)) (sym e) (subst (λ z. Alike z (block_at old at)) (sym up.here) same))
    (λ ne. subst (λ z. Alike z (block_at old b)) (sym (up.others b ne)) (alike (block_at old b)))
    (cases_eq b at)

-- the same slots under the same kind
pub spelled_same : (x y : PlainBlock) → y.place ≡ x.place → ((i : ℕ) → slot_of y i ≡ slot_of x i) → IsSpelled x → IsSpelled y
spelled_same x y place slots spelled i lt =
    let kind = ap (λ (p : Place). p.kind) place in
    subst (λ k. SlotFits k i (slot_of y i)) (sym kind) (subst (λ s. SlotFits x.place.kind i s) (sym (slots i)) (spelled i (subst (λ k. i < slot_count k) kind lt)))

-- Where slots stay, blocks that are alike keep all.
pub slots_still : {old new : List PlainBlock} {made high root : ℕ} → ((b : ℕ) → Alike (block_at new b) (block_at old b)) → ((b j : ℕ) → slot_of (block_at new b) j ≡ slot_of (block_at old b) j) → ((b : ℕ) → made ≤ b → (block_at new b).taken ≡ (block_at old b).taken) → ((b : ℕ) → made ≤ b → (block_at new b).retired ≡ (block_at old b).retired) → Sound old made high root → Still made old new
slots_still {old} {new} same slots taken retired sound = record {
  same = same;
  slots = λ a j x e. slots a j;
  way = slots 1 0;
  spelled = λ a past. spelled_same (block_at old a) (block_at new a) (same a).place (slots a) (sound.spelled a past);
  rest = λ b le. (taken b le, slots b);
  retired = retired;
}

-- Bytes of a block are put that are of its format.
pub bytes_well : {old new : List PlainBlock} {made high root queued at : ℕ} {waits : List Wait} {bytes : List ℕ} → Updates at (record (block_at old at) { bytes = bytes }) old new → IsFormed (block_at old at).place.kind (block_at old at).place.rank bytes → Well old made high root waits queued → Well new made high root waits queued
bytes_well {old} {new} {made} {high} {root} {queued} {at} {waits} {bytes} up formed well = record {
  sound = still_sound (slots_still same slots (λ b le. taken b) (λ b le. retired b) well.sound) well.sound;
  formed = λ b past lt. ⊎_elim
      (λ e. subst (λ z. ∥ IsFormed (block_at new z).place.kind (block_at new z).place.rank (block_at new z).bytes ∥₁) (sym e) (subst (λ (z : PlainBlock). ∥ IsFormed z.place.kind z.place.rank z.bytes ∥₁) (sym up.here) ∣ formed ∣₁))
      (λ ne. subst (λ (z : PlainBlock). ∥ IsFormed z.place.kind z.place.rank z.bytes ∥₁) (sym (up.others b ne)) (well.formed b past lt))
      (cases_eq b at);
  waiting = λ n k lt is. let w = well.waiting n k lt is in record { was_made = w.was_made; entries = ap (λ (p : Place). p.kind) (same (wait_at waits n).on).place ∙ w.entries; used = ap is_active (slots (wait_at waits n).on (2 * k)) ∙ w.used };
  queue = λ none b. (taken b ∙ (well.queue none b).0, retired b ∙ (well.queue none b).1);
}
  where
    same : (b : ℕ) → Alike (block_at new b) (block_at old b)
    same = alike_by up (record { place = refl; epoch = refl; apart = refl; origin = refl; source = refl; home = refl; kept = refl })

    slots : (b j : ℕ) → slot_of (block_at new b) j ≡ slot_of (block_at old b) j
    slots b j = part_kept (λ (z : PlainBlock). slot_of z j) up refl b

    taken : (b : ℕ) → (block_at new b).taken ≡ (block_at old b).taken
    taken b = part_kept (λ (z : PlainBlock). z.taken) up refl b

    retired : (b : ℕ) → (block_at new b).retired ≡ (block_at old b).retired
    retired b = part_kept (λ (z : PlainBlock). z.retired) up refl b

-- A slot of a block comes to lead nowhere.
pub slot_well : {old new : List PlainBlock} {made high root queued at i : ℕ} {waits : List Wait} (s : Slot) → Updates at (record (block_at old at) { slots = set ((block_at old at).slots) i s }) old new → slot_of (block_at new at) i ≡ s → IsMade made at → ((b : ℕ) → target s ≢ Local b) → SlotFits (block_at old at).place.kind i s → KeepsUse waits at i s → Well old made high root waits queued → Well new made high root waits queued
slot_well {old} {new} {made} {high} {root} {queued} {at} {i} {waits} s up here is_made nowhere fits use_kept well = record {
  sound = still_sound still well.sound;
  formed = λ b past lt. subst (λ (z : Place). ∥ IsFormed z.kind z.rank (block_at new b).bytes ∥₁) (sym (same b).place) (subst (λ z. ∥ IsFormed (block_at old b).place.kind (block_at old b).place.rank z ∥₁) (sym (part_kept (λ (z : PlainBlock). z.bytes) up refl b)) (well.formed b past lt));
  waiting = λ n k lt is.
      let w = well.waiting n k lt is in
      record {
        was_made = w.was_made;
        entries = ap (λ (p : Place). p.kind) (same (wait_at waits n).on).place ∙ w.entries;
        used = ⊎_elim
            (λ on_is. ⊎_elim
            (λ i_is. ap is_active (ap (λ x. slot_of (block_at new x) (2 * k)) on_is ∙ ap (λ x. slot_of (block_at new at) x) (sym i_is) ∙ here) ∙ use_kept.each n k lt on_is i_is is)
            (λ ne. ap is_active (other (wait_at waits n).on (2 * k) (inr (λ e. ne (sym e)))) ∙ w.used)
            (cases_eq i (2 * k)))
            (λ ne. ap is_active (other (wait_at waits n).on (2 * k) (inl ne)) ∙ w.used)
            (cases_eq (wait_at waits n).on at);
      };
  queue = λ none b. (taken b ∙ (well.queue none b).0, retired b ∙ (well.queue none b).1);
}
  where
    same : (b : ℕ) → Alike (block_at new b) (block_at old b)
    same = alike_by up (record { place = refl; epoch = refl; apart = refl; origin = refl; source = refl; home = refl; kept = refl })

    taken : (b : ℕ) → (block_at new b).taken ≡ (block_at old b).taken
    taken b = part_kept (λ (z : PlainBlock). z.taken) up refl b

    retired : (b : ℕ) → (block_at new b).retired ≡ (block_at old b).retired
    retired b = part_kept (λ (z : PlainBlock). z.retired) up refl b

    other : (b j : ℕ) → (b ≢ at) ⊎ (j ≢ i) → slot_of (block_at new b) j ≡ slot_of (block_at old b) j
    other b j h = ⊎_elim
        (λ e. ap (λ c. slot_of (block_at new c) j) e ∙ ap (λ (z : PlainBlock). slot_of z j) up.here
        ∙ get_or-set_other ((block_at old at).slots) i j s (To Nil) (⊎_elim (λ na. absurd (na e)) (λ nj. nj) h)
        ∙ ap (λ c. slot_of (block_at old c) j) (sym e))
        (λ ne. ap (λ (z : PlainBlock). slot_of z j) (up.others b ne))
        (cases_eq b at)

    still : Still made old new
    still = record {
      same = same;
      slots = λ a j x e. ⊎_elim
          (λ a_is. ⊎_elim
          (λ j_is. absurd (nowhere x (ap target (sym here) ∙ ap (λ y. target (slot_of (block_at new y) i)) (sym a_is) ∙ ap (λ y. target (slot_of (block_at new a) y)) (sym j_is) ∙ e)))
          (λ ne. other a j (inr ne))
          (cases_eq j i))
          (λ ne. other a j (inl ne))
          (cases_eq a at);
      way = other 1 0 (inl (λ e. let past : 1 < at = is_made.0 in omega (arith, past, e)));
      spelled = λ a past j lt.
          let kind = ap (λ (p : Place). p.kind) (same a).place in
          subst (λ k. SlotFits k j (slot_of (block_at new a) j)) (sym kind) (⊎_elim
          (λ a_is. ⊎_elim
          (λ j_is. subst (λ x. SlotFits (block_at old x).place.kind j (slot_of (block_at new x) j)) (sym a_is) (subst (λ x. SlotFits (block_at old at).place.kind x (slot_of (block_at new at) x)) (sym j_is) (subst (λ t. SlotFits (block_at old at).place.kind i t) (sym here) fits)))
          (λ ne. subst (λ t. SlotFits (block_at old a).place.kind j t) (sym (other a j (inr ne))) (well.sound.spelled a past j (subst (λ k. j < slot_count k) kind lt)))
          (cases_eq j i))
          (λ ne. subst (λ t. SlotFits (block_at old a).place.kind j t) (sym (other a j (inl ne))) (well.sound.spelled a past j (subst (λ k. j < slot_count k) kind lt)))
          (cases_eq a at));
      rest = λ b le. (taken b, λ j. other b j (inl (λ e. let lt : at < made = is_made.1 in omega (arith, lt, le, e))));
      retired = λ b le. retired b;
    }

-- A block that was made is marked.
pub taken_sound : {old new : List PlainBlock} {made high root x : ℕ} → x < made → Updates x (record (block_at old x) { taken = true }) old new → Sound old made high root → Sound new made high root
taken_sound {old} {new} {made} {high} {root} {x} lt up sound = still_sound (slots_still
    (alike_by up (record { place = refl; epoch = refl; apart = refl; origin = refl; source = refl; home = refl; kept = refl }))
    (λ b j. part_kept (λ (z : PlainBlock). slot_of z j) up refl b)
    (λ b le. ap (λ (z : PlainBlock). z.taken) (up.others b (λ e. omega (arith, lt, le, e))))
    (λ b le. part_kept (λ (z : PlainBlock). z.retired) up refl b)
    sound) sound

pub taken_formed : {old new : List PlainBlock} {made x : ℕ} → Updates x (record (block_at old x) { taken = true }) old new → Formed old made → Formed new made
taken_formed {old} {new} {made} {x} up formed b past lt =
    subst (λ (z : Place). ∥ IsFormed z.kind z.rank (block_at new b).bytes ∥₁) (sym (part_kept (λ (z : PlainBlock). z.place) up refl b))
    (subst (λ z. ∥ IsFormed (block_at old b).place.kind (block_at old b).place.rank z ∥₁) (sym (part_kept (λ (z : PlainBlock). z.bytes) up refl b)) (formed b past lt))

pub taken_waiting : {old new : List PlainBlock} {made x : ℕ} (waits : List Wait) → Updates x (record (block_at old x) { taken = true }) old new → Waiting old made waits → Waiting new made waits
taken_waiting {old} {new} {made} {x} waits up waiting n k lt is =
    let w = waiting n k lt is in
    record { was_made = w.was_made; entries = part_kept (λ (z : PlainBlock). z.place.kind) up refl (wait_at waits n).on ∙ w.entries; used = ap is_active (part_kept (λ (z : PlainBlock). slot_of z (2 * k)) up refl (wait_at waits n).on) ∙ w.used }

-- One block more is marked.
pub one_taken : {old new : List PlainBlock} {x : ℕ} {before s : Slot} → Updates x (record (block_at old x) { taken = true }) old new → target before ≡ Local x → target s ≢ target before → Takes before s old new
one_taken {old} {new} {x} {before} {s} up leads other = record {
  as_long = up.as_long;
  same = λ b. ⊎_elim
      (λ e. subst (λ z. block_at new z ≡ record (block_at old z) { taken = (block_at new z).taken }) (sym e) (up.here ∙ ap (λ t. record (block_at old x) { taken = t }) (sym here)))
      (λ ne. up.others b ne ∙ ap (λ t. record (block_at old b) { taken = t }) (sym (ap (λ (z : PlainBlock). z.taken) (up.others b ne))))
      (cases_eq b x);
  taken = λ y to ne. let both : Local x ≡ Local y = sym leads ∙ to in ap (λ z. (block_at new z).taken) (let is : y ≡ x = cc in is) ∙ here;
  still = λ b was. ⊎_elim
      (λ e. ap (λ z. (block_at new z).taken) e ∙ here)
      (λ ne. ap (λ (z : PlainBlock). z.taken) (up.others b ne) ∙ was)
      (cases_eq b x);
  only = λ b is. ⊎_elim
      (λ e. inr (leads ∙ ap Local (sym e), other))
      (λ ne. inl (sym (ap (λ (z : PlainBlock). z.taken) (up.others b ne)) ∙ is))
      (cases_eq b x);
}
  where
    here : (block_at new x).taken ≡ true
    here = ap (λ (z : PlainBlock). z.taken) up.here

pub none_taken : {old : List PlainBlock} {before s : Slot} → ((x : ℕ) → target before ≡ Local x → target s ≢ target before → ⊥) → Takes before s old old
none_taken {old} {before} {s} none = record { as_long = refl; same = λ b. refl; taken = λ x to ne. absurd (none x to ne); still = λ b was. was; only = λ b is. inl is }

pub goes_elsewhere : (x : ℕ) (p : Pointer) → elsewhere x p ≡ true → p ≢ Local x
goes_elsewhere x Nil h e = cc
goes_elsewhere x (Held score) h e = cc
goes_elsewhere x (Local y) h e =
    let is : y ≡ x = cc in
    let test : nat_eq y x ≡ true = grind (arith, common_steps) in
    let no : false ≡ true = ap (λ t. cond t false true) (sym test) ∙ h in
    cc
