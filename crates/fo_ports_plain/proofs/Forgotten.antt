-- The root block of a snapshot is kept no more.
use Rattle.std.proofs.Common.{◌≡◌, ◌≢◌, inl, inr, ⊎_elim, ℕ, ◌*◌, ◌<◌, ◌≤◌, Bool, true, false, List, refl, sym, ◌∙◌, ap, subst, arith}
use Rattle.std.proofs.lemmas.Bool.{cases_eq}
use Rattle.fo_crash.specs.Images.{target}
use Rattle.fo_ports.specs.Blocks.{IsFormed}
use Rattle.fo_ports_plain.specs.declared.home.Home.{Home}
use Rattle.fo_ports_plain.specs.declared.block.PlainBlock.{PlainBlock}
use Rattle.fo_ports_plain.specs.declared.wait.Wait.{Wait}
use Rattle.fo_ports_plain.specs.Plain.{block_at, slot_of, is_active, wait_at, Updates}
use Rattle.fo_ports_plain.specs.Sound.{Linked, IsFirst, IsSpelled, IsSuper, Sound, Sources, Well, home_of}
use Rattle.fo_ports_plain.specs.Epochs.{Forgets}
use Rattle.fo_ports_plain.specs.Meaning.{Plain, state_of}
use Rattle.fo_ports_plain.proofs.Lists.{part_kept}
use Rattle.fo_ports_plain.proofs.Frames.{label_same}

never_both : {x : Bool} → x ≡ true → x ≡ false → ⊥
never_both {x} t f = let both : true ≡ false = sym t ∙ f in cc

-- a link doesn't look at what is kept
linked_still : {made a i b : ℕ} {u v : PlainBlock} {h : Home} (s t : Bool) → Linked made a i b u v h → Linked made a i b (record u { kept = s }) (record v { kept = t }) h
linked_still s t l = record { past = l.past; was_made = l.was_made; few = l.few; place = l.place; falls = l.falls; joined = l.joined; source = record { inner = l.source.inner; outer = l.source.outer }; ages = l.ages }

module _ {old new : List PlainBlock} {at : ℕ} (up : Updates at (record (block_at old at) { kept = false }) old new) where
  same : (b : ℕ) → block_at new b ≡ record (block_at old b) { kept = (block_at new b).kept }
  same b = ⊎_elim
      (λ e. subst (λ z. block_at new z ≡ record (block_at old z) { kept = (block_at new z).kept }) (sym e) (up.here ∙ ap (λ k. record (block_at old at) { kept = k }) (sym lost)))
      (λ ne. up.others b ne ∙ ap (λ k. record (block_at old b) { kept = k }) (sym (ap (λ (z : PlainBlock). z.kept) (up.others b ne))))
      (cases_eq b at)
    where
      lost : (block_at new at).kept ≡ false
      lost = ap (λ (z : PlainBlock). z.kept) up.here

  lost : (block_at new at).kept ≡ false
  lost = ap (λ (z : PlainBlock). z.kept) up.here

  -- what is kept still was, and is another
  pub was_kept : (b : ℕ) → (block_at new b).kept ≡ true → (b ≢ at) × ((block_at old b).kept ≡ true)
  was_kept b is = (
    λ e. never_both is (ap (λ x. (block_at new x).kept) e ∙ lost),
    ⊎_elim
        (λ e. absurd (never_both is (ap (λ x. (block_at new x).kept) e ∙ lost)))
        (λ ne. sym (ap (λ (z : PlainBlock). z.kept) (up.others b ne)) ∙ is)
        (cases_eq b at),
  )

  home : (s : ℕ) → home_of new s ≡ home_of old s
  home s = ap (λ (z : PlainBlock). z.home) (same s)

  links : {made : ℕ} (a i b : ℕ) → Linked made a i b (block_at old a) (block_at old b) (home_of old (block_at old b).source) → Linked made a i b (block_at new a) (block_at new b) (home_of new (block_at new b).source)
  links {made} a i b l =
      subst (λ z. Linked made a i b z (block_at new b) (home_of new (block_at new b).source)) (sym (same a))
      (subst (λ (z : PlainBlock). Linked made a i b (record (block_at old a) { kept = (block_at new a).kept }) z (home_of new z.source)) (sym (same b))
      (subst (λ h. Linked made a i b (record (block_at old a) { kept = (block_at new a).kept }) (record (block_at old b) { kept = (block_at new b).kept }) h) (sym (home (block_at old b).source))
      (linked_still (block_at new a).kept (block_at new b).kept l)))

  source : (b : ℕ) → (block_at new b).source ≡ (block_at old b).source
  source b = ap (λ (z : PlainBlock). z.source) (same b)

  first : (b : ℕ) → IsFirst (block_at new b) → IsFirst (block_at old b)
  first b f = (sym (ap (λ (z : PlainBlock). z.apart) (same b)) ∙ f.0, sym (ap (λ (z : PlainBlock). z.origin) (same b)) ∙ f.1)

  sources : {made : ℕ} → Sources old made → Sources new made
  sources {made} s = record {
    apart = λ b is. s.apart b (sym (ap (λ (z : PlainBlock). z.apart) (same b)) ∙ is);
    numbered = λ b past lt. subst (λ n. (1 < n) × (n < made)) (sym (source b)) (s.numbered b past lt);
    free = λ b f. ap (λ n. (home_of new n).hangs) (source b) ∙ ap (λ (h : Home). h.hangs) (home (block_at old b).source) ∙ s.free b (first b f);
    one = λ b c f g e. s.one b c (first b f) (first c g) (sym (source b) ∙ e ∙ source c);
    steads = λ b is some.
        let origin = ap (λ (z : PlainBlock). z.origin) (same b) in
        let k = s.steads b (sym (ap (λ (z : PlainBlock). z.apart) (same b)) ∙ is) (λ e. some (origin ∙ e)) in
        record {
          was_made = subst (λ n. n < made) (sym origin) k.was_made;
          joined = ap (λ n. (block_at new n).apart) origin ∙ ap (λ (z : PlainBlock). z.apart) (same (block_at old b).origin) ∙ k.joined;
          source = ap (λ n. (block_at new n).source) origin ∙ source (block_at old b).origin ∙ k.source ∙ sym (source b);
        };
  }

  forgot_sound : {made high root : ℕ} → root ≢ at → Sound old made high root → Sound new made high root
  forgot_sound {made} {high} {root} other sound = record {
    super_at = subst (IsSuper root) (sym (same 1)) (let s = sound.super_at in record { place = s.place; way = s.way; joined = s.joined; source = s.source; ends = s.ends; others = s.others });
    root_kept = (ap (λ (z : PlainBlock). z.kept) (up.others root other) ∙ sound.root_kept.0, ap (λ (z : PlainBlock). z.epoch) (up.others root other) ∙ sound.root_kept.1);
    links = λ a i b e. links a i b (sound.links a i b (ap (λ (z : PlainBlock). target (slot_of z i)) (sym (same a)) ∙ e));
    spelled = λ a past. subst (λ z. IsSpelled z) (sym (same a)) (sound.spelled a past);
    aged = λ b lt. subst (λ n. n ≤ high) (sym (ap (λ (z : PlainBlock). z.epoch) (same b))) (sound.aged b lt);
    tops = λ b e.
        let was = was_kept b e in
        let k = sound.tops b was.1 in
        record { past = k.past; was_made = k.was_made; place = ap (λ (z : PlainBlock). z.place) (same b) ∙ k.place; joined = ap (λ (z : PlainBlock). z.apart) (same b) ∙ k.joined; source = source b ∙ k.source };
    rest = λ b le.
        let k = sound.rest b le in
        record {
          joined = ap (λ (z : PlainBlock). z.apart) (same b) ∙ k.joined;
          stays = ap (λ (z : PlainBlock). z.taken) (same b) ∙ k.stays;
          goes_on = ap (λ (z : PlainBlock). z.retired) (same b) ∙ k.goes_on;
          loses = ⊎_elim (λ e. ap (λ x. (block_at new x).kept) e ∙ lost) (λ ne. ap (λ (z : PlainBlock). z.kept) (up.others b ne) ∙ k.loses) (cases_eq b at);
          ends = ap (λ (h : Home). h.hangs) (home b) ∙ k.ends;
          unused = λ j. ap (λ (z : PlainBlock). is_active (slot_of z j)) (same b) ∙ k.unused j;
        };
    sources = sources sound.sources;
  }

  pub forgot_well : {made high root queued : ℕ} {waits : List Wait} → root ≢ at → Well old made high root waits queued → Well new made high root waits queued
  forgot_well {waits = waits} other well = record {
    sound = forgot_sound other well.sound;
    formed = λ b past lt. subst (λ (z : PlainBlock). ∥ IsFormed z.place.kind z.place.rank z.bytes ∥₁) (sym (same b)) (well.formed b past lt);
    waiting = λ n k lt is.
        let w = well.waiting n k lt is in
        record {
          was_made = w.was_made;
          entries = ap (λ (z : PlainBlock). z.place.kind) (same (wait_at waits n).on) ∙ w.entries;
          used = ap (λ (z : PlainBlock). is_active (slot_of z (2 * k))) (same (wait_at waits n).on) ∙ w.used;
        };
    queue = λ none b. (ap (λ (z : PlainBlock). z.taken) (same b) ∙ (well.queue none b).0, ap (λ (z : PlainBlock). z.retired) (same b) ∙ (well.queue none b).1);
  }

module _ (p : Plain) {new : List PlainBlock} {at : ℕ} (up : Updates at (record (block_at p.blocks at) { kept = false }) p.blocks new) where
  kept : {X : Type 0} (part : PlainBlock → X) → part (record (block_at p.blocks at) { kept = false }) ≡ part (block_at p.blocks at) → (b : ℕ) → part (block_at new b) ≡ part (block_at p.blocks b)
  kept part e = part_kept part up e

  pub forgets : 1 < at → Forgets at (state_of p) (state_of (record p { blocks = new }))
  forgets past = record {
    tops = λ t. (
      λ h. ⊎_elim
          (λ e. (inl e, λ is. omega (arith, past, is, e)))
          (λ is. let was = was_kept up t is in (inr was.1, was.0))
          h,
      λ h. ⊎_elim (λ e. inl e) (λ is. inr (ap (λ (z : PlainBlock). z.kept) (up.others t h.1) ∙ is)) h.0,
    );
    memory = record { each = λ b. record { bytes = kept (λ (z : PlainBlock). z.bytes) refl b; slots = λ j. kept (λ (z : PlainBlock). slot_of z j) refl b } };
    labels = λ b. label_same p.blocks new p.made b (kept (λ (z : PlainBlock). z.place.kind) refl b) (kept (λ (z : PlainBlock). z.place.tag) refl b) (kept (λ (z : PlainBlock). z.epoch) refl b);
    epochs = (refl, refl);
    places = λ b q st. record { above = st.above; was_made = st.was_made; is = kept (λ (z : PlainBlock). z.place) refl b ∙ st.is };
    apart = λ b. (
      (λ h. sym (kept (λ (z : PlainBlock). z.apart) refl b) ∙ h, λ h. kept (λ (z : PlainBlock). z.apart) refl b ∙ h),
      λ x. (
        λ h. record { apart = sym (kept (λ (z : PlainBlock). z.apart) refl b) ∙ h.apart; origin = sym (kept (λ (z : PlainBlock). z.origin) refl b) ∙ h.origin; some = h.some },
        λ h. record { apart = kept (λ (z : PlainBlock). z.apart) refl b ∙ h.apart; origin = kept (λ (z : PlainBlock). z.origin) refl b ∙ h.origin; some = h.some },
      ),
    );
    marks = λ b. ((λ h. (h.0, subst (λ n. b < n) up.as_long h.1), λ h. (h.0, subst (λ n. b < n) (sym up.as_long) h.1)), λ h. h);
    numbers = (refl, refl, refl, refl, refl);
  }
