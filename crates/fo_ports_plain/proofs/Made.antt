-- What is kept of blocks stays true where one more is made.
use Rattle.std.proofs.Common.{◌≡◌, ◌≢◌, ◌⊎◌, inl, inr, ⊎_elim, ℕ, ◌+◌, ◌*◌, ◌<◌, ◌≤◌, true, false, List, refl, sym, ◌∙◌, ap, subst, arith}
use Rattle.std.proofs.lemmas.Bool.{cases_eq}
use Rattle.fo_image.specs.declared.types.Pointer.TheVariants.{Local}
use Rattle.fo_crash.specs.Images.{target}
use Rattle.fo_ports.specs.Blocks.{IsFormed}
use Rattle.fo_ports_plain.specs.declared.home.Home.{Home}
use Rattle.fo_ports_plain.specs.declared.block.PlainBlock.{PlainBlock}
use Rattle.fo_ports_plain.specs.declared.wait.Wait.{Wait}
use Rattle.fo_ports_plain.specs.Plain.{block_at, slot_of, is_active, wait_at, Updates}
use Rattle.fo_ports_plain.specs.Sound.{Linked, Links, IsSpelled, IsSuper, IsKept, IsUnmade, IsFirst, IsStead, Sound, Well, home_of}
use Rattle.fo_ports_plain.proofs.Still.{alike, moved}

-- Where the source of a block that is made is from: it is the first of its own, or comes in the place of a block that is put somewhere.
pub record IsOwn (made : ℕ) (block : PlainBlock) : Type 0 where
  pub origin : block.origin ≡ 0
  pub source : block.source ≡ made

pub record IsCopy (blocks : List PlainBlock) (made : ℕ) (block : PlainBlock) : Type 0 where
  pub some : block.origin ≢ 0
  pub was_made : block.origin < made
  pub joined : (block_at blocks block.origin).apart ≡ false
  pub source : (block_at blocks block.origin).source ≡ block.source
  pub numbered : (1 < block.source) × (block.source < made)

-- A block may be made.
pub record MayMake (blocks : List PlainBlock) (made high : ℕ) (block : PlainBlock) : Type 0 where
  pub links : (i b : ℕ) → target (slot_of block i) ≡ Local b → Linked made made i b block (block_at blocks b) (home_of blocks (block_at blocks b).source)
  pub spelled : IsSpelled block
  pub epoch : block.epoch ≡ high
  pub apart : block.apart ≡ true
  pub taken : block.taken ≡ false
  pub retired : block.retired ≡ false
  pub kept : block.kept ≡ false
  pub home : block.home.hangs ≡ false
  pub source : IsOwn made block ⊎ IsCopy blocks made block
  pub formed : IsFormed block.place.kind block.place.rank block.bytes

module _ {old new : List PlainBlock} {made high root queued : ℕ} {waits : List Wait} {block : PlainBlock} (up : Updates made block old new) (may : MayMake old made high block) (three : 2 < made) (well : Well old made high root waits queued) where
  sound : Sound old made high root
  sound = well.sound

  was : (b : ℕ) → b < made → block_at new b ≡ block_at old b
  was b lt = up.others b (λ e. omega (arith, lt, e))

  -- no source hangs by the number of the block
  home_here : (home_of new made).hangs ≡ false
  home_here = ap (λ (z : PlainBlock). z.home.hangs) up.here ∙ may.home

  home_was : (s : ℕ) → s < made → home_of new s ≡ home_of old s
  home_was s lt = ap (λ (z : PlainBlock). z.home) (was s lt)

  -- a link of before, and one of the block
  grown : (a i b : ℕ) (x : PlainBlock) → block_at new a ≡ x → Linked made a i b x (block_at old b) (home_of old (block_at old b).source) → Linked (made + 1) a i b (block_at new a) (block_at new b) (home_of new (block_at new b).source)
  grown a i b x here l =
      let lt = l.was_made in
      let below = was b lt in
      let number = (sound.sources.numbered b l.past lt).1 in
      let home : home_of new (block_at new b).source ≡ home_of old (block_at old b).source = ap (λ (z : PlainBlock). home_of new z.source) below ∙ home_was (block_at old b).source number in
      let m : Linked (made + 1) a i b x (block_at old b) (home_of old (block_at old b).source) = record { past = l.past; was_made = omega (arith, lt); few = l.few; place = l.place; falls = l.falls; joined = l.joined; source = l.source; ages = l.ages } in
      subst (λ z. Linked (made + 1) a i b z (block_at new b) (home_of new (block_at new b).source)) (sym here)
      (subst (λ z. Linked (made + 1) a i b x z (home_of new (block_at new b).source)) (sym below)
      (subst (λ z. Linked (made + 1) a i b x (block_at old b) z) (sym home) m))

  links : Links new (made + 1)
  links a i b e = ⊎_elim
      (λ is. subst (λ y. Linked (made + 1) y i b (block_at new y) (block_at new b) (home_of new (block_at new b).source)) (sym is)
      (grown made i b block up.here (may.links i b (ap (λ (z : PlainBlock). target (slot_of z i)) (sym up.here) ∙ ap (λ y. target (slot_of (block_at new y) i)) (sym is) ∙ e))))
      (λ ne. grown a i b (block_at old a) (up.others a ne) (sound.links a i b (ap (λ (z : PlainBlock). target (slot_of z i)) (sym (up.others a ne)) ∙ e)))
      (cases_eq a made)

  super_at : IsSuper root (block_at new 1)
  super_at = subst (λ z. IsSuper root z) (sym (was 1 (omega (arith, three)))) sound.super_at

  root_was : block_at new root ≡ block_at old root
  root_was = was root (sound.tops root sound.root_kept.0).was_made

  tops : (b : ℕ) → (block_at new b).kept ≡ true → IsKept (made + 1) b (block_at new b)
  tops b e = ⊎_elim
      (λ is. let no : true ≡ false = sym e ∙ ap (λ y. (block_at new y).kept) is ∙ ap (λ (z : PlainBlock). z.kept) up.here ∙ may.kept in absurd (cc))
      (λ ne.
      let same = up.others b ne in
      let k = sound.tops b (sym (ap (λ (z : PlainBlock). z.kept) same) ∙ e) in
      let lt = k.was_made in
      subst (λ z. IsKept (made + 1) b z) (sym same) (record { past = k.past; was_made = omega (arith, lt); place = k.place; joined = k.joined; source = k.source }))
      (cases_eq b made)

  -- what is apart is the block, or was
  apart_was : (b : ℕ) → (block_at new b).apart ≡ true → (b ≡ made) ⊎ (((block_at old b).apart ≡ true) × (block_at new b ≡ block_at old b))
  apart_was b is = ⊎_elim
      (λ e. inl e)
      (λ ne. inr (sym (ap (λ (z : PlainBlock). z.apart) (up.others b ne)) ∙ is, up.others b ne))
      (cases_eq b made)

  apart : (b : ℕ) → (block_at new b).apart ≡ true → (1 < b) × (b < made + 1)
  apart b is = ⊎_elim
      (λ e. (omega (arith, e, three), omega (arith, e)))
      (λ h. let k = sound.sources.apart b h.0 in let lt = k.1 in (k.0, omega (arith, lt)))
      (apart_was b is)

  source_here : (1 < block.source) × (block.source < made + 1)
  source_here = ⊎_elim
      (λ o. let e = o.source in (omega (arith, e, three), omega (arith, e)))
      (λ c. let lt = c.numbered.1 in (c.numbered.0, omega (arith, lt)))
      may.source

  numbered : (b : ℕ) → 1 < b → b < made + 1 → (1 < (block_at new b).source) × ((block_at new b).source < made + 1)
  numbered b past lt = ⊎_elim
      (λ e. subst (λ y. (1 < (block_at new y).source) × ((block_at new y).source < made + 1)) (sym e) (subst (λ (z : PlainBlock). (1 < z.source) × (z.source < made + 1)) (sym up.here) source_here))
      (λ ne.
      let k = sound.sources.numbered b past (omega (arith, lt, ne)) in
      let small = k.1 in
      subst (λ (z : PlainBlock). (1 < z.source) × (z.source < made + 1)) (sym (up.others b ne)) (k.0, omega (arith, small)))
      (cases_eq b made)

  -- a first block is the block with a source of its own, or was one
  record WasFirst (b : ℕ) : Type 0 where
    first : IsFirst (block_at old b)
    source : (block_at new b).source ≡ (block_at old b).source
    number : (block_at old b).source < made

  first_here : IsFirst (block_at new made) → (block_at new made).source ≡ made
  first_here f = ap (λ (z : PlainBlock). z.source) up.here ∙ ⊎_elim
      (λ o. o.source)
      (λ c. absurd (c.some (sym (ap (λ (z : PlainBlock). z.origin) up.here) ∙ f.1)))
      may.source

  first_was : (b : ℕ) → IsFirst (block_at new b) → ((b ≡ made) × ((block_at new b).source ≡ made)) ⊎ WasFirst b
  first_was b f = ⊎_elim
      (λ e. inl (e, subst (λ y. IsFirst (block_at new y) → (block_at new y).source ≡ made) (sym e) first_here f))
      (λ h.
      let k = sound.sources.apart b h.0 in
      inr (record { first = (h.0, sym (ap (λ (z : PlainBlock). z.origin) h.1) ∙ f.1); source = ap (λ (z : PlainBlock). z.source) h.1; number = (sound.sources.numbered b k.0 k.1).1 }))
      (apart_was b f.0)

  free : (b : ℕ) → IsFirst (block_at new b) → (home_of new (block_at new b).source).hangs ≡ false
  free b f = ⊎_elim
      (λ h. ap (λ y. (home_of new y).hangs) h.1 ∙ home_here)
      (λ w. ap (λ y. (home_of new y).hangs) w.source ∙ ap (λ (h : Home). h.hangs) (home_was (block_at old b).source w.number) ∙ sound.sources.free b w.first)
      (first_was b f)

  one : (b c : ℕ) → IsFirst (block_at new b) → IsFirst (block_at new c) → (block_at new b).source ≡ (block_at new c).source → b ≡ c
  one b c f g e = ⊎_elim
      (λ x. ⊎_elim
      (λ y. x.0 ∙ sym y.0)
      (λ y. let no : (block_at old c).source ≡ made = sym y.source ∙ sym e ∙ x.1 in let lt = y.number in absurd (omega (arith, no, lt)))
      (first_was c g))
      (λ x. ⊎_elim
      (λ y. let no : (block_at old b).source ≡ made = sym x.source ∙ e ∙ y.1 in let lt = x.number in absurd (omega (arith, no, lt)))
      (λ y. sound.sources.one b c x.first y.first (sym x.source ∙ e ∙ y.source))
      (first_was c g))
      (first_was b f)

  stead : (x y : PlainBlock) → x ≡ y → y.origin < made → (block_at old y.origin).apart ≡ false → (block_at old y.origin).source ≡ y.source → IsStead (made + 1) x (block_at new x.origin)
  stead x y e lt joined source = subst (λ z. IsStead (made + 1) z (block_at new z.origin)) (sym e) (record {
    was_made = omega (arith, lt);
    joined = ap (λ (z : PlainBlock). z.apart) (was y.origin lt) ∙ joined;
    source = ap (λ (z : PlainBlock). z.source) (was y.origin lt) ∙ source;
  })

  steads : (b : ℕ) → (block_at new b).apart ≡ true → (block_at new b).origin ≢ 0 → IsStead (made + 1) (block_at new b) (block_at new (block_at new b).origin)
  steads b is some = ⊎_elim
      (λ e. subst (λ y. (block_at new y).origin ≢ 0 → IsStead (made + 1) (block_at new y) (block_at new (block_at new y).origin)) (sym e)
      (λ not_none. ⊎_elim
      (λ o. absurd (not_none (ap (λ (z : PlainBlock). z.origin) up.here ∙ o.origin)))
      (λ c. stead (block_at new made) block up.here c.was_made c.joined c.source)
      may.source) some)
      (λ h.
      let k = sound.sources.steads b h.0 (λ e. some (ap (λ (z : PlainBlock). z.origin) h.1 ∙ e)) in
      stead (block_at new b) (block_at old b) h.1 k.was_made k.joined k.source)
      (apart_was b is)

  pub made_sound : Sound new (made + 1) high root
  made_sound = record {
    super_at = super_at;
    root_kept = (ap (λ (z : PlainBlock). z.kept) root_was ∙ sound.root_kept.0, ap (λ (z : PlainBlock). z.epoch) root_was ∙ sound.root_kept.1);
    links = links;
    spelled = λ a past. ⊎_elim
        (λ e. subst (λ y. IsSpelled (block_at new y)) (sym e) (subst (λ z. IsSpelled z) (sym up.here) may.spelled))
        (λ ne. subst (λ z. IsSpelled z) (sym (up.others a ne)) (sound.spelled a past))
        (cases_eq a made);
    aged = λ b lt. ⊎_elim
        (λ e. let same : (block_at new b).epoch ≡ high = ap (λ y. (block_at new y).epoch) e ∙ ap (λ (z : PlainBlock). z.epoch) up.here ∙ may.epoch in omega (arith, same))
        (λ ne. subst (λ (z : PlainBlock). z.epoch ≤ high) (sym (up.others b ne)) (sound.aged b (omega (arith, lt, ne))))
        (cases_eq b made);
    tops = tops;
    rest = λ b le. subst (λ z. IsUnmade z) (sym (up.others b (λ e. omega (arith, le, e)))) (sound.rest b (omega (arith, le)));
    sources = record { apart = apart; numbered = numbered; free = free; one = one; steads = steads };
  }

  pub made_well : Well new (made + 1) high root waits queued
  made_well = record {
    sound = made_sound;
    formed = λ b past lt. ⊎_elim
        (λ e. subst (λ y. ∥ IsFormed (block_at new y).place.kind (block_at new y).place.rank (block_at new y).bytes ∥₁) (sym e) (subst (λ (z : PlainBlock). ∥ IsFormed z.place.kind z.place.rank z.bytes ∥₁) (sym up.here) ∣ may.formed ∣₁))
        (λ ne. subst (λ (z : PlainBlock). ∥ IsFormed z.place.kind z.place.rank z.bytes ∥₁) (sym (up.others b ne)) (well.formed b past (omega (arith, lt, ne))))
        (cases_eq b made);
    waiting = λ n k lt is.
        let w = well.waiting n k lt is in
        let small = w.was_made in
        record { was_made = omega (arith, small); entries = ap (λ (z : PlainBlock). z.place.kind) (was (wait_at waits n).on small) ∙ w.entries; used = ap (λ (z : PlainBlock). is_active (slot_of z (2 * k))) (was (wait_at waits n).on small) ∙ w.used };
    queue = λ none b. ⊎_elim
        (λ e. (ap (λ y. (block_at new y).taken) e ∙ ap (λ (z : PlainBlock). z.taken) up.here ∙ may.taken, ap (λ y. (block_at new y).retired) e ∙ ap (λ (z : PlainBlock). z.retired) up.here ∙ may.retired))
        (λ ne. (ap (λ (z : PlainBlock). z.taken) (up.others b ne) ∙ (well.queue none b).0, ap (λ (z : PlainBlock). z.retired) (up.others b ne) ∙ (well.queue none b).1))
        (cases_eq b made);
  }

  -- Nothing leads to the block.
  pub none_leads : (a i : ℕ) → target (slot_of (block_at new a) i) ≢ Local made
  none_leads a i e = ⊎_elim
      (λ is. let lt = (may.links i made (ap (λ (z : PlainBlock). target (slot_of z i)) (sym up.here) ∙ ap (λ y. target (slot_of (block_at new y) i)) (sym is) ∙ e)).was_made in omega (arith, lt))
      (λ ne. let lt = (sound.links a i made (ap (λ (z : PlainBlock). target (slot_of z i)) (sym (up.others a ne)) ∙ e)).was_made in omega (arith, lt))
      (cases_eq a made)

-- A copy of a block that is put somewhere leads where that one leads.
pub copied_links : {old : List PlainBlock} {made high root at : ℕ} (block : PlainBlock) → Sound old made high root → 1 < at → block.place ≡ (block_at old at).place → block.source ≡ (block_at old at).source → ((i : ℕ) → slot_of block i ≡ slot_of (block_at old at) i) → block.epoch ≡ high → (i b : ℕ) → target (slot_of block i) ≡ Local b → Linked made made i b block (block_at old b) (home_of old (block_at old b).source)
copied_links {old} {made} {high} {root} {at} block sound past place source slots epoch i b e =
    let l = sound.links at i b (ap target (sym (slots i)) ∙ e) in
    let lt = l.was_made in
    let aged = sound.aged b lt in
    let x : PlainBlock = record (block_at old at) { epoch = high; apart = block.apart; origin = block.origin; home = block.home; kept = block.kept } in
    let k : Linked made made i b x (block_at old b) (home_of old (block_at old b).source) = record { past = l.past; was_made = lt; few = l.few; place = l.place; falls = l.falls; joined = l.joined; source = record { inner = l.source.inner; outer = l.source.outer }; ages = λ ne. aged } in
    moved {u = x} (record { place = place; epoch = epoch; apart = refl; origin = refl; source = source; home = refl; kept = refl }) (alike (block_at old b)) refl (slots i) k
