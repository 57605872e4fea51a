-- What blocks in memory are, as the calls see them, where an epoch begins.
use Rattle.std.proofs.Common.{◌≡◌, ◌≢◌, ◌⊎◌, inl, inr, ⊎_elim, ℕ, ◌+◌, ◌-◌, ◌^◌, ◌<◌, ◌≤◌, true, false, List, length, set, length-set, get_or-set_same, get_or-set_other, refl, sym, ◌∙◌, ap, subst, arith}
use Rattle.std.proofs.lemmas.Bool.{cases_eq, cases_lt}
use Rattle.fo_image.specs.declared.types.Pointer.TheVariants.{Nil, Local}
use Rattle.fo_image.specs.declared.types.State.TheVariants.{Free, Live}
use Rattle.fo_image.specs.declared.types.Label.{Label}
use Rattle.fo_crash.specs.declared.place.Place.{Place}
use Rattle.fo_crash.specs.declared.slot.Slot.TheVariants.{Pointer as To, Prev}
use Rattle.fo_ports_plain.specs.declared.block.PlainBlock.{PlainBlock}
use Rattle.fo_ports_plain.specs.Plain.{block_at, slot_of, no_block, label_of, label_at, nowhere, Instead, IsTop}
use Rattle.fo_ports_plain.specs.Sound.{Well}
use Rattle.fo_ports_plain.specs.Meaning.{Plain, state_of}
use Rattle.fo_ports_plain.specs.Epochs.{Begins}
use Rattle.fo_ports_plain.specs.Laws.{label_made}
use Rattle.fo_ports_plain.proofs.Comes.{label_free}
use Rattle.fo_ports_plain.proofs.Begin.{Grows, IsNext, LeadsOn, was, root_below, next_place, apart_was}

-- ---- the two blocks that change

next_of : (high root : ℕ) (w x : PlainBlock) → x ≡ record w { epoch = high + 1; home = nowhere; taken = false; retired = false; slots = set w.slots 2 (Prev w.epoch root) } → slot_of x 2 ≡ Prev w.epoch root → IsNext high root w x
next_of high root w x is here = record {
  place = ap (λ (z : PlainBlock). z.place) is;
  epoch = ap (λ (z : PlainBlock). z.epoch) is;
  apart = ap (λ (z : PlainBlock). z.apart) is;
  origin = ap (λ (z : PlainBlock). z.origin) is;
  source = ap (λ (z : PlainBlock). z.source) is;
  ends = ap (λ (z : PlainBlock). z.home.hangs) is;
  taken = ap (λ (z : PlainBlock). z.taken) is;
  retired = ap (λ (z : PlainBlock). z.retired) is;
  kept = ap (λ (z : PlainBlock). z.kept) is;
  bytes = ap (λ (z : PlainBlock). z.bytes) is;
  before = here;
  slots = λ i ne. ap (λ (z : PlainBlock). slot_of z i) is ∙ get_or-set_other w.slots 2 i (Prev w.epoch root) (To Nil) ne;
}

top_of : (made : ℕ) (w x : PlainBlock) → x ≡ record w { slots = set w.slots 0 (To (Local made)) } → slot_of x 0 ≡ To (Local made) → LeadsOn made w x
top_of made w x is here = record {
  same = record {
    place = ap (λ (z : PlainBlock). z.place) is;
    epoch = ap (λ (z : PlainBlock). z.epoch) is;
    apart = ap (λ (z : PlainBlock). z.apart) is;
    origin = ap (λ (z : PlainBlock). z.origin) is;
    source = ap (λ (z : PlainBlock). z.source) is;
    home = ap (λ (z : PlainBlock). z.home) is;
    kept = ap (λ (z : PlainBlock). z.kept) is;
  };
  taken = ap (λ (z : PlainBlock). z.taken) is;
  retired = ap (λ (z : PlainBlock). z.retired) is;
  bytes = ap (λ (z : PlainBlock). z.bytes) is;
  way = here;
  slots = λ i ne. ap (λ (z : PlainBlock). slot_of z i) is ∙ get_or-set_other w.slots 0 i (To (Local made)) (To Nil) ne;
}

pub grows : (old : List PlainBlock) (made high root : ℕ) (x top : PlainBlock) → 2 < made → made < length old
    → x ≡ record (block_at old root) { epoch = high + 1; home = nowhere; taken = false; retired = false; slots = set ((block_at old root).slots) 2 (Prev (block_at old root).epoch root) } → slot_of x 2 ≡ Prev (block_at old root).epoch root
    → top ≡ record (block_at old 1) { slots = set ((block_at old 1).slots) 0 (To (Local made)) } → slot_of top 0 ≡ To (Local made) → Grows made high root old (set (set old made x) 1 top)
grows old made high root x top three lt x_is x_here top_is top_here = record {
  next = subst (IsNext high root (block_at old root)) (sym (get_or-set_other (set old made x) 1 made top no_block (λ e. omega (arith, three, e)) ∙ get_or-set_same old made x no_block lt)) (next_of high root (block_at old root) x x_is x_here);
  top = subst (LeadsOn made (block_at old 1)) (sym (get_or-set_same (set old made x) 1 top no_block (let n = length-set old made x in omega (arith, three, lt, n)))) (top_of made (block_at old 1) top top_is top_here);
  others = λ b n m. get_or-set_other (set old made x) 1 b top no_block m ∙ get_or-set_other old made b x no_block n;
  as_long = length-set (set old made x) 1 top ∙ length-set old made x;
}

-- ---- what the calls see

live_at : (blocks : List PlainBlock) (made b : ℕ) → 1 < b → b < made → label_at blocks made b ≡ label_of Live (block_at blocks b).epoch (2 ^ 32 - 1) (block_at blocks b)
live_at = label_made

free_at : (blocks : List PlainBlock) (made b : ℕ) → (b ≤ 1) ⊎ (made ≤ b) → label_at blocks made b ≡ label_of Free 0 0 (block_at blocks b)
free_at = label_free

module _ (p : Plain) (new : List PlainBlock) (g : Grows p.made p.high p.root p.blocks new) (three : 2 < p.made) (well : Well p.blocks p.made p.high p.root p.waits p.queued) where
  live_like : (x y : PlainBlock) (n : ℕ) → x.place ≡ y.place → x.epoch ≡ n → label_of Live x.epoch (2 ^ 32 - 1) x ≡ record (label_of Live y.epoch (2 ^ 32 - 1) y) { epoch = n }
  live_like x y n place epoch =
      ap (λ (q : Place). record { state = Live; kind = q.kind; tag = q.tag; epoch = x.epoch; closing = 2 ^ 32 - 1 }) place
      ∙ ap (λ k. record { state = Live; kind = y.place.kind; tag = y.place.tag; epoch = k; closing = 2 ^ 32 - 1 }) epoch

  root_lt : p.root < p.made
  root_lt = (root_below g three well).1

  root_past : 1 < p.root
  root_past = (well.sound.tops p.root well.sound.root_kept.0).past

  label : label_at new (p.made + 1) p.made ≡ record (label_at p.blocks p.made p.root) { epoch = p.high + 1 }
  label = live_at new (p.made + 1) p.made (omega (arith, three)) (omega arith) ∙ live_like (block_at new p.made) (block_at p.blocks p.root) (p.high + 1) g.next.place g.next.epoch ∙ ap (λ (l : Label). record l { epoch = p.high + 1 }) (sym (live_at p.blocks p.made p.root root_past root_lt))

  labels : (b : ℕ) → b ≢ p.made → label_at new (p.made + 1) b ≡ label_at p.blocks p.made b
  labels b ne = ⊎_elim
      (λ lt. ⊎_elim
      (λ past. live_at new (p.made + 1) b past (omega (arith, lt)) ∙ live_like (block_at new b) (block_at p.blocks b) (block_at p.blocks b).epoch (was g three well b lt).place (was g three well b lt).epoch ∙ sym (live_at p.blocks p.made b past lt))
      (λ low. free_at new (p.made + 1) b (inl low) ∙ ap (λ (q : Place). record { state = Free; kind = q.kind; tag = q.tag; epoch = 0; closing = 0 }) (was g three well b lt).place ∙ sym (free_at p.blocks p.made b (inl low)))
      (cases_lt 1 b))
      (λ le. free_at new (p.made + 1) b (inr (omega (arith, le, ne))) ∙ ap (λ (z : PlainBlock). label_of Free 0 0 z) (g.others b ne (λ e. omega (arith, le, e, three))) ∙ sym (free_at p.blocks p.made b (inr le)))
      (cases_lt b p.made)

  next_kept : (block_at new p.made).kept ≡ true
  next_kept = g.next.kept ∙ well.sound.root_kept.0

  top_was : (t : ℕ) → IsTop new t → IsTop p.blocks t ⊎ (t ≡ p.made)
  top_was t = ⊎_elim
      (λ e. inl (inl e))
      (λ k. ⊎_elim
      (λ e. inr e)
      (λ n. ⊎_elim (λ e. inl (inl e)) (λ m. inl (inr (sym (ap (λ (z : PlainBlock). z.kept) (g.others t n m)) ∙ k))) (cases_eq t 1))
      (cases_eq t p.made))

  top_is : (t : ℕ) → IsTop p.blocks t ⊎ (t ≡ p.made) → IsTop new t
  top_is t = ⊎_elim
      (⊎_elim
      (λ e. inl e)
      (λ k. ⊎_elim
      (λ e. inr (ap (λ y. (block_at new y).kept) e ∙ next_kept))
      (λ n. ⊎_elim (λ e. inl e) (λ m. inr (ap (λ (z : PlainBlock). z.kept) (g.others t n m) ∙ k)) (cases_eq t 1))
      (cases_eq t p.made)))
      (λ e. inr (ap (λ y. (block_at new y).kept) e ∙ next_kept))

  apart_is : (b : ℕ) → (block_at p.blocks b).apart ≡ true → (block_at new b).apart ≡ true
  apart_is b e = (was g three well b (well.sound.sources.apart b e).1).apart ∙ e

  instead_was : (b x : ℕ) → Instead new b x → Instead p.blocks b x
  instead_was b x i = let h = apart_was g three well b i.apart in record { apart = h.0; origin = sym (ap (λ (z : PlainBlock). z.origin) h.1) ∙ i.origin; some = i.some }

  instead_is : (b x : ℕ) → Instead p.blocks b x → Instead new b x
  instead_is b x i = record { apart = apart_is b i.apart; origin = (was g three well b (well.sound.sources.apart b i.apart).1).origin ∙ i.origin; some = i.some }

  pub begins : (spare : ℕ) → spare + 1 ≡ p.spare → Begins (state_of p) (state_of (record p { blocks = new; made = p.made + 1; high = p.high + 1; root = p.made; spare = spare }))
  begins spare spare_is = record {
    high = refl;
    unused = (λ e. let no : Free ≡ Live = sym (ap (λ (l : Label). l.state) (free_at p.blocks p.made p.made (inr (omega arith)))) ∙ e in cc, (λ e. omega (arith, e, three)), (λ e. let lt = root_lt in omega (arith, e, lt)));
    label = label;
    labels = labels;
    tops = λ t. (top_was t, top_is t);
    bytes = (g.next.bytes, g.top.bytes);
    slots = g.next.slots;
    before = g.next.before ∙ ap (λ (l : Label). Prev l.epoch p.root) (sym (live_at p.blocks p.made p.root root_past root_lt));
    way = (g.top.way, g.top.slots);
    blocks = λ b n m. record { bytes = ap (λ (z : PlainBlock). z.bytes) (g.others b m n); slots = λ i. ap (λ (z : PlainBlock). slot_of z i) (g.others b m n) };
    place = record { above = omega (arith, three); was_made = omega arith; is = next_place g three well };
    places = λ b q at. let lt = at.was_made in record { above = at.above; was_made = omega (arith, lt); is = (was g three well b lt).place ∙ at.is };
    apart = λ b. ((λ e. (apart_was g three well b e).0, apart_is b), λ x. (instead_was b x, instead_is b x));
    marks = λ b. ((λ h. (h.0, subst (λ n. b < n) g.as_long h.1), λ h. (h.0, subst (λ n. b < n) (sym g.as_long) h.1)), λ h. let lt = h.1 in (h.0, omega (arith, lt)));
    waits = λ a on j. ((λ w. w), (λ w. w));
    numbers = (spare_is, refl, refl, refl, refl);
  }
