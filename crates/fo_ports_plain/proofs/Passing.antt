-- Moments that pass where all is settled.
use Rattle.std.proofs.Common.{◌≡◌, zero, suc, slice_index_or, ◌+◌, ◌-◌, ◌*◌, ◌<◌, ℕ, List, [], ◌∷◌, length, inl, inr, ⊎_elim, refl, sym, ◌∙◌, subst, arith}
use Rattle.std.proofs.Math.Nat.{le_refl}
use Rattle.fo_crash.specs.Images.{Image, SameImage}
use Rattle.fo_crash.specs.Steps.{Passes}
use Rattle.fo_crash.proofs.Sure.{same_content}
use Rattle.fo_ports.specs.State.{Rests}
use Rattle.fo_ports_plain.specs.declared.moment.Moment.{Moment}
use Rattle.fo_ports_plain.specs.Plain.{memory, IsTop}
use Rattle.fo_ports_plain.specs.Meaning.{Plain, Shows, state_of}
use Rattle.fo_ports_plain.specs.Moments.{MayPass}
use Rattle.fo_ports_plain.specs.Laws.{shows_before}

-- no moment passes
pub passes_none : (tops : ℕ → Type 0) (images : Image → Type 0) (n : ℕ) (left : ℕ → Image → Type 0) → Passes tops images n n left left
passes_none tops images n left = record { later = le_refl n; before = λ k image le h. h; within = λ k image lt le h. absurd (omega (arith, lt, le)) }

-- one passes and is kept, and another one begins
pub passes_one : (tops : ℕ → Type 0) (images : Image → Type 0) (m : Moment) (seen : List Moment) → ((image : Image) → SameImage image (memory m.blocks.items) → images image) → Passes tops images (2 * length seen) (2 * length (m ∷ seen)) (Shows seen) (Shows (m ∷ seen))
passes_one tops images m seen is = record {
  later = omega arith;
  before = λ k image le h. ⊎_elim (λ here. let at = here.0 in absurd (omega (arith, at, le))) (λ earlier. earlier) h;
  within = λ k image lt le h. ⊎_elim
      (λ here. record { other = image; is = is image here.1; same = record { each = λ t b top r. same_content (image b) } })
      (λ earlier. let early = shows_before seen k image earlier in absurd (omega (arith, early, lt)))
      h;
}

module _ (p : Plain) where
  -- waits end, and moments pass
  settled : (seen : List Moment) → Passes (IsTop p.blocks) (λ image. SameImage image (memory p.blocks)) (2 * length p.seen) (2 * length seen) (Shows p.seen) (Shows seen) → Rests (state_of p) (state_of (record p { waits = []; seen = seen }))
  settled seen passes = record {
    blocks = λ told b spared. record { bytes = refl; slots = λ j. inl (refl, λ h. h); label = refl; sealed = λ h. h; uncovered = λ h. spared (inl h); places = λ r q h. h };
    images = record { each = λ image is. is };
    passes = passes;
    fills = λ told. record {
      each = λ image other is cleared. record {
        each = λ b. record { bytes = cleared.bytes b ∙ (is.each b).bytes; slots = λ j. ⊎_elim (λ same. same ∙ (is.each b).slots j) (λ was. absurd was.0.0) (cleared.each b j) };
      };
    };
    order = λ b j h. h;
    no_wait = record { each = λ a on j h w. let lt = w.within in absurd (omega (arith, lt)) };
    dirty = λ b h. absurd h;
    closes = λ told b h. inl h;
    leaves = λ told at j b was. absurd was.0;
    apart = λ b. (λ h. h, λ h. h);
    instead = λ b x. (λ h. h, λ h. h);
    newborn = λ b h. h;
    newborns = λ b h. h;
    kept = λ b is changing still. record { bytes = refl; slots = λ j. inl (refl, λ h. h) };
    labels = λ b. inl refl;
    removes = λ r e whole h. absurd h;
    queues = λ some. inl some;
    usable = le_refl (state_of p).usable;
    settled = λ h. (record { settled = h.settled; clean = λ b d. absurd d; empty = h.empty; cleared = λ b j c. absurd c }, refl);
    numbers = record { next = refl; grants = λ h. h };
  }

  pub settled_rests : (seen : List Moment) → MayPass p.blocks p.seen seen → Rests (state_of p) (state_of (record p { waits = []; seen = seen }))
  settled_rests seen = ⊎_elim
      (λ same. settled seen (subst (λ ms. Passes tops images (2 * length p.seen) (2 * length ms) (Shows p.seen) (Shows ms)) (sym same) (passes_none tops images (2 * length p.seen) (Shows p.seen))))
      (λ kept. settled seen (subst (λ ms. Passes tops images (2 * length p.seen) (2 * length ms) (Shows p.seen) (Shows ms)) (sym kept.2) (passes_one tops images kept.0 p.seen (λ image is. subst (λ bs. SameImage image (memory bs)) kept.1 is))))
    where
      tops : ℕ → Type 0
      tops = IsTop p.blocks

      images : Image → Type 0
      images image = SameImage image (memory p.blocks)

-- what was kept was left
pub shows_kept : (seen : List Moment) (n : ℕ) (m d : Moment) → n < length seen → slice_index_or seen n d ≡ m → Shows seen (2 * (length seen - (n + 1)) + 1) (memory m.blocks.items)
shows_kept [] n m d lt is = absurd (omega (arith, lt))
shows_kept (x ∷ seen) zero m d lt is = inl (omega arith, subst (λ (y : Moment). SameImage (memory y.blocks.items) (memory x.blocks.items)) is (record { each = λ b. same_content (memory x.blocks.items b) }))
shows_kept (x ∷ seen) (suc n) m d lt is = inr (subst (λ k. Shows seen k (memory m.blocks.items)) (omega arith) (shows_kept seen n m d (omega (arith, lt)) is))
