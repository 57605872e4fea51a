-- A block begins to wait for the pairs of entries of another.
use Rattle.std.proofs.Common.{◌≡◌, ◌≢◌, ◌⊎◌, inl, inr, ⊎_elim, ℕ, zero, suc, ◌+◌, ◌*◌, ◌/◌, ◌<◌, true, List, [], ◌∷◌, ◌++◌, length, refl, sym, ◌∙◌, ap, subst, arith}
use Rattle.std.proofs.lemmas.Bool.{cases_lt}
use Rattle.fo_ports.specs.State.{WaitsForPairs, AddsNoWait, Calm, none}
use Rattle.fo_image.specs.declared.types.Kind.TheVariants.{Dir}
use Rattle.fo_ports_plain.specs.declared.block.PlainBlock.{PlainBlock}
use Rattle.fo_ports_plain.specs.declared.wait.Wait.{Wait}
use Rattle.fo_ports_plain.specs.Plain.{block_at, slot_of, is_active, wait_at, pair_of, Awaits}
use Rattle.fo_ports_plain.specs.Moves.{EndsWaits}
use Rattle.fo_ports_plain.specs.Sound.{IsUsed, Waiting}
use Rattle.fo_ports_plain.specs.Meaning.{Plain, state_of}
use Rattle.fo_ports_plain.specs.Laws.{used_active}

-- one wait more, at the end
before_last : (waits : List Wait) (w : Wait) (n : ℕ) → n < length waits → wait_at (waits ++ w ∷ []) n ≡ wait_at waits n
before_last [] w n lt = absurd (omega (arith, lt))
before_last (v ∷ waits) w zero lt = refl
before_last (v ∷ waits) w (suc n) lt = before_last waits w n (omega (arith, lt))

last : (waits : List Wait) (w : Wait) → wait_at (waits ++ w ∷ []) (length waits) ≡ w
last [] w = refl
last (v ∷ waits) w = last waits w

longer : (waits : List Wait) (w : Wait) → length (waits ++ w ∷ []) ≡ length waits + 1
longer [] w = refl
longer (v ∷ waits) w = let l = longer waits w in omega (arith, l)

-- a wait among them is one of before, or the last
which : (waits : List Wait) (w : Wait) (n : ℕ) → n < length (waits ++ w ∷ []) → ((n < length waits) × (wait_at (waits ++ w ∷ []) n ≡ wait_at waits n)) ⊎ (wait_at (waits ++ w ∷ []) n ≡ w)
which waits w n lt = ⊎_elim
    (λ small. inl (small, before_last waits w n small))
    (λ big. let l = longer waits w in let is : n ≡ length waits = omega (arith, lt, big, l) in inr (ap (λ k. wait_at (waits ++ w ∷ []) k) is ∙ last waits w))
    (cases_lt n (length waits))

-- what is waited for is in use, also of the new wait
pub waiting_more : {blocks : List PlainBlock} {made : ℕ} (waits : List Wait) (w : Wait) → Waiting blocks made waits → w.on < made → (block_at blocks w.on).place.kind ≡ Dir 0 → ((k : ℕ) → pair_of w k ≡ is_active (slot_of (block_at blocks w.on) (2 * k))) → Waiting blocks made (waits ++ w ∷ [])
waiting_more {blocks} {made} waits w waiting lt entries pairs n k small is = ⊎_elim
    (λ h. subst (λ z. IsUsed blocks made z k) (sym h.1) (waiting n k h.0 (ap (λ z. pair_of z k) (sym h.1) ∙ is)))
    (λ e. subst (λ z. IsUsed blocks made z k) (sym e) (record { was_made = lt; entries = entries; used = sym (pairs k) ∙ ap (λ z. pair_of z k) (sym e) ∙ is }))
    (which waits w n small)

half : (k : ℕ) → (2 * k) / 2 ≡ k
half k = omega arith

half_odd : (k : ℕ) → (2 * k + 1) / 2 ≡ k
half_odd k = omega arith

module _ (p : Plain) (w : Wait) (at on room : ℕ) (is_at : w.at ≡ at) (is_on : w.on ≡ on) (pairs : (k : ℕ) → pair_of w k ≡ is_active (slot_of (block_at p.blocks on) (2 * k))) where
  waits_now : (j k : ℕ) → j / 2 ≡ k → pair_of w k ≡ true → Awaits (p.waits ++ w ∷ []) at on j
  waits_now j k e pair =
      let here = last p.waits w in
      record {
        number = length p.waits;
        within = let l = longer p.waits w in omega (arith, l);
        is_at = ap (λ (z : Wait). z.at) here ∙ is_at;
        is_on = ap (λ (z : Wait). z.on) here ∙ is_on;
        pair = ap (λ z. pair_of z (j / 2)) here ∙ ap (λ x. pair_of w x) e ∙ pair;
      }

  waits_still : (a o j : ℕ) → Awaits p.waits a o j → Awaits (p.waits ++ w ∷ []) a o j
  waits_still a o j k =
      let lt = k.within in
      let same = before_last p.waits w k.number lt in
      record {
        number = k.number;
        within = let l = longer p.waits w in omega (arith, lt, l);
        is_at = ap (λ (z : Wait). z.at) same ∙ k.is_at;
        is_on = ap (λ (z : Wait). z.on) same ∙ k.is_on;
        pair = ap (λ z. pair_of z (j / 2)) same ∙ k.pair;
      }

  waits_only : (a o j : ℕ) → a ≢ at → Awaits (p.waits ++ w ∷ []) a o j → Awaits p.waits a o j
  waits_only a o j ne k = ⊎_elim
      (λ h. record {
        number = k.number;
        within = h.0;
        is_at = ap (λ (z : Wait). z.at) (sym h.1) ∙ k.is_at;
        is_on = ap (λ (z : Wait). z.on) (sym h.1) ∙ k.is_on;
        pair = ap (λ z. pair_of z (j / 2)) (sym h.1) ∙ k.pair;
      })
      (λ e. absurd (ne (sym k.is_at ∙ ap (λ (z : Wait). z.at) e ∙ is_at)))
      (which p.waits w k.number k.within)

  pub waits_for : WaitsForPairs at on (state_of p) (state_of (record p { waits = p.waits ++ w ∷ []; room = room })) × AddsNoWait (λ a. a ≡ at) (state_of p) (state_of (record p { waits = p.waits ++ w ∷ []; room = room }))
  waits_for = (
    record {
      each = λ k g is _.
          let pair = pairs k ∙ used_active (slot_of (block_at p.blocks on) (2 * k)) g is in
          (waits_now (2 * k) k (half k) pair, waits_now (2 * k + 1) k (half_odd k) pair);
    },
    record { each = λ a o j ne k. waits_only a o j ne k },
  )

  pub wait_calm : room + 1 ≡ p.room → Calm none 1 (state_of p) (state_of (record p { waits = p.waits ++ w ∷ []; room = room }))
  wait_calm spent = record {
    frame = record {
      stays = record {
        labels = λ b _. refl;
        marks = λ b _. (λ h. h, λ h. h, λ h. h);
        places = λ t b x _ _ _ _ st. st;
        rooted = λ t b _ r. r;
        newborn = λ b _ h. h;
        apart = λ b _ _. (λ h. h, λ h. h);
        instead = λ b x _ _. (λ h. h, λ h. h);
        waits = λ a o j _ _ _ k. waits_still a o j k;
      };
      dirty = λ b h. absurd h;
      uses = record { spare = omega arith; usable = omega arith; room = spent; pins = refl; moments = refl; left = λ k image h. h };
      numbers = record { next = refl; grants = λ h. h };
    };
    order = record { clearing = λ b j h. absurd h; goes_on = λ b j _ h. h };
    covered = record { covered = λ b. (λ h. h, λ h. h) };
    newborn = λ b h. h;
    queued = refl;
    no_removal = record { each = λ x e w h. h };
  }

-- what is left of the waits is for what is in use
pub ended_waiting : {blocks : List PlainBlock} {made at i : ℕ} {old new : List Wait} → EndsWaits at i old new → Waiting blocks made old → Waiting blocks made new
ended_waiting {blocks} {made} {old = old} {new = new} ends waiting n k lt is =
    let on_is : (wait_at new n).on ≡ (wait_at old n).on = (ends.same n).1 in
    let w = waiting n k (subst (λ m. n < m) ends.as_long lt) (ends.fewer n k is) in
    record {
      was_made = subst (λ x. x < made) (sym on_is) w.was_made;
      entries = ap (λ x. (block_at blocks x).place.kind) on_is ∙ w.entries;
      used = ap (λ x. is_active (slot_of (block_at blocks x) (2 * k))) on_is ∙ w.used;
    }
