-- Room is made.
use Rattle.std.proofs.Common.{◌≡◌, inl, ⊎_elim, ℕ, ◌≤◌, ◌<◌, Bool, true, false, Result, Ok, Err, refl, sym, ap, ◌∙◌, subst, arith}
use Rattle.std.specs.Result.{IfErr, IfOk, OnErr, OnOk}
use Rattle.std.specs.Option.{option_map_or}
use Rattle.std.proofs.lemmas.Bool.{cases_lt}
use Rattle.fo_base.specs.Cause.{Rose}
use Rattle.fo_base.specs.declared.memory.Memory.{Memory}
use Rattle.fo_disk.specs.Disk.{Content as Holds}
use Rattle.fo_buffers.specs.Held.{Held, held_at, is_pinned}
use Rattle.fo_order.specs.Keeps.{Turns}
use Rattle.fo_closing.specs.of_takeout.Walking.{Walking}
use Rattle.fo_ports.specs.Causes.{Caused}
use Rattle.fo_ports.specs.State.{Rests, StaysKnown}
use Rattle.fo_ports.specs.declared.error.BlockError.{BlockError}
use Rattle.fo_ports.specs.declared.error.BlockError.TheVariants.{Arena, Damaged, Fault, Full, Memory as Wanting}
use Rattle.fo_closing.specs.of_mind.Parts.{IsPinned, Parts, state_of}
use Rattle.fo_closing.specs.of_mind.Roomed.{Grown, Roomed}
use Rattle.fo_reserving.specs.Steps.{AreFew, Reserves}
use Rattle.fo_reserving.proofs.Joining.{reserves_lasting, reserves_none}

never : {A : Type 0} → false ≡ true → A
never e = cc

same_ok : (a b : Bool) → ◌≡◌ {A = Result Bool Memory} (Ok a) (Ok b) → a ≡ b
same_ok a b e = cc

-- more room, whatever is left of it
module _ (p : Parts) (a b links spare pins room : ℕ) (walk : Walking) where
  abbrev Q : Parts
  Q = record p { held = record p.held { room = a }; turns = record p.turns { room = b }; walk = walk; links = links; spare = spare; pins = pins; room = room }

  known : (b : ℕ) → StaysKnown (state_of p) (state_of Q) b
  known b = record { bytes = refl; slots = λ j. inl (refl, λ h. h) }

  rests : Rests (state_of p) (state_of Q)
  rests = record {
    blocks = λ tells. absurd tells;
    images = record { each = λ image h. absurd h };
    passes = record { later = omega arith; before = λ n image le h. h; within = λ n image lo hi h. absurd h };
    fills = λ tells. absurd tells;
    order = λ b j h. h;
    no_wait = record { each = λ a on j out w. w };
    dirty = λ b d. inl d;
    closes = λ tells. absurd tells;
    leaves = λ tells. absurd tells;
    apart = λ b. (λ h. h, λ h. h);
    instead = λ b x. (λ h. h, λ h. h);
    newborn = λ b h. h;
    newborns = λ b h. h;
    kept = λ b is was now. known b;
    labels = λ b. inl refl;
    removes = λ r e w h. inl h;
    queues = λ some. inl some;
    usable = omega arith;
    settled = λ was. (record { settled = record { each = λ image h. absurd h }; clean = λ b d. ((was.clean b d).0, λ tells. absurd tells); empty = was.empty; cleared = was.cleared }, refl);
    numbers = record { next = refl; grants = λ h. h };
  }

  reserves_room : Reserves p Q
  reserves_room = reserves_lasting p Q rests (record { first = refl; count = refl; high = refl; low = refl; root = refl; faults = omega arith })
      (record { region = refl; high = refl; removals = refl; clears = refl; over = λ b e. e; linked = λ b. refl; held = λ b. inl refl; count = refl; bytes = λ b le lt. refl })

-- as much room in its parts, and so many blocks, pins and removals
grown_so : (p q : Parts) → Grown p (record q { spare = p.spare; pins = p.pins; room = p.room }) → q ≡ record p { held = record p.held { room = q.held.room }; turns = record p.turns { room = q.turns.room }; walk = q.walk; links = q.links; spare = q.spare; pins = q.pins; room = q.room }
grown_so p q g =
    ap (λ (z : Parts). record z { spare = q.spare; pins = q.pins; room = q.room }) g.rest
    ∙ ap (λ (h : Held). record p { held = h; turns = q.turns; walk = q.walk; links = q.links; spare = q.spare; pins = q.pins; room = q.room }) g.held.same
    ∙ ap (λ (t : Turns). record p { held = record p.held { room = q.held.room }; turns = t; walk = q.walk; links = q.links; spare = q.spare; pins = q.pins; room = q.room }) g.turns.same

module _ (p q : Parts) (disk : Holds) (faults : ℕ) where
  abbrev At : Parts → Parts
  At z = record z { disk = disk; faults = faults }

  reserves_grown : Grown p (record q { spare = p.spare; pins = p.pins; room = p.room }) → Reserves (At p) (At q)
  reserves_grown g = subst (λ (z : Parts). Reserves (At p) (At z)) (sym (grown_so p q g)) (reserves_room (At p) q.held.room q.turns.room q.links q.spare q.pins q.room q.walk)

  pinned_grown : Grown p (record q { spare = p.spare; pins = p.pins; room = p.room }) → ((b : ℕ) → IsPinned p.held b → ⊥) → (b : ℕ) → IsPinned q.held b → ⊥
  pinned_grown g free b h = free b (sym (ap (λ (x : Held). option_map_or is_pinned (held_at x b) false) g.held.same) ∙ h)

  few_grown : Grown p (record q { spare = p.spare; pins = p.pins; room = p.room }) → AreFew p.turns p.region.first → AreFew q.turns q.region.first
  few_grown g h = subst (λ (z : Parts). AreFew z.turns z.region.first) (sym (grown_so p q g)) h

  same_room : Grown p q → Grown p (record q { spare = p.spare; pins = p.pins; room = p.room })
  same_room g = subst (Grown p) (ap (λ (z : Parts). record q { spare = z.spare; pins = z.pins; room = z.room }) g.rest) g

  module _ (r : Result Bool Memory) (usable blocks pins removals : ℕ) (few : usable < blocks → (r ≡ Ok false) × (q ≡ p)) (made : blocks ≤ usable → OnOk r (Roomed blocks pins removals p q)) (err : OnErr r (Grown p q)) where
    pub reserves_made : Reserves (At p) (At q)
    reserves_made = ⊎_elim
        (λ lt. subst (λ (z : Parts). Reserves (At p) (At z)) (sym (few lt).1) (reserves_none (At p)))
        (λ le. by r (made le) err)
        (cases_lt usable blocks)
      where
        by : (w : Result Bool Memory) → OnOk w (Roomed blocks pins removals p q) → OnErr w (Grown p q) → Reserves (At p) (At q)
        by (Ok b) m e = reserves_grown m.grown
        by (Err x) m e = reserves_grown (same_room e)

    pub free_made : ((b : ℕ) → IsPinned p.held b → ⊥) → (b : ℕ) → IsPinned q.held b → ⊥
    free_made free = ⊎_elim
        (λ lt. subst (λ (z : Parts). (b : ℕ) → IsPinned z.held b → ⊥) (sym (few lt).1) free)
        (λ le. by r (made le) err)
        (cases_lt usable blocks)
      where
        by : (w : Result Bool Memory) → OnOk w (Roomed blocks pins removals p q) → OnErr w (Grown p q) → (b : ℕ) → IsPinned q.held b → ⊥
        by (Ok b) m e = pinned_grown m.grown free
        by (Err x) m e = pinned_grown (same_room e) free

    pub few_stay : AreFew p.turns p.region.first → AreFew q.turns q.region.first
    few_stay h = ⊎_elim
        (λ lt. subst (λ (z : Parts). AreFew z.turns z.region.first) (sym (few lt).1) h)
        (λ le. by r (made le) err)
        (cases_lt usable blocks)
      where
        by : (w : Result Bool Memory) → OnOk w (Roomed blocks pins removals p q) → OnErr w (Grown p q) → AreFew q.turns q.region.first
        by (Ok b) m e = few_grown m.grown h
        by (Err x) m e = few_grown (same_room e) h

    -- what an answer says
    room_made : (b : Bool) → r ≡ Ok b → b ≡ true → (blocks ≤ q.spare) × (pins ≤ q.pins) × (removals ≤ q.room)
    room_made b is yes_so = ⊎_elim
        (λ lt. never (same_ok false b (sym (few lt).0 ∙ is) ∙ yes_so))
        (λ le. by r is (made le))
        (cases_lt usable blocks)
      where
        by : (w : Result Bool Memory) → w ≡ Ok b → OnOk w (Roomed blocks pins removals p q) → (blocks ≤ q.spare) × (pins ≤ q.pins) × (removals ≤ q.room)
        by (Ok v) e m =
            let x = m.spare in
            let y = m.pins_are in
            let z = m.room in
            (omega (arith, x), omega (arith, y), omega (arith, z))
        by (Err x) e m = absurd (clash e)
          where
            clash : ◌≡◌ {A = Result Bool Memory} (Err x) (Ok b) → ⊥
            clash h = cc

    few_made : (b : Bool) → r ≡ Ok b → (blocks ≤ usable → IfOk r (λ m. m ≡ true)) → b ≡ false → (usable < blocks) × (q ≡ p)
    few_made b is enough not_so = ⊎_elim
        (λ lt. (lt, (few lt).1))
        (λ le. never (sym not_so ∙ subst (λ (w : Result Bool Memory). IfOk w (λ m. m ≡ true)) is (enough le)))
        (cases_lt usable blocks)

    pub room_of : IfOk r (λ b. b ≡ true → (blocks ≤ q.spare) × (pins ≤ q.pins) × (removals ≤ q.room))
    room_of = by r refl
      where
        by : (w : Result Bool Memory) → r ≡ w → IfOk w (λ b. b ≡ true → (blocks ≤ q.spare) × (pins ≤ q.pins) × (removals ≤ q.room))
        by (Ok b) is = room_made b is
        by (Err x) is = tt

    pub few_of : (blocks ≤ usable → IfOk r (λ m. m ≡ true)) → IfOk r (λ b. b ≡ false → (usable < blocks) × (q ≡ p))
    few_of enough = by r refl
      where
        by : (w : Result Bool Memory) → r ≡ w → IfOk w (λ b. b ≡ false → (usable < blocks) × (q ≡ p))
        by (Ok b) is = few_made b is enough
        by (Err x) is = tt

-- ---- refusals

-- a refusal without that of a full device, in a longer span
pub caused : (full : Type 0) (before old new : ℕ) (e : BlockError) → before ≤ old → Caused ⊥ (λ b. ⊥) (Rose old new) ⊥ e → Caused full (λ b. ⊥) (Rose before new) ⊥ e
caused full before old new Full le c = absurd c
caused full before old new (Damaged at) le c = c
caused full before old new (Fault which) le c = omega (arith, le, c)
caused full before old new (Arena which) le c = c
caused full before old new Wanting le c = tt

pub full_on : (full : Type 0) (before old new : ℕ) (e : BlockError) → before ≤ old → Caused full (λ b. ⊥) (Rose old new) ⊥ e → Caused full (λ b. ⊥) (Rose before new) ⊥ e
full_on full before old new Full le c = c
full_on full before old new (Damaged at) le c = c
full_on full before old new (Fault which) le c = omega (arith, le, c)
full_on full before old new (Arena which) le c = c
full_on full before old new Wanting le c = tt

pub caused_result : {T : Type 0} (full : Type 0) (before old new : ℕ) (r : Result T BlockError) → before ≤ old → IfErr r (Caused full (λ b. ⊥) (Rose old new) ⊥) → IfErr r (Caused full (λ b. ⊥) (Rose before new) ⊥)
caused_result full before old new (Ok x) le h = tt
caused_result full before old new (Err e) le h = full_on full before old new e le h
