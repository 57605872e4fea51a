-- A slot is put by blocks that tell nothing.
use Rattle.std.proofs.Common.{◌≡◌, ◌≢◌, ◌⊎◌, inl, inr, ⊎_elim, ℕ, ◌+◌, ◌-◌, ◌*◌, ◌/◌, ◌<◌, Bool, true, false, zero, suc, List, length, refl, sym, ◌∙◌, ap, subst, arith}
use Rattle.std.specs.Prelude.{None}
use Rattle.fo_image.specs.declared.types.Pointer.TheVariants.{Local}
use Rattle.fo_crash.specs.declared.slot.Slot.{Slot}
use Rattle.fo_crash.specs.declared.slot.Slot.TheVariants.{Pointer as To, Entry as Head, Prev}
use Rattle.fo_crash.specs.Images.{target}
use Rattle.fo_crash.specs.Names.{SameUse}
use Rattle.fo_crash.specs.Steps.{PutsSlot, cleared}
use Rattle.fo_ports.specs.State.{Frame, Hangs, IsSecondOf}
use Rattle.fo_slots.specs.Read.{read}
use Rattle.test_blocks.specs.declared.silent.Block.{Block}
use Rattle.test_blocks.specs.declared.silent.Wait.{Wait}
use Rattle.test_blocks.specs.Silent.{Silent, block_at, memory, Updates, SameBytes, Joins, Rises, Listed, Awaits, Waiting, is_active, state_of}
use Rattle.test_blocks.proofs.Updating.{part_kept}

-- ---- one block is put, and what it leads to is marked

pub puts_then : (old mid new : List Block) {at i : ℕ} {s : Slot} → PutsSlot at i s (memory old) (memory mid) → SameBytes mid new → PutsSlot at i s (memory old) (memory new)
puts_then old mid new {at} {i} {s} puts same =
    let slots : (b j : ℕ) → (memory new b).slot j ≡ (memory mid b).slot j = λ b j. ap (λ (bs : List ℕ). (read (block_at new b).label.kind bs).slot j) (same.bytes b) ∙ ap (λ l. (read l.kind (block_at mid b).bytes).slot j) (same.labels b) in
    record {
      bytes = λ b. ap (λ (bs : List ℕ). (read (block_at new b).label.kind bs).bytes) (same.bytes b) ∙ ap (λ l. (read l.kind (block_at mid b).bytes).bytes) (same.labels b) ∙ puts.bytes b;
      here = slots at i ∙ puts.here;
      others = λ b j which. slots b j ∙ puts.others b j which;
    }

pub joins : {at i : ℕ} {s : Slot} {old mid new : List Block} {x : Block}
    → Updates at x old mid → length mid ≡ length old → x.label ≡ (block_at old at).label → x.apart ≡ (block_at old at).apart → Rises at i s old x.origin → target s ≢ Local at
    → ((b : ℕ) → target s ≡ Local b → ((block_at new b).apart ≡ false) × ((block_at new b).origin ≡ None)) → ((b : ℕ) → target s ≢ Local b → block_at new b ≡ block_at mid b) → SameBytes mid new
    → Joins at i s old new
joins {at} {i} {s} {old} {mid} {new} {x} up size label apart rises other under others same =
    let here : (block_at new at).origin ≡ x.origin = ap (λ (z : Block). z.origin) (others at other) ∙ ap (λ (z : Block). z.origin) up.here in
    record {
      as_long = same.as_long ∙ size;
      labels = λ b. same.labels b ∙ part_kept (λ (z : Block). z.label) up label b;
      under = under;
      aparts = λ b ne. ap (λ (z : Block). z.apart) (others b ne) ∙ part_kept (λ (z : Block). z.apart) up apart b;
      origins = λ b nat ne. ap (λ (z : Block). z.origin) (others b ne) ∙ ap (λ (z : Block). z.origin) (up.others b nat);
      rises = subst (λ o. Rises at i s old o) (sym here) rises;
    }

-- ---- what the calls say of it

pub frame : (p : Silent) (new : List Block) (waits : List Wait) (room queued n at i : ℕ) (slot : Slot) → Joins at i slot p.blocks new → room + n ≡ p.room → ((a on j : ℕ) → on ≢ at → Awaits p.waits a on j → Awaits waits a on j) → (put : ℕ → Type 0) → ((b : ℕ) → (b ≡ at) ⊎ (target slot ≡ Local b) → put b) → Frame (λ b. b ≡ at) put n (state_of p) (state_of (record p { blocks = new; waits = waits; room = room; queued = queued }))
frame p new waits room queued n at i slot joins used still put is_put = let long = joins.as_long in record {
  stays = record {
    labels = λ b _. joins.labels b;
    marks = λ b _. (λ h. (h.0, subst (λ n. b < n) (sym joins.as_long) h.1), λ h. h, λ h. h);
    places = λ t. absurd t;
    rooted = λ t. absurd t;
    newborn = λ b _ h. h;
    apart = λ b _ no. let e = joins.aparts b (λ is. no (is_put b (inr is))) in (λ h. sym e ∙ h, λ h. e ∙ h);
    instead = λ b x _ no. let e = joins.origins b (λ is. no (is_put b (inl is))) (λ is. no (is_put b (inr is))) in let f = joins.aparts b (λ is. no (is_put b (inr is))) in (λ h. (sym f ∙ h.0, sym e ∙ h.1), λ h. (f ∙ h.0, e ∙ h.1));
    waits = λ a on j _ _ no w. still a on j (λ is. no (is_put on (inl is))) w;
  };
  dirty = λ b h. absurd h;
  uses = record { spare = omega (arith, long); usable = omega (arith, long); room = used; pins = refl; moments = refl; left = λ k image h. h };
  numbers = record { next = refl; grants = λ h. h };
}

never_both : {b : Bool} → b ≡ true → b ≡ false → ⊥
never_both {b} t f = let both : true ≡ false = sym t ∙ f in cc

pub hangs : (p : Silent) (new : List Block) (waits : List Wait) (room queued at i : ℕ) (slot : Slot) → Joins at i slot p.blocks new
    → ((a on j : ℕ) → (on ≢ at) ⊎ (((j ≢ i) × (IsSecondOf i j → ⊥)) ⊎ SameUse slot ((memory p.blocks at).slot i)) → Awaits p.waits a on j → Awaits waits a on j)
    → target slot ≢ Local at → Hangs at i slot (state_of p) (state_of (record p { blocks = new; waits = waits; room = room; queued = queued }))
hangs p new waits room queued at i slot joins still other = record {
  place = λ t. absurd t;
  put = λ b e. (λ h. never_both {b = (block_at new b).apart} h (joins.under b e).0, λ x h. never_both {b = (block_at new b).apart} h.0 (joins.under b e).0);
  at_place = λ t. absurd t;
  at_apart = λ ne. let e = joins.aparts at ne in (λ h. sym e ∙ h, λ h. e ∙ h);
  raised = λ x h. joins.rises.raised x (sym (joins.aparts at other) ∙ h.0) h.1;
  raises = λ b x top e which. (joins.aparts at other ∙ top.0.0.0, joins.rises.raises b x top e (⊎_elim (λ o. inr o) (λ h. inl h) which));
  still = λ x h. (joins.aparts at other ∙ h.0, joins.rises.still x h);
  waits = still;
}

-- ---- who waits

cleared_other : (s : Slot) → SameUse (cleared s) s → is_active s ≡ true → ⊥
cleared_other (Head e) h a = never_both {b = e.active} a (sym h.1)
cleared_other (To q) h a = cc
cleared_other (Prev m n) h a = cc

rest_cases : (r : ℕ) → r < 2 → (r ≡ 0) ⊎ (r ≡ 1)
rest_cases zero lt = inl refl
rest_cases (suc zero) lt = inr refl
rest_cases (suc (suc r)) lt = absurd (omega (arith, lt))

halves : (j : ℕ) → (j ≡ 2 * (j / 2)) ⊎ (j ≡ 2 * (j / 2) + 1)
halves j = ⊎_elim (λ e. inl (omega (arith, e))) (λ e. inr (omega (arith, e))) (rest_cases (j - 2 * (j / 2)) (omega arith))

-- waits go with the first entry of their pair alone
pub still_waits : (blocks : List Block) (old new : List Wait) (at i : ℕ) → Waiting blocks old → ((a o k : ℕ) → Listed old a o k → ((o ≡ at) × (i ≡ 2 * k)) ⊎ Listed new a o k)
    → (a on j : ℕ) → (on ≢ at) ⊎ (((j ≢ i) × (IsSecondOf i j → ⊥)) ⊎ SameUse (cleared ((memory blocks at).slot i)) ((memory blocks at).slot i)) → Awaits old a on j → Awaits new a on j
still_waits blocks old new at i waiting still a on j which w = ⊎_elim (λ gone. absurd (none gone.0 gone.1)) (λ l. l) (still a on (j / 2) w)
  where
    none : on ≡ at → i ≡ 2 * (j / 2) → ⊥
    none e is = ⊎_elim
        (λ other. other e)
        (λ rest. ⊎_elim
        (λ far. ⊎_elim (λ first. far.0 (first ∙ sym is)) (λ second. far.1 (j / 2, is, second)) (halves j))
        (λ same. cleared_other ((memory blocks at).slot i) same (subst (λ n. is_active ((memory blocks at).slot n) ≡ true) (sym is) (subst (λ y. is_active ((memory blocks y).slot (2 * (j / 2))) ≡ true) e (waiting.used a on (j / 2) w))))
        rest)
        which

-- ---- cleared slots

pub cleared_nowhere : (s : Slot) (b : ℕ) → target (cleared s) ≡ Local b → ⊥
cleared_nowhere (Head e) b h = cc
cleared_nowhere (To q) b h = cc
cleared_nowhere (Prev m n) b h = cc
