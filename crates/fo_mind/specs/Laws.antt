-- Why a cache keeps the laws of blocks.
use Rattle.std.specs.Prelude.{◌≡◌, ◌⊎◌, ◌+◌, ◌-◌, ◌*◌, ◌/◌, ◌^◌, ◌<◌, ◌≤◌, ℕ, zero, suc, Bool, true, false, cond, nat_eq, List, Option, Some, None, is_some, refl}
use Rattle.std.specs.Option.{option_map_or}
use Rattle.std.proofs.Common.{eqb-true, inl, inr, ⊎_elim, sym, ap, ◌∙◌, subst, arith}
use Rattle.fo_image.specs.declared.types.State.TheVariants.{Live}
use Rattle.fo_image.specs.declared.types.Kind.TheVariants.{Root}
use Rattle.fo_image.specs.declared.types.Pointer.TheVariants.{Local}
use Rattle.fo_crash.specs.declared.slot.Slot.{Slot}
use Rattle.fo_crash.specs.declared.slot.Slot.TheVariants.{Pointer as To, Entry as Head, Prev}
use Rattle.fo_crash.specs.Images.{Content, SameContent, target}
use Rattle.fo_crash.specs.Steps.{IsSure as InEach, HasSuper}
use Rattle.fo_crash.specs.Names.{IsInUse}
use Rattle.fo_crash.specs.Places.{OnePlace}
use Rattle.fo_crash.specs.Spots.{OneSpot}
use Rattle.fo_ports.specs.Blocks.{slot_count, SlotFits}
use Rattle.fo_ports.specs.State.{KeepsAll, IsPairUsed}
use Rattle.fo_slots.specs.Read.{read}
use Rattle.fo_buffers.specs.declared.block.Buffer.{Buffer}
use Rattle.fo_buffers.specs.Held.{Held, held_at, is_pinned}
use Rattle.std.specs.Map.{lookup}
use Rattle.fo_disk.specs.Disk.{versions_of, latest_of}
use Rattle.fo_waits.specs.Listed.{is_active}
use Rattle.fo_mind.specs.Parts.{Parts, state_of, CacheKeeps, IsHeld, IsPinned, IsDoubt, bytes_of, bytes_at, content_at, label_at, memory, one_content}
use Rattle.fo_mind.specs.Sound.{Placed, Rooted, Holding, Waiting}

-- a pinned block is held
pub pinned_held : (o : Option Buffer) → option_map_or is_pinned o false ≡ true → (x : Buffer) × (o ≡ Some x) × (x.pinned ≡ true)
pinned_held (Some x) e = (x, refl, e)
pinned_held None e = absurd (clash e)
  where
    clash : false ≡ true → ⊥
    clash h = cc

pub some_held : (o : Option Buffer) → is_some o ≡ true → (x : Buffer) × (o ≡ Some x)
some_held (Some x) e = (x, refl)
some_held None e = absurd (clash e)
  where
    clash : false ≡ true → ⊥
    clash h = cc

pub held_pinned : (held : Held) (b : ℕ) → IsPinned held b → IsHeld held b
held_pinned held b pinned = let x = pinned_held (held_at held b) pinned in ap is_some x.1

-- what memory has of a held block
pub held_bytes : (p : Parts) (b : ℕ) (x : Buffer) → held_at p.held b ≡ Some x → bytes_at p.held p.disk b ≡ x.block
held_bytes p b x is = ap (λ (o : Option Buffer). bytes_of o (lookup (nat_eq b) p.held.clean) (latest_of (versions_of p.disk b))) is

-- blocks but block 1
pub not_one : (p : Parts) (b : ℕ) (e : nat_eq b 1 ≡ false) → memory p b ≡ content_at p.region p.held p.disk b
not_one p b e = ap (λ t. cond t (one_content p.one p.one_bytes) (content_at p.region p.held p.disk b)) e

pub beyond : (b first : ℕ) → 1 < first → first ≤ b → nat_eq b 1 ≡ false
beyond b first lt le = by (nat_eq b 1) refl
  where
    by : (t : Bool) → nat_eq b 1 ≡ t → nat_eq b 1 ≡ false
    by true e = let same = eqb-true b 1 e in absurd (omega (arith, lt, le, same))
    by false e = e

pub held_content : (p : Parts) (first count b : ℕ) (x : Buffer) → Placed p.region p.turns p.facts first count → Holding p.one.low first count p.region p.held → held_at p.held b ≡ Some x → memory p b ≡ read (label_at p.region b).kind x.block
held_content p first count b x placed holding is =
    let block = holding.block b x is in
    not_one p b (beyond b first placed.begins block.0) ∙ ap (read (label_at p.region b).kind) (held_bytes p b x is)

module _ (p : Parts) (first count : ℕ) (placed : Placed p.region p.turns p.facts first count) where
  pub active : (state_of p).tops 1 × ((state_of p).is_block 1 → ⊥)
  active = (refl, λ h. let le = h.0 in let lt = placed.begins in let e = placed.is_first in omega (arith, le, lt, e))

  pub root_is : Rooted first count p.one → (state_of p).is_block p.one.active × (⊥ → ((((state_of p).label p.one.active).state ≡ Live) × (((state_of p).label p.one.active).kind ≡ Root) × (((state_of p).label p.one.active).epoch ≡ (state_of p).high)))
  root_is rooted =
      let root = rooted.root in
      ((subst (λ n. n ≤ p.one.active) (sym placed.is_first) root.0, subst (λ n. p.one.active < n) (sym placed.is_count) root.1), λ t. absurd t)

  pub within : Holding p.one.low first count p.region p.held → (at i below : ℕ) → IsPinned p.held at → target ((memory p at).slot i) ≡ Local below → (state_of p).is_block below
  within holding at i below pinned leads =
      let x = pinned_held (held_at p.held at) pinned in
      let b = (holding.good at x.0 x.1).within.each i below (ap (λ (c : Content). target (c.slot i)) (sym (held_content p first count at x.0 placed holding x.1)) ∙ leads) in
      (subst (λ n. n ≤ below) (sym placed.is_first) b.0, subst (λ n. below < n) (sym placed.is_count) b.1)

  pub small : (at : ℕ) → (state_of p).is_block at → at < 2 ^ 32 - 1
  small at is = let lt = is.1 in let few = placed.small in let e = placed.is_count in omega (arith, few, lt, e)

  pub spelled : Holding p.one.low first count p.region p.held → (at i : ℕ) → IsPinned p.held at → i < slot_count ((state_of p).label at).kind → SlotFits ((state_of p).label at).kind i ((memory p at).slot i)
  spelled holding at i pinned lt =
      let x = pinned_held (held_at p.held at) pinned in
      subst (λ (c : Content). SlotFits (label_at p.region at).kind i (c.slot i)) (sym (held_content p first count at x.0 placed holding x.1)) ((holding.good at x.0 x.1).slots.fit i lt)

  pub waits_in_use : Holding p.one.low first count p.region p.held → Waiting p.region p.held p.waits → (a on j : ℕ) → (state_of p).waits a on j → IsPairUsed (memory p) on j
  waits_in_use holding waiting a on j w =
      let x = found (held_at p.held on) (λ (y : Buffer). is_active ((read (label_at p.region on).kind y.block).slot (2 * (j / 2)))) (waiting.used a on (j / 2) w) in
      let here = held_content p first count on x.0 placed holding x.1 in
      let used = active_used ((memory p on).slot (2 * (j / 2))) (ap (λ (c : Content). is_active (c.slot (2 * (j / 2)))) here ∙ x.2) in
      ⊎_elim
      (λ e. inl (subst (λ n. (g : ℕ) × IsInUse ((memory p on).slot n) g) (sym e) used))
      (λ e. inr (j / 2, e, used))
      (halves j)
    where
      found : (o : Option Buffer) (f : Buffer → Bool) → option_map_or f o false ≡ true → (y : Buffer) × (o ≡ Some y) × (f y ≡ true)
      found (Some y) f e = (y, refl, e)
      found None f e = absurd (cc)

      active_used : (s : Slot) → is_active s ≡ true → (g : ℕ) × IsInUse s g
      active_used (Head e) h = (e.generation, (h, refl))
      active_used (To q) h = absurd (cc)
      active_used (Prev m n) h = absurd (cc)

      rest_cases : (r : ℕ) → r < 2 → (r ≡ 0) ⊎ (r ≡ 1)
      rest_cases zero lt = inl refl
      rest_cases (suc zero) lt = inr refl
      rest_cases (suc (suc r)) lt = absurd (omega (arith, lt))

      halves : (k : ℕ) → (k ≡ 2 * (k / 2)) ⊎ (k ≡ 2 * (k / 2) + 1)
      halves k = ⊎_elim (λ e. inl (omega (arith, e))) (λ e. inr (omega (arith, e))) (rest_cases (k - 2 * (k / 2)) (omega arith))

pub one_doubt : (p : Parts) (c d : Content) → (state_of p).doubt c → (state_of p).doubt d → SameContent c d
one_doubt p c d x y = by p.doubt x y
  where
    by : (o : Option (List ℕ)) → IsDoubt p.one o c → IsDoubt p.one o d → SameContent c d
    by (Some bytes) x y = record { bytes = x.bytes ∙ sym y.bytes; slots = λ i. x.slots i ∙ sym (y.slots i) }
    by None x y = absurd x

pub one_place : (p : Parts) → OnePlace (state_of p).stands
one_place p = record { each = λ b x y s t. absurd s }

pub one_spot : (p : Parts) → OneSpot (state_of p).tops (state_of p).may_leave
one_spot p = record { each = λ image other b x y h. absurd h }

pub in_each : (p : Parts) (at : ℕ) → InEach (state_of p).now at (state_of p).may_leave
in_each p at = record { each = λ image h. absurd h }

pub super_known : (p : Parts) → HasSuper (state_of p).now (state_of p).doubt (state_of p).may_leave
super_known p = record { each = λ image h. absurd h }

pub keeps_at_once : (p : Parts) → CacheKeeps p p
keeps_at_once p = record { first = refl; count = refl; high = refl; low = refl; root = refl; faults = omega arith }

pub keeps_joins : (p q r : Parts) → CacheKeeps p q → CacheKeeps q r → CacheKeeps p r
keeps_joins p q r a b = record {
  first = b.first ∙ a.first;
  count = b.count ∙ a.count;
  high = b.high ∙ a.high;
  low = b.low ∙ a.low;
  root = b.root ∙ a.root;
  faults = let x = a.faults in let y = b.faults in omega (arith, x, y);
}

pub keeps_all : (p q : Parts) → CacheKeeps p q → KeepsAll (state_of p) (state_of q)
keeps_all p q k =
    let e = k.first in
    let f = k.count in
    record {
      same_high = k.high;
      same_low = k.low;
      same_root = k.root;
      same_tops = λ t. (λ h. h, λ h. h);
      same_blocks = λ b. (λ h. let lo = h.0 in let hi = h.1 in (omega (arith, lo, e), omega (arith, hi, e, f)), λ h. let lo = h.0 in let hi = h.1 in (omega (arith, lo, e), omega (arith, hi, e, f)));
      same_held = λ score kind. refl;
      same_limit = λ c. refl;
      same_label_blocks = λ b. refl;
      still_tells = (λ h. h, λ h. h);
      more_faults = k.faults;
      more_arena_faults = omega arith;
    }
