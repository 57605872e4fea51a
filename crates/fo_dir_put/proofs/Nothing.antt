-- An entry that leads nowhere is put where none is in use.
use Rattle.std.proofs.Common.{◌≡◌, ◌⊎◌, inl, inr, ⊎_elim, ℕ, ◌<◌, Bool, true, false, refl, sym, ap, subst, arith}
use Rattle.std.proofs.lemmas.Bool.{cases_eq}
use Rattle.fo_image.specs.declared.types.Entry.{Entry}
use Rattle.fo_image.specs.declared.types.Kind.{Kind}
use Rattle.fo_image.specs.declared.types.Kind.TheVariants.{Dir}
use Rattle.fo_image.specs.declared.types.Pointer.{Pointer}
use Rattle.fo_image.specs.declared.types.Pointer.TheVariants.{Nil, Local}
use Rattle.fo_image.specs.Format.{ActiveHolds}
use Rattle.fo_crash.specs.declared.slot.Slot.{Slot}
use Rattle.fo_crash.specs.declared.slot.Slot.TheVariants.{Pointer as To, Entry as Head, Prev}
use Rattle.fo_crash.specs.declared.place.Place.{Place}
use Rattle.fo_crash.specs.Images.{Image, target, depth_of, to_block, Reaches}
use Rattle.fo_crash.specs.Steps.{Covers, PutsSlot}
use Rattle.fo_crash.specs.Names.{IsInUse}
use Rattle.fo_crash.proofs.Reach.{lost, reaches_on}
use Rattle.fo_crash.proofs.Covers.{slot_reaches}
use Rattle.fo_ports.specs.Blocks.{SlotFits, IsInner, dropped, cost, ends}
use Rattle.fo_ports.specs.State.{State, KeepsAll, Frame, Hangs, IsRooted, MayPutSlot, MayRemoveSlot}

pub nil_local : {a : ℕ} {p : Pointer} → p ≡ Nil → p ≡ Local a → ⊥
nil_local nil e = cc

-- A slot that names nothing reaches nothing.
pub nil_reaches : {now : Image} (s : Slot) (b : ℕ) → target s ≡ Nil → Reaches now s b → ⊥
nil_reaches {now} s b nil r = lost now r.path s (λ c h. nil_local nil h) b r.leads

-- an entry that is not active
entry : (x : Entry) (active : Bool) → x.active ≡ active → ActiveHolds x.active x → ((g : ℕ) → (x.active ≡ true) × (x.generation ≡ g) → ⊥) → (x.top ≡ Nil) × (x.depth ≡ 0)
entry x true is holds free = absurd (free x.generation (is, refl))
entry x false is holds free =
    let none : ActiveHolds false x = subst (λ t. ActiveHolds t x) is holds in
    (none.4, none.1)

-- An entry that fits and is not in use names nothing, at no depth.
pub free_is_empty : (kind : Kind) (i : ℕ) (s : Slot) → kind ≡ Dir 0 → SlotFits kind i s → ((g : ℕ) → IsInUse s g → ⊥) → (target s ≡ Nil) × (depth_of s ≡ 0)
free_is_empty kind i s is fits free = by s (subst (λ (k : Kind). SlotFits k i s) is fits) free
  where
    by : (t : Slot) → SlotFits (Dir 0) i t → ((g : ℕ) → IsInUse t g → ⊥) → (target t ≡ Nil) × (depth_of t ≡ 0)
    by (Head x) h none = entry x x.active refl h.0.active_holds none
    by (To p) h none = absurd h
    by (Prev x y) h none = absurd h

pub never_drops : (old new : Slot) (n : ℕ) → depth_of old ≡ 0 → n < dropped old new → ⊥
never_drops old new n empty lt =
    let none : dropped old new ≡ 0 = omega (arith, empty) in
    omega (arith, none, lt)

-- What leads nowhere and has no depth costs no removal to replace.
pub nil_cost : (old new : Slot) → depth_of old ≡ 0 → target old ≡ Nil → cost old new ≡ 0
nil_cost old new flat nil =
    let none : dropped old new ≡ 0 = omega (arith, flat) in
    let ends_none : ends (target old) (target new) ≡ 0 = ap (λ p. ends p (target new)) nil in
    omega (arith, none, ends_none)

-- A slot that leads nowhere may be put where nothing hangs.
pub may_put_nil : {s : State} (at i : ℕ) (slot : Slot) → target slot ≡ Nil → target ((s.now at).slot i) ≡ Nil → (s.covered at → ⊥) → Reaches s.now (to_block 1) at → MayPutSlot s at i slot
may_put_nil {s = s} at i slot nil none uncovered reached = record {
  brings = record { each = λ b r. absurd (nil_reaches slot b nil r) };
  fits = record { each = λ b p stands e. absurd (nil_local nil e) };
  lower = λ b p stands e. absurd (nil_local nil e);
  parent = record { each = λ b e older. absurd (nil_local nil e) };
  comes = λ b e. absurd (nil_local nil e);
  leaves = record { each = λ y x is r. absurd (nil_reaches ((s.now at).slot i) x none r); still = λ b j waits r. absurd (nil_reaches ((s.now at).slot i) b none r) };
  uncovered = uncovered;
  first = λ inner zero x e. absurd (nil_local none e);
  holder = inl reached;
  linked = λ costs. reached;
  entry = λ outer b e ne. reached;
  keeps = λ c e. absurd (nil_local none e);
}

-- What was taken out of the tree of memory is nothing.
pub still_uncovered : {inner : ℕ → Type 0} {now next : Image} {s : Slot} {old new : ℕ → Type 0} (b : ℕ) → Covers inner s now next old new → target s ≡ Nil → (old b → ⊥) → new b → ⊥
still_uncovered {s = s} b covers nil none h = covers.only b none (λ r. nil_reaches s b nil r) h

-- After the put all that hang stand where they stood.
pub put_places : {at i : ℕ} {slot : Slot} {n : ℕ} {old new : State} → old.tells → Frame (λ b. b ≡ at) (λ b. (b ≡ at) ⊎ (target slot ≡ Local b)) n old new → Hangs at i slot old new → target slot ≡ Nil → (b : ℕ) (p : Place) → (new.covered b → ⊥) → IsRooted new b → old.stands b p → new.stands b p
put_places {at = at} {old = old} {new = new} told frame hangs nil b p spared rooted stands = ⊎_elim
    (λ is. subst (λ x. new.stands x p) (sym is) (hangs.at_place told p (λ h. spared (subst (λ x. new.covered x) (sym is) h)) (subst (λ x. old.stands x p) is stands)))
    (λ ne. frame.stays.places told b p (λ n. n) (λ h. ⊎_elim (λ e. ne e) (λ e. nil_local nil e) h) spared rooted stands)
    (cases_eq b at)

pub put_apart : {at i : ℕ} {slot : Slot} {n : ℕ} {old new : State} → Frame (λ b. b ≡ at) (λ b. (b ≡ at) ⊎ (target slot ≡ Local b)) n old new → Hangs at i slot old new → target slot ≡ Nil → (b : ℕ) → old.apart b → new.apart b
put_apart {at = at} {old = old} {new = new} frame hangs nil b h = ⊎_elim
    (λ is. subst new.apart (sym is) ((hangs.at_apart (λ e. nil_local nil e)).1 (subst old.apart is h)))
    (λ ne. (frame.stays.apart b (λ n. n) (λ k. ⊎_elim (λ e. ne e) (λ e. nil_local nil e) k)).1 h)
    (cases_eq b at)

pub put_instead : {at i : ℕ} {slot : Slot} {n : ℕ} {old new : State} → Frame (λ b. b ≡ at) (λ b. (b ≡ at) ⊎ (target slot ≡ Local b)) n old new → Hangs at i slot old new → target slot ≡ Nil → (b x : ℕ) → new.instead b x → old.instead b x
put_instead {at = at} {old = old} {new = new} frame hangs nil b x h = ⊎_elim
    (λ is. subst (λ y. old.instead y x) (sym is) (⊎_elim (λ was. was) (λ raised. absurd (nil_local nil raised.1.1)) (hangs.raised x (subst (λ y. new.instead y x) is h))))
    (λ ne. (frame.stays.instead b x (λ n. n) (λ k. ⊎_elim (λ e. ne e) (λ e. nil_local nil e) k)).0 h)
    (cases_eq b at)

-- Where nothing hung from the slot, what was reached still is.
pub reached_on : {at i : ℕ} {s t : Slot} {now next : Image} {c : ℕ} → PutsSlot at i s now next → target ((now at).slot i) ≡ Nil → Reaches now t c → Reaches next t c
reached_on {at = at} {i = i} {now = now} {next = next} {c = c} puts nil r = ⊎_elim (λ still. still) (λ below. absurd (nil_reaches ((now at).slot i) c nil below)) (slot_reaches back r)
  where
    back : PutsSlot at i ((now at).slot i) next now
    back = record { bytes = λ b. sym (puts.bytes b); here = refl; others = λ b j ne. sym (puts.others b j ne) }

-- An entry of a leaf of the tree may be cleared where nothing is to come in the place of another block and nothing below it waits.
pub may_remove : {s : State} (at i : ℕ) → (s.label at).kind ≡ Dir 0 → ((y x : ℕ) → s.instead y x → ⊥) → ((b j : ℕ) → s.clearing b j → Reaches s.now ((s.now at).slot i) b → ⊥) → (s.covered at → ⊥) → Reaches s.now (to_block 1) at → MayRemoveSlot s at i
may_remove {s = s} at i kind linked quiet uncovered reached = record {
  leaves = record { each = λ y x is r. absurd (linked y x is); still = λ b j waits r. absurd (quiet b j waits r) };
  uncovered = uncovered;
  first = λ inner zero. let none : 0 < 0 = subst (λ (k : Kind). IsInner k) kind inner in omega (arith, none);
  holder = inl reached;
  linked = λ c e. reached;
  keeps = λ c e. reaches_on i reached e;
}

-- what hung goes on to where tops stay, and what is apart and what is reached
pub rooted_on : {old new : State} {b : ℕ} → KeepsAll old new → ((t : ℕ) → old.apart t → new.apart t) → ((t : ℕ) → Reaches old.now (to_block t) b → Reaches new.now (to_block t) b) → IsRooted old b → IsRooted new b
rooted_on all aparts reach h = (h.0, ⊎_elim (λ top. inl ((all.same_tops h.0).1 top)) (λ apart. inr (aparts h.0 apart)) h.1, reach h.0 h.2)
