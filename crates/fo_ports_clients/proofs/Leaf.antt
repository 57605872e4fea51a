-- One byte of a leaf is put.
use Rattle.std.proofs.Common.{◌≡◌, ◌≢◌, ◌⊎◌, inl, inr, ⊎_elim, ℕ, ◌%◌, ◌<◌, zero, suc, Bool, true, false, List, [], ◌∷◌, ◌++◌, length, get_or, take, drop, refl, sym, ◌∙◌, ap, subst, arith, add-one}
use Rattle.std.proofs.lemmas.Bool.{cases_eq}
use Rattle.fo_image.specs.declared.types.Entry.{Entry}
use Rattle.fo_image.specs.declared.types.Kind.{Kind}
use Rattle.fo_image.specs.declared.types.Kind.TheVariants.{Data, Dir, Root}
use Rattle.fo_image.specs.declared.types.Pointer.{Pointer}
use Rattle.fo_image.specs.declared.types.Pointer.TheVariants.{Nil, Local}
use Rattle.fo_image.specs.Format.{ActiveHolds}
use Rattle.fo_crash.specs.declared.slot.Slot.{Slot}
use Rattle.fo_crash.specs.declared.slot.Slot.TheVariants.{Pointer as To, Entry as Head, Prev}
use Rattle.fo_crash.specs.Images.{Image, target, depth_of, to_block, Reaches}
use Rattle.fo_crash.specs.Steps.{AddsBytes, AddsNothing, Covers, PutsBytes, PutsSlot, cleared}
use Rattle.fo_crash.specs.Names.{InAll, IsInUse}
use Rattle.fo_crash.specs.Places.{OnePlace}
use Rattle.fo_crash.specs.declared.place.Place.{Place}
use Rattle.fo_crash.proofs.Reach.{lost, reaches_on, same_walk}
use Rattle.fo_crash.proofs.Covers.{slot_reaches}
use Rattle.fo_ports.specs.Blocks.{slot_count, SlotFits, IsFormed, IsInner, put_at, dropped, cost, ends}
use Rattle.fo_ports.specs.State.{State, KeepsAll, IsHeld, IsPointers, IsRooted, Calm, Frame, Hangs, MayPutSlot, MayRemoveSlot}
use Rattle.fo_ports_clients.proofs.Copies.{put_places}
use Rattle.fo_ports_clients.specs.Leaf.{Lists}

put_other : (xs : List ℕ) (i v j : ℕ) → i < length xs → j ≢ i → get_or (take i xs ++ (v ∷ []) ++ drop (suc i) xs) j 0 ≡ get_or xs j 0
put_other [] i v j lt ne = absurd (omega arith)
put_other (x ∷ xs) zero v zero lt ne = absurd (ne refl)
put_other (x ∷ xs) zero v (suc j) lt ne = refl
put_other (x ∷ xs) (suc i) v zero lt ne = refl
put_other (x ∷ xs) (suc i) v (suc j) lt ne = put_other xs i v j (omega arith) (λ e. ne (ap suc e))

put_here : (xs : List ℕ) (i v : ℕ) → i < length xs → get_or (take i xs ++ (v ∷ []) ++ drop (suc i) xs) i 0 ≡ v
put_here [] i v lt = absurd (omega arith)
put_here (x ∷ xs) zero v lt = refl
put_here (x ∷ xs) (suc i) v lt = put_here xs i v (omega arith)

-- one byte that is put
one_put : (old : List ℕ) (i v : ℕ) → put_at i (v ∷ []) old ≡ take i old ++ (v ∷ []) ++ drop (suc i) old
one_put old i v = ap (λ n. take i old ++ (v ∷ []) ++ drop n old) (add-one i)

pub gone : (old : List ℕ) (i v : ℕ) → i < length old → get_or (put_at i (v ∷ []) old) i 0 ≡ v
gone old i v lt = ap (λ (xs : List ℕ). get_or xs i 0) (one_put old i v) ∙ put_here old i v lt

-- what the new leaf lists
pub put_lists : (old : List ℕ) (i v : ℕ) → i < length old → (j g : ℕ) → Lists (put_at i (v ∷ []) old) j g → Lists old j g ⊎ ((j ≡ i) × (g ≡ v))
put_lists old i v lt j g lists = ⊎_elim
    (λ e. inr (e, sym lists.0 ∙ ap (λ n. get_or (put_at i (v ∷ []) old) n 0) e ∙ gone old i v lt))
    (λ ne. inl (sym (put_other old i v j lt ne) ∙ ap (λ (xs : List ℕ). get_or xs j 0) (sym (one_put old i v)) ∙ lists.0, lists.1))
    (cases_eq j i)

pub bytes_beside : {now : Image} {at : ℕ} {bytes : List ℕ} {P Q : Image → Type 0} {old new : Image → Type 0} → AddsBytes now at bytes P old new → ((image : Image) → P image → Q image) → AddsBytes now at bytes Q old new
bytes_beside a implies = record { each = λ image is. ⊎_elim (λ before. inl before) (λ h. inr (h.0, h.1, implies image h.2)) (a.each image is) }

pub still_all : {P : Image → Type 0} {old new : Image → Type 0} → InAll P old → AddsNothing old new → InAll P new
still_all all add = record { each = λ image is. all.each image (add.each image is) }

-- A slot that names nothing reaches nothing.
pub nil_reaches : {now : Image} (s : Slot) (b : ℕ) → target s ≡ Nil → Reaches now s b → ⊥
nil_reaches {now} s b nil r = lost now r.path s (λ c h. let both : Nil ≡ Local c = sym nil ∙ h in cc) b r.leads

-- an entry that is not active
entry : (x : Entry) (active : Bool) → x.active ≡ active → ActiveHolds x.active x → ((g : ℕ) → (x.active ≡ true) × (x.generation ≡ g) → ⊥) → (x.top ≡ Nil) × (x.depth ≡ 0)
entry x true is holds free = absurd (free x.generation (is, refl))
entry x false is holds free =
    let none : ActiveHolds false x = subst (λ t. ActiveHolds t x) is holds in
    (none.4, none.1)

-- An entry that fits and is not in use names nothing, at no depth.
pub free_is_empty : (kind : Kind) (i : ℕ) (s : Slot) → SlotFits kind i s → ((g : ℕ) → IsInUse s g → ⊥) → (e : Entry) → SlotFits kind i (Head e) → (target s ≡ Nil) × (depth_of s ≡ 0)
free_is_empty (Data level) i s fits free e is = absurd is
free_is_empty (Dir zero) i (Head x) fits free e is = entry x x.active refl fits.0.active_holds free
free_is_empty (Dir zero) i (To p) fits free e is = absurd fits
free_is_empty (Dir zero) i (Prev x y) fits free e is = absurd fits
free_is_empty (Dir (suc level)) i s fits free e is = absurd is
free_is_empty Root zero (Head x) fits free e is = entry x x.active refl fits.0.active_holds free
free_is_empty Root zero (To p) fits free e is = absurd fits
free_is_empty Root zero (Prev x y) fits free e is = absurd fits
free_is_empty Root (suc zero) (Head x) fits free e is = entry x x.active refl fits.0.active_holds free
free_is_empty Root (suc zero) (To p) fits free e is = absurd fits
free_is_empty Root (suc zero) (Prev x y) fits free e is = absurd fits
free_is_empty Root (suc (suc i)) s fits free e is = absurd is

pub never_drops : (old new : Slot) (n : ℕ) → depth_of old ≡ 0 → n < dropped old new → ⊥
never_drops old new n empty lt =
    let none : dropped old new ≡ 0 = omega (arith, empty) in
    omega (arith, none, lt)

-- a block has at most 409 slots
pub few_slots : (kind : Kind) (i : ℕ) → i < slot_count kind → i < 409
few_slots (Data zero) i lt = omega arith
few_slots (Data (suc level)) i lt = lt
few_slots (Dir zero) i lt = omega arith
few_slots (Dir (suc level)) i lt = lt
few_slots Root i lt = omega arith

-- What was taken out of the tree of memory is nothing.
pub still_uncovered : {inner : ℕ → Type 0} {now next : Image} {s : Slot} {old new : ℕ → Type 0} (b : ℕ) → Covers inner s now next old new → target s ≡ Nil → (old b → ⊥) → new b → ⊥
still_uncovered {s = s} b covers nil none h = covers.only b none (λ r. nil_reaches s b nil r) h

-- the one place of a block that still stands there
pub place_is : {new : ℕ → Place → Type 0} (b : ℕ) (p q : Place) → OnePlace new → new b p → new b q → q ≡ p
place_is b p q one before now = one.each b q p now before

-- A leaf that holds no records is of its format where it is whole.
pub plain_formed : (kind : Kind) (rank : ℕ) (bytes : List ℕ) → kind ≡ Data 0 → rank % 32 ≢ 16 → length bytes ≡ 8192 → IsFormed kind rank bytes
plain_formed kind rank bytes is plain long = subst (λ (k : Kind). IsFormed k rank bytes) (sym is) (long, λ e. absurd (plain e))

pub nil_local : {a : ℕ} {p : Pointer} → p ≡ Nil → p ≡ Local a → ⊥
nil_local nil e = cc

-- What leads nowhere and has no depth costs no removal to replace.
pub nil_cost : (old new : Slot) → depth_of old ≡ 0 → target old ≡ Nil → cost old new ≡ 0
nil_cost old new flat nil =
    let none : dropped old new ≡ 0 = omega (arith, flat) in
    let ends_none : ends (target old) (target new) ≡ 0 = ap (λ p. ends p (target new)) nil in
    omega (arith, none, ends_none)

-- A slot that leads nowhere may be put where nothing hangs.
pub may_put_nil : {s : State} (at i : ℕ) (slot : Slot) → target slot ≡ Nil → target ((s.now at).slot i) ≡ Nil → depth_of ((s.now at).slot i) ≡ 0 → (s.covered at → ⊥) → IsHeld s at → MayPutSlot s at i slot
may_put_nil {s = s} at i slot nil none flat uncovered held = record {
  brings = record { each = λ b r. absurd (nil_reaches slot b nil r) };
  fits = record { each = λ b p stands e. absurd (nil_local nil e) };
  lower = λ b p stands e. absurd (nil_local nil e);
  parent = record { each = λ b e older. absurd (nil_local nil e) };
  comes = λ b e. absurd (nil_local nil e);
  leaves = record { each = λ y x is r. absurd (nil_reaches ((s.now at).slot i) x none r); still = λ b j waits r. absurd (nil_reaches ((s.now at).slot i) b none r) };
  uncovered = uncovered;
  first = λ inner zero x e. absurd (nil_local none e);
  holder = held;
  entry = λ outer x e ne. absurd (nil_local none e);
  linked = λ some. let free = nil_cost ((s.now at).slot i) slot flat none in absurd (omega (arith, some, free));
  keeps = λ c e. absurd (nil_local none e);
}

-- An entry of a leaf of the tree may be cleared where nothing is to come in the place of another block and nothing below it waits.
pub may_remove : {s : State} (at i : ℕ) → (s.label at).kind ≡ Dir 0 → ((y x : ℕ) → s.instead y x → ⊥) → ((b j : ℕ) → s.clearing b j → Reaches s.now ((s.now at).slot i) b → ⊥) → (s.covered at → ⊥) → Reaches s.now (to_block 1) at → MayRemoveSlot s at i
may_remove {s = s} at i kind linked quiet uncovered reached = record {
  leaves = record { each = λ y x is r. absurd (linked y x is); still = λ b j waits r. absurd (quiet b j waits r) };
  uncovered = uncovered;
  first = λ inner zero. let none : 0 < 0 = subst (λ (k : Kind). IsInner k) kind inner in omega (arith, none);
  holder = inl reached;
  linked = λ c e. reached;
  keeps = λ c e. reaches_on i reached e;
}

-- After a put of a slot that leads nowhere no block more comes in the place of another.
pub nil_instead : {at i n : ℕ} {slot : Slot} {put : ℕ → Type 0} {old new : State} → Frame (λ b. b ≡ at) put n old new → Hangs at i slot old new → ((b : ℕ) → target slot ≢ Local b) → ((b : ℕ) → put b → (b ≡ at) ⊎ (target slot ≡ Local b)) → (y x : ℕ) → new.instead y x → old.instead y x
nil_instead {at = at} {old = old} {new = new} frame hangs nowhere is_put y x is = ⊎_elim
    (λ here. subst (λ z. old.instead z x) (sym here) (⊎_elim (λ was. was) (λ raised. absurd (nowhere raised.1.0 raised.1.1)) (hangs.raised x (subst (λ z. new.instead z x) here is))))
    (λ other. (frame.stays.instead y x (λ n. n) (λ p. ⊎_elim other (nowhere y) (is_put y p))).0 is)
    (cases_eq y at)

pub cleared_nowhere : (s : Slot) (b : ℕ) → target (cleared s) ≢ Local b
cleared_nowhere (To p) b e = cc
cleared_nowhere (Head x) b e = cc
cleared_nowhere (Prev epoch at) b e = cc

-- After a put of a slot that leads nowhere, where nothing hung, all that hang stand where they stood.
pub nil_places : {at i : ℕ} {slot : Slot} {n : ℕ} {old new : State} → old.tells → Frame (λ b. b ≡ at) (λ b. (b ≡ at) ⊎ (target slot ≡ Local b)) n old new → Hangs at i slot old new → Covers (IsPointers old) ((old.now at).slot i) old.now new.now old.covered new.covered
    → target slot ≡ Nil → target ((old.now at).slot i) ≡ Nil → (b : ℕ) (p : Place) → (old.covered b → ⊥) → IsRooted new b → old.stands b p → new.stands b p
nil_places {at = at} {i = i} {slot = slot} {old = old} {new = new} told frame hangs covers nil none b p uncovered rooted stands = put_places told frame hangs b p (λ e. nil_local nil e) (still_uncovered b covers none uncovered) rooted stands

-- Where bytes are put, what was reached still is.
pub bytes_reached : {now next : Image} {at : ℕ} {bytes : List ℕ} {t : Slot} {c : ℕ} → PutsBytes at bytes now next → Reaches now t c → Reaches next t c
bytes_reached {now = now} {next = next} {t = t} puts r = record { path = r.path; leads = ap target (same_walk next now puts.slots r.path t) ∙ r.leads }

-- What hangs from block 1, or from a block that is apart, hangs.
pub held_rooted : (s : State) (b : ℕ) → s.tops 1 → IsHeld s b → IsRooted s b
held_rooted s b top h = ⊎_elim (λ r. (1, inl top, r)) (λ w. (w.0, inr w.1, w.2)) h

-- After a put of a slot that leads nowhere, where nothing hung, what hung hangs.
pub nil_rooted : {at i n : ℕ} {slot : Slot} {old new : State} → KeepsAll old new → Frame (λ b. b ≡ at) (λ b. (b ≡ at) ⊎ (target slot ≡ Local b)) n old new → Hangs at i slot old new → PutsSlot at i slot old.now new.now → target slot ≡ Nil → target ((old.now at).slot i) ≡ Nil → (b : ℕ) → IsRooted old b → IsRooted new b
nil_rooted {at = at} {i = i} {slot = slot} {old = old} {new = new} all frame hangs puts nil none b h = (
  h.0,
  ⊎_elim (λ top. inl ((all.same_tops h.0).1 top)) (λ apart. inr (still h.0 apart)) h.1,
  ⊎_elim
      (λ r. r)
      (λ r. absurd (nil_reaches ((old.now at).slot i) b none r))
      (slot_reaches {now = new.now} {next = old.now} {at = at} {i = i} (record { bytes = λ x. sym (puts.bytes x); here = refl; others = λ x j ne. sym (puts.others x j ne) }) h.2),
)
  where
    still : (t : ℕ) → old.apart t → new.apart t
    still t = ⊎_elim
        (λ e. subst (λ x. old.apart x → new.apart x) (sym e) (hangs.at_apart (λ to. nil_local nil to)).1)
        (λ ne. (frame.stays.apart t (λ n. n) (⊎_elim ne (λ to. nil_local nil to))).1)
        (cases_eq t at)

-- So does what hung before a call that leaves slots as they are.
pub calm_rooted : {here : ℕ → Type 0} {n : ℕ} {old new : State} → KeepsAll old new → Calm here n old new → ((x j : ℕ) → (new.now x).slot j ≡ (old.now x).slot j) → (b : ℕ) → IsRooted old b → IsRooted new b
calm_rooted {old = old} {new = new} all calm slots b h = (
  h.0,
  ⊎_elim (λ top. inl ((all.same_tops h.0).1 top)) (λ apart. inr ((calm.frame.stays.apart h.0 (λ n. n) (λ n. n)).1 apart)) h.1,
  record { path = h.2.path; leads = ap target (same_walk new.now old.now slots h.2.path (to_block h.0)) ∙ h.2.leads },
)
