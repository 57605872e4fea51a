-- What a step keeps of doubts, and of what leaves wait for.
use Rattle.std.proofs.Common.{◌≡◌, ◌≢◌, ◌⊎◌, inl, inr, ⊎_elim, ℕ, ◌+◌, ◌*◌, ◌/◌, Bool, true, false, not, ◌&&◌, ◌||◌, cond, nat_eq, List, [], refl, sym, ◌∙◌, ap, subst, arith}
use Rattle.std.proofs.lemmas.Bool.{cases_eq, cases_lt}
use Rattle.std.specs.List.{Contains}
use Rattle.fo_disk.specs.Disk.{Content as Holds}
use Rattle.fo_crash.specs.declared.slot.Slot.{Slot}
use Rattle.fo_crash.specs.declared.slot.Slot.TheVariants.{Pointer as To, Entry as Head, Prev}
use Rattle.fo_crash.specs.declared.place.Place.{Place}
use Rattle.fo_crash.specs.Images.{Content, Image, SameContent}
use Rattle.fo_crash.specs.Names.{IsInUse, SameUse}
use Rattle.fo_cells.specs.Known.{Known, Wait, IsWait}
use Rattle.fo_cells.specs.Device.{known}
use Rattle.fo_cells.specs.Writes.{Puts, Fires, Gives}
use Rattle.fo_cells.specs.Flags.{Flags, IsUnmarked, marked}
use Rattle.fo_cells.specs.Laws.{NoWait}
use Rattle.fo_cells.proofs.Flags.{unmarked_set}
use Rattle.fo_cells_out.specs.Origins.{Origins}
use Rattle.fo_cells_out.proofs.Queue.{nothing_among}
use Rattle.fo_cells_held.specs.Room.{Used}
use Rattle.fo_cells_all.specs.All.{Kept, Format}
use Rattle.fo_cells_steps.specs.Division.{HoldsMade}
use Rattle.fo_cells_steps.specs.Calls.{Beside, SameEpoch}
use Rattle.fo_cells_supers.proofs.Counting.{overruled_made}
use Rattle.fo_cells_whole.specs.Awaited.{WaitsUsed, AwaitsPairs, NoneAwaits}
use Rattle.fo_cells_whole.specs.Whole.{doubts_left}

-- After a step there is no doubt where block 1 has no flag, and what is waited for is in use, if it was so before.
pub record KeepsMore (c d : Kept) : Type 0 where
  pub certain : (IsUnmarked c.flags 1 → c.doubts ≡ []) → IsUnmarked d.flags 1 → d.doubts ≡ []
  pub awaited : WaitsUsed c.mind.waits c.mind.memory → WaitsUsed d.mind.waits d.mind.memory

-- ---- flags of block 1

-- a call in memory takes no flag away
pub unmarked_was : {c d : Kept} {f : Format} {x : Used} {holds : Holds} → Beside c d f x holds → IsUnmarked d.flags 1 → IsUnmarked c.flags 1
unmarked_was b u = record {
  clean = (b.steps.changes.still 1 u.clean).0;
  unwritten = sym (b.steps.changes.wrote 1) ∙ u.unwritten;
  sound = sym (b.steps.changes.failed 1) ∙ u.sound;
}

pub more_by : {c d : Kept} {f : Format} {x : Used} {holds : Holds} → SameEpoch c d → Beside c d f x holds → (WaitsUsed c.mind.waits c.mind.memory → WaitsUsed d.mind.waits d.mind.memory) → KeepsMore c d
more_by e b awaited = record { certain = λ before now. e.doubts ∙ before (unmarked_was b now); awaited = awaited }

-- nor does a write, whatever is answered
pub marked_was : (at : ℕ) (ok is_complete : Bool) (f : Flags) → IsUnmarked (marked at ok is_complete f) 1 → IsUnmarked f 1
marked_was at ok is_complete f u = by_answer (nat_eq 1 at) ok u.clean u.unwritten u.sound
  where
    by_answer : (here answer : Bool) → cond here (not (answer && is_complete)) (f.dirty 1) ≡ false → cond here answer (f.wrote 1) ≡ false → cond here (not answer) (f.failed 1) ≡ false → IsUnmarked f 1
    by_answer false answer clean unwritten sound = record { clean = clean; unwritten = unwritten; sound = sound }
    by_answer true true clean unwritten sound = absurd (cc)
    by_answer true false clean unwritten sound = absurd (cc)

none_on : (a b c : Bool) → a ≡ false → b ≡ false → c ≡ false → (a || (b || c)) ≡ false
none_on true b c x y z = absurd (cc)
none_on false true c x y z = absurd (cc)
none_on false false true x y z = absurd (cc)
none_on false false false x y z = refl

all_off : (a b c : Bool) → (a || (b || c)) ≡ false → (a ≡ false) × (b ≡ false) × (c ≡ false)
all_off true b c e = absurd (cc)
all_off false true c e = absurd (cc)
all_off false false true e = absurd (cc)
all_off false false false e = (refl, refl, refl)

-- where it has none nothing is left in doubt
pub none_left : (f : Flags) (doubts : List Content) → IsUnmarked f 1 → doubts_left f doubts ≡ []
none_left f doubts u = ap (λ (on : Bool). cond on doubts []) (none_on (f.dirty 1) (f.wrote 1) (f.failed 1) u.clean u.unwritten u.sound)

-- and all else is as with the doubt, as block 1 is settled with what memory has
pub left_made : (c : Kept) {f : Format} {Made : ℕ → Type 0} {h : Origins} {unsure : List Bool} {holds : Holds} → HoldsMade c f Made h unsure holds → HoldsMade (record c { doubts = doubts_left c.flags c.doubts }) f Made h unsure holds
left_made c {f} {Made} {h} {unsure} {holds} all = by_flags (c.flags.dirty 1 || (c.flags.wrote 1 || c.flags.failed 1)) refl
  where
    quiet : (c.flags.dirty 1 || (c.flags.wrote 1 || c.flags.failed 1)) ≡ false → (s : Content) → Contains ((known c.mind holds).versions 1) s → SameContent s (c.mind.memory 1)
    quiet e =
        let off = all_off (c.flags.dirty 1) (c.flags.wrote 1) (c.flags.failed 1) e in
        let one : IsUnmarked c.flags 1 = record { clean = off.0; unwritten = off.1; sound = off.2 } in
        (unmarked_set 1 all.all.flags one all.all.epochs.safe.settled (λ i leaf is. (all.all.epochs.safe.clears 1 i leaf is).1 refl)).versions

    by_flags : (on : Bool) → (c.flags.dirty 1 || (c.flags.wrote 1 || c.flags.failed 1)) ≡ on → HoldsMade (record c { doubts = cond on c.doubts [] }) f Made h unsure holds
    by_flags true e = all
    by_flags false e = overruled_made (quiet e) all

-- ---- who waits

-- nobody waits
pub none_awaited : (c : Kept) → c.mind.waits ≡ [] → WaitsUsed c.mind.waits c.mind.memory
none_awaited c none = subst (λ (ws : List Wait). WaitsUsed ws c.mind.memory) (sym none) (record {
  pairs = λ leaf on k is. absurd (nothing_among is.wait is.among);
  used = λ leaf on k is. absurd (nothing_among is.wait is.among);
})

-- the same leaves wait, and first entries that are waited for stay in use
pub awaited_by : {old new : List Wait} (m n : Image) → ((leaf on j : ℕ) → IsWait new leaf on j → IsWait old leaf on j) → ((leaf on j : ℕ) → IsWait old leaf on j → IsWait new leaf on j) → ((leaf on k g : ℕ) → IsWait old leaf on (2 * k) → IsInUse ((m on).slot (2 * k)) g → IsInUse ((n on).slot (2 * k)) g) → WaitsUsed old m → WaitsUsed new n
awaited_by m n back goes_on still was = record {
  pairs = λ leaf on k is. goes_on leaf on (2 * k) (was.pairs leaf on k (back leaf on (2 * k + 1) is));
  used = λ leaf on k is. let x = was.used leaf on k (back leaf on (2 * k) is) in (x.0, still leaf on k x.0 (back leaf on (2 * k) is) x.1);
}

pub awaited_still : (c d : Kept) → d.mind.waits ≡ c.mind.waits → ((leaf on k : ℕ) → IsWait c.mind.waits leaf on (2 * k) → (d.mind.memory on).slot (2 * k) ≡ (c.mind.memory on).slot (2 * k)) → WaitsUsed c.mind.waits c.mind.memory → WaitsUsed d.mind.waits d.mind.memory
awaited_still c d waits slots = awaited_by c.mind.memory d.mind.memory
    (λ leaf on j is. subst (λ (ws : List Wait). IsWait ws leaf on j) waits is)
    (λ leaf on j is. subst (λ (ws : List Wait). IsWait ws leaf on j) (sym waits) is)
    (λ leaf on k g is u. subst (λ (s : Slot). IsInUse s g) (sym (slots leaf on k is)) u)

-- leaves wait for pairs more
pub awaited_more : {old new : List Wait} {m : Image} → AwaitsPairs old new m → ((leaf on j : ℕ) → IsWait old leaf on j → IsWait new leaf on j) → WaitsUsed old m → WaitsUsed new m
awaited_more w goes_on was = record {
  pairs = λ leaf on k is. ⊎_elim (λ before. goes_on leaf on (2 * k) (was.pairs leaf on k before)) (λ now. now) (w.pairs leaf on k is);
  used = λ leaf on k is. ⊎_elim (λ before. was.used leaf on k before) (λ now. now) (w.used leaf on k is);
}

use_stays : (s t : Slot) (g : ℕ) → SameUse s t → IsInUse t g → IsInUse s g
use_stays (Head e) (Head f) g same u = (same.1 ∙ u.0, same.0 ∙ u.1)
use_stays (Head e) (To p) g same u = absurd u
use_stays (Head e) (Prev n a) g same u = absurd u
use_stays (To q) (Head f) g same u = absurd (cc)
use_stays (To q) (To p) g same u = absurd u
use_stays (To q) (Prev n a) g same u = absurd u
use_stays (Prev m b) (Head f) g same u = absurd (cc)
use_stays (Prev m b) (To p) g same u = absurd u
use_stays (Prev m b) (Prev n a) g same u = absurd u

-- a slot that is waited for is put in the same use
pub put_awaited : {at i : ℕ} {s : Slot} {old new : Known} → Puts at i s old new → WaitsUsed old.waits old.memory → WaitsUsed new.waits new.memory
put_awaited {at} {i} {s} {old} {new} p = awaited_by old.memory new.memory
    (λ leaf on j is. subst (λ (ws : List Wait). IsWait ws leaf on j) p.waits is)
    (λ leaf on j is. subst (λ (ws : List Wait). IsWait ws leaf on j) (sym p.waits) is)
    (λ leaf on k g is u. each leaf on (2 * k) g is u)
  where
    here : (leaf on j g : ℕ) → on ≡ at → j ≡ i → IsWait old.waits leaf on j → IsInUse ((old.memory on).slot j) g → IsInUse ((new.memory on).slot j) g
    here leaf on j g e f is u =
        let was : IsWait old.waits leaf at i = subst (λ y. IsWait old.waits leaf at y) f (subst (λ x. IsWait old.waits leaf x j) e is) in
        let used : IsInUse ((old.memory at).slot i) g = subst (λ y. IsInUse ((old.memory at).slot y) g) f (subst (λ x. IsInUse ((old.memory x).slot j) g) e u) in
        let now : IsInUse ((new.memory at).slot i) g = subst (λ (x : Slot). IsInUse x g) (sym p.memory.here) (use_stays s ((old.memory at).slot i) g (p.same_use leaf was) used) in
        subst (λ x. IsInUse ((new.memory x).slot j) g) (sym e) (subst (λ y. IsInUse ((new.memory at).slot y) g) (sym f) now)

    far : (on j g : ℕ) → (on ≢ at) ⊎ (j ≢ i) → IsInUse ((old.memory on).slot j) g → IsInUse ((new.memory on).slot j) g
    far on j g ne u = subst (λ (x : Slot). IsInUse x g) (sym (p.memory.others on j ne)) u

    each : (leaf on j g : ℕ) → IsWait old.waits leaf on j → IsInUse ((old.memory on).slot j) g → IsInUse ((new.memory on).slot j) g
    each leaf on j g is u = ⊎_elim
        (λ e. ⊎_elim (λ f. here leaf on j g e f is u) (λ ne. far on j g (inr ne) u) (cases_eq j i))
        (λ ne. far on j g (inl ne) u)
        (cases_eq on at)

-- a slot that waited is cleared, after the waits for its pair ended
pub fired_awaited : {at i leaf : ℕ} {old new : Known} → Fires at i leaf old new → NoWait old new → NoneAwaits new.waits at i → WaitsUsed old.waits old.memory → WaitsUsed new.waits new.memory
fired_awaited {at} {i} {leaf} {old} {new} r back none was = record {
  pairs = λ a on k is. ⊎_elim
      (λ now. now)
      (λ gone. absurd (none a k (sym gone.1) (inr (subst (λ x. IsWait new.waits a x (2 * k + 1)) gone.0 is))))
      (r.waits a on (2 * k) (was.pairs a on k (back a on (2 * k + 1) is)));
  used = λ a on k is. let x = was.used a on k (back a on (2 * k) is) in (x.0, still a on k x.0 is x.1);
}
  where
    far : (on k g : ℕ) → (on ≢ at) ⊎ ((2 * k) ≢ i) → IsInUse ((old.memory on).slot (2 * k)) g → IsInUse ((new.memory on).slot (2 * k)) g
    far on k g ne u = subst (λ (x : Slot). IsInUse x g) (sym (r.memory.others on (2 * k) ne)) u

    still : (a on k g : ℕ) → IsWait new.waits a on (2 * k) → IsInUse ((old.memory on).slot (2 * k)) g → IsInUse ((new.memory on).slot (2 * k)) g
    still a on k g is u = ⊎_elim
        (λ e. ⊎_elim
        (λ f. absurd (none a k (sym f) (inl (subst (λ x. IsWait new.waits a x (2 * k)) e is))))
        (λ ne. far on k g (inr ne) u)
        (cases_eq (2 * k) i))
        (λ ne. far on k g (inl ne) u)
        (cases_eq on at)

-- a block is given out that nobody waits for
pub given_awaited : {at : ℕ} {c : Content} {p : Place} {old new : Known} → Gives at c p old new → NoWait old new → WaitsUsed old.waits old.memory → WaitsUsed new.waits new.memory
given_awaited {old = old} {new = new} g back = awaited_by old.memory new.memory
    back
    (λ leaf on j is. (g.waits leaf on j is).0)
    (λ leaf on k n is u. subst (λ (x : Slot). IsInUse x n) (sym ((g.memory.others on (g.waits leaf on (2 * k) is).2).slots (2 * k))) u)

-- WHAT IS WAITED FOR IS IN USE, or the second of a pair whose first is.
pub used_by : {waits : List Wait} {m : Image} → WaitsUsed waits m → (leaf on j : ℕ) → IsWait waits leaf on j → ((g : ℕ) × IsInUse ((m on).slot j) g) ⊎ ((k : ℕ) × (j ≡ 2 * k + 1) × ((g : ℕ) × IsInUse ((m on).slot (2 * k)) g))
used_by {waits} {m} w leaf on j is = ⊎_elim
    (λ e. inl (let x = w.used leaf on (j / 2) (subst (λ y. IsWait waits leaf on y) e is) in (x.0, subst (λ y. IsInUse ((m on).slot y) x.0) (sym e) x.1)))
    (λ e. inr (j / 2, e, w.used leaf on (j / 2) (w.pairs leaf on (j / 2) (subst (λ y. IsWait waits leaf on y) e is))))
    (halves j)
  where
    halves : (j : ℕ) → (j ≡ 2 * (j / 2)) ⊎ (j ≡ 2 * (j / 2) + 1)
    halves j = ⊎_elim (λ lt. inr (omega (arith, lt))) (λ le. inl (omega (arith, le))) (cases_lt (2 * (j / 2)) j)
