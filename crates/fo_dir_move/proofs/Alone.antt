-- What a move leaves, over its three calls: bytes of one leaf, the settling, bytes of one leaf.
use Rattle.std.proofs.Common.{◌≡◌, ◌≢◌, ◌⊎◌, inl, inr, ⊎_elim, ℕ, ◌≤◌, List, length, sym, ◌∙◌, ap, subst, arith}
use Rattle.std.proofs.lemmas.Bool.{cases_eq}
use Rattle.fo_image.specs.declared.types.Label.{Label}
use Rattle.fo_image.specs.declared.types.State.TheVariants.{Live}
use Rattle.fo_crash.specs.declared.slot.Slot.{Slot}
use Rattle.fo_crash.specs.Images.{Reaches, to_block, target}
use Rattle.fo_crash.specs.Steps.{AddsNothing, AllAre, PutsBytes, Through, cleared}
use Rattle.fo_crash.proofs.Reach.{same_walk}
use Rattle.fo_crash.proofs.Covers.{bytes_reach}
use Rattle.fo_ports.specs.Blocks.{IsInner}
use Rattle.fo_ports.specs.State.{State, KeepsAll, Rests, StaysKnown, IsDoomed, IsPointers, KeepsSlot, WasCleared}
use Rattle.fo_dir_put.specs.Names.{LeavesRest}
use Rattle.fo_dir_put.specs.Puts.{StaysCalm, IsOwnedRecords}
use Rattle.fo_dir_put.proofs.Calms.{records_on, records_put, in_place_on}
use Rattle.fo_dir_put.proofs.Leaves.{bytes_reached}
use Rattle.fo_dir_move.specs.Moves.{AreReady, StaysBut, StaysSpared, MovesAlone, IsSettledBut}
use Rattle.fo_dir_move.proofs.Hanging.{still_linked}
use Rattle.fo_dir_move.proofs.Settled.{SameMarks}

-- ---- all three calls

more_usable : {a b c d : ℕ} → d ≡ c → b ≤ c → b ≡ a → a ≤ d
more_usable e le f = omega (arith, e, le, f)

module _ {o a m n : State} {from to at : ℕ} {one two : List ℕ} (first_all : KeepsAll o a) (first_calm : StaysCalm o a) (first : PutsBytes from one o.now a.now) (rests : Rests a m) (known : (b : ℕ) → a.pinned b → StaysKnown a m b) (marks : SameMarks a m)
    (mid_all : KeepsAll a m) (last_calm : StaysCalm m n) (last : PutsBytes at two m.now n.now) (which : (at ≡ from) ⊎ (at ≡ to)) where
  other : (b : ℕ) → b ≢ from → b ≢ to → b ≢ at
  other b one_not two_not e = ⊎_elim (λ is. one_not (e ∙ is)) (λ is. two_not (e ∙ is)) which

  slot_stays : (b j : ℕ) → KeepsSlot a m b j → KeepsSlot o n b j
  slot_stays b j (inl same) = inl (last.slots b j ∙ same.0 ∙ first.slots b j, λ h. last_calm.order.goes_on b j (λ x. x) (same.1 (first_calm.order.goes_on b j (λ x. x) h)))
  slot_stays b j (inr was) = inr ((first_calm.order.clearing b j was.0).1, λ h. was.1 (last_calm.order.clearing b j h).1, last.slots b j ∙ was.2 ∙ ap cleared (first.slots b j))

  -- a slot that was cleared was so by the settling
  cleared_between : (b j : ℕ) → WasCleared o n b j → WasCleared a m b j
  cleared_between b j was = (
    first_calm.order.goes_on b j (λ x. x) was.0,
    λ h. was.1 (last_calm.order.goes_on b j (λ x. x) h),
    sym (last.slots b j) ∙ was.2 ∙ ap cleared (sym (first.slots b j)),
  )

  -- a block that is to be closed, or no more live
  closed_on : (b : ℕ) → m.covered b ⊎ ((m.label b).state ≢ Live) → n.covered b ⊎ ((n.label b).state ≢ Live)
  closed_on b h = ⊎_elim (λ c. inl (last_calm.covered b c)) (λ dead. inr (λ live. dead (ap (λ (l : Label). l.state) (sym (last_calm.labels b)) ∙ live))) h

  through_on : {s t : Slot} {b : ℕ} → t ≡ s → Through (IsPointers o) o.now s b → Through (IsPointers a) a.now t b
  through_on {s = s} {t = t} {b = b} is r = subst (λ u. Through (IsPointers a) a.now u b) (sym is) (record {
    path = r.path;
    leads = ap target (same_walk a.now o.now first.slots r.path s) ∙ r.leads;
    within = λ front i rest x split leads. subst (λ (l : Label). IsInner l.kind) (sym (first_calm.labels x)) (r.within front i rest x split (ap target (sym (same_walk a.now o.now first.slots front s)) ∙ leads));
  })

  stays : (b : ℕ) → (m.now b).bytes ≡ (a.now b).bytes → ((j : ℕ) → KeepsSlot a m b j) → StaysBut from to b o n
  stays b bytes slots = record {
    bytes = λ one_not two_not. last.others b (other b one_not two_not) ∙ bytes ∙ first.others b one_not;
    slots = λ j. slot_stays b j (slots j);
  }

  spared_stays : o.tells → (b : ℕ) → (IsDoomed o b → ⊥) → StaysSpared from to b o n
  spared_stays told b spared =
      let was = first_all.still_tells.1 told in
      let s = rests.blocks was b (first_calm.spared b spared) in
      record {
        content = stays b s.bytes s.slots;
        uncovered = last_calm.uncovered b s.uncovered;
        places = λ rooted still p stands.
            let mid = (first_calm.rooted told b).1 rooted in
            last_calm.places (mid_all.still_tells.1 was) b p s.uncovered still (s.places mid p (first_calm.places told b p (λ h. spared (inl h)) mid stands));
      }

  pub moves_alone : AddsNothing a.may_leave m.may_leave → LeavesRest from o.may_leave a.may_leave → LeavesRest at m.may_leave n.may_leave → (a.covered 1 → ⊥) → (a.tells → (x : ℕ) → x ≢ 1 → Reaches a.now (to_block 1) x → a.covered x → ⊥)
      → (m.spare ≡ a.spare) × (m.pins_left ≡ a.pins_left) → MovesAlone from to o n
  moves_alone adds first_rest last_rest top live left = record {
    labels = λ b. last_calm.labels b ∙ (marks b).0 ∙ first_calm.labels b;
    marks = λ b. (λ h. (last_calm.marks b).0 ((marks b).1 ((first_calm.marks b).0 h)), λ h. (last_calm.marks b).1 ((marks b).2 ((first_calm.marks b).1 h)));
    known = λ b pinned. let k = known b ((first_calm.marks b).0 pinned) in stays b k.bytes k.slots;
    blocks = spared_stays;
    linked = λ told b spared r.
        let was = first_all.still_tells.1 told in
        bytes_reached last (still_linked rests was top (live was) (first_calm.spared b spared) (bytes_reached first r));
    order = λ b j h. (first_calm.order.clearing b j (rests.order b j (last_calm.order.clearing b j h).1)).1;
    apart = λ b h. last_calm.apart b ((rests.apart b).1 (first_calm.apart b h));
    instead = λ b x h. first_calm.instead b x ((rests.instead b x).0 (last_calm.instead b x h));
    closes = λ told b h. closed_on b (rests.closes (first_all.still_tells.1 told) b (first_calm.covered b h));
    leaves = λ told x j b was way r gone. closed_on b (rests.leaves (first_all.still_tells.1 told) x j b (cleared_between x j was) (through_on (first.slots x j) way) (bytes_reached first r) (λ h. gone (bytes_reached last h)));
    left = (last_calm.left.0 ∙ left.0 ∙ first_calm.left.0, last_calm.left.1 ∙ left.1 ∙ first_calm.left.1, more_usable last_calm.left.2 rests.usable first_calm.left.2);
    numbers = record { next = last_calm.numbers.next ∙ rests.numbers.next ∙ first_calm.numbers.next; grants = λ h. last_calm.numbers.grants (rests.numbers.grants (first_calm.numbers.grants h)) };
    images = λ image is.
        let h = last_rest.each image is in
        let k = first_rest.each h.0 (adds.each h.0 h.1) in
        (k.0, k.1, λ b one_not two_not. h.2 b (other b one_not two_not) ∙ k.2 b one_not, λ b j. h.3 b j ∙ k.3 b j);
  }

-- ---- the last call

-- a leaf that is owned is so after bytes were put, into it or another
pub owned_after : {a b : State} {at x : ℕ} {bytes : List ℕ} → KeepsAll a b → StaysCalm a b → PutsBytes at bytes a.now b.now → length bytes ≡ 8192 → IsOwnedRecords a x → IsOwnedRecords b x
owned_after {b = b} {at = at} {x = x} all calm puts long owned = ⊎_elim
    (λ is. records_put all calm (ap (λ k. length ((b.now k).bytes)) is ∙ ap (λ (xs : List ℕ). length xs) puts.here ∙ long) owned)
    (λ ne. records_on all calm (puts.others x ne) owned)
    (cases_eq x at)

pub ready_after : {a b : State} {at : ℕ} {bytes : List ℕ} (from to entries : ℕ) → b.tops 1 → KeepsAll a b → StaysCalm a b → PutsBytes at bytes a.now b.now → length bytes ≡ 8192 → AreReady a from to entries → AreReady b from to entries
ready_after from to entries top all calm puts long r = record {
  from_owned = owned_after all calm puts long r.from_owned;
  to_owned = owned_after all calm puts long r.to_owned;
  held = record {
    is_pinned = (calm.marks entries).0 r.held.is_pinned;
    leaf_kind = ap (λ (l : Label). l.kind) (calm.labels entries) ∙ r.held.leaf_kind;
    uncovered = calm.uncovered entries r.held.uncovered;
  };
  from_place = λ tells. let was = all.still_tells.0 tells in in_place_on was top calm r.from_owned.uncovered r.held.uncovered (r.from_place was);
  to_place = λ tells. let was = all.still_tells.0 tells in in_place_on was top calm r.to_owned.uncovered r.held.uncovered (r.to_place was);
}

-- all was settled, and then bytes were put
pub settled_but : {m n : State} {at : ℕ} {bytes : List ℕ} → KeepsAll m n → StaysCalm m n → PutsBytes at bytes m.now n.now → LeavesRest at m.may_leave n.may_leave → AllAre m.now m.may_leave → ((b j : ℕ) → m.clearing b j → ⊥) → (m.tells → (b : ℕ) → Reaches m.now (to_block 1) b → m.sealed b) → IsSettledBut at n
settled_but all calm puts rest are none sealed = record {
  bytes = λ image is b ne. let h = rest.each image is in h.2 b ne ∙ ((are.each h.0 h.1).each b).bytes ∙ sym (puts.others b ne);
  slots = λ image is b j. let h = rest.each image is in h.3 b j ∙ ((are.each h.0 h.1).each b).slots j ∙ sym (puts.slots b j);
  none = λ b j h. none b j (calm.order.clearing b j h).1;
  sealed = λ told b r. (calm.marks b).1 (sealed (all.still_tells.0 told) b (bytes_reach puts r));
}
