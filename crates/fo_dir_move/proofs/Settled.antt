-- What a settling between the two halves of a move keeps, and what each half adds.
use Rattle.std.proofs.Common.{◌≡◌, ◌≢◌, inl, inr, ⊎_elim, ℕ, List, length, refl, sym, ◌∙◌, ap, subst}
use Rattle.fo_image.specs.declared.types.Label.{Label}
use Rattle.fo_crash.specs.Images.{Image, Reaches, to_block}
use Rattle.fo_crash.specs.Steps.{AddsNothing, PutsBytes}
use Rattle.fo_crash.specs.declared.slot.Slot.{Slot}
use Rattle.fo_crash.specs.Names.{IsInUse}
use Rattle.fo_ports.specs.State.{State, KeepsAll, Rests, StaysKnown, IsDoomed, IsRooted}
use Rattle.fo_dir_put.specs.Names.{ListsIn, AllFit, AreBacked}
use Rattle.fo_dir_put.specs.Puts.{StaysCalm, IsOwnedRecords, IsInPlace}
use Rattle.fo_dir_put.proofs.Calms.{records_on, records_put, in_place_on}
use Rattle.fo_dir_put.proofs.Leaves.{bytes_reached, still_all}
use Rattle.fo_dir_move.proofs.Hanging.{still_linked}
use Rattle.fo_dir_move.specs.Moves.{MaySettle, AreReady, KeepsEntries, Backs}

-- ---- the settling

-- what is said of labels and pins after a settling
abbrev pub SameMarks : State → State → Type 0
SameMarks a b = (x : ℕ) → (b.label x ≡ a.label x) × (a.pinned x → b.pinned x) × (a.sealed x → b.sealed x)

module _ {a b : State} (all : KeepsAll a b) (rests : Rests a b) (marks : SameMarks a b) (told : (x : ℕ) → b.covered x → b.tells) (one_stays : a.covered 1 → ⊥) (live : a.tells → (x : ℕ) → x ≢ 1 → Reaches a.now (to_block 1) x → a.covered x → ⊥) where
  spared : {x : ℕ} → (a.tells → (IsDoomed a x → ⊥) × IsRooted a x) → b.covered x → ⊥
  spared {x = x} stay h = let was = all.still_tells.0 (told x h) in (rests.blocks was x (stay was).0).uncovered h

  owned : {x : ℕ} → (a.tells → (IsDoomed a x → ⊥) × IsRooted a x) → (b.now x).bytes ≡ (a.now x).bytes → IsOwnedRecords a x → IsOwnedRecords b x
  owned {x = x} stay same o = record {
    is_pinned = (marks x).1 o.is_pinned;
    current = ap (λ (l : Label). l.epoch) (marks x).0 ∙ o.current ∙ sym all.same_high;
    leaf_kind = ap (λ (l : Label). l.kind) (marks x).0 ∙ o.leaf_kind;
    whole = ap (λ (xs : List ℕ). length xs) same ∙ o.whole;
    uncovered = spared stay;
    other = λ tells. o.other (all.still_tells.0 tells);
  }

  in_place : {x e : ℕ} → a.tells → (IsDoomed a x → ⊥) × IsRooted a x → (IsDoomed a e → ⊥) × IsRooted a e → IsInPlace a x e → IsInPlace b x e
  in_place {x = x} {e = e} was one two p = record {
    is_sealed = (marks x).2 p.is_sealed;
    entries_sealed = (marks e).2 p.entries_sealed;
    leaf_linked = still_linked rests was one_stays (live was) one.0 p.leaf_linked;
    entries_linked = still_linked rests was one_stays (live was) two.0 p.entries_linked;
    upper = p.upper;
    lower = p.lower;
    upper_stands = (rests.blocks was x one.0).places one.1 p.upper p.upper_stands;
    lower_stands = (rests.blocks was e two.0).places two.1 p.lower p.lower_stands;
    falls = p.falls;
  }

  pub ready_settled : (from to entries : ℕ) → (a.tells → MaySettle a from to entries) → ((x : ℕ) → a.pinned x → StaysKnown a b x) → AreReady a from to entries → AreReady b from to entries
  ready_settled from to entries may known r = record {
    from_owned = owned (λ was. (may was).stay from (inl refl)) (known from r.from_owned.is_pinned).bytes r.from_owned;
    to_owned = owned (λ was. (may was).stay to (inr (inl refl))) (known to r.to_owned.is_pinned).bytes r.to_owned;
    held = record {
      is_pinned = (marks entries).1 r.held.is_pinned;
      leaf_kind = ap (λ (l : Label). l.kind) (marks entries).0 ∙ r.held.leaf_kind;
      uncovered = spared (λ was. (may was).stay entries (inr (inr refl)));
    };
    from_place = λ tells. let was = all.still_tells.0 tells in in_place was ((may was).stay from (inl refl)) ((may was).stay entries (inr (inr refl))) (r.from_place was);
    to_place = λ tells. let was = all.still_tells.0 tells in in_place was ((may was).stay to (inr (inl refl))) ((may was).stay entries (inr (inr refl))) (r.to_place was);
  }

pub entries_kept : {a b : State} (entries : ℕ) → Rests a b → StaysKnown a b entries → KeepsEntries entries a b
entries_kept {a = a} {b = b} entries rests known = record { each = λ j free. (⊎_elim (λ same. same.0) (λ was. absurd (free was.0)) (known.slots j), λ h. free (rests.order entries j h)) }

-- ---- the first half

pub ready_taken : {a b : State} {bytes : List ℕ} (from to entries : ℕ) → from ≢ to → b.tops 1 → KeepsAll a b → StaysCalm a b → PutsBytes from bytes a.now b.now → length bytes ≡ 8192 → AreReady a from to entries → AreReady b from to entries
ready_taken from to entries differ top all calm puts long r = record {
  from_owned = records_put all calm (ap (λ (xs : List ℕ). length xs) puts.here ∙ long) r.from_owned;
  to_owned = records_on all calm (puts.others to (λ e. differ (sym e))) r.to_owned;
  held = record {
    is_pinned = (calm.marks entries).0 r.held.is_pinned;
    leaf_kind = ap (λ (l : Label). l.kind) (calm.labels entries) ∙ r.held.leaf_kind;
    uncovered = calm.uncovered entries r.held.uncovered;
  };
  from_place = λ tells. let was = all.still_tells.0 tells in in_place_on was top calm r.from_owned.uncovered r.held.uncovered (r.from_place was);
  to_place = λ tells. let was = all.still_tells.0 tells in in_place_on was top calm r.to_owned.uncovered r.held.uncovered (r.to_place was);
}

pub rooted_taken : {a b : State} {at : ℕ} {bytes : List ℕ} → KeepsAll a b → StaysCalm a b → PutsBytes at bytes a.now b.now → (x : ℕ) → IsRooted a x → IsRooted b x
rooted_taken all calm puts x r = (r.0, ⊎_elim (λ t. inl ((all.same_tops r.0).1 t)) (λ u. inr (calm.apart r.0 u)) r.1, bytes_reached puts r.2)

pub settle_taken : {a b : State} {at : ℕ} {bytes : List ℕ} (from to entries : ℕ) → KeepsAll a b → StaysCalm a b → PutsBytes at bytes a.now b.now → MaySettle a from to entries → MaySettle b from to entries
settle_taken {a = a} {b = b} from to entries all calm puts may = record {
  apart = λ y x h doomed. calm.spared x (may.apart y x (calm.instead y x h)) doomed;
  stay = λ x is. let m = may.stay x is in (calm.spared x m.0, rooted_taken all calm puts x m.1);
}

-- ---- the second half

pub fit_later : {n leaf entries : ℕ} {old new : Image → Type 0} → AllFit n leaf entries old → AddsNothing old new → AllFit n leaf entries new
fit_later all adds = record { are = still_all all.are adds }

-- what backs the records before backs them after bytes were put and all was settled
pub backs_later : {n entries leaf at : ℕ} {bytes others put : List ℕ} {a b c : State} → Backs n entries bytes others a → StaysCalm a b → PutsBytes at put a.now b.now → KeepsEntries entries b c → (c.now leaf).bytes ≡ others → AreBacked n leaf entries bytes c
backs_later {n = n} {entries = entries} {a = a} {b = b} {c = c} backs calm puts keeps is = record {
  each = λ j g lists. ⊎_elim
      (λ was. inl (subst (λ xs. ListsIn n xs j g) (sym is) was))
      (λ h. let free : b.clearing entries j → ⊥ = λ k. h.1 (calm.order.clearing entries j k).1 in let still = keeps.each j free in
      inr (subst (λ (x : Slot). IsInUse x g) (sym (still.0 ∙ puts.slots entries j)) h.0, still.1))
      (backs.each j g lists);
}
