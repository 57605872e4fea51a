-- Slots are cleared after their leaves are settled, also where blocks are closed in between.
use Rattle.std.proofs.Common.{◌≡◌, ◌⊎◌, inl, inr, ⊎_elim, ℕ, ◌≤◌, ◌&&◌, true, not, List, [], ◌∷◌, refl, sym, ap, ◌∙◌, subst, arith}
use Rattle.fo_disk.specs.Disk.{Content as Holds}
use Rattle.fo_order.specs.Turns.{flag_at}
use Rattle.fo_labels.specs.Region.{Region}
use Rattle.fo_unlink.specs.Pending.{Pending}
use Rattle.fo_waits.specs.declared.listed.Clearing.{Clearing}
use Rattle.fo_waits.specs.Listed.{Clears, ClearsAfter}
use Rattle.fo_closing.specs.of_mind.Due.{is_over}
use Rattle.fo_closing.specs.of_mind.Parts.{Parts}
use Rattle.fo_closing.specs.of_mind.Turning.{is_settled}
use Rattle.fo_settling.specs.Clearings.{IsCleared}
use Rattle.fo_settling.proofs.Clearing.{over_kept}
use Rattle.fo_settling.proofs.Waiting.{waits_after}
use Rattle.fo_closing.specs.declared.turn.Closing.{Closing}
use Rattle.fo_closing.specs.declared.turn.Closing.TheVariants.{Closed as ClosedIs, Reads, Stays, GivenUp, Empty}
use Rattle.fo_closing.specs.Closed.{Closed}
use Rattle.fo_closing.specs.Closings.{Taken, Takes}
use Rattle.fo_closing.specs.Rest.{AtRest}
use Rattle.fo_closing.specs.Turned.{Goes, Turned}
use Rattle.fo_reserving.specs.Steps.{AfterData, ClosesAtRest, ClosesBy, IsRow, Row}

-- ---- data blocks begin where they began

first_turned : (disk : Holds) (answer : Closing) (p q : Parts) (r s : Pending) → Turned disk answer p q r s → q.region.first ≡ p.region.first
first_turned disk (ClosedIs b) p q r s t = closed t.went.2 ∙ ap (λ (z : Parts). z.region.first) t.looked.rest
  where
    closed : {epoch : ℕ} → Closed b epoch (record t.mid { removals = s.removals }) q → q.region.first ≡ t.mid.region.first
    closed c = ap (λ (z : Region). z.first) c.region
first_turned disk (Stays b) p q r s t = ap (λ (z : Parts). z.region.first) t.went.2 ∙ ap (λ (z : Parts). z.region.first) t.looked.rest
first_turned disk (Reads b) p q r s t = ap (λ (z : Parts). z.region.first) t.went.1 ∙ ap (λ (z : Parts). z.region.first) t.looked.rest
first_turned disk GivenUp p q r s t = ap (λ (z : Parts). z.region.first) t.rest
first_turned disk Empty p q r s t = ap (λ (z : Parts). z.region.first) t.2

first_taken : (disk : Holds) (ts : List Taken) (p q : Parts) (r s : Pending) → Takes disk ts p q r s → q.region.first ≡ p.region.first
first_taken disk [] p q r s t = ap (λ (z : Parts). z.region.first) t.0.rest
first_taken disk (x ∷ ts) p q r s t = first_taken disk ts x.after q x.queue s t.2 ∙ first_turned disk x.answer x.before x.after r x.queue t.1 ∙ ap (λ (z : Parts). z.region.first) t.0.rest

first_row : (r : Row) → IsRow r → r.after.region.first ≡ r.before.region.first
first_row r is = first_taken r.before.disk is.closes.turns r.before r.after r.queue r.left is.closes.takes

-- ---- where no slot waits, what is settled stays so

over_rest : (p : Parts) → AtRest p → (leaf : ℕ) → p.region.first ≤ leaf → is_over p.turns leaf ≡ true
over_rest p rest leaf le = ap (λ d. not d && is_settled (flag_at p.turns leaf).tried) (rest.clean leaf le) ∙ ap is_settled (rest.settled leaf le)

over_rows : (p q : Parts) (rs : List Row) → ClosesBy rs p q → p.clears ≡ [] → (leaf : ℕ) → p.region.first ≤ leaf → is_over p.turns leaf ≡ true → is_over q.turns leaf ≡ true
over_rows p q [] by none leaf le e = ⊎_elim (λ over. over) (λ (c : IsCleared p q leaf). absurd (subst (λ (cs : List Clearing). Clears cs leaf c.0) none c.1)) (over_kept by.clears leaf e)
over_rows p q (r ∷ rs) by none leaf le e =
    let first = first_row r by.1 in
    let same = by.0.keeps.first in
    let here : r.after.region.first ≤ leaf = omega (arith, le, first, same) in
    over_rows r.after q rs by.2 by.1.rested.none leaf here (over_rest r.after by.1.rested leaf here)

-- ---- each slot that waited

after_rows : (p q : Parts) (rs : List Row) → ClosesBy rs p q → AfterData p q
after_rows p q [] by b j h = ⊎_elim (λ waits. inl waits) (λ gone. inr (gone.0, gone.1, λ le. gone.2)) (by.clears.after b j h)
after_rows p q (r ∷ rs) by b j h = inr (waits.0, waits.1, λ le. inl (over waits.0 le))
  where
    waits : (leaf : ℕ) × ClearsAfter p.clears b j leaf
    waits = waits_after p.clears b j h

    over : (leaf : ℕ) → p.region.first ≤ leaf → is_over q.turns leaf ≡ true
    over leaf le =
        let first = first_row r by.1 in
        let same = by.0.keeps.first in
        let here : r.after.region.first ≤ leaf = omega (arith, le, first, same) in
        over_rows r.after q rs by.2 by.1.rested.none leaf here (over_rest r.after by.1.rested leaf here)

pub closes_by : (p q : Parts) (rs : List Row) → ClosesBy rs p q → ClosesAtRest p q
closes_by p q rs by = record { rows = rs; closes = by; after = after_rows p q rs by }
