-- Steps of a reservation, one after another.
use Rattle.std.proofs.Common.{◌≡◌, ◌≢◌, ◌⊎◌, inl, inr, ⊎_elim, ℕ, ◌≤◌, List, [], ◌∷◌, ◌++◌, length, refl, sym, ap, ◌∙◌, subst, arith}
use Rattle.fo_disk.specs.Disk.{Content as Holds}
use Rattle.fo_image.specs.declared.types.Label.{Label}
use Rattle.fo_image.specs.Place.{label_block}
use Rattle.fo_ports.specs.State.{Rests}
use Rattle.fo_waits.specs.Listed.{Clears}
use Rattle.fo_closing.specs.of_mind.Laws.{keeps_joins}
use Rattle.fo_closing.specs.of_mind.Parts.{CacheKeeps, IsBlock, Parts, label_at, state_of}
use Rattle.fo_settling.specs.of_cache.Easing.{Eases}
use Rattle.fo_settling.proofs.of_cache.Easing.{eases_none, rests_joins, shut_dead}
use Rattle.fo_labels.specs.Region.{Region}
use Rattle.fo_settling.specs.Clearings.{Clearings, Lasts}
use Rattle.fo_settling.proofs.Clearing.{clearings_none, clearings_of, clearings_on, lasts_none}
use Rattle.fo_reserving.specs.Steps.{ClosesAtRest, ClosesBy, IsRow, KeepsLabels, Reserves, Row}
use Rattle.fo_reserving.proofs.Following.{closes_by}

-- ---- labels that stay

pub labels_on : {p m q : Parts} → KeepsLabels p m → KeepsLabels m q → KeepsLabels p q
labels_on {p} {m} {q} a b = record {
  label = λ x. b.label x ∙ a.label x;
  queued = ⊎_elim
      (λ same. ⊎_elim
      (λ was. inl (same ∙ was))
      (λ more. inr (let e = ap length same in let le = more.0 in omega (arith, e, le), more.1))
      a.queued)
      (λ more. ⊎_elim
      (λ was. inr (let e = ap length was in let le = more.0 in omega (arith, e, le), waited more.1))
      (λ before. inr (let f = before.0 in let le = more.0 in omega (arith, f, le), before.1))
      a.queued)
      b.queued;
  clears = clearings_on a.clears b.clears;
  order = λ k j h. a.order k j (b.order k j h);
  keeps = keeps_joins p m q a.keeps b.keeps;
}
  where
    waited : ((k : ℕ) × (j : ℕ) × Clears m.clears k j) → (k : ℕ) × (j : ℕ) × Clears p.clears k j
    waited w = (w.0, w.1, a.order w.0 w.1 w.2)

-- ---- rows of turns of closing

first_on : (p m q : Parts) (rs : List Row) → KeepsLabels p m → ClosesBy rs m q → ClosesBy rs p q
first_on p m q [] a b = labels_on a b
first_on p m q (r ∷ rs) a b = (labels_on a b.0, b.1, b.2)

rows_on : (p m q : Parts) (rs ss : List Row) → ClosesBy rs p m → ClosesBy ss m q → ClosesBy (rs ++ ss) p q
rows_on p m q [] ss a b = first_on p m q ss a b
rows_on p m q (r ∷ rs) ss a b = (a.0, a.1, rows_on r.after m q rs ss a.2 b)

pub closes_on : {p m q : Parts} → ClosesAtRest p m → ClosesAtRest m q → ClosesAtRest p q
closes_on {p} {m} {q} a b = closes_by p q (a.rows ++ b.rows) (rows_on p m q a.rows b.rows a.closes b.closes)

pub labels_none : (p : Parts) → KeepsLabels p p
labels_none p = record { label = λ x. refl; queued = inl refl; clears = clearings_none p; order = λ b j h. h; keeps = record { first = refl; count = refl; high = refl; low = refl; root = refl; faults = omega arith } }

pub closes_row : (r : Row) → IsRow r → ClosesAtRest r.before r.after
closes_row r is = closes_by r.before r.after (r ∷ []) (labels_none r.before, is, labels_none r.after)

-- ---- steps

pub reserves_on : {p m q : Parts} → Reserves p m → Reserves m q → Reserves p q
reserves_on {p} {m} {q} a b = record {
  rests = rests_joins p m q a.rests b.rests a.keeps second;
  keeps = keeps_joins p m q a.keeps b.keeps;
  apart = λ x ne is. ⊎_elim
      (λ same. a.apart x (λ e. ne (same ∙ e)) is)
      (λ shut. second x (λ e. shut_dead (state_of m) (state_of q) x shut (ap (λ (l : Label). l.state) e ∙ shut.live)) is)
      (b.rests.labels x);
  closes = closes_on a.closes b.closes;
}
  where
    still : (k : ℕ) → IsBlock p k → IsBlock m k
    still k is =
        let e = a.keeps.first in
        let f = a.keeps.count in
        let lo = is.0 in
        let hi = is.1 in
        (omega (arith, lo, e), omega (arith, hi, e, f))

    second : (x : ℕ) → label_at q.region x ≢ label_at m.region x → IsBlock p (label_block x) → ⊥
    second x ne is = b.apart x ne (still (label_block x) is)

-- a step after which all labels are what they were, and the queue but for slots that are cleared
pub reserves_of : (p q : Parts) → Rests (state_of p) (state_of q) → CacheKeeps p q → ((x : ℕ) → label_at q.region x ≡ label_at p.region x) → (q.removals ≡ p.removals) ⊎ ((length p.removals ≤ length q.removals) × ((b : ℕ) × (j : ℕ) × Clears p.clears b j)) → Clearings p q → Reserves p q
reserves_of p q rests keeps same queued clears = record {
  rests = rests;
  keeps = keeps;
  apart = λ x ne is. ne (same x);
  closes = closes_by p q [] (record { label = same; queued = queued; clears = clears; order = rests.order; keeps = keeps });
}

-- one that clears no slot
pub reserves_lasting : (p q : Parts) → Rests (state_of p) (state_of q) → CacheKeeps p q → Lasts p q → Reserves p q
reserves_lasting p q rests keeps l = reserves_of p q rests keeps (λ x. ap (λ (r : Region). label_at r x) l.region) (inl l.removals) (clearings_of l)

pub reserves_eased : {p q : Parts} → Eases p q → Lasts p q → Reserves p q
reserves_eased {p} {q} e l = reserves_lasting p q e.rests e.keeps l

pub reserves_none : (p : Parts) → Reserves p p
reserves_none p = reserves_eased (eases_none p) (lasts_none p)

-- over a device that stays
pub reserves_still : (p q : Parts) {h k : Holds} {f g : ℕ} → k ≡ h → g ≡ f → Reserves (record p { disk = h; faults = f }) (record q { disk = h; faults = f }) → Reserves (record p { disk = h; faults = f }) (record q { disk = k; faults = g })
reserves_still p q {h} {k} {f} {g} disk faults r = subst (λ (x : Holds). Reserves (record p { disk = h; faults = f }) (record q { disk = x; faults = g })) (sym disk) (subst (λ n. Reserves (record p { disk = h; faults = f }) (record q { disk = h; faults = n })) (sym faults) r)
