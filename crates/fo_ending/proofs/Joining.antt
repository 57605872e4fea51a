-- What the steps of an end leave together.
use Rattle.std.proofs.Common.{◌≡◌, ◌⊎◌, inl, inr, ⊎_elim, ℕ, ◌<◌, ◌≤◌, List, [], ◌∷◌, length, Result, Ok, Err, refl, ap, ◌∙◌, subst, arith}
use Rattle.std.specs.Result.{IfErr, OnOk}
use Rattle.fo_base.specs.Cause.{Rose}
use Rattle.fo_disk.specs.Disk.{DiskState}
use Rattle.fo_image.specs.declared.types.Super.{Super}
use Rattle.fo_image.specs.Place.{label_block}
use Rattle.fo_ports.specs.Causes.{Caused}
use Rattle.fo_ports.specs.State.{IsClosing, Rests}
use Rattle.fo_ports.specs.declared.error.BlockError.{BlockError}
use Rattle.fo_ports.specs.declared.error.BlockError.TheVariants.{Full, Damaged, Fault, Arena, Memory}
use Rattle.fo_unlink.specs.declared.removal.Removal.{Removal}
use Rattle.fo_waits.specs.declared.listed.Clearing.{Clearing}
use Rattle.fo_waits.specs.Listed.{Clears}
use Rattle.fo_mind.specs.Laws.{keeps_joins}
use Rattle.fo_mind.specs.Parts.{CacheKeeps, IsBlock, Parts, state_of}
use Rattle.fo_cache.proofs.Easing.{eases_none, rests_joins}
use Rattle.fo_reserving.specs.of_settling.Clearings.{Clearings, ClearsBy, Due}
use Rattle.fo_reserving.proofs.of_settling.Clearing.{waits_of}
use Rattle.fo_reserving.specs.Steps.{ClosesAtRest, Reserves}
use Rattle.fo_reserving.proofs.Following.{closes_by}
use Rattle.fo_reserving.proofs.Joining.{reserves_none}
use Rattle.fo_opening.specs.Finished.{Ends, Finished, saved}
use Rattle.fo_opening.proofs.Finishing.{caused_later, ends_eased}
use Rattle.fo_ending.specs.Ended.{Drained, Ended, first_of}

-- ---- of two calls the first failure

pub on_both : {P Q R : Type 0} (r s : Result Unit BlockError) → OnOk r P → OnOk s Q → (P → Q → R) → OnOk (first_of r s) R
on_both (Ok u) (Ok v) p q f = f p q
on_both (Ok u) (Err e) p q f = tt
on_both (Err e) s p q f = tt

pub on_second : {P Q : Type 0} (r s : Result Unit BlockError) → OnOk s P → (P → Q) → OnOk (first_of r s) Q
on_second (Ok u) (Ok v) p f = f p
on_second (Ok u) (Err e) p f = tt
on_second (Err e) s p f = tt

pub caused_first : (f g h : ℕ) (r s : Result Unit BlockError) → f ≤ g → g ≤ h → IfErr r (Caused ⊥ (λ b. ⊥) (Rose f g) ⊥) → IfErr s (Caused ⊥ (λ b. ⊥) (Rose g h) ⊥) → IfErr (first_of r s) (Caused ⊥ (λ b. ⊥) (Rose f h) ⊥)
caused_first f g h (Ok u) s a b x y = caused_later f g h s a y
caused_first f g h (Err Full) s a b x y = absurd x
caused_first f g h (Err (Damaged at)) s a b x y = absurd x
caused_first f g h (Err (Fault which)) s a b x y = omega (arith, b, x)
caused_first f g h (Err (Arena which)) s a b x y = absurd x
caused_first f g h (Err Memory) s a b x y = tt

pub on_ok : {P Q : Type 0} (r : Result Unit BlockError) → OnOk r P → (P → Q) → OnOk r Q
on_ok (Ok u) p f = f p
on_ok (Err e) p f = tt

pub failed_first : (P : BlockError → Type 0) (r s : Result Unit BlockError) → IfErr r P → IfErr s P → IfErr (first_of r s) P
failed_first P (Ok u) s x y = y
failed_first P (Err e) s x y = x

-- ---- nothing is queued after an end where nothing may be closed before it

none_of : (rs : List Removal) → (0 < length rs → ⊥) → rs ≡ []
none_of [] some = refl
none_of (r ∷ rs) some = absurd (some (omega arith))

none_closing : (p : Parts) → p.removals ≡ [] → p.clears ≡ [] → IsClosing (state_of p) → ⊥
none_closing p removals clears c = ⊎_elim
    (λ some. let e = ap length removals in omega (arith, some, e))
    (λ w. subst (λ (cs : List Clearing). Clears cs w.0 w.1) clears w.2)
    c

pub still_empty : (p q : Parts) → Rests (state_of p) (state_of q) → p.removals ≡ [] → p.clears ≡ [] → q.removals ≡ []
still_empty p q r removals clears = none_of q.removals (λ some. none_closing p removals clears (r.queues some))

-- ---- which slots are cleared

-- nothing is queued where none is
queued_by : (p q : Parts) (ds : List Due) → ClearsBy ds p q → length p.removals ≤ length q.removals → (q.removals ≡ p.removals) ⊎ ((length p.removals ≤ length q.removals) × ((b : ℕ) × (j : ℕ) × Clears p.clears b j))
queued_by p q [] by le = inl by.removals
queued_by p q (d ∷ ds) by le = inr (le, (d.at, d.slot, subst (λ (cs : List Clearing). Clears cs d.at d.slot) by.0.clears (waits_of d.before.clears d.at d.slot by.1.due.0 by.1.due.1)))

-- no block is closed by a settling
pub closes_finished : (p q : Parts) → Ends p q → Clearings p q → ClosesAtRest p q
closes_finished p q e c = closes_by p q [] (record { label = e.labels; queued = queued_by p q c.dues c.clears e.queued; clears = c; order = e.rests.order; keeps = e.keeps })

-- ---- the super block

-- two ends write the number that memory has at last
pub finished_again : (one : Super) (p q : Parts) (t : DiskState) → p.one ≡ saved one p → Finished p.one t q → Finished one t q
finished_again one p q t e f = record { settled = f.settled; says = f.says ∙ ap (λ (o : Super). saved o q) e; spells = f.spells; first = f.first; labels = f.labels; blocks = f.blocks }

pub finished_of : (one was : Super) (t : DiskState) (q : Parts) → one ≡ was → Finished one t q → Finished was t q
finished_of one was t q e f = subst (λ (o : Super). Finished o t q) e f

-- ---- the whole

-- where nothing is queued after the first settling
pub ended_once : (p q : Parts) → Ends p q → q.removals ≡ [] → Ended p q
ended_once p q e empty = record {
  settled = q;
  closed = q;
  settles = e;
  closes = reserves_none q;
  ends = ends_eased (eases_none q);
  once = λ none. refl;
  empty = empty;
  rests = e.rests;
  keeps = e.keeps;
}

module _ (p m k q : Parts) (a : Ends p m) (r : Reserves m k) (b : Ends k q) where
  block_still : (x : ℕ) → IsBlock p x → IsBlock m x
  block_still x is =
      let e = a.keeps.first in
      let f = a.keeps.count in
      let lo = is.0 in
      let hi = is.1 in
      (omega (arith, lo, e), omega (arith, hi, e, f))

  keeps_closed : CacheKeeps p k
  keeps_closed = keeps_joins p m k a.keeps r.keeps

  rests_closed : Rests (state_of p) (state_of k)
  rests_closed = rests_joins p m k a.rests r.rests a.keeps (λ x ne is. r.apart x ne (block_still (label_block x) is))

  pub ended_whole : (0 < length m.removals) → q.removals ≡ [] → Ended p q
  ended_whole some empty = record {
    settled = m;
    closed = k;
    settles = a;
    closes = r;
    ends = b;
    once = λ none. absurd (let e = ap length none in omega (arith, e, some));
    empty = empty;
    rests = rests_joins p k q rests_closed b.rests keeps_closed (λ x ne is. ne (b.labels x));
    keeps = keeps_joins p k q keeps_closed b.keeps;
  }

pub ended_drained : (p m q : Parts) → Ends p m → 0 < length m.removals → Drained m q → Ended p q
ended_drained p m q a some d = ended_whole p m d.closed q a d.closes d.ends some d.empty
