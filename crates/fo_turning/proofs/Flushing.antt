-- Steps of a flushing turn.
use Rattle.std.proofs.Common.{◌≡◌, ◌≢◌, inl, inr, ⊎_elim, ℕ, ◌<◌, ◌≤◌, true, false, List, length, Option, Some, None, is_some, Result, Ok, Err, refl, sym, ap, ◌∙◌, subst, arith}
use Rattle.std.specs.Result.{OnErr, IfOk, MatchResult}
use Rattle.std.proofs.lemmas.Bool.{cases_eq}
use Rattle.fo_disk.specs.Disk.{DiskState, versions_of}
use Rattle.fo_disk.specs.Disk.{Content as Holds}
use Rattle.fo_disk.specs.declared.disk.Failed.{Failed}
use Rattle.fo_order.specs.declared.marks.Flags.{Flags}
use Rattle.fo_order.specs.declared.marks.Tried.TheVariants.{Settled, Failed as Lost}
use Rattle.fo_order.specs.Keeps.{Turns}
use Rattle.fo_order.specs.Turns.{IsDue, IsNext, IsQuiet, flag_at}
use Rattle.fo_labels.specs.Region.{Region}
use Rattle.fo_ports.specs.declared.error.BlockError.{BlockError}
use Rattle.fo_mind.specs.Parts.{Parts, label_at}
use Rattle.fo_mind.specs.Sound.{IsCurrent, Placed}
use Rattle.fo_mind.specs.Turning.{KeepsTurn, Missed, Turning}
use Rattle.fo_mind.proofs.Landing.{within_count}
use Rattle.fo_mind.proofs.Turning.{missed_here, missed_other}
use Rattle.fo_cache.specs.Easing.{Eases}
use Rattle.fo_cache.specs.Settling.{Settles}
use Rattle.fo_cache.proofs.Easing.{eases_none}
use Rattle.fo_cache.proofs.Lessening.{next_kept}
use Rattle.fo_cache.proofs.Outcomes.{last_written}
use Rattle.fo_cache.proofs.Settling.{wrote_settles}
use Rattle.fo_turning.specs.declared.flush.Flushed.{Flushed}
use Rattle.fo_turning.specs.declared.flush.Flushed.TheVariants.{Wrote, Synced as SyncedIs, Idle}
use Rattle.fo_turning.specs.Flushes.{AtIdle, Does, Lands, Misses, Overrules, Syncs, Writes}

never : {A : Type 0} → true ≡ false → A
never e = cc

lost_settled : {A : Type 0} → Lost ≡ Settled → A
lost_settled e = cc

-- ---- whether something is in doubt, and whether there is a turn

pub doubted : (o : Option (List ℕ)) → is_some o ≡ true → o ≢ None
doubted (Some x) e n = cc
doubted None e n = never (sym e)

pub certain : (o : Option (List ℕ)) → is_some o ≡ false → o ≡ None
certain (Some x) e = never e
certain None e = refl

pub not_quiet : (t : Turns) (at : ℕ) → IsNext t at → IsQuiet t → ⊥
not_quiet t at next quiet = never (sym next.dirty ∙ quiet.clean at)

pub not_due : (t : Turns) → IsDue t → IsQuiet t → ⊥
not_due t due quiet = let some = due.some in let none = ap length quiet.none in absurd (omega (arith, some, none))

-- ---- what a turn that failed leaves

pub misses_same : (p q : Parts) → q ≡ p → Misses p q
misses_same p q e = subst (Misses p) (sym e) (record { dirty = λ b d. d; unsettled = λ b s. s; doubt = λ ne. refl })

pub misses_kept : (p q : Parts) → KeepsTurn p q → Misses p q
misses_kept p q k = record {
  dirty = λ b d. ap (λ (z : Parts). (flag_at z.turns b).dirty) k.rest ∙ d;
  unsettled = λ b s. sym (ap (λ (z : Parts). (flag_at z.turns b).tried) k.rest) ∙ s;
  doubt = λ ne. ap (λ (z : Parts). z.doubt) k.rest;
}

pub misses_on : (p m q : Parts) → Misses p m → Misses m q → Misses p q
misses_on p m q a b = record {
  dirty = λ k d. b.dirty k (a.dirty k d);
  unsettled = λ k s. a.unsettled k (b.unsettled k s);
  doubt = λ ne. b.doubt (λ e. ne (sym (a.doubt ne) ∙ e)) ∙ a.doubt ne;
}

misses_missed : (m q : Parts) (at : ℕ) → at < length m.turns.flags → Missed at m q → Misses m q
misses_missed m q at within l = record {
  dirty = λ b d. ⊎_elim
      (λ e. subst (λ n. (flag_at q.turns n).dirty ≡ true) (sym e) (ap (λ (f : Flags). f.dirty) here))
      (λ ne. ap (λ (f : Flags). f.dirty) (other b ne) ∙ d)
      (cases_eq b at);
  unsettled = λ b s. ⊎_elim
      (λ e. lost_settled (sym (ap (λ (f : Flags). f.tried) here) ∙ subst (λ n. (flag_at q.turns n).tried ≡ Settled) e s))
      (λ ne. sym (ap (λ (f : Flags). f.tried) (other b ne)) ∙ s)
      (cases_eq b at);
  doubt = λ ne. ap (λ (z : Parts). z.doubt) l.rest;
}
  where
    here : flag_at q.turns at ≡ record { dirty = true; tried = Lost; rank = (flag_at m.turns at).rank }
    here = ap (λ (t : Turns). flag_at t at) l.turns ∙ missed_here m.turns at within

    other : (b : ℕ) → b ≢ at → flag_at q.turns b ≡ flag_at m.turns b
    other b ne = ap (λ (t : Turns). flag_at t b) l.turns ∙ missed_other m.turns at within b ne

pub misses_wrote : (p m q : Parts) (at : ℕ) {first count : ℕ} → Placed m.region m.turns m.facts first count → IsNext p.turns at → KeepsTurn p m → Missed at m q → Misses p q
misses_wrote p m q at placed next kept l = misses_on p m q (misses_kept p m kept) (misses_missed m q at (within_count at placed (next_kept p m at kept next)).1 l)

-- ---- what a turn did

pub writes_of : (s t : DiskState) (p m q : Parts) (at : ℕ) {first count : ℕ} → Placed m.region m.turns m.facts first count → Turning first m.held m.turns m.facts → IsNext p.turns at → KeepsTurn p m → Lands at s t m q
    → ((k : ℕ) → k ≢ at → versions_of t.holds k ≡ versions_of s.holds k) → Writes at s t p q
writes_of s t p m q at {first} placed turning next kept lands others = record {
  next = next;
  current = subst (λ (z : Parts). z.region.first ≤ at → IsCurrent z.one.high (label_at z.region at)) (kept.rest) lands.current;
  roomy = m;
  kept = kept;
  lands = lands;
  others = others;
  last = λ le lt.
      let was : m.region.first ≤ at = subst (λ (r : Region). r.first ≤ at) (ap (λ (z : Parts). z.region) settles.rest) le in
      last_written m.held done lands.device (lands.held was) lt ∙ sym (settles.bytes at was);
}
  where
    done : Result Unit Failed
    done = Ok tt

    settles : Settles s t m q
    settles = wrote_settles s t m q at placed turning (next_kept p m at kept next) done lands

pub does_first : (s t : DiskState) (p q : Parts) (r : Result Flushed BlockError) → p.doubt ≢ None → IfOk r (λ f. (f ≡ Wrote 1) × Overrules s t p q) → IfOk r (λ f. Does f s t p q)
does_first s t p q (Ok f) ne h = subst (λ (x : Flushed). Does x s t p q) (sym h.0) (inl (refl, ne, h.1))
does_first s t p q (Err e) ne h = tt

pub does_write : (s t : DiskState) (p q : Parts) (at : ℕ) (r : Result Flushed BlockError) → p.doubt ≡ None → IfOk r (λ f. (f ≡ Wrote at) × Writes at s t p q) → IfOk r (λ f. Does f s t p q)
does_write s t p q at (Ok f) e h = subst (λ (x : Flushed). Does x s t p q) (sym h.0) (inr (e, h.1))
does_write s t p q at (Err x) e h = tt

pub does_sync : (s t : DiskState) (p q : Parts) (r : Result Flushed BlockError) → p.doubt ≡ None → IfOk r (λ f. (f ≡ SyncedIs) × Syncs s t p q) → IfOk r (λ f. Does f s t p q)
does_sync s t p q (Ok f) e h = subst (λ (x : Flushed). Does x s t p q) (sym h.0) (e, h.1)
does_sync s t p q (Err x) e h = tt

-- over memory and a device that stayed until then
pub does_moved : {M : Type 0} (state : M → DiskState) (a b c : M) (p m q : Parts) (r : Result Flushed BlockError) → m ≡ p → b ≡ a → IfOk r (λ f. Does f (state b) (state c) m q) → IfOk r (λ f. Does f (state a) (state c) p q)
does_moved {M} state a b c p m q r same e h =
    subst (λ (z : Parts). IfOk r (λ f. Does f (state a) (state c) z q)) same
    (subst (λ (x : M). IfOk r (λ f. Does f (state x) (state c) m q)) e h)

-- what an idle turn says
pub idle_did : (s t : DiskState) (p q : Parts) (r : Result Flushed BlockError) → IfOk r (λ f. Does f s t p q) → r ≡ Ok Idle → (q ≡ p) × AtIdle p
idle_did s t p q r h e = let d : Does Idle s t p q = subst (λ (x : Result Flushed BlockError). IfOk x (λ f. Does f s t p q)) e h in (d.1, d.2)

pub on_err : {T E A B : Type 0} (r : Result T E) → (A → B) → OnErr r A → OnErr r B
on_err (Ok x) f a = tt
on_err (Err e) f a = f a

pub if_ok : {T E : Type 0} (A B : T → Type 0) (r : Result T E) → ((x : T) → A x → B x) → IfOk r A → IfOk r B
if_ok A B (Ok x) f a = f x a
if_ok A B (Err e) f a = tt

-- ---- a device that is the same

pub eases_moved : {M : Type 0} (holds : M → Holds) (faults : M → ℕ) (a b c : M) (p m q : Parts) → m ≡ p → b ≡ a → Eases (record m { disk = holds b; faults = faults b }) (record q { disk = holds c; faults = faults c })
    → Eases (record p { disk = holds a; faults = faults a }) (record q { disk = holds c; faults = faults c })
eases_moved {M} holds faults a b c p m q same e h =
    subst (λ (z : Parts). Eases (record z { disk = holds a; faults = faults a }) (record q { disk = holds c; faults = faults c })) same
    (subst (λ (x : M). Eases (record m { disk = holds x; faults = faults x }) (record q { disk = holds c; faults = faults c })) e h)

pub eases_right : {M : Type 0} (holds : M → Holds) (faults : M → ℕ) (a b : M) (p q : Parts) → b ≡ a → Eases (record p { disk = holds a; faults = faults a }) (record q { disk = holds a; faults = faults a })
    → Eases (record p { disk = holds a; faults = faults a }) (record q { disk = holds b; faults = faults b })
eases_right {M} holds faults a b p q e h = subst (λ (x : M). Eases (record p { disk = holds a; faults = faults a }) (record q { disk = holds x; faults = faults x })) (sym e) h

pub eases_still : {M : Type 0} (holds : M → Holds) (faults : M → ℕ) (a b : M) (p q : Parts) → q ≡ p → b ≡ a → Eases (record p { disk = holds a; faults = faults a }) (record q { disk = holds b; faults = faults b })
eases_still holds faults a b p q same e = eases_moved holds faults a b b p q q same e (eases_none (record q { disk = holds b; faults = faults b }))

pub any_err : {T E B : Type 0} (r : Result T E) → B → OnErr r B
any_err (Ok x) b = tt
any_err (Err e) b = b

-- whatever it answers
pub at_both : {T E B : Type 0} (P Q : T → Type 0) (r : Result T E) → B → MatchResult r (λ x. P x → Q x → B) (λ e. B)
at_both P Q (Ok x) b = λ h k. b
at_both P Q (Err e) b = b
