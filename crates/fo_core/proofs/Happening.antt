-- What becomes of an event, from what the calls below say.
use Rattle.std.proofs.Common.{◌≡◌, ◌≢◌, ◌⊎◌, ◌*◌, ℕ, [], Bool, Option, Some, None, Result, Ok, Err, inl, inr, ap, arith}
use Rattle.std.specs.Prelude.{◌↔◌, IfOk, IfErr, OnErr, MatchResult}
use Rattle.fo_base.specs.Cause.{Rose}
use Rattle.fo_disk.specs.declared.disk.DiskFault.TheVariants.{Read, Write, Sync}
use Rattle.fo_unlink.specs.Pending.{Pending}
use Rattle.fo_ports.specs.Causes.{Caused}
use Rattle.fo_ports.specs.State.{Looks}
use Rattle.fo_starting.specs.of_settling.Costs.{Costs}
use Rattle.fo_ports.specs.declared.error.BlockError.{BlockError}
use Rattle.fo_ports.specs.declared.error.BlockError.TheVariants.{Full, Damaged, Fault, Arena, Memory}
use Rattle.fo_ending.specs.of_closing.Rest.{AtRest}
use Rattle.fo_ending.specs.of_cache.Easing.{Eases}
use Rattle.fo_events.specs.of_turning.declared.flush.Flushed.{Flushed}
use Rattle.fo_events.specs.of_turning.declared.flush.Flushed.TheVariants.{Idle}
use Rattle.fo_events.specs.of_turning.declared.unlink.Unlinked.{Unlinked}
use Rattle.fo_events.specs.of_turning.declared.unlink.Unlinked.TheVariants.{Empty, Waits}
use Rattle.fo_events.specs.of_turning.Flushes.{AtIdle, Does, Misses}
use Rattle.fo_events.specs.of_turning.Freed.{Yields}
use Rattle.fo_events.specs.of_turning.Unlinks.{Unlinks}
use Rattle.fo_world.specs.Answers.{NotFewer}
use Rattle.fo_world.specs.World.{World}
use Rattle.nine_wire.specs.declared.message.Reply.{Reply}
use Rattle.nine_fids.specs.declared.fid.Fid.{Fid}
use Rattle.nine_session.specs.Session.{Drops, Kept}
use Rattle.fo_starting.specs.of_devices.Laws.{keeps_all}
use Rattle.fo_files.specs.Kept.{untold}
use Rattle.fo_files.specs.Laws.{faults_kept}
use Rattle.fo_events.specs.Row.{IsTurnFault}
use Rattle.fo_core.specs.Moment.{Moment, blocks, cache, counts, files, within}
use Rattle.fo_core.specs.Goes.{Aside, FlushedBy, LeavesDirty, SettledFrom, UnlinkedBy, most_let_go, told_of}

-- ---- no count falls

pub later : (old new : Moment) (w : World) (most : ℕ) → within old new w most → NotFewer (counts old) (counts new)
later old new w most t = faults_kept (blocks old) (blocks new) (keeps_all old.seen new.seen t.keeps)

pub later_dropped : (old new : Moment) (k k' : Kept) (now : ℕ) (best : Option Fid) (more : Bool) (r : Option Reply) → Drops (files old) (files new) (within old new) k now best more r k' → NotFewer (counts old) (counts new)
later_dropped old new k k' now None more r d = later old new untold 0 d.3
later_dropped old new k k' now (Some f) more r d = let t = d.1.taken in later old new t.0 _ t.1

-- the arena is as it was
pub later_aside : (old new : Moment) → Aside old new → NotFewer (counts old) (counts new)
later_aside old new a = record { main = a.later; arena = let e = a.arena_faults in omega (arith, e) }

-- ---- what is left to be written

pub leaves : (old new : Moment) (w : World) (most : ℕ) → within old new w most → LeavesDirty (2 * most) old new
leaves old new w most t = record { more = t.dirties.blocks; few = t.dirties.few; each = t.dirties.within.dirty }

pub leaves_dropped : (old new : Moment) (k k' : Kept) (now : ℕ) (best : Option Fid) (more : Bool) (r : Option Reply) → Drops (files old) (files new) (within old new) k now best more r k' → LeavesDirty (2 * most_let_go best) old new
leaves_dropped old new k k' now None more r d = leaves old new untold 0 d.3
leaves_dropped old new k k' now (Some f) more r d = let t = d.1.taken in leaves old new t.0 _ t.1

-- ---- a settling that is asked for

-- what a session says of the files, of their moments
pub settled_once : {F : Type 0} (was : F) (moment : F → Moment) (new : Moment)
    → Looks (blocks (moment was)) (blocks new) ⊎ ((mid : F) × Looks (blocks (moment was)) (blocks (moment mid)) × Costs (moment mid).main new.main (moment mid).calls new.calls (cache (moment mid)))
    → Looks (blocks (moment was)) (blocks new) ⊎ SettledFrom (moment was) new
settled_once was moment new (inl looks) = inl looks
settled_once was moment new (inr way) = inr (record { mid = moment way.0; looks = way.1; costs = way.2 })

-- ---- what is told of a turn

ok_of : {X : Type 0} (r : Result X BlockError) (x : X) → told_of r ≡ Ok x → r ≡ Ok x
ok_of (Ok y) x e = cc
ok_of (Err w) x e = cc

of_ok : {X : Type 0} (r : Result X BlockError) (x : X) → r ≡ Ok x → told_of r ≡ Ok x
of_ok r x e = ap told_of e

if_ok : {X : Type 0} (P : X → Type 0) (r : Result X BlockError) → IfOk r P → IfOk (told_of r) P
if_ok P (Ok x) p = p
if_ok P (Err w) p = p

on_err : {X : Type 0} (P : Type 0) (r : Result X BlockError) → OnErr r P → OnErr (told_of r) P
on_err P (Ok x) p = p
on_err P (Err w) p = p

match_told : {X : Type 0} (P : X → Type 0) (Q : Type 0) (r : Result X BlockError) → MatchResult r P (λ e. Q) → MatchResult (told_of r) P (λ e. Q)
match_told P Q (Ok x) p = p
match_told P Q (Err w) p = p

pub caused : {X : Type 0} (old new : Moment) (r : Result X BlockError) → IfErr r (Caused ⊥ (λ b. ⊥) (Rose (counts old).main (counts new).main) ⊥) → IfErr (told_of r) (IsTurnFault (counts old) (counts new))
caused old new (Ok x) c = tt
caused old new (Err Full) c = absurd c
caused old new (Err (Damaged at)) c = absurd c
caused old new (Err (Fault Read)) c = c
caused old new (Err (Fault Write)) c = c
caused old new (Err (Fault Sync)) c = c
caused old new (Err (Arena which)) c = absurd c
caused old new (Err Memory) c = tt

pub flushed : (old new : Moment) (r : Result Flushed BlockError)
    → IfOk r (λ f. Does f old.main new.main (cache old) (cache new))
    → (r ≡ Ok Idle) ↔ AtIdle (cache old)
    → (AtIdle (cache old) → cache new ≡ cache old)
    → Eases old.seen.cache new.seen.cache
    → OnErr r (Misses (cache old) (cache new))
    → IfErr r (Caused ⊥ (λ b. ⊥) (Rose (counts old).main (counts new).main) ⊥)
    → Aside old new
    → FlushedBy old (told_of r) new
flushed old new r does idle still eases misses cause aside = record {
  does = if_ok _ r does;
  idle = (λ e. idle.0 (ok_of r Idle e), λ h. of_ok r Idle (idle.1 h));
  still = still;
  eases = eases;
  misses = on_err _ r misses;
  cause = caused old new r cause;
  aside = aside;
}

some_queue : (old new : Moment) (queue : Pending) (r : Result Unlinked BlockError) → IfOk r (λ u. Unlinks old.main.holds u old.seen.cache new.seen.cache queue) → IfOk (told_of r) (λ u. (q : Pending) × Unlinks old.main.holds u old.seen.cache new.seen.cache q)
some_queue old new queue (Ok u) is = (queue, is)
some_queue old new queue (Err e) is = tt

pub unlinked : (old new : Moment) (queue : Pending) (r : Result Unlinked BlockError)
    → IfOk r (λ u. Unlinks old.main.holds u old.seen.cache new.seen.cache queue)
    → (r ≡ Ok Empty) ↔ ((cache old).removals ≡ [])
    → (r ≡ Ok Waits) ↔ (((cache old).removals ≢ []) × (AtIdle (cache old) → ⊥))
    → Yields old.seen.cache new.seen.cache
    → MatchResult r (λ u. u ≢ Waits → u ≢ Empty → AtRest (cache new)) (λ e. AtRest (cache new))
    → OnErr r ((cache new).region ≡ (cache old).region)
    → OnErr r ((cache new).removals ≡ (cache old).removals)
    → new.main ≡ old.main
    → IfErr r (Caused ⊥ (λ b. ⊥) (Rose (counts old).main (counts new).main) ⊥)
    → Aside old new
    → UnlinkedBy old (told_of r) new
unlinked old new queue r unlinks empty waits yields rest labels removals unwritten cause aside = record {
  unlinks = some_queue old new queue r unlinks;
  empty = (λ e. empty.0 (ok_of r Empty e), λ h. of_ok r Empty (empty.1 h));
  waits = (λ e. waits.0 (ok_of r Waits e), λ h. of_ok r Waits (waits.1 h));
  yields = yields;
  rest = match_told _ _ r rest;
  labels = on_err _ r labels;
  removals = on_err _ r removals;
  unwritten = unwritten;
  cause = caused old new r cause;
  aside = aside;
}
