-- Calls of the device, one after another.
use Rattle.std.proofs.Common.{◌≡◌, ℕ, ◌+◌, ◌<◌, ◌≤◌, Bool, true, false, cond, nat_eq, eqb-true, List, [], ◌∷◌, ◌++◌, length, length-append, Option, None, Some, Result, Ok, Err, refl, sym, ap, ◌∙◌, subst, arith}
use Rattle.std.proofs.lemmas.Bool.{eqb-false}
use Rattle.fo_base.specs.Cause.{Rose}
use Rattle.fo_disk.specs.Disk.{Block, DiskState, IsSync, IsWrite}
use Rattle.fo_disk.specs.declared.disk.Failed.{Failed}
use Rattle.fo_order.specs.declared.marks.Flags.{Flags}
use Rattle.fo_order.specs.Keeps.{Turns}
use Rattle.fo_order.specs.Turns.{IsDue, IsNext, flag_at, wrote}
use Rattle.fo_order.proofs.Keeping.{in_range}
use Rattle.fo_ports.specs.Causes.{Caused}
use Rattle.fo_ports.specs.declared.error.BlockError.{BlockError}
use Rattle.fo_ports.specs.declared.error.BlockError.TheVariants.{Full, Damaged, Fault, Arena, Memory}
use Rattle.fo_mind.specs.Parts.{Parts}
use Rattle.fo_mind.specs.Turning.{KeepsTurn, Landed, Synced}
use Rattle.fo_mind.proofs.Turning.{landed_here, landed_other}
use Rattle.fo_cache.specs.Called.{Call, Called, Calls, Makes, at_only, no_more, turns_of, writes, writes_of}
use Rattle.fo_cache.specs.Work.{work}
use Rattle.fo_cache.proofs.Lessening.{due_work, next_kept, next_work, synced_less, written_less}

-- ---- a fault of a later call

pub caused_later : (f g h : ℕ) (e : BlockError) → f ≤ g → Caused ⊥ (λ b. ⊥) (Rose g h) ⊥ e → Caused ⊥ (λ b. ⊥) (Rose f h) ⊥ e
caused_later f g h Full le c = c
caused_later f g h (Damaged at) le c = c
caused_later f g h (Fault which) le c = omega (arith, le, c)
caused_later f g h (Arena which) le c = c
caused_later f g h Memory le c = c

-- ---- one row after another

pub called_on : (cs ds : List Call) (s m t : DiskState) → Called cs s m → Called ds m t → Called (cs ++ ds) s t
called_on [] ds s m t a b = subst (λ x. Called ds x t) a b
called_on (c ∷ cs) ds s m t a b = (a.0, a.1, called_on cs ds a.0 m t a.2 b)

pub writes_on : (cs ds : List Call) (b : ℕ) → writes_of (cs ++ ds) b ≡ writes_of cs b + writes_of ds b
writes_on [] ds b = omega arith
writes_on (c ∷ cs) ds b = let e = writes_on cs ds b in omega (arith, e)

pub makes_on : {s m t : DiskState} {before mid now most left end : ℕ} {limit rest last : ℕ → ℕ} → Makes s m before mid most left limit rest → Makes m t mid now left end rest last → Makes s t before now most end limit last
makes_on {s} {m} {t} x y = record {
  calls = x.calls ++ y.calls;
  called = called_on x.calls y.calls s m t x.called y.called;
  all = let n = length-append x.calls y.calls in let a = x.all in let b = y.all in omega (arith, n, a, b);
  few = let n = length-append x.calls y.calls in let a = x.few in let b = y.few in omega (arith, n, a, b);
  often = λ k. let n = writes_on x.calls y.calls k in let a = x.often k in let b = y.often k in omega (arith, n, a, b);
}

-- no call
pub makes_none : (s : DiskState) (n most : ℕ) (limit : ℕ → ℕ) → Makes s s n n most most limit limit
makes_none s n most limit = record { calls = []; called = refl; all = omega arith; few = omega arith; often = λ b. omega arith }

-- what may come doesn't come
pub makes_end : {s t : DiskState} {before now most left : ℕ} {limit rest : ℕ → ℕ} → Makes s t before now most left limit rest → Makes s t before now most 0 limit no_more
makes_end x = record {
  calls = x.calls;
  called = x.called;
  all = x.all;
  few = let e = x.few in omega (arith, e);
  often = λ b. let e = x.often b in omega (arith, e);
}

-- ---- a write

one_write : (s t : DiskState) (at : ℕ) (bytes : Block) (r : Result Unit Failed) → IsWrite at bytes r s t → Called (Some at ∷ []) s t
one_write s t at bytes r w = (t, (bytes, r, w), refl)

-- a block that has a turn is written once
abbrev number : Bool → ℕ
number d = cond d 1 0

at_most : (at b : ℕ) (t : Turns) → (flag_at t at).dirty ≡ true → (same : Bool) → nat_eq at b ≡ same → cond same 1 0 ≤ turns_of t b
at_most at b t dirty false e = omega arith
at_most at b t dirty true e = let one = ap number (ap (λ n. (flag_at t n).dirty) (sym (eqb-true at b e)) ∙ dirty) in omega (arith, one)

-- a write that failed, or of which no more is said
pub makes_missed : (s t : DiskState) (before now : ℕ) (p m : Parts) (at : ℕ) (bytes : Block) (r : Result Unit Failed) → KeepsTurn p m → IsNext p.turns at → IsWrite at bytes r s t → now ≤ before + 1 → Makes s t before now (work p.turns) 0 (turns_of p.turns) no_more
makes_missed s t before now p m at bytes r k next w le = record {
  calls = Some at ∷ [];
  called = one_write s t at bytes r w;
  all = omega (arith, le);
  few = let some = next_work p at next in omega (arith, some);
  often = λ b. let e = at_most at b p.turns next.dirty (nat_eq at b) refl in omega (arith, e);
}

-- a write that answered Ok: its block has no turn any more
module _ (p m q : Parts) (at : ℕ) (k : KeepsTurn p m) (next : IsNext p.turns at) (l : Landed at m q) where
  kept : (b : ℕ) → turns_of m.turns b ≡ turns_of p.turns b
  kept b = ap (λ (x : Parts). turns_of x.turns b) k.rest

  landed : (b : ℕ) → turns_of q.turns b ≡ turns_of (wrote m.turns at true) b
  landed b = ap (λ (t : Turns). turns_of t b) l.turns

  within : at < length m.turns.flags
  within = in_range m.turns.flags at (next_kept p m at k next)

  once : (b : ℕ) (same : Bool) → nat_eq at b ≡ same → cond same 1 0 + turns_of q.turns b ≤ turns_of p.turns b
  once b true e =
      let here = eqb-true at b e in
      let none : turns_of q.turns at ≡ 0 = landed at ∙ ap (λ (f : Flags). number f.dirty) (landed_here m.turns at within) in
      let one : turns_of p.turns at ≡ 1 = ap number next.dirty in
      subst (λ n. 1 + turns_of q.turns n ≤ turns_of p.turns n) here (omega (arith, none, one))
  once b false e =
      let other = landed b ∙ ap (λ (f : Flags). number f.dirty) (landed_other m.turns at within b (λ same. eqb-false at b e (sym same))) ∙ kept b in
      omega (arith, other)

  pub makes_landed : (s t : DiskState) (before now : ℕ) (bytes : Block) (r : Result Unit Failed) → IsWrite at bytes r s t → now ≤ before + 1 → Makes s t before now (work p.turns) (work q.turns) (turns_of p.turns) (turns_of q.turns)
  makes_landed s t before now bytes r w le = record {
    calls = Some at ∷ [];
    called = one_write s t at bytes r w;
    all = omega (arith, le);
    few = let less = written_less p m q at k next l in omega (arith, less);
    often = λ b. let e = once b (nat_eq at b) refl in omega (arith, e);
  }

-- ---- a sync

one_sync : (s t : DiskState) (r : Result Unit Failed) → IsSync r s t → Called (None ∷ []) s t
one_sync s t r w = (t, (r, w), refl)

pub makes_unsynced : (s t : DiskState) (before now : ℕ) (p : Parts) (r : Result Unit Failed) → IsDue p.turns → IsSync r s t → now ≤ before + 1 → Makes s t before now (work p.turns) 0 (turns_of p.turns) no_more
makes_unsynced s t before now p r due w le = record {
  calls = None ∷ [];
  called = one_sync s t r w;
  all = omega (arith, le);
  few = let some = due_work p due in omega (arith, some);
  often = λ b. omega arith;
}

pub makes_synced : (s t : DiskState) (before now : ℕ) (p q : Parts) (r : Result Unit Failed) → IsDue p.turns → Synced p q → IsSync r s t → now ≤ before + 1 → Makes s t before now (work p.turns) (work q.turns) (turns_of p.turns) (turns_of q.turns)
makes_synced s t before now p q r due c w le = record {
  calls = None ∷ [];
  called = one_sync s t r w;
  all = omega (arith, le);
  few = let less = synced_less p q due c in omega (arith, less);
  often = λ b. let same = ap (λ (f : Flags). number f.dirty) (c.turns.each b) in omega (arith, same);
}

-- ---- a write of block 1, and a sync

pub makes_first : (s m t : DiskState) (before mid now : ℕ) (bytes : Block) (w y : Result Unit Failed) → IsWrite 1 bytes w s m → IsSync y m t → mid ≤ before + 1 → now ≤ mid + 1 → Makes s t before now 2 0 (at_only 1 1) no_more
makes_first s m t before mid now bytes w y wrote synced le more = record {
  calls = Some 1 ∷ None ∷ [];
  called = (m, (bytes, w, wrote), one_sync m t y synced);
  all = omega (arith, le, more);
  few = omega arith;
  often = λ b. let e = same b (nat_eq 1 b) in omega (arith, e);
}
  where
    same : (b : ℕ) (here : Bool) → cond here 1 0 ≤ cond here 1 0
    same b true = omega arith
    same b false = omega arith

pub makes_half : (s m : DiskState) (before mid : ℕ) (bytes : Block) (w : Result Unit Failed) → IsWrite 1 bytes w s m → mid ≤ before + 1 → Makes s m before mid 2 0 (at_only 1 1) no_more
makes_half s m before mid bytes w wrote le = record {
  calls = Some 1 ∷ [];
  called = one_write s m 1 bytes w wrote;
  all = omega (arith, le);
  few = omega arith;
  often = λ b. omega arith;
}
