-- How often turns and clearings call the device.
use Rattle.std.proofs.Common.{◌≡◌, ◌≢◌, ◌⊎◌, inl, inr, ⊎_elim, ℕ, zero, suc, ◌+◌, ◌*◌, ◌<◌, ◌≤◌, ◌&&◌, Bool, true, false, not, cond, nat_eq, List, [], ◌∷◌, ◌++◌, length, length-append, set, get_or-set_other, get_or-set_same, count_by, Option, None, Some, refl, sym, ap, ◌∙◌, subst, arith}
use Rattle.std.specs.List.{Contains}
use Rattle.std.proofs.lemmas.Bool.{cases_eq, eq-eqb}
use Rattle.fo_disk.specs.Disk.{DiskState}
use Rattle.fo_order.specs.declared.marks.Flags.{Flags}
use Rattle.fo_order.specs.declared.marks.Tried.TheVariants.{Written}
use Rattle.fo_order.specs.Flags.{flag, flags_of, is_dirty, quiet}
use Rattle.fo_order.specs.Keeps.{Turns}
use Rattle.fo_order.specs.Turns.{IsQuiet, flag_at}
use Rattle.fo_order.proofs.Keeping.{counted_down, count_none, in_range}
use Rattle.fo_cache.specs.of_waits.declared.listed.Clearing.{Clearing}
use Rattle.fo_cache.specs.of_waits.Listed.{Clears, ClearsAfter}
use Rattle.fo_cache.specs.of_mind.Due.{ClearedDue, is_over}
use Rattle.fo_cache.specs.of_mind.Parts.{Parts}
use Rattle.fo_cache.specs.of_mind.Turning.{is_settled}
use Rattle.fo_cache.specs.Called.{Call, Makes, at_only, no_more, turns_of, writes_of}
use Rattle.fo_cache.specs.Numbering.{Renumbers}
use Rattle.fo_cache.specs.Settling.{Settles}
use Rattle.fo_cache.specs.Work.{in_doubt, work}
use Rattle.fo_cache.proofs.Called.{called_on, writes_on}
use Rattle.fo_cache.proofs.Lessening.{due_others, quiet_work}
use Rattle.fo_settling.specs.Costs.{AreAll, AreUnchained, Costs, Fewer, NoneDue, Spends, Touches, WaitIn, after_turns, most_calls, most_writes, none_left, waits_of}
use Rattle.fo_settling.proofs.Clearing.{due_out}
use Rattle.fo_settling.proofs.Waiting.{over_quiet, waits_after}

never : {A : Type 0} → true ≡ false → A
never e = cc

-- ---- blocks that have turns are counted

behind : (x b : ℕ) (xs : List ℕ) → b ≢ x → Contains (x ∷ xs) b → Contains xs b
behind x b xs ne (zero, lt, e) = absurd (ne (sym e))
behind x b xs ne (suc k, lt, e) = (k, omega (arith, lt), e)

none_in : (b : ℕ) → Contains [] b → ⊥
none_in b (k, lt, e) = omega (arith, lt)

not_dirty : (d : Bool) → (d ≡ true → ⊥) → d ≡ false
not_dirty true h = absurd (h refl)
not_dirty false h = refl

-- As many are dirty as there are blocks in a list that has them all, at most.
dirty_few : (blocks : List ℕ) (flags : List Flags) → ((b : ℕ) → (flag flags b).dirty ≡ true → Contains blocks b) → count_by is_dirty flags ≤ length blocks
dirty_few [] flags all = let e = count_none flags (λ q. not_dirty (flag flags q).dirty (λ d. none_in q (all q d))) in omega (arith, e)
dirty_few (x ∷ xs) flags all = by (λ fs a. dirty_few xs fs a) (flag flags x).dirty refl
  where
    by : ((fs : List Flags) → ((b : ℕ) → (flag fs b).dirty ≡ true → Contains xs b) → count_by is_dirty fs ≤ length xs) → (d : Bool) → (flag flags x).dirty ≡ d → count_by is_dirty flags ≤ length (x ∷ xs)
    by few false calm =
        let rest = few flags (λ b d. behind x b xs (λ same. never (sym d ∙ ap (λ n. (flag flags n).dirty) same ∙ calm)) (all b d)) in
        omega (arith, rest)
    by few true dirty =
        let f = flags_of false Written 0 in
        let here : (flag (set flags x f) x).dirty ≡ false = ap (λ (z : Flags). z.dirty) (get_or-set_same flags x f quiet (in_range flags x dirty)) in
        let other : (b : ℕ) → (flag (set flags x f) b).dirty ≡ true → b ≢ x = λ b d same. never (sym d ∙ ap (λ n. (flag (set flags x f) n).dirty) same ∙ here) in
        let rest = few (set flags x f) (λ b d. behind x b xs (other b d) (all b (sym (ap (λ (z : Flags). z.dirty) (get_or-set_other flags x b f quiet (other b d))) ∙ d))) in
        let down = counted_down flags x 0 dirty in
        omega (arith, rest, down)

-- ---- slots that wait

waits_one : (cs : List Clearing) (b j : ℕ) → Clears cs b j → waits_of cs b ≡ 1
waits_one [] b j h = absurd h
waits_one (c ∷ cs) b j (inl e) = ap (λ same. cond same 1 (waits_of cs b)) (eq-eqb c.at b e.0)
waits_one (c ∷ cs) b j (inr h) = by (waits_one cs b j h) (nat_eq c.at b)
  where
    by : waits_of cs b ≡ 1 → (same : Bool) → cond same 1 (waits_of cs b) ≡ 1
    by later true = refl
    by later false = later

none_waiting : (cs : List Clearing) → ((b j : ℕ) → Clears cs b j → ⊥) → cs ≡ []
none_waiting [] none = refl
none_waiting (c ∷ cs) none = absurd (none c.at c.slot (inl (refl, refl)))

some_waiting : (cs : List Clearing) (b j : ℕ) (blocks : List ℕ) → Clears cs b j → after_turns cs blocks ≡ 2 * length blocks + 1
some_waiting [] b j blocks h = absurd h
some_waiting (c ∷ cs) b j blocks h = refl

at_most : (cs : List Clearing) (blocks : List ℕ) → after_turns cs blocks ≤ 2 * length blocks + 1
at_most [] blocks = omega arith
at_most (c ∷ cs) blocks = omega arith

-- ---- slots that are cleared

pub touches_none : (p : Parts) → Touches p p
touches_none p = record { flags = λ b. inl refl; waits = λ b j h. h; leaves = λ b j leaf h. h }

pub touches_on : {p m q : Parts} → Touches p m → Touches m q → Touches p q
touches_on {p} {m} {q} x y = record {
  flags = λ b. ⊎_elim
      (λ same. ⊎_elim (λ was. inl (same ∙ was)) (λ c. inr c) (x.flags b))
      (λ c. inr (c.0, x.waits b c.0 c.1))
      (y.flags b);
  waits = λ b j h. x.waits b j (y.waits b j h);
  leaves = λ b j leaf h. x.leaves b j leaf (y.leaves b j leaf h);
}

pub touches_due : (at i : ℕ) (p q : Parts) → ClearedDue at i p q → Clears p.clears at i → Touches p q
touches_due at i p q z waits = record {
  flags = λ b. ⊎_elim (λ same. inr (i, subst (λ n. Clears p.clears n i) (sym same) waits)) (λ ne. inl (due_others p q at i z b ne)) (cases_eq b at);
  waits = (due_out at i p q z).only;
  leaves = (due_out at i p q z).same_leaves;
}

-- Where all was settled, a slot that waits still would wait for a leaf of which a slot was cleared.
none_still : (p q : Parts) → IsQuiet p.turns → AreUnchained p.clears → Touches p q → NoneDue q → (b j : ℕ) → Clears q.clears b j → ⊥
none_still p q calm free t none b j h =
    let after = waits_after q.clears b j h in
    let was = t.leaves b j after.0 after.1 in
    ⊎_elim
    (λ same. never (sym (over_quiet p.turns calm after.0) ∙ sym (over after.0 same) ∙ none b j after.0 after.1))
    (λ c. free b j after.0 c.0 was c.1)
    (t.flags after.0)
  where
    over : (leaf : ℕ) → flag_at q.turns leaf ≡ flag_at p.turns leaf → is_over q.turns leaf ≡ is_over p.turns leaf
    over leaf e = ap (λ (f : Flags). not f.dirty && is_settled f.tried) e

-- ---- rounds of turns and clearings

pub fewer_none : (p : Parts) → Fewer p p
fewer_none p = record { waits = λ b j h. h; unchained = λ free. free }

pub fewer_on : {p m q : Parts} → Fewer p m → Fewer m q → Fewer p q
fewer_on x y = record { waits = λ b j h. x.waits b j (y.waits b j h); unchained = λ free. y.unchained (x.unchained free) }

fewer_touched : {p q : Parts} → Touches p q → Fewer p q
fewer_touched t = record { waits = t.waits; unchained = λ free b j leaf i after here. free b j leaf i (t.leaves b j leaf after) (t.waits leaf i here) }

-- turns are taken, or block 1 is settled
fewer_same : (p q : Parts) → q.clears ≡ p.clears → Fewer p q
fewer_same p q same = record {
  waits = λ b j h. subst (λ (cs : List Clearing). Clears cs b j) same h;
  unchained = λ free. subst (λ (cs : List Clearing). AreUnchained cs) (sym same) free;
}

pub spends_none : (s : DiskState) (n : ℕ) (p : Parts) → Spends s s n n p (most_calls p) (most_writes p)
spends_none s n p = record { calls = []; called = refl; all = omega arith; few = λ free blocks within. omega arith; often = λ free b. omega arith }

pub spends_end : {s t : DiskState} {before now : ℕ} {p : Parts} {left : List ℕ → ℕ} {rest : ℕ → ℕ} → Spends s t before now p left rest → Spends s t before now p none_left no_more
spends_end x = record {
  calls = x.calls;
  called = x.called;
  all = x.all;
  few = λ free blocks within. let e = x.few free blocks within in omega (arith, e);
  often = λ free b. let e = x.often free b in omega (arith, e);
}

pub spends_on : {s m t : DiskState} {before mid now : ℕ} {p n : Parts} {left : List ℕ → ℕ} {rest : ℕ → ℕ} → Spends s m before mid p (most_calls n) (most_writes n) → Fewer p n → Spends m t mid now n left rest → Spends s t before now p left rest
spends_on {s} {m} {t} x f y = record {
  calls = x.calls ++ y.calls;
  called = called_on x.calls y.calls s m t x.called y.called;
  all = let k = length-append x.calls y.calls in let a = x.all in let b = y.all in omega (arith, k, a, b);
  few = λ free blocks within.
      let n = length-append x.calls y.calls in
      let a = x.few free blocks within in
      let b = y.few (f.unchained free) blocks (λ c j h. within c j (f.waits c j h)) in
      omega (arith, n, a, b);
  often = λ free k.
      let n = writes_on x.calls y.calls k in
      let a = x.often free k in
      let b = y.often (f.unchained free) k in
      omega (arith, n, a, b);
}

-- turns were taken, of which the last may have failed
pub spends_turned : {s t : DiskState} {before now : ℕ} (p : Parts) → Makes s t before now (work p.turns) 0 (turns_of p.turns) no_more → Spends s t before now p none_left no_more
spends_turned p x = record {
  calls = x.calls;
  called = x.called;
  all = x.all;
  few = λ free blocks within. let e = x.few in omega (arith, e);
  often = λ free b. let e = x.often b in omega (arith, e);
}

-- one, where a block has a turn
abbrev number : Bool → ℕ
number d = cond d 1 0

-- all turns were taken
module _ {s t : DiskState} {before now : ℕ} (p m : Parts) (x : Makes s t before now (work p.turns) 0 (turns_of p.turns) no_more) (same : m.clears ≡ p.clears) (calm : IsQuiet m.turns) where
  no_turn : (b : ℕ) → turns_of m.turns b ≡ 0
  no_turn b = ap number (calm.clean b)

  pub spends_calm : Spends s t before now p (most_calls m) (most_writes m)
  spends_calm = record {
    calls = x.calls;
    called = x.called;
    all = x.all;
    few = λ free blocks within.
        let e = x.few in
        let none = quiet_work m.turns calm in
        let waits = ap (λ (cs : List Clearing). after_turns cs blocks) same in
        omega (arith, e, none, waits);
    often = λ free b.
        let e = x.often b in
        let none = no_turn b in
        let waits = ap (λ (cs : List Clearing). waits_of cs b) same in
        omega (arith, e, none, waits);
  }

  pub fewer_calm : Fewer p m
  fewer_calm = fewer_same p m same

  -- and then slots were cleared, until none was due
  module _ (q : Parts) (touched : Touches m q) where
    pub fewer_cleared : Fewer p q
    fewer_cleared = fewer_on fewer_calm (fewer_touched touched)

    -- who has a turn now had a slot that waited
    waited : (b : ℕ) → (flag_at q.turns b).dirty ≡ true → (j : ℕ) × Clears p.clears b j
    waited b d = ⊎_elim
        (λ kept. never (sym d ∙ ap (λ (f : Flags). f.dirty) kept ∙ calm.clean b))
        (λ c. (c.0, subst (λ (cs : List Clearing). Clears cs b c.0) same c.1))
        (touched.flags b)

    turns_wait : (b : ℕ) (d : Bool) → (flag_at q.turns b).dirty ≡ d → cond d 1 0 ≤ waits_of p.clears b
    turns_wait b true e = let w = waited b e in let one = waits_one p.clears b w.0 w.1 in omega (arith, one)
    turns_wait b false e = omega arith

    module _ (none : NoneDue q) (at i : ℕ) (waits : Clears m.clears at i) where
      gone : AreUnchained p.clears → q.clears ≡ []
      gone free = none_waiting q.clears (none_still m q calm (subst (λ (cs : List Clearing). AreUnchained cs) (sym same) free) touched none)

      pub spends_cleared : Spends s t before now p (most_calls q) (most_writes q)
      spends_cleared = record {
        calls = x.calls;
        called = x.called;
        all = x.all;
        few = λ free blocks within.
            let e = x.few in
            let few = dirty_few blocks q.turns.flags (λ b d. let w = waited b d in within b w.0 w.1) in
            let now = ap (λ (cs : List Clearing). after_turns cs blocks) (gone free) in
            let was = some_waiting p.clears at i blocks (subst (λ (cs : List Clearing). Clears cs at i) same waits) in
            omega (arith, e, few, now, was);
        often = λ free b.
            let e = x.often b in
            let now = ap (λ (cs : List Clearing). waits_of cs b) (gone free) in
            let turns = turns_wait b (flag_at q.turns b).dirty refl in
            omega (arith, e, now, turns);
      }

-- ---- a whole settling

doubt_one : (o : Option (List ℕ)) → in_doubt o ≤ 1
doubt_one None = omega arith
doubt_one (Some tried) = omega arith

-- block 1 was in doubt, and could not be settled
pub costs_doubted : {s t : DiskState} {before now : ℕ} (p : Parts) → Makes s t before now (2 * in_doubt p.doubt) 0 (at_only 1 (in_doubt p.doubt)) no_more → Costs s t before now p
costs_doubted p x = record {
  calls = x.calls;
  called = x.called;
  all = x.all;
  few = λ free blocks all. let e = x.few in let one = doubt_one p.doubt in omega (arith, e, one);
  twice = λ free b. let e = x.often b in omega (arith, e);
}

-- rounds come after that
pub costs_of : {s m t : DiskState} {before mid now : ℕ} (p n : Parts) → Makes s m before mid (2 * in_doubt p.doubt) 0 (at_only 1 (in_doubt p.doubt)) no_more → Renumbers s m p n → work n.turns ≤ work p.turns → Spends m t mid now n none_left no_more → Costs s t before now p
costs_of {s} {m} {t} p n x r less y = record {
  calls = x.calls ++ y.calls;
  called = called_on x.calls y.calls s m t x.called y.called;
  all = let k = length-append x.calls y.calls in let a = x.all in let b = y.all in omega (arith, k, a, b);
  few = λ free blocks all.
      let n' = length-append x.calls y.calls in
      let a = x.few in
      let one = doubt_one p.doubt in
      let b = y.few (waiting.unchained free) blocks (λ c j h. all.waits c j (waiting.waits c j h)) in
      let waits = at_most n.clears blocks in
      let turns = dirty_few blocks p.turns.flags all.turns in
      omega (arith, n', a, one, b, less, waits, turns);
  twice = λ free k.
      let n' = writes_on x.calls y.calls k in
      let a = x.often k in
      let b = y.often (waiting.unchained free) k in
      let turns = ap number (r.turn k) in
      let waits = ap (λ (cs : List Clearing). waits_of cs k) same in
      omega (arith, n', a, b, turns, waits);
}
  where
    same : n.clears ≡ p.clears
    same = ap (λ (z : Parts). z.clears) r.rest

    waiting : Fewer p n
    waiting = fewer_same p n same
