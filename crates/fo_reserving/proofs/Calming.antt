-- All comes to rest.
use Rattle.std.proofs.Common.{◌≡◌, ◌↔◌, inl, inr, ⊎_elim, ℕ, ◌+◌, ◌<◌, ◌≤◌, Bool, true, false, IsTrue, List, [], ◌∷◌, length, count_by, None, Result, Ok, Err, refl, sym, ap, ◌∙◌, subst, arith}
use Rattle.std.specs.Result.{OnOk}
use Rattle.std.proofs.lemmas.Bool.{cases_lt}
use Rattle.fo_order.specs.Flags.{is_dirty}
use Rattle.fo_order.specs.Keeps.{Turns}
use Rattle.fo_disk.specs.Disk.{Content as Holds}
use Rattle.fo_order.specs.Turns.{IsQuiet}
use Rattle.fo_ports.specs.State.{IsClosing, IsSettled}
use Rattle.fo_waits.specs.declared.listed.Clearing.{Clearing}
use Rattle.fo_waits.specs.Listed.{Clears}
use Rattle.fo_closing.specs.of_mind.Parts.{IsPinned, Parts, state_of}
use Rattle.fo_closing.specs.of_mind.Turning.{Turning}
use Rattle.fo_closing.specs.Rest.{AtRest}
use Rattle.fo_settling.proofs.Waiting.{clean_quiet}
use Rattle.fo_reserving.specs.Steps.{AreFew, Lets, Reserves}

-- whatever it answers
pub always : {T E A : Type 0} (r : Result T E) → A → OnOk r A
always (Ok x) h = h
always (Err e) h = tt

pub none_clears : (cs : List Clearing) → ((b j : ℕ) → Clears cs b j → ⊥) → cs ≡ []
none_clears [] none = refl
none_clears (c ∷ cs) none = absurd (none c.at c.slot (inl (refl, refl)))

-- where some slot waits
pub some_slot : (cs : List Clearing) → 0 < length cs → (b : ℕ) × (j : ℕ) × Clears cs b j
some_slot [] some = absurd (omega (arith, some))
some_slot (c ∷ cs) some = (c.at, c.slot, inl (refl, refl))

-- turns leave what waits to be cleared, and what is in doubt
pub calm_turned : (p q : Parts) → q ≡ record p { held = q.held; turns = q.turns; facts = q.facts } → p.clears ≡ [] → p.doubt ≡ None → (q.clears ≡ []) × (q.doubt ≡ None)
calm_turned p q rest clears doubt = (ap (λ (z : Parts). z.clears) rest ∙ clears, ap (λ (z : Parts). z.doubt) rest ∙ doubt)

-- where all is settled, after pins ended
pub rest_let : (p q : Parts) → Lets p q → IsQuiet p.turns → p.clears ≡ [] → p.doubt ≡ None → ((b : ℕ) → IsPinned q.held b → ⊥) → AtRest q
rest_let p q l quiet clears doubt free =
    let now = subst (λ (z : Parts). IsQuiet z.turns) (sym l.rest) quiet in
    record {
      clean = λ b le. now.clean b;
      settled = λ b le. now.settled b;
      free = free;
      none = ap (λ (z : Parts). z.clears) l.rest ∙ clears;
      sure = ap (λ (z : Parts). z.doubt) l.rest ∙ doubt;
    }

pub quiet_let : (p q : Parts) → Lets p q → IsQuiet p.turns → IsQuiet q.turns
quiet_let p q l quiet = subst (λ (z : Parts). IsQuiet z.turns) (sym l.rest) quiet

pub waits_let : (p q : Parts) → Lets p q → p.waits ≡ [] → q.waits ≡ []
waits_let p q l e = ap (λ (z : Parts). z.waits) l.rest ∙ e

empty_length : {A : Type 0} (xs : List A) → (0 < length xs → ⊥) → length xs ≡ 0
empty_length [] some = refl
empty_length (x ∷ xs) some = absurd (some (omega arith))

pub none_left : {A : Type 0} (xs : List A) → length xs ≡ 0 → xs ≡ []
none_left [] e = refl
none_left (x ∷ xs) e = absurd (omega (arith, e))

-- where nothing was queued and nothing waited, a settling settles all
pub settled_whole : (p q : Parts) {first : ℕ} → p.removals ≡ [] → p.clears ≡ [] → Reserves p q → Turning first q.held q.turns q.facts → IsQuiet q.turns → AtRest q → IsSettled (state_of q)
settled_whole p q removals clears r turning quiet rest = record {
  settled = record { each = λ image h. absurd h };
  clean = λ b d. (clean_quiet q _ turning quiet b d, λ tells. absurd tells);
  empty = empty_length q.removals (λ some. closed (r.rests.queues some));
  cleared = λ b j h. subst (λ (cs : List Clearing). Clears cs b j) rest.none h;
}
  where
    closed : IsClosing (state_of p) → ⊥
    closed c = ⊎_elim
        (λ some. let e = ap length removals in omega (arith, some, e))
        (λ w. subst (λ (cs : List Clearing). Clears cs w.0 w.1) clears w.2)
        c

-- and stays so over a device that stays, where nothing changes
pub settled_still : (p q : Parts) {h k : Holds} {f g : ℕ} → q ≡ p → k ≡ h → g ≡ f → IsSettled (state_of (record p { disk = h; faults = f })) → IsSettled (state_of (record q { disk = k; faults = g }))
settled_still p q {h} {k} {f} {g} same disk faults s = subst (λ (z : Parts). IsSettled (state_of (record z { disk = k; faults = g }))) (sym same) (subst (λ (x : Holds). IsSettled (state_of (record p { disk = x; faults = g }))) (sym disk) (subst (λ n. IsSettled (state_of (record p { disk = h; faults = n }))) (sym faults) s))

-- nothing of a data block is to be written or settled then
pub rest_few : (p : Parts) → AtRest p → AreFew p.turns p.region.first
rest_few p rest = inr (λ b le. (rest.clean b le, rest.settled b le))

pub few_order : (t : Turns) (many : Bool) → IsTrue many ↔ (4096 < count_by is_dirty t.flags + length t.written) → many ≡ false → count_by is_dirty t.flags + length t.written ≤ 4096
few_order t true is e = absurd (cc)
few_order t false is e = ⊎_elim (λ lt. absurd (clash (is.1 lt))) (λ le. le) (cases_lt 4096 (count_by is_dirty t.flags + length t.written))
  where
    clash : false ≡ true → ⊥
    clash h = cc
