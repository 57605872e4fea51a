-- Turns and clearings, one after another.
use Rattle.std.proofs.Common.{◌≡◌, ◌⊎◌, inl, inr, ⊎_elim, ℕ, ◌≤◌, ◌&&◌, Bool, true, false, not, List, [], ◌∷◌, length, Result, Ok, Err, refl, sym, ap, ◌∙◌, subst, arith}
use Rattle.std.specs.Result.{IfErr}
use Rattle.fo_order.specs.Keeps.{Turns}
use Rattle.fo_order.specs.Turns.{IsQuiet, flag_at}
use Rattle.fo_ports.specs.Causes.{Caused}
use Rattle.fo_ports.specs.declared.error.BlockError.{BlockError}
use Rattle.fo_ports.specs.declared.error.BlockError.TheVariants.{Memory}
use Rattle.fo_facts.specs.Known.{fact_at}
use Rattle.fo_cache.specs.of_waits.declared.listed.Clearing.{Clearing}
use Rattle.fo_cache.specs.of_waits.Listed.{Clears, ClearsAfter}
use Rattle.fo_cache.specs.of_mind.Due.{is_over}
use Rattle.fo_cache.specs.of_mind.Parts.{IsDirty, IsNewborn, Parts}
use Rattle.fo_facts.specs.declared.fact.Fact.{Fact}
use Rattle.fo_cache.specs.of_mind.Sealed.{IsSealedIn}
use Rattle.fo_cache.specs.of_mind.Turning.{Turning, is_settled}
use Rattle.fo_disk.specs.Disk.{DiskState}
use Rattle.fo_cache.specs.Easing.{Eases}
use Rattle.fo_cache.specs.Settling.{Settles}
use Rattle.fo_cache.proofs.Resting.{blocks, keeps, known, rests, room_stays}

never : {A : Type 0} → true ≡ false → A
never e = cc

-- a slot that waits, waits for a leaf
pub waits_after : (cs : List Clearing) (b j : ℕ) → Clears cs b j → (leaf : ℕ) × ClearsAfter cs b j leaf
waits_after [] b j h = absurd h
waits_after (c ∷ cs) b j (inl e) = (c.after, inl (e.0, e.1, refl))
waits_after (c ∷ cs) b j (inr h) = let r = waits_after cs b j h in (r.0, inr r.1)

-- where all is settled, each leaf is
pub over_quiet : (t : Turns) → IsQuiet t → (leaf : ℕ) → is_over t leaf ≡ true
over_quiet t quiet leaf = ap (λ d. not d && is_settled (flag_at t leaf).tried) (quiet.clean leaf) ∙ ap is_settled (quiet.settled leaf)

pub none_waits : (t : Turns) (cs : List Clearing) → IsQuiet t → ((b j leaf : ℕ) → ClearsAfter cs b j leaf → is_over t leaf ≡ false) → (b j : ℕ) → Clears cs b j → ⊥
none_waits t cs quiet none b j h = let r = waits_after cs b j h in never (sym (over_quiet t quiet r.0) ∙ none b j r.0 r.1)

-- what is dirty has no turn then, so it is not in the tree
pub clean_quiet : (p : Parts) (first : ℕ) → Turning first p.held p.turns p.facts → IsQuiet p.turns → (b : ℕ) → IsDirty p.turns p.held b → IsNewborn p.facts b
clean_quiet p first turning quiet b d = by (fact_at p.facts b).linked refl
  where
    by : (l : Bool) → (fact_at p.facts b).linked ≡ l → (fact_at p.facts b).linked ≡ false
    by false e = e
    by true e = ⊎_elim
        (λ turn. never (sym turn ∙ quiet.clean b))
        (λ changed. never (sym ((turning.each b).turn changed e) ∙ quiet.clean b))
        d

-- ---- turns

pub eases_turns : (s t : DiskState) (p q : Parts) (f g : ℕ) → Settles s t p q → f ≤ g → Eases (record p { disk = s.holds; faults = f }) (record q { disk = t.holds; faults = g })
eases_turns s t p q f g k le = record {
  rests = rests s t p q f g k;
  known = known s t p q f g k;
  blocks = blocks s t p q f g k;
  room = room_stays s t p q f g k;
  queued = let e = ap (λ (z : Parts). length z.removals) k.rest in omega (arith, e);
  keeps = keeps s t p q f g k le;
}

-- ---- seals

pub newborn_or_sealed : (facts : List Fact) (b : ℕ) → IsSealedIn facts b → IsNewborn facts b ⊎ ((fact_at facts b).sealed ≡ true)
newborn_or_sealed facts b sealed = by (fact_at facts b).linked refl
  where
    by : (l : Bool) → (fact_at facts b).linked ≡ l → IsNewborn facts b ⊎ ((fact_at facts b).sealed ≡ true)
    by true e = inr (sealed e)
    by false e = inl e

-- ---- refusals

-- want of memory needs no cause
pub wanting : {T : Type 0} (full fault arena : Type 0) (damaged : ℕ → Type 0) (r : Result T BlockError) → IfErr r (λ e. e ≡ Memory) → IfErr r (Caused full damaged fault arena)
wanting full fault arena damaged (Ok x) h = tt
wanting full fault arena damaged (Err e) h = subst (Caused full damaged fault arena) (sym h) tt
