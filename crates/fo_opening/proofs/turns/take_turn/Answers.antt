use Rattle.std.proofs.Common.{◌≡◌, ◌<◌, ◌≤◌, ℕ, Bool, true, false, Result, Ok, Err, OnOk, IfOk, IfErr, sym, ap, ◌∙◌, subst, arith}
use Rattle.fo_base.specs.Cause.{Rose}
use Rattle.fo_order.specs.Turns.{IsQuiet}
use Rattle.fo_ports.specs.Causes.{Caused}
use Rattle.fo_mind.specs.Parts.{IsPinned, Parts}
use Rattle.fo_cache.specs.Work.{work}
use Rattle.fo_opening.proofs.turns.take_turn.Goals as goal

clash : {A : Type 0} → true ≡ false → A
clash e = absurd (cc)

-- a turn that was taken leaves no word of quiet
not_idle : {E : Type 0} (P : Type 0) (r : Result Bool E) → IfOk r (λ b. b ≡ false) → IfOk r (λ b. b ≡ true → P)
not_idle P (Ok b) h = λ e. clash (sym e ∙ h)
not_idle P (Err x) h = tt

less_ok : {E A B : Type 0} (r : Result Bool E) → (A → B) → OnOk r A → IfOk r (λ b. b ≡ false → B)
less_ok (Ok b) f h = λ e. f h
less_ok (Err x) f h = tt

pub write_next-requires-clause-free : goal.write_next-requires-clause-free
write_next-requires-clause-free g c = λ b h. c.requires.free b (subst (λ (p : Parts). IsPinned p.held b) c.next_turn.ensures.same h)

pub returns-in-Write-clause-idle : goal.returns-in-Write-clause-idle
returns-in-Write-clause-idle g c = not_idle (IsQuiet c.write_next.new.cache.mind.order) c.write_next.result c.write_next.ensures.idle

pub returns-in-Write-clause-less : goal.returns-in-Write-clause-less
returns-in-Write-clause-less g c = less_ok c.write_next.result (λ h. subst (λ (p : Parts). work c.write_next.new.cache.mind.order < work p.turns) c.next_turn.ensures.same h) c.write_next.ensures.less

pub returns-in-Write-clause-cause : goal.returns-in-Write-clause-cause
returns-in-Write-clause-cause g c = subst (λ (m : _). IfErr c.write_next.result (Caused ⊥ (λ b. ⊥) (Rose (g.D.Disk.faults m) (g.D.Disk.faults c.write_next.new.cache.main)) ⊥)) c.next_turn.ensures.device c.write_next.ensures.cause

-- what was left before
spent_ok : {E T : Type 0} (r : Result T E) (n before after : ℕ) → before ≡ after → OnOk r (n ≤ before) → OnOk r (n ≤ after)
spent_ok (Ok x) n before after e h = omega (arith, e, h)
spent_ok (Err x) n before after e h = tt

pub returns-in-Write-clause-calls : goal.returns-in-Write-clause-calls
returns-in-Write-clause-calls g c =
    let e = c.write_next.ensures.calls in
    let same = ap g.D.Disk.calls c.next_turn.ensures.device in
    let left = ap (λ (p : Parts). work p.turns) c.next_turn.ensures.same in
    omega (arith, e, same, left)

pub returns-in-Write-clause-spent : goal.returns-in-Write-clause-spent
returns-in-Write-clause-spent g c =
    let same = ap g.D.Disk.calls c.next_turn.ensures.device in
    let left = ap (λ (p : Parts). work p.turns) c.next_turn.ensures.same in
    spent_ok c.write_next.result _ _ _ (omega (arith, same, left)) c.write_next.ensures.spent

pub returns-in-Sync-clause-calls : goal.returns-in-Sync-clause-calls
returns-in-Sync-clause-calls g c =
    let e = c.sync_next.ensures.calls in
    let same = ap g.D.Disk.calls c.next_turn.ensures.device in
    let left = ap (λ (p : Parts). work p.turns) c.next_turn.ensures.same in
    omega (arith, e, same, left)

pub returns-in-Sync-clause-spent : goal.returns-in-Sync-clause-spent
returns-in-Sync-clause-spent g c =
    let same = ap g.D.Disk.calls c.next_turn.ensures.device in
    let left = ap (λ (p : Parts). work p.turns) c.next_turn.ensures.same in
    spent_ok c.sync_next.result _ _ _ (omega (arith, same, left)) c.sync_next.ensures.spent
