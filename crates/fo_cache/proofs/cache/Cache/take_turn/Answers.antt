use Rattle.std.proofs.Common.{◌≡◌, ◌<◌, ◌≤◌, ℕ, Bool, true, false, [], Result, Ok, Err, OnOk, IfOk, IfErr, sym, ap, ◌∙◌, subst, arith}
use Rattle.fo_base.specs.Cause.{Rose}
use Rattle.fo_order.specs.Turns.{IsQuiet}
use Rattle.fo_ports.specs.Causes.{Caused}
use Rattle.fo_mind.specs.MindParts.{parts}
use Rattle.fo_mind.specs.Parts.{Parts}
use Rattle.fo_cache.specs.Called.{Makes, no_more, turns_of}
use Rattle.fo_cache.specs.Work.{work}
use Rattle.fo_cache.proofs.Called.{makes_end, makes_none}
use Rattle.fo_cache.proofs.cache.Cache.take_turn.Goals as goal

clash : {A : Type 0} → true ≡ false → A
clash e = absurd (cc)

-- a turn that was taken leaves no word of quiet
not_idle : {E : Type 0} (P : Type 0) (r : Result Bool E) → IfOk r (λ b. b ≡ false) → IfOk r (λ b. b ≡ true → P)
not_idle P (Ok b) h = λ e. clash (sym e ∙ h)
not_idle P (Err x) h = tt

less_ok : {E A B : Type 0} (r : Result Bool E) → (A → B) → OnOk r A → IfOk r (λ b. b ≡ false → B)
less_ok (Ok b) f h = λ e. f h
less_ok (Err x) f h = tt

pub returns-in-Write-clause-idle : goal.returns-in-Write-clause-idle
returns-in-Write-clause-idle g c = not_idle (IsQuiet c.write_next.new.self.mind.order) c.write_next.result c.write_next.ensures.idle

pub returns-in-Write-clause-less : goal.returns-in-Write-clause-less
returns-in-Write-clause-less g c = less_ok c.write_next.result (λ h. subst (λ (p : Parts). work c.write_next.new.self.mind.order < work p.turns) c.next_turn.ensures.same h) c.write_next.ensures.less

pub returns-in-Write-clause-cause : goal.returns-in-Write-clause-cause
returns-in-Write-clause-cause g c = subst (λ (m : _). IfErr c.write_next.result (Caused ⊥ (λ b. ⊥) (Rose (g.D.Disk.faults m) (g.D.Disk.faults c.write_next.new.self.main)) ⊥)) c.next_turn.ensures.device c.write_next.ensures.cause

-- what was left before
spent_ok : {E T : Type 0} (r : Result T E) (n before after : ℕ) → before ≡ after → OnOk r (n ≤ before) → OnOk r (n ≤ after)
spent_ok (Ok x) n before after e h = omega (arith, e, h)
spent_ok (Err x) n before after e h = tt

pub returns-in-Write-clause-calls : goal.returns-in-Write-clause-calls
returns-in-Write-clause-calls g c =
    let e = c.write_next.ensures.calls in
    let same = ap g.D.Disk.calls c.next_turn.ensures.device in
    let left = ap (λ (p : Parts). work p.turns) c.next_turn.ensures.same in
    omega (arith, e, same, left)

pub returns-in-Write-clause-spent : goal.returns-in-Write-clause-spent
returns-in-Write-clause-spent g c =
    let same = ap g.D.Disk.calls c.next_turn.ensures.device in
    let left = ap (λ (p : Parts). work p.turns) c.next_turn.ensures.same in
    spent_ok c.write_next.result _ _ _ (omega (arith, same, left)) c.write_next.ensures.spent

pub returns-in-Sync-clause-calls : goal.returns-in-Sync-clause-calls
returns-in-Sync-clause-calls g c =
    let e = c.sync_next.ensures.calls in
    let same = ap g.D.Disk.calls c.next_turn.ensures.device in
    let left = ap (λ (p : Parts). work p.turns) c.next_turn.ensures.same in
    omega (arith, e, same, left)

pub returns-in-Sync-clause-spent : goal.returns-in-Sync-clause-spent
returns-in-Sync-clause-spent g c =
    let same = ap g.D.Disk.calls c.next_turn.ensures.device in
    let left = ap (λ (p : Parts). work p.turns) c.next_turn.ensures.same in
    spent_ok c.sync_next.result _ _ _ (omega (arith, same, left)) c.sync_next.ensures.spent

pub returns-in-Write-clause-made : goal.returns-in-Write-clause-made
returns-in-Write-clause-made g c =
    let new = c.write_next.new.self in
    let p = parts c.args.self.now.mind [] 0 in
    subst (λ (d : _). Makes (g.D.Disk.state d) (g.D.Disk.state new.main) (g.D.Disk.calls d) (g.D.Disk.calls new.main) (work p.turns) 0 (turns_of p.turns) no_more) c.next_turn.ensures.device
    (subst (λ (z : Parts). Makes (g.D.Disk.state c.next_turn.new.self.main) (g.D.Disk.state new.main) (g.D.Disk.calls c.next_turn.new.self.main) (g.D.Disk.calls new.main) (work z.turns) 0 (turns_of z.turns) no_more) c.next_turn.ensures.same c.write_next.ensures.made)

pub returns-in-Write-clause-makes : goal.returns-in-Write-clause-makes
returns-in-Write-clause-makes g c =
    let new = c.write_next.new.self in
    let p = parts c.args.self.now.mind [] 0 in
    let q = parts new.mind [] 0 in
    subst (λ (d : _). OnOk c.write_next.result (Makes (g.D.Disk.state d) (g.D.Disk.state new.main) (g.D.Disk.calls d) (g.D.Disk.calls new.main) (work p.turns) (work q.turns) (turns_of p.turns) (turns_of q.turns))) c.next_turn.ensures.device
    (subst (λ (z : Parts). OnOk c.write_next.result (Makes (g.D.Disk.state c.next_turn.new.self.main) (g.D.Disk.state new.main) (g.D.Disk.calls c.next_turn.new.self.main) (g.D.Disk.calls new.main) (work z.turns) (work q.turns) (turns_of z.turns) (turns_of q.turns))) c.next_turn.ensures.same c.write_next.ensures.makes)

pub returns-in-Sync-clause-made : goal.returns-in-Sync-clause-made
returns-in-Sync-clause-made g c =
    let new = c.sync_next.new.self in
    let p = parts c.args.self.now.mind [] 0 in
    subst (λ (d : _). Makes (g.D.Disk.state d) (g.D.Disk.state new.main) (g.D.Disk.calls d) (g.D.Disk.calls new.main) (work p.turns) 0 (turns_of p.turns) no_more) c.next_turn.ensures.device
    (subst (λ (z : Parts). Makes (g.D.Disk.state c.next_turn.new.self.main) (g.D.Disk.state new.main) (g.D.Disk.calls c.next_turn.new.self.main) (g.D.Disk.calls new.main) (work z.turns) 0 (turns_of z.turns) no_more) c.next_turn.ensures.same c.sync_next.ensures.made)

pub returns-in-Sync-clause-makes : goal.returns-in-Sync-clause-makes
returns-in-Sync-clause-makes g c =
    let new = c.sync_next.new.self in
    let p = parts c.args.self.now.mind [] 0 in
    let q = parts new.mind [] 0 in
    subst (λ (d : _). OnOk c.sync_next.result (Makes (g.D.Disk.state d) (g.D.Disk.state new.main) (g.D.Disk.calls d) (g.D.Disk.calls new.main) (work p.turns) (work q.turns) (turns_of p.turns) (turns_of q.turns))) c.next_turn.ensures.device
    (subst (λ (z : Parts). OnOk c.sync_next.result (Makes (g.D.Disk.state c.next_turn.new.self.main) (g.D.Disk.state new.main) (g.D.Disk.calls c.next_turn.new.self.main) (g.D.Disk.calls new.main) (work z.turns) (work q.turns) (turns_of z.turns) (turns_of q.turns))) c.next_turn.ensures.same c.sync_next.ensures.makes)

pub returns-in-Idle-clause-makes : goal.returns-in-Idle-clause-makes
returns-in-Idle-clause-makes g c =
    let self = c.args.self.now in
    let p = parts self.mind [] 0 in
    let s = g.D.Disk.state self.main in
    let before = g.D.Disk.calls self.main in
    subst (λ (d : _). Makes s (g.D.Disk.state d) before (g.D.Disk.calls d) (work p.turns) (work c.next_turn.new.self.mind.order) (turns_of p.turns) (turns_of c.next_turn.new.self.mind.order)) (sym c.next_turn.ensures.device)
    (subst (λ (z : Parts). Makes s s before before (work p.turns) (work z.turns) (turns_of p.turns) (turns_of z.turns)) (sym c.next_turn.ensures.same)
    (makes_none s before (work p.turns) (turns_of p.turns)))

pub returns-in-Idle-clause-made : goal.returns-in-Idle-clause-made
returns-in-Idle-clause-made g c = makes_end (returns-in-Idle-clause-makes g c)
