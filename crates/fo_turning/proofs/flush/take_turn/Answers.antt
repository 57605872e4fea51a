use Rattle.std.proofs.Common.{◌≡◌, ℕ, List, [], true, Option, None, Some, Ok, sym, ap, ◌∙◌, subst, arith}
use Rattle.std.specs.Option.{is_some}
use Rattle.std.specs.Result.{IfErr}
use Rattle.fo_base.specs.Cause.{Rose}
use Rattle.fo_ports.specs.Causes.{Caused}
use Rattle.fo_waits.specs.Listed.{Clears}
use Rattle.fo_mind.specs.MindParts.{parts}
use Rattle.fo_mind.specs.Parts.{Parts}
use Rattle.fo_order.specs.Turns.{IsQuiet}
use Rattle.fo_settling.proofs.Waiting.{eases_turns}
use Rattle.fo_cache.specs.Work.{in_doubt}
use Rattle.fo_turning.proofs.Flushing.{certain, doubted, does_first, does_moved, does_sync, eases_moved, misses_same, not_due, not_quiet, on_err}
use Rattle.fo_turning.proofs.flush.take_turn.Goals as goal

pub returns-then-is_doubted-clause-misses : goal.returns-then-is_doubted-clause-misses
returns-then-is_doubted-clause-misses g c = on_err c.write_first.result (misses_same (parts c.args.cache.now.mind [] 0) (parts c.write_first.new.cache.mind [] 0)) c.write_first.ensures.nothing

pub returns-in-Write-clause-eases : goal.returns-in-Write-clause-eases
returns-in-Write-clause-eases g c =
    let cache = c.args.cache.now in
    let mid = c.next_turn.new.self in
    let new = c.write_next.new.cache in
    eases_moved (λ m. (g.D.Disk.state m).holds) g.D.Disk.faults cache.main mid.main new.main (parts cache.mind [] 0) (parts mid.mind [] 0) (parts new.mind [] 0) c.next_turn.ensures.same c.next_turn.ensures.device
    (eases_turns (g.D.Disk.state mid.main) (g.D.Disk.state new.main) (parts mid.mind [] 0) (parts new.mind [] 0) (g.D.Disk.faults mid.main) (g.D.Disk.faults new.main) c.write_next.ensures.settles c.write_next.ensures.later)

pub returns-in-Sync-clause-eases : goal.returns-in-Sync-clause-eases
returns-in-Sync-clause-eases g c =
    let cache = c.args.cache.now in
    let mid = c.next_turn.new.self in
    let new = c.sync_written.new.cache in
    eases_moved (λ m. (g.D.Disk.state m).holds) g.D.Disk.faults cache.main mid.main new.main (parts cache.mind [] 0) (parts mid.mind [] 0) (parts new.mind [] 0) c.next_turn.ensures.same c.next_turn.ensures.device c.sync_written.ensures.eases

pub returns-in-Sync-clause-does : goal.returns-in-Sync-clause-does
returns-in-Sync-clause-does g c =
    let cache = c.args.cache.now in
    let mid = c.next_turn.new.self in
    let new = c.sync_written.new.cache in
    let p = parts cache.mind [] 0 in
    let m = parts mid.mind [] 0 in
    let q = parts new.mind [] 0 in
    let same = c.next_turn.ensures.same in
    does_moved g.D.Disk.state cache.main mid.main new.main p m q c.sync_written.result same c.next_turn.ensures.device
    (does_sync (g.D.Disk.state mid.main) (g.D.Disk.state new.main) m q c.sync_written.result (ap (λ (z : Parts). z.doubt) same ∙ certain cache.mind.doubt (sym c.is_doubted.ensures ∙ c.if-is_doubted.false)) c.sync_written.ensures.does)

pub returns-in-Sync-clause-cause : goal.returns-in-Sync-clause-cause
returns-in-Sync-clause-cause g c = subst (λ (m : _). IfErr c.sync_written.result (Caused ⊥ (λ b. ⊥) (Rose (g.D.Disk.faults m) (g.D.Disk.faults c.sync_written.new.cache.main)) ⊥)) c.next_turn.ensures.device c.sync_written.ensures.cause

pub returns-in-Sync-clause-misses : goal.returns-in-Sync-clause-misses
returns-in-Sync-clause-misses g c =
    let cache = c.args.cache.now in
    let mid = c.next_turn.new.self in
    let new = c.sync_written.new.cache in
    on_err c.sync_written.result (λ e. misses_same (parts cache.mind [] 0) (parts new.mind [] 0) (e ∙ c.next_turn.ensures.same)) c.sync_written.ensures.nothing

pub clear_next-requires : goal.clear_next-requires
clear_next-requires g c =
    let mind = c.args.cache.now.mind in
    let same = c.next_turn.ensures.same in
    record {
      quiet = subst (λ (z : Parts). IsQuiet z.turns) (sym same) c.in-Idle.ensures.turn;
      certain = ap (λ (z : Parts). z.doubt) same ∙ certain mind.doubt (sym c.is_doubted.ensures ∙ c.if-is_doubted.false);
    }

pub returns-in-Idle-clause-does : goal.returns-in-Idle-clause-does
returns-in-Idle-clause-does g c =
    let cache = c.args.cache.now in
    let mid = c.next_turn.new.self in
    let new = c.clear_next.new.cache in
    does_moved g.D.Disk.state cache.main mid.main new.main (parts cache.mind [] 0) (parts mid.mind [] 0) (parts new.mind [] 0) (Ok c.clear_next.result) c.next_turn.ensures.same c.next_turn.ensures.device c.clear_next.ensures.does

pub returns-in-Idle-clause-idle : goal.returns-in-Idle-clause-idle
returns-in-Idle-clause-idle g c = λ at. ap (λ f. Ok f) (c.clear_next.ensures.idle (λ b j h. at.none b j (subst (λ (p : Parts). Clears p.clears b j) c.next_turn.ensures.same h)))

pub returns-in-Idle-clause-eases : goal.returns-in-Idle-clause-eases
returns-in-Idle-clause-eases g c =
    let cache = c.args.cache.now in
    let mid = c.next_turn.new.self in
    let new = c.clear_next.new.cache in
    eases_moved (λ m. (g.D.Disk.state m).holds) g.D.Disk.faults cache.main mid.main new.main (parts cache.mind [] 0) (parts mid.mind [] 0) (parts new.mind [] 0) c.next_turn.ensures.same c.next_turn.ensures.device c.clear_next.ensures.eases

counts_one : (o : Option (List ℕ)) → is_some o ≡ true → in_doubt o ≡ 1
counts_one None e = absurd cc
counts_one (Some tried) e = omega arith

pub returns-then-is_doubted-clause-calls : goal.returns-then-is_doubted-clause-calls
returns-then-is_doubted-clause-calls g c =
    let e = c.write_first.ensures.calls in
    let one = counts_one c.args.cache.now.mind.doubt (sym c.is_doubted.ensures ∙ c.if-is_doubted.true) in
    omega (arith, e, one)

pub returns-in-Write-clause-calls : goal.returns-in-Write-clause-calls
returns-in-Write-clause-calls g c =
    let e = c.write_next.ensures.calls in
    let same = ap g.D.Disk.calls c.next_turn.ensures.device in
    omega (arith, e, same)

pub returns-in-Sync-clause-calls : goal.returns-in-Sync-clause-calls
returns-in-Sync-clause-calls g c =
    let e = c.sync_written.ensures.calls in
    let same = ap g.D.Disk.calls c.next_turn.ensures.device in
    omega (arith, e, same)

pub returns-in-Idle-clause-calls : goal.returns-in-Idle-clause-calls
returns-in-Idle-clause-calls g c =
    let first = ap g.D.Disk.calls c.next_turn.ensures.device in
    let same = ap g.D.Disk.calls c.clear_next.ensures.device in
    omega (arith, first, same)

pub returns-then-is_doubted-clause-does : goal.returns-then-is_doubted-clause-does
returns-then-is_doubted-clause-does g c =
    let old = c.args.cache.now in
    let new = c.write_first.new.cache in
    does_first (g.D.Disk.state old.main) (g.D.Disk.state new.main) (parts old.mind [] 0) (parts new.mind [] 0) c.write_first.result (doubted old.mind.doubt (sym c.is_doubted.ensures ∙ c.if-is_doubted.true)) c.write_first.ensures.does

clash_doubt : {A : Type 0} (o : Option (List ℕ)) → is_some o ≡ true → o ≡ None → A
clash_doubt None e none = absurd cc
clash_doubt (Some tried) e none = absurd cc

pub returns-then-is_doubted-clause-sure : goal.returns-then-is_doubted-clause-sure
returns-then-is_doubted-clause-sure g c = λ quiet none. clash_doubt c.args.cache.now.mind.doubt (sym c.is_doubted.ensures ∙ c.if-is_doubted.true) none

pub returns-in-Write-clause-sure : goal.returns-in-Write-clause-sure
returns-in-Write-clause-sure g c = λ quiet none. absurd (not_quiet c.args.cache.now.mind.order c.in-Write.at c.in-Write.ensures.turn quiet)

pub returns-in-Sync-clause-sure : goal.returns-in-Sync-clause-sure
returns-in-Sync-clause-sure g c = λ quiet none. absurd (not_due c.args.cache.now.mind.order c.in-Sync.ensures.turn quiet)
