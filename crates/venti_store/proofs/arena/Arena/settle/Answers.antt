use Rattle.std.proofs.Common.{List, sym, ap, subst, arith}
use Rattle.venti_store.specs.Kept.{waits}
use Rattle.venti_store.specs.Settling.{Waits}
use Rattle.venti_store.specs.declared.waiting.Waiting.{Waiting}
use Rattle.venti_store.proofs.Keeping.{in_memory, run_of, first_is, begins, run_waits, still_keeps, now_keeps}
use Rattle.venti_store.proofs.arena.Arena.settle.Goals as goal

pub returns-in_err-settle-clause-keeps : goal.returns-in_err-settle-clause-keeps
returns-in_err-settle-clause-keeps g c stored synced k =
    let s = c.args.self.now.shelf in
    let m = in_memory s in
    still_keeps m k (c.in_err-settle.ensures.goes (run_of s stored synced (g.A.Disk.state c.args.self.now.device).moments) (sym c.args.self.now.size) (first_is s _ (omega arith)) (sym c.deref.ensures.value) (subst (λ (ws : List Waiting). Waits (run_of s stored synced (g.A.Disk.state c.args.self.now.device).moments) (waits ws)) (sym c.deref-2.ensures.value) (run_waits m _ k)) (begins m k (g.met.A.Disk.is_newest c.args.self.now.device)))

pub returns-in_err-settle-clause-moments : goal.returns-in_err-settle-clause-moments
returns-in_err-settle-clause-moments g c stored synced k =
    let s = c.args.self.now.shelf in
    let m = in_memory s in
    (c.in_err-settle.ensures.goes (run_of s stored synced (g.A.Disk.state c.args.self.now.device).moments) (sym c.args.self.now.size) (first_is s _ (omega arith)) (sym c.deref.ensures.value) (subst (λ (ws : List Waiting). Waits (run_of s stored synced (g.A.Disk.state c.args.self.now.device).moments) (waits ws)) (sym c.deref-2.ensures.value) (run_waits m _ k)) (begins m k (g.met.A.Disk.is_newest c.args.self.now.device))).since

pub returns-clause-keeps : goal.returns-clause-keeps
returns-clause-keeps g c stored synced k =
    let s = c.args.self.now.shelf in
    let m = in_memory s in
    now_keeps m k (ap waits c.clear.ensures.items) (c.in_ok-settle.ensures.goes (run_of s stored synced (g.A.Disk.state c.args.self.now.device).moments) (sym c.args.self.now.size) (first_is s _ (omega arith)) (sym c.deref.ensures.value) (subst (λ (ws : List Waiting). Waits (run_of s stored synced (g.A.Disk.state c.args.self.now.device).moments) (waits ws)) (sym c.deref-2.ensures.value) (run_waits m _ k)) (begins m k (g.met.A.Disk.is_newest c.args.self.now.device)))

pub returns-clause-moments : goal.returns-clause-moments
returns-clause-moments g c stored synced k =
    let s = c.args.self.now.shelf in
    let m = in_memory s in
    (c.in_ok-settle.ensures.goes (run_of s stored synced (g.A.Disk.state c.args.self.now.device).moments) (sym c.args.self.now.size) (first_is s _ (omega arith)) (sym c.deref.ensures.value) (subst (λ (ws : List Waiting). Waits (run_of s stored synced (g.A.Disk.state c.args.self.now.device).moments) (waits ws)) (sym c.deref-2.ensures.value) (run_waits m _ k)) (begins m k (g.met.A.Disk.is_newest c.args.self.now.device))).since
