use Rattle.std.proofs.Common.{sym, ap, subst, refl, ◌∙◌}
use Rattle.std.proofs.lemmas.Result.{err_from_is_err_and}
use Rattle.fo_disk.specs.Disk.{Since}
use Rattle.fo_disk.proofs.Moments.{joins}
use Rattle.venti_store.specs.Held.{Recovers}
use Rattle.venti_store.specs.Kept.{waits}
use Rattle.venti_store.specs.declared.index.Index.{Index}
use Rattle.venti_store.proofs.Keeping.{in_memory, run_of, whole_is, begins, head_since, head_keeps}
use Rattle.venti_store.proofs.arena.Arena.sync.Goals as goal

pub returns-in_err-settle-clause-keeps : goal.returns-in_err-settle-clause-keeps
returns-in_err-settle-clause-keeps g c stored synced k =
    let p = err_from_is_err_and c.from_residual.result c.from_residual.ensures.1 in
    rw p.1 (c.in_err-settle.ensures.keeps stored synced k)

pub returns-clause-keeps : goal.returns-clause-keeps
returns-clause-keeps g c stored synced k =
    let s = c.settle.new.self.shelf in
    let m = in_memory s in
    let kept = c.in_ok-settle.ensures.keeps stored synced k in
    head_keeps (g.A.Disk.state c.write_head.new.device) (g.A.Disk.state c.settle.new.self.device).moments c.write_head.result m (ap waits c.in_ok-settle.ensures.none) kept
    (c.write_head.ensures.ends (run_of s stored synced (g.A.Disk.state c.settle.new.self.device).moments) refl (whole_is s c.in_ok-settle.ensures.none ∙ sym c.used-used.ensures) (sym c.used-used.ensures) (begins m kept (g.met.A.Disk.is_newest c.settle.new.self.device)))

pub returns-clause-moments : goal.returns-clause-moments
returns-clause-moments g c stored synced k =
    let s = c.settle.new.self.shelf in
    let m = in_memory s in
    let kept = c.in_ok-settle.ensures.keeps stored synced k in
    let run = run_of s stored synced (g.A.Disk.state c.settle.new.self.device).moments in
    let head : Since (g.A.Disk.state c.settle.new.self.device).moments (g.A.Disk.state c.write_head.new.device).moments (Recovers synced s.index.lines.items stored) = head_since run _ c.write_head.result
    (c.write_head.ensures.ends run refl (whole_is s c.in_ok-settle.ensures.none ∙ sym c.used-used.ensures) (sym c.used-used.ensures) (begins m kept (g.met.A.Disk.is_newest c.settle.new.self.device))) in
    joins (c.in_ok-settle.ensures.moments stored synced k)
    (subst (λ (i : Index). Since (g.A.Disk.state c.settle.new.self.device).moments (g.A.Disk.state c.write_head.new.device).moments (Recovers synced i.lines.items stored)) c.in_ok-settle.ensures.index head)
