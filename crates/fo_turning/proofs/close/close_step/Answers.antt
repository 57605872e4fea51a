use Rattle.std.proofs.Common.{◌<◌, ◌≤◌, [], length, refl, sym, subst}
use Rattle.fo_disk.specs.Disk.{DiskState, IsSettled}
use Rattle.fo_unlink.specs.Pending.{Pending}
use Rattle.fo_mind.specs.MindParts.{parts}
use Rattle.fo_mind.specs.Parts.{count_of}
use Rattle.fo_closing.specs.Turned.{Turned}
use Rattle.fo_cache.specs.Fits.{Fits, FitsLabels, FitsOne}
use Rattle.fo_cache.proofs.Firsts.{one_like}
use Rattle.fo_turning.proofs.Closing.{Carries, carries, closed_unheld, forgotten_at, looks, rest_forgotten}
use Rattle.fo_turning.proofs.close.close_step.Goals as goal

pub forget_closed-requires : goal.forget_closed-requires
forget_closed-requires g c =
    let cache = c.args.cache.now in
    let mid = c.close_next.new in
    let disk = (g.D.Disk.state cache.main).holds in
    closed_unheld disk c.in_ok-answer.answer (parts cache.mind disk (g.D.Disk.faults cache.main)) (parts mid.mind (g.D.Disk.state mid.main).holds (g.D.Disk.faults mid.main)) cache.mind.queue mid.mind.queue c.in_ok-answer.ensures.turned

pub returns-clause-steps : goal.returns-clause-steps
returns-clause-steps g c =
    let cache = c.args.cache.now in
    let mid = c.close_next.new in
    let new = c.forget_closed.new.mind in
    let disk = (g.D.Disk.state cache.main).holds in
    let holds = (g.D.Disk.state mid.main).holds in
    let faults = g.D.Disk.faults mid.main in
    let p = parts cache.mind disk (g.D.Disk.faults cache.main) in
    let closed = parts mid.mind holds faults in
    record {
      closed = closed;
      turned = subst (λ (v : Pending). Turned disk c.in_ok-answer.answer p closed cache.mind.queue v) (sym c.forget_closed.ensures.queue) c.in_ok-answer.ensures.turned;
      forgotten = forgotten_at holds faults c.in_ok-answer.answer (parts mid.mind [] 0) (parts new [] 0) c.forget_closed.ensures.forgotten;
    }

pub returns-clause-yields : goal.returns-clause-yields
returns-clause-yields g c =
    let cache = c.args.cache.now in
    let mid = c.close_next.new in
    let new = c.forget_closed.new.mind in
    let disk = (g.D.Disk.state cache.main).holds in
    let holds = (g.D.Disk.state mid.main).holds in
    let faults = g.D.Disk.faults mid.main in
    let p = parts cache.mind disk (g.D.Disk.faults cache.main) in
    let k : Carries p (parts new holds faults) disk =
    carries disk p cache.mind.queue mid.mind.queue cache.mind.placed cache.mind.turning cache.mind.standing refl c.in_ok-answer.answer (parts mid.mind holds faults) (parts new holds faults) c.in_ok-answer.ensures.turned
    (forgotten_at holds faults c.in_ok-answer.answer (parts mid.mind [] 0) (parts new [] 0) c.forget_closed.ensures.forgotten) in
    k.yields

pub returns-clause-rest : goal.returns-clause-rest
returns-clause-rest g c = rest_forgotten c.in_ok-answer.answer (parts c.close_next.new.mind [] 0) (parts c.forget_closed.new.mind [] 0) c.forget_closed.ensures.forgotten c.close_next.ensures.rest

pub invariant_of-cache-2 : goal.invariant_of-cache-2
invariant_of-cache-2 g c =
    let cache = c.args.cache.now in
    let mid = c.close_next.new in
    let new = c.forget_closed.new.mind in
    let s = g.D.Disk.state cache.main in
    let t = g.D.Disk.state mid.main in
    let faults = g.D.Disk.faults mid.main in
    let p = parts cache.mind s.holds (g.D.Disk.faults cache.main) in
    let q = parts new t.holds faults in
    let same = c.close_next.ensures.state in
    let k : Carries p q s.holds =
    carries s.holds p cache.mind.queue mid.mind.queue cache.mind.placed cache.mind.turning cache.mind.standing refl c.in_ok-answer.answer (parts mid.mind t.holds faults) q c.in_ok-answer.ensures.turned
    (forgotten_at t.holds faults c.in_ok-answer.answer (parts mid.mind [] 0) (parts new [] 0) c.forget_closed.ensures.forgotten) in
    record {
      sized = subst (λ n. count_of new.labels ≤ n) (sym c.close_next.ensures.size) (subst (λ n. n ≤ g.D.Disk.size cache.main) (sym k.fitting.count) cache.sized);
      spelled = subst (λ (x : DiskState). FitsLabels (parts new x.holds 0) x.unsure) (sym same) (k.fitting.labels s.unsure cache.spelled);
      fits = subst (λ (x : DiskState). Fits (parts new x.holds 0) x.unsure) (sym same) (k.fitting.fits s.unsure cache.fits);
      first = subst (λ (x : DiskState). FitsOne (parts new [] 0).one_bytes (parts new [] 0).doubt x.holds) (sym same) (one_like p q s.holds k.fitting.one_bytes k.fitting.doubt cache.first);
      header = subst (λ (x : DiskState). 0 < length x.holds → IsSettled x.holds 0) (sym same) cache.header;
    }

pub invariant_of-cache : goal.invariant_of-cache
invariant_of-cache g c =
    let cache = c.args.cache.now in
    let mid = c.close_next.new in
    let new = mid.mind in
    let s = g.D.Disk.state cache.main in
    let t = g.D.Disk.state mid.main in
    let p = parts cache.mind s.holds (g.D.Disk.faults cache.main) in
    let q = parts new t.holds (g.D.Disk.faults mid.main) in
    let same = c.close_next.ensures.state in
    let k : Carries p q s.holds = looks s.holds p cache.mind.placed cache.mind.turning cache.mind.standing q c.in_err-answer.ensures.refused.0 in
    record {
      sized = subst (λ n. count_of new.labels ≤ n) (sym c.close_next.ensures.size) (subst (λ n. n ≤ g.D.Disk.size cache.main) (sym k.fitting.count) cache.sized);
      spelled = subst (λ (x : DiskState). FitsLabels (parts new x.holds 0) x.unsure) (sym same) (k.fitting.labels s.unsure cache.spelled);
      fits = subst (λ (x : DiskState). Fits (parts new x.holds 0) x.unsure) (sym same) (k.fitting.fits s.unsure cache.fits);
      first = subst (λ (x : DiskState). FitsOne (parts new [] 0).one_bytes (parts new [] 0).doubt x.holds) (sym same) (one_like p q s.holds k.fitting.one_bytes k.fitting.doubt cache.first);
      header = subst (λ (x : DiskState). 0 < length x.holds → IsSettled x.holds 0) (sym same) cache.header;
    }

pub returns-in_err-answer-clause-yields : goal.returns-in_err-answer-clause-yields
returns-in_err-answer-clause-yields g c =
    let cache = c.args.cache.now in
    let mid = c.close_next.new in
    let s = g.D.Disk.state cache.main in
    let p = parts cache.mind s.holds (g.D.Disk.faults cache.main) in
    let q = parts mid.mind (g.D.Disk.state mid.main).holds (g.D.Disk.faults mid.main) in
    let k : Carries p q s.holds = looks s.holds p cache.mind.placed cache.mind.turning cache.mind.standing q c.in_err-answer.ensures.refused.0 in
    k.yields
