use Rattle.std.proofs.Common.{◌≢◌, ap, ◌∙◌, subst}
use Rattle.std.specs.Result.{IfOk}
use Rattle.fo_disk.specs.Disk.{DiskState}
use Rattle.fo_mind.specs.MindParts.{parts}
use Rattle.fo_mind.specs.Parts.{Parts}
use Rattle.fo_turning.specs.declared.unlink.Unlinked.TheVariants.{Empty, Waits}
use Rattle.fo_turning.specs.Unlinks.{Unlinks}
use Rattle.fo_turning.proofs.Flushing.{at_both}
use Rattle.fo_turning.proofs.Freeing.{loosens_same}
use Rattle.fo_turning.proofs.unlink.unlink_turn.Goals as goal

pub returns-then-not-is_idle-clause-yields : goal.returns-then-not-is_idle-clause-yields
returns-then-not-is_idle-clause-yields g c =
    let cache = c.args.cache.now in
    let new = c.is_idle.new.cache in
    (loosens_same (parts cache.mind (g.D.Disk.state cache.main).holds (g.D.Disk.faults cache.main)) (parts new.mind (g.D.Disk.state new.main).holds (g.D.Disk.faults new.main))
    (ap (λ (m : _). parts new.mind (g.D.Disk.state m).holds (g.D.Disk.faults m)) c.is_idle.ensures.device
    ∙ ap (λ (z : Parts). record z { disk = (g.D.Disk.state cache.main).holds; faults = g.D.Disk.faults cache.main }) c.is_idle.ensures.same)).yields

pub returns-clause-unlinks : goal.returns-clause-unlinks
returns-clause-unlinks g c =
    let cache = c.args.cache.now in
    let mid = c.is_idle.new.cache in
    let new = c.unlink_idle.new.cache in
    let m = parts mid.mind (g.D.Disk.state mid.main).holds (g.D.Disk.faults mid.main) in
    let q = parts new.mind (g.D.Disk.state new.main).holds (g.D.Disk.faults new.main) in
    subst (λ (z : Parts). IfOk c.unlink_idle.result (λ u. Unlinks (g.D.Disk.state cache.main).holds u z q new.mind.queue))
    (ap (λ (x : _). parts mid.mind (g.D.Disk.state x).holds (g.D.Disk.faults x)) c.is_idle.ensures.device
    ∙ ap (λ (z : Parts). record z { disk = (g.D.Disk.state cache.main).holds; faults = g.D.Disk.faults cache.main }) c.is_idle.ensures.same)
    (subst (λ (s : DiskState). IfOk c.unlink_idle.result (λ u. Unlinks s.holds u m q new.mind.queue)) (ap g.D.Disk.state c.is_idle.ensures.device) c.unlink_idle.ensures.unlinks)

pub returns-clause-rest : goal.returns-clause-rest
returns-clause-rest g c = at_both (λ u. u ≢ Waits) (λ u. u ≢ Empty) c.unlink_idle.result c.unlink_idle.ensures.rest
