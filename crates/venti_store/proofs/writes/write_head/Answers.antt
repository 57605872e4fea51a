use Rattle.std.proofs.Common.{sym, ◌∙◌, arith}
use Rattle.venti_store.specs.Settling.{IsWholeHead}
use Rattle.venti_store.proofs.Settled.{goes_wrote, goes_failed, done_here}
use Rattle.venti_store.proofs.Synced.{goes_unsynced, ends, adding_head, whole_head}
use Rattle.venti_store.proofs.writes.write_head.Goals as goal

pub returns-in_default-clause-ends : goal.returns-in_default-clause-ends
returns-in_default-clause-ends g c run size settled used start =
    goes_failed start (adding_head start.is_run (settled ∙ sym used) (whole_head run size used c.write_arena_head.ensures)) (g.met.A.Disk.is_newest c.args.device.now) c.in_default.ensures.state

pub returns-in_default-sync-clause-ends : goal.returns-in_default-sync-clause-ends
returns-in_default-sync-clause-ends g c run size settled used start =
    let wrote = goes_wrote start (adding_head start.is_run (settled ∙ sym used) (whole_head run size used c.write_arena_head.ensures)) (g.met.A.Disk.is_newest c.args.device.now) c.in-Ok.ensures.state in
    goes_unsynced wrote (g.met.A.Disk.is_newest c.write.new.self) c.in_default-sync.ensures.state

pub returns-clause-ends : goal.returns-clause-ends
returns-clause-ends g c run size settled used start =
    let spelled : IsWholeHead run c.write_arena_head.new.into = whole_head run size used c.write_arena_head.ensures in
    let wrote = goes_wrote start (adding_head start.is_run (settled ∙ sym used) spelled) (g.met.A.Disk.is_newest c.args.device.now) c.in-Ok.ensures.state in
    ends wrote c.in-Ok-sync.ensures.state (settled ∙ sym used) (done_here (IsWholeHead run) (omega (arith, start.told, start.is_run.least)) c.in-Ok.ensures.state spelled)
