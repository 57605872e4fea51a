use Rattle.std.proofs.Common.{sym, ◌∙◌}
use Rattle.venti_store.proofs.Synced.{goes_unsynced, goes_synced}
use Rattle.venti_store.proofs.writes.settle.Goals as goal

pub returns-in_default-clause-goes : goal.returns-in_default-clause-goes
returns-in_default-clause-goes g c run size first lines waits start =
    let one = c.in_ok-write_waiting.ensures.goes run size first waits start in
    let two = c.in_ok-write_lines.ensures.goes run (size ∙ sym c.in_ok-write_waiting.ensures.size) first lines one in
    goes_unsynced two (g.met.A.Disk.is_newest c.write_lines.new.device) c.in_default.ensures.state

pub returns-clause-goes : goal.returns-clause-goes
returns-clause-goes g c run size first lines waits start =
    let one = c.in_ok-write_waiting.ensures.goes run size first waits start in
    let same = size ∙ sym c.in_ok-write_waiting.ensures.size in
    let two = c.in_ok-write_lines.ensures.goes run same first lines one in
    goes_synced two c.in-Ok.ensures.state (c.in_ok-write_lines.ensures.bytes run (c.in_ok-write_waiting.ensures.wrote run size first waits start)) (c.in_ok-write_lines.ensures.wrote run same first lines one)
