use Rattle.std.proofs.Common.{refl, ap, arith}
use Rattle.std.proofs.lemmas.Result.{err_from_is_err_and}
use Rattle.venti_store.specs.Kept.{waits}
use Rattle.venti_store.specs.declared.recent.Recent.{Recent}
use Rattle.venti_store.proofs.Keeping.{in_memory}
use Rattle.venti_store.proofs.Puts.{Added, added_keeps, same_keeps, stays_since}
use Rattle.venti_store.proofs.arena.Arena.append.Goals as goal

pub returns-then-places-used-clause-moments : goal.returns-then-places-used-clause-moments
returns-then-places-used-clause-moments g c stored synced k = stays_since c.args.self.now.shelf k (g.met.A.Disk.is_newest c.args.self.now.device)

pub returns-in_err-make_room-clause-keeps : goal.returns-in_err-make_room-clause-keeps
returns-in_err-make_room-clause-keeps g c stored synced k =
    let p = err_from_is_err_and c.from_residual.result c.from_residual.ensures.1 in
    rw p.1 (c.in_err-make_room.ensures.keeps stored synced k)

pub returns-in-Ok-clause-keeps : goal.returns-in-Ok-clause-keeps
returns-in-Ok-clause-keeps g c stored synced k =
    let t = c.make_room.new.self.shelf in
    let a : Added t.index.lines.items c.add.new.self.index.lines.items (waits t.pending.items) (waits c.add.new.self.pending.items) _ c.args.bytes.now = record {
      line_is = c.in-Ok.ensures.line;
      bytes_is = c.in-Ok.ensures.bytes;
      len = omega arith;
      few = (in_memory t).few;
    } in
    same_keeps c.in-Ok.ensures.blocks refl refl (ap (λ (r : Recent). r.blocks.items) c.in-Ok.ensures.recent) (added_keeps a (c.in_ok-make_room.ensures.keeps stored synced k))

pub returns-in-Err-clause-keeps : goal.returns-in-Err-clause-keeps
returns-in-Err-clause-keeps g c stored synced k = same_keeps c.in-Err.ensures.blocks c.in-Err.ensures.same_lines c.in-Err.ensures.same_bytes (ap (λ (r : Recent). r.blocks.items) c.in-Err.ensures.recent) (c.in_ok-make_room.ensures.keeps stored synced k)
