use Rattle.std.proofs.Common.{◌≡◌, ◌-◌, ◌∙◌, ap, take, drop, arith}
use Rattle.std.proofs.lemmas.List.{with_items_is}
use Rattle.std.proofs.lemmas.Result.{err_from_is_err_and}
use Rattle.std.specs.Vec.{with_items}
use Rattle.fo_links.proofs.Buffer.{fills, part_stays}
use Rattle.fo_links.proofs.inbox.Inbox.fill.Goals as goal

pub returns-clause-filled : goal.returns-clause-filled
returns-clause-filled g c =
    let start = c.pack-start.result.0 in
    let end = c.pack-start.result.1 in
    let packed = c.pack-start.new.bytes in
    let after = c.take_behind.new.bytes in
    let bytes = with_items c.self.inside.bytes packed in
    let packed_is : bytes.items ≡ packed = with_items_is c.self.inside.bytes packed (omega arith) in
    let same : take end after ≡ take end packed = c.take_behind.ensures.front ∙ ap (take end) (c.deref_mut-2.ensures.value ∙ packed_is) in
    let part : take (end - start) (drop start packed) ≡ c.args.self.now = c.pack-start.ensures.part ∙ rw c.deref_mut.ensures.value c.self.view_is in
    rw (with_items_is bytes after (omega arith))
    (fills packed after start end c.in_ok-count.count _ _ _ _ _ _ c.args.self.now c.pack-start.ensures.order c.pack-start.ensures.room (omega arith) same part (rw (c.deref_mut-2.ensures.value ∙ packed_is) at c.in_ok-count.ensures.taken))

pub returns-in_err-count-clause-filled : goal.returns-in_err-count-clause-filled
returns-in_err-count-clause-filled g c =
    let start = c.pack-start.result.0 in
    let end = c.pack-start.result.1 in
    let packed = c.pack-start.new.bytes in
    let after = c.take_behind.new.bytes in
    let bytes = with_items c.self.inside.bytes packed in
    let packed_is : bytes.items ≡ packed = with_items_is c.self.inside.bytes packed (omega arith) in
    let same : take end after ≡ take end packed = c.take_behind.ensures.front ∙ ap (take end) (c.deref_mut-2.ensures.value ∙ packed_is) in
    let part : take (end - start) (drop start packed) ≡ c.args.self.now = c.pack-start.ensures.part ∙ rw c.deref_mut.ensures.value c.self.view_is in
    let p = err_from_is_err_and c.from_residual.result c.from_residual.ensures.1 in
    let t = c.in_err-count.ensures.taken in
    rw (p.1, with_items_is bytes after (omega arith))
    (record { left_stays = t.left_stays; room_stays = t.room_stays; waiting_stays = part_stays packed after start end c.pack-start.ensures.order (omega arith) same ∙ part })
