use Rattle.std.proofs.Common.{refl}
use Rattle.fo_order.proofs.order.Order.synced.Goals as goal

pub returns : goal.returns
returns c = rw (← c.self.view_is) (record { each = c.settle_all.ensures.each; count = c.settle_all.ensures.long; dirty = c.settle_all.ensures.count; none = c.settle_all.ensures.none; room = refl })
