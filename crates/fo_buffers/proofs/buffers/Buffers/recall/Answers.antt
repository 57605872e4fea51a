use Rattle.std.proofs.Common.{◌-◌, ℕ, List, true, false, sym, ap, ◌∙◌}
use Rattle.lru.specs.LruCache.{LruCache}
use Rattle.fo_buffers.specs.Held.{buffer_of}
use Rattle.fo_buffers.proofs.Keeping.{table, view3, view_put}
use Rattle.fo_buffers.proofs.buffers.Buffers.recall.Goals as goal

pub returns-clause-held : goal.returns-clause-held
returns-clause-held c =
    rw (← c.self.view_is, sym c.pop.ensures.value ∙ c.unwrap-block.ensures)
    (ap (λ (l : LruCache ℕ (List ℕ)). view3 (table c.hold.new.held) l.entries (c.self.inside.room - 1)) c.pop.ensures.entries
    ∙ view_put c.self.inside.held c.hold.new.held c.args.at c.self.inside.clean.entries c.self.inside.room (buffer_of c.unwrap-block.result false true) c.hold.ensures.held)
