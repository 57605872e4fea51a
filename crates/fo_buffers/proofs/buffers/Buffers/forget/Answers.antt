use Rattle.std.proofs.Common.{ℕ, List, ap, ◌∙◌}
use Rattle.std.specs.FinMap.{remove}
use Rattle.lru.specs.LruCache.{LruCache}
use Rattle.fo_buffers.proofs.Keeping.{table, view3, view_cut}
use Rattle.fo_buffers.proofs.buffers.Buffers.forget.Goals as goal

pub returns : goal.returns
returns c =
    rw (← c.self.view_is)
    (view_cut c.self.inside.held c.remove.new.self c.args.at c.self.inside.clean.entries c.self.inside.room c.pop.new.self.entries c.remove.ensures.updates
    ∙ ap (λ (l : LruCache ℕ (List ℕ)). view3 (remove (table c.self.inside.held) c.args.at) l.entries c.self.inside.room) c.pop.ensures.entries)
