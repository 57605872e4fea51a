use Rattle.std.proofs.Common.{◌-◌, ℕ, List, true, nat_eq, Some, ap, subst, ◌∙◌}
use Rattle.std.specs.HashMap.{Updates}
use Rattle.lru.specs.LruCache.{LruCache}
use Rattle.fo_buffers.specs.Held.{buffer_of}
use Rattle.fo_buffers.proofs.Keeping.{table, view3, view_put}
use Rattle.fo_buffers.proofs.buffers.Buffers.make.Goals as goal

pub returns : goal.returns
returns c =
    let held = subst (λ (b : List ℕ). Updates nat_eq c.self.inside.held c.hold.new.held c.args.at (Some (buffer_of b true true))) c.fill.ensures c.hold.ensures.held in
    rw (← c.self.view_is)
    (ap (λ (l : LruCache ℕ (List ℕ)). view3 (table c.hold.new.held) l.entries (c.self.inside.room - 1)) c.pop-2.ensures.entries
    ∙ view_put c.self.inside.held c.hold.new.held c.args.at c.self.inside.clean.entries c.self.inside.room (buffer_of c.args.bytes.now true true) held)
