use Rattle.std.proofs.Common.{rules, ◌≡◌, ℕ, List, length, nat_eq, ap, ◌∙◌}
use Rattle.lru.specs.LruCache.{LruCache, lru_cache, put_entries}
use Rattle.fo_buffers.proofs.Keeping.{table, view3}
use Rattle.fo_buffers.proofs.buffers.Buffers.look.Goals as goal

pub returns-clause-ok : goal.returns-clause-ok
returns-clause-ok g c =
    let whole : length c.read.new.self ≡ 8192 = search rules in
    record {
      bytes = c.read.new.self;
      whole = whole;
      is = rw (← c.self.view_is)
          (ap (λ (l : LruCache ℕ (List ℕ)). view3 (table c.self.inside.held) l.entries c.self.inside.room) c.in-Ok-put.ensures.entries
          ∙ ap (λ (cap : ℕ). view3 (table c.self.inside.held) (put_entries nat_eq (lru_cache c.self.inside.clean.entries cap) c.args.at c.read.new.self) c.self.inside.room) c.self.invariant.few);
      found = c.in-Ok-read.ensures.bytes;
    }
