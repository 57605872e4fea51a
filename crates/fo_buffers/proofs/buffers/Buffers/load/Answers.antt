use Rattle.std.proofs.Common.{◌-◌, ℕ, List, true, false, sym, ap, subst, ◌∙◌, arith}
use Rattle.lru.specs.LruCache.{LruCache}
use Rattle.fo_buffers.specs.Held.{buffer_of}
use Rattle.fo_buffers.specs.Tables.{Listed}
use Rattle.fo_buffers.proofs.Keeping.{table, view3, view_put, listed_put}
use Rattle.fo_buffers.proofs.buffers.Buffers.load.Goals as goal

pub invariant_of-self-2 : goal.invariant_of-self-2
invariant_of-self-2 g c =
    record {
      entries = omega (arith, c.hold.ensures.spare, c.self.invariant.entries);
      blocks = omega (arith, c.in_ok-block.ensures.taken, c.self.invariant.blocks);
      pins = omega (arith, c.hold.ensures.len, c.hold.ensures.capacity, c.self.invariant.pins);
      listed = subst (λ (pins : List ℕ). Listed c.hold.new.held pins) (sym c.hold.ensures.pins) (listed_put c.self.inside.held c.hold.new.held c.args.at _ c.self.inside.pins.items c.hold.ensures.held.0 c.self.invariant.listed);
      few = ap (λ (l : LruCache ℕ (List ℕ)). l.cap) c.pop.ensures.entries ∙ c.self.invariant.few;
    }

pub returns-clause-ok : goal.returns-clause-ok
returns-clause-ok g c = (
  c.in_ok-block.block,
  rw (← c.self.view_is)
      (ap (λ (l : LruCache ℕ (List ℕ)). view3 (table c.hold.new.held) l.entries (c.self.inside.room - 1)) c.pop.ensures.entries
      ∙ view_put c.self.inside.held c.hold.new.held c.args.at c.self.inside.clean.entries c.self.inside.room (buffer_of c.in_ok-block.block false true) c.hold.ensures.held),
  c.in_ok-block.ensures.bytes,
)
