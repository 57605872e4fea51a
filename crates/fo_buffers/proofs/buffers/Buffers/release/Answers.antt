use Rattle.std.proofs.Common.{nat_eq, is_some, refl, sym, ap, ◌∙◌}
use Rattle.std.specs.Map.{remove_entry}
use Rattle.lru.specs.LruCache.{lru_cache}
use Rattle.fo_buffers.proofs.Tables.{get_table}
use Rattle.fo_buffers.proofs.Keeping.{view_released, held_is, none_is}
use Rattle.fo_buffers.proofs.buffers.Buffers.release.Goals as goal

pub returns-then-not-contains_key : goal.returns-then-not-contains_key
returns-then-not-contains_key c =
    rw (none_is _ (sym (ap is_some (held_is c.self.inside.held _ _ _ c.self.view_is c.args.at)) ∙ sym c.contains_key.ensures ∙ c.if-not-contains_key.true)) (record { is = refl; alone = tt })

pub returns-clause-is : goal.returns-clause-is
returns-clause-is c =
    let clean = c.self.inside.clean in
    rw (← c.self.view_is, get_table c.self.inside.held.entries c.args.at ∙ sym c.remove.ensures.value ∙ c.unwrap-buffer.ensures)
    (view_released c.self.inside.held c.remove.new.self c.args.at c.unwrap-buffer.result.block (lru_cache (remove_entry (nat_eq c.args.at) clean.entries) clean.cap) c.list_once.new.clean c.self.inside.room c.remove.ensures.updates c.self.invariant.few
    c.list_once.ensures.is)

pub returns-clause-alone : goal.returns-clause-alone
returns-clause-alone c =
    rw (← c.self.view_is, get_table c.self.inside.held.entries c.args.at ∙ sym c.remove.ensures.value ∙ c.unwrap-buffer.ensures)
    c.list_once.ensures.alone
