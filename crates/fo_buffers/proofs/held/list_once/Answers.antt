use Rattle.std.proofs.Common.{nat_eq, refl}
use Rattle.std.specs.Map.{remove_entry}
use Rattle.lru.specs.LruCache.{lru_cache}
use Rattle.fo_buffers.proofs.Once.{alone, listed}
use Rattle.fo_buffers.proofs.held.list_once.Goals as goal

pub returns-clause-is : goal.returns-clause-is
returns-clause-is c =
    let old = c.args.clean.now in
    let put = c.put-listed.ensures in
    listed c.put-listed.result c.pop.new.self (lru_cache (remove_entry (nat_eq c.args.at) old.entries) old.cap) c.put-listed.new.self c.args.at c.args.block c.pop.ensures.entries put.entries put.err

pub returns-clause-alone : goal.returns-clause-alone
returns-clause-alone c =
    let put = c.put-listed.ensures in
    alone c.args.clean.now c.pop.new.self c.put-listed.new.self c.args.at c.args.block c.len-count.ensures.valid.0 c.pop.ensures.entries
    (listed c.put-listed.result c.pop.new.self c.pop.new.self c.put-listed.new.self c.args.at c.args.block refl put.entries put.err)
