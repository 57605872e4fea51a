use Rattle.std.proofs.Common.{◌≡◌, true, rules}
use Rattle.fo_links.specs.Memory.{is_listed}
use Rattle.fo_links.proofs.memory.MemSinkSink.put.Goals as goal

pub returns-then-fails-clause-puts : goal.returns-then-fails-clause-puts
returns-then-fails-clause-puts c = λ no.
    let is : is_listed c.args.self.now.fails.items c.args.self.now.calls ≡ true = search rules in
    absurd cc
