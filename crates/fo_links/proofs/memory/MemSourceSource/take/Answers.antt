use Rattle.std.proofs.Common.{◌≡◌, ◌+◌, ◌-◌, ◌∙◌, take, drop, arith, rules, refl}
use Rattle.fo_links.proofs.Giving.{gives}
use Rattle.fo_links.proofs.memory.MemSourceSource.take.Goals as goal

pub returns-clause-taken : goal.returns-clause-taken
returns-clause-taken c =
    let bs = c.args.self.now.bytes.items in
    let start = c.args.self.now.start in
    let n = c.min-count.result in
    let same : start + n - start ≡ n = omega arith in
    let copied : c.copy_from_slice.new.self ≡ take n (drop start bs) = c.copy_from_slice.ensures.after ∙ rw (same, c.deref-2.ensures.value) refl in
    gives bs c.copy_from_slice.new.self c.args.into.now start n (search rules) (search rules) copied (λ none some. omega arith)
