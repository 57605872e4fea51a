use Rattle.std.proofs.Common.{◌≡◌, ⊎_elim, ◌+◌, ◌*◌, ◌/◌, sym, subst, arith}
use Rattle.test_blocks.specs.Silent.{Listed, memory}
use Rattle.test_blocks.specs.SilentLaws.{used_active}
use Rattle.test_blocks.proofs.silent_calls.CarelessBlocksBlocks.wait_for.Goals as goal

pub returns-clause-waits : goal.returns-clause-waits
returns-clause-waits c =
    let self = c.args.self.now in
    let on = c.args.on in
    let ws = c.add_wait.new.self.waits.items in (
      record {
        each = λ k g used _.
            let listed = c.add_wait.ensures.each k (used_active ((memory self.blocks.items on).slot (2 * k)) g used) in
            let first : (2 * k) / 2 ≡ k = omega arith in
            let second : (2 * k + 1) / 2 ≡ k = omega arith in
            (subst (λ n. Listed ws c.args.at on n) (sym first) listed, subst (λ n. Listed ws c.args.at on n) (sym second) listed);
      },
      record { each = λ a o j no w. ⊎_elim (λ l. l) (λ e. absurd (no e)) (c.add_wait.ensures.only a o (j / 2) w) },
    )
