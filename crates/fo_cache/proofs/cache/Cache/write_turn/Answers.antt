use Rattle.std.proofs.Common.{◌≡◌, ◌≤◌, [], false, true, ⊎_elim, subst, sym, arith}
use Rattle.std.proofs.lemmas.Bool.{cases_lt}
use Rattle.fo_mind.specs.MindParts.{parts}
use Rattle.fo_mind.proofs.Landing.{within_count}
use Rattle.fo_cache.proofs.cache.Cache.write_turn.Goals as goal

not_true : {A : Type 0} {t : _} → t ≡ false → t ≡ true → A
not_true e f = cc

pub write_data-requires-clause-data : goal.write_data-requires-clause-data
write_data-requires-clause-data g c = let self = c.args.self.now in subst (λ n. n ≤ c.args.at) (sym self.mind.placed.is_first) (c.is_block.ensures.0 c.if-is_block.true).0

pub write_labels-requires-clause-table : goal.write_labels-requires-clause-table
write_labels-requires-clause-table g c =
    let self = c.args.self.now in
    let lt = (within_count c.args.at self.mind.placed c.requires.turn).1 in
    let m = self.mind.placed.flag_count in
    let f = self.mind.placed.is_first in
    ⊎_elim
    (λ before. before)
    (λ le. not_true c.if-is_block.false (c.is_block.ensures.1 (omega (arith, f, le), omega (arith, lt, m))))
    (cases_lt c.args.at (parts self.mind [] 0).region.first)
