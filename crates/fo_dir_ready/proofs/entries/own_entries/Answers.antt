use Rattle.std.proofs.Common.{◌/◌}
use Rattle.fo_dir_ready.proofs.Rowed.{ends_before}
use Rattle.fo_dir_ready.proofs.Paired.{pair_on, free_on, taken_on}
use Rattle.fo_dir_ready.proofs.entries.own_entries.Goals as goal

pub returns-clause-pairs : goal.returns-clause-pairs
returns-clause-pairs g c = λ told k first second pair. pair_on (c.own_kept.ensures.same told (k / 102)) pair

pub returns-clause-free : goal.returns-clause-free
returns-clause-free g c = λ told k free.
    free_on (c.own_kept.ensures.same told (k / 102)) (λ e. (g.met.S.Bytes.none_behind c.args.entries.now c.args.on.now (k / 102) c.requires.over (ends_before (g.S.Bytes.size c.args.entries.now) (k / 102) e)).0) free

pub returns-clause-taken : goal.returns-clause-taken
returns-clause-taken g c = λ told k taken. taken_on (g.met.B.Blocks.clears_used c.args.on.now told) (λ j. c.own_kept.ensures.same told j) taken
