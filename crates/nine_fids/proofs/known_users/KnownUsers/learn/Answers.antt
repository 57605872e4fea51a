use Rattle.std.proofs.Common.{sym, ◌∙◌}
use Rattle.nine_fids.proofs.Spelling.{known_same}
use Rattle.nine_fids.proofs.known_users.KnownUsers.learn.Goals as goal

pub returns-then-are_known-clause-kept : goal.returns-then-are_known-clause-kept
returns-then-are_known-clause-kept c = rw (← c.as_slice.ensures) (known_same c.args.self.now c.as_slice.result.now (sym c.are_known.ensures ∙ c.if-are_known.true))
