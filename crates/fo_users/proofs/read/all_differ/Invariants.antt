use Rattle.std.proofs.Common.{◌≡◌, drop}
use Rattle.fo_users.specs.Seen.{was_seen}
use Rattle.fo_users.specs.Table.{all_differ}
use Rattle.fo_users.proofs.Differing.{differ_from}
use Rattle.fo_users.proofs.read.all_differ.Given as goal

abbrev pub invariant-loop-line : goal.invariant-loop-line
invariant-loop-line l = differ_from (was_seen l.ids) (was_seen l.names) (drop l.line-index l.lines) ≡ all_differ l.lines
