use Rattle.std.proofs.Common.{◌≡◌, map, take}
use Rattle.fo_users.proofs.read.read_members.Given as goal

abbrev pub invariant-loop-name : goal.invariant-loop-name
invariant-loop-name l = l.names.items ≡ map (λ x. x.now) (take l.name-index l.name-items)
