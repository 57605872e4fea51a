use Rattle.std.proofs.Common.{◌≡◌, map, take, List}
use Rattle.fo_users.specs.declared.table.User.{User}
use Rattle.fo_users.specs.Parts.{SpellsLines}
use Rattle.fo_users.proofs.read.read_lines.Given as goal

abbrev pub invariant-loop-text : goal.invariant-loop-text
invariant-loop-text l = record {
  found : SpellsLines (map (λ x. x.now) (take l.text-index l.text-items)) l.users.items;
  only : (us : List User) → SpellsLines (map (λ x. x.now) l.text-items) us → l.users.items ≡ take l.text-index us;
}
