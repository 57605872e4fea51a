use Rattle.std.proofs.Common.{◌≡◌, map, take}
use Rattle.fo_console.proofs.words.copies.Given as goal

abbrev pub invariant-loop-text : goal.invariant-loop-text
invariant-loop-text l = l.names.items ≡ map (λ x. x.now) (take l.text-index l.texts)
