use Rattle.std.proofs.Common.{◌≡◌, drop}
use Rattle.fo_mind.specs.Due.{next_of}
use Rattle.fo_mind.proofs.clearing.next_in.Given as goal

abbrev pub invariant-loop-c : goal.invariant-loop-c
invariant-loop-c l = next_of l.order (drop l.c-index l.clears) ≡ next_of l.order l.clears
