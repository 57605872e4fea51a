use Rattle.std.proofs.Common.{◌≡◌, drop}
use Rattle.fo_ports_plain.specs.Plain.{held_in}
use Rattle.fo_ports_plain.proofs.held.copy_held.Given as goal

abbrev pub invariant-loop-block : goal.invariant-loop-block
invariant-loop-block l = (held_in (drop l.block-index l.held) l.score l.kind ≡ held_in l.held l.score l.kind) × (l.into ≡ l.initial.into)
