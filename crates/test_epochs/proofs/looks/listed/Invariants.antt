use Rattle.std.proofs.Common.{◌≡◌}
use Rattle.test_names.specs.Root.{NoneComes}
use Rattle.test_epochs.proofs.looks.listed.Given as goal

abbrev pub invariant-loop-number : goal.invariant-loop-number
invariant-loop-number g l =
    g.S.Bytes.is_over l.records l.on
    × (g.S.Bytes.form l.records ≡ g.S.Bytes.form l.initial.records)
    × (NoneComes (g.B.Blocks.state l.initial.on) → NoneComes (g.B.Blocks.state l.on))
    × g.B.Blocks.keeps l.initial.on l.on
