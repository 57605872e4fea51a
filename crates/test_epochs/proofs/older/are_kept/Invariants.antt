use Rattle.fo_ports_plain.specs.Meaning.{state_of}
use Rattle.fo_ports_plain.specs.Parts.{parts}
use Rattle.test_names.specs.Root.{HasBlocks, NoneComes}
use Rattle.test_epochs.proofs.older.are_kept.Given as goal

abbrev pub invariant-loop-noted : goal.invariant-loop-noted
invariant-loop-noted l = HasBlocks 1003 (state_of (parts l.on)) × NoneComes (state_of (parts l.on))
