use Rattle.fo_ports_plain.specs.Meaning.{state_of}
use Rattle.fo_ports_plain.specs.Parts.{parts}
use Rattle.test_names.specs.Root.{HasBlocks, NoneComes}
use Rattle.test_epochs.proofs.older.note_part.Given as goal

abbrev pub invariant-loop-i : goal.invariant-loop-i
invariant-loop-i l = HasBlocks 1003 (state_of (parts l.on)) × NoneComes (state_of (parts l.on))
