use Rattle.std.proofs.Common.{◌<◌, ℕ, sym, subst, arith}
use Rattle.fo_ports.specs.Sources.{Form}
use Rattle.fo_dir_read.specs.Pairs.{OfEntries}
use Rattle.test_dir.proofs.leaves.is_ready.Goals as goal

none_below : (n : ℕ) → n < 0 → ⊥
none_below n lt = omega (arith, lt)

pub ready_entries-requires-clause-may : goal.ready_entries-requires-clause-may
ready_entries-requires-clause-may g c = record { within = omega arith; limited = c.requires.limit; pins = c.requires.pins; spare = c.requires.spare }

pub ready_entries-requires-clause-linked : goal.ready_entries-requires-clause-linked
ready_entries-requires-clause-linked g c = λ told deeper b has. absurd (none_below _ deeper)

pub free_pair-requires-clause-form : goal.free_pair-requires-clause-form
free_pair-requires-clause-form g c = subst (λ (f : Form). OfEntries f c.args.rank) (sym c.ready_entries.ensures.over.1) c.requires.form
