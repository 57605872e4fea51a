use Rattle.std.proofs.Common.{◌≡◌, List, ◌++◌}
use Rattle.fo_image.specs.declared.record.Record.{Record}
use Rattle.fo_vac_dir.specs.Choice.{test_of, least, AllHold, OneHolds}
use Rattle.fo_vac_dir.proofs.choice.Wanted.choose_all.Given as goal

abbrev pub invariant-loop-named : goal.invariant-loop-named
invariant-loop-named l = record {
  least : (before : List Record) → l.fn.best ≡ least (test_of l.self) before → l.best ≡ least (test_of l.self) (before ++ l.yielded);
  holds : OneHolds l.fn.best → AllHold l.yielded → OneHolds l.best;
}
