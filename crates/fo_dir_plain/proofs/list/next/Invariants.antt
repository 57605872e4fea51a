use Rattle.std.proofs.Common.{take}
use Rattle.std.specs.Option.{option_copied}
use Rattle.fo_dir_list.specs.Next.{Answers}
use Rattle.fo_dir_plain.proofs.list.next.Given as goal

abbrev pub invariant-loop-found : goal.invariant-loop-found
invariant-loop-found l = Answers l.after (take l.found-index l.records) (option_copied l.best)
