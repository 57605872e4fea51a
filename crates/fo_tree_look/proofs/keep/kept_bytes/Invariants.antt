use Rattle.std.proofs.Common.{◌≡◌, drop}
use Rattle.fo_tree_look.specs.Source.{find_kept}
use Rattle.fo_tree_look.proofs.keep.kept_bytes.Given as goal

abbrev pub invariant-loop-block : goal.invariant-loop-block
invariant-loop-block l = find_kept (drop l.block-index l.kept) l.score l.kind ≡ find_kept l.kept l.score l.kind
