use Rattle.std.proofs.Common.{◌≡◌, ◌+◌, ◌*◌, List, length}
use Rattle.fo_disk.specs.Disk.{Block}
use Rattle.fo_sound.specs.Image.{block_of}
use Rattle.venti_store.specs.Opening.{ReadLines}
use Rattle.venti_store.proofs.open.add_group.Given as goal

abbrev pub invariant-loop-n : goal.invariant-loop-n
invariant-loop-n l = record {
  count : length l.index.lines.items ≡ 341 * l.group + l.n;
  lines : (vault : List Block) → l.block ≡ block_of vault (1 + 342 * l.group) → ReadLines (341 * l.group) l.fn.index.lines.items vault → ReadLines (341 * l.group + l.n) l.index.lines.items vault;
}
