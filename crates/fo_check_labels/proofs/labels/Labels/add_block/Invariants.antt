use Rattle.std.proofs.Common.{◌≡◌, ◌+◌, ◌*◌, List, length}
use Rattle.fo_disk.specs.Disk.{Block}
use Rattle.fo_sound.specs.Image.{block_of}
use Rattle.fo_check_labels.specs.Known.{IsBelow, IsFew}
use Rattle.fo_check_labels.specs.Table.{IsScanned}
use Rattle.fo_check_labels.proofs.labels.Labels.add_block.Given as goal

abbrev pub invariant-loop-place : goal.invariant-loop-place
invariant-loop-place l = record {
  below : IsBelow (585 * l.n + l.place) l.self.known.items;
  few : IsFew l.blocks (585 * l.n) l.fn.self.known.items → IsFew l.blocks (585 * l.n + l.place) l.self.known.items;
  table : (image : List Block) → length image ≡ l.blocks → l.block ≡ block_of image (2 + l.n) → IsScanned image l.n (585 * l.n) l.fn.self.known.items → IsScanned image (l.n + 1) (585 * l.n + l.place) l.self.known.items;
}
