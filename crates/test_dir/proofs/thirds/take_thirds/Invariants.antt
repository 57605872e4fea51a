use Rattle.std.proofs.Common.{◌≡◌, ◌≤◌, Some}
use Rattle.fo_meta.specs.Leaf.{IsLeaf}
use Rattle.fo_dir_put.specs.Puts.{IsOwnedRecords}
use Rattle.test_dir.proofs.thirds.take_thirds.Given as goal

abbrev pub invariant-loop-k : goal.invariant-loop-k
invariant-loop-k g l =
    let s = g.B.Blocks.state l.on in
    g.S.Bytes.is_over l.records l.on
    × (s.tells → (g.S.Bytes.leaves l.records l.on).at 0 ≡ Some l.at)
    × IsOwnedRecords s l.at
    × (IsLeaf l.bytes × (l.bytes ≡ (s.now l.at).bytes))
    × (8192 ≤ g.S.Bytes.size l.records)
