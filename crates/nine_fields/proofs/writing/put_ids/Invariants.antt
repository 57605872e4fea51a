use Rattle.std.proofs.Common.{◌≡◌, ◌++◌, take}
use Rattle.std.specs.List.{flat_map, AllByRecursion}
use Rattle.nine_fields.specs.Field.{qid_bytes, QidFits}
use Rattle.nine_fields.proofs.writing.put_ids.Given as goal

abbrev pub invariant-loop-qid : goal.invariant-loop-qid
invariant-loop-qid l = record {
  written : l.out.items ≡ l.fn.out.items ++ flat_map qid_bytes (take l.qid-index l.qids);
  fit : AllByRecursion QidFits (take l.qid-index l.qids);
}
