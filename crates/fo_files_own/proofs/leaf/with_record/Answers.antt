use Rattle.std.proofs.Common.{sym}
use Rattle.fo_files_record.proofs.of_dir_put.Leaves.{leaf_long}
use Rattle.fo_files_own.proofs.Placed.{copy_changed}
use Rattle.fo_files_own.proofs.leaf.with_record.Goals as goal

pub copy_from_slice-requires : goal.copy_from_slice-requires
copy_from_slice-requires c = sym (leaf_long c.requires.leaf.0)

pub returns-clause-changed : goal.returns-clause-changed
returns-clause-changed c = copy_changed _ c.replace.result c.as_slice.result.now c.args.named.now c.args.bytes.now c.copy_from_slice.new.self _ c.as_slice.ensures c.copy_from_slice.ensures.after c.requires.place c.replace.ensures.replaced
