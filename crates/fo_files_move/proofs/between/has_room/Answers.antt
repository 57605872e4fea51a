use Rattle.std.proofs.Common.{sym}
use Rattle.fo_dir_move.proofs.of_dir_put.Leaves.{leaf_long}
use Rattle.fo_files_move.proofs.between.has_room.Goals as goal

pub copy_from_slice-requires : goal.copy_from_slice-requires
copy_from_slice-requires c = sym (leaf_long c.requires.leaf)
