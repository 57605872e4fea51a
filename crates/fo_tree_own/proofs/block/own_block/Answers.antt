use Rattle.std.proofs.Common.{◌%◌, ◌<◌, sym, subst, arith}
use Rattle.fo_tree_look.specs.of_ports.Blocks.{slot_count}
use Rattle.fo_tree_own.proofs.Link.{inner_slots}
use Rattle.fo_tree_own.proofs.block.own_block.Goals as goal

pub slot-slot-requires-clause-slots : goal.slot-slot-requires-clause-slots
slot-slot-requires-clause-slots g c = subst (λ q. c.args.k % 409 < slot_count q) (sym c.requires.above.has_kind) (subst (λ n. c.args.k % 409 < n) (sym (inner_slots c.args.tree.now.dir c.args.level)) (omega arith))
