use Rattle.std.proofs.Common.{◌<◌, sym, subst, arith}
use Rattle.fo_image.specs.declared.types.Kind.{Kind}
use Rattle.fo_ports.specs.Blocks.{slot_count}
use Rattle.test_clients.proofs.bytes.written.Goals as goal

pub write_byte-requires-clause-root_slots : goal.write_byte-requires-clause-root_slots
write_byte-requires-clause-root_slots g c = subst (λ (k : Kind). 0 < slot_count k) (sym c.requires.tree.root_kind) (omega arith)

pub write_byte-requires-clause-top_older : goal.write_byte-requires-clause-top_older
write_byte-requires-clause-top_older g c = subst (λ n. n < (g.B.Blocks.state c.args.on.now).high) (sym c.requires.tree.top_epoch) c.requires.older

pub write_byte-requires-clause-slots : goal.write_byte-requires-clause-slots
write_byte-requires-clause-slots g c = subst (λ (k : Kind). 1 < slot_count k) (sym c.requires.tree.top_kind) (omega arith)

pub write_byte-requires-clause-leaf_older : goal.write_byte-requires-clause-leaf_older
write_byte-requires-clause-leaf_older g c = subst (λ n. n < (g.B.Blocks.state c.args.on.now).high) (sym c.requires.tree.leaf_epoch) c.requires.older

pub returns-clause-still : goal.returns-clause-still
returns-clause-still g c = ((g.met.B.Blocks.keeps_all c.args.on.now c.write_byte.new.on c.write_byte.ensures.keeps).same_blocks c.args.leaf).1 c.requires.tree.leaf_block
