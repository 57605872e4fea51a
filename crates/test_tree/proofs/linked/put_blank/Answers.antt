use Rattle.std.proofs.Common.{sym, subst}
use Rattle.fo_image.specs.declared.types.Entry.{Entry}
use Rattle.fo_crash.specs.declared.slot.Slot.TheVariants.{Entry as Head}
use Rattle.fo_ports.specs.State.{MayPutSlot}
use Rattle.test_tree.proofs.Blanks.{may_put}
use Rattle.test_tree.proofs.linked.put_blank.Goals as goal

pub put_slot-requires-clause-may : goal.put_slot-requires-clause-may
put_slot-requires-clause-may g c = λ told.
    let s = g.B.Blocks.state c.args.on.now in
    subst (λ (e : Entry). MayPutSlot s c.args.root 0 (Head e)) (sym c.blank.ensures) (may_put {s = s} {root = c.args.root} {e = c.args.entry} (record {
      ground = c.ground.ensures told;
      memory = c.requires.memory c.args.on.now;
      comes = c.requires.none;
      at_root = c.requires.root.0;
      slot = c.requires.entry;
      top = c.requires.blank.0;
      depth = c.requires.blank.1;
    }))
