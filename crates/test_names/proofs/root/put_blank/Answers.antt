use Rattle.std.proofs.Common.{sym, subst}
use Rattle.fo_crash.specs.declared.slot.Slot.TheVariants.{Entry as Head}
use Rattle.fo_image.specs.declared.types.Entry.{Entry}
use Rattle.fo_ports.specs.State.{MayPutSlot}
use Rattle.test_names.specs.Parts.{blank_entry}
use Rattle.test_names.proofs.Putting.{may_put}
use Rattle.test_names.specs.Root.{IsInMemory}
use Rattle.test_names.proofs.Ground.{Ground}
use Rattle.test_names.proofs.root.put_blank.Given as given
use Rattle.test_names.proofs.root.put_blank.Goals as goal

ground_of : (g : given.Over) (b : g.row.B.Denot) → IsInMemory (g.B.Blocks.state b) → Ground (g.B.Blocks.state b)
ground_of g b memory =
    let s = g.B.Blocks.state b in
    let told = memory.told in
    record {
      told = told;
      active = (g.met.B.Blocks.active b).0;
      not_one = (g.met.B.Blocks.active b).1;
      placed = g.met.B.Blocks.placed b s.now (g.met.B.Blocks.present b told);
      ranked = g.met.B.Blocks.ranked b s.now (g.met.B.Blocks.present b told);
      one = g.met.B.Blocks.one_place b;
      super_stands = g.met.B.Blocks.super_stands b told;
      labelled = λ y q ne stands. g.met.B.Blocks.labelled b y q told ne stands;
      live = λ y ne r. g.met.B.Blocks.live b y told ne r;
      root_named = g.met.B.Blocks.root_named b told;
      root_block = (g.met.B.Blocks.root_is b).0;
      root_is = (g.met.B.Blocks.root_is b).1 told;
    }

pub put_slot-requires-clause-may : goal.put_slot-requires-clause-may
put_slot-requires-clause-may g c = λ told.
    let on = c.args.on.now in
    let s = g.B.Blocks.state on in
    let memory = c.requires.memory on in
    subst (λ (e : Entry). MayPutSlot s c.args.root c.slot.result (Head e)) (sym c.entry.ensures)
    (subst (λ i. MayPutSlot s c.args.root i (Head (blank_entry c.args.part))) (sym c.slot.ensures)
    (may_put {s = s} {p = c.args.part} {root = c.args.root} {e = c.args.entry} (record {
      ground = ground_of g on memory;
      memory = memory;
      comes = c.requires.none;
      at_root = c.requires.root.0;
      slot = c.requires.entry;
      top = c.requires.blank.0;
      depth = c.requires.blank.1;
    })))
