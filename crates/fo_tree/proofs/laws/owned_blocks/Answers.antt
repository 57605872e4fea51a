use Rattle.std.proofs.Common.{refl}
use Rattle.fo_tree_look.proofs.Places.{is_here, here_owned}
use Rattle.fo_tree_link.proofs.of_tree_open.Opened.{hangs_below}
use Rattle.fo_crash.specs.declared.slot.Slot.TheVariants.{Entry as Head}
use Rattle.fo_tree_link.specs.Link.{entry_of}
use Rattle.fo_tree.proofs.Hanging.{blocks_are}
use Rattle.fo_tree.proofs.laws.owned_blocks.Goals as goal

pub returns-clause-blocks : goal.returns-clause-blocks
returns-clause-blocks g c = λ told b.
    let on = c.args.on.now in
    let s = g.B.Blocks.state on in
    let w = c.args.source.now.ways in
    blocks_are {s = s} {t = w.tree} (record {
      told = told;
      hangs = c.requires.hangs;
      placed = g.met.B.Blocks.placed on s.now (g.met.B.Blocks.present on told);
      one = g.met.B.Blocks.one_place on;
      super_stands = g.met.B.Blocks.super_stands on told;
      few = g.met.B.Blocks.few on s.now (g.met.B.Blocks.present on told);
      labelled = λ a p ne stands. (g.met.B.Blocks.labelled on a p told ne stands).1;
    }) (Head (entry_of w.tree w.generation)) refl b

pub returns-clause-leaves : goal.returns-clause-leaves
returns-clause-leaves g c = λ told i b e.
    let s = g.B.Blocks.state c.args.on.now in
    let w = c.args.source.now.ways in
    let has = here_owned (is_here s w.tree i b e) in
    hangs_below s w.tree (Head (entry_of w.tree w.generation)) refl has.down has.index b has.is
