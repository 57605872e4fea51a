use Rattle.std.proofs.Common.{◌≡◌, ◌+◌, ◌*◌, refl, sym, subst}
use Rattle.fo_ports.specs.State.{none}
use Rattle.fo_dirties.proofs.Adding.{dirties_quiet}
use Rattle.fo_dirties.proofs.Dirtied.{dirties_rests}
use Rattle.fo_dirties.proofs.Putting.{dirties_frame}
use Rattle.fo_tree_look.specs.Source.{Over}
use Rattle.fo_tree_shorten.proofs.Entries.{entry_put}
use Rattle.fo_files_leaf.specs.Leaf.{IsAbove}
use Rattle.fo_files_leaf.proofs.Altering.{alters_joins, alters_settled}
use Rattle.fo_files_leaf.proofs.Taking.{of_length, over_longer, top_apart, entry_rests, length_alters}
use Rattle.fo_files_leaf.proofs.take.take_in.Goals as goal

pub link-requires-clause-over : goal.link-requires-clause-over
link-requires-clause-over g c =
    let x = c.args.source.now.ways in
    subst (λ z. Over (g.B.Blocks.state c.args.on.now) (of_length x.tree z) x.kept.items x.limit) (sym c.end_of-source.ensures)
    (over_longer (g.B.Blocks.state c.args.on.now) x.tree x.kept.items x.limit (8192 * (c.args.leaf + 1)) c.requires.silent c.requires.source.over c.requires.short c.requires.place.0 c.requires.place.1)

pub link-requires-clause-other : goal.link-requires-clause-other
link-requires-clause-other g c = top_apart (g.B.Blocks.state c.args.on.now) c.args.source.now c.args.leaf c.args.at c.args.slot c.requires.source c.requires.entry

pub returns-in-Ok-clause-entry : goal.returns-in-Ok-clause-entry
returns-in-Ok-clause-entry g c =
    let l = c.link.ensures in
    let e = c.settle.ensures in
    entry_rests (entry_put c.requires.entry refl (g.met.B.Blocks.keeps_all c.args.on.now c.link.new.on l.keeps) l.now l.frame l.order) (g.met.B.Blocks.keeps_all c.link.new.on c.settle.new.self e.keeps) e.rests e.known e.blocks

pub returns-in-Err-clause-entry : goal.returns-in-Err-clause-entry
returns-in-Err-clause-entry g c =
    let l = c.link.ensures in
    let e = c.settle.ensures in
    entry_rests (entry_put c.requires.entry refl (g.met.B.Blocks.keeps_all c.args.on.now c.link.new.on l.keeps) l.now l.frame l.order) (g.met.B.Blocks.keeps_all c.link.new.on c.settle.new.self e.keeps) e.rests e.known e.blocks

pub returns-in-Ok-clause-alters : goal.returns-in-Ok-clause-alters
returns-in-Ok-clause-alters g c =
    let t = c.args.source.now.ways.tree in
    let l = c.link.ensures in
    let e = c.settle.ensures in
    alters_joins (g.met.B.Blocks.keeps_all c.args.on.now c.link.new.on l.keeps) (length_alters c.end_of-source.result c.requires.entry l.now l.frame l.order)
    (alters_settled c.args.at (λ k. k ≡ c.args.slot) (λ x. x ≡ t.tag) (IsAbove t.tag t.dir) none (g.B.Blocks.state c.link.new.on) (g.B.Blocks.state c.settle.new.self) ((l.frame.stays.marks c.args.at (λ h. h)).0 c.requires.entry.is_pinned) e.rests e.known e.blocks e.room.0)

pub returns-in-Err-clause-alters : goal.returns-in-Err-clause-alters
returns-in-Err-clause-alters g c =
    let t = c.args.source.now.ways.tree in
    let l = c.link.ensures in
    let e = c.settle.ensures in
    alters_joins (g.met.B.Blocks.keeps_all c.args.on.now c.link.new.on l.keeps) (length_alters c.end_of-source.result c.requires.entry l.now l.frame l.order)
    (alters_settled c.args.at (λ k. k ≡ c.args.slot) (λ x. x ≡ t.tag) (IsAbove t.tag t.dir) none (g.B.Blocks.state c.link.new.on) (g.B.Blocks.state c.settle.new.self) ((l.frame.stays.marks c.args.at (λ h. h)).0 c.requires.entry.is_pinned) e.rests e.known e.blocks e.room.0)

pub returns-in-Ok-clause-dirties : goal.returns-in-Ok-clause-dirties
returns-in-Ok-clause-dirties g c =
    dirties_quiet (dirties_frame c.args.at (g.met.B.Blocks.keeps_all c.args.on.now c.link.new.on c.link.ensures.keeps) c.link.ensures.frame c.link.ensures.order)
    (dirties_rests (g.B.Blocks.state c.link.new.on) (g.B.Blocks.state c.settle.new.self) (g.met.B.Blocks.keeps_all c.link.new.on c.settle.new.self c.settle.ensures.keeps) c.settle.ensures.rests)

pub returns-in-Err-clause-dirties : goal.returns-in-Err-clause-dirties
returns-in-Err-clause-dirties g c =
    dirties_quiet (dirties_frame c.args.at (g.met.B.Blocks.keeps_all c.args.on.now c.link.new.on c.link.ensures.keeps) c.link.ensures.frame c.link.ensures.order)
    (dirties_rests (g.B.Blocks.state c.link.new.on) (g.B.Blocks.state c.settle.new.self) (g.met.B.Blocks.keeps_all c.link.new.on c.settle.new.self c.settle.ensures.keeps) c.settle.ensures.rests)
