use Rattle.std.proofs.Common.{sym, ap, subst}
use Rattle.fo_files_into.specs.of_files_at.declared.at.Way.{Way}
use Rattle.fo_files_into.specs.of_files_at.Way.{IsWay}
use Rattle.fo_files_into.proofs.of_files_at.Ways.{way_stays}
use Rattle.fo_files_into.proofs.of_files_along.Ways.{file_holds, way_named}
use Rattle.fo_files_edit.specs.Fields.{edited}
use Rattle.fo_files_edit.proofs.Edited.{edited_holds, edited_number}
use Rattle.fo_files_edit.proofs.found.ready_way.Goals as goal

pub record_len-was-requires : goal.record_len-was-requires
record_len-was-requires g c = (file_holds (g.B.Blocks.state c.args.on.now) c.args.root c.args.at.now.trail c.args.way c.requires.way).named

pub with_spare-requires-clause-way : goal.with_spare-requires-clause-way
with_spare-requires-clause-way g c =
    let s = g.B.Blocks.state c.args.on.now in
    let file = c.args.way.file in
    let holds = (file_holds s c.args.root c.args.at.now.trail c.args.way c.requires.way).named in
    way_named s c.args.root c.args.at.now.trail c.args.way c.in-Ok-with_edits.new (edited c.args.what.now file.dir c.args.who.now c.args.now file.named) (edited_holds c.args.what.now file.dir c.args.who.now c.args.now file.named c.requires.asks.name c.requires.asks.gid c.requires.who holds) (edited_number c.args.what.now file.dir c.args.who.now c.args.now file.named) (ap (λ xs. xs.items) c.in-Ok-with_edits.ensures.is.0) c.in-Ok-with_edits.ensures.is.1 c.requires.way

pub returns-in-Ok-with_spare-clause-way : goal.returns-in-Ok-with_spare-clause-way
returns-in-Ok-with_spare-clause-way g c =
    let s = g.B.Blocks.state c.args.on.now in
    let u = g.B.Blocks.state c.with_spare.new.on in
    let file = c.args.way.file in
    let holds = (file_holds s c.args.root c.args.at.now.trail c.args.way c.requires.way).named in
    let named = way_named s c.args.root c.args.at.now.trail c.args.way c.in-Ok-with_edits.new (edited c.args.what.now file.dir c.args.who.now c.args.now file.named) (edited_holds c.args.what.now file.dir c.args.who.now c.args.now file.named c.requires.asks.name c.requires.asks.gid c.requires.who holds) (edited_number c.args.what.now file.dir c.args.who.now c.args.now file.named) (ap (λ xs. xs.items) c.in-Ok-with_edits.ensures.is.0) c.in-Ok-with_edits.ensures.is.1 c.requires.way in
    subst (λ (w : Way). IsWay u c.args.root c.args.at.now.trail w) (sym c.in-Ok-with_spare.ensures.is.0) (way_stays s u c.args.root c.args.at.now.trail c.in-Ok-with_edits.new (g.met.B.Blocks.keeps_all c.args.on.now c.with_spare.new.on c.with_spare.ensures.looks.1) named)
