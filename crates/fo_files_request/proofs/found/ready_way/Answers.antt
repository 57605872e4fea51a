use Rattle.std.proofs.Common.{refl, sym, ap, subst, ◌∙◌}
use Rattle.fo_files_into.specs.of_files_at.declared.at.Way.{Way}
use Rattle.fo_files_into.specs.of_files_at.Way.{IsWay}
use Rattle.fo_files_into.proofs.of_files_at.Ways.{way_stays}
use Rattle.fo_files_into.specs.of_files_along.Along.{touched}
use Rattle.fo_files_into.proofs.of_files_along.Ways.{file_holds, touched_holds, way_named}
use Rattle.fo_files_request.proofs.found.ready_way.Goals as goal

pub record_len-was-requires : goal.record_len-was-requires
record_len-was-requires g c = (file_holds (g.B.Blocks.state c.args.on.now) c.args.root c.args.trail.now c.args.way c.requires.way).named

pub with_spare-requires-clause-way : goal.with_spare-requires-clause-way
with_spare-requires-clause-way g c =
    let s = g.B.Blocks.state c.args.on.now in
    let holds = (file_holds s c.args.root c.args.trail.now c.args.way c.requires.way).named in
    way_named s c.args.root c.args.trail.now c.args.way c.in-Ok.way (touched c.args.who.now c.args.now c.args.way.file.named) (touched_holds c.args.who.now c.args.now c.args.way.file.named c.requires.who holds) refl (ap (λ xs. xs.items) c.in-Ok.ensures.is.0) c.in-Ok.ensures.is.1 c.requires.way

pub returns-in-Ok-with_spare-clause-way : goal.returns-in-Ok-with_spare-clause-way
returns-in-Ok-with_spare-clause-way g c =
    let s = g.B.Blocks.state c.args.on.now in
    let u = g.B.Blocks.state c.with_spare.new.on in
    let holds = (file_holds s c.args.root c.args.trail.now c.args.way c.requires.way).named in
    let named = way_named s c.args.root c.args.trail.now c.args.way c.in-Ok.way (touched c.args.who.now c.args.now c.args.way.file.named) (touched_holds c.args.who.now c.args.now c.args.way.file.named c.requires.who holds) refl (ap (λ xs. xs.items) c.in-Ok.ensures.is.0) c.in-Ok.ensures.is.1 c.requires.way in
    subst (λ (w : Way). IsWay u c.args.root c.args.trail.now w) (sym c.in-Ok-with_spare.ensures.way) (way_stays s u c.args.root c.args.trail.now c.in-Ok.way (g.met.B.Blocks.keeps_all c.args.on.now c.with_spare.new.on c.with_spare.ensures.looks.1) named)

pub returns-in-Ok-with_spare-clause-file : goal.returns-in-Ok-with_spare-clause-file
returns-in-Ok-with_spare-clause-file g c = (
  ap (λ (w : Way). w.steps) c.in-Ok-with_spare.ensures.way ∙ c.in-Ok.ensures.is.0,
  ap (λ (w : Way). w.file) c.in-Ok-with_spare.ensures.way ∙ c.in-Ok.ensures.is.1,
)
