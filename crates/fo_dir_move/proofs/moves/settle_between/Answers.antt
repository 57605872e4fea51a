use Rattle.fo_dir_move.proofs.Settled.{ready_settled, entries_kept}
use Rattle.fo_dir_move.proofs.moves.settle_between.Goals as goal

pub returns-in-Ok-clause-ready : goal.returns-in-Ok-clause-ready
returns-in-Ok-clause-ready g c =
    ready_settled (g.met.B.Blocks.keeps_all c.args.on.now c.settle.new.self c.settle.ensures.keeps) c.settle.ensures.rests c.settle.ensures.blocks (λ x h. g.met.B.Blocks.covers_told c.settle.new.self x h) (λ h. g.met.B.Blocks.one_stays c.args.on.now h) (λ told x ne r. (g.met.B.Blocks.live c.args.on.now x told ne r).2) c.args.from c.args.to c.args.entries c.requires.may c.settle.ensures.known c.requires.ready

pub returns-in-Ok-clause-leaves : goal.returns-in-Ok-clause-leaves
returns-in-Ok-clause-leaves g c = record {
  from_is = (c.settle.ensures.known c.args.from c.requires.ready.from_owned.is_pinned).bytes;
  to_is = (c.settle.ensures.known c.args.to c.requires.ready.to_owned.is_pinned).bytes;
}

pub returns-in-Ok-clause-entries : goal.returns-in-Ok-clause-entries
returns-in-Ok-clause-entries g c = entries_kept c.args.entries c.settle.ensures.rests (c.settle.ensures.known c.args.entries c.requires.ready.held.is_pinned)

pub returns-in-Err-clause-ready : goal.returns-in-Err-clause-ready
returns-in-Err-clause-ready g c =
    ready_settled (g.met.B.Blocks.keeps_all c.args.on.now c.settle.new.self c.settle.ensures.keeps) c.settle.ensures.rests c.settle.ensures.blocks (λ x h. g.met.B.Blocks.covers_told c.settle.new.self x h) (λ h. g.met.B.Blocks.one_stays c.args.on.now h) (λ told x ne r. (g.met.B.Blocks.live c.args.on.now x told ne r).2) c.args.from c.args.to c.args.entries c.requires.may c.settle.ensures.known c.requires.ready

pub returns-in-Err-clause-leaves : goal.returns-in-Err-clause-leaves
returns-in-Err-clause-leaves g c = record {
  from_is = (c.settle.ensures.known c.args.from c.requires.ready.from_owned.is_pinned).bytes;
  to_is = (c.settle.ensures.known c.args.to c.requires.ready.to_owned.is_pinned).bytes;
}

pub returns-in-Err-clause-entries : goal.returns-in-Err-clause-entries
returns-in-Err-clause-entries g c = entries_kept c.args.entries c.settle.ensures.rests (c.settle.ensures.known c.args.entries c.requires.ready.held.is_pinned)

pub returns-in-Ok-clause-sealed : goal.returns-in-Ok-clause-sealed
returns-in-Ok-clause-sealed g c = λ told b r. (c.in-Ok.ensures.sealed told b).1 r
