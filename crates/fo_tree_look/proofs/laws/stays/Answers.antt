use Rattle.fo_tree_look.proofs.Still.{Says, part_prepared, source_prepared, top_stays, address_kept, held_kept, blocks_back, blocks_on, over_stays}
use Rattle.fo_tree_look.proofs.laws.stays.Goals as goal

pub returns-clause-over : goal.returns-clause-over
returns-clause-over g c = λ still.
    let a = g.B.Blocks.state c.args.before.now in
    let b = g.B.Blocks.state c.args.after.now in
    let s = c.args.source.now in
    over_stays a b s.tree s.kept.items s.limit (g.met.B.Blocks.keeps_all c.args.before.now c.args.after.now c.requires.keeps) c.requires.over
    (λ told. record {
      placed = g.met.B.Blocks.placed c.args.before.now a.now (g.met.B.Blocks.present c.args.before.now told);
      one = g.met.B.Blocks.one_place c.args.before.now;
      super_stands = g.met.B.Blocks.super_stands c.args.before.now told;
      labelled = λ at p other stands. (g.met.B.Blocks.labelled c.args.before.now at p told other stands).1;
      active = (g.met.B.Blocks.active c.args.before.now).0;
    })
    still

pub returns-clause-leaves : goal.returns-clause-leaves
returns-clause-leaves g c = λ still told.
    let a = g.B.Blocks.state c.args.before.now in
    let b = g.B.Blocks.state c.args.after.now in
    let s = c.args.source.now in
    let all = g.met.B.Blocks.keeps_all c.args.before.now c.args.after.now c.requires.keeps in
    let says : Says a = record {
      placed = g.met.B.Blocks.placed c.args.before.now a.now (g.met.B.Blocks.present c.args.before.now told);
      one = g.met.B.Blocks.one_place c.args.before.now;
      super_stands = g.met.B.Blocks.super_stands c.args.before.now told;
      labelled = λ at p other stands. (g.met.B.Blocks.labelled c.args.before.now at p told other stands).1;
      active = (g.met.B.Blocks.active c.args.before.now).0;
    } in (
      λ i. (address_kept a b s.tree s.kept.items s.limit all c.requires.over told says (still told) i, held_kept a b s.tree s.kept.items s.limit all c.requires.over told says (still told) i),
      λ at. (blocks_back a b s.tree s.kept.items s.limit all c.requires.over told says (still told) at, blocks_on a b s.tree s.kept.items s.limit all c.requires.over told says (still told) at),
    )

pub returns-clause-still_current : goal.returns-clause-still_current
returns-clause-still_current g c = top_stays (g.B.Blocks.state c.args.before.now) (g.B.Blocks.state c.args.after.now) c.args.source.now.tree (g.met.B.Blocks.keeps_all c.args.before.now c.args.after.now c.requires.keeps)

pub returns-clause-still_prepared : goal.returns-clause-still_prepared
returns-clause-still_prepared g c = λ ready o n was.
    source_prepared c.args.source.now.tree c.args.source.now.kept.items (g.B.Blocks.state c.args.before.now) (g.B.Blocks.state c.args.after.now) (g.met.B.Blocks.keeps_all c.args.before.now c.args.after.now c.requires.keeps) ready c.args.source.now.limit o n was

pub returns-clause-prepared_within : goal.returns-clause-prepared_within
returns-clause-prepared_within g c = λ o n p m was from to. (part_prepared p m was from to, was.end)
