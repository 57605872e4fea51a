use Rattle.std.proofs.Common.{⊎_elim, subst}
use Rattle.std.proofs.lemmas.Bool.{cases_eq}
use Rattle.fo_tree.proofs.Alikes.{alike_told, alike_linked, keeps_trees}
use Rattle.fo_tree.proofs.laws.may_show_linked.Goals as goal

pub returns : goal.returns
returns g c = alike_told (λ image is.
    let on = c.args.before.now in
    let s = g.B.Blocks.state on in
    let at = c.args.at in
    let told = (g.met.B.Blocks.keeps_all on c.args.after.now c.requires.keeps).still_tells.0 (g.met.B.Blocks.told c.args.after.now image is) in
    let present = g.met.B.Blocks.present on told in
    let linked = c.requires.linked told in
    alike_linked {s = s} {generation = c.args.source.now.ways.generation} c.args.new.now.ways.generation told
    (record {
      super_at = λ old was. g.met.B.Blocks.super_stands on (g.met.B.Blocks.told on old was);
      each = λ old was. g.met.B.Blocks.placed on old was;
    })
    present
    (g.met.B.Blocks.ranked on s.now present)
    (⊎_elim
    (λ one h. g.met.B.Blocks.one_stays on (subst (λ y. s.covered y) one h))
    (λ ne. (g.met.B.Blocks.live on at told ne linked.in_tree).2)
    (cases_eq at 1))
    c.requires.entry linked
    (keeps_trees c.args.source.now.ways.generation c.args.source.now.ways.limit c.args.new.now.ways.generation c.args.new.now.ways.limit c.requires.over.least c.requires.now.least c.requires.alike))
