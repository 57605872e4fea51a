use Rattle.std.proofs.Common.{⊎_elim}
use Rattle.fo_tree.proofs.Plain.{plain_alike}
use Rattle.fo_tree.proofs.source.Source.link.Goals as goal

pub returns-clause-shown : goal.returns-clause-shown
returns-clause-shown g c = λ which.
    let on = c.args.on.now in
    c.link.ensures.shown (⊎_elim
    (λ plain. plain_alike c.args.self.now.ways.generation
    (record {
      told = λ image is. g.met.B.Blocks.told on image is;
      super_at = λ image is. g.met.B.Blocks.super_stands on (g.met.B.Blocks.told on image is);
      placed = λ image is. g.met.B.Blocks.placed on image is;
      few = λ image is. g.met.B.Blocks.few on image is;
      ranked = λ told. (c.requires.told told).ranked;
    })
    c.requires.over plain)
    (λ alike. alike)
    which)
