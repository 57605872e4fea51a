use Rattle.std.proofs.lemmas.Bool.Decides.{Decides-eqb}
use Rattle.std.proofs.lemmas.Slice.Eq.{strip_prefix_is}
use Rattle.fo_vacput.proofs.Names.{followed}
use Rattle.fo_vacput.proofs.name.after.Goals as goal

pub returns : goal.returns
returns c = λ rest e.
    followed c.strip_prefix.result c.args.bytes.now c.args.prefix.now rest (strip_prefix_is Decides-eqb c.args.bytes.now c.args.prefix.now c.strip_prefix.result c.strip_prefix.ensures.cases) e
