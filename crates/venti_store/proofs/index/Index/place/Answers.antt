use Rattle.std.proofs.Common.{◌∙◌}
use Rattle.venti_store.proofs.Names.{found_name, no_name}
use Rattle.venti_store.proofs.index.Index.place.Goals as goal

pub returns-clause-found : goal.returns-clause-found
returns-clause-found c = found_name c.args.self.now.lines.items c.args.self.now.places c.args.self.now.used c.args.self.now.named _ _ _ (c.copied.ensures ∙ c.get.ensures.value)

pub returns-clause-none : goal.returns-clause-none
returns-clause-none c = no_name c.args.self.now.lines.items c.args.self.now.places c.args.self.now.found _ _ _ (c.copied.ensures ∙ c.get.ensures.value)
