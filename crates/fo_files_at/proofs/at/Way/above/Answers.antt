use Rattle.std.proofs.Common.{◌≡◌, ◌++◌, [], ◌∷◌, sym, subst}
use Rattle.fo_files_at.proofs.Ways.{way_up}
use Rattle.fo_files_at.proofs.at.Way.above.Goals as goal

pub returns-in-Some : goal.returns-in-Some
returns-in-Some g c = record { way = λ root trail h. way_up (g.B.Blocks.state c.args.on.now) root trail c.args.self c.to.result c.in-Some.step (subst (λ xs. c.args.self.steps.items ≡ xs ++ c.in-Some.step ∷ []) (sym c.to.ensures.1) c.in-Some.ensures.items) c.to.ensures.0 h }
