use Rattle.std.proofs.Common.{ℕ, subst, sym, ◌∙◌}
use Rattle.std.proofs.Common.{map}
use Rattle.fo_arch_hash.specs.Batch.{kept}
use Rattle.fo_arch_walk.proofs.Beside.{none_found}
use Rattle.fo_arch_walk.specs.Pieces.{IsApartFrom}
use Rattle.fo_arch_walk.proofs.siblings.is_wanted.Goals as goal

pub returns-clause-apart : goal.returns-clause-apart
returns-clause-apart c = λ yes. subst (λ (k : ℕ). IsApartFrom c.args.child.at k (map kept c.args.pieces.now)) c.arena_code-code.ensures (none_found c.args.child.at c.arena_code-code.result c.args.pieces.now (sym c.has_piece.ensures ∙ c.if-has_piece.false))
