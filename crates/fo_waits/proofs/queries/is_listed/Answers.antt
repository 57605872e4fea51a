use Rattle.std.proofs.Common.{◌≡◌, ◌↔◌, Bool, true, sym, subst}
use Rattle.fo_waits.specs.Listed.{Clears}
use Rattle.fo_waits.proofs.Listing.{any_clears}
use Rattle.fo_waits.proofs.queries.is_listed.Goals as goal

pub returns : goal.returns
returns c = subst (λ (b : Bool). (b ≡ true) ↔ Clears c.args.list.now c.args.at c.args.i) (sym c.any_listed.ensures) (any_clears c.args.at c.args.i c.args.list.now)
