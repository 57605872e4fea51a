use Rattle.std.proofs.Common.{subst}
use Rattle.fo_dir_plain.specs.Places.{IsPlace}
use Rattle.fo_dir_plain.proofs.Listing.{taken_out}
use Rattle.fo_dir_plain.proofs.edits.remove.Goals as goal

pub returns-clause-removed : goal.returns-clause-removed
returns-clause-removed c = taken_out (subst (λ rs. IsPlace c.args.name.now rs c.in-Some.i) c.deref.ensures.value c.in-Some.ensures) c.remove.ensures.items
