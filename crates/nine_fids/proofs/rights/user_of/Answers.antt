use Rattle.nine_fids.proofs.Userly.{known_name, none_user}
use Rattle.std.proofs.Common.{◌∙◌, sym}
use Rattle.nine_fids.proofs.rights.user_of.Goals as goal

pub returns-then-known-clause-fits : goal.returns-then-known-clause-fits
returns-then-known-clause-fits c = rw c.in_ok-copy.ensures (known_name c.args.users.now c.args.name.now c.requires (sym c.known.ensures ∙ c.if-known.true))

pub returns-clause-fits : goal.returns-clause-fits
returns-clause-fits c = rw c.in_ok-copy_of.ensures none_user
