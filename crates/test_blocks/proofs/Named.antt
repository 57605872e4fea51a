-- `adm` may be a name and a user.
use Rattle.std.proofs.Common.{arith}
use Rattle.fo_world.specs.Dated.{adm}
use Rattle.fo_world.specs.Limits.{IsName, IsUser}
use Rattle.fo_world.proofs.Texts.{user-adm}

pub named : IsName adm
named = record { some = omega arith; short = omega arith; text = user-adm.text }

pub user : IsUser adm
user = user-adm
