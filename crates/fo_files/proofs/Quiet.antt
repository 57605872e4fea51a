-- Calls that leave no block to be written but by settling.
use Rattle.std.proofs.Common.{ℕ, []}
use Rattle.fo_ports.specs.State.{State, KeepsAll, Looks, Rests, none}
use Rattle.fo_ports.specs.Sources.{Dirties}
use Rattle.fo_dirties.proofs.Adding.{dirties_none}
use Rattle.fo_dirties.proofs.Dirtied.{dirties_rests}
use Rattle.fo_dirties.proofs.Putting.{dirties_at_once, dirties_looks}

pub looks_quiet : {s u : State} → KeepsAll s u → Looks s u → Dirties 0 none s u
looks_quiet all looks = dirties_none 0 (dirties_looks all looks)

pub rests_quiet : {s u : State} → KeepsAll s u → Rests s u → Dirties 0 none s u
rests_quiet {s = s} {u = u} all rests = dirties_none 0 (dirties_rests s u all rests)

pub once_quiet : {s : State} {n : ℕ} → Dirties n none s s
once_quiet {s = s} {n = n} = dirties_none n (dirties_at_once s [])
