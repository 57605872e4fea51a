use Rattle.std.proofs.Common.{◌∙◌, ap, Some}
use Rattle.fo_vacput.proofs.Names.{name_parts}
use Rattle.fo_vacput.proofs.name.times_of.Goals as goal

pub returns-in_err-time : goal.returns-in_err-time
returns-in_err-time c = λ epoch time le lt e.
    let first = c.in_ok-rest.ensures _ (e ∙ name_parts epoch time le lt) in
    let read = c.in_ok-epoch.ensures epoch _ le first in
    let second = c.in_ok-rest-2.ensures _ read.1 in
    absurd (c.in_err-time.ensures time _ lt second)

pub returns : goal.returns
returns c = λ epoch time le lt e.
    let first = c.in_ok-rest.ensures _ (e ∙ name_parts epoch time le lt) in
    let read = c.in_ok-epoch.ensures epoch _ le first in
    let second = c.in_ok-rest-2.ensures _ read.1 in
    let last = c.in_ok-time.ensures time _ lt second in
    ap (λ p. Some p) cc
