use Rattle.std.proofs.Common.{rules, ◌≡◌, ◌<◌, ℕ, slice_index_or, refl}
use Rattle.nine_fids.specs.Fids.{no_fids}
use Rattle.fo_sessions.proofs.Same.{all_same}
use Rattle.fo_sessions.proofs.sessions.Sessions.new.Goals as goal

pub returns : goal.returns
returns c =
    let made = c.from_fn.ensures.items in
    let each : (i : ℕ) → i < 16 → slice_index_or c.from_fn.result i no_fids ≡ no_fids = λ i lt. let p = made.at i no_fids lt in search rules in
    let same = all_same c.from_fn.result no_fids 16 made.long each in
    rw same (rw c.new.ensures.items refl)
