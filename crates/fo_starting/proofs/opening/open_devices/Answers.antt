use Rattle.fo_starting.proofs.Exits.{after_check, may_open, shows_on}
use Rattle.fo_starting.proofs.opening.open_devices.Goals as goal

pub returns-clause-answer : goal.returns-clause-answer
returns-clause-answer g c = λ image vault shows vaults.
    let sound = c.in_default.ensures.answer image vault shows vaults in
    let outside = c.open_both.ensures.outside image vault sound.s sound.active.root (shows_on c.in_default.ensures.main shows) (shows_on c.in_default.ensures.arena vaults) (may_open image vault c.in_default.field-0 sound) in
    after_check (λ r. r.why) image vault c.in_default.field-0 c.open_both.result sound outside
