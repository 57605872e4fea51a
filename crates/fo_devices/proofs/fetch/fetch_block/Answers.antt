use Rattle.std.proofs.Common.{inr, ap, ◌∙◌, subst}
use Rattle.fo_vacput.specs.Cut.{grown, tail_of}
use Rattle.venti_store.specs.Arena.{lines_of, IsDamaged, RefusesHeld}
use Rattle.fo_devices.proofs.fetch.fetch_block.Goals as goal

pub returns-in-Ok-clause-held : goal.returns-in-Ok-clause-held
returns-in-Ok-clause-held g c = λ stored synced keeps. record { bytes = c.get.new.into.items; held = c.in-Ok.ensures.held stored synced keeps; grows = c.grow.ensures ∙ ap (λ n. grown (tail_of c.args.kind) n c.deref.result.now) c.requires.length ∙ ap (grown (tail_of c.args.kind) 8192) c.deref.ensures.value }

pub returns-in-Err-Damaged-clause-held : goal.returns-in-Err-Damaged-clause-held
returns-in-Err-Damaged-clause-held g c = λ stored synced keeps.
    let ls = lines_of c.args.arena.now.shelf in
    let lacks : RefusesHeld ls stored c.args.score.now.0 c.args.kind c.in-Err-Damaged.field-0 = c.in-Err-Damaged.ensures.held stored synced keeps in
    let damaged : IsDamaged ls stored c.args.score.now.0 c.args.kind = subst (RefusesHeld ls stored c.args.score.now.0 c.args.kind) c.in-Err-Damaged.field-0-is lacks in
    inr damaged
