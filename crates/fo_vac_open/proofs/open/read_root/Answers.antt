use Rattle.std.proofs.Common.{◌∙◌, sym, subst}
use Rattle.fo_vacput.specs.Vac.{SpellsVacRoot}
use Rattle.fo_vac_open.proofs.Once.{held_once}
use Rattle.fo_vac_open.proofs.open.read_root.Goals as goal

pub returns-in-Ok-clause-held : goal.returns-in-Ok-clause-held
returns-in-Ok-clause-held g c = λ stored synced k.
    record { bytes = c.get.new.into.items; held = c.in_default.ensures.held stored synced k; spelled = subst (SpellsVacRoot c.in-Ok.root) c.deref.ensures.value c.in-Ok.ensures.found }

pub returns-clause-held : goal.returns-clause-held
returns-clause-held g c = λ stored synced k.
    record { bytes = c.get.new.into.items; held = c.in_default.ensures.held stored synced k; none = λ root s. c.in-Err-read_vac_root.ensures.refused.1 root (subst (SpellsVacRoot root) (sym c.deref.ensures.value) s) }

pub returns-in-Ok-clause-only : goal.returns-in-Ok-clause-only
returns-in-Ok-clause-only g c = λ stored synced root k h.
    let same = held_once c.args.arena.now.shelf stored c.args.score.now.0 16 h.bytes c.get.new.into.items h.held (c.in_default.ensures.held stored synced k) in
    let spelled = subst (SpellsVacRoot root) (same ∙ sym c.deref.ensures.value) h.spelled in
    let e = c.in-Ok.ensures.only root spelled in
    cc

pub returns-clause-only : goal.returns-clause-only
returns-clause-only g c = λ stored synced root k h.
    let same = held_once c.args.arena.now.shelf stored c.args.score.now.0 16 h.bytes c.get.new.into.items h.held (c.in_default.ensures.held stored synced k) in
    c.in-Err-read_vac_root.ensures.refused.1 root (subst (SpellsVacRoot root) (same ∙ sym c.deref.ensures.value) h.spelled)
