use Rattle.std.proofs.Common.{◌∙◌, sym, subst}
use Rattle.venti_store.specs.Held.{IsHeld}
use Rattle.venti_store.specs.Arena.{lines_of}
use Rattle.fo_vac_open.specs.Open.{SpellsTop}
use Rattle.fo_vac_open.proofs.Once.{held_once}
use Rattle.fo_vac_open.proofs.Opening.{top_held}
use Rattle.fo_vac_open.proofs.open.read_top.Goals as goal

pub returns-in-Ok-clause-held : goal.returns-in-Ok-clause-held
returns-in-Ok-clause-held g c = λ stored synced k.
    let held : IsHeld (lines_of c.args.arena.now.shelf) stored c.args.score.now.0 17 c.deref.result.now = subst (IsHeld (lines_of c.args.arena.now.shelf) stored c.args.score.now.0 17) (sym c.deref.ensures.value) (c.in-Ok.ensures.held stored synced k) in
    top_held (lines_of c.args.arena.now.shelf) stored c.args.score.now.0 c.deref.result.now held c.top_of.result c.top_of.ensures.found

pub returns-in-Ok-clause-only : goal.returns-in-Ok-clause-only
returns-in-Ok-clause-only g c = λ stored synced top k h.
    let same = held_once c.args.arena.now.shelf stored c.args.score.now.0 17 h.bytes c.get.new.into.items h.held (c.in-Ok.ensures.held stored synced k) in
    c.top_of.ensures.only top (subst (λ bytes. SpellsTop bytes top) (same ∙ sym c.deref.ensures.value) h.spelled)
