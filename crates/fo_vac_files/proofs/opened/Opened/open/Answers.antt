use Rattle.std.proofs.Common.{◌∙◌, sym, subst}
use Rattle.std.proofs.lemmas.Result.{err_from_is_err_and}
use Rattle.fo_vac_open.specs.declared.types.Archived.{Archived}
use Rattle.fo_vac_open.specs.Open.{HasArchive}
use Rattle.fo_vac_walk.specs.Walk.{StandsIn}
use Rattle.venti_store.specs.Arena.{lines_of}
use Rattle.venti_store.specs.declared.shelf.Shelf.{Shelf}
use Rattle.fo_vac_files.proofs.opened.Opened.open.Goals as goal

pub opened_as-opened-requires-clause-root : goal.opened_as-opened-requires-clause-root
opened_as-opened-requires-clause-root g c = c.in_ok-found.ensures.hashes.root.spelled.holds

pub opened_as-opened-requires-clause-top : goal.opened_as-opened-requires-clause-top
opened_as-opened-requires-clause-top g c = c.in_ok-found.ensures.hashes.top.spelled.holds

pub returns-in_err-found-clause-held : goal.returns-in_err-found-clause-held
returns-in_err-found-clause-held g c = λ stored synced k.
    let p = err_from_is_err_and c.from_residual.result c.from_residual.ensures.1 in
    rw (p.1, p.2) (c.in_err-found.ensures.held stored synced k)

pub returns-in_err-found-clause-only : goal.returns-in_err-found-clause-only
returns-in_err-found-clause-only g c = λ stored synced a k has.
    let p = err_from_is_err_and c.from_residual.result c.from_residual.ensures.1 in
    rw (p.1, p.2) (c.in_err-found.ensures.only stored synced a k has)

pub returns-clause-block : goal.returns-clause-block
returns-clause-block g c =
    let e = c.opened_as-opened.ensures in
    let one = subst (λ (s : Shelf). StandsIn (lines_of s) 0 c.in_ok-found.found.root.top.0 17 c.block_of-holder.result) c.in_ok-found.ensures.shelf c.block_of-holder.ensures in
    let two = subst (λ (a : Archived). StandsIn (lines_of c.args.arena.now.shelf) 0 a.root.top.0 17 c.block_of-holder.result) (sym e.found) one in
    let at = StandsIn (lines_of c.args.arena.now.shelf) 0 c.opened_as-opened.result.found.root.top.0 17 in
    (subst at (sym e.block.0) two, subst at (sym e.block.1) two)

pub returns-clause-held : goal.returns-clause-held
returns-clause-held g c = λ stored synced k.
    subst (HasArchive (lines_of c.args.arena.now.shelf) stored c.args.score.now.0) (sym c.opened_as-opened.ensures.found) (c.in_ok-found.ensures.held stored synced k)

pub returns-clause-only : goal.returns-clause-only
returns-clause-only g c = λ stored synced a k has. c.opened_as-opened.ensures.found ∙ c.in_ok-found.ensures.only stored synced a k has
