use Rattle.std.proofs.Common.{◌≡◌, inl, inr, refl, sym, subst}
use Rattle.std.proofs.lemmas.Result.{err_from_is_err_and}
use Rattle.fo_vacput.specs.declared.types.VacRoot.{VacRoot}
use Rattle.venti_store.specs.Arena.{lines_of}
use Rattle.venti_store.specs.declared.shelf.Shelf.{Shelf}
use Rattle.fo_vac_open.specs.Open.{HasTop, TopLacks}
use Rattle.fo_vac_open.proofs.Opening.{still_keeps}
use Rattle.fo_vac_open.proofs.open.open_archive.Goals as goal

pub returns-in_err-root-clause-held : goal.returns-in_err-root-clause-held
returns-in_err-root-clause-held g c = λ stored synced k.
    let p = err_from_is_err_and c.from_residual.result c.from_residual.ensures.1 in
    rw (p.1, p.2) (inl (c.in_err-root.ensures.held stored synced k))

pub returns-in_err-top-clause-held : goal.returns-in_err-top-clause-held
returns-in_err-top-clause-held g c = λ stored synced k.
    let p = err_from_is_err_and c.from_residual-in_err-top.result c.from_residual-in_err-top.ensures.1 in
    let root = c.in_ok-root.ensures in
    let later = still_keeps _ _ stored synced _ _ root.shelf root.kept k in
    let lacks = subst (λ (s : Shelf). TopLacks (lines_of s) stored c.in_ok-root.root.top.0 c.in_err-top.field-0.0) root.shelf (c.in_err-top.ensures.held stored synced later) in
    rw (p.1, p.2) (inr (record { root = c.in_ok-root.root; has = root.held stored synced k; lacks = lacks }))

pub returns-clause-held : goal.returns-clause-held
returns-clause-held g c = λ stored synced k.
    let root = c.in_ok-root.ensures in
    let later = still_keeps _ _ stored synced _ _ root.shelf root.kept k in
    record {
      root = root.held stored synced k;
      top = subst (λ (s : Shelf). HasTop (lines_of s) stored c.in_ok-root.root.top.0 c.in_ok-top.top) root.shelf (c.in_ok-top.ensures.held stored synced later);
    }

pub returns-in_err-root-clause-only : goal.returns-in_err-root-clause-only
returns-in_err-root-clause-only g c = λ stored synced a k h.
    let p = err_from_is_err_and c.from_residual.result c.from_residual.ensures.1 in
    rw (p.1, p.2) (c.in_err-root.ensures.only stored synced a.root k h.root)

pub returns-in_err-top-clause-only : goal.returns-in_err-top-clause-only
returns-in_err-top-clause-only g c = λ stored synced a k h.
    let p = err_from_is_err_and c.from_residual-in_err-top.result c.from_residual-in_err-top.ensures.1 in
    let root = c.in_ok-root.ensures in
    let later = still_keeps _ _ stored synced _ _ root.shelf root.kept k in
    let same : c.in_ok-root.root ≡ a.root = root.only stored synced a.root k h.root in
    let there : HasTop (lines_of c.read_root.new.arena.shelf) stored a.root.top.0 a.top = subst (λ (s : Shelf). HasTop (lines_of s) stored a.root.top.0 a.top) (sym root.shelf) h.top in
    let top : HasTop (lines_of c.read_root.new.arena.shelf) stored c.in_ok-root.root.top.0 a.top = subst (λ (r : VacRoot). HasTop (lines_of c.read_root.new.arena.shelf) stored r.top.0 a.top) (sym same) there in
    rw (p.1, p.2) (c.in_err-top.ensures.only stored synced a.top later top)

pub returns-clause-only : goal.returns-clause-only
returns-clause-only g c = λ stored synced a k h.
    let root = c.in_ok-root.ensures in
    let later = still_keeps _ _ stored synced _ _ root.shelf root.kept k in
    let same : c.in_ok-root.root ≡ a.root = root.only stored synced a.root k h.root in
    let there : HasTop (lines_of c.read_root.new.arena.shelf) stored a.root.top.0 a.top = subst (λ (s : Shelf). HasTop (lines_of s) stored a.root.top.0 a.top) (sym root.shelf) h.top in
    let top : HasTop (lines_of c.read_root.new.arena.shelf) stored c.in_ok-root.root.top.0 a.top = subst (λ (r : VacRoot). HasTop (lines_of c.read_root.new.arena.shelf) stored r.top.0 a.top) (sym same) there in
    rw (same, c.in_ok-top.ensures.only stored synced a.top later top) refl
