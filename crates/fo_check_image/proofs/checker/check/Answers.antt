use Rattle.std.proofs.Common.{ℕ, length, sym, ◌∙◌, ap, subst}
use Rattle.std.proofs.lemmas.Result.{err_from_is_err_and}
use Rattle.fo_sound.specs.Fresh.{fresh_super, fresh_root}
use Rattle.fo_check.specs.declared.opening.Opening.{Opening}
use Rattle.fo_check_image.specs.Stage.{HasSoundTree, IsBare}
use Rattle.fo_check_image.proofs.Bare.{bare_sound, fresh_opens, fresh_bare}
use Rattle.fo_check_image.proofs.Reporting.{shown_on, opening_refuses, tree_refuses, opens_of, tree_of}
use Rattle.fo_check_image.proofs.checker.check.Goals as goal

pub returns-in_err-opening-clause-answer : goal.returns-in_err-opening-clause-answer
returns-in_err-opening-clause-answer g c image vault shows shows_vault =
    let p = err_from_is_err_and c.from_residual.result c.from_residual.ensures.1 in
    rw (p.1, p.2) (opening_refuses image vault _ (c.in_err-opening.ensures.answer image vault shows shows_vault).found)

pub returns-in_err-report-clause-answer : goal.returns-in_err-report-clause-answer
returns-in_err-report-clause-answer g c image vault shows shows_vault =
    let p = err_from_is_err_and c.from_residual-in_err-report.result c.from_residual-in_err-report.ensures.1 in
    let opens = (c.in_ok-opening.ensures.answer image vault shows shows_vault).found in
    rw (p.1, p.2) (tree_refuses image vault c.in_ok-opening.opening opens _ c.in_err-report.ensures.of_tree (c.in_err-report.ensures.answer image vault (shown_on c.in_ok-opening.ensures.main shows) opens))

pub returns-clause-answer : goal.returns-clause-answer
returns-clause-answer g c image vault shows shows_vault =
    let opens = (c.in_ok-opening.ensures.answer image vault shows shows_vault).found in
    c.in_ok-report.ensures.answer image vault (shown_on c.in_ok-opening.ensures.main shows) opens

pub returns-in_err-opening-clause-only : goal.returns-in_err-opening-clause-only
returns-in_err-opening-clause-only g c image vault report shows shows_vault r =
    let p = err_from_is_err_and c.from_residual.result c.from_residual.ensures.1 in
    rw (p.1, p.2) ((c.in_err-opening.ensures.answer image vault shows shows_vault).only (record { blocks = length image; s = r.s; root = r.active.root }) (opens_of image vault report r))

pub returns-in_err-report-clause-only : goal.returns-in_err-report-clause-only
returns-in_err-report-clause-only g c image vault report shows shows_vault r =
    let p = err_from_is_err_and c.from_residual-in_err-report.result c.from_residual-in_err-report.ensures.1 in
    let opening = c.in_ok-opening.ensures.answer image vault shows shows_vault in
    let is = opening.only (record { blocks = length image; s = r.s; root = r.active.root }) (opens_of image vault report r) in
    rw (p.1, p.2) (c.in_err-report.ensures.only image vault (shown_on c.in_ok-opening.ensures.main shows) opening.found (tree_of image vault report r c.in_ok-opening.opening is))

pub returns-in_err-opening-clause-fresh : goal.returns-in_err-opening-clause-fresh
returns-in_err-opening-clause-fresh g c image vault time shows shows_vault sizes fresh arena =
    let p = err_from_is_err_and c.from_residual.result c.from_residual.ensures.1 in
    rw (p.1, p.2) ((c.in_err-opening.ensures.answer image vault shows shows_vault).only (record { blocks = length image; s = fresh_super (length image); root = fresh_root time }) (fresh_opens image vault time sizes fresh arena))

pub returns-in_err-report-clause-fresh : goal.returns-in_err-report-clause-fresh
returns-in_err-report-clause-fresh g c image vault time shows shows_vault sizes fresh arena =
    let p = err_from_is_err_and c.from_residual-in_err-report.result c.from_residual-in_err-report.ensures.1 in
    let o : Opening = record { blocks = length image; s = fresh_super (length image); root = fresh_root time } in
    let opens = fresh_opens image vault time sizes fresh arena in
    let bare = fresh_bare image vault time sizes fresh arena in
    let opening = c.in_ok-opening.ensures.answer image vault shows shows_vault in
    let is = opening.only o opens in
    rw (p.1, p.2) (c.in_err-report.ensures.only image vault (shown_on c.in_ok-opening.ensures.main shows) opening.found (subst (λ (x : Opening). HasSoundTree image x) (sym is) (bare_sound image vault o opens bare)))

pub returns-clause-fresh : goal.returns-clause-fresh
returns-clause-fresh g c image vault time shows shows_vault sizes fresh arena =
    let o : Opening = record { blocks = length image; s = fresh_super (length image); root = fresh_root time } in
    let opens = fresh_opens image vault time sizes fresh arena in
    let bare = fresh_bare image vault time sizes fresh arena in
    let opening = c.in_ok-opening.ensures.answer image vault shows shows_vault in
    let is = opening.only o opens in
    c.in_ok-report.ensures.bare image vault (shown_on c.in_ok-opening.ensures.main shows) opening.found (subst (λ (x : Opening). IsBare image x) (sym is) bare)
    ∙ ap (λ (n : ℕ). record { blocks = n; used = 1; leaked = 0; snapshots = 0 }) opening.found.blocks
