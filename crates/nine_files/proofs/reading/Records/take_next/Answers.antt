use Rattle.std.proofs.Common.{◌≡◌, true, false, Ok, Some, None, refl, sym, ap, ◌∙◌, inl, inr, ◌==◌, length}
use Rattle.std.proofs.lemmas.Result.{err_from_is_err_and}
use Rattle.std.proofs.lemmas.Bool.{not-true, not-false}
use Rattle.fo_world.specs.declared.error.FileError.TheVariants as error
use Rattle.nine_fids.specs.Told.{next_at, served}
use Rattle.nine_files.proofs.Listing.{next_refused, none_taken, not_taken, some_taken, too_small}
use Rattle.nine_files.proofs.reading.Records.take_next.Goals as goal

pub returns-in_err-info-clause-takes : goal.returns-in_err-info-clause-takes
returns-in_err-info-clause-takes g c =
    let f = c.args.files.now in
    let e = served (g.F.FileOps.whole f) (g.F.FileOps.largest f) in
    let w = g.F.FileOps.world f in
    let p = err_from_is_err_and c.from_residual.result c.from_residual.ensures.1 in
    rw (p.1, p.2) (λ h. next_refused (next_at e w c.args.at.now c.args.self.now.last) c.args.count (length c.args.self.now.bytes.items) _ _ (rw c.as_ref.ensures.value at c.in_err-info.ensures.looks.answer h))

pub returns-in_default-clause-takes : goal.returns-in_default-clause-takes
returns-in_default-clause-takes g c =
    (None, (λ h. none_taken _ _ _ ((rw c.as_ref.ensures.value at c.in_ok-info.ensures.looks.answer h) ∙ ap Ok c.in_default.is)), refl, (refl, refl))

pub returns-in_err-add-clause-takes : goal.returns-in_err-add-clause-takes
returns-in_err-add-clause-takes g c =
    let p = err_from_is_err_and c.from_residual-in_err-add.result c.from_residual-in_err-add.ensures.1 in
    rw (p.1, p.2) (λ h. inr (error.Memory, c.in_err-add.ensures.adds, tt))

pub returns-then-branch-clause-takes : goal.returns-then-branch-clause-takes
returns-then-branch-clause-takes g c =
    let f = c.args.files.now in
    let at = λ (h : g.F.FileOps.honest f). (rw c.as_ref.ensures.value at c.in_ok-info.ensures.looks.answer h) ∙ ap Ok c.in-Some.is in
    let a = rw c.if-branch.true at c.in_ok-add.ensures.adds in
    (Some c.in-Some.info, (λ h. some_taken _ _ _ c.in-Some.info (at h) (not-true _ (sym a.0))), refl, a.1)

pub returns-then-is_empty-clause-takes : goal.returns-then-is_empty-clause-takes
returns-then-is_empty-clause-takes g c =
    let f = c.args.files.now in
    let at = λ (h : g.F.FileOps.honest f). (rw c.as_ref.ensures.value at c.in_ok-info.ensures.looks.answer h) ∙ ap Ok c.in-Some.is in
    let a = rw c.if-branch.false at c.in_ok-add.ensures.adds in
    let first : (length c.add.new.self.bytes.items == 0) ≡ true = rw (← c.as_slice.ensures.value) (sym c.is_empty.ensures ∙ c.if-is_empty.true) in
    λ h. inl (too_small _ _ _ c.in-Some.info (at h) (not-false _ (sym a.0)) (ap (λ bs. length bs == 0) (sym a.1.0) ∙ first))

pub returns-clause-takes : goal.returns-clause-takes
returns-clause-takes g c =
    let f = c.args.files.now in
    let at = λ (h : g.F.FileOps.honest f). (rw c.as_ref.ensures.value at c.in_ok-info.ensures.looks.answer h) ∙ ap Ok c.in-Some.is in
    let a = rw c.if-branch.false at c.in_ok-add.ensures.adds in
    let first : (length c.add.new.self.bytes.items == 0) ≡ false = rw (← c.as_slice.ensures.value) (sym c.is_empty.ensures ∙ c.if-is_empty.false) in
    (None, (λ h. not_taken _ _ _ c.in-Some.info (at h) (not-false _ (sym a.0)) (ap (λ bs. length bs == 0) (sym a.1.0) ∙ first)), refl, a.1)
