use Rattle.std.proofs.Common.{◌/◌, sym, subst}
use Rattle.std.proofs.lemmas.Result.{err_from_is_err_and}
use Rattle.fo_vac_walk.specs.Walk.{entry_at, FillsLeaf, Leading}
use Rattle.fo_vac_walk.proofs.Leaves.{entry_none, entry_of_data, entry_given}
use Rattle.fo_vac_walk.proofs.source.Source.entry.Goals as goal

pub returns-in_err-found-clause-held : goal.returns-in_err-found-clause-held
returns-in_err-found-clause-held g c = λ h w told is.
    let p = err_from_is_err_and c.from_residual.result c.from_residual.ensures.1 in
    rw (p.1, p.2) (c.in_err-found.ensures.held h w told is)

pub returns-in_default-clause-held : goal.returns-in_default-clause-held
returns-in_default-clause-held g c = λ h w told is.
    let s = c.args.self.now in
    let fills = subst (FillsLeaf h w s.holder s.entry (c.args.j / 204) c.leaf.new.into) c.in_default.is (c.in_ok-found.ensures.held h w told is) in
    subst (λ e. Leading h w s.holder (entry_at h w c.args.j) e c.none.result.holder) (sym c.none.ensures) (entry_none h w s.holder s.entry c.args.j c.none.result.holder c.leaf.new.into fills)

pub returns-then-not-self-clause-held : goal.returns-then-not-self-clause-held
returns-then-not-self-clause-held g c = λ h w told is.
    let s = c.args.self.now in
    let fills = subst (FillsLeaf h w s.holder s.entry (c.args.j / 204) c.leaf.new.into) c.in-Some.is (c.in_ok-found.ensures.held h w told is) in
    subst (λ e. Leading h w s.holder (entry_at h w c.args.j) e c.none-then-not-self.result.holder) (sym c.none-then-not-self.ensures)
    (entry_of_data h w s.holder s.entry c.args.j c.none-then-not-self.result.holder c.in-Some.at c.leaf.new.into c.if-not-self.true fills)

pub returns-clause-held : goal.returns-clause-held
returns-clause-held g c = λ h w told is.
    let s = c.args.self.now in
    let fills = subst (FillsLeaf h w s.holder s.entry (c.args.j / 204) c.leaf.new.into) c.in-Some.is (c.in_ok-found.ensures.held h w told is) in
    entry_given h w s.holder s.entry c.args.j c.in-Some.at c.leaf.new.into c.if-not-self.false fills c.source_in.result c.source_in.ensures
