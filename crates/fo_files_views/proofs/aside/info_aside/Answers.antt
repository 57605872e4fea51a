use Rattle.std.proofs.Common.{inl, sym, ap, subst, ◌∙◌, Ok}
use Rattle.fo_world.specs.Fits.{InfoFits}
use Rattle.fo_files_views.proofs.Beside.{info_gone, info_root, root_fits}
use Rattle.fo_files_views.proofs.aside.info_aside.Goals as goal

pub returns-then-not-is_dated_root-clause-told : goal.returns-then-not-is_dated_root-clause-told
returns-then-not-is_dated_root-clause-told c = inl (λ w none. info_gone w c.args.at.now none c.requires.aside (sym c.is_dated_root.ensures ∙ c.if-not-is_dated_root.true))

pub returns-in-Ok-clause-fits : goal.returns-in-Ok-clause-fits
returns-in-Ok-clause-fits c = subst InfoFits (sym c.in-Ok.ensures.is) (root_fits c.args.at.now)

pub returns-in-Ok-clause-told : goal.returns-in-Ok-clause-told
returns-in-Ok-clause-told c = λ w none. info_root w c.args.at.now none c.requires.aside (sym c.is_dated_root.ensures ∙ c.if-not-is_dated_root.false) ∙ ap (λ i. Ok (i, w)) (sym c.in-Ok.ensures.is)
