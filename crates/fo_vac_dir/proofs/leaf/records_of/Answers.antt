use Rattle.std.proofs.Common.{◌∙◌, subst}
use Rattle.std.proofs.lemmas.Result.{err_from_is_err_and}
use Rattle.fo_vac_walk.specs.Walk.{leaf_of, FillsLeaf}
use Rattle.fo_vac_dir.proofs.Records.{none_records, spoiled_by, records_given}
use Rattle.fo_vac_dir.proofs.leaf.records_of.Goals as goal

pub returns-in_err-found-clause-held : goal.returns-in_err-found-clause-held
returns-in_err-found-clause-held g c = λ h w told is lt.
    let p = err_from_is_err_and c.from_residual.result c.from_residual.ensures.1 in
    rw (p.1, p.2) (spoiled_by h w c.args.meta.now.holder c.in_err-found.field-0.0 (c.in_err-found.ensures.held h w told is))

pub returns-in_default-clause-held : goal.returns-in_default-clause-held
returns-in_default-clause-held g c = λ h w told is lt.
    let m = c.args.meta.now in
    let fills = subst (FillsLeaf h w m.holder m.entry c.args.k c.leaf.new.into) c.in_default.is (c.in_ok-found.ensures.held h w told is) in
    c.new.ensures.items ∙ none_records h (leaf_of h w c.args.k) c.leaf.new.into fills

pub returns-clause-held : goal.returns-clause-held
returns-clause-held g c = λ h w told is lt.
    let m = c.args.meta.now in
    let fills = subst (FillsLeaf h w m.holder m.entry c.args.k c.leaf.new.into) c.in-Some.is (c.in_ok-found.ensures.held h w told is) in
    records_given h w m.holder c.args.k c.in-Some.at m.entry.dir c.leaf.new.into lt fills c.records_in.result c.records_in.ensures.read
