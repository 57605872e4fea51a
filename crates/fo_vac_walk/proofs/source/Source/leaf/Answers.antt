use Rattle.std.proofs.Common.{◌≡◌, ◌-◌, length, sym, ◌∙◌, ap, arith}
use Rattle.std.proofs.lemmas.Result.{err_from_is_err_and}
use Rattle.fo_image.specs.Field.{zeros}
use Rattle.fo_image.specs.Format.{kind_code}
use Rattle.fo_vacput.specs.Cut.{tail_of, grown}
use Rattle.fo_vac_walk.specs.Walk.{kind_at}
use Rattle.fo_vac_walk.proofs.Blocks.{still_told}
use Rattle.fo_vac_walk.proofs.Walks.{way_spoils}
use Rattle.fo_vac_walk.proofs.Leaves.{leaf_none, leaf_some}
use Rattle.fo_vac_walk.proofs.source.Source.leaf.Goals as goal

pub returns-in_err-spot-clause-held : goal.returns-in_err-spot-clause-held
returns-in_err-spot-clause-held g c = λ h w told is.
    let p = err_from_is_err_and c.from_residual.result c.from_residual.ensures.1 in
    rw (p.1, p.2) (c.in_err-spot.ensures.held h w told is)

pub returns-then-is_nil-clause-held : goal.returns-then-is_nil-clause-held
returns-then-is_nil-clause-held g c = λ h w told is.
    leaf_none h w c.args.self.now.holder c.args.self.now.entry c.args.k c.in_ok-spot.spot c.clear.new.block is (c.in_ok-spot.ensures.held h w told is) (sym c.is_nil.ensures ∙ c.if-is_nil.true) (c.clear.ensures ∙ ap zeros c.requires)

pub returns-in_err-got-clause-held : goal.returns-in_err-got-clause-held
returns-in_err-got-clause-held g c = λ h w told is.
    let p = err_from_is_err_and c.from_residual-in_err-got.result c.from_residual-in_err-got.ensures.1 in
    let later = still_told h _ _ _ _ c.in_ok-spot.ensures.shelf c.in_ok-spot.ensures.kept told in
    let none : 0 ≡ c.args.self.now.entry.depth - c.args.self.now.entry.depth = omega arith in
    rw (p.1, p.2) (way_spoils h w c.args.self.now.holder c.args.self.now.entry c.args.self.now.entry.depth c.args.k c.in_ok-spot.spot c.kind_number-kind.result
    (c.in_ok-spot.ensures.held h w told is) (sym c.is_nil.ensures ∙ c.if-is_nil.false) (c.kind_number-kind.ensures ∙ ap (λ l. kind_code (kind_at c.args.self.now.entry.dir l)) none) c.in_err-got.field-0.0 (c.in_err-got.ensures.held h later))

pub returns-clause-held : goal.returns-clause-held
returns-clause-held g c = λ h w told is.
    let later = still_told h _ _ _ _ c.in_ok-spot.ensures.shelf c.in_ok-spot.ensures.kept told in
    leaf_some h w c.args.self.now.holder c.args.self.now.entry c.args.k c.in_ok-spot.spot c.kind_number-kind.result c.in_ok-got.got c.grow.new.into is
    (c.in_ok-spot.ensures.held h w told is) (sym c.is_nil.ensures ∙ c.if-is_nil.false) c.kind_number-kind.ensures (c.in_ok-got.ensures.held h later)
    (c.grow.ensures ∙ ap (grown (tail_of c.kind_number-kind.result) (length c.args.into.now)) c.deref.ensures.value ∙ ap (λ n. grown (tail_of c.kind_number-kind.result) n c.in_ok-got.got.bytes.items) c.requires)
