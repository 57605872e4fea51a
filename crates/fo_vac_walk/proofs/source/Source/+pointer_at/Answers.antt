use Rattle.std.proofs.Common.{◌≡◌, ◌-◌, ◌/◌, suc, sym, ◌∙◌, subst, arith}
use Rattle.std.proofs.lemmas.Result.{err_from_is_err_and}
use Rattle.fo_vac_walk.specs.Walk.{Found}
use Rattle.fo_vac_walk.proofs.Blocks.{still_told}
use Rattle.fo_vac_walk.proofs.Walks.{nil_found, way_spoils, next_found, pointers_spoil}
use Rattle.fo_vac_walk.proofs.source.Source.+pointer_at.Goals as goal

pub returns-in_err-above-clause-held : goal.returns-in_err-above-clause-held
returns-in_err-above-clause-held g t c = λ h w told is.
    let p = err_from_is_err_and c.from_residual.result c.from_residual.ensures.1 in
    rw (p.1, p.2) (c.in_err-above.ensures.held h w told is)

pub returns-then-is_nil-clause-held : goal.returns-then-is_nil-clause-held
returns-then-is_nil-clause-held g t c = λ h w told is.
    let e = c.args.self.now.entry in
    let more : suc (c.args.down - 1) ≡ c.args.down = omega arith in
    subst (λ n. Found h w c.args.self.now.holder e n c.args.k c.in_ok-above.above) more
    (nil_found h w c.args.self.now.holder e (c.args.down - 1) c.args.k c.in_ok-above.above (c.in_ok-above.ensures.held h w told is) (sym c.is_nil.ensures ∙ c.if-is_nil.true))

pub returns-in_err-got-clause-held : goal.returns-in_err-got-clause-held
returns-in_err-got-clause-held g t c = λ h w told is.
    let p = err_from_is_err_and c.from_residual-in_err-got.result c.from_residual-in_err-got.ensures.1 in
    let later = still_told h _ _ _ _ c.in_ok-above.ensures.shelf c.in_ok-above.ensures.kept told in
    rw (p.1, p.2) (way_spoils h w c.args.self.now.holder c.args.self.now.entry (c.args.down - 1) (c.args.k / 409) c.in_ok-above.above c.kind_number-kind.result
    (c.in_ok-above.ensures.held h w told is) (sym c.is_nil.ensures ∙ c.if-is_nil.false) c.kind_number-kind.ensures c.in_err-got.field-0.0 (c.in_err-got.ensures.held h later))

pub returns-in_err-spot-clause-held : goal.returns-in_err-spot-clause-held
returns-in_err-spot-clause-held g t c = λ h w told is.
    let p = err_from_is_err_and c.from_residual-in_err-spot.result c.from_residual-in_err-spot.ensures.1 in
    let later = still_told h _ _ _ _ c.in_ok-above.ensures.shelf c.in_ok-above.ensures.kept told in
    let deep = c.requires in
    let inner : c.args.self.now.entry.depth - (c.args.down - 1) ≡ suc (c.args.self.now.entry.depth - c.args.down) = omega (arith, deep) in
    rw (p.1, p.2) (pointers_spoil h w c.args.self.now.holder c.args.self.now.entry (c.args.down - 1) (c.args.self.now.entry.depth - c.args.down) c.args.k c.in_ok-above.above c.kind_number-kind.result c.in_ok-got.got c.in_err-spot.field-0.0
    (c.in_ok-above.ensures.held h w told is) (sym c.is_nil.ensures ∙ c.if-is_nil.false) c.kind_number-kind.ensures inner (c.in_ok-got.ensures.held h later) c.in_err-spot.ensures.0 c.in_err-spot.ensures.1)

pub returns-clause-held : goal.returns-clause-held
returns-clause-held g t c = λ h w told is.
    let later = still_told h _ _ _ _ c.in_ok-above.ensures.shelf c.in_ok-above.ensures.kept told in
    let deep = c.requires in
    let inner : c.args.self.now.entry.depth - (c.args.down - 1) ≡ suc (c.args.self.now.entry.depth - c.args.down) = omega (arith, deep) in
    let more : suc (c.args.down - 1) ≡ c.args.down = omega arith in
    subst (λ n. Found h w c.args.self.now.holder c.args.self.now.entry n c.args.k c.in_ok-spot.spot) more
    (next_found h w c.args.self.now.holder c.args.self.now.entry (c.args.down - 1) (c.args.self.now.entry.depth - c.args.down) c.args.k c.in_ok-above.above c.in_ok-spot.spot c.kind_number-kind.result c.in_ok-got.got
    (c.in_ok-above.ensures.held h w told is) (sym c.is_nil.ensures ∙ c.if-is_nil.false) c.kind_number-kind.ensures inner (c.in_ok-got.ensures.held h later) c.in_ok-spot.ensures.0 c.in_ok-spot.ensures.1)
