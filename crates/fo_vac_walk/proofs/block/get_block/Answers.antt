use Rattle.std.proofs.Common.{sym, subst, inl, inr}
use Rattle.venti_store.specs.Arena.{lines_of, IsPlaceOf, IsDamaged, GetRefuses, RefusesHeld}
use Rattle.fo_vac_walk.specs.Walk.{StandsIn}
use Rattle.fo_vac_walk.proofs.Blocks.{got_bytes, lines_later}
use Rattle.fo_vac_walk.proofs.block.get_block.Goals as goal

pub returns-in-Ok-clause-held : goal.returns-in-Ok-clause-held
returns-in-Ok-clause-held g c = λ h t. record {
  bytes = got_bytes h c.args.arena.now.shelf _ c.args.spot.score.0 c.args.kind c.get.new.into.items t (c.in-Ok.ensures.held h.stored t.synced t.keeps);
  at = subst (λ ls. StandsIn ls c.args.spot.holder c.args.spot.score.0 c.args.kind c.block_at-at.result) (lines_later h _ _ _ t c.in-Ok.ensures.shelf) c.block_at-at.ensures;
}

pub returns-in-Err-Damaged-clause-held : goal.returns-in-Err-Damaged-clause-held
returns-in-Err-Damaged-clause-held g c = λ h t.
    let ls = lines_of c.args.arena.now.shelf in
    let refused : IsPlaceOf ls c.args.spot.score.0 c.args.kind c.in-Err-Damaged.at = subst (GetRefuses ls c.args.spot.score.0 c.args.kind) c.in-Err-Damaged.field-0-is c.in-Err-Damaged.ensures.refused in
    let lacks : RefusesHeld ls h.stored c.args.spot.score.0 c.args.kind c.in-Err-Damaged.field-0 = c.in-Err-Damaged.ensures.held h.stored t.synced t.keeps in
    let damaged : IsDamaged ls h.stored c.args.spot.score.0 c.args.kind = subst (RefusesHeld ls h.stored c.args.spot.score.0 c.args.kind) c.in-Err-Damaged.field-0-is lacks in
    inr (
      subst (λ other. StandsIn other c.args.spot.holder c.args.spot.score.0 c.args.kind c.in-Err-Damaged.at) (sym t.lines_are) (inl refused),
      subst (λ other. IsDamaged other h.stored c.args.spot.score.0 c.args.kind) (sym t.lines_are) damaged,
    )
