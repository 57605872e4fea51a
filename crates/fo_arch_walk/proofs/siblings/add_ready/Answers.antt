use Rattle.std.proofs.Common.{List, map, sym, ◌∙◌, subst}
use Rattle.fo_arch_hash.specs.Batch.{kept}
use Rattle.fo_arch_hash.specs.declared.types.Piece.{Piece}
use Rattle.fo_arch_walk.specs.Pieces.{IsPiece}
use Rattle.fo_arch_walk.specs.Siblings.{Batching}
use Rattle.fo_arch_walk.specs.Spots.{arena_code}
use Rattle.fo_arch_walk.proofs.Opening.{open_looks}
use Rattle.fo_arch_walk.proofs.Beside.{batching_looks, batching_push, piece_made, apart_along, finds_none}
use Rattle.fo_arch_walk.proofs.siblings.add_ready.Goals as goal

pub returns-then-is_some-clause-batching : goal.returns-then-is_some-clause-batching
returns-then-is_some-clause-batching g c =
    batching_looks c.args.done.now c.args.root c.args.pieces.now.items (g.met.B.Blocks.keeps_all c.args.on.now c.look.new.on c.in_ok-next.ensures.keeps) c.in_ok-next.ensures.looks c.requires.batching

pub returns-clause-batching : goal.returns-clause-batching
returns-clause-batching g c =
    let all = g.met.B.Blocks.keeps_all c.args.on.now c.look.new.on c.in_ok-next.ensures.keeps in
    let s = g.B.Blocks.state c.look.new.on in
    let p = c.in_ok-piece.piece in
    let is_form = finds_none c.args.done.now (s.now c.args.child.at) c.args.child c.look.new.form c.in_ok-next.next (sym c.is_some.ensures ∙ c.if-is_some.false) c.in_ok-next.ensures.finds in
    let made : IsPiece c.args.done.now s c.args.root p = piece_made c.args.child c.look.new.form p (open_looks c.args.done.now c.args.root c.args.child all c.in_ok-next.ensures.looks c.requires.open) is_form c.in_ok-piece.ensures.0 c.in_ok-piece.ensures.1 c.in_ok-piece.ensures.2 in
    let still = batching_looks c.args.done.now c.args.root c.args.pieces.now.items all c.in_ok-next.ensures.looks c.requires.batching in
    subst (λ (ps : List Piece). Batching c.args.done.now s c.args.root ps) (sym c.in_ok-add_piece.ensures)
    (batching_push p still made (apart_along c.args.child.at (arena_code c.args.child.kind) p.at p.kind (map kept c.args.pieces.now.items) c.in_ok-piece.ensures.0 c.in_ok-piece.ensures.1 c.requires.apart))
