use Rattle.std.proofs.Common.{◌<◌, length, refl, ◌∙◌, arith}
use Rattle.std.proofs.lemmas.Result.{err_from_is_err_and}
use Rattle.venti_store.specs.Arena.{lines_of}
use Rattle.venti_store.proofs.Puts.{stays_since}
use Rattle.fo_arch_walk.specs.Pieces.{IsPieceOf}
use Rattle.fo_arch.proofs.Forming.{more_stored_none, more_stored_joins, adds_more}
use Rattle.fo_arch.proofs.Growing.{more_none, more_joins}
use Rattle.fo_arch.proofs.Storing.{stores_none, stores_joins}
use Rattle.fo_arch.proofs.Putting.{put_none, put_one, put_maybe, refused_joins}
use Rattle.fo_arch.proofs.Taking.{IsAt, is_at, all_at, took_none, fresh_next, took_next, took_same}
use Rattle.fo_arch.proofs.store.store_pieces.Goals as goal

pub loop-i-init : goal.loop-i-init
loop-i-init g c =
    let shelf = c.args.arena.now.shelf in
    record {
      took = took_none c.args.hashed.now.batch.pieces.items c.args.done.now;
      more = more_stored_none c.args.done.now;
      puts = put_none c.args.hashed.now.batch.pieces.items (lines_of shelf);
      named = λ named. named;
      lines = more_none _ _ refl;
      keeps = λ stored synced k. stores_none c.args.hashed.now.batch.pieces.items shelf shelf stored synced _ _ (λ at kind. refl) k.count refl k (stays_since shelf k (g.met.A.Disk.is_newest c.args.arena.now.device));
      blocks = refl;
      later = omega arith;
    }

pub store_piece-requires-clause-fresh : goal.store_piece-requires-clause-fresh
store_piece-requires-clause-fresh g c =
    let pieces = c.args.hashed.now.batch.pieces.items in
    let lt : c.loop-i.i < length pieces = omega (arith, c.loop-i-test.true, c.len-i-end.ensures) in
    let at : IsAt pieces c.loop-i.i c.index.result.now = is_at pieces c.loop-i.i c.index.result.now lt c.index.ensures in
    fresh_next c.index.result.now at c.loop-i.invariant.took c.requires.fresh c.requires.apart

pub returns-in_err-store_piece-clause-took : goal.returns-in_err-store_piece-clause-took
returns-in_err-store_piece-clause-took g c =
    let pieces = c.args.hashed.now.batch.pieces.items in
    let lt : c.loop-i.i < length pieces = omega (arith, c.loop-i-test.true, c.len-i-end.ensures) in
    let at : IsAt pieces c.loop-i.i c.index.result.now = is_at pieces c.loop-i.i c.index.result.now lt c.index.ensures in
    let p = err_from_is_err_and c.from_residual.result c.from_residual.ensures.1 in
    rw (p.1, p.2) (record {
      n = c.loop-i.i;
      piece = c.index.result.now;
      rest = at.rest;
      is = at.is;
      took = took_same c.loop-i.invariant.took c.in_err-store_piece.ensures.noted.0 c.in_err-store_piece.ensures.noted.1;
      puts = put_maybe _ c.loop-i.invariant.puts at.is c.in_err-store_piece.ensures.puts;
      refused = c.in_err-store_piece.ensures.refused;
      told = λ stored synced k. let first = c.loop-i.invariant.keeps stored synced k in refused_joins first.more (c.in_err-store_piece.ensures.told first.held synced first.keeps);
    })

pub returns-in_err-store_piece-clause-keeps : goal.returns-in_err-store_piece-clause-keeps
returns-in_err-store_piece-clause-keeps g c stored synced k =
    let pieces = c.args.hashed.now.batch.pieces.items in
    let lt : c.loop-i.i < length pieces = omega (arith, c.loop-i-test.true, c.len-i-end.ensures) in
    let at : IsAt pieces c.loop-i.i c.index.result.now = is_at pieces c.loop-i.i c.index.result.now lt c.index.ensures in
    let first = c.loop-i.invariant.keeps stored synced k in
    stores_joins first c.loop-i.invariant.more (λ image all. all_at (IsPieceOf c.args.done.now image) pieces c.loop-i.i c.index.result.now at all) c.in_err-store_piece.ensures.lines (c.in_err-store_piece.ensures.keeps first.held synced first.keeps)

pub loop-i-preserved : goal.loop-i-preserved
loop-i-preserved g c =
    let pieces = c.args.hashed.now.batch.pieces.items in
    let lt : c.loop-i.i < length pieces = omega (arith, c.loop-i-test.true, c.len-i-end.ensures) in
    let at : IsAt pieces c.loop-i.i c.index.result.now = is_at pieces c.loop-i.i c.index.result.now lt c.index.ensures in
    let fresh = fresh_next c.index.result.now at c.loop-i.invariant.took c.requires.fresh c.requires.apart in
    record {
      took = took_next c.index.result.now at c.loop-i.invariant.took fresh c.in_ok-store_piece.ensures.noted;
      more = more_stored_joins c.loop-i.invariant.more (adds_more fresh c.in_ok-store_piece.ensures.noted.adds);
      puts = put_one c.loop-i.invariant.puts at.is c.in_ok-store_piece.ensures.puts;
      named = λ named. c.in_ok-store_piece.ensures.named (c.loop-i.invariant.named named);
      lines = more_joins c.loop-i.invariant.lines c.in_ok-store_piece.ensures.lines;
      keeps = λ stored synced k.
          let first = c.loop-i.invariant.keeps stored synced k in
          stores_joins first c.loop-i.invariant.more (λ image all. all_at (IsPieceOf c.args.done.now image) pieces c.loop-i.i c.index.result.now at all) c.in_ok-store_piece.ensures.lines (c.in_ok-store_piece.ensures.keeps first.held synced first.keeps);
      blocks = c.in_ok-store_piece.ensures.blocks ∙ c.loop-i.invariant.blocks;
      later = omega (arith, c.loop-i.invariant.later, c.in_ok-store_piece.ensures.cause.later);
    }
