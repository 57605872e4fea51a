use Rattle.std.proofs.Common.{inl, inr, List, refl, sym, subst}
use Rattle.std.proofs.lemmas.Result.{err_from_is_err_and}
use Rattle.fo_image.specs.declared.types.ArenaLine.{ArenaLine}
use Rattle.venti_store.specs.Arena.{lines_of, PutsLine}
use Rattle.fo_arch.proofs.Putting.{refused_same, refused_later}
use Rattle.fo_arch.proofs.Storing.{named_same, put_bytes_more, stores_none, forms_grow}
use Rattle.fo_arch.proofs.Finishing.{Rooted, rooted_more, rooted_named, rooted_held, rooted_bytes, rooted_since, finished_tree}
use Rattle.fo_arch.proofs.archive.Archive.finish.Goals as goal

pub returns-in_err-score-clause-refused : goal.returns-in_err-score-clause-refused
returns-in_err-score-clause-refused g c =
    let p = err_from_is_err_and c.from_residual.result c.from_residual.ensures.1 in
    rw (p.1, p.2) (record {
      bytes = c.root_bytes-bytes.result;
      root = c.root_bytes-bytes.ensures.root;
      puts = inl (c.in_err-score.ensures.lines, c.in_err-score.ensures.refused);
      told = λ stored synced k.
          let x = c.in_err-score.ensures.keeps stored synced k in
          refused_same 16 c.root_bytes-bytes.result c.args.arena.now.shelf c.put.new.self.shelf stored synced _ _ c.in_err-score.ensures.lines x.0 x.1;
    })

pub returns-in_err-score-clause-keeps : goal.returns-in_err-score-clause-keeps
returns-in_err-score-clause-keeps g c stored synced k =
    let p = err_from_is_err_and c.from_residual.result c.from_residual.ensures.1 in
    rw p.1 (stores_none _ c.args.arena.now.shelf c.put.new.self.shelf stored synced _ _ (λ at kind. refl) k.count c.in_err-score.ensures.lines (c.in_err-score.ensures.keeps stored synced k).0 (c.in_err-score.ensures.moments stored synced k))

pub returns-in_err-settle-clause-refused : goal.returns-in_err-settle-clause-refused
returns-in_err-settle-clause-refused g c =
    let p = err_from_is_err_and c.from_residual-in_err-settle.result c.from_residual-in_err-settle.ensures.1 in
    rw (p.1, p.2) (record {
      bytes = c.root_bytes-bytes.result;
      root = c.root_bytes-bytes.ensures.root;
      puts = inr (subst (λ (ls : List ArenaLine). PutsLine 16 c.root_bytes-bytes.result (lines_of c.args.arena.now.shelf) ls) (sym c.in_err-settle.ensures.lines) c.in_ok-score.ensures.lines, c.in_err-settle.ensures.fault);
      told = λ stored synced k.
          let put = c.in_ok-score.ensures.keeps stored synced k in
          refused_later 16 c.root_bytes-bytes.result c.settle.new.arena.shelf stored put.0 synced _ _ (put_bytes_more 16 c.root_bytes-bytes.result (lines_of c.args.arena.now.shelf) stored put.0 put.1) (c.in_err-settle.ensures.keeps put.0 synced put.2) c.in_err-settle.ensures.fault;
    })

pub returns-in_err-settle-clause-named : goal.returns-in_err-settle-clause-named
returns-in_err-settle-clause-named g c named =
    let r : Rooted c.root_bytes-bytes.result (lines_of c.args.arena.now.shelf) (lines_of c.put.new.self.shelf) (lines_of c.settle.new.arena.shelf) = record { line = c.in_ok-score.ensures.lines; same = c.in_err-settle.ensures.lines } in
    named_same (λ at kind. refl) (rooted_more r) named

pub returns-in_err-settle-clause-lines : goal.returns-in_err-settle-clause-lines
returns-in_err-settle-clause-lines g c =
    let r : Rooted c.root_bytes-bytes.result (lines_of c.args.arena.now.shelf) (lines_of c.put.new.self.shelf) (lines_of c.settle.new.arena.shelf) = record { line = c.in_ok-score.ensures.lines; same = c.in_err-settle.ensures.lines } in
    rooted_more r

pub returns-in_err-settle-clause-keeps : goal.returns-in_err-settle-clause-keeps
returns-in_err-settle-clause-keeps g c stored synced k =
    let r : Rooted c.root_bytes-bytes.result (lines_of c.args.arena.now.shelf) (lines_of c.put.new.self.shelf) (lines_of c.settle.new.arena.shelf) = record { line = c.in_ok-score.ensures.lines; same = c.in_err-settle.ensures.lines } in
    let put = c.in_ok-score.ensures.keeps stored synced k in
    let p = err_from_is_err_and c.from_residual-in_err-settle.result c.from_residual-in_err-settle.ensures.1 in
    rw p.1 (record {
      held = put.0;
      more = rooted_bytes r stored put.0 put.1;
      keeps = c.in_err-settle.ensures.keeps put.0 synced put.2;
      since = rooted_since r stored put.0 synced k.count put.2.count put.1 (c.in_ok-score.ensures.moments stored synced k) (c.in_err-settle.ensures.moments put.0 synced put.2);
      forms = λ image all f. forms_grow image (λ at kind. refl) (rooted_more r) (rooted_bytes r stored put.0 put.1) k.count f;
    })

pub returns-clause-score : goal.returns-clause-score
returns-clause-score g c =
    let r : Rooted c.root_bytes-bytes.result (lines_of c.args.arena.now.shelf) (lines_of c.put.new.self.shelf) (lines_of c.settle.new.arena.shelf) = record { line = c.in_ok-score.ensures.lines; same = c.in_ok-settle.ensures.lines } in
    record {
      bytes = c.root_bytes-bytes.result;
      root = c.root_bytes-bytes.ensures.root;
      line = subst (λ (ls : List ArenaLine). PutsLine 16 c.root_bytes-bytes.result (lines_of c.args.arena.now.shelf) ls) (sym c.in_ok-settle.ensures.lines) c.in_ok-score.ensures.lines;
      hash = sym c.in_ok-score.ensures.score.0;
      real = c.in_ok-score.ensures.score.1;
      named = rooted_named r c.in_ok-score.score c.in_ok-score.ensures.score.0;
    }

pub returns-clause-named : goal.returns-clause-named
returns-clause-named g c named =
    let r : Rooted c.root_bytes-bytes.result (lines_of c.args.arena.now.shelf) (lines_of c.put.new.self.shelf) (lines_of c.settle.new.arena.shelf) = record { line = c.in_ok-score.ensures.lines; same = c.in_ok-settle.ensures.lines } in
    named_same (λ at kind. refl) (rooted_more r) named

pub returns-clause-lines : goal.returns-clause-lines
returns-clause-lines g c =
    let r : Rooted c.root_bytes-bytes.result (lines_of c.args.arena.now.shelf) (lines_of c.put.new.self.shelf) (lines_of c.settle.new.arena.shelf) = record { line = c.in_ok-score.ensures.lines; same = c.in_ok-settle.ensures.lines } in
    rooted_more r

pub returns-clause-keeps : goal.returns-clause-keeps
returns-clause-keeps g c stored synced k =
    let r : Rooted c.root_bytes-bytes.result (lines_of c.args.arena.now.shelf) (lines_of c.put.new.self.shelf) (lines_of c.settle.new.arena.shelf) = record { line = c.in_ok-score.ensures.lines; same = c.in_ok-settle.ensures.lines } in
    let put = c.in_ok-score.ensures.keeps stored synced k in
    let done = c.in_ok-settle.ensures.keeps put.0 synced put.2 in
    record {
      held = put.0;
      more = rooted_bytes r stored put.0 put.1;
      keeps = done.0;
      settled = done.1;
      since = rooted_since r stored put.0 synced k.count put.2.count put.1 (c.in_ok-score.ensures.moments stored synced k) (c.in_ok-settle.ensures.moments put.0 synced put.2);
      forms = λ image f. forms_grow image (λ at kind. refl) (rooted_more r) (rooted_bytes r stored put.0 put.1) k.count f;
      bytes = c.root_bytes-bytes.result;
      root = c.root_bytes-bytes.ensures.root;
      holds_root = rooted_held r stored put.0 c.in_ok-score.score c.in_ok-score.ensures.score.0 k.count put.1;
      archive = λ arena device image kept same read f.
          finished_tree c.args.self.now arena device image kept c.settle.new.arena.shelf put.0 c.in_ok-score.score.0 c.root_bytes-bytes.result same read
          (forms_grow image (λ at kind. refl) (rooted_more r) (rooted_bytes r stored put.0 put.1) k.count f) c.root_bytes-bytes.ensures.root
          (rooted_held r stored put.0 c.in_ok-score.score c.in_ok-score.ensures.score.0 k.count put.1);
    }
