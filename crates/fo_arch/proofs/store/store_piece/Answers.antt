use Rattle.std.proofs.Common.{List, ℕ, inl, inr, refl, subst}
use Rattle.std.proofs.lemmas.Result.{err_from_is_err_and}
use Rattle.fo_image.specs.declared.types.Score.{Score}
use Rattle.sha1.specs.Sha1.{sha1}
use Rattle.venti_store.specs.Arena.{lines_of, PutsLine, PutsBytes, RefusesHeld}
use Rattle.fo_arch_form.specs.Stored.{Adds}
use Rattle.fo_arch.proofs.Putting.{refused_same}
use Rattle.fo_arch.proofs.Storing.{put_more, put_named, put_bytes_more, Noted, named_same, named_adds, stores_noted, stores_put, stores_none}
use Rattle.fo_arch.proofs.store.store_piece.Goals as goal

pub returns-in_err-put_hashed-clause-keeps : goal.returns-in_err-put_hashed-clause-keeps
returns-in_err-put_hashed-clause-keeps g c stored synced k =
    stores_none _ c.args.arena.now.shelf c.put_hashed.new.self.shelf stored synced _ _ (λ at kind. refl) k.count c.in_err-put_hashed.ensures.lines
    (c.in_err-put_hashed.ensures.keeps stored synced k).0 (c.in_err-put_hashed.ensures.moments stored synced k)

pub returns-in-Ok-clause-named : goal.returns-in-Ok-clause-named
returns-in-Ok-clause-named g c named =
    let p = c.args.piece.now in
    let line : PutsLine p.kind p.bytes.items (lines_of c.args.arena.now.shelf) (lines_of c.put_hashed.new.self.shelf) = subst (λ (b : List ℕ). PutsLine p.kind b (lines_of c.args.arena.now.shelf) (lines_of c.put_hashed.new.self.shelf)) c.deref.ensures.value c.in_ok-put_hashed.ensures.lines in
    named_adds p.at p.kind _ (subst (λ (s : Score). Adds p.at p.kind s c.args.done.now c.add.new.self) c.requires.hashed c.in-Ok.ensures.adds) (put_more p.kind p.bytes.items _ _ line) (put_named p.kind p.bytes.items _ _ line) named

pub returns-in-Ok-clause-lines : goal.returns-in-Ok-clause-lines
returns-in-Ok-clause-lines g c = put_more c.args.piece.now.kind c.deref.result.now _ _ c.in_ok-put_hashed.ensures.lines

pub returns-in-Ok-clause-keeps : goal.returns-in-Ok-clause-keeps
returns-in-Ok-clause-keeps g c stored synced k =
    let p = c.args.piece.now in
    let after = c.in_ok-put_hashed.ensures.keeps stored synced k in
    let n : Noted c.args.done.now c.add.new.self p (lines_of c.args.arena.now.shelf) (lines_of c.put_hashed.new.self.shelf) stored after.0 = record {
      fresh = c.requires.fresh;
      adds = subst (λ (s : Score). Adds p.at p.kind s c.args.done.now c.add.new.self) c.requires.hashed c.in-Ok.ensures.adds;
      count = k.count;
      line = subst (λ (b : List ℕ). PutsLine p.kind b (lines_of c.args.arena.now.shelf) (lines_of c.put_hashed.new.self.shelf)) c.deref.ensures.value c.in_ok-put_hashed.ensures.lines;
      bytes = subst (λ (b : List ℕ). PutsBytes p.kind b (lines_of c.args.arena.now.shelf) stored after.0) c.deref.ensures.value after.1;
    } in
    stores_noted c.args.arena.now.shelf c.put_hashed.new.self.shelf stored after.0 synced _ _ n after.2 (c.in_ok-put_hashed.ensures.moments stored synced k)

pub returns-in-Err-clause-named : goal.returns-in-Err-clause-named
returns-in-Err-clause-named g c named = named_same c.in-Err.ensures.adds (put_more c.args.piece.now.kind c.deref.result.now _ _ c.in_ok-put_hashed.ensures.lines) named

pub returns-in-Err-clause-lines : goal.returns-in-Err-clause-lines
returns-in-Err-clause-lines g c = put_more c.args.piece.now.kind c.deref.result.now _ _ c.in_ok-put_hashed.ensures.lines

pub returns-in-Err-clause-keeps : goal.returns-in-Err-clause-keeps
returns-in-Err-clause-keeps g c stored synced k =
    let p = c.args.piece.now in
    let after = c.in_ok-put_hashed.ensures.keeps stored synced k in
    stores_put p c.args.arena.now.shelf c.put_hashed.new.self.shelf stored after.0 synced _ _ c.in-Err.ensures.adds k.count
    (subst (λ (b : List ℕ). PutsLine p.kind b (lines_of c.args.arena.now.shelf) (lines_of c.put_hashed.new.self.shelf)) c.deref.ensures.value c.in_ok-put_hashed.ensures.lines)
    (subst (λ (b : List ℕ). PutsBytes p.kind b (lines_of c.args.arena.now.shelf) stored after.0) c.deref.ensures.value after.1)
    after.2 (c.in_ok-put_hashed.ensures.moments stored synced k)

pub returns-in_err-put_hashed-clause-puts : goal.returns-in_err-put_hashed-clause-puts
returns-in_err-put_hashed-clause-puts g c =
    let p = err_from_is_err_and c.from_residual.result c.from_residual.ensures.1 in
    rw p.1 (inl c.in_err-put_hashed.ensures.lines)

pub returns-in_err-put_hashed-clause-told : goal.returns-in_err-put_hashed-clause-told
returns-in_err-put_hashed-clause-told g c stored synced k =
    let p = err_from_is_err_and c.from_residual.result c.from_residual.ensures.1 in
    let q = c.args.piece.now in
    let x = c.in_err-put_hashed.ensures.keeps stored synced k in
    rw (p.1, p.2) (refused_same q.kind q.bytes.items c.args.arena.now.shelf c.put_hashed.new.self.shelf stored synced _ _ c.in_err-put_hashed.ensures.lines x.0
    (subst (λ (b : List ℕ). RefusesHeld (lines_of c.args.arena.now.shelf) stored (sha1 b) q.kind c.in_err-put_hashed.field-0.0) c.deref.ensures.value x.1))

pub returns-in-Ok-clause-puts : goal.returns-in-Ok-clause-puts
returns-in-Ok-clause-puts g c =
    let p = c.args.piece.now in
    subst (λ (b : List ℕ). PutsLine p.kind b (lines_of c.args.arena.now.shelf) (lines_of c.put_hashed.new.self.shelf)) c.deref.ensures.value c.in_ok-put_hashed.ensures.lines

pub returns-in-Err-clause-puts : goal.returns-in-Err-clause-puts
returns-in-Err-clause-puts g c =
    let p = c.args.piece.now in
    inr (tt, subst (λ (b : List ℕ). PutsLine p.kind b (lines_of c.args.arena.now.shelf) (lines_of c.put_hashed.new.self.shelf)) c.deref.ensures.value c.in_ok-put_hashed.ensures.lines)

pub returns-in-Err-clause-told : goal.returns-in-Err-clause-told
returns-in-Err-clause-told g c stored synced k =
    let p = c.args.piece.now in
    let after = c.in_ok-put_hashed.ensures.keeps stored synced k in record {
      held = after.0;
      more = put_bytes_more p.kind p.bytes.items (lines_of c.args.arena.now.shelf) stored after.0 (subst (λ (b : List ℕ). PutsBytes p.kind b (lines_of c.args.arena.now.shelf) stored after.0) c.deref.ensures.value after.1);
      keeps = after.2;
      why = tt;
    }
