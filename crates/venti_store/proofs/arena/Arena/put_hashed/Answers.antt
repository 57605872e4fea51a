use Rattle.std.proofs.Common.{◌++◌, ◌∷◌, [], inr, length, refl, sym, subst}
use Rattle.std.proofs.lemmas.Result.{err_from_is_err_and}
use Rattle.venti_store.proofs.Puts.{kept_keeps, kept_since, stays_since, read_since, collision_held, append_held, named_at, held_at, refuses_at, put_refused, hand_at, name_last, held_last}
use Rattle.fo_image.specs.Format.{IsScore}
use Rattle.sha1.specs.Sha1.{sha1}
use Rattle.venti_store.specs.Held.{IsNamed, IsHeld}
use Rattle.venti_store.specs.Arena.{lines_of}
use Rattle.venti_store.specs.declared.shelf.Shelf.{Shelf}
use Rattle.venti_store.proofs.arena.Arena.put_hashed.Goals as goal

pub returns-then-not-is_score-clause-moments : goal.returns-then-not-is_score-clause-moments
returns-then-not-is_score-clause-moments g c stored synced k = stays_since c.args.self.now.shelf k (g.met.A.Disk.is_newest c.args.self.now.device)

pub returns-in_err-held-clause-keeps : goal.returns-in_err-held-clause-keeps
returns-in_err-held-clause-keeps g c stored synced k =
    let p = err_from_is_err_and c.from_residual.result c.from_residual.ensures.1 in
    rw (p.1, p.2) (kept_keeps {s = c.args.self.now.shelf} c.in_err-held.ensures.shelf c.in_err-held.ensures.kept k, refuses_at _ stored _ _ c.requires.hashed (c.in_err-held.ensures.held stored synced k))

pub returns-in_err-held-clause-moments : goal.returns-in_err-held-clause-moments
returns-in_err-held-clause-moments g c stored synced k = kept_since c.args.self.now.shelf c.in_err-held.ensures.kept k (g.met.A.Disk.is_newest c.args.self.now.device)

pub returns-in_err-block-in-Some-clause-keeps : goal.returns-in_err-block-in-Some-clause-keeps
returns-in_err-block-in-Some-clause-keeps g c stored synced k =
    let p = err_from_is_err_and c.from_residual-in_err-block-in-Some.result c.from_residual-in_err-block-in-Some.ensures.1 in
    rw (p.1, p.2) (kept_keeps {s = c.args.self.now.shelf} c.in_ok-held.ensures.shelf c.in_ok-held.ensures.kept k, collision_held _ _ _ _ _ _ _ c.in_err-block-in-Some.ensures (held_at _ stored _ c.requires.hashed refl (rw c.in-Some.is at (c.in_ok-held.ensures.held stored synced k))))

pub returns-in_err-block-in-Some-clause-moments : goal.returns-in_err-block-in-Some-clause-moments
returns-in_err-block-in-Some-clause-moments g c stored synced k = kept_since c.args.self.now.shelf c.in_ok-held.ensures.kept k (g.met.A.Disk.is_newest c.args.self.now.device)

pub returns-in_err-append-in-None-clause-keeps : goal.returns-in_err-append-in-None-clause-keeps
returns-in_err-append-in-None-clause-keeps g c stored synced k =
    let p = err_from_is_err_and c.from_residual-in_err-append-in-None.result c.from_residual-in_err-append-in-None.ensures.1 in
    rw (p.1, p.2) (c.in_err-append-in-None.ensures.keeps stored synced (kept_keeps {s = c.args.self.now.shelf} c.in_ok-held.ensures.shelf c.in_ok-held.ensures.kept k), append_held _ _ stored _ c.args.kind _ c.in_err-append-in-None.ensures.refused _)

pub returns-in_err-append-in-None-clause-moments : goal.returns-in_err-append-in-None-clause-moments
returns-in_err-append-in-None-clause-moments g c stored synced k =
    read_since {s = c.args.self.now.shelf} c.in_ok-held.ensures.shelf c.in_ok-held.ensures.kept (c.in_err-append-in-None.ensures.moments stored synced (kept_keeps {s = c.args.self.now.shelf} c.in_ok-held.ensures.shelf c.in_ok-held.ensures.kept k))

pub returns-in_ok-block-in-Some-clause-keeps : goal.returns-in_ok-block-in-Some-clause-keeps
returns-in_ok-block-in-Some-clause-keeps g c stored synced k =
    let s = c.args.self.now.shelf in
    let held = rw c.in-Some.is at (c.in_ok-held.ensures.held stored synced k) in
    let found = rw c.in-Some.is at c.in_ok-held.ensures.finds in
    let named : IsNamed (lines_of s) c.args.score.0 c.args.kind = found.0 in
    let same = c.in_ok-block-in-Some.ensures in
    let here = subst (λ (x : Shelf). IsHeld (lines_of x) stored c.args.score.0 c.args.kind c.in_ok-block-in-Some.block.items) (sym c.in_ok-held.ensures.shelf) (held_at (lines_of s) stored c.args.kind refl (sym same.0) held) in (
      stored,
      record { held = λ yes. (refl, held_at _ stored _ c.requires.hashed same.1 held); new = λ no. absurd (no (named_at _ _ c.requires.hashed named)) },
      c.remember.ensures.keeps stored synced _ here (kept_keeps {s = s} c.in_ok-held.ensures.shelf c.in_ok-held.ensures.kept k),
    )

pub returns-in_ok-block-in-Some-clause-moments : goal.returns-in_ok-block-in-Some-clause-moments
returns-in_ok-block-in-Some-clause-moments g c stored synced k = kept_since c.args.self.now.shelf c.in_ok-held.ensures.kept k (g.met.A.Disk.is_newest c.args.self.now.device)

pub returns-in_ok-append-in-None-clause-keeps : goal.returns-in_ok-append-in-None-clause-keeps
returns-in_ok-append-in-None-clause-keeps g c stored synced k =
    let s = c.args.self.now.shelf in
    let t = c.look.new.self.shelf in
    let fresh = rw c.in-None.is at c.in_ok-held.ensures.finds in
    let there : ¬ IsNamed (lines_of t) c.args.score.0 c.args.kind = subst (λ (x : Shelf). ¬ IsNamed (lines_of x) c.args.score.0 c.args.kind) (sym c.in_ok-held.ensures.shelf) fresh in
    let kept = kept_keeps {s = s} c.in_ok-held.ensures.shelf c.in_ok-held.ensures.kept k in
    let held = held_last (lines_of t) (lines_of c.append.new.self.shelf) stored c.args.kind c.args.bytes.now c.in_ok-block-in-None.block.items c.args.score.0 there c.requires.hashed c.in_ok-append-in-None.ensures.added kept.count c.in_ok-block-in-None.ensures.copied in (
      stored ++ c.args.bytes.now ∷ [],
      record { held = λ yes. absurd (fresh (named_at _ _ (sym c.requires.hashed) yes)); new = λ no. refl },
      c.remember-in-None.ensures.keeps (stored ++ c.args.bytes.now ∷ []) synced _ held (c.in_ok-append-in-None.ensures.keeps stored synced kept),
    )

pub returns-in_ok-append-in-None-clause-moments : goal.returns-in_ok-append-in-None-clause-moments
returns-in_ok-append-in-None-clause-moments g c stored synced k =
    read_since {s = c.args.self.now.shelf} c.in_ok-held.ensures.shelf c.in_ok-held.ensures.kept (c.in_ok-append-in-None.ensures.moments stored synced (kept_keeps {s = c.args.self.now.shelf} c.in_ok-held.ensures.shelf c.in_ok-held.ensures.kept k))

pub returns-in_err-held-clause-refused : goal.returns-in_err-held-clause-refused
returns-in_err-held-clause-refused g c =
    let p = err_from_is_err_and c.from_residual.result c.from_residual.ensures.1 in
    let spelled : IsScore (sha1 c.args.bytes.now) = subst IsScore c.requires.hashed (c.is_score.ensures.0 c.if-not-is_score.false) in
    rw (p.1, p.2) (put_refused c.args.self.now.shelf.blocks (lines_of c.args.self.now.shelf) c.args.kind c.args.bytes.now c.args.score.0 _ c.requires.hashed spelled c.in_err-held.ensures.finds)

pub returns-in_err-block-in-None-clause-moments : goal.returns-in_err-block-in-None-clause-moments
returns-in_err-block-in-None-clause-moments g c stored synced k = kept_since c.args.self.now.shelf c.in_ok-held.ensures.kept k (g.met.A.Disk.is_newest c.args.self.now.device)

pub remember-requires-in-None-clause-named : goal.remember-requires-in-None-clause-named
remember-requires-in-None-clause-named g c =
    let lines = lines_of c.look.new.self.shelf in
    inr (length lines, name_last lines (lines_of c.append.new.self.shelf) c.args.kind c.args.bytes.now c.args.score.0 c.requires.hashed c.in_ok-append-in-None.ensures.added)

pub returns-in_ok-block-in-Some-clause-at_hand : goal.returns-in_ok-block-in-Some-clause-at_hand
returns-in_ok-block-in-Some-clause-at_hand g c hand = c.in_ok-held.ensures.at_hand (hand_at c.args.self.now.shelf c.args.kind (sym c.requires.hashed) hand)

pub returns-in_ok-append-in-None-clause-put : goal.returns-in_ok-append-in-None-clause-put
returns-in_ok-append-in-None-clause-put g c = hand_at c.remember-in-None.new.self c.args.kind c.requires.hashed c.remember-in-None.ensures.at_hand
