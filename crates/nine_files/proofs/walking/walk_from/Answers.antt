use Rattle.std.proofs.Common.{◌≡◌, ◌==◌, [], false, length, sym, ap, ◌∙◌, Ok}
use Rattle.std.proofs.lemmas.Result.{err_from_is_err_and}
use Rattle.nine_fids.specs.Rights.{table_of}
use Rattle.fo_world.specs.Chain.{and_then}
use Rattle.nine_fids.specs.Told.{served}
use Rattle.nine_files.specs.Walking.{walked_by}
use Rattle.nine_fids.proofs.Missing.{ok_same}
use Rattle.nine_fids.proofs.Seeing.{failed_after, follows, told_at}
use Rattle.nine_files.proofs.Free.{walk_free}
use Rattle.nine_files.proofs.Links.{looks_walked}
use Rattle.nine_files.proofs.Making.{state_of}
use Rattle.nine_files.proofs.Walks.{arrived_from}
use Rattle.nine_files.proofs.walking.walk_from.Goals as goal

pub returns-then-is_free-clause-arrives : goal.returns-then-is_free-clause-arrives
returns-then-is_free-clause-arrives g c =
    let f = c.args.files.now in
    let e = served (g.F.FileOps.whole f) (g.F.FileOps.largest f) in
    let w = g.F.FileOps.world f in
    let met = g.met.F.FileOps in
    let k = c.info_at.ensures.keeps in
    let later = c.info_at.new.files in
    let user = c.args.fid.now.user in
    let names = c.args.names.now in
    let start = c.in_ok-start.start in
    let some : (length names == 0) ≡ false = sym c.is_empty.ensures ∙ c.if-is_empty.false in
    looks_walked _ (state_of (g.F.FileOps.whole later) (g.F.FileOps.largest later) (g.F.FileOps.world later) (g.F.FileOps.faults later) (g.F.FileOps.honest later) (g.F.FileOps.has_room later)) _ _ (walked_by [] e w user names start) _ (follows _ _ (met.keeps_whole _ _ k) (met.keeps_largest _ _ k) (met.keeps_faults _ _ k) (met.keeps_honest _ _ k))
    c.info_at.ensures.looks.world
    (λ h.
    arrived_from e w c.args.fid.now names some ∙ ap (λ t. and_then t (λ i. Ok (walked_by (table_of e w) e w user names i))) (c.in_ok-start.ensures.looks.answer h)
    ∙ ap Ok (sym (walk_free (table_of e w) e w user names start (sym c.is_free.ensures ∙ c.if-is_free.true))))
    (λ h. rw (met.keeps_whole _ _ k, met.keeps_largest _ _ k, c.info_at.ensures.looks.world h) at c.follow_freely.ensures.comes (met.keeps_honest _ _ k h))
    c.follow_freely.ensures.world c.follow_freely.ensures.cause

pub returns-in_err-users-clause-arrives : goal.returns-in_err-users-clause-arrives
returns-in_err-users-clause-arrives g c =
    let met = g.met.F.FileOps in
    let p = err_from_is_err_and c.from_residual-in_err-users.result c.from_residual-in_err-users.ensures.1 in
    let k = c.info_at.ensures.keeps in
    rw (p.1, p.2) (failed_after _ _ _ table_of _ c.in_err-users.field-0.0 (follows _ _ (met.keeps_whole _ _ k) (met.keeps_largest _ _ k) (met.keeps_faults _ _ k) (met.keeps_honest _ _ k)) c.info_at.ensures.looks.world c.in_err-users.ensures.looks)

pub returns-clause-arrives : goal.returns-clause-arrives
returns-clause-arrives g c =
    let f = c.args.files.now in
    let e = served (g.F.FileOps.whole f) (g.F.FileOps.largest f) in
    let w = g.F.FileOps.world f in
    let met = g.met.F.FileOps in
    let k = c.info_at.ensures.keeps in
    let j = met.keeps_joins _ _ _ k c.table_of.ensures.keeps in
    let later = c.table_of.new.files in
    let user = c.args.fid.now.user in
    let names = c.args.names.now in
    let start = c.in_ok-start.start in
    let users = c.in_ok-users.users.now in
    let some : (length names == 0) ≡ false = sym c.is_empty.ensures ∙ c.if-is_empty.false in
    looks_walked _ (state_of (g.F.FileOps.whole later) (g.F.FileOps.largest later) (g.F.FileOps.world later) (g.F.FileOps.faults later) (g.F.FileOps.honest later) (g.F.FileOps.has_room later)) _ _ (walked_by users e w user names start) _ (follows _ _ (met.keeps_whole _ _ j) (met.keeps_largest _ _ j) (met.keeps_faults _ _ j) (met.keeps_honest _ _ j))
    (λ h. c.table_of.ensures.looks.world (met.keeps_honest _ _ k h) ∙ c.info_at.ensures.looks.world h)
    (λ h.
    let table : table_of e w ≡ users = ok_same _ _ (told_at _ _ (λ e w. Ok (table_of e w)) _ _ _ _ (met.keeps_whole _ _ k) (met.keeps_largest _ _ k) (c.info_at.ensures.looks.world h) c.in_ok-users.ensures.looks (met.keeps_honest _ _ k h)) in
    arrived_from e w c.args.fid.now names some ∙ ap (λ t. and_then t (λ i. Ok (walked_by (table_of e w) e w user names i))) (c.in_ok-start.ensures.looks.answer h)
    ∙ ap (λ t. Ok (walked_by t e w user names start)) table)
    (λ h. rw (met.keeps_whole _ _ j, met.keeps_largest _ _ j, c.table_of.ensures.looks.world (met.keeps_honest _ _ k h) ∙ c.info_at.ensures.looks.world h) at c.follow.ensures.comes (met.keeps_honest _ _ j h))
    c.follow.ensures.world c.follow.ensures.cause
