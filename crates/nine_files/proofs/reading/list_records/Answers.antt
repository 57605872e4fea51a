use Rattle.std.proofs.Common.{false, refl, sym, ◌∙◌}
use Rattle.std.proofs.lemmas.Result.{err_from_is_err_and}
use Rattle.nine_fids.proofs.Missing.{fails_since, refused_by}
use Rattle.nine_fids.proofs.Seeing.{cause_since, follows}
use Rattle.nine_files.proofs.Listing.{given_begins, given_more, given_nearer, given_whole, listing_refused}
use Rattle.nine_files.proofs.Making.{state_of}
use Rattle.nine_files.proofs.reading.list_records.Goals as goal

pub records-init : goal.records-init
records-init g c =
    record { given = given_begins _ _ _ _ _ _ _ c.new.ensures.items; world = λ h. refl; keeps = g.met.F.FileOps.keeps_at_once _ }

pub records-smaller : goal.records-smaller
records-smaller g c =
    let t = c.in_ok-take_next.ensures.takes in
    given_nearer _ _ _ _ _ t.0 (sym t.2 ∙ c.if-not-branch.false) t.3 c.in_ok-take_next.ensures.short

pub records-preserved : goal.records-preserved
records-preserved g c =
    let met = g.met.F.FileOps in
    let k = c.records.invariant.keeps in
    let t = c.in_ok-take_next.ensures.takes in
    let told = λ (h : g.F.FileOps.honest c.args.files.now). rw (met.keeps_whole _ _ k, met.keeps_largest _ _ k, c.records.invariant.world h) at t.1 (met.keeps_honest _ _ k h) in
    record {
      given = given_more _ _ _ _ _ _ _ _ _ _ c.records.invariant.given t.0 told (sym t.2 ∙ c.if-not-branch.false) t.3 c.in_ok-take_next.ensures.short;
      world = λ h. c.take_next.ensures.world (met.keeps_honest _ _ k h) ∙ c.records.invariant.world h;
      keeps = met.keeps_joins _ _ _ k c.take_next.ensures.keeps;
    }

pub returns-then-not-branch-clause-lists : goal.returns-then-not-branch-clause-lists
returns-then-not-branch-clause-lists g c =
    let met = g.met.F.FileOps in
    let k = c.records.invariant.keeps in
    let t = c.in_ok-take_next.ensures.takes in
    let told = λ (h : g.F.FileOps.honest c.args.files.now). rw (met.keeps_whole _ _ k, met.keeps_largest _ _ k, c.records.invariant.world h) at t.1 (met.keeps_honest _ _ k h) in
    given_whole _ _ _ _ _ _ _ _ _ _ c.records.invariant.given t.0 told (sym t.2 ∙ c.if-not-branch.true) t.3

pub returns-then-not-branch-clause-world : goal.returns-then-not-branch-clause-world
returns-then-not-branch-clause-world g c =
    let met = g.met.F.FileOps in
    λ h. c.take_next.ensures.world (met.keeps_honest _ _ c.records.invariant.keeps h) ∙ c.records.invariant.world h

pub returns-in_err-take_next-clause-lists : goal.returns-in_err-take_next-clause-lists
returns-in_err-take_next-clause-lists g c =
    let met = g.met.F.FileOps in
    let p = err_from_is_err_and c.from_residual.result c.from_residual.ensures.1 in
    let k = c.records.invariant.keeps in
    let r = c.in_err-take_next.field-0.0 in
    rw (p.1, p.2) (λ h.
    let denied = rw (met.keeps_whole _ _ k, met.keeps_largest _ _ k, c.records.invariant.world h) at c.in_err-take_next.ensures.takes (met.keeps_honest _ _ k h) in
    refused_by _ _ _ _ r (listing_refused _ _ _ _ _ _ _ _ r (c.records.invariant.given.listing h)) (fails_since _ _ _ _ _ (λ n. ⊥) 0 false (met.keeps_faults _ _ k) (met.keeps_honest _ _ k)) denied)

pub returns-in_err-take_next-clause-world : goal.returns-in_err-take_next-clause-world
returns-in_err-take_next-clause-world g c =
    let met = g.met.F.FileOps in
    λ h. c.take_next.ensures.world (met.keeps_honest _ _ c.records.invariant.keeps h) ∙ c.records.invariant.world h

pub returns-in_err-take_next-clause-cause : goal.returns-in_err-take_next-clause-cause
returns-in_err-take_next-clause-cause g c =
    let f = c.args.files.now in
    let met = g.met.F.FileOps in
    let p = err_from_is_err_and c.from_residual.result c.from_residual.ensures.1 in
    let k = c.records.invariant.keeps in
    let later = c.records.files in
    let end = c.take_next.new.files in
    rw (p.1, p.2) (cause_since (state_of (g.F.FileOps.whole f) (g.F.FileOps.largest f) (g.F.FileOps.world f) (g.F.FileOps.faults f) (g.F.FileOps.honest f) (g.F.FileOps.has_room f)) (state_of (g.F.FileOps.whole later) (g.F.FileOps.largest later) (g.F.FileOps.world later) (g.F.FileOps.faults later) (g.F.FileOps.honest later) (g.F.FileOps.has_room later)) (state_of (g.F.FileOps.whole end) (g.F.FileOps.largest end) (g.F.FileOps.world end) (g.F.FileOps.faults end) (g.F.FileOps.honest end) (g.F.FileOps.has_room end)) 0 c.in_err-take_next.field-0.0 (follows _ _ (met.keeps_whole _ _ k) (met.keeps_largest _ _ k) (met.keeps_faults _ _ k) (met.keeps_honest _ _ k)) c.in_err-take_next.ensures.cause)
