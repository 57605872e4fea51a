use Rattle.std.proofs.Common.{◌≡◌, ◌≤◌, length, min, true, refl, sym, ap, ◌∙◌, arith}
use Rattle.std.proofs.lemmas.Grind.{common_steps}
use Rattle.std.proofs.lemmas.Result.{err_from_is_err_and}
use Rattle.nine_fids.specs.Modes.{reads}
use Rattle.nine_fids.specs.Told.{served, iounit, bytes_at}
use Rattle.nine_fids.proofs.Seeing.{follows}
use Rattle.nine_session.specs.Attempting.{state}
use Rattle.nine_session.proofs.Kept.{replied_same}
use Rattle.nine_session.proofs.Listing.{directory_from}
use Rattle.nine_session.proofs.Looked.{denied, fid_plain, granted, looked_after, missed, opened_plain, version_plain}
use Rattle.nine_session.proofs.Transfers.{directory_told, no_fid, no_version, not_opened, opened_there, read_begins, read_lists, read_unread, read_whole, reads_from, reads_not}
use Rattle.nine_session.proofs.session.Session.read.Goals as goal

pub returns-in_err-msize-clause-looked : goal.returns-in_err-msize-clause-looked
returns-in_err-msize-clause-looked g c = λ x.
    let files = c.args.files.now in
    let w = g.F.FileOps.world files in
    let e = served (g.F.FileOps.whole files) (g.F.FileOps.largest files) in
    let z = state c.args.self.now x w in
    let p = err_from_is_err_and c.from_residual.result c.from_residual.ensures.1 in
    let none = sym (c.in_err-msize.ensures x w) in
    rw (p.1, p.2) (denied _ _ _ _ c.in_err-msize.field-0.0 (λ h. refl) (λ h. read_begins e z c.args.fid c.args.offset c.args.count ∙ no_version z c.args.fid (reads_from e z c.args.offset c.args.count) c.in_err-msize.field-0.0 none)
    (version_plain z c.in_err-msize.field-0.0 none))

pub returns-in_err-from-clause-looked : goal.returns-in_err-from-clause-looked
returns-in_err-from-clause-looked g c = λ x.
    let files = c.args.files.now in
    let w = g.F.FileOps.world files in
    let e = served (g.F.FileOps.whole files) (g.F.FileOps.largest files) in
    let z = state c.args.self.now x w in
    let p = err_from_is_err_and c.from_residual-in_err-from.result c.from_residual-in_err-from.ensures.1 in
    rw (p.1, p.2) (denied _ _ _ _ c.in_err-from.field-0.0 (λ h. refl) (λ h. read_begins e z c.args.fid c.args.offset c.args.count ∙ no_fid z c.args.fid (reads_from e z c.args.offset c.args.count) c.in_ok-msize.msize c.in_err-from.field-0.0 (sym (c.in_ok-msize.ensures x w)) (c.in_err-from.ensures x w))
    (fid_plain z c.args.fid c.in_err-from.field-0.0 (c.in_err-from.ensures x w)))

pub returns-in_err-opened-clause-looked : goal.returns-in_err-opened-clause-looked
returns-in_err-opened-clause-looked g c = λ x.
    let files = c.args.files.now in
    let w = g.F.FileOps.world files in
    let e = served (g.F.FileOps.whole files) (g.F.FileOps.largest files) in
    let z = state c.args.self.now x w in
    let p = err_from_is_err_and c.from_residual-in_err-opened.result c.from_residual-in_err-opened.ensures.1 in
    rw (p.1, p.2) (denied _ _ _ _ c.in_err-opened.field-0.0 (λ h. refl)
    (λ h. read_begins e z c.args.fid c.args.offset c.args.count ∙ not_opened z c.args.fid (reads_from e z c.args.offset c.args.count) c.in_ok-msize.msize c.in_ok-from.from.now c.in_err-opened.field-0.0 (sym (c.in_ok-msize.ensures x w)) (c.in_ok-from.ensures x w) c.in_err-opened.ensures)
    (opened_plain c.in_ok-from.from.now c.in_err-opened.field-0.0 c.in_err-opened.ensures))

pub returns-then-not-reads-clause-looked : goal.returns-then-not-reads-clause-looked
returns-then-not-reads-clause-looked g c = λ x.
    let files = c.args.files.now in
    let w = g.F.FileOps.world files in
    let e = served (g.F.FileOps.whole files) (g.F.FileOps.largest files) in
    let z = state c.args.self.now x w in
    let f = c.in_ok-from.from.now in
    let o = c.in_ok-opened.opened.now in
    denied _ _ _ _ _ (λ h. refl)
    (λ h. read_begins e z c.args.fid c.args.offset c.args.count
    ∙ opened_there z c.args.fid (reads_from e z c.args.offset c.args.count) c.in_ok-msize.msize f o (sym (c.in_ok-msize.ensures x w)) (c.in_ok-from.ensures x w) c.in_ok-opened.ensures
    ∙ reads_not e z c.args.offset c.args.count c.in_ok-msize.msize f o (sym c.reads.ensures ∙ c.if-not-reads.true)) refl

pub returns-in-Ok-clause-looked : goal.returns-in-Ok-clause-looked
returns-in-Ok-clause-looked g c = λ x.
    let files = c.args.files.now in
    let w = g.F.FileOps.world files in
    let e = served (g.F.FileOps.whole files) (g.F.FileOps.largest files) in
    let z = state c.args.self.now x w in
    let m = c.in_ok-msize.msize in
    let f = c.in_ok-from.from.now in
    let o = c.in_ok-opened.opened.now in
    let may : reads o.access ≡ true = sym c.reads.ensures ∙ c.if-not-reads.false in
    let count : c.min-count.result ≡ min c.args.count (iounit m) = c.min-count.ensures ∙ ap (min c.args.count) c.saturating_sub.ensures in
    let looks = rw count at c.in-Ok.ensures.looks in
    granted _ _ _ _ _ _ (λ h.
    read_whole e z c.args.fid c.args.offset c.args.count m f o c.in-Ok.bytes (sym (c.in_ok-msize.ensures x w)) (c.in_ok-from.ensures x w) c.in_ok-opened.ensures may (looks.answer h)
    ∙ replied_same c.in-Ok.bytes c.in-Ok.bytes z _ refl (ap (state c.args.self.now x) (c.bytes_at.ensures.looks.world h)))

pub returns-then-is_directory-clause-looked : goal.returns-then-is_directory-clause-looked
returns-then-is_directory-clause-looked g c = λ x.
    let met = g.met.F.FileOps in
    let files = c.args.files.now in
    let w = g.F.FileOps.world files in
    let e = served (g.F.FileOps.whole files) (g.F.FileOps.largest files) in
    let z = state c.args.self.now x w in
    let k = c.bytes_at.ensures.keeps in
    let m = c.in_ok-msize.msize in
    let f = c.in_ok-from.from.now in
    let o = c.in_ok-opened.opened.now in
    let may : reads o.access ≡ true = sym c.reads.ensures ∙ c.if-not-reads.false in
    let count : c.min-count.result ≡ min c.args.count (iounit m) = c.min-count.ensures ∙ ap (min c.args.count) c.saturating_sub.ensures in
    let looks = rw count at c.in-Err.ensures.looks in
    let kind = sym c.is_directory.ensures ∙ c.if-is_directory.true in
    looked_after _ _ _ _ _ _ (λ e z. directory_from e z c.args.fid c.args.offset c.min-count.result) _ (follows _ _ (met.keeps_whole _ _ k) (met.keeps_largest _ _ k) (met.keeps_faults _ _ k) (met.keeps_honest _ _ k)) c.bytes_at.ensures.looks.world
    (λ h. rw count (read_lists e z c.args.fid c.args.offset c.args.count m f o c.in-Err.refusal (sym (c.in_ok-msize.ensures x w)) (c.in_ok-from.ensures x w) c.in_ok-opened.ensures may (directory_told _ _ _ _ c.in-Err.refusal kind (looks.answer h)) kind))
    (c.read_directory.ensures.looked x)

pub returns-else-is_directory-clause-looked : goal.returns-else-is_directory-clause-looked
returns-else-is_directory-clause-looked g c = λ x.
    let files = c.args.files.now in
    let w = g.F.FileOps.world files in
    let e = served (g.F.FileOps.whole files) (g.F.FileOps.largest files) in
    let z = state c.args.self.now x w in
    let m = c.in_ok-msize.msize in
    let f = c.in_ok-from.from.now in
    let o = c.in_ok-opened.opened.now in
    let may : reads o.access ≡ true = sym c.reads.ensures ∙ c.if-not-reads.false in
    let count : c.min-count.result ≡ min c.args.count (iounit m) = c.min-count.ensures ∙ ap (min c.args.count) c.saturating_sub.ensures in
    let looks = rw count at c.in-Err.ensures.looks in
    let kind = sym c.is_directory.ensures ∙ c.if-is_directory.false in
    missed _ _ _ (λ e w. bytes_at e w f.place c.args.offset (min c.args.count (iounit m))) _ c.in-Err.refusal
    (λ h. read_unread e z c.args.fid c.args.offset c.args.count m f o c.in-Err.refusal (sym (c.in_ok-msize.ensures x w)) (c.in_ok-from.ensures x w) c.in_ok-opened.ensures may kind)
    looks

pub returns-in-Ok-clause-sends : goal.returns-in-Ok-clause-sends
returns-in-Ok-clause-sends g c =
    let short : length c.in-Ok.bytes ≤ c.min-count.result = c.in-Ok.ensures.within in
    (grind (arith, common_steps), tt)
