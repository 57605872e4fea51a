use Rattle.std.proofs.Common.{[], ap, ◌∙◌, subst, arith, length}
use Rattle.std.specs.Result.{OnOk}
use Rattle.std.proofs.lemmas.Result.{err_from_is_err_and}
use Rattle.fo_disk.specs.Disk.{DiskState, versions_of}
use Rattle.fo_image.specs.declared.types.Super.{Super}
use Rattle.fo_mind.specs.MindParts.{parts}
use Rattle.fo_cache.specs.Settling.{Rested}
use Rattle.fo_opening.specs.Finished.{Finished}
use Rattle.fo_reserving.proofs.of_settling.Clearing.{clearings_of, clearings_on}
use Rattle.fo_opening.proofs.Finishing.{bytes_ended, caused_later, ends_let, ends_on}
use Rattle.fo_opening.proofs.Lasting.{lasts_let}
use Rattle.fo_opening.proofs.Stepping.{bytes_none, ending_on, header_kept, let_left}
use Rattle.fo_opening.proofs.ending.finish.Goals as goal

pub settle_all-requires : goal.settle_all-requires
settle_all-requires g c = record { free = c.unpin_all.ensures.none }

pub returns-in_err-settle_all-clause-ends : goal.returns-in_err-settle_all-clause-ends
returns-in_err-settle_all-clause-ends g c =
    let old = c.args.cache.now in
    let mid = c.unpin_all.new.cache in
    let e = c.unpin_all.ensures in
    ends_on (ends_let (parts old.mind [] 0) (parts mid.mind [] 0) (g.D.Disk.state old.main).holds (g.D.Disk.state mid.main).holds (g.D.Disk.faults old.main) (g.D.Disk.faults mid.main) e.lets e.leaves) c.settle_all.ensures.ending.ends

pub returns-in_err-settle_all-clause-clears : goal.returns-in_err-settle_all-clause-clears
returns-in_err-settle_all-clause-clears g c =
    let old = c.args.cache.now in
    let mid = c.unpin_all.new.cache in
    let e = c.unpin_all.ensures in
    clearings_on (clearings_of (lasts_let (parts old.mind [] 0) (parts mid.mind [] 0) (g.D.Disk.state old.main) (g.D.Disk.state mid.main) (g.D.Disk.faults old.main) (g.D.Disk.faults mid.main) (ap g.D.Disk.state e.device) old.fits mid.fits e.lets)) c.settle_all.ensures.clears

pub returns-in_err-settle_all-clause-bytes : goal.returns-in_err-settle_all-clause-bytes
returns-in_err-settle_all-clause-bytes g c =
    let old = c.args.cache.now in
    let mid = c.unpin_all.new.cache in
    let new = c.settle_all.new.cache in
    let e = c.unpin_all.ensures in
    bytes_ended (g.D.Disk.state old.main) (g.D.Disk.state mid.main) (g.D.Disk.state new.main) (parts old.mind [] 0) (parts mid.mind [] 0) (parts new.mind [] 0) (ap g.D.Disk.state e.device) old.fits mid.fits e.lets (bytes_none c.settle_all.ensures.ending)

pub returns-in_err-settle_all-clause-header : goal.returns-in_err-settle_all-clause-header
returns-in_err-settle_all-clause-header g c =
    let old = c.args.cache.now in
    header_kept (g.D.Disk.state old.main).holds (g.D.Disk.state c.settle_all.new.cache.main).holds old.header
    (subst (λ (s : DiskState). Rested (versions_of s.holds 0) (versions_of (g.D.Disk.state c.settle_all.new.cache.main).holds 0)) (ap g.D.Disk.state c.unpin_all.ensures.device) c.settle_all.ensures.ending.header)

pub returns-in_err-settle_all-clause-count : goal.returns-in_err-settle_all-clause-count
returns-in_err-settle_all-clause-count g c = c.settle_all.ensures.ending.count ∙ ap (λ m. length (g.D.Disk.state m).holds) c.unpin_all.ensures.device

pub returns-in_err-settle_all-clause-failed : goal.returns-in_err-settle_all-clause-failed
returns-in_err-settle_all-clause-failed g c =
    let x = err_from_is_err_and c.from_residual.result c.from_residual.ensures.1 in
    rw (x.1, x.2) c.in_err-settle_all.ensures.failed

pub returns-clause-finished : goal.returns-clause-finished
returns-clause-finished g c =
    let new = c.save_number.new.cache in
    subst (λ (o : Super). OnOk c.save_number.result (Finished o (g.D.Disk.state new.main) (parts new.mind [] 0))) c.one-one.ensures c.save_number.ensures.finished

pub returns-clause-header : goal.returns-clause-header
returns-clause-header g c =
    let old = c.args.cache.now in
    header_kept (g.D.Disk.state old.main).holds (g.D.Disk.state c.save_number.new.cache.main).holds old.header
    (subst (λ (s : DiskState). Rested (versions_of s.holds 0) (versions_of (g.D.Disk.state c.save_number.new.cache.main).holds 0)) (ap g.D.Disk.state c.unpin_all.ensures.device) (ending_on c.settle_all.ensures.ending c.save_number.ensures.ending).header)

pub returns-clause-count : goal.returns-clause-count
returns-clause-count g c = c.save_number.ensures.ending.count ∙ c.settle_all.ensures.ending.count ∙ ap (λ m. length (g.D.Disk.state m).holds) c.unpin_all.ensures.device

pub returns-clause-ends : goal.returns-clause-ends
returns-clause-ends g c =
    let old = c.args.cache.now in
    let mid = c.unpin_all.new.cache in
    let e = c.unpin_all.ensures in
    ends_on (ends_on (ends_let (parts old.mind [] 0) (parts mid.mind [] 0) (g.D.Disk.state old.main).holds (g.D.Disk.state mid.main).holds (g.D.Disk.faults old.main) (g.D.Disk.faults mid.main) e.lets e.leaves) c.settle_all.ensures.ending.ends) c.save_number.ensures.ending.ends

pub returns-clause-clears : goal.returns-clause-clears
returns-clause-clears g c =
    let old = c.args.cache.now in
    let mid = c.unpin_all.new.cache in
    let e = c.unpin_all.ensures in
    clearings_on (clearings_on (clearings_of (lasts_let (parts old.mind [] 0) (parts mid.mind [] 0) (g.D.Disk.state old.main) (g.D.Disk.state mid.main) (g.D.Disk.faults old.main) (g.D.Disk.faults mid.main) (ap g.D.Disk.state e.device) old.fits mid.fits e.lets)) c.settle_all.ensures.clears) (clearings_of c.save_number.ensures.lasts)

pub returns-clause-bytes : goal.returns-clause-bytes
returns-clause-bytes g c =
    let old = c.args.cache.now in
    let mid = c.unpin_all.new.cache in
    let new = c.save_number.new.cache in
    let e = c.unpin_all.ensures in
    bytes_ended (g.D.Disk.state old.main) (g.D.Disk.state mid.main) (g.D.Disk.state new.main) (parts old.mind [] 0) (parts mid.mind [] 0) (parts new.mind [] 0) (ap g.D.Disk.state e.device) old.fits mid.fits e.lets (bytes_none (ending_on c.settle_all.ensures.ending c.save_number.ensures.ending))

pub returns-clause-cause : goal.returns-clause-cause
returns-clause-cause g c =
    let old = c.args.cache.now in
    let mid = c.settle_all.new.cache in
    let new = c.save_number.new.cache in
    let same = ap g.D.Disk.faults c.unpin_all.ensures.device in
    let later = c.settle_all.ensures.later in
    caused_later (g.D.Disk.faults old.main) (g.D.Disk.faults mid.main) (g.D.Disk.faults new.main) c.save_number.result (omega (arith, same, later)) c.save_number.ensures.cause

pub returns-in_err-settle_all-clause-calls : goal.returns-in_err-settle_all-clause-calls
returns-in_err-settle_all-clause-calls g c =
    let left = let_left (parts c.args.cache.now.mind [] 0) (parts c.unpin_all.new.cache.mind [] 0) c.unpin_all.ensures.lets in
    let same = ap g.D.Disk.calls c.unpin_all.ensures.device in
    let e = c.settle_all.ensures.calls in
    omega (arith, left, same, e)

pub returns-clause-calls : goal.returns-clause-calls
returns-clause-calls g c =
    let left = let_left (parts c.args.cache.now.mind [] 0) (parts c.unpin_all.new.cache.mind [] 0) c.unpin_all.ensures.lets in
    let same = ap g.D.Disk.calls c.unpin_all.ensures.device in
    let e = c.settle_all.ensures.calls in
    let f = c.save_number.ensures.calls in
    omega (arith, left, same, e, f)
