use Rattle.std.proofs.Common.{[], ap, ◌∙◌}
use Rattle.fo_mind.specs.MindParts.{parts}
use Rattle.fo_opening.specs.Finished.{saved_number}
use Rattle.fo_opening.proofs.Finishing.{finished_of}
use Rattle.fo_opening.proofs.Lasting.{lasts_super}
use Rattle.fo_opening.proofs.Stepping.{ending_super, quiet_of}
use Rattle.fo_opening.proofs.ending.save_number.Goals as goal

pub returns-in_err-write_super-clause-ending : goal.returns-in_err-write_super-clause-ending
returns-in_err-write_super-clause-ending g c =
    let old = c.args.cache.now in
    let new = c.write_super.new.self in
    let e = c.write_super.ensures in
    ending_super (g.D.Disk.state old.main) (g.D.Disk.state new.main) (g.D.Disk.faults old.main) (g.D.Disk.faults new.main) (parts old.mind [] 0) (parts new.mind [] 0) old.mind.placed e.others e.count e.later _ c.write_super.result e.counts e.doubted c.requires.root c.requires.high c.requires.low

pub returns-clause-finished : goal.returns-clause-finished
returns-clause-finished g c =
    let old = c.args.cache.now in
    let new = c.write_super.new.self in
    finished_of c.args.one c.saved_number-numbers.result (g.D.Disk.state old.main) (g.D.Disk.state new.main) (parts old.mind [] 0) (parts new.mind [] 0) new.first new.spelled new.fits new.mind.turning c.requires.settled
    (c.saved_number-numbers.ensures ∙ ap (λ k. saved_number k old.mind.granted) c.next.ensures)
    c.in_ok-write_super.ensures.counts

pub returns-clause-quiet : goal.returns-clause-quiet
returns-clause-quiet g c =
    let old = c.args.cache.now in
    let new = c.write_super.new.self in
    let counts = c.in_ok-write_super.ensures.counts in
    quiet_of _ c.args.one (g.D.Disk.state old.main) (g.D.Disk.state new.main) (parts old.mind [] 0) (parts new.mind [] 0) counts c.write_super.ensures.count
    (finished_of c.args.one c.saved_number-numbers.result (g.D.Disk.state old.main) (g.D.Disk.state new.main) (parts old.mind [] 0) (parts new.mind [] 0) new.first new.spelled new.fits new.mind.turning c.requires.settled
    (c.saved_number-numbers.ensures ∙ ap (λ k. saved_number k old.mind.granted) c.next.ensures)
    counts)
    new.fits new.header

pub returns-clause-ending : goal.returns-clause-ending
returns-clause-ending g c =
    let old = c.args.cache.now in
    let new = c.write_super.new.self in
    let e = c.write_super.ensures in
    ending_super (g.D.Disk.state old.main) (g.D.Disk.state new.main) (g.D.Disk.faults old.main) (g.D.Disk.faults new.main) (parts old.mind [] 0) (parts new.mind [] 0) old.mind.placed e.others e.count e.later _ c.write_super.result e.counts e.doubted c.requires.root c.requires.high c.requires.low

pub returns-in_err-write_super-clause-lasts : goal.returns-in_err-write_super-clause-lasts
returns-in_err-write_super-clause-lasts g c =
    let old = c.args.cache.now in
    let new = c.write_super.new.self in
    let e = c.write_super.ensures in
    lasts_super (g.D.Disk.state old.main) (g.D.Disk.state new.main) (g.D.Disk.faults old.main) (g.D.Disk.faults new.main) (parts old.mind [] 0) (parts new.mind [] 0) old.mind.placed e.others e.count _ c.write_super.result e.counts e.doubted c.requires.high

pub returns-clause-lasts : goal.returns-clause-lasts
returns-clause-lasts g c =
    let old = c.args.cache.now in
    let new = c.write_super.new.self in
    let e = c.write_super.ensures in
    lasts_super (g.D.Disk.state old.main) (g.D.Disk.state new.main) (g.D.Disk.faults old.main) (g.D.Disk.faults new.main) (parts old.mind [] 0) (parts new.mind [] 0) old.mind.placed e.others e.count _ c.write_super.result e.counts e.doubted c.requires.high
