use Rattle.std.proofs.Common.{◌≤◌, [], sym, subst}
use Rattle.fo_labels.specs.Region.{Region}
use Rattle.fo_mind.specs.MindParts.{parts}
use Rattle.fo_mind.specs.Parts.{count_of}
use Rattle.fo_cache.proofs.Delaying.{waits_later}
use Rattle.fo_cache.proofs.Firsts.{one_like}
use Rattle.fo_cache.proofs.Placing.{fit_removed}
use Rattle.fo_cache.proofs.cache.Cache.remove_slot.Goals as goal

pub invariant_of-self-clause-sized : goal.invariant_of-self-clause-sized
invariant_of-self-clause-sized g c =
    let self = c.args.self.now in
    let s = g.D.Disk.state self.main in
    let p = parts self.mind [] 0 in
    let q = parts c.remove_slot.new.mind [] 0 in
    let z = fit_removed p q c.args.after self.mind.placed self.mind.holding c.requires.pinned (c.remove_slot.ensures.is [] 0) in
    subst (λ (r : Region). count_of r ≤ g.D.Disk.size self.main) (sym z.region) self.sized

pub invariant_of-self-clause-fits : goal.invariant_of-self-clause-fits
invariant_of-self-clause-fits g c =
    let self = c.args.self.now in
    let s = g.D.Disk.state self.main in
    let p = parts self.mind [] 0 in
    let q = parts c.remove_slot.new.mind [] 0 in
    let z = fit_removed p q c.args.after self.mind.placed self.mind.holding c.requires.pinned (c.remove_slot.ensures.is [] 0) in
    z.fits s.holds s.unsure self.fits

pub invariant_of-self-clause-spelled : goal.invariant_of-self-clause-spelled
invariant_of-self-clause-spelled g c =
    let self = c.args.self.now in
    let s = g.D.Disk.state self.main in
    let p = parts self.mind [] 0 in
    let q = parts c.remove_slot.new.mind [] 0 in
    let z = fit_removed p q c.args.after self.mind.placed self.mind.holding c.requires.pinned (c.remove_slot.ensures.is [] 0) in
    z.labels s.holds s.unsure self.spelled

pub invariant_of-self-clause-first : goal.invariant_of-self-clause-first
invariant_of-self-clause-first g c =
    let self = c.args.self.now in
    let s = g.D.Disk.state self.main in
    let p = parts self.mind [] 0 in
    let q = parts c.remove_slot.new.mind [] 0 in
    let z = fit_removed p q c.args.after self.mind.placed self.mind.holding c.requires.pinned (c.remove_slot.ensures.is [] 0) in
    one_like p q s.holds z.one_bytes z.doubt self.first

pub returns-clause-now : goal.returns-clause-now
returns-clause-now g c = let self = c.args.self.now in c.remove_slot.ensures.now (g.D.Disk.state self.main).holds (g.D.Disk.faults self.main)

pub returns-clause-frame : goal.returns-clause-frame
returns-clause-frame g c = let self = c.args.self.now in c.remove_slot.ensures.frame (g.D.Disk.state self.main).holds (g.D.Disk.faults self.main)

pub returns-clause-hangs : goal.returns-clause-hangs
returns-clause-hangs g c = let self = c.args.self.now in c.remove_slot.ensures.hangs (g.D.Disk.state self.main).holds (g.D.Disk.faults self.main)

pub returns-clause-no_wait : goal.returns-clause-no_wait
returns-clause-no_wait g c = let self = c.args.self.now in c.remove_slot.ensures.no_wait (g.D.Disk.state self.main).holds (g.D.Disk.faults self.main)

pub returns-clause-queues : goal.returns-clause-queues
returns-clause-queues g c = let self = c.args.self.now in c.remove_slot.ensures.queues (g.D.Disk.state self.main).holds (g.D.Disk.faults self.main)

pub returns-clause-removals : goal.returns-clause-removals
returns-clause-removals g c = let self = c.args.self.now in c.remove_slot.ensures.removals (g.D.Disk.state self.main).holds (g.D.Disk.faults self.main)

pub returns-clause-keeps : goal.returns-clause-keeps
returns-clause-keeps g c = let self = c.args.self.now in c.remove_slot.ensures.keeps (g.D.Disk.state self.main).holds (g.D.Disk.faults self.main)

pub returns-clause-is : goal.returns-clause-is
returns-clause-is g c = let self = c.args.self.now in c.remove_slot.ensures.is (g.D.Disk.state self.main).holds (g.D.Disk.faults self.main)

pub returns-clause-later : goal.returns-clause-later
returns-clause-later g c =
    let self = c.args.self.now in
    waits_later (parts self.mind [] 0) (parts c.remove_slot.new.mind [] 0) c.args.at c.args.i c.args.after self.mind.turning (c.remove_slot.ensures.is [] 0)
