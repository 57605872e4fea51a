use Rattle.std.proofs.Common.{◌≤◌, [], sym, subst}
use Rattle.fo_labels.specs.Region.{Region}
use Rattle.fo_crash.specs.Images.{Content}
use Rattle.fo_crash.specs.Names.{SameUse}
use Rattle.fo_ports.specs.Blocks.{cost}
use Rattle.fo_mind.specs.MindParts.{parts}
use Rattle.fo_mind.specs.Laws.{held_pinned}
use Rattle.fo_mind.specs.Parts.{count_of}
use Rattle.fo_cache.proofs.Firsts.{one_like}
use Rattle.fo_cache.proofs.Placing.{doubt_slotted, fits_slotted, labels_slotted, one_bytes_slotted, region_slotted, same_pinned}
use Rattle.fo_cache.proofs.cache.Cache.put_slot.Goals as goal

pub put_slot-requires-clause-same_use : goal.put_slot-requires-clause-same_use
put_slot-requires-clause-same_use g c = λ a w.
    let self = c.args.self.now in
    subst (λ (x : Content). SameUse c.args.slot (x.slot c.args.i)) (same_pinned (parts self.mind [] 0) self.mind.first self.mind.count c.args.at (g.D.Disk.state self.main).holds (g.D.Disk.faults self.main) self.mind.placed self.mind.holding c.requires.pinned) (c.requires.same_use a w)

pub put_slot-requires-clause-room : goal.put_slot-requires-clause-room
put_slot-requires-clause-room g c =
    let self = c.args.self.now in
    subst (λ (x : Content). cost (x.slot c.args.i) c.args.slot ≤ self.mind.room) (same_pinned (parts self.mind [] 0) self.mind.first self.mind.count c.args.at (g.D.Disk.state self.main).holds (g.D.Disk.faults self.main) self.mind.placed self.mind.holding c.requires.pinned) c.requires.room

pub invariant_of-self-clause-sized : goal.invariant_of-self-clause-sized
invariant_of-self-clause-sized g c =
    let self = c.args.self.now in
    let s = g.D.Disk.state self.main in
    let p = parts self.mind [] 0 in
    let q = parts c.put_slot.new.mind [] 0 in
    let z = c.put_slot.ensures.slotted [] 0 in
    subst (λ (r : Region). count_of r ≤ g.D.Disk.size self.main) (sym (region_slotted p q self.mind.placed self.mind.holding (held_pinned self.mind.buffers c.args.at c.requires.pinned) z)) self.sized

pub invariant_of-self-clause-fits : goal.invariant_of-self-clause-fits
invariant_of-self-clause-fits g c =
    let self = c.args.self.now in
    let s = g.D.Disk.state self.main in
    let p = parts self.mind [] 0 in
    let q = parts c.put_slot.new.mind [] 0 in
    let z = c.put_slot.ensures.slotted [] 0 in
    fits_slotted p q self.mind.placed self.mind.holding (held_pinned self.mind.buffers c.args.at c.requires.pinned) z s.holds s.unsure self.fits

pub invariant_of-self-clause-spelled : goal.invariant_of-self-clause-spelled
invariant_of-self-clause-spelled g c =
    let self = c.args.self.now in
    let s = g.D.Disk.state self.main in
    let p = parts self.mind [] 0 in
    let q = parts c.put_slot.new.mind [] 0 in
    let z = c.put_slot.ensures.slotted [] 0 in
    labels_slotted p q self.mind.placed self.mind.holding (held_pinned self.mind.buffers c.args.at c.requires.pinned) z s.holds s.unsure self.spelled

pub invariant_of-self-clause-first : goal.invariant_of-self-clause-first
invariant_of-self-clause-first g c =
    let self = c.args.self.now in
    let s = g.D.Disk.state self.main in
    let p = parts self.mind [] 0 in
    let q = parts c.put_slot.new.mind [] 0 in
    let z = c.put_slot.ensures.slotted [] 0 in
    one_like p q s.holds (one_bytes_slotted p q self.mind.placed self.mind.holding (held_pinned self.mind.buffers c.args.at c.requires.pinned) z) (doubt_slotted p q self.mind.placed self.mind.holding (held_pinned self.mind.buffers c.args.at c.requires.pinned) z) self.first

pub returns-clause-now : goal.returns-clause-now
returns-clause-now g c = let self = c.args.self.now in c.put_slot.ensures.now (g.D.Disk.state self.main).holds (g.D.Disk.faults self.main)

pub returns-clause-frame : goal.returns-clause-frame
returns-clause-frame g c = let self = c.args.self.now in c.put_slot.ensures.frame (g.D.Disk.state self.main).holds (g.D.Disk.faults self.main)

pub returns-clause-hangs : goal.returns-clause-hangs
returns-clause-hangs g c = let self = c.args.self.now in c.put_slot.ensures.hangs (g.D.Disk.state self.main).holds (g.D.Disk.faults self.main)

pub returns-clause-order : goal.returns-clause-order
returns-clause-order g c = let self = c.args.self.now in c.put_slot.ensures.order (g.D.Disk.state self.main).holds (g.D.Disk.faults self.main)

pub returns-clause-no_wait : goal.returns-clause-no_wait
returns-clause-no_wait g c = let self = c.args.self.now in c.put_slot.ensures.no_wait (g.D.Disk.state self.main).holds (g.D.Disk.faults self.main)

pub returns-clause-queues : goal.returns-clause-queues
returns-clause-queues g c = let self = c.args.self.now in c.put_slot.ensures.queues (g.D.Disk.state self.main).holds (g.D.Disk.faults self.main)

pub returns-clause-removals : goal.returns-clause-removals
returns-clause-removals g c = let self = c.args.self.now in c.put_slot.ensures.removals (g.D.Disk.state self.main).holds (g.D.Disk.faults self.main)

pub returns-clause-keeps : goal.returns-clause-keeps
returns-clause-keeps g c = let self = c.args.self.now in c.put_slot.ensures.keeps (g.D.Disk.state self.main).holds (g.D.Disk.faults self.main)

pub returns-clause-links : goal.returns-clause-links
returns-clause-links g c = let self = c.args.self.now in c.put_slot.ensures.links (g.D.Disk.state self.main).holds (g.D.Disk.faults self.main)
