use Rattle.std.proofs.Common.{◌≤◌, [], length, sym, ap, ◌∙◌, subst}
use Rattle.std.proofs.lemmas.List.{length-append}
use Rattle.fo_labels.specs.Region.{Region}
use Rattle.fo_mind.specs.MindParts.{parts}
use Rattle.fo_mind.specs.Parts.{Parts, count_of}
use Rattle.fo_cache.proofs.Firsts.{one_like}
use Rattle.fo_cache.proofs.Placing.{fit_beside}
use Rattle.fo_cache.proofs.cache.Cache.retire.Goals as goal

pub invariant_of-self-clause-sized : goal.invariant_of-self-clause-sized
invariant_of-self-clause-sized g c =
    let self = c.args.self.now in
    let s = g.D.Disk.state self.main in
    let p = parts self.mind [] 0 in
    let q = parts c.retire.new.self [] 0 in
    let z = let is = c.retire.ensures.rest [] 0 in fit_beside p q (ap (λ (y : Parts). y.region) is) (ap (λ (y : Parts). y.one_bytes) is) (ap (λ (y : Parts). y.doubt) is) (ap (λ (y : Parts). y.held) is) (ap (λ (y : Parts). y.turns) is) in
    subst (λ (r : Region). count_of r ≤ g.D.Disk.size self.main) (sym z.region) self.sized

pub invariant_of-self-clause-fits : goal.invariant_of-self-clause-fits
invariant_of-self-clause-fits g c =
    let self = c.args.self.now in
    let s = g.D.Disk.state self.main in
    let p = parts self.mind [] 0 in
    let q = parts c.retire.new.self [] 0 in
    let z = let is = c.retire.ensures.rest [] 0 in fit_beside p q (ap (λ (y : Parts). y.region) is) (ap (λ (y : Parts). y.one_bytes) is) (ap (λ (y : Parts). y.doubt) is) (ap (λ (y : Parts). y.held) is) (ap (λ (y : Parts). y.turns) is) in
    z.fits s.holds s.unsure self.fits

pub invariant_of-self-clause-spelled : goal.invariant_of-self-clause-spelled
invariant_of-self-clause-spelled g c =
    let self = c.args.self.now in
    let s = g.D.Disk.state self.main in
    let p = parts self.mind [] 0 in
    let q = parts c.retire.new.self [] 0 in
    let z = let is = c.retire.ensures.rest [] 0 in fit_beside p q (ap (λ (y : Parts). y.region) is) (ap (λ (y : Parts). y.one_bytes) is) (ap (λ (y : Parts). y.doubt) is) (ap (λ (y : Parts). y.held) is) (ap (λ (y : Parts). y.turns) is) in
    z.labels s.holds s.unsure self.spelled

pub invariant_of-self-clause-first : goal.invariant_of-self-clause-first
invariant_of-self-clause-first g c =
    let self = c.args.self.now in
    let s = g.D.Disk.state self.main in
    let p = parts self.mind [] 0 in
    let q = parts c.retire.new.self [] 0 in
    let z = let is = c.retire.ensures.rest [] 0 in fit_beside p q (ap (λ (y : Parts). y.region) is) (ap (λ (y : Parts). y.one_bytes) is) (ap (λ (y : Parts). y.doubt) is) (ap (λ (y : Parts). y.held) is) (ap (λ (y : Parts). y.turns) is) in
    one_like p q s.holds z.one_bytes z.doubt self.first

pub returns-clause-now : goal.returns-clause-now
returns-clause-now g c = let self = c.args.self.now in c.retire.ensures.now (g.D.Disk.state self.main).holds (g.D.Disk.faults self.main)

pub returns-clause-frame : goal.returns-clause-frame
returns-clause-frame g c = let self = c.args.self.now in c.retire.ensures.frame (g.D.Disk.state self.main).holds (g.D.Disk.faults self.main)

pub returns-clause-order : goal.returns-clause-order
returns-clause-order g c = let self = c.args.self.now in c.retire.ensures.order (g.D.Disk.state self.main).holds (g.D.Disk.faults self.main)

pub returns-clause-no_wait : goal.returns-clause-no_wait
returns-clause-no_wait g c = let self = c.args.self.now in c.retire.ensures.no_wait (g.D.Disk.state self.main).holds (g.D.Disk.faults self.main)

pub returns-clause-removals : goal.returns-clause-removals
returns-clause-removals g c = let self = c.args.self.now in c.retire.ensures.removals (g.D.Disk.state self.main).holds (g.D.Disk.faults self.main)

pub returns-clause-keeps : goal.returns-clause-keeps
returns-clause-keeps g c = let self = c.args.self.now in c.retire.ensures.keeps (g.D.Disk.state self.main).holds (g.D.Disk.faults self.main)

pub returns-clause-queues : goal.returns-clause-queues
returns-clause-queues g c =
    let self = c.args.self.now in
    let is = c.retire.ensures.rest [] 0 in
    ap (λ (y : Parts). length y.removals) is ∙ length-append self.mind.queue.removals _
