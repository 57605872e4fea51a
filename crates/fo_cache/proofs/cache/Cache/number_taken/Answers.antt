use Rattle.std.proofs.Common.{◌≤◌, [], length, sym, ap, subst}
use Rattle.fo_labels.specs.Region.{Region}
use Rattle.fo_mind.specs.MindParts.{parts}
use Rattle.fo_mind.specs.Parts.{IsDirty, Parts, Removes, count_of}
use Rattle.fo_cache.proofs.Firsts.{one_like}
use Rattle.fo_cache.proofs.Placing.{fit_beside}
use Rattle.fo_cache.proofs.cache.Cache.number_taken.Goals as goal

pub invariant_of-self-clause-sized : goal.invariant_of-self-clause-sized
invariant_of-self-clause-sized g c =
    let self = c.args.self.now in
    let s = g.D.Disk.state self.main in
    let p = parts self.mind [] 0 in
    let q = parts c.number_taken.new.self [] 0 in
    let z = let is = c.number_taken.ensures.rest [] 0 in fit_beside p q (ap (λ (y : Parts). y.region) is) (ap (λ (y : Parts). y.one_bytes) is) (ap (λ (y : Parts). y.doubt) is) (ap (λ (y : Parts). y.held) is) (ap (λ (y : Parts). y.turns) is) in
    subst (λ (r : Region). count_of r ≤ g.D.Disk.size self.main) (sym z.region) self.sized

pub invariant_of-self-clause-fits : goal.invariant_of-self-clause-fits
invariant_of-self-clause-fits g c =
    let self = c.args.self.now in
    let s = g.D.Disk.state self.main in
    let p = parts self.mind [] 0 in
    let q = parts c.number_taken.new.self [] 0 in
    let z = let is = c.number_taken.ensures.rest [] 0 in fit_beside p q (ap (λ (y : Parts). y.region) is) (ap (λ (y : Parts). y.one_bytes) is) (ap (λ (y : Parts). y.doubt) is) (ap (λ (y : Parts). y.held) is) (ap (λ (y : Parts). y.turns) is) in
    z.fits s.holds s.unsure self.fits

pub invariant_of-self-clause-spelled : goal.invariant_of-self-clause-spelled
invariant_of-self-clause-spelled g c =
    let self = c.args.self.now in
    let s = g.D.Disk.state self.main in
    let p = parts self.mind [] 0 in
    let q = parts c.number_taken.new.self [] 0 in
    let z = let is = c.number_taken.ensures.rest [] 0 in fit_beside p q (ap (λ (y : Parts). y.region) is) (ap (λ (y : Parts). y.one_bytes) is) (ap (λ (y : Parts). y.doubt) is) (ap (λ (y : Parts). y.held) is) (ap (λ (y : Parts). y.turns) is) in
    z.labels s.holds s.unsure self.spelled

pub invariant_of-self-clause-first : goal.invariant_of-self-clause-first
invariant_of-self-clause-first g c =
    let self = c.args.self.now in
    let s = g.D.Disk.state self.main in
    let p = parts self.mind [] 0 in
    let q = parts c.number_taken.new.self [] 0 in
    let z = let is = c.number_taken.ensures.rest [] 0 in fit_beside p q (ap (λ (y : Parts). y.region) is) (ap (λ (y : Parts). y.one_bytes) is) (ap (λ (y : Parts). y.doubt) is) (ap (λ (y : Parts). y.held) is) (ap (λ (y : Parts). y.turns) is) in
    one_like p q s.holds z.one_bytes z.doubt self.first

pub returns-clause-now : goal.returns-clause-now
returns-clause-now g c = let self = c.args.self.now in c.number_taken.ensures.now (g.D.Disk.state self.main).holds (g.D.Disk.faults self.main)

pub returns-clause-stays : goal.returns-clause-stays
returns-clause-stays g c = let self = c.args.self.now in c.number_taken.ensures.stays (g.D.Disk.state self.main).holds (g.D.Disk.faults self.main)

pub returns-clause-uses : goal.returns-clause-uses
returns-clause-uses g c = let self = c.args.self.now in c.number_taken.ensures.uses (g.D.Disk.state self.main).holds (g.D.Disk.faults self.main)

pub returns-clause-order : goal.returns-clause-order
returns-clause-order g c = let self = c.args.self.now in c.number_taken.ensures.order (g.D.Disk.state self.main).holds (g.D.Disk.faults self.main)

pub returns-clause-covered : goal.returns-clause-covered
returns-clause-covered g c = let self = c.args.self.now in c.number_taken.ensures.covered (g.D.Disk.state self.main).holds (g.D.Disk.faults self.main)

pub returns-clause-no_wait : goal.returns-clause-no_wait
returns-clause-no_wait g c = let self = c.args.self.now in c.number_taken.ensures.no_wait (g.D.Disk.state self.main).holds (g.D.Disk.faults self.main)

pub returns-clause-keeps : goal.returns-clause-keeps
returns-clause-keeps g c = let self = c.args.self.now in c.number_taken.ensures.keeps (g.D.Disk.state self.main).holds (g.D.Disk.faults self.main)

pub returns-clause-queued : goal.returns-clause-queued
returns-clause-queued g c = ap (λ (z : Parts). length z.removals) (c.number_taken.ensures.rest [] 0)

pub returns-clause-no_removal : goal.returns-clause-no_removal
returns-clause-no_removal g c = record { each = λ b e whole h. subst (λ (z : Parts). Removes z.removals b e whole) (c.number_taken.ensures.rest [] 0) h }

pub returns-clause-dirty : goal.returns-clause-dirty
returns-clause-dirty g c = λ b d. subst (λ (z : Parts). IsDirty z.turns z.held b) (c.number_taken.ensures.rest [] 0) d
