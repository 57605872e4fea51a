use Rattle.std.proofs.Common.{◌≤◌, [], sym, subst}
use Rattle.fo_labels.specs.Region.{Region}
use Rattle.fo_mind.specs.MindParts.{parts}
use Rattle.fo_mind.specs.Parts.{count_of}
use Rattle.fo_cache.proofs.Clearing.{eases_due, fewer_due}
use Rattle.fo_cache.proofs.Firsts.{one_like}
use Rattle.fo_cache.proofs.Lessening.{due_left}
use Rattle.fo_cache.proofs.Placing.{fit_due}
use Rattle.fo_cache.proofs.cache.Cache.clear_due.Goals as goal

pub invariant_of-self-clause-sized : goal.invariant_of-self-clause-sized
invariant_of-self-clause-sized g c =
    let self = c.args.self.now in
    let s = g.D.Disk.state self.main in
    let p = parts self.mind [] 0 in
    let q = parts c.clear_due.new.self [] 0 in
    let some = self.mind.standing.still c.args.at c.args.i c.requires.waits in
    let z = fit_due p q self.mind.placed self.mind.holding some (c.clear_due.ensures [] 0) in
    subst (λ (r : Region). count_of r ≤ g.D.Disk.size self.main) (sym z.region) self.sized

pub invariant_of-self-clause-fits : goal.invariant_of-self-clause-fits
invariant_of-self-clause-fits g c =
    let self = c.args.self.now in
    let s = g.D.Disk.state self.main in
    let p = parts self.mind [] 0 in
    let q = parts c.clear_due.new.self [] 0 in
    let some = self.mind.standing.still c.args.at c.args.i c.requires.waits in
    let z = fit_due p q self.mind.placed self.mind.holding some (c.clear_due.ensures [] 0) in
    z.fits s.holds s.unsure self.fits

pub invariant_of-self-clause-spelled : goal.invariant_of-self-clause-spelled
invariant_of-self-clause-spelled g c =
    let self = c.args.self.now in
    let s = g.D.Disk.state self.main in
    let p = parts self.mind [] 0 in
    let q = parts c.clear_due.new.self [] 0 in
    let some = self.mind.standing.still c.args.at c.args.i c.requires.waits in
    let z = fit_due p q self.mind.placed self.mind.holding some (c.clear_due.ensures [] 0) in
    z.labels s.holds s.unsure self.spelled

pub invariant_of-self-clause-first : goal.invariant_of-self-clause-first
invariant_of-self-clause-first g c =
    let self = c.args.self.now in
    let s = g.D.Disk.state self.main in
    let p = parts self.mind [] 0 in
    let q = parts c.clear_due.new.self [] 0 in
    let some = self.mind.standing.still c.args.at c.args.i c.requires.waits in
    let z = fit_due p q self.mind.placed self.mind.holding some (c.clear_due.ensures [] 0) in
    one_like p q s.holds z.one_bytes z.doubt self.first

pub returns-clause-cleared : goal.returns-clause-cleared
returns-clause-cleared g c = c.clear_due.ensures

pub returns-clause-eases : goal.returns-clause-eases
returns-clause-eases g c =
    let self = c.args.self.now in
    let h = (g.D.Disk.state self.main).holds in
    let f = g.D.Disk.faults self.main in
    let some = self.mind.standing.still c.args.at c.args.i c.requires.waits in
    eases_due (parts self.mind h f) (parts c.clear_due.new.self h f) self.mind.first self.mind.count c.args.at c.args.i self.mind.placed self.mind.holding some c.requires.waits (c.clear_due.ensures h f)

pub returns-clause-fewer : goal.returns-clause-fewer
returns-clause-fewer g c =
    let self = c.args.self.now in
    let some = self.mind.standing.still c.args.at c.args.i c.requires.waits in
    fewer_due (parts self.mind [] 0) (parts c.clear_due.new.self [] 0) self.mind.first self.mind.count c.args.at c.args.i self.mind.placed self.mind.holding some c.requires.waits (c.clear_due.ensures [] 0)

pub returns-clause-left : goal.returns-clause-left
returns-clause-left g c =
    let self = c.args.self.now in
    let p = parts self.mind [] 0 in
    let q = parts c.clear_due.new.self [] 0 in
    let some = self.mind.standing.still c.args.at c.args.i c.requires.waits in
    let due = c.clear_due.ensures [] 0 in
    due_left p q c.args.at c.args.i due (fit_due p q self.mind.placed self.mind.holding some due).doubt (fewer_due p q self.mind.first self.mind.count c.args.at c.args.i self.mind.placed self.mind.holding some c.requires.waits due)
