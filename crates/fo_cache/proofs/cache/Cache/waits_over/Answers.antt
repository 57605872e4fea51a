use Rattle.std.proofs.Common.{◌≤◌, [], sym, ap, subst}
use Rattle.fo_labels.specs.Region.{Region}
use Rattle.fo_mind.specs.MindParts.{parts}
use Rattle.fo_mind.specs.Parts.{Parts, count_of}
use Rattle.fo_cache.proofs.Easing.{eases_waits}
use Rattle.fo_cache.specs.Easing.{Eases}
use Rattle.fo_cache.proofs.Firsts.{one_like}
use Rattle.fo_cache.proofs.Placing.{fit_beside}
use Rattle.fo_cache.proofs.cache.Cache.waits_over.Goals as goal

pub invariant_of-self-clause-sized : goal.invariant_of-self-clause-sized
invariant_of-self-clause-sized g c =
    let self = c.args.self.now in
    let s = g.D.Disk.state self.main in
    let p = parts self.mind [] 0 in
    let q = parts c.waits_over.new.self [] 0 in
    let e = c.waits_over.ensures [] 0 in
    let z = fit_beside p q (ap (λ (y : Parts). y.region) e) (ap (λ (y : Parts). y.one_bytes) e) (ap (λ (y : Parts). y.doubt) e) (ap (λ (y : Parts). y.held) e) (ap (λ (y : Parts). y.turns) e) in
    subst (λ (r : Region). count_of r ≤ g.D.Disk.size self.main) (sym z.region) self.sized

pub invariant_of-self-clause-fits : goal.invariant_of-self-clause-fits
invariant_of-self-clause-fits g c =
    let self = c.args.self.now in
    let s = g.D.Disk.state self.main in
    let p = parts self.mind [] 0 in
    let q = parts c.waits_over.new.self [] 0 in
    let e = c.waits_over.ensures [] 0 in
    let z = fit_beside p q (ap (λ (y : Parts). y.region) e) (ap (λ (y : Parts). y.one_bytes) e) (ap (λ (y : Parts). y.doubt) e) (ap (λ (y : Parts). y.held) e) (ap (λ (y : Parts). y.turns) e) in
    z.fits s.holds s.unsure self.fits

pub invariant_of-self-clause-spelled : goal.invariant_of-self-clause-spelled
invariant_of-self-clause-spelled g c =
    let self = c.args.self.now in
    let s = g.D.Disk.state self.main in
    let p = parts self.mind [] 0 in
    let q = parts c.waits_over.new.self [] 0 in
    let e = c.waits_over.ensures [] 0 in
    let z = fit_beside p q (ap (λ (y : Parts). y.region) e) (ap (λ (y : Parts). y.one_bytes) e) (ap (λ (y : Parts). y.doubt) e) (ap (λ (y : Parts). y.held) e) (ap (λ (y : Parts). y.turns) e) in
    z.labels s.holds s.unsure self.spelled

pub invariant_of-self-clause-first : goal.invariant_of-self-clause-first
invariant_of-self-clause-first g c =
    let self = c.args.self.now in
    let s = g.D.Disk.state self.main in
    let p = parts self.mind [] 0 in
    let q = parts c.waits_over.new.self [] 0 in
    let e = c.waits_over.ensures [] 0 in
    let z = fit_beside p q (ap (λ (y : Parts). y.region) e) (ap (λ (y : Parts). y.one_bytes) e) (ap (λ (y : Parts). y.doubt) e) (ap (λ (y : Parts). y.held) e) (ap (λ (y : Parts). y.turns) e) in
    one_like p q s.holds z.one_bytes z.doubt self.first

pub returns-clause-over : goal.returns-clause-over
returns-clause-over g c = c.waits_over.ensures [] 0

pub returns-clause-eases : goal.returns-clause-eases
returns-clause-eases g c =
    let self = c.args.self.now in
    let h = (g.D.Disk.state self.main).holds in
    let f = g.D.Disk.faults self.main in
    subst (Eases (parts self.mind h f)) (sym (c.waits_over.ensures h f)) (eases_waits (parts self.mind h f))
