use Rattle.std.proofs.Common.{◌≤◌, [], sym, subst}
use Rattle.fo_labels.specs.Region.{Region, usable_count}
use Rattle.fo_mind.specs.Roomed.{Grown, Roomed}
use Rattle.fo_mind.specs.MindParts.{parts}
use Rattle.fo_mind.specs.Parts.{count_of}
use Rattle.fo_cache.proofs.Firsts.{one_like}
use Rattle.fo_cache.proofs.Placing.{err_at, fit_roomed, ok_at}
use Rattle.fo_cache.proofs.cache.Cache.make_room.Goals as goal

pub invariant_of-self-clause-sized : goal.invariant_of-self-clause-sized
invariant_of-self-clause-sized g c =
    let self = c.args.self.now in
    let s = g.D.Disk.state self.main in
    let p = parts self.mind [] 0 in
    let q = parts c.make_room.new.self [] 0 in
    let z = fit_roomed (λ d f. parts self.mind d f) (λ d f. parts c.make_room.new.self d f) c.make_room.result (usable_count p.one.low p.region) c.args.blocks c.args.pins c.args.removals c.make_room.ensures.few c.make_room.ensures.made c.make_room.ensures.err in
    subst (λ (r : Region). count_of r ≤ g.D.Disk.size self.main) (sym z.region) self.sized

pub invariant_of-self-clause-fits : goal.invariant_of-self-clause-fits
invariant_of-self-clause-fits g c =
    let self = c.args.self.now in
    let s = g.D.Disk.state self.main in
    let p = parts self.mind [] 0 in
    let q = parts c.make_room.new.self [] 0 in
    let z = fit_roomed (λ d f. parts self.mind d f) (λ d f. parts c.make_room.new.self d f) c.make_room.result (usable_count p.one.low p.region) c.args.blocks c.args.pins c.args.removals c.make_room.ensures.few c.make_room.ensures.made c.make_room.ensures.err in
    z.fits s.holds s.unsure self.fits

pub invariant_of-self-clause-spelled : goal.invariant_of-self-clause-spelled
invariant_of-self-clause-spelled g c =
    let self = c.args.self.now in
    let s = g.D.Disk.state self.main in
    let p = parts self.mind [] 0 in
    let q = parts c.make_room.new.self [] 0 in
    let z = fit_roomed (λ d f. parts self.mind d f) (λ d f. parts c.make_room.new.self d f) c.make_room.result (usable_count p.one.low p.region) c.args.blocks c.args.pins c.args.removals c.make_room.ensures.few c.make_room.ensures.made c.make_room.ensures.err in
    z.labels s.holds s.unsure self.spelled

pub invariant_of-self-clause-first : goal.invariant_of-self-clause-first
invariant_of-self-clause-first g c =
    let self = c.args.self.now in
    let s = g.D.Disk.state self.main in
    let p = parts self.mind [] 0 in
    let q = parts c.make_room.new.self [] 0 in
    let z = fit_roomed (λ d f. parts self.mind d f) (λ d f. parts c.make_room.new.self d f) c.make_room.result (usable_count p.one.low p.region) c.args.blocks c.args.pins c.args.removals c.make_room.ensures.few c.make_room.ensures.made c.make_room.ensures.err in
    one_like p q s.holds z.one_bytes z.doubt self.first

pub returns-clause-few : goal.returns-clause-few
returns-clause-few g c = λ lt. ((c.make_room.ensures.few lt).0, (c.make_room.ensures.few lt).1 [] 0)

pub returns-clause-made : goal.returns-clause-made
returns-clause-made g c = λ le. ok_at (λ d f. Roomed c.args.blocks c.args.pins c.args.removals (parts c.args.self.now.mind d f) (parts c.make_room.new.self d f)) c.make_room.result (c.make_room.ensures.made le)

pub returns-clause-err : goal.returns-clause-err
returns-clause-err g c = err_at (λ d f. Grown (parts c.args.self.now.mind d f) (parts c.make_room.new.self d f)) c.make_room.result c.make_room.ensures.err
