use Rattle.std.proofs.Common.{[], ap}
use Rattle.fo_labels.specs.Region.{usable_count}
use Rattle.fo_closing.specs.of_mind.MindParts.{parts}
use Rattle.fo_reserving.proofs.Joining.{reserves_still}
use Rattle.fo_reserving.proofs.Rooming.{few_of, few_stay, free_made, reserves_made, room_of}
use Rattle.fo_reserving.proofs.needs.make.Goals as goal

pub returns-clause-leaves : goal.returns-clause-leaves
returns-clause-leaves g c =
    let old = c.args.cache.now in
    let new = c.make_room.new.self in
    let e = c.make_room.ensures in
    let p = parts old.mind [] 0 in
    let q = parts new.mind [] 0 in
    reserves_still p q (ap (λ m. (g.D.Disk.state m).holds) e.device) (ap (λ m. g.D.Disk.faults m) e.device)
    (reserves_made p q (g.D.Disk.state old.main).holds (g.D.Disk.faults old.main) c.make_room.result (usable_count p.one.low p.region) c.args.blocks c.args.pins c.args.removals e.few e.made e.err)

pub returns-clause-none : goal.returns-clause-none
returns-clause-none g c =
    let e = c.make_room.ensures in
    let p = parts c.args.cache.now.mind [] 0 in
    let q = parts c.make_room.new.self.mind [] 0 in
    free_made p q [] 0 c.make_room.result (usable_count p.one.low p.region) c.args.blocks c.args.pins c.args.removals e.few e.made e.err c.requires.none

pub returns-clause-made : goal.returns-clause-made
returns-clause-made g c =
    let e = c.make_room.ensures in
    let p = parts c.args.cache.now.mind [] 0 in
    let q = parts c.make_room.new.self.mind [] 0 in
    room_of p q [] 0 c.make_room.result (usable_count p.one.low p.region) c.args.blocks c.args.pins c.args.removals e.few e.made e.err

pub returns-clause-few : goal.returns-clause-few
returns-clause-few g c =
    let e = c.make_room.ensures in
    let p = parts c.args.cache.now.mind [] 0 in
    let q = parts c.make_room.new.self.mind [] 0 in
    few_of p q [] 0 c.make_room.result (usable_count p.one.low p.region) c.args.blocks c.args.pins c.args.removals e.few e.made e.err e.is

pub returns-clause-few_stay : goal.returns-clause-few_stay
returns-clause-few_stay g c =
    let e = c.make_room.ensures in
    let p = parts c.args.cache.now.mind [] 0 in
    let q = parts c.make_room.new.self.mind [] 0 in
    few_stay p q [] 0 c.make_room.result (usable_count p.one.low p.region) c.args.blocks c.args.pins c.args.removals e.few e.made e.err
