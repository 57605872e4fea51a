use Rattle.std.proofs.Common.{[], length, ap, ◌∙◌}
use Rattle.fo_disk.specs.Disk.{versions_of}
use Rattle.fo_mind.specs.MindParts.{parts}
use Rattle.fo_mind.specs.Parts.{Parts}
use Rattle.fo_reserving.proofs.of_settling.Clearing.{lasts_waited}
use Rattle.fo_reserving.proofs.Ending.{held_newborn}
use Rattle.fo_reserving.proofs.Joining.{reserves_eased, reserves_on}
use Rattle.fo_ending.proofs.Draining.{at_rest, bytes_rested, quiet_rested, rest_is, waits_none}
use Rattle.fo_ending.proofs.drain.come_to_rest.Goals as goal

pub returns-clause-quiet : goal.returns-clause-quiet
returns-clause-quiet g c =
    quiet_rested (parts c.args.cache.now.mind [] 0) (parts c.waits_over.new.self.mind [] 0) (parts c.give_up_all.new.cache.mind [] 0) c.waits_over.ensures.over c.give_up_all.ensures.lets c.requires.settled

pub returns-clause-calm : goal.returns-clause-calm
returns-clause-calm g c =
    let p = parts c.args.cache.now.mind [] 0 in
    let m = parts c.waits_over.new.self.mind [] 0 in
    let mind = c.give_up_all.new.cache.mind in
    let q = parts mind [] 0 in
    let over = c.waits_over.ensures.over in
    let l = c.give_up_all.ensures.lets in
    let rest = at_rest p m q over l c.requires.settled c.give_up_all.ensures.all.free in
    record {
      rest = rest;
      held = held_newborn q mind.placed mind.holding mind.turning (quiet_rested p m q over l c.requires.settled) rest.free (waits_none p m q over l) rest.none c.give_up_all.ensures.all.none;
    }

pub returns-clause-queue : goal.returns-clause-queue
returns-clause-queue g c =
    ap (λ (z : Parts). z.removals) (rest_is (parts c.args.cache.now.mind [] 0) (parts c.waits_over.new.self.mind [] 0) (parts c.give_up_all.new.cache.mind [] 0) c.waits_over.ensures.over c.give_up_all.ensures.lets)

pub returns-clause-steps : goal.returns-clause-steps
returns-clause-steps g c =
    let old = c.args.cache.now in
    let mid = c.waits_over.new.self in
    let new = c.give_up_all.new.cache in
    let is = rest_is (parts old.mind [] 0) (parts mid.mind [] 0) (parts new.mind [] 0) c.waits_over.ensures.over c.give_up_all.ensures.lets in
    let device = c.give_up_all.ensures.device ∙ c.waits_over.ensures.device in
    record {
      one = ap (λ (z : Parts). z.one) is;
      clears = ap (λ (z : Parts). z.clears) is;
      bytes = bytes_rested (parts old.mind [] 0) (parts mid.mind [] 0) (parts new.mind [] 0) c.waits_over.ensures.over c.give_up_all.ensures.lets
          (g.D.Disk.state old.main) (g.D.Disk.state new.main) (g.D.Disk.faults old.main) (g.D.Disk.faults new.main) (ap g.D.Disk.state device) old.fits new.fits;
      header = ap (λ m. versions_of (g.D.Disk.state m).holds 0) device;
      count = ap (λ m. length (g.D.Disk.state m).holds) device;
      leaves = reserves_on
          (reserves_eased {q = parts mid.mind (g.D.Disk.state mid.main).holds (g.D.Disk.faults mid.main)} c.waits_over.ensures.eases
          (lasts_waited (parts old.mind [] 0) (parts mid.mind [] 0) (g.D.Disk.state old.main).holds (g.D.Disk.state mid.main).holds (g.D.Disk.faults old.main) (g.D.Disk.faults mid.main) (ap (λ m. (g.D.Disk.state m).holds) c.waits_over.ensures.device) c.waits_over.ensures.over))
          c.give_up_all.ensures.leaves;
    }
