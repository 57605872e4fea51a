use Rattle.std.proofs.Common.{[], false, true, sym, ◌∙◌, ◌≡◌}
use Rattle.fo_buffers.specs.Held.{held_at}
use Rattle.fo_mind.specs.MindParts.{parts}
use Rattle.fo_mind.proofs.Keeping.{roomy_same}
use Rattle.fo_mind.proofs.Releasing.{cuts_of, given_up, holding_cut, if_free, may_be, owing_cut, turning_cut, waiting_cut}
use Rattle.fo_mind.proofs.Standing.{standing_cut}
use Rattle.fo_mind.proofs.Changing.{changing_gone}
use Rattle.fo_mind.proofs.mind.Mind.release.Goals as goal

clash : {A : Type 0} {b : _} → b ≡ true → b ≡ false → A
clash e f = cc

pub release-requires : goal.release-requires
release-requires c =
    let self = c.args.self.now in
    let m = may_be (parts self [] 0) c.args.at (sym c.may_release.ensures ∙ c.if-may_release.true) in
    if_free (held_at self.buffers c.args.at) m.was m.held m.unchanged m.free

pub invariant_of-self-clause-holding : goal.invariant_of-self-clause-holding
invariant_of-self-clause-holding c =
    let self = c.args.self.now in
    let m = may_be (parts self [] 0) c.args.at (sym c.may_release.ensures ∙ c.if-may_release.true) in
    let r = given_up (parts self [] 0) c.args.at c.release.new.self m c.release.ensures.is c.release.ensures.alone in
    let k = cuts_of c.args.at self.buffers c.release.new.self r.was.block r.is in
    holding_cut k self.holding

pub invariant_of-self-clause-waiting : goal.invariant_of-self-clause-waiting
invariant_of-self-clause-waiting c =
    let self = c.args.self.now in
    let m = may_be (parts self [] 0) c.args.at (sym c.may_release.ensures ∙ c.if-may_release.true) in
    let r = given_up (parts self [] 0) c.args.at c.release.new.self m c.release.ensures.is c.release.ensures.alone in
    let k = cuts_of c.args.at self.buffers c.release.new.self r.was.block r.is in
    waiting_cut k self.waits.items m.unawaited self.waiting

pub invariant_of-self-clause-owing : goal.invariant_of-self-clause-owing
invariant_of-self-clause-owing c =
    let self = c.args.self.now in
    let m = may_be (parts self [] 0) c.args.at (sym c.may_release.ensures ∙ c.if-may_release.true) in
    let r = given_up (parts self [] 0) c.args.at c.release.new.self m c.release.ensures.is c.release.ensures.alone in
    let k = cuts_of c.args.at self.buffers c.release.new.self r.was.block r.is in
    owing_cut k self.owing

pub invariant_of-self-clause-roomy : goal.invariant_of-self-clause-roomy
invariant_of-self-clause-roomy c =
    let self = c.args.self.now in
    let m = may_be (parts self [] 0) c.args.at (sym c.may_release.ensures ∙ c.if-may_release.true) in
    let r = given_up (parts self [] 0) c.args.at c.release.new.self m c.release.ensures.is c.release.ensures.alone in
    let k = cuts_of c.args.at self.buffers c.release.new.self r.was.block r.is in
    roomy_same k.room self.roomy

pub invariant_of-self-clause-turning : goal.invariant_of-self-clause-turning
invariant_of-self-clause-turning c =
    let self = c.args.self.now in
    let m = may_be (parts self [] 0) c.args.at (sym c.may_release.ensures ∙ c.if-may_release.true) in
    let r = given_up (parts self [] 0) c.args.at c.release.new.self m c.release.ensures.is c.release.ensures.alone in
    let k = cuts_of c.args.at self.buffers c.release.new.self r.was.block r.is in
    turning_cut k m.calm m.settled self.turning

pub invariant_of-self-clause-standing : goal.invariant_of-self-clause-standing
invariant_of-self-clause-standing c =
    let self = c.args.self.now in
    let m = may_be (parts self [] 0) c.args.at (sym c.may_release.ensures ∙ c.if-may_release.true) in
    let r = given_up (parts self [] 0) c.args.at c.release.new.self m c.release.ensures.is c.release.ensures.alone in
    let k = cuts_of c.args.at self.buffers c.release.new.self r.was.block r.is in
    standing_cut k.others m.linked m.uncleared self.standing

pub invariant_of-self-clause-changing : goal.invariant_of-self-clause-changing
invariant_of-self-clause-changing c =
    let self = c.args.self.now in
    let m = may_be (parts self [] 0) c.args.at (sym c.may_release.ensures ∙ c.if-may_release.true) in
    let r = given_up (parts self [] 0) c.args.at c.release.new.self m c.release.ensures.is c.release.ensures.alone in
    let k = cuts_of c.args.at self.buffers c.release.new.self r.was.block r.is in
    changing_gone k.others k.here self.changing
