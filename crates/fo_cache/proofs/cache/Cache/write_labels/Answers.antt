use Rattle.std.proofs.Common.{◌≤◌, [], sym, subst, arith}
use Rattle.fo_buffers.specs.Held.{held_at}
use Rattle.fo_labels.specs.Region.{Region}
use Rattle.fo_mind.specs.Laws.{pinned_held}
use Rattle.fo_mind.specs.MindParts.{parts}
use Rattle.fo_mind.specs.Parts.{count_of}
use Rattle.fo_mind.proofs.Landing.{within_count}
use Rattle.fo_cache.proofs.Labelling.{fits_elsewhere, labels_answered, versions_kept}
use Rattle.fo_cache.proofs.Outcomes.{if_err, if_ok, region_answered, turn_within}
use Rattle.fo_cache.proofs.Firsts.{one_answered}
use Rattle.fo_cache.proofs.Headers.{header_wrote}
use Rattle.fo_cache.proofs.cache.Cache.write_labels.Goals as goal

pub spell_labels-requires-clause-table : goal.spell_labels-requires-clause-table
spell_labels-requires-clause-table g c = let self = c.args.self.now in (self.mind.turning.each c.args.at).begins c.requires.turn

pub write-wrote-requires-clause-block : goal.write-wrote-requires-clause-block
write-wrote-requires-clause-block g c = let self = c.args.self.now in turn_within (parts self.mind [] 0) (g.D.Disk.size self.main) c.args.at self.mind.placed self.sized c.requires.turn

pub wrote-requires-clause-room : goal.wrote-requires-clause-room
wrote-requires-clause-room g c = λ pinned.
    let self = c.args.self.now in
    let x = pinned_held (held_at self.mind.buffers c.args.at) pinned in
    let lo = (self.mind.holding.block c.args.at x.0 x.1).0 in
    let f = self.mind.placed.is_first in
    let lt = c.requires.table in
    absurd (omega (arith, lo, f, lt))

pub invariant_of-self-clause-fits : goal.invariant_of-self-clause-fits
invariant_of-self-clause-fits g c =
    let self = c.args.self.now in
    let p = parts self.mind [] 0 in
    let q = parts c.wrote.new.self [] 0 in
    let r = c.write-wrote.result in
    let landed = if_ok r c.is_ok.ensures.value (λ e. c.wrote.ensures.landed e [] 0) in
    let missed = if_err r c.is_ok.ensures.value (λ e. c.wrote.ensures.missed e [] 0) in
    fits_elsewhere p q c.args.at (within_count c.args.at self.mind.placed c.requires.turn).1 c.requires.table r c.write-wrote.ensures.state landed missed self.fits

pub invariant_of-self-clause-spelled : goal.invariant_of-self-clause-spelled
invariant_of-self-clause-spelled g c =
    let self = c.args.self.now in
    let p = parts self.mind [] 0 in
    let q = parts c.wrote.new.self [] 0 in
    let r = c.write-wrote.result in
    let landed = if_ok r c.is_ok.ensures.value (λ e. c.wrote.ensures.landed e [] 0) in
    let missed = if_err r c.is_ok.ensures.value (λ e. c.wrote.ensures.missed e [] 0) in
    labels_answered p q c.args.at (within_count c.args.at self.mind.placed c.requires.turn).1 (region_answered p q c.args.at r landed missed) r c.write-wrote.ensures.state landed missed (λ lt. c.spell_labels.ensures) self.spelled

pub invariant_of-self-clause-sized : goal.invariant_of-self-clause-sized
invariant_of-self-clause-sized g c =
    let self = c.args.self.now in
    let p = parts self.mind [] 0 in
    let q = parts c.wrote.new.self [] 0 in
    let r = c.write-wrote.result in
    let landed = if_ok r c.is_ok.ensures.value (λ e. c.wrote.ensures.landed e [] 0) in
    let missed = if_err r c.is_ok.ensures.value (λ e. c.wrote.ensures.missed e [] 0) in
    subst (λ n. count_of q.region ≤ n) (sym c.write-wrote.ensures.size)
    (subst (λ (x : Region). count_of x ≤ g.D.Disk.size self.main) (sym (region_answered p q c.args.at r landed missed)) self.sized)

pub returns-clause-wrote : goal.returns-clause-wrote
returns-clause-wrote g c =
    let self = c.args.self.now in
    let r = c.write-wrote.result in
    record {
      bytes = c.spell_labels.new.into;
      held = λ le. let lt = c.requires.table in absurd (omega (arith, lt, le));
      current = λ le. let lt = c.requires.table in absurd (omega (arith, lt, le));
      labels = λ lt. c.spell_labels.ensures;
      device = c.write-wrote.ensures.state;
      landed = if_ok r c.is_ok.ensures.value (λ e. c.wrote.ensures.landed e [] 0);
      missed = if_err r c.is_ok.ensures.value (λ e. c.wrote.ensures.missed e [] 0);
    }

pub returns-clause-others : goal.returns-clause-others
returns-clause-others g c = versions_kept c.write-wrote.result c.write-wrote.ensures.state

pub invariant_of-self-clause-first : goal.invariant_of-self-clause-first
invariant_of-self-clause-first g c =
    let self = c.args.self.now in
    let s = g.D.Disk.state self.main in
    let r = c.write-wrote.result in
    one_answered (parts self.mind [] 0) (parts c.wrote.new.self [] 0) c.args.at s (g.D.Disk.state c.write-wrote.new.self) r c.write-wrote.ensures.state ((self.mind.turning.each c.args.at).begins c.requires.turn)
    (if_ok r c.is_ok.ensures.value (λ e. c.wrote.ensures.landed e [] 0)) (if_err r c.is_ok.ensures.value (λ e. c.wrote.ensures.missed e [] 0)) self.first

pub invariant_of-self-clause-header : goal.invariant_of-self-clause-header
invariant_of-self-clause-header g c =
    let self = c.args.self.now in
    let two = (self.mind.turning.each c.args.at).begins c.requires.turn in
    header_wrote (g.D.Disk.state self.main) (g.D.Disk.state c.write-wrote.new.self) c.args.at (omega (arith, two)) c.write-wrote.result c.write-wrote.ensures.state self.header

pub returns-clause-calls : goal.returns-clause-calls
returns-clause-calls g c = let e = c.write-wrote.ensures.calls in omega (arith, e)
