use Rattle.std.proofs.Common.{[], ◌≤◌, sym, subst, arith}
use Rattle.fo_labels.specs.Region.{Region}
use Rattle.fo_mind.specs.MindParts.{parts}
use Rattle.fo_mind.specs.Parts.{count_of}
use Rattle.fo_cache.proofs.Outcomes.{fits_answered, if_err, if_ok, last_written, others_written, region_answered, turn_held, turn_within}
use Rattle.fo_mind.proofs.Changing.{turn_current}
use Rattle.fo_mind.proofs.Landing.{within_count}
use Rattle.fo_cache.proofs.Labelling.{labels_answered}
use Rattle.fo_cache.proofs.Firsts.{one_answered}
use Rattle.fo_cache.proofs.Headers.{header_wrote}
use Rattle.fo_cache.proofs.cache.Cache.write_data.Goals as goal

pub bytes_of-requires : goal.bytes_of-requires
bytes_of-requires g c = let self = c.args.self.now in turn_held (parts self.mind [] 0) c.args.at self.mind.turning c.requires.turn (subst (λ n. n ≤ c.args.at) self.mind.placed.is_first c.requires.data)

pub write-wrote-requires-clause-block : goal.write-wrote-requires-clause-block
write-wrote-requires-clause-block g c = let self = c.args.self.now in turn_within (parts self.mind [] 0) (g.D.Disk.size self.main) c.args.at self.mind.placed self.sized c.requires.turn

pub invariant_of-self-clause-fits : goal.invariant_of-self-clause-fits
invariant_of-self-clause-fits g c =
    let self = c.args.self.now in
    let r = c.write-wrote.result in
    fits_answered (parts self.mind [] 0) (parts c.wrote.new.self [] 0) self.mind.placed self.mind.turning c.requires.turn (subst (λ n. n ≤ c.args.at) self.mind.placed.is_first c.requires.data) c.bytes_of.ensures.value r c.write-wrote.ensures.state
    (if_ok r c.is_ok-ok.ensures.value (λ e. c.wrote.ensures.landed e [] 0)) (if_err r c.is_ok-ok.ensures.value (λ e. c.wrote.ensures.missed e [] 0)) self.fits

pub invariant_of-self-clause-sized : goal.invariant_of-self-clause-sized
invariant_of-self-clause-sized g c =
    let self = c.args.self.now in
    let r = c.write-wrote.result in
    subst (λ n. count_of (parts c.wrote.new.self [] 0).region ≤ n) (sym c.write-wrote.ensures.size)
    (subst (λ (x : Region). count_of x ≤ g.D.Disk.size self.main) (sym (region_answered (parts self.mind [] 0) (parts c.wrote.new.self [] 0) c.args.at r (if_ok r c.is_ok-ok.ensures.value (λ e. c.wrote.ensures.landed e [] 0)) (if_err r c.is_ok-ok.ensures.value (λ e. c.wrote.ensures.missed e [] 0)))) self.sized)

pub returns-clause-wrote : goal.returns-clause-wrote
returns-clause-wrote g c =
    let self = c.args.self.now in
    let r = c.write-wrote.result in
    record {
      bytes = c.bytes_of.result.now;
      held = λ le. c.bytes_of.ensures.value;
      current = λ le. turn_current self.mind.facts self.mind.changing self.mind.turning (subst (λ n. n ≤ c.args.at) self.mind.placed.is_first le) c.requires.turn;
      labels = λ lt. let le = c.requires.data in absurd (omega (arith, lt, le));
      device = c.write-wrote.ensures.state;
      landed = if_ok r c.is_ok-ok.ensures.value (λ e. c.wrote.ensures.landed e [] 0);
      missed = if_err r c.is_ok-ok.ensures.value (λ e. c.wrote.ensures.missed e [] 0);
    }

pub returns-clause-last : goal.returns-clause-last
returns-clause-last g c = last_written c.args.self.now.mind.buffers c.write-wrote.result c.write-wrote.ensures.state c.bytes_of.ensures.value

pub returns-clause-others : goal.returns-clause-others
returns-clause-others g c = others_written c.write-wrote.result c.write-wrote.ensures.state

pub invariant_of-self-clause-spelled : goal.invariant_of-self-clause-spelled
invariant_of-self-clause-spelled g c =
    let self = c.args.self.now in
    let p = parts self.mind [] 0 in
    let q = parts c.wrote.new.self [] 0 in
    let r = c.write-wrote.result in
    let landed = if_ok r c.is_ok-ok.ensures.value (λ e. c.wrote.ensures.landed e [] 0) in
    let missed = if_err r c.is_ok-ok.ensures.value (λ e. c.wrote.ensures.missed e [] 0) in
    let le = c.requires.data in
    labels_answered p q c.args.at (within_count c.args.at self.mind.placed c.requires.turn).1 (region_answered p q c.args.at r landed missed) r c.write-wrote.ensures.state landed missed (λ lt. absurd (omega (arith, lt, le))) self.spelled

pub invariant_of-self-clause-first : goal.invariant_of-self-clause-first
invariant_of-self-clause-first g c =
    let self = c.args.self.now in
    let s = g.D.Disk.state self.main in
    let r = c.write-wrote.result in
    one_answered (parts self.mind [] 0) (parts c.wrote.new.self [] 0) c.args.at s (g.D.Disk.state c.write-wrote.new.self) r c.write-wrote.ensures.state ((self.mind.turning.each c.args.at).begins c.requires.turn)
    (if_ok r c.is_ok-ok.ensures.value (λ e. c.wrote.ensures.landed e [] 0)) (if_err r c.is_ok-ok.ensures.value (λ e. c.wrote.ensures.missed e [] 0)) self.first

pub invariant_of-self-clause-header : goal.invariant_of-self-clause-header
invariant_of-self-clause-header g c =
    let self = c.args.self.now in
    let two = (self.mind.turning.each c.args.at).begins c.requires.turn in
    header_wrote (g.D.Disk.state self.main) (g.D.Disk.state c.write-wrote.new.self) c.args.at (omega (arith, two)) c.write-wrote.result c.write-wrote.ensures.state self.header

pub returns-clause-calls : goal.returns-clause-calls
returns-clause-calls g c = let e = c.write-wrote.ensures.calls in omega (arith, e)
