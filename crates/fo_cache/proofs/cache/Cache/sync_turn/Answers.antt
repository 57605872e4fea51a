use Rattle.std.proofs.Common.{[], ◌≤◌, sym, subst, arith}
use Rattle.fo_labels.specs.Region.{Region}
use Rattle.fo_mind.specs.MindParts.{parts}
use Rattle.fo_mind.specs.Parts.{count_of}
use Rattle.fo_cache.proofs.Outcomes.{each_settled, fits_settled, if_err, if_ok, region_settled}
use Rattle.fo_cache.proofs.Labelling.{labels_settled}
use Rattle.fo_cache.proofs.Firsts.{one_settled_too}
use Rattle.fo_cache.proofs.Headers.{header_synced}
use Rattle.fo_cache.proofs.cache.Cache.sync_turn.Goals as goal

pub invariant_of-self-clause-fits : goal.invariant_of-self-clause-fits
invariant_of-self-clause-fits g c =
    let self = c.args.self.now in
    let r = c.sync-synced.result in
    fits_settled (parts self.mind [] 0) (parts c.settled.new.self [] 0) r c.sync-synced.ensures.state (if_ok r c.is_ok-ok.ensures.value (λ e. c.settled.ensures.synced e [] 0)) (if_err r c.is_ok-ok.ensures.value (λ e. c.settled.ensures.same e [] 0)) self.fits

pub invariant_of-self-clause-sized : goal.invariant_of-self-clause-sized
invariant_of-self-clause-sized g c =
    let self = c.args.self.now in
    let r = c.sync-synced.result in
    subst (λ n. count_of (parts c.settled.new.self [] 0).region ≤ n) (sym c.sync-synced.ensures.size)
    (subst (λ (x : Region). count_of x ≤ g.D.Disk.size self.main) (sym (region_settled (parts self.mind [] 0) (parts c.settled.new.self [] 0) r (if_ok r c.is_ok-ok.ensures.value (λ e. c.settled.ensures.synced e [] 0)) (if_err r c.is_ok-ok.ensures.value (λ e. c.settled.ensures.same e [] 0)))) self.sized)

pub returns-clause-synced : goal.returns-clause-synced
returns-clause-synced g c = if_ok c.sync-synced.result c.is_ok-ok.ensures.value (λ e. c.settled.ensures.synced e [] 0)

pub returns-clause-nothing : goal.returns-clause-nothing
returns-clause-nothing g c = if_err c.sync-synced.result c.is_ok-ok.ensures.value (λ e. c.settled.ensures.same e [] 0)

pub returns-clause-each : goal.returns-clause-each
returns-clause-each g c =
    let self = c.args.self.now in
    let r = c.sync-synced.result in
    each_settled (parts self.mind [] 0) (parts c.settled.new.self [] 0) r c.sync-synced.ensures.state (if_ok r c.is_ok-ok.ensures.value (λ e. c.settled.ensures.synced e [] 0)) (if_err r c.is_ok-ok.ensures.value (λ e. c.settled.ensures.same e [] 0)) self.fits

pub invariant_of-self-clause-spelled : goal.invariant_of-self-clause-spelled
invariant_of-self-clause-spelled g c =
    let self = c.args.self.now in
    let r = c.sync-synced.result in
    labels_settled (parts self.mind [] 0) (parts c.settled.new.self [] 0) r c.sync-synced.ensures.state (if_ok r c.is_ok-ok.ensures.value (λ e. c.settled.ensures.synced e [] 0)) (if_err r c.is_ok-ok.ensures.value (λ e. c.settled.ensures.same e [] 0)) self.spelled

pub invariant_of-self-clause-first : goal.invariant_of-self-clause-first
invariant_of-self-clause-first g c =
    let self = c.args.self.now in
    let s = g.D.Disk.state self.main in
    let r = c.sync-synced.result in
    one_settled_too (parts self.mind [] 0) (parts c.settled.new.self [] 0) s (g.D.Disk.state c.sync-synced.new.self) r c.sync-synced.ensures.state (if_ok r c.is_ok-ok.ensures.value (λ e. c.settled.ensures.synced e [] 0)) (if_err r c.is_ok-ok.ensures.value (λ e. c.settled.ensures.same e [] 0)) self.first

pub invariant_of-self-clause-header : goal.invariant_of-self-clause-header
invariant_of-self-clause-header g c =
    let self = c.args.self.now in
    header_synced (g.D.Disk.state self.main) (g.D.Disk.state c.sync-synced.new.self) c.sync-synced.result c.sync-synced.ensures.state self.header

pub returns-clause-calls : goal.returns-clause-calls
returns-clause-calls g c = let e = c.sync-synced.ensures.calls in omega (arith, e)
