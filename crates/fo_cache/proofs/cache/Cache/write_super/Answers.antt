use Rattle.std.proofs.Common.{◌≡◌, List, ℕ, [], length, Ok, Some, inl, sym, ap, ◌∙◌, subst, arith}
use Rattle.fo_disk.specs.Disk.{DiskState, IsWrite, versions_of}
use Rattle.fo_disk.specs.declared.disk.Failed.{Failed}
use Rattle.fo_image.specs.Field.{Four, number_at}
use Rattle.fo_mind.specs.MindParts.{parts}
use Rattle.fo_mind.specs.Parts.{Parts}
use Rattle.fo_mind.specs.Turning.{Synced}
use Rattle.fo_mind.proofs.Limits.{super_limit}
use Rattle.fo_cache.specs.Settling.{Rested}
use Rattle.fo_cache.specs.Supers.{Counts}
use Rattle.fo_cache.proofs.Labelling.{versions_kept}
use Rattle.fo_cache.proofs.Trials.{count_tried, counted, others_rested}
use Rattle.fo_cache.proofs.Firsts.{tried_alone}
use Rattle.fo_cache.proofs.cache.Cache.write_super.Goals as goal

pub try_one-requires-clause-below : goal.try_one-requires-clause-below
try_one-requires-clause-below g c =
    let n = ap (number_at Four 22) c.fill.ensures ∙ super_limit c.args.one c.write_super.new.into c.write_super.ensures in
    let le = c.requires.below in
    omega (arith, n, le)

pub try_one-requires-clause-granted : goal.try_one-requires-clause-granted
try_one-requires-clause-granted g c = λ granted.
    let n = ap (number_at Four 22) c.fill.ensures ∙ super_limit c.args.one c.write_super.new.into c.write_super.ensures in
    let lt = c.requires.granted granted in
    omega (arith, n, lt)

pub returns-clause-counts : goal.returns-clause-counts
returns-clause-counts g c =
    let self = c.args.self.now in
    let into = c.write_super.new.into in
    let p = parts self.mind [] 0 in
    let n = parts c.sync_turn.new.self.mind [] 0 in
    let q = parts c.accept.new.self.mind [] 0 in
    let s = g.D.Disk.state self.main in
    let m = g.D.Disk.state c.write_trial.new.self.main in
    let t = g.D.Disk.state c.sync_turn.new.self.main in
    let tried : parts c.write_trial.new.self.mind [] 0 ≡ record p { doubt = Some into } = ap (λ z. parts z [] 0) c.write_trial.ensures.mind ∙ c.try_one.ensures.tried ∙ ap (λ (x : List ℕ). record p { doubt = Some x }) c.fill.ensures in
    let synced = subst (λ (z : Parts). Synced z n) tried c.in-Ok-sync_turn.ensures.synced in
    let wrote = subst (λ (u : DiskState). IsWrite {E = Failed} 1 into (Ok c.in-Ok.field-0) u m) (ap g.D.Disk.state c.try_one.ensures.device) c.in-Ok.ensures.wrote in
    subst (λ (u : DiskState). Counts c.args.one s u p q) (ap g.D.Disk.state (sym c.accept.ensures.device))
    (counted s m t p n q c.args.one into _ _ c.write_super.ensures wrote c.in-Ok-sync_turn.ensures.state synced c.accept.ensures.counts)

pub returns-clause-others : goal.returns-clause-others
returns-clause-others g c = λ k ne.
    let o = g.D.Disk.state c.try_one.new.self.main in
    let m = g.D.Disk.state c.write_trial.new.self.main in
    let t = g.D.Disk.state c.sync_turn.new.self.main in
    subst (λ (u : DiskState). Rested (versions_of (g.D.Disk.state c.args.self.now.main).holds k) (versions_of u.holds k)) (ap g.D.Disk.state (sym c.accept.ensures.device))
    (subst (λ (u : DiskState). Rested (versions_of u.holds k) (versions_of t.holds k)) (ap g.D.Disk.state c.try_one.ensures.device)
    (others_rested o m t c.write_trial.result c.sync_turn.result c.write_trial.ensures.wrote c.sync_turn.ensures.state k ne))

pub accept-requires-clause-alone : goal.accept-requires-clause-alone
accept-requires-clause-alone g c =
    let self = c.args.self.now in
    let into = c.write_super.new.into in
    let p = parts self.mind [] 0 in
    let n = parts c.sync_turn.new.self.mind [] 0 in
    let s = g.D.Disk.state self.main in
    let m = g.D.Disk.state c.write_trial.new.self.main in
    let t = g.D.Disk.state c.sync_turn.new.self.main in
    let tried : parts c.write_trial.new.self.mind [] 0 ≡ record p { doubt = Some into } = ap (λ z. parts z [] 0) c.write_trial.ensures.mind ∙ c.try_one.ensures.tried ∙ ap (λ (x : List ℕ). record p { doubt = Some x }) c.fill.ensures in
    let synced = subst (λ (z : Parts). Synced z n) tried c.in-Ok-sync_turn.ensures.synced in
    let wrote = subst (λ (u : DiskState). IsWrite {E = Failed} 1 into (Ok c.in-Ok.field-0) u m) (ap g.D.Disk.state c.try_one.ensures.device) c.in-Ok.ensures.wrote in
    tried_alone s m t p n into wrote c.in-Ok-sync_turn.ensures.state synced

pub returns-clause-count : goal.returns-clause-count
returns-clause-count g c =
    let o = g.D.Disk.state c.try_one.new.self.main in
    let m = g.D.Disk.state c.write_trial.new.self.main in
    let t = g.D.Disk.state c.sync_turn.new.self.main in
    ap (λ d. length (g.D.Disk.state d).holds) c.accept.ensures.device ∙ count_tried o m t c.write_trial.result c.sync_turn.result c.write_trial.ensures.wrote c.sync_turn.ensures.state ∙ ap (λ d. length (g.D.Disk.state d).holds) c.try_one.ensures.device

pub returns-in_default-clause-calls : goal.returns-in_default-clause-calls
returns-in_default-clause-calls g c =
    let e = c.write_trial.ensures.calls in
    let same = ap g.D.Disk.calls c.try_one.ensures.device in
    omega (arith, e, same)

pub returns-in_default-sync_turn-clause-calls : goal.returns-in_default-sync_turn-clause-calls
returns-in_default-sync_turn-clause-calls g c =
    let e = c.write_trial.ensures.calls in
    let f = c.sync_turn.ensures.calls in
    let same = ap g.D.Disk.calls c.try_one.ensures.device in
    omega (arith, e, f, same)

pub returns-clause-calls : goal.returns-clause-calls
returns-clause-calls g c =
    let e = c.write_trial.ensures.calls in
    let f = c.sync_turn.ensures.calls in
    let first = ap g.D.Disk.calls c.try_one.ensures.device in
    let last = ap g.D.Disk.calls c.accept.ensures.device in
    omega (arith, e, f, first, last)

pub returns-in_default-clause-others : goal.returns-in_default-clause-others
returns-in_default-clause-others g c = λ k ne.
    let m = g.D.Disk.state c.write_trial.new.self.main in
    subst (λ (u : DiskState). Rested (versions_of u.holds k) (versions_of m.holds k)) (ap g.D.Disk.state c.try_one.ensures.device)
    (inl (versions_kept c.write_trial.result c.write_trial.ensures.wrote k ne))
