use Rattle.std.proofs.Common.{[], length, sym, ap, ◌∙◌, subst, arith}
use Rattle.fo_disk.specs.Disk.{DiskState, versions_of}
use Rattle.fo_mind.specs.MindParts.{parts}
use Rattle.fo_mind.specs.Turning.{Synced}
use Rattle.fo_cache.specs.Called.{Makes, at_only, no_more}
use Rattle.fo_cache.specs.Settling.{Rested}
use Rattle.fo_cache.specs.Supers.{Overruled}
use Rattle.fo_cache.proofs.Called.{makes_first, makes_half}
use Rattle.fo_cache.proofs.Trials.{count_tried, others_rested, overruled}
use Rattle.fo_cache.proofs.Firsts.{memory_alone}
use Rattle.fo_cache.proofs.cache.Cache.settle_one.Goals as goal

pub returns-clause-overruled : goal.returns-clause-overruled
returns-clause-overruled g c =
    let self = c.args.self.now in
    let p = parts self.mind [] 0 in
    let n = parts c.sync_turn.new.self.mind [] 0 in
    let q = parts c.overrule.new.self.mind [] 0 in
    let s = g.D.Disk.state self.main in
    let m = g.D.Disk.state c.write_one.new.self.main in
    let t = g.D.Disk.state c.sync_turn.new.self.main in
    let synced = subst (λ mind. Synced (parts mind [] 0) n) c.write_one.ensures.mind c.in-Ok-sync_turn.ensures.synced in
    subst (λ (u : DiskState). Overruled s u p q) (ap g.D.Disk.state (sym c.overrule.ensures.device))
    (overruled s m t p n q c.in-Ok.ensures.wrote c.in-Ok-sync_turn.ensures.state synced c.overrule.ensures.settled)

pub returns-clause-others : goal.returns-clause-others
returns-clause-others g c = λ k ne.
    let s = g.D.Disk.state c.args.self.now.main in
    let m = g.D.Disk.state c.write_one.new.self.main in
    let t = g.D.Disk.state c.sync_turn.new.self.main in
    subst (λ (u : DiskState). Rested (versions_of s.holds k) (versions_of u.holds k)) (ap g.D.Disk.state (sym c.overrule.ensures.device))
    (others_rested s m t c.write_one.result c.sync_turn.result c.write_one.ensures.wrote c.sync_turn.ensures.state k ne)

pub overrule-requires : goal.overrule-requires
overrule-requires g c =
    let self = c.args.self.now in
    let n = parts c.sync_turn.new.self.mind [] 0 in
    let synced = subst (λ mind. Synced (parts mind [] 0) n) c.write_one.ensures.mind c.in-Ok-sync_turn.ensures.synced in
    memory_alone (g.D.Disk.state self.main) (g.D.Disk.state c.write_one.new.self.main) (g.D.Disk.state c.sync_turn.new.self.main) (parts self.mind [] 0) n c.in-Ok.ensures.wrote c.in-Ok-sync_turn.ensures.state synced

pub returns-clause-count : goal.returns-clause-count
returns-clause-count g c =
    let s = g.D.Disk.state c.args.self.now.main in
    let m = g.D.Disk.state c.write_one.new.self.main in
    let t = g.D.Disk.state c.sync_turn.new.self.main in
    ap (λ d. length (g.D.Disk.state d).holds) c.overrule.ensures.device ∙ count_tried s m t c.write_one.result c.sync_turn.result c.write_one.ensures.wrote c.sync_turn.ensures.state

pub returns-in_default-clause-calls : goal.returns-in_default-clause-calls
returns-in_default-clause-calls g c = let e = c.write_one.ensures.calls in omega (arith, e)

pub returns-in_default-sync_turn-clause-calls : goal.returns-in_default-sync_turn-clause-calls
returns-in_default-sync_turn-clause-calls g c =
    let e = c.write_one.ensures.calls in
    let f = c.sync_turn.ensures.calls in
    omega (arith, e, f)

pub returns-clause-calls : goal.returns-clause-calls
returns-clause-calls g c =
    let e = c.write_one.ensures.calls in
    let f = c.sync_turn.ensures.calls in
    let same = ap g.D.Disk.calls c.overrule.ensures.device in
    omega (arith, e, f, same)

pub returns-in_default-clause-made : goal.returns-in_default-clause-made
returns-in_default-clause-made g c =
    let self = c.args.self.now in
    let mid = c.write_one.new.self in
    makes_half (g.D.Disk.state self.main) (g.D.Disk.state mid.main) (g.D.Disk.calls self.main) (g.D.Disk.calls mid.main) self.mind.one_bytes c.write_one.result c.write_one.ensures.wrote c.write_one.ensures.calls

pub returns-in_default-sync_turn-clause-made : goal.returns-in_default-sync_turn-clause-made
returns-in_default-sync_turn-clause-made g c =
    let self = c.args.self.now in
    let mid = c.write_one.new.self in
    let end = c.sync_turn.new.self in
    makes_first (g.D.Disk.state self.main) (g.D.Disk.state mid.main) (g.D.Disk.state end.main) (g.D.Disk.calls self.main) (g.D.Disk.calls mid.main) (g.D.Disk.calls end.main) self.mind.one_bytes c.write_one.result c.sync_turn.result c.write_one.ensures.wrote c.sync_turn.ensures.state c.write_one.ensures.calls c.sync_turn.ensures.calls

pub returns-clause-made : goal.returns-clause-made
returns-clause-made g c =
    let self = c.args.self.now in
    let mid = c.write_one.new.self in
    let end = c.sync_turn.new.self in
    let s = g.D.Disk.state self.main in
    let before = g.D.Disk.calls self.main in
    subst (λ (d : _). Makes s (g.D.Disk.state d) before (g.D.Disk.calls d) 2 0 (at_only 1 1) no_more) (sym c.overrule.ensures.device)
    (makes_first s (g.D.Disk.state mid.main) (g.D.Disk.state end.main) before (g.D.Disk.calls mid.main) (g.D.Disk.calls end.main) self.mind.one_bytes c.write_one.result c.sync_turn.result c.write_one.ensures.wrote c.sync_turn.ensures.state c.write_one.ensures.calls c.sync_turn.ensures.calls)
