use Rattle.std.proofs.Common.{◌≡◌, ◌≢◌, ℕ, [], sym, ap, subst, arith}
use Rattle.fo_disk.specs.Disk.{DiskState, versions_of}
use Rattle.fo_mind.specs.MindParts.{parts}
use Rattle.fo_cache.specs.Settling.{Settles}
use Rattle.fo_cache.proofs.Lessening.{next_kept}
use Rattle.fo_cache.proofs.Settling.{room_settles, then}
use Rattle.fo_turning.specs.Flushes.{Lands}
use Rattle.fo_turning.proofs.Flushing.{if_ok, misses_kept, misses_wrote, on_err, writes_of}
use Rattle.fo_turning.proofs.flush.write_next.Goals as goal

pub write_ready-requires-clause-turn : goal.write_ready-requires-clause-turn
write_ready-requires-clause-turn g c = next_kept (parts c.args.cache.now.mind [] 0) (parts c.keep_turn_of.new.self.mind [] 0) c.args.at c.keep_turn_of.ensures.kept c.requires.next

pub returns-in_default-clause-settles : goal.returns-in_default-clause-settles
returns-in_default-clause-settles g c =
    let cache = c.args.cache.now in
    let mid = c.keep_turn_of.new.self in
    let p = parts cache.mind [] 0 in
    let m = parts mid.mind [] 0 in
    let s = g.D.Disk.state cache.main in
    subst (λ (t : DiskState). Settles s t p m) (ap g.D.Disk.state (sym c.keep_turn_of.ensures.device)) (room_settles s p m c.keep_turn_of.ensures.kept)

pub returns-in_default-clause-misses : goal.returns-in_default-clause-misses
returns-in_default-clause-misses g c = misses_kept (parts c.args.cache.now.mind [] 0) (parts c.keep_turn_of.new.self.mind [] 0) c.keep_turn_of.ensures.kept

pub returns-clause-settles : goal.returns-clause-settles
returns-clause-settles g c =
    let cache = c.args.cache.now in
    let mid = c.keep_turn_of.new.self in
    let new = c.write_ready.new.cache in
    let p = parts cache.mind [] 0 in
    let m = parts mid.mind [] 0 in
    let s = g.D.Disk.state cache.main in
    let room = subst (λ (t : DiskState). Settles s t p m) (ap g.D.Disk.state (sym c.keep_turn_of.ensures.device)) (room_settles s p m c.keep_turn_of.ensures.kept) in
    then s (g.D.Disk.state mid.main) (g.D.Disk.state new.main) p m (parts new.mind [] 0) room c.write_ready.ensures.settles

pub returns-clause-misses : goal.returns-clause-misses
returns-clause-misses g c =
    let cache = c.args.cache.now in
    let mid = c.keep_turn_of.new.self in
    let new = c.write_ready.new.cache in
    on_err c.write_ready.result (misses_wrote (parts cache.mind [] 0) (parts mid.mind [] 0) (parts new.mind [] 0) c.args.at mid.mind.placed c.requires.next c.keep_turn_of.ensures.kept) c.write_ready.ensures.missed

pub returns-clause-does : goal.returns-clause-does
returns-clause-does g c =
    let cache = c.args.cache.now in
    let mid = c.keep_turn_of.new.self in
    let new = c.write_ready.new.cache in
    let p = parts cache.mind [] 0 in
    let m = parts mid.mind [] 0 in
    let q = parts new.mind [] 0 in
    let t = g.D.Disk.state new.main in
    let same = ap g.D.Disk.state c.keep_turn_of.ensures.device in
    if_ok _ _ c.write_ready.result
    (λ f h. (
      h.0,
      writes_of (g.D.Disk.state cache.main) t p m q c.args.at mid.mind.placed mid.mind.turning c.requires.next c.keep_turn_of.ensures.kept (subst (λ (s : DiskState). Lands c.args.at s t m q) same h.1)
          (subst (λ (s : DiskState). (k : ℕ) → k ≢ c.args.at → versions_of t.holds k ≡ versions_of s.holds k) same c.write_ready.ensures.others),
    ))
    c.write_ready.ensures.lands

pub returns-in_default-clause-calls : goal.returns-in_default-clause-calls
returns-in_default-clause-calls g c = let same = ap g.D.Disk.calls c.keep_turn_of.ensures.device in omega (arith, same)

pub returns-clause-calls : goal.returns-clause-calls
returns-clause-calls g c =
    let e = c.write_ready.ensures.calls in
    let same = ap g.D.Disk.calls c.keep_turn_of.ensures.device in
    omega (arith, e, same)
