use Rattle.std.proofs.Common.{[], sym, ap, subst, arith}
use Rattle.fo_disk.specs.Disk.{DiskState}
use Rattle.fo_mind.specs.MindParts.{parts}
use Rattle.fo_cache.specs.Called.{Makes, no_more, turns_of}
use Rattle.fo_cache.specs.Settling.{Settles}
use Rattle.fo_cache.specs.Work.{work}
use Rattle.fo_cache.proofs.Called.{makes_end, makes_landed, makes_missed, makes_none}
use Rattle.fo_cache.proofs.Lessening.{next_kept, written_less, next_work}
use Rattle.fo_cache.proofs.Settling.{room_settles, then, wrote_settles}
use Rattle.fo_cache.proofs.cache.Cache.write_next.Goals as goal

pub write_turn-requires-clause-turn : goal.write_turn-requires-clause-turn
write_turn-requires-clause-turn g c = next_kept (parts c.args.self.now.mind [] 0) (parts c.keep_turn_of.new.self.mind [] 0) c.args.at c.keep_turn_of.ensures.kept c.requires.next

pub returns-in_default-write_turn-clause-settles : goal.returns-in_default-write_turn-clause-settles
returns-in_default-write_turn-clause-settles g c =
    let self = c.args.self.now in
    let mid = c.keep_turn_of.new.self in
    let new = c.write_turn.new.self in
    let kept = c.keep_turn_of.ensures.kept in
    let p = parts self.mind [] 0 in
    let m = parts mid.mind [] 0 in
    let s = g.D.Disk.state self.main in
    let room = subst (λ (t : DiskState). Settles s t p m) (ap g.D.Disk.state (sym c.keep_turn_of.ensures.device)) (room_settles s p m kept) in
    then s (g.D.Disk.state mid.main) (g.D.Disk.state new.main) p m (parts new.mind [] 0) room
    (wrote_settles (g.D.Disk.state mid.main) (g.D.Disk.state new.main) m (parts new.mind [] 0) c.args.at mid.mind.placed mid.mind.turning (next_kept p m c.args.at kept c.requires.next) c.write_turn.result c.write_turn.ensures.wrote)

pub returns-clause-settles : goal.returns-clause-settles
returns-clause-settles g c =
    let self = c.args.self.now in
    let mid = c.keep_turn_of.new.self in
    let new = c.write_turn.new.self in
    let kept = c.keep_turn_of.ensures.kept in
    let p = parts self.mind [] 0 in
    let m = parts mid.mind [] 0 in
    let s = g.D.Disk.state self.main in
    let room = subst (λ (t : DiskState). Settles s t p m) (ap g.D.Disk.state (sym c.keep_turn_of.ensures.device)) (room_settles s p m kept) in
    then s (g.D.Disk.state mid.main) (g.D.Disk.state new.main) p m (parts new.mind [] 0) room
    (wrote_settles (g.D.Disk.state mid.main) (g.D.Disk.state new.main) m (parts new.mind [] 0) c.args.at mid.mind.placed mid.mind.turning (next_kept p m c.args.at kept c.requires.next) c.write_turn.result c.write_turn.ensures.wrote)

pub returns-clause-less : goal.returns-clause-less
returns-clause-less g c = written_less (parts c.args.self.now.mind [] 0) (parts c.keep_turn_of.new.self.mind [] 0) (parts c.write_turn.new.self.mind [] 0) c.args.at c.keep_turn_of.ensures.kept c.requires.next c.in-Ok-write_turn.ensures.wrote.landed

pub returns-in_default-clause-calls : goal.returns-in_default-clause-calls
returns-in_default-clause-calls g c = let same = ap g.D.Disk.calls c.keep_turn_of.ensures.device in omega (arith, same)

pub returns-in_default-write_turn-clause-calls : goal.returns-in_default-write_turn-clause-calls
returns-in_default-write_turn-clause-calls g c =
    let e = c.write_turn.ensures.calls in
    let same = ap g.D.Disk.calls c.keep_turn_of.ensures.device in
    let some = next_work (parts c.args.self.now.mind [] 0) c.args.at c.requires.next in
    omega (arith, e, same, some)

pub returns-clause-calls : goal.returns-clause-calls
returns-clause-calls g c =
    let e = c.write_turn.ensures.calls in
    let same = ap g.D.Disk.calls c.keep_turn_of.ensures.device in
    let some = next_work (parts c.args.self.now.mind [] 0) c.args.at c.requires.next in
    omega (arith, e, same, some)

pub returns-clause-spent : goal.returns-clause-spent
returns-clause-spent g c =
    let e = c.write_turn.ensures.calls in
    let same = ap g.D.Disk.calls c.keep_turn_of.ensures.device in
    let less = returns-clause-less g c in
    omega (arith, e, same, less)

pub returns-in_default-clause-made : goal.returns-in_default-clause-made
returns-in_default-clause-made g c =
    let self = c.args.self.now in
    let t = self.mind.order in
    let s = g.D.Disk.state self.main in
    let before = g.D.Disk.calls self.main in
    subst (λ (d : _). Makes s (g.D.Disk.state d) before (g.D.Disk.calls d) (work t) 0 (turns_of t) no_more) (sym c.keep_turn_of.ensures.device)
    (makes_end (makes_none s before (work t) (turns_of t)))

pub returns-in_default-write_turn-clause-made : goal.returns-in_default-write_turn-clause-made
returns-in_default-write_turn-clause-made g c =
    let self = c.args.self.now in
    let mid = c.keep_turn_of.new.self in
    let new = c.write_turn.new.self in
    let p = parts self.mind [] 0 in
    let wrote = c.write_turn.ensures.wrote in
    subst (λ (d : _). Makes (g.D.Disk.state d) (g.D.Disk.state new.main) (g.D.Disk.calls d) (g.D.Disk.calls new.main) (work p.turns) 0 (turns_of p.turns) no_more) c.keep_turn_of.ensures.device
    (makes_missed (g.D.Disk.state mid.main) (g.D.Disk.state new.main) (g.D.Disk.calls mid.main) (g.D.Disk.calls new.main) p (parts mid.mind [] 0) c.args.at wrote.bytes c.write_turn.result c.keep_turn_of.ensures.kept c.requires.next wrote.device c.write_turn.ensures.calls)

pub returns-clause-makes : goal.returns-clause-makes
returns-clause-makes g c =
    let self = c.args.self.now in
    let mid = c.keep_turn_of.new.self in
    let new = c.write_turn.new.self in
    let p = parts self.mind [] 0 in
    let q = parts new.mind [] 0 in
    let wrote = c.write_turn.ensures.wrote in
    subst (λ (d : _). Makes (g.D.Disk.state d) (g.D.Disk.state new.main) (g.D.Disk.calls d) (g.D.Disk.calls new.main) (work p.turns) (work q.turns) (turns_of p.turns) (turns_of q.turns)) c.keep_turn_of.ensures.device
    (makes_landed p (parts mid.mind [] 0) q c.args.at c.keep_turn_of.ensures.kept c.requires.next c.in-Ok-write_turn.ensures.wrote.landed (g.D.Disk.state mid.main) (g.D.Disk.state new.main) (g.D.Disk.calls mid.main) (g.D.Disk.calls new.main) wrote.bytes c.write_turn.result wrote.device c.write_turn.ensures.calls)

pub returns-clause-made : goal.returns-clause-made
returns-clause-made g c = makes_end (returns-clause-makes g c)
