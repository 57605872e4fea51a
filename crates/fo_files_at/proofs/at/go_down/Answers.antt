use Rattle.std.proofs.Common.{◌≡◌, ◌+◌, ◌*◌, ◌<◌, ◌≤◌, ◌++◌, ℕ, List, [], ◌∷◌, take, length, length-take, get_or, IfSome, sym, ap, subst, arith}
use Rattle.std.proofs.lemmas.List.{take_more}
use Rattle.fo_ports.specs.State.{State}
use Rattle.fo_dir_read.proofs.of_looks.Looks.{looks_joins}
use Rattle.fo_files_at.specs.Way.{IsWay}
use Rattle.fo_files_at.proofs.Joining.{caused_since}
use Rattle.fo_files_at.proofs.Ways.{end_holds, end_rank}
use Rattle.fo_files_at.proofs.at.go_down.Goals as goal

front_len : (i : ℕ) (xs : List ℕ) → i < length xs → length (take i xs) ≤ i
front_len i xs lt = grind (arith, length-take)

high : (rank n i m : ℕ) → rank + 32 * n ≡ 2120 → n ≤ i → i < m → m ≤ 65 → 40 ≤ rank
high rank n i m is le lt short = omega (arith, is, le, lt, short)

pub step_down-requires-clause-holds : goal.step_down-requires-clause-holds
step_down-requires-clause-holds g c = end_holds (g.B.Blocks.state c.loop-i.on) 2120 c.loop-i.way.steps.items c.loop-i.way.file (take c.loop-i.i c.args.trail.now) c.loop-i.invariant.0.follows

pub step_down-requires-clause-high : goal.step_down-requires-clause-high
step_down-requires-clause-high g c =
    let way = c.loop-i.invariant.0 in
    high c.loop-i.way.file.rank (length (take c.loop-i.i c.args.trail.now)) c.loop-i.i (length c.args.trail.now) (end_rank (g.B.Blocks.state c.loop-i.on) 2120 c.loop-i.way.steps.items c.loop-i.way.file (take c.loop-i.i c.args.trail.now) way.follows) (front_len c.loop-i.i c.args.trail.now c.loop-i-test.true) c.loop-i-test.true c.requires.short

pub returns-in-Ok-None-clause-looks : goal.returns-in-Ok-None-clause-looks
returns-in-Ok-None-clause-looks g c =
    let v = c.loop-i.invariant in (
      looks_joins (g.met.B.Blocks.keeps_all c.args.on.now c.loop-i.on v.2) v.1 c.step_down.ensures.looks.0,
      g.met.B.Blocks.keeps_joins c.args.on.now c.loop-i.on c.step_down.new.on v.2 c.step_down.ensures.looks.1,
    )

pub returns-in-Err-clause-looks : goal.returns-in-Err-clause-looks
returns-in-Err-clause-looks g c =
    let v = c.loop-i.invariant in (
      looks_joins (g.met.B.Blocks.keeps_all c.args.on.now c.loop-i.on v.2) v.1 c.step_down.ensures.looks.0,
      g.met.B.Blocks.keeps_joins c.args.on.now c.loop-i.on c.step_down.new.on v.2 c.step_down.ensures.looks.1,
    )

pub returns-in-Err-clause-cause : goal.returns-in-Err-clause-cause
returns-in-Err-clause-cause g c =
    let v = c.loop-i.invariant in
    caused_since (g.B.Blocks.state c.args.on.now) (g.B.Blocks.state c.loop-i.on) (g.B.Blocks.state c.step_down.new.on) (g.met.B.Blocks.keeps_all c.args.on.now c.loop-i.on v.2) c.in-Err.why c.in-Err.ensures.cause

pub loop-i-preserved : goal.loop-i-preserved
loop-i-preserved g c =
    let v = c.loop-i.invariant in
    let all = g.met.B.Blocks.keeps_all c.args.on.now c.loop-i.on v.2 in
    let way = subst (λ o. IfSome o (λ w. (root : ℕ) (trail : List ℕ) → IsWay (g.B.Blocks.state c.loop-i.on) root trail c.loop-i.way → IsWay (g.B.Blocks.state c.step_down.new.on) root (trail ++ get_or c.args.trail.now c.loop-i.i 0 ∷ []) w)) c.in-Ok-Some.field-0-is c.in-Ok-Some.ensures.way in (
      subst (λ t. IsWay (g.B.Blocks.state c.step_down.new.on) c.args.root t c.in-Ok-Some.next) (sym (take_more c.args.trail.now c.loop-i.i 0 c.loop-i-test.true)) (way c.args.root (take c.loop-i.i c.args.trail.now) v.0),
      looks_joins all v.1 c.step_down.ensures.looks.0,
      g.met.B.Blocks.keeps_joins c.args.on.now c.loop-i.on c.step_down.new.on v.2 c.step_down.ensures.looks.1,
    )
