use Rattle.std.proofs.Common.{◌<◌, ◌≤◌, [], length, sym, subst, arith}
use Rattle.std.proofs.lemmas.List.{take_all}
use Rattle.fo_meta.proofs.Leaves.{head_at, here_is, walk_more}
use Rattle.fo_dir_list.specs.Next.{NextStands}
use Rattle.fo_dir_list.proofs.Walk.{unnamed, begins, begin, stands_begin, stands_within}
use Rattle.fo_dir_list.proofs.leaf.place_after.Goals as goal

pub better-end-requires-clause-here : goal.better-end-requires-clause-here
better-end-requires-clause-here c =
    let rs = c.requires.records in
    let s = c.requires.spells in
    let lt : c.records.counter < length rs = omega (arith, c.u16_at-end.ensures, (head_at c.args.leaf.now rs s).count) in
    begins (here_is c.args.leaf.now [] rs c.records.counter c.records.at s (c.records.invariant rs s).0 lt)

pub better-end-requires-clause-best : goal.better-end-requires-clause-best
better-end-requires-clause-best c =
    let rs = c.requires.records in
    let s = c.requires.spells in
    stands_begin c.args.leaf.now c.args.after.now _ c.records.best (c.records.invariant rs s).1

pub records-init : goal.records-init
records-init c = λ rs s. begin c.args.leaf.now c.args.after.now rs s

pub records-preserved : goal.records-preserved
records-preserved c = λ rs s.
    let lt : c.records.counter < length rs = omega (arith, c.u16_at-end.ensures, (head_at c.args.leaf.now rs s).count) in
    let w = c.records.invariant rs s in
    let h = here_is c.args.leaf.now [] rs c.records.counter c.records.at s w.0 lt in (
      walk_more c.args.leaf.now [] rs c.records.counter c.records.at c.better-end.result.0 s w.0 h (c.better-end.ensures.end h.named h.more h.spelled h.here) (unnamed h.named h.spelled),
      subst (λ front. NextStands c.args.leaf.now c.args.after.now front c.better-end.result.1) (sym h.next) (c.better-end.ensures.best _ h.named h.more h.spelled h.here w.1),
    )

pub returns-clause-next : goal.returns-clause-next
returns-clause-next c = λ rs s.
    let le : length rs ≤ c.records.counter = omega (arith, c.u16_at-end.ensures, (head_at c.args.leaf.now rs s).count) in
    subst (λ front. NextStands c.args.leaf.now c.args.after.now front c.records.best) (take_all c.records.counter rs le) (c.records.invariant rs s).1

pub returns-clause-within : goal.returns-clause-within
returns-clause-within c =
    let rs = c.requires.records in
    let s = c.requires.spells in
    stands_within c.args.leaf.now c.args.after.now _ c.records.best (c.records.invariant rs s).1
