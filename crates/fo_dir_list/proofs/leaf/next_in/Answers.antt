use Rattle.std.proofs.Common.{◌≡◌, true, sym, subst}
use Rattle.fo_image.specs.declared.record.Record.{Record}
use Rattle.fo_world.specs.Tree.{comes_before}
use Rattle.fo_dir_list.specs.Next.{IsNext}
use Rattle.fo_dir_list.proofs.Walk.{reads_there}
use Rattle.fo_dir_list.proofs.leaf.next_in.Goals as goal

pub returns-in-Ok-clause-next : goal.returns-in-Ok-clause-next
returns-in-Ok-clause-next c = λ rs s.
    let p = c.in-Some.ensures.next rs s in
    let read = c.in-Ok.ensures.only p.0 (reads_there c.args.leaf.now c.in-Some.at c.in-Some.end p.0 p.1) in
    subst (λ x. IsNext c.args.after.now rs x) (sym read) p.2

pub returns-in-Ok-clause-later : goal.returns-in-Ok-clause-later
returns-in-Ok-clause-later c =
    let p = c.in-Some.ensures.next c.requires.records c.requires.spells in
    let read = c.in-Ok.ensures.only p.0 (reads_there c.args.leaf.now c.in-Some.at c.in-Some.end p.0 p.1) in
    subst (λ (x : Record). comes_before c.args.after.now x.name ≡ true) (sym read) p.2.later
