use Rattle.std.proofs.Common.{[], inl, inr, sym, subst, ◌∙◌, arith, refl}
use Rattle.fo_image.specs.declared.record.Record.{Record}
use Rattle.fo_image.specs.Record.{RootRecordHolds}
use Rattle.fo_tree_read.proofs.Exits.{looks_none}
use Rattle.fo_files_record.specs.Own.{PutsOwn}
use Rattle.fo_files_into.proofs.of_files_along.Ways.{file_holds, steps_long}
use Rattle.fo_files_edit.specs.Edit.{as_root}
use Rattle.fo_files_edit.proofs.Roots.{root_stands, root_holds}
use Rattle.fo_files_edit.proofs.root.edit_root.Goals as goal
use Rattle.fo_dirties.proofs.Adding.{dirties_none, dirties_fewer, dirties_puts, cons_counted, none_counted}
use Rattle.fo_dirties.proofs.Putting.{dirties_looks, dirties_at_once}

pub own_dir_along-requires-clause-way : goal.own_dir_along-requires-clause-way
own_dir_along-requires-clause-way g c = (c.args.root, ([], c.requires.way))

pub own_dir_along-requires-clause-short : goal.own_dir_along-requires-clause-short
own_dir_along-requires-clause-short g c =
    let long = steps_long (g.B.Blocks.state c.args.on.now) c.args.root [] c.args.found.now.way c.requires.way in omega (arith, long)

pub own_dir_along-requires-clause-pins : goal.own_dir_along-requires-clause-pins
own_dir_along-requires-clause-pins g c =
    let long = steps_long (g.B.Blocks.state c.args.on.now) c.args.root [] c.args.found.now.way c.requires.way in
    let enough = c.requires.pins in omega (arith, long, enough)

pub own_dir_along-requires-clause-spare : goal.own_dir_along-requires-clause-spare
own_dir_along-requires-clause-spare g c =
    let long = steps_long (g.B.Blocks.state c.args.on.now) c.args.root [] c.args.found.now.way c.requires.way in omega (arith, long)

pub put_own_record-requires-clause-silent : goal.put_own_record-requires-clause-silent
put_own_record-requires-clause-silent g c = λ h. c.requires.silent ((g.met.B.Blocks.keeps_all c.args.on.now c.own_dir_along.new.on c.own_dir_along.ensures.keeps).still_tells.0 h)

pub put_own_record-requires-clause-root : goal.put_own_record-requires-clause-root
put_own_record-requires-clause-root g c =
    let o = c.in-Ok.ensures.owned.1 c.args.root [] c.requires.way in
    root_stands (g.B.Blocks.state c.own_dir_along.new.on) o.1.at c.args.found.now.way.steps.items c.in-Ok.stand.dir.at c.in-Ok.stand.dir.number c.in-Ok.stand.above c.in-Ok.ensures.above o.1.above_is

pub put_own_record-requires-clause-spelled : goal.put_own_record-requires-clause-spelled
put_own_record-requires-clause-spelled g c =
    subst (λ (r : Record). RootRecordHolds r) (sym c.in-Ok-root_record.ensures) (root_holds c.args.found.now.way.file.named (file_holds (g.B.Blocks.state c.args.on.now) c.args.root [] c.args.found.now.way c.requires.way).named)

pub returns-in_default-clause-left : goal.returns-in_default-clause-left
returns-in_default-clause-left g c =
    let w = c.in-Ok.ensures.owned in
    let o = w.1 c.args.root [] c.requires.way in
    inr (w.0, c.own_dir_along.new.on, o.0, record { dir = c.in-Ok.stand.dir; above = c.in-Ok.stand.above; goes = o.1 }, looks_none (g.B.Blocks.state c.own_dir_along.new.on))

pub returns-in-Ok-put_own_record-clause-usable : goal.returns-in-Ok-put_own_record-clause-usable
returns-in-Ok-put_own_record-clause-usable g c =
    let long = steps_long (g.B.Blocks.state c.args.on.now) c.args.root [] c.args.found.now.way c.requires.way in
    let a = c.own_dir_along.ensures.usable in let b = c.own_dir_along.ensures.spare in let d = c.put_own_record.ensures.left.3 in omega (arith, long, a, b, d)

pub returns-in-Err-clause-left : goal.returns-in-Err-clause-left
returns-in-Err-clause-left g c = inl c.in-Err.ensures.nothing

pub returns-in-Ok-put_own_record-clause-edits : goal.returns-in-Ok-put_own_record-clause-edits
returns-in-Ok-put_own_record-clause-edits g c =
    let w = c.in-Ok.ensures.owned in
    let o = w.1 c.args.root [] c.requires.way in
    let p = c.in-Ok-put_own_record.ensures.puts in
    let u = g.B.Blocks.state c.own_dir_along.new.on in
    let n = g.B.Blocks.state c.put_own_record.new.on in
    record {
      looked = w.0;
      looks = o.0;
      owned = c.own_dir_along.new.on;
      owns = record { dir = c.in-Ok.stand.dir; above = c.in-Ok.stand.above; goes = o.1 };
      read = p.0;
      puts = subst (λ b. PutsOwn u (g.B.Blocks.state p.0) n b (as_root c.args.found.now.way.file.named)) (o.1.dir_is.block_is ∙ o.1.owns.root_is) (subst (λ (r : Record). PutsOwn u (g.B.Blocks.state p.0) n c.in-Ok.stand.dir.at r) c.in-Ok-root_record.ensures p.1);
    }

pub returns-in-Err-put_own_record-clause-left : goal.returns-in-Err-put_own_record-clause-left
returns-in-Err-put_own_record-clause-left g c =
    let w = c.in-Ok.ensures.owned in
    let o = w.1 c.args.root [] c.requires.way in
    inr (w.0, c.own_dir_along.new.on, o.0, record { dir = c.in-Ok.stand.dir; above = c.in-Ok.stand.above; goes = o.1 }, c.in-Err-put_own_record.ensures.nothing)

pub returns-in-Err-put_own_record-clause-keeps : goal.returns-in-Err-put_own_record-clause-keeps
returns-in-Err-put_own_record-clause-keeps g c = g.met.B.Blocks.keeps_joins c.args.on.now c.own_dir_along.new.on c.put_own_record.new.on c.own_dir_along.ensures.keeps c.put_own_record.ensures.keeps

pub returns-in-Ok-put_own_record-clause-keeps : goal.returns-in-Ok-put_own_record-clause-keeps
returns-in-Ok-put_own_record-clause-keeps g c = g.met.B.Blocks.keeps_joins c.args.on.now c.own_dir_along.new.on c.put_own_record.new.on c.own_dir_along.ensures.keeps c.put_own_record.ensures.keeps

pub returns-then-not-found-clause-dirties : goal.returns-then-not-found-clause-dirties
returns-then-not-found-clause-dirties g c = dirties_none 1 (dirties_at_once (g.B.Blocks.state c.args.on.now) [])

pub returns-in-Err-clause-dirties : goal.returns-in-Err-clause-dirties
returns-in-Err-clause-dirties g c = dirties_none 1 (dirties_looks (g.met.B.Blocks.keeps_all c.args.on.now c.own_dir_along.new.on c.own_dir_along.ensures.keeps) c.in-Err.ensures.nothing)

pub returns-in_default-clause-dirties : goal.returns-in_default-clause-dirties
returns-in_default-clause-dirties g c =
    let long = steps_long (g.B.Blocks.state c.args.on.now) c.args.root [] c.args.found.now.way c.requires.way in
    dirties_fewer (omega (arith, long)) (λ b h. absurd h) c.in-Ok.ensures.dirties

pub returns-in-Ok-put_own_record-clause-dirties : goal.returns-in-Ok-put_own_record-clause-dirties
returns-in-Ok-put_own_record-clause-dirties g c =
    let long = steps_long (g.B.Blocks.state c.args.on.now) c.args.root [] c.args.found.now.way c.requires.way in
    dirties_fewer (omega (arith, long)) (λ b h. absurd h) (dirties_puts c.in-Ok.ensures.dirties c.put_own_record.ensures.dirties (cons_counted (inl refl) none_counted))

pub returns-in-Err-put_own_record-clause-dirties : goal.returns-in-Err-put_own_record-clause-dirties
returns-in-Err-put_own_record-clause-dirties g c =
    let long = steps_long (g.B.Blocks.state c.args.on.now) c.args.root [] c.args.found.now.way c.requires.way in
    dirties_fewer (omega (arith, long)) (λ b h. absurd h) (dirties_puts c.in-Ok.ensures.dirties c.put_own_record.ensures.dirties (cons_counted (inl refl) none_counted))
