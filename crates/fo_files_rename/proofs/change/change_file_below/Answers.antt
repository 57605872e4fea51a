use Rattle.std.proofs.Common.{◌+◌, ◌*◌, ◌^◌, ◌≤◌, length, true, false, inl, inr, ⊎_elim, subst, arith}
use Rattle.fo_files_edit.specs.Edit.{EditsFile, IsLeft}
use Rattle.fo_files_rename.specs.Change.{LeavesName, OwnsName}
use Rattle.fo_files_edit.proofs.of_files_along.Refusing.{cause_more}
use Rattle.fo_files_rename.proofs.Finding.{length_within, renamed}
use Rattle.fo_files_rename.proofs.change.change_file_below.Goals as goal
use Rattle.fo_dirties.proofs.Adding.{dirties_fewer}
use Rattle.fo_files_rename.proofs.Counting.{change_few}

pub rename_found-requires-clause-within : goal.rename_found-requires-clause-within
rename_found-requires-clause-within g c = length_within (λ n. n ≤ 2 ^ 40) c.args.found.now.way.file.dir c.args.what.now.length c.given_of-given.result c.given_of-given.ensures c.requires.within

pub change_below-requires-clause-within : goal.change_below-requires-clause-within
change_below-requires-clause-within g c = length_within (λ n. n ≤ 2 ^ 40) c.args.found.now.way.file.dir c.args.what.now.length c.given_of-given.result c.given_of-given.ensures c.requires.within

pub returns-in-Ok-clause-changes : goal.returns-in-Ok-clause-changes
returns-in-Ok-clause-changes g c =
    inr (inr (record {
      some = c.requires.short.0;
      other = renamed c.is_renamed.result true c.args.what.now.name c.as_slice.result.now c.args.found.now.name c.is_renamed.ensures c.as_slice.ensures c.if-is_renamed.true;
      owns = subst (λ x. OwnsName _ g.B.Blocks.state c.args.on.now c.rename_found.new.on c.args.root c.args.trail.now c.args.found.now.way c.args.found.now.name x c.args.who.now c.args.now) c.given_of-given.ensures c.in-Ok.ensures.renames;
    }))

pub returns-in-Err-clause-left : goal.returns-in-Err-clause-left
returns-in-Err-clause-left g c =
    ⊎_elim (λ looks. inl looks) (λ left. inr (inr (inr (subst (λ x. LeavesName _ g.B.Blocks.state c.args.on.now c.rename_found.new.on c.args.root c.args.trail.now c.args.found.now.way c.args.found.now.name x) c.given_of-given.ensures left)))) c.in-Err.ensures.left

pub returns-in-Ok-change_below-clause-changes : goal.returns-in-Ok-change_below-clause-changes
returns-in-Ok-change_below-clause-changes g c =
    let p = c.in-Ok-change_below.ensures.edits in
    inr (inl (record {
      some = c.requires.short.0;
      same = renamed c.is_renamed.result false c.args.what.now.name c.as_slice.result.now c.args.found.now.name c.is_renamed.ensures c.as_slice.ensures c.if-is_renamed.false;
      rested = p.0;
      rests = p.1;
      edits = subst (λ x. EditsFile _ g.B.Blocks.state p.0 c.change_below.new.on c.args.root c.args.trail.now c.args.found.now.way c.args.found.now.name x) c.given_of-given.ensures p.2;
    }))

pub returns-in-Err-change_below-clause-left : goal.returns-in-Err-change_below-clause-left
returns-in-Err-change_below-clause-left g c =
    let p = c.in-Err-change_below.ensures.left in
    inr (inr (inl (record {
      rested = p.0;
      rests = p.1;
      left = subst (λ x. IsLeft _ g.B.Blocks.state p.0 c.change_below.new.on c.args.root c.args.trail.now c.args.found.now.way c.args.found.now.name x) c.given_of-given.ensures p.2;
    })))

pub returns-in-Ok-change_below-clause-taken : goal.returns-in-Ok-change_below-clause-taken
returns-in-Ok-change_below-clause-taken g c = let took = c.change_below.ensures.taken in omega (arith, took)

pub returns-in-Err-change_below-clause-taken : goal.returns-in-Err-change_below-clause-taken
returns-in-Err-change_below-clause-taken g c = let took = c.change_below.ensures.taken in omega (arith, took)

pub returns-in-Err-change_below-clause-cause : goal.returns-in-Err-change_below-clause-cause
returns-in-Err-change_below-clause-cause g c =
    cause_more (g.B.Blocks.state c.args.on.now) (g.B.Blocks.state c.change_below.new.on) _ (5 * length c.args.trail.now + 22) (5 * length c.args.trail.now + 31) (omega arith) c.in-Err-change_below.why c.in-Err-change_below.ensures.cause

pub returns-in-Ok-clause-dirties : goal.returns-in-Ok-clause-dirties
returns-in-Ok-clause-dirties g c = c.rename_found.ensures.dirties

pub returns-in-Err-clause-dirties : goal.returns-in-Err-clause-dirties
returns-in-Err-clause-dirties g c = c.rename_found.ensures.dirties

pub returns-in-Ok-change_below-clause-dirties : goal.returns-in-Ok-change_below-clause-dirties
returns-in-Ok-change_below-clause-dirties g c = dirties_fewer (change_few (length c.args.trail.now)) (λ b h. h) c.change_below.ensures.dirties

pub returns-in-Err-change_below-clause-dirties : goal.returns-in-Err-change_below-clause-dirties
returns-in-Err-change_below-clause-dirties g c = dirties_fewer (change_few (length c.args.trail.now)) (λ b h. h) c.change_below.ensures.dirties
