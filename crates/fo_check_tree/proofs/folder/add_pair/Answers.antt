use Rattle.std.proofs.Common.{inl, inr, Option, List, ◌++◌, false, None, ◌∙◌, ap, append_assoc, arith}
use Rattle.fo_image.specs.declared.types.Entry.{Entry}
use Rattle.fo_check_tree.specs.declared.walk.Step.{Step}
use Rattle.fo_check_tree.specs.declared.walk.Folder.{Folder}
use Rattle.fo_check_tree.specs.Slots.{first_steps, second_steps, folders_by}
use Rattle.fo_check_names.specs.Pairs.{is_folder, records_of}
use Rattle.fo_check_tree.proofs.Noting.{folders_then, folders_by_other}
use Rattle.fo_check_tree.proofs.folder.add_pair.Goals as goal

pub returns-clause-pushed : goal.returns-clause-pushed
returns-clause-pushed c =
    c.in_ok-add_second.ensures.pushed
    ∙ ap (λ (s : List Step). s ++ second_steps c.args.here (is_folder c.args.first.now) c.args.second.now) c.in_ok-add_first.ensures.pushed
    ∙ append_assoc c.args.walk.now.steps.items (first_steps c.args.here c.args.first.now) (second_steps c.args.here (is_folder c.args.first.now) c.args.second.now)

pub returns-clause-put : goal.returns-clause-put
returns-clause-put c =
    c.in_ok-add_second.ensures.put
    ∙ ap (λ (s : List Folder). s ++ folders_by c.args.here c.args.second.now None c.args.depth false) (c.in_ok-add_first.ensures.put ∙ ap (λ (o : Option Entry). c.args.walk.now.folders.items ++ folders_by c.args.here c.args.first.now o c.args.depth c.args.named) c.records_of-records.ensures)
    ∙ append_assoc c.args.walk.now.folders.items (folders_by c.args.here c.args.first.now (records_of c.args.first.now c.args.second.now) c.args.depth c.args.named) (folders_by c.args.here c.args.second.now None c.args.depth false)

pub returns-clause-first_deep : goal.returns-clause-first_deep
returns-clause-first_deep c folder less = omega (arith, c.in_ok-add_first.ensures.deep folder less, c.in_ok-add_second.ensures.level)

pub returns-clause-second_deep : goal.returns-clause-second_deep
returns-clause-second_deep c folder less = c.in_ok-add_second.ensures.deep folder less

pub returns-clause-eight : goal.returns-clause-eight
returns-clause-eight c = folders_then c.args.depth c.args.here.block c.args.walk.now.noted c.add_first.new.walk.noted c.add_second.new.walk.noted c.in_ok-add_first.ensures.level
    (folders_by_other c.args.depth c.args.here.block c.args.walk.now.noted c.add_first.new.walk.noted (λ folder. inl folder) c.in_ok-add_first.ensures.eight)
    (folders_by_other c.args.depth c.args.here.block c.add_first.new.walk.noted c.add_second.new.walk.noted (λ folder. inr folder) c.in_ok-add_second.ensures.eight)
