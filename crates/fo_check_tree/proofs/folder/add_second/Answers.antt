use Rattle.std.proofs.Common.{Bool, List, [], ◌∷◌, ◌++◌, ◌∙◌, ap, arith}
use Rattle.std.specs.Prelude.{cond, not, ◌&&◌}
use Rattle.fo_check_tree.specs.declared.walk.Step.{Step}
use Rattle.fo_check_names.specs.Pairs.{is_source, is_folder}
use Rattle.fo_check_tree.specs.Lower.{level}
use Rattle.fo_check_tree.proofs.Levels.{level-lower}
use Rattle.fo_check_tree.proofs.Noting.{folders_entry}
use Rattle.fo_check_tree.proofs.folder.add_second.Goals as goal

pub returns-clause-pushed : goal.returns-clause-pushed
returns-clause-pushed c =
    c.in_ok-add_source.ensures.pushed
    ∙ ap (λ (s : List Step). s ++ cond c.is_alone-alone.result (c.unlisted-step.result ∷ []) []) c.add_entry.ensures.steps
    ∙ ap (λ (t : Bool). c.args.walk.now.steps.items ++ cond t (c.unlisted-step.result ∷ []) []) c.is_alone-alone.ensures
    ∙ ap (λ (s : Step). c.args.walk.now.steps.items ++ cond (is_source c.args.second.now && not (is_folder c.args.first.now)) (s ∷ []) []) c.unlisted-step.ensures

pub returns-clause-put : goal.returns-clause-put
returns-clause-put c = c.add_source.ensures.folders ∙ c.in_ok-add_entry.ensures.put

pub returns-clause-deep : goal.returns-clause-deep
returns-clause-deep c folder less = omega (arith, ap level (c.add_source.ensures.noted ∙ c.in_ok-add_entry.ensures.deep folder less), (level-lower c.args.walk.now.noted 8 c.args.here.block (omega arith)).1)

pub returns-clause-eight : goal.returns-clause-eight
returns-clause-eight c = folders_entry (is_folder c.args.second.now) c.args.depth c.args.here.block c.args.walk.now.noted c.add_source.new.walk.noted
    (λ folder less. c.add_source.ensures.noted ∙ c.in_ok-add_entry.ensures.deep folder less) (λ low. c.add_source.ensures.noted ∙ c.add_entry.ensures.quiet low) (λ no'. c.add_source.ensures.noted ∙ c.add_entry.ensures.other no')
