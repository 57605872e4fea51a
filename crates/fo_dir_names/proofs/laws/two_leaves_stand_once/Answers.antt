use Rattle.std.proofs.Common.{List, refl, sym, subst}
use Rattle.std.specs.List.{Contains}
use Rattle.fo_image.specs.declared.record.Record.{Record}
use Rattle.fo_dir_names.specs.Example.{first, second}
use Rattle.fo_dir_names.proofs.Example.{both_stand_once, first_shown, second_shown, first_leaf, second_leaf, only}
use Rattle.fo_dir_names.proofs.Beside.{later_sound, first_listed, second_listed}
use Rattle.fo_dir_names.proofs.laws.two_leaves_stand_once.Goals as goal

pub returns-clause-once : goal.returns-clause-once
returns-clause-once c = both_stand_once

pub returns-clause-first : goal.returns-clause-first
returns-clause-first c = ((refl, refl), first_shown, subst (λ (xs : List Record). Contains xs first) (sym first_leaf) (only first))

pub returns-clause-second : goal.returns-clause-second
returns-clause-second c = ((refl, refl), second_shown, subst (λ (xs : List Record). Contains xs second) (sym second_leaf) (only second))

pub returns-clause-beside : goal.returns-clause-beside
returns-clause-beside c = λ arena. (later_sound arena, first_listed arena, second_listed arena)
