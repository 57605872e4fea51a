-- Replies that wait.
use Rattle.std.proofs.Common.{◌≡◌, ℕ, ◌≤◌, List, [], ◌++◌, length, min, ◌∙◌, arith}
use Rattle.std.specs.declared.option.Option.{Option}
use Rattle.std.proofs.lemmas.List.{take-append-le, take_min}
use Rattle.fo_talk.specs.Answering.{PutsAll, PutsFront}
use Rattle.fo_talk.proofs.Going.{gains_nothing}

-- none wait, and none are put
pub puts_nothing : (replies : List ℕ) (held : Option (List ℕ)) → replies ≡ [] → PutsAll replies replies held held
puts_nothing replies held none = record { none = none; put = rw none (gains_nothing held) }

-- a front of what waits is one of that with more behind it
pub front_of_more : (replies said : List ℕ) (held held' : Option (List ℕ)) → PutsFront replies held held' → PutsFront (replies ++ said) held held'
front_of_more replies said held held' p =
    let few : min p.count (length replies) ≤ length replies = omega arith in
    record { count = min p.count (length replies); put = rw (take-append-le (min p.count (length replies)) replies said few ∙ take_min p.count replies) p.put }
