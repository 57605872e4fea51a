-- The facts are kept packed, and the counts are those of the facts.
use Rattle.std.specs.Prelude.{◌≡◌, List, map, count_by}
use Rattle.fo_facts.specs.declared.fact.Fact.{Fact}
use Rattle.fo_facts.specs.declared.known.Facts.TheInside.{Inside}
use Rattle.fo_facts.specs.declared.packed.Packed.{Packed}
use Rattle.fo_facts.specs.Counts.{owes, is_made}
use Rattle.fo_facts.specs.Packed.{unpacked}

abbrev pub facts_of : List Packed → List Fact
facts_of items = map unpacked items

pub record IsCounted (a : Inside) : Type 0 where
  pub owed : a.owed ≡ count_by owes (facts_of a.items.items)
  pub made : a.made ≡ count_by is_made (facts_of a.items.items)
