use Rattle.std.proofs.Common.{◌<◌, length}
use Rattle.fo_facts.specs.Counted.{facts_of}
use Rattle.fo_facts.specs.Counts.{owes, is_made}
use Rattle.fo_facts.proofs.Packing.{facts-set, count-set}
use Rattle.fo_facts.proofs.known.Facts.set.Goals as goal

pub invariant_of-self : goal.invariant_of-self
invariant_of-self c =
    let s = c.self.inside in
    let h = facts-set s.items.items c.args.at c.of.result c.args.fact c.of.ensures in
    let inside : c.args.at < length (facts_of s.items.items) = rw (← c.self.view_is) at c.requires in
    let was = rw (← c.self.view_is) at c.get-was.ensures in
    record {
      owed = rw h (count-set owes (facts_of s.items.items) c.args.at c.get-was.result c.args.fact _ _ inside was c.self.invariant.owed c.counted-self-inside.ensures);
      made = rw h (count-set is_made (facts_of s.items.items) c.args.at c.get-was.result c.args.fact _ _ inside was c.self.invariant.made c.counted-self-inside-2.ensures);
    }

pub returns : goal.returns
returns c =
    let s = c.self.inside in
    rw (← c.self.view_is) (facts-set s.items.items c.args.at c.of.result c.args.fact c.of.ensures)
