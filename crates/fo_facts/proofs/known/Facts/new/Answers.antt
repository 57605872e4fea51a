use Rattle.std.proofs.Common.{◌≡◌, ◌∙◌, ap, cond, replicate, arith}
use Rattle.std.proofs.lemmas.List.Folds.{sum_by-replicate}
use Rattle.fo_facts.specs.Counted.{facts_of}
use Rattle.fo_facts.specs.Counts.{owes, is_made}
use Rattle.fo_facts.specs.Known.{no_fact}
use Rattle.fo_facts.proofs.Packing.{facts-replicate}
use Rattle.fo_facts.proofs.known.Facts.new.Goals as goal

pub invariant_of-result : goal.invariant_of-result
invariant_of-result c =
    let all = c.in_ok-vec.ensures.items_if_clones_equal (λ y e. e) in
    let h : facts_of c.in_ok-vec.field-0.items ≡ replicate c.args.count no_fact = ap facts_of all ∙ facts-replicate c.args.count c.of.result no_fact c.of.ensures in
    record {
      owed = rw (h, sum_by-replicate (λ f. cond (owes f) 1 0) c.args.count no_fact) (omega arith);
      made = rw (h, sum_by-replicate (λ f. cond (is_made f) 1 0) c.args.count no_fact) (omega arith);
    }

pub returns : goal.returns
returns c = ap facts_of (c.in_ok-vec.ensures.items_if_clones_equal (λ y e. e)) ∙ facts-replicate c.args.count c.of.result no_fact c.of.ensures
