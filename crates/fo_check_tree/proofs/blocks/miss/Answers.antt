use Rattle.std.proofs.Common.{◌≡◌, ℕ, List, ◌++◌, length, take, drop, rules, sym, subst}
use Rattle.fo_image.specs.declared.types.Kind.{Kind}
use Rattle.fo_image.specs.declared.types.Kind.TheVariants.{Dir}
use Rattle.fo_check_names.specs.Finds.{Misses}
use Rattle.fo_check_names.specs.declared.names.Named.{Named}
use Rattle.fo_check_tree.specs.declared.walk.Step.{Step}
use Rattle.fo_check_tree.specs.Pairing.{IsMissedBy, MissesBy}
use Rattle.fo_check_tree.proofs.Searching.{written}
use Rattle.fo_check_tree.proofs.blocks.miss.Goals as goal

missed_by : (step : Step) (kind : Kind) (level : ℕ) (old new : List Named) → kind ≡ Dir level → IsMissedBy step level old new → MissesBy step kind old new
missed_by step kind level old new is m = subst (λ (d : Kind). MissesBy step d old new) (sym is) m

pub returns-in-Dir-clause-named : goal.returns-in-Dir-clause-named
returns-in-Dir-clause-named c =
    let items = c.args.walk.now.named.items in
    let view : c.deref_mut.result.now ≡ items = search rules in
    let long : c.args.walk.now.named.len ≡ length items = search rules in
    let misses : Misses c.args.step.now.index c.leaves_below-count.result items c.miss_pairs.new.named = subst (λ (xs : List Named). Misses c.args.step.now.index c.leaves_below-count.result xs c.miss_pairs.new.named) view c.miss_pairs.ensures in
    missed_by c.args.step.now c.args.step.now.kind c.in-Dir.level items (take c.args.walk.now.named.len (c.miss_pairs.new.named ++ drop (length c.miss_pairs.new.named) items)) c.in-Dir.is (record {
      count = c.leaves_below-count.result;
      is = c.leaves_below-count.ensures.is;
      misses = subst (λ (xs : List Named). Misses c.args.step.now.index c.leaves_below-count.result items xs) (sym (written items c.miss_pairs.new.named c.args.walk.now.named.len long misses.long)) misses;
    })
