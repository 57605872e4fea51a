use Rattle.std.proofs.Common.{◌≡◌, ◌*◌, ◌/◌, ◌+◌, ℕ, Some, refl, sym, subst, arith}
use Rattle.fo_image.specs.declared.types.State.TheVariants.{Live}
use Rattle.fo_ports.specs.State.{KeepsAll}
use Rattle.fo_ports_source.specs.Source.{leaf_of}
use Rattle.fo_ports_source.proofs.Leaves.{grew_joins, grew_same, prepared_same, prepared_raised}
use Rattle.fo_ports_source.proofs.Grows.{OwnsLeaf, owns_same, next_steps, owned_next}
use Rattle.fo_ports_source.proofs.Dirtied.{dirties_then}
use Rattle.fo_ports_source.proofs.source.PlainSource.own_next.Given as given
use Rattle.fo_ports_source.proofs.source.PlainSource.own_next.Goals as goal

pub own-requires-clause-held : goal.own-requires-clause-held
own-requires-clause-held g c = λ at e.
    let i = c.args.i in
    let past = c.requires.longer in
    let same : (8192 * i) / 8192 ≡ i = omega arith in
    let was = prepared_raised {end = 8192 * (i + 1)} c.requires.over (omega (arith, past)) c.requires.prepared in
    (prepared_same c.grow.ensures.same.0 c.grow.ensures.same.1 refl (c.grow.ensures.grew.still (8192 * i) 8192 was)).each (8192 * i) at (omega arith) (omega arith) (subst (λ j. leaf_of c.grow.new.self.leaves.items j ≡ Some at) (sym same) e)

owns : (g : given.Over) (c : goal.After-own g) → OwnsLeaf c.args.self.now.kind c.args.self.now.tag c.args.self.now.rank c.grow.new.self.leaves.items c.own.new.self.leaves.items c.args.i c.own.result (g.B.Blocks.state c.grow.new.on) (g.B.Blocks.state c.own.new.on)
owns g c =
    let limit = c.requires.prepared.limit in
    let as_long = c.grow.ensures.grew.as_long in
    owns_same c.grow.ensures.same.0 c.grow.ensures.same.1 c.grow.ensures.same.2 (record {
      inside = omega (arith, limit, as_long);
      set_is = c.own.ensures.leaves;
      content = c.own.ensures.content;
      copied = c.own.ensures.copied;
      own = c.own.ensures.own;
      steps = c.own.ensures.steps;
    })

all : (g : given.Over) (c : goal.After-own g) → KeepsAll (g.B.Blocks.state c.args.on.now) (g.B.Blocks.state c.own.new.on)
all g c = g.met.B.Blocks.keeps_all c.args.on.now c.own.new.on (g.met.B.Blocks.keeps_joins c.args.on.now c.grow.new.on c.own.new.on c.grow.ensures.keeps c.own.ensures.keeps)

live : (g : given.Over) (c : goal.After-own g) (x : ℕ) → leaf_of c.args.self.now.leaves.items (c.args.self.now.size / 8192) ≡ Some x → ((g.B.Blocks.state c.args.on.now).label x).state ≡ Live
live g c x e = let past = c.requires.longer in (c.requires.prepared.last x (omega (arith, past)) e).labelled.is_live

pub returns-clause-owned : goal.returns-clause-owned
returns-clause-owned g c = owned_next c.requires.over c.requires.longer (live g c) (all g c) c.grow.ensures.longer c.grow.ensures.steps c.grow.ensures.grew.owned (owns g c) c.own.new.self.kind c.own.new.self.tag c.own.new.self.size

pub returns-clause-steps : goal.returns-clause-steps
returns-clause-steps g c = next_steps c.requires.over c.requires.longer (live g c) (all g c) c.grow.ensures.longer c.grow.ensures.steps c.grow.ensures.grew.owned (owns g c)

pub returns-clause-grew : goal.returns-clause-grew
returns-clause-grew g c = grew_joins (all g c) c.grow.ensures.grew (grew_same c.grow.ensures.same.0 c.grow.ensures.same.1 c.grow.ensures.same.3 c.own.ensures.grew)

pub returns-clause-dirties : goal.returns-clause-dirties
returns-clause-dirties g c = dirties_then c.grow.ensures.dirties c.own.ensures.dirties
