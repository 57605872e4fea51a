use Rattle.std.proofs.Common.{◌≡◌, ◌+◌, ◌*◌, ◌/◌, ◌<◌, ◌≤◌, inl, inr, ⊎_elim, Some, map, max, subst, sym, ap, ◌∙◌, arith}
use Rattle.std.specs.List.{range_with_len}
use Rattle.std.proofs.lemmas.Bool.{cases_lt}
use Rattle.fo_ports_source.specs.Source.{leaf_of, byte_of}
use Rattle.fo_ports_source.proofs.Leaves.{prepared_same, prepared_raised}
use Rattle.fo_ports_source.proofs.Grows.{OwnsLeaf, leaf_is, owned_here}
use Rattle.fo_ports_source.proofs.Steps.{steps_changes, steps_wider}
use Rattle.fo_ports_source.proofs.Values.{values_resized}
use Rattle.fo_ports_source.proofs.Dirtied.{dirties_owned, dirties_grown}
use Rattle.fo_ports_source.proofs.Shows.{Laws, steps_show, leaf_elsewhere}
use Rattle.fo_ports_source.proofs.Alikes.{steps_alike}
use Rattle.fo_ports_source.proofs.calls.PlainSourceBytes.own_leaf.Given as given
use Rattle.fo_ports_source.proofs.calls.PlainSourceBytes.own_leaf.Goals as goal

laws_of : (g : given.Over) (b : g.row.B.Denot) → Laws (g.B.Blocks.state b)
laws_of g b = record { told = g.met.B.Blocks.told b; active = (g.met.B.Blocks.active b).0; one = g.met.B.Blocks.one_place b; super_stands = g.met.B.Blocks.super_stands b; placed = g.met.B.Blocks.placed b; live = g.met.B.Blocks.live b }

pub own-requires-clause-held : goal.own-requires-clause-held
own-requires-clause-held g c = λ at e.
    let same : (8192 * c.args.i) / 8192 ≡ c.args.i = omega arith in
    c.requires.prepared.each (8192 * c.args.i) at (omega arith) (omega arith) (subst (λ j. leaf_of c.args.self.now.leaves.items j ≡ Some at) (sym same) e)

-- the source grew
pub returns-then-self-i-clause-bytes : goal.returns-then-self-i-clause-bytes
returns-then-self-i-clause-bytes g c = λ told whole.
    let old = byte_of (leaf_of c.args.self.now.leaves.items) (g.B.Blocks.state c.args.on.now).now in
    let new = byte_of (leaf_of c.own_next.new.self.leaves.items) (g.B.Blocks.state c.own_next.new.on).now in
    let size_is : c.own_next.new.self.size ≡ max c.args.self.now.size (8192 * (c.args.i + 1)) = omega arith in
    ap (λ n. map new (range_with_len 0 n)) size_is ∙ values_resized old new c.args.self.now.size (max c.args.self.now.size (8192 * (c.args.i + 1))) (c.requires.over.tail told) (c.own_next.ensures.bytes told)

pub returns-then-self-i-clause-grows : goal.returns-then-self-i-clause-grows
returns-then-self-i-clause-grows g c =
    let e = c.own_next.ensures in
    record {
      owns = λ told b. (e.grew.owned b, e.grew.owns b);
      still = λ o n prepared. prepared_same e.same.0 e.same.1 e.same.3 (e.grew.still o n (prepared_raised {end = 8192 * (c.args.i + 1)} c.requires.over (omega arith) prepared));
    }

pub returns-then-self-i-clause-current : goal.returns-then-self-i-clause-current
returns-then-self-i-clause-current g c =
    let e = c.own_next.ensures in
    ⊎_elim
    (λ long. inl long)
    (λ (short : c.own_next.new.self.size ≤ 8192).
    let first : c.args.i ≡ 0 = omega (arith, e.same.3, short) in
    inr (record { at = c.own_next.result; is = subst (λ j. leaf_of c.own_next.new.self.leaves.items j ≡ Some c.own_next.result) first e.owned.is; current = e.current }))
    (cases_lt 8192 c.own_next.new.self.size)

pub returns-then-self-i-clause-changes : goal.returns-then-self-i-clause-changes
returns-then-self-i-clause-changes g c =
    let grows : c.args.self.now.size < 8192 * (c.args.i + 1) = omega arith in
    (steps_changes (steps_wider (λ b h. h) (λ b h. inr (c.args.self.now.size / 8192, h.0, grows, h.1)) c.own_next.ensures.steps), c.own_next.ensures.keeps)

-- the leaf of the end, in which zeros were put, is none of records
pub returns-then-self-i-clause-shown : goal.returns-then-self-i-clause-shown
returns-then-self-i-clause-shown g c =
    let laws = laws_of g c.args.on.now in
    steps_show laws (λ b p told end stands. leaf_elsewhere laws c.requires.over end.0.0.1 b p told (record { number = c.args.self.now.size / 8192; is = end.1 }) stands) c.own_next.ensures.steps

pub returns-then-self-i-clause-alike : goal.returns-then-self-i-clause-alike
returns-then-self-i-clause-alike g c =
    let e = c.own_next.ensures in
    steps_alike (laws_of g c.args.on.now) e.steps c.args.self.now.size c.own_next.new.self.size c.args.self.now.leaves.items c.own_next.new.self.leaves.items e.same.0 e.same.1 e.same.2

-- it had the leaf's place already
owns : (g : given.Over) (c : goal.After-own g) → OwnsLeaf c.args.self.now.kind c.args.self.now.tag c.args.self.now.rank c.args.self.now.leaves.items c.own.new.self.leaves.items c.args.i c.own.result (g.B.Blocks.state c.args.on.now) (g.B.Blocks.state c.own.new.on)
owns g c =
    let limit = c.requires.prepared.limit in
    record {
      inside = omega (arith, limit);
      set_is = c.own.ensures.leaves;
      content = c.own.ensures.content;
      copied = c.own.ensures.copied;
      own = c.own.ensures.own;
      steps = c.own.ensures.steps;
    }

pub returns-else-self-i-clause-owned : goal.returns-else-self-i-clause-owned
returns-else-self-i-clause-owned g c = owned_here (owns g c) c.own.new.self.kind c.own.new.self.tag c.args.self.now.size c.own.new.self.size (omega arith)

pub returns-else-self-i-clause-bytes : goal.returns-else-self-i-clause-bytes
returns-else-self-i-clause-bytes g c = λ told whole.
    let old = byte_of (leaf_of c.args.self.now.leaves.items) (g.B.Blocks.state c.args.on.now).now in
    let new = byte_of (leaf_of c.own.new.self.leaves.items) (g.B.Blocks.state c.own.new.on).now in
    let size_is : c.own.new.self.size ≡ max c.args.self.now.size (8192 * (c.args.i + 1)) = omega (arith, c.own.ensures.same.3) in
    ap (λ n. map new (range_with_len 0 n)) size_is ∙ values_resized old new c.args.self.now.size (max c.args.self.now.size (8192 * (c.args.i + 1))) (c.requires.over.tail told) (c.own.ensures.bytes told)

pub returns-else-self-i-clause-grows : goal.returns-else-self-i-clause-grows
returns-else-self-i-clause-grows g c =
    let e = c.own.ensures in
    record {
      owns = λ told b. (e.grew.owned b, e.grew.owns b);
      still = λ o n prepared. prepared_same e.same.0 e.same.1 e.same.3 (e.grew.still o n prepared);
    }

pub returns-else-self-i-clause-changes : goal.returns-else-self-i-clause-changes
returns-else-self-i-clause-changes g c = (steps_changes (steps_wider (λ b h. h) (λ b h. absurd h) c.own.ensures.steps), c.own.ensures.keeps)

-- no bytes were put
pub returns-else-self-i-clause-shown : goal.returns-else-self-i-clause-shown
returns-else-self-i-clause-shown g c = steps_show (laws_of g c.args.on.now) (λ b p told none stands. absurd none) c.own.ensures.steps

pub returns-else-self-i-clause-alike : goal.returns-else-self-i-clause-alike
returns-else-self-i-clause-alike g c =
    let e = c.own.ensures in
    steps_alike (laws_of g c.args.on.now) e.steps c.args.self.now.size c.own.new.self.size c.args.self.now.leaves.items c.own.new.self.leaves.items e.same.0 e.same.1 e.same.2

pub returns-else-self-i-clause-current : goal.returns-else-self-i-clause-current
returns-else-self-i-clause-current g c =
    let same = c.own.ensures.same.3 in
    ⊎_elim
    (λ long. inl long)
    (λ (short : c.own.new.self.size ≤ 8192).
    let first : c.args.i ≡ 0 = omega (arith, same, short) in
    inr (record { at = c.own.result; is = subst (λ j. leaf_of c.own.new.self.leaves.items j ≡ Some c.own.result) first (leaf_is (owns g c)); current = c.own.ensures.own.current }))
    (cases_lt 8192 c.own.new.self.size)

pub returns-then-self-i-clause-dirties : goal.returns-then-self-i-clause-dirties
returns-then-self-i-clause-dirties g c = dirties_grown c.args.self.now.size c.args.i (omega arith) c.own_next.ensures.dirties

pub returns-else-self-i-clause-dirties : goal.returns-else-self-i-clause-dirties
returns-else-self-i-clause-dirties g c = dirties_owned c.args.self.now.size c.args.i c.own.ensures.dirties
