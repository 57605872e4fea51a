use Rattle.std.proofs.Common.{◌≡◌, ◌+◌, ◌-◌, ◌≤◌, [], min, length, take, drop, ◌∙◌, inl, inr, ⊎_elim, arith}
use Rattle.std.proofs.lemmas.List.{take_at, length-take}
use Rattle.fo_tree_read.specs.Tree.{byte}
use Rattle.fo_tree_read.proofs.Exits.{looks_none}
use Rattle.fo_tree_read.proofs.Parts.{values_given}
use Rattle.fo_tree_read.proofs.Passed.{part_prepared}
use Rattle.fo_tree_read.proofs.tree.Tree.read.Goals as goal

pub returns-then-left-eq0-clause-given : goal.returns-then-left-eq0-clause-given
returns-then-left-eq0-clause-given g c = λ of_data found known.
    values_given (byte (g.B.Blocks.state c.args.on.now) c.args.self.now) c.args.self.now.size c.args.offset (length c.args.into.now) [] (omega arith) (λ i lt. absurd (omega (arith, lt)))

pub returns-then-left-eq0-clause-looks : goal.returns-then-left-eq0-clause-looks
returns-then-left-eq0-clause-looks g c = looks_none (g.B.Blocks.state c.args.on.now)

pub returns-in_err-copy_out-clause-pins : goal.returns-in_err-copy_out-clause-pins
returns-in_err-copy_out-clause-pins g c =
    let n = c.min-count.result in
    let short : length (take n c.args.into.now) ≤ length c.args.into.now = omega (arith, length-take n c.args.into.now) in
    let p = c.copy_out.ensures.pins in
    omega (arith, p, short)

pub returns-clause-pins : goal.returns-clause-pins
returns-clause-pins g c =
    let n = c.min-count.result in
    let short : length (take n c.args.into.now) ≤ length c.args.into.now = omega (arith, length-take n c.args.into.now) in
    let p = c.copy_out.ensures.pins in
    omega (arith, p, short)

pub returns-clause-given : goal.returns-clause-given
returns-clause-given g c = λ of_data found known.
    let n = c.min-count.result in
    let short : length (take n c.args.into.now) ≤ length c.args.into.now = omega (arith, length-take n c.args.into.now) in
    let long : length c.copy_out.new.into ≡ n = c.copy_out.auto.into ∙ (omega (arith, length-take n c.args.into.now)) in
    let is : length c.copy_out.new.into ≡ min (length c.args.into.now) (c.args.self.now.size - c.args.offset) = omega (arith, long) in
    take_at c.copy_out.new.into (drop n c.args.into.now) n long
    ∙ values_given (byte (g.B.Blocks.state c.copy_out.new.on) c.args.self.now) c.args.self.now.size c.args.offset (length c.args.into.now) c.copy_out.new.into is
    (λ i lt. c.in_ok-copy_out.ensures.given of_data
    (⊎_elim
    (λ told. inl told)
    (λ pins. inr (⊎_elim
    (λ enough. inl (omega (arith, short, enough)))
    (λ prepared. inr (part_prepared c.args.offset (length (take n c.args.into.now)) prepared (omega arith) (omega (arith, short))))
    pins))
    found)
    i (omega (arith, lt, long, length-take n c.args.into.now))
    (⊎_elim (λ told. inl told) (λ local. inr (local (c.args.offset + i) (omega arith) (omega (arith, lt, long, short, length-take n c.args.into.now)) (omega (arith, lt, is)))) known))
