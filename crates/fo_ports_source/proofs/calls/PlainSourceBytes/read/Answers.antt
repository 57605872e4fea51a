use Rattle.std.proofs.Common.{refl, ◌≡◌, ◌-◌, ◌≤◌, [], min, length, take, drop, ◌∙◌, inl, inr, ⊎_elim, arith}
use Rattle.std.proofs.lemmas.List.{take_at, length-take}
use Rattle.fo_ports_source.specs.Source.{leaf_of, byte_of}
use Rattle.fo_ports_source.specs.SourceLaws.{part_prepared}
use Rattle.fo_ports_source.proofs.Looks.{over_looks, same_looks}
use Rattle.fo_ports_source.proofs.Puts.{few_leaves}
use Rattle.fo_ports_source.proofs.Values.{values_given}
use Rattle.fo_ports_source.proofs.calls.PlainSourceBytes.read.Goals as goal

pub returns-then-left-eq0-clause-given : goal.returns-then-left-eq0-clause-given
returns-then-left-eq0-clause-given g c = λ of_data found known.
    values_given (byte_of (leaf_of c.args.self.now.leaves.items) (g.B.Blocks.state c.args.on.now).now) c.args.self.now.size c.args.offset (length c.args.into.now) [] (omega arith) (λ i lt. absurd (omega (arith, lt)))

pub returns-in_err-copy_out-clause-over : goal.returns-in_err-copy_out-clause-over
returns-in_err-copy_out-clause-over g c =
    let looks = c.copy_out.ensures.looks in
    let k = g.met.B.Blocks.keeps_all c.args.on.now c.copy_out.new.on c.copy_out.ensures.keeps in
    over_looks looks k c.requires.over

pub returns-clause-given : goal.returns-clause-given
returns-clause-given g c = λ of_data found known.
    let n = c.min-count.result in
    let short : length (take n c.args.into.now) ≤ length c.args.into.now = omega (arith, length-take n c.args.into.now) in
    let long : length c.copy_out.new.into ≡ n = c.copy_out.auto.into ∙ (omega (arith, length-take n c.args.into.now)) in
    let is : length c.copy_out.new.into ≡ min (length c.args.into.now) (c.args.self.now.size - c.args.offset) = omega (arith, long) in
    take_at c.copy_out.new.into (drop n c.args.into.now) n long
    ∙ values_given (byte_of (leaf_of c.args.self.now.leaves.items) (g.B.Blocks.state c.copy_out.new.on).now) c.args.self.now.size c.args.offset (length c.args.into.now) c.copy_out.new.into is
    (λ i lt. c.in_ok-copy_out.ensures.given of_data
    (⊎_elim
    (λ told. inl told)
    (λ pins. inr (⊎_elim
    (λ enough. inl (omega (arith, short, few_leaves c.args.self.now.size (length c.args.into.now), enough)))
    (λ prepared. inr (part_prepared c.args.offset (length (take n c.args.into.now)) prepared (omega arith) (omega (arith, short))))
    pins))
    found)
    i (omega (arith, lt, long, length-take n c.args.into.now)))

pub returns-clause-over : goal.returns-clause-over
returns-clause-over g c =
    let looks = c.copy_out.ensures.looks in
    let k = g.met.B.Blocks.keeps_all c.args.on.now c.copy_out.new.on c.copy_out.ensures.keeps in
    over_looks looks k c.requires.over

pub returns-in_err-copy_out-clause-same : goal.returns-in_err-copy_out-clause-same
returns-in_err-copy_out-clause-same g c = (refl, refl, same_looks c.copy_out.ensures.looks (g.met.B.Blocks.keeps_all c.args.on.now c.copy_out.new.on c.copy_out.ensures.keeps))

pub returns-clause-same : goal.returns-clause-same
returns-clause-same g c = (refl, refl, same_looks c.copy_out.ensures.looks (g.met.B.Blocks.keeps_all c.args.on.now c.copy_out.new.on c.copy_out.ensures.keeps))
