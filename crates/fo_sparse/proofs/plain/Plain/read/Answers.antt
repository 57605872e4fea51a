use Rattle.std.proofs.Common.{◌≡◌, ◌-◌, min, length, drop, rules, arith, sym, ap, ◌∙◌}
use Rattle.std.proofs.lemmas.List.{take_at, length-take}
use Rattle.fo_sparse.proofs.Bytes.{length-bytes_of, bytes_given}
use Rattle.fo_sparse.proofs.plain.Plain.read.Goals as goal

pub returns-clause-given : goal.returns-clause-given
returns-clause-given c =
    let n = c.min-count.result in
    let long : length c.copy_out.new.into ≡ n = search rules in
    let is : length c.copy_out.new.into ≡ min (length c.args.into.now) (c.self.inside.len - c.args.offset) = omega arith in
    take_at c.copy_out.new.into (drop n c.args.into.now) n long
    ∙ rw (← c.self.view_is) (bytes_given c.self.inside.pages c.self.inside.len c.args.offset (length c.args.into.now) c.copy_out.new.into c.self.invariant is
    (λ i lt. c.copy_out.ensures i (omega (arith, length-take n c.args.into.now))))

pub returns-clause-count : goal.returns-clause-count
returns-clause-count c =
    let len = sym (length-bytes_of c.self.inside.pages c.self.inside.len) ∙ ap length c.self.view_is in
    omega arith
