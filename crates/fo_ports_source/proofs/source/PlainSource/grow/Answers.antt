use Rattle.std.proofs.Common.{◌≡◌, ◌-◌, ◌/◌, ◌%◌, ◌<◌, length, drop, arith}
use Rattle.std.proofs.lemmas.List.{length-drop, length-take-le}
use Rattle.fo_ports.specs.Sources.{EndsWithin}
use Rattle.fo_ports_source.specs.Source.{form_of, leaf_of, byte_of}
use Rattle.fo_ports_source.proofs.Steps.{steps_wider}
use Rattle.fo_ports_source.proofs.Grows.{part_zero, puts_zeros, longer_put}
use Rattle.fo_ports_source.proofs.Dirtied.{dirties_few, dirties_still}
use Rattle.fo_ports_source.proofs.source.PlainSource.grow.Given as given
use Rattle.fo_ports_source.proofs.source.PlainSource.grow.Goals as goal

ends : (g : given.Over) (c : goal.After-put_part g) → EndsWithin (form_of c.args.self.now.kind c.args.self.now.tag c.args.self.now.rank c.args.self.now.leaves.items) c.args.self.now.size (c.args.self.now.size / 8192)
ends g c =
    let yes = c.ends_within.ensures.yes c.if-ends_within.true in
    let some : 0 < c.args.self.now.size % 8192 = yes.2 in
    ((yes.0, yes.1), omega (arith, some), omega arith)

pub returns-then-ends_within-clause-longer : goal.returns-then-ends_within-clause-longer
returns-then-ends_within-clause-longer g c =
    let size = c.args.self.now.size in
    let leaves = c.args.self.now.leaves.items in
    let zeros = c.zeros-zeros.result in
    let yes = c.ends_within.ensures.yes c.if-ends_within.true in
    let longer = c.requires.longer in
    let inside : size / 8192 < length leaves = omega (arith, longer.0, longer.2) in
    let rest : length (drop (size % 8192) zeros) ≡ 8192 - size % 8192 = omega (arith, length-drop (size % 8192) zeros) in
    let many = length-take-le (8192 - size % 8192) (drop (size % 8192) zeros) (omega (arith, rest)) in
    let zero = part_zero (size % 8192) (8192 - size % 8192) zeros c.zeros-zeros.ensures.zero in
    longer_put _ size c.put_part.result leaves c.put_part.new.self.leaves.items _ (g.B.Blocks.state c.args.on.now) (g.B.Blocks.state c.put_part.new.on) (ends g c) inside c.put_part.ensures.leaves (λ was e. (c.requires.held was e).long) many zero c.put_part.ensures.into yes.3

pub returns-then-ends_within-clause-bytes : goal.returns-then-ends_within-clause-bytes
returns-then-ends_within-clause-bytes g c = λ told.
    let size = c.args.self.now.size in
    let old = byte_of (leaf_of c.args.self.now.leaves.items) (g.B.Blocks.state c.args.on.now).now in
    let new = byte_of (leaf_of c.put_part.new.self.leaves.items) (g.B.Blocks.state c.put_part.new.on).now in
    puts_zeros old new size _ (part_zero (size % 8192) (8192 - size % 8192) c.zeros-zeros.result c.zeros-zeros.ensures.zero) (c.requires.over.tail told) (c.put_part.ensures.puts told)

pub returns-then-ends_within-clause-steps : goal.returns-then-ends_within-clause-steps
returns-then-ends_within-clause-steps g c = steps_wider (λ b h. h) (λ b h. (ends g c, h)) c.put_part.ensures.steps

pub returns-then-ends_within-clause-dirties : goal.returns-then-ends_within-clause-dirties
returns-then-ends_within-clause-dirties g c = dirties_few (omega arith) c.put_part.ensures.dirties

pub returns-else-ends_within-clause-dirties : goal.returns-else-ends_within-clause-dirties
returns-else-ends_within-clause-dirties g c = dirties_still 2 (g.B.Blocks.state c.args.on.now)
