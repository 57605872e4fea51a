use Rattle.std.proofs.Common.{rules, ◌≡◌, ◌+◌, ◌<◌, map, max, length, ap, ◌∙◌, arith}
use Rattle.std.specs.List.{range_with_len}
use Rattle.fo_ports_source.specs.Source.{leaf_of, byte_of}
use Rattle.fo_ports_source.proofs.Leaves.{prepared_same, prepared_raised}
use Rattle.fo_ports_source.proofs.Steps.{steps_changes}
use Rattle.fo_ports_source.proofs.Values.{values_written}
use Rattle.fo_ports_source.proofs.Dirtied.{dirties_written}
use Rattle.fo_ports_source.proofs.Shows.{Laws, steps_show, leaf_elsewhere}
use Rattle.fo_ports_source.proofs.calls.PlainSourceBytes.write.Given as given
use Rattle.fo_ports_source.proofs.calls.PlainSourceBytes.write.Goals as goal

laws_of : (g : given.Over) (b : g.row.B.Denot) → Laws (g.B.Blocks.state b)
laws_of g b = record { told = g.met.B.Blocks.told b; active = (g.met.B.Blocks.active b).0; one = g.met.B.Blocks.one_place b; super_stands = g.met.B.Blocks.super_stands b; placed = g.met.B.Blocks.placed b; live = g.met.B.Blocks.live b }

pub returns-clause-bytes : goal.returns-clause-bytes
returns-clause-bytes g c = λ told.
    let old = byte_of (leaf_of c.args.self.now.leaves.items) (g.B.Blocks.state c.args.on.now).now in
    let new = byte_of (leaf_of c.put.new.self.leaves.items) (g.B.Blocks.state c.put.new.on).now in
    let size_is : c.put.new.self.size ≡ max c.args.self.now.size (c.args.offset + length c.args.piece.now) = omega arith in
    let some : 0 < length c.args.piece.now = search rules in
    ap (λ n. map new (range_with_len 0 n)) size_is ∙ values_written old new c.args.self.now.size c.args.offset c.args.piece.now some (c.requires.over.tail told) (c.put.ensures.puts told)

pub returns-clause-grows : goal.returns-clause-grows
returns-clause-grows g c = record {
  owns = λ told b. (c.put.ensures.grew.owned b, c.put.ensures.grew.owns b);
  still = λ o n prepared. prepared_same c.put.ensures.same.0 c.put.ensures.same.1 c.put.ensures.same.3 (c.put.ensures.grew.still o n (prepared_raised {end = c.max-self.result} c.requires.over (omega arith) prepared));
}

pub returns-clause-changes : goal.returns-clause-changes
returns-clause-changes g c = (steps_changes c.put.ensures.grew.steps, c.put.ensures.keeps)

pub returns-clause-dirties : goal.returns-clause-dirties
returns-clause-dirties g c = dirties_written (max c.args.self.now.size (c.args.offset + length c.args.piece.now)) (length c.args.piece.now) c.put.ensures.dirties

-- its leaves are no leaves of records
pub returns-clause-shown : goal.returns-clause-shown
returns-clause-shown g c = let laws = laws_of g c.args.on.now in steps_show laws (leaf_elsewhere laws c.requires.over c.requires.kind.1) c.put.ensures.grew.steps
