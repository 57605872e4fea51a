use Rattle.std.proofs.Common.{◌≤◌, ◌∙◌, sym, arith}
use Rattle.fo_dir_put.proofs.Leaves.{leaf_long}
use Rattle.test_dir.proofs.Laid.{put_undisturbed}
use Rattle.test_dir.proofs.leaves.fill.Goals as goal

pub ready_records-requires-clause-may : goal.ready_records-requires-clause-may
ready_records-requires-clause-may g c = record { within = omega arith; limited = c.requires.limit; pins = c.requires.pins; spare = c.requires.spare }

pub returns-in-Ok-clause-over : goal.returns-in-Ok-clause-over
returns-in-Ok-clause-over g c =
    let s = c.ready_records.new.records in
    let b = c.ready_records.new.on in
    let over = c.ready_records.ensures.over.0 in
    let within : 8192 ≤ g.S.Bytes.size s = omega (arith, c.in-Ok.ensures.size) in
    (g.met.S.Bytes.stays s b c.change_leaf.new.on over c.change_leaf.ensures.keeps (λ told.
    put_undisturbed 0 told (g.met.B.Blocks.active b).0 c.change_leaf.ensures.calm c.change_leaf.ensures.puts (leaf_long c.requires.bytes ∙ sym c.in-Ok.ensures.owned.whole)
    (λ x own. (g.met.S.Bytes.live s b x over told own).2) c.in-Ok.ensures.at within)).0
