use Rattle.std.proofs.Common.{◌∙◌, ℕ, List, length, sym, ap}
use Rattle.fo_crash.specs.Steps.{PutsBytes}
use Rattle.fo_dir_put.proofs.Calms.{records_put}
use Rattle.fo_dir_put.proofs.Leaves.{leaf_long}
use Rattle.test_dir.proofs.Laid.{put_undisturbed}
use Rattle.test_dir.proofs.thirds.take_one.Goals as goal

pub returns-clause-over : goal.returns-clause-over
returns-clause-over g c = λ yes'.
    let s = c.args.records.now in
    let b = c.args.on.now in
    let t = c.take_record.ensures in
    let puts : PutsBytes c.args.at c.take_record.new.bytes (g.B.Blocks.state b).now (g.B.Blocks.state c.take_record.new.on).now = record { slots = t.slots; here = sym t.hand.1; others = t.bytes } in
    (g.met.S.Bytes.stays s b c.take_record.new.on c.requires.over t.keeps (λ told.
    put_undisturbed 0 told (g.met.B.Blocks.active b).0 (t.calm yes') puts (leaf_long t.hand.0 ∙ sym c.requires.owned.whole) (λ x own. (g.met.S.Bytes.live s b x c.requires.over told own).2) (c.requires.leaf told) c.requires.size)).0

pub returns-clause-leaf : goal.returns-clause-leaf
returns-clause-leaf g c = λ yes' tells.
    let s = c.args.records.now in
    let b = c.args.on.now in
    let t = c.take_record.ensures in
    let was = (g.met.B.Blocks.keeps_all b c.take_record.new.on t.keeps).still_tells.0 tells in
    let puts : PutsBytes c.args.at c.take_record.new.bytes (g.B.Blocks.state b).now (g.B.Blocks.state c.take_record.new.on).now = record { slots = t.slots; here = sym t.hand.1; others = t.bytes } in
    (((g.met.S.Bytes.stays s b c.take_record.new.on c.requires.over t.keeps (λ told.
    put_undisturbed 0 told (g.met.B.Blocks.active b).0 (t.calm yes') puts (leaf_long t.hand.0 ∙ sym c.requires.owned.whole) (λ x own. (g.met.S.Bytes.live s b x c.requires.over told own).2) (c.requires.leaf told) c.requires.size)).1 was).0 0).0 ∙ c.requires.leaf was

pub returns-clause-owned : goal.returns-clause-owned
returns-clause-owned g c = λ yes'.
    let t = c.take_record.ensures in
    records_put (g.met.B.Blocks.keeps_all c.args.on.now c.take_record.new.on t.keeps) (t.calm yes') (ap (λ (xs : List ℕ). length xs) (sym t.hand.1) ∙ leaf_long t.hand.0) c.requires.owned
