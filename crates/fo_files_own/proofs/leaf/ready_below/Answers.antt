use Rattle.std.proofs.Common.{ℕ, List, inl, inr, sym, subst, ◌∙◌, arith, [], ◌∷◌}
use Rattle.fo_files_record.proofs.of_dir_put.Leaves.{leaf_long}
use Rattle.fo_files_record.specs.Stays.{no_slot}
use Rattle.fo_files_record.proofs.Rewriting.{rewrites_looks, rewrites_joins}
use Rattle.fo_files_ready.proofs.of_files_change.Records.{records_rank, later_failed}
use Rattle.fo_files_ready.specs.Ready.{HasPlace, IsLeafOf}
use Rattle.fo_files_ready.proofs.Steps.{leaf_looks}
use Rattle.fo_files_own.specs.Own.{WasReadied}
use Rattle.fo_files_own.proofs.Placed.{leaf_ready}
use Rattle.fo_files_own.proofs.leaf.ready_below.Goals as goal
use Rattle.fo_dirties.proofs.Adding.{adds_given, first_of, adds_still}
use Rattle.fo_dirties.proofs.Putting.{dirties_looks}
use Rattle.fo_ports.specs.Sources.{AddsDirty}

pub ready_record-ready-requires-clause-spare : goal.ready_record-ready-requires-clause-spare
ready_record-ready-requires-clause-spare g c = let enough = c.requires.spare in omega (arith, enough)

pub returns-in-Err-clause-spare : goal.returns-in-Err-clause-spare
returns-in-Err-clause-spare g c = let took = c.ready_record-ready.ensures.spare in omega (arith, took)

pub read-requires-clause-silent : goal.read-requires-clause-silent
read-requires-clause-silent g c = λ h. c.requires.silent ((g.met.B.Blocks.keeps_all c.args.on.now c.ready_record-ready.new.on c.ready_record-ready.ensures.keeps).still_tells.0 h)

pub read-requires-clause-leaf : goal.read-requires-clause-leaf
read-requires-clause-leaf g c = c.in-Ok.ensures.ready.records

pub read-requires-clause-rank : goal.read-requires-clause-rank
read-requires-clause-rank g c = records_rank c.args.at.dir.rank c.requires.dir.ranked c.requires.dir.least

pub with_record-requires-clause-leaf : goal.with_record-requires-clause-leaf
with_record-requires-clause-leaf g c = (c.in-Ok-read.ensures.bytes.0, leaf_long c.in-Ok-read.ensures.bytes.0)

pub with_record-requires-clause-place : goal.with_record-requires-clause-place
with_record-requires-clause-place g c =
    subst (λ (xs : List ℕ). HasPlace c.args.named.now.name c.args.named.now xs) (sym (c.in-Ok-read.ensures.bytes.1 ∙ c.read.ensures.same))
    (subst (λ (n : List ℕ). HasPlace n c.args.named.now (((g.B.Blocks.state c.ready_record-ready.new.on).now c.in-Ok.leaf).bytes)) c.as_slice-name.ensures c.in-Ok.ensures.ready.place)

pub returns-in-Ok-read-clause-ready : goal.returns-in-Ok-read-clause-ready
returns-in-Ok-read-clause-ready g c =
    let m = g.B.Blocks.state c.ready_record-ready.new.on in
    let u = g.B.Blocks.state c.read.new.on in
    let own = leaf_looks m u c.args.at.dir c.in-Ok.leaf (g.met.B.Blocks.keeps_all c.ready_record-ready.new.on c.read.new.on c.read.ensures.keeps) c.read.ensures.looks c.in-Ok.ensures.ready.own in
    let of = c.with_record.ensures.of in
    leaf_ready u c.args.at.dir c.in-Ok.leaf _ c.args.named.now _ own of.0 of.1 c.in-Ok-read.ensures.bytes.1 c.in-Ok-read.ensures.bytes.0 c.with_record.ensures.leaf c.with_record.ensures.changed

pub returns-in-Ok-read-clause-steps : goal.returns-in-Ok-read-clause-steps
returns-in-Ok-read-clause-steps g c =
    let was : WasReadied _ g.B.Blocks.state c.args.on.now c.read.new.on c.args.at c.as_slice-name.result.now c.in-Ok.leaf = (c.ready_record-ready.new.on, c.in-Ok.ensures.steps, c.read.ensures.looks) in
    let named = subst (λ (n : List ℕ). WasReadied _ g.B.Blocks.state c.args.on.now c.read.new.on c.args.at n c.in-Ok.leaf) c.as_slice-name.ensures was in
    subst (λ b. WasReadied _ g.B.Blocks.state c.args.on.now c.read.new.on c.args.at c.args.named.now.name b) (sym c.with_record.ensures.of.0) named

pub returns-in-Err-read-clause-left : goal.returns-in-Err-read-clause-left
returns-in-Err-read-clause-left g c =
    let was : WasReadied _ g.B.Blocks.state c.args.on.now c.read.new.on c.args.at c.as_slice-name.result.now c.in-Ok.leaf = (c.ready_record-ready.new.on, c.in-Ok.ensures.steps, c.read.ensures.looks) in
    inr (c.in-Ok.leaf, subst (λ (n : List ℕ). WasReadied _ g.B.Blocks.state c.args.on.now c.read.new.on c.args.at n c.in-Ok.leaf) c.as_slice-name.ensures was)

pub returns-in-Err-clause-left : goal.returns-in-Err-clause-left
returns-in-Err-clause-left g c = inl c.in-Err.ensures.nothing

pub returns-in-Ok-read-clause-stays : goal.returns-in-Ok-read-clause-stays
returns-in-Ok-read-clause-stays g c =
    let y = c.ready_record-ready.ensures.stays in
    (y.0, y.1, y.2, g.met.B.Blocks.keeps_joins y.0 c.ready_record-ready.new.on c.read.new.on y.3 c.read.ensures.keeps, rewrites_joins y.4 (rewrites_looks (IsLeafOf c.args.at.dir (g.B.Blocks.state y.0)) no_slot c.read.ensures.looks c.read.ensures.pins))

pub returns-in-Err-read-clause-stays : goal.returns-in-Err-read-clause-stays
returns-in-Err-read-clause-stays g c =
    let y = c.ready_record-ready.ensures.stays in
    (y.0, y.1, y.2, g.met.B.Blocks.keeps_joins y.0 c.ready_record-ready.new.on c.read.new.on y.3 c.read.ensures.keeps, rewrites_joins y.4 (rewrites_looks (IsLeafOf c.args.at.dir (g.B.Blocks.state y.0)) no_slot c.read.ensures.looks c.read.ensures.pins))

pub returns-in-Ok-read-clause-keeps : goal.returns-in-Ok-read-clause-keeps
returns-in-Ok-read-clause-keeps g c = g.met.B.Blocks.keeps_joins c.args.on.now c.ready_record-ready.new.on c.read.new.on c.ready_record-ready.ensures.keeps c.read.ensures.keeps

pub returns-in-Err-read-clause-keeps : goal.returns-in-Err-read-clause-keeps
returns-in-Err-read-clause-keeps g c = g.met.B.Blocks.keeps_joins c.args.on.now c.ready_record-ready.new.on c.read.new.on c.ready_record-ready.ensures.keeps c.read.ensures.keeps

pub returns-in-Ok-read-clause-spare : goal.returns-in-Ok-read-clause-spare
returns-in-Ok-read-clause-spare g c = let took = c.ready_record-ready.ensures.spare in let same = c.read.ensures.looks.room.0 in omega (arith, took, same)

pub returns-in-Err-read-clause-spare : goal.returns-in-Err-read-clause-spare
returns-in-Err-read-clause-spare g c = let took = c.ready_record-ready.ensures.spare in let same = c.read.ensures.looks.room.0 in omega (arith, took, same)

pub returns-in-Ok-read-clause-pins : goal.returns-in-Ok-read-clause-pins
returns-in-Ok-read-clause-pins g c = let took = c.ready_record-ready.ensures.pins in let same = c.read.ensures.pins in omega (arith, took, same)

pub returns-in-Err-read-clause-pins : goal.returns-in-Err-read-clause-pins
returns-in-Err-read-clause-pins g c = let took = c.ready_record-ready.ensures.pins in let same = c.read.ensures.pins in omega (arith, took, same)

pub returns-in-Ok-read-clause-room : goal.returns-in-Ok-read-clause-room
returns-in-Ok-read-clause-room g c = let took = c.ready_record-ready.ensures.room in let same = c.read.ensures.looks.room.1 in omega (arith, took, same)

pub returns-in-Err-read-clause-room : goal.returns-in-Err-read-clause-room
returns-in-Err-read-clause-room g c = let took = c.ready_record-ready.ensures.room in let same = c.read.ensures.looks.room.1 in omega (arith, took, same)

pub returns-in-Err-read-clause-cause : goal.returns-in-Err-read-clause-cause
returns-in-Err-read-clause-cause g c = later_failed (g.B.Blocks.state c.args.on.now) (g.B.Blocks.state c.ready_record-ready.new.on) (g.B.Blocks.state c.read.new.on) (g.met.B.Blocks.keeps_all c.args.on.now c.ready_record-ready.new.on c.ready_record-ready.ensures.keeps) c.in-Err-read.why c.in-Err-read.ensures.cause

pub returns-in-Err-clause-dirties_refused : goal.returns-in-Err-clause-dirties_refused
returns-in-Err-clause-dirties_refused g c = c.in-Err.ensures.dirties_refused

pub returns-in-Err-read-clause-dirties_refused : goal.returns-in-Err-read-clause-dirties_refused
returns-in-Err-read-clause-dirties_refused g c = adds_given first_of (adds_still c.in-Ok.ensures.dirties (dirties_looks (g.met.B.Blocks.keeps_all c.ready_record-ready.new.on c.read.new.on c.read.ensures.keeps) c.read.ensures.looks))

pub returns-in-Ok-read-clause-dirties : goal.returns-in-Ok-read-clause-dirties
returns-in-Ok-read-clause-dirties g c = subst (λ b. AddsDirty 22 (c.args.at.dir.at ∷ []) b (g.B.Blocks.state c.args.on.now) (g.B.Blocks.state c.read.new.on)) (sym c.with_record.ensures.of.0) (adds_still c.in-Ok.ensures.dirties (dirties_looks (g.met.B.Blocks.keeps_all c.ready_record-ready.new.on c.read.new.on c.read.ensures.keeps) c.read.ensures.looks))
