use Rattle.std.proofs.Common.{inl, sym, subst, [], ◌∷◌}
use Rattle.fo_files_record.proofs.Rooted.{root_looks, whole_root}
use Rattle.fo_files_own.proofs.Placed.{may_put_root}
use Rattle.fo_files_own.proofs.Stays.{live_looks, of_record, wider}
use Rattle.fo_files_own.proofs.root.ready_root.Goals as goal
use Rattle.fo_dirties.proofs.Adding.{adds_idle, first_of}
use Rattle.fo_dirties.proofs.Putting.{dirties_looks}
use Rattle.fo_ports.specs.Sources.{AddsDirty}

pub returns-in-Err-clause-root : goal.returns-in-Err-clause-root
returns-in-Err-clause-root g c = (root_looks c.args.root (g.met.B.Blocks.keeps_all c.args.on.now c.get.new.self c.get.ensures.keeps) c.get.ensures.looks c.requires.root.0, live_looks c.args.root c.get.ensures.looks c.requires.root.1)

pub returns-in-Ok-with_record-clause-root : goal.returns-in-Ok-with_record-clause-root
returns-in-Ok-with_record-clause-root g c = (root_looks c.args.root (g.met.B.Blocks.keeps_all c.args.on.now c.get.new.self c.get.ensures.keeps) c.get.ensures.looks c.requires.root.0, live_looks c.args.root c.get.ensures.looks c.requires.root.1)

pub returns-in-Err-with_record-clause-root : goal.returns-in-Err-with_record-clause-root
returns-in-Err-with_record-clause-root g c = (root_looks c.args.root (g.met.B.Blocks.keeps_all c.args.on.now c.get.new.self c.get.ensures.keeps) c.get.ensures.looks c.requires.root.0, live_looks c.args.root c.get.ensures.looks c.requires.root.1)

pub returns-in-Err-clause-cause : goal.returns-in-Err-clause-cause
returns-in-Err-clause-cause g c = wider (g.B.Blocks.state c.args.on.now) (g.B.Blocks.state c.get.new.self) _ (λ b h. inl (subst (λ x. (g.B.Blocks.state c.args.on.now).is_block x) (sym h.0) c.requires.root.0.is_one)) c.in-Err.why c.in-Err.ensures.cause

pub returns-in-Err-with_record-clause-cause : goal.returns-in-Err-with_record-clause-cause
returns-in-Err-with_record-clause-cause g c = of_record (g.B.Blocks.state c.args.on.now) (g.B.Blocks.state c.get.new.self) c.args.root c.in-Err-with_record.why c.requires.root.0.is_one c.in-Err-with_record.ensures.cause

pub returns-in-Ok-with_record-clause-ready : goal.returns-in-Ok-with_record-clause-ready
returns-in-Ok-with_record-clause-ready g c =
    let u = g.B.Blocks.state c.get.new.self in
    let is = root_looks c.args.root (g.met.B.Blocks.keeps_all c.args.on.now c.get.new.self c.get.ensures.keeps) c.get.ensures.looks c.requires.root.0 in
    let live = live_looks c.args.root c.get.ensures.looks c.requires.root.1 in
    let reads = c.in-Ok.ensures.bytes.0 in
    let whole = whole_root c.get.new.into ((u.now c.args.root).bytes) c.in-Ok.ensures.formed.0.0 reads.behind in
    let of = c.in-Ok-with_record.ensures.of in (
      may_put_root u c.args.root c.in-Ok-with_record.ready is live whole of.0 of.1 c.in-Ok-with_record.ensures.long,
      of,
      record { old = c.get.new.into; had = record { head = reads.before; own = reads.behind }; own = c.in-Ok-with_record.ensures.own },
    )

pub returns-in-Ok-with_record-clause-dirties : goal.returns-in-Ok-with_record-clause-dirties
returns-in-Ok-with_record-clause-dirties g c = subst (λ b. AddsDirty 0 (c.args.root ∷ []) b (g.B.Blocks.state c.args.on.now) (g.B.Blocks.state c.get.new.self)) (sym c.in-Ok-with_record.ensures.of.0) (adds_idle 0 first_of (dirties_looks (g.met.B.Blocks.keeps_all c.args.on.now c.get.new.self c.get.ensures.keeps) c.get.ensures.looks))
