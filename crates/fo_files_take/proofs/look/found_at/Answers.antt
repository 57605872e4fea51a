use Rattle.std.proofs.Common.{◌-◌, length, sym, subst, arith}
use Rattle.fo_image.specs.declared.record.Record.{Record}
use Rattle.fo_image.specs.Record.{RecordHolds, RootRecordHolds}
use Rattle.fo_files_along.specs.of_files_at.declared.at.Step.{Step}
use Rattle.fo_files_along.proofs.of_files_at.Ways.{way_stays}
use Rattle.fo_files_along.proofs.Ways.{step_at, steps_long, touched_holds}
use Rattle.fo_files_along.proofs.Ways.{touched_root}
use Rattle.fo_files_take.proofs.look.found_at.Goals as goal

pub step_of-requires : goal.step_of-requires
step_of-requires g c =
    let long = steps_long (g.B.Blocks.state c.args.on.now) c.args.root c.args.trail.now c.args.way c.requires.way in
    let some = c.requires.below in omega (arith, long, some)

pub spare_of-requires-clause-way : goal.spare_of-requires-clause-way
spare_of-requires-clause-way g c = (c.args.root, (c.args.trail.now, c.requires.way))

pub spare_of-requires-clause-own : goal.spare_of-requires-clause-own
spare_of-requires-clause-own g c =
    let long = steps_long (g.B.Blocks.state c.args.on.now) c.args.root c.args.trail.now c.args.way c.requires.way in
    let some = c.requires.below in
    let step = c.step_of.result.now in
    let h = step_at (g.B.Blocks.state c.args.on.now) c.args.root c.args.trail.now c.args.way (length c.args.trail.now - 1) step c.requires.way (omega (arith, long, some)) in
    let named = (subst (λ (x : Step). RecordHolds x.dir.named) (sym (c.step_of.ensures.is step)) h.1.holds.named) in
    subst (λ (r : Record). RecordHolds r) (sym c.in-Ok.ensures.is) (touched_holds c.args.who.now c.args.now step.dir.named c.requires.who named)

pub returns-in-Ok-spare_of-clause-found : goal.returns-in-Ok-spare_of-clause-found
returns-in-Ok-spare_of-clause-found g c =
    let long = steps_long (g.B.Blocks.state c.args.on.now) c.args.root c.args.trail.now c.args.way c.requires.way in
    let some = c.requires.below in
    let step = c.step_of.result.now in
    let h = step_at (g.B.Blocks.state c.args.on.now) c.args.root c.args.trail.now c.args.way (length c.args.trail.now - 1) step c.requires.way (omega (arith, long, some)) in
    let named = (subst (λ (x : Step). RecordHolds x.dir.named) (sym (c.step_of.ensures.is step)) h.1.holds.named) in
    record {
      way = way_stays (g.B.Blocks.state c.args.on.now) (g.B.Blocks.state c.spare_of.new.on) c.args.root c.args.trail.now c.args.way (g.met.B.Blocks.keeps_all c.args.on.now c.spare_of.new.on c.spare_of.ensures.looks.1) c.requires.way;
      last = step;
      last_is = c.step_of.ensures.is step;
      own_is = c.in-Ok.ensures.is;
      holds = subst (λ (r : Record). RecordHolds r) (sym c.in-Ok.ensures.is) (touched_holds c.args.who.now c.args.now step.dir.named c.requires.who named);
      of_root = λ one. subst (λ (r : Record). RootRecordHolds r) (sym c.in-Ok.ensures.is) (touched_root c.args.who.now c.args.now step.dir.named c.requires.who (c.is_damaged.ensures c.if-is_damaged.false (omega (arith, one))));
    }
