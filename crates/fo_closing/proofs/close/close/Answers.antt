use Rattle.std.proofs.Common.{◌+◌, ◌<◌, ◌≤◌, List, length, refl, sym, ap, ◌∙◌, subst, arith}
use Rattle.fo_buffers.specs.Held.{Held}
use Rattle.fo_order.specs.Keeps.{Turns}
use Rattle.fo_order.specs.Turns.{changed}
use Rattle.fo_labels.specs.Region.{IsDataBlock, Region, closed_label, label_of, relabeled, usable_count}
use Rattle.fo_image.specs.declared.types.Label.{Label}
use Rattle.fo_waits.specs.declared.listed.Wait.{Wait}
use Rattle.fo_mind.specs.Parts.{label_at}
use Rattle.fo_mind.specs.Sound.{Placed, Labelled, Holding, Changing, Waiting, Clearable, Owing, Roomy, RootIn, Standing}
use Rattle.fo_mind.specs.Turning.{Turning}
use Rattle.fo_mind.proofs.Changing.{changing_gone, changing_relabeled}
use Rattle.fo_mind.proofs.Giving.{data_label, labelled_given}
use Rattle.fo_mind.proofs.Releasing.{holding_cut, owing_cut, turning_cut}
use Rattle.fo_mind.proofs.Results.{both, three}
use Rattle.fo_closing.proofs.Keeping.{clearable_closed, closed_holds, cuts, holding_relabeled, live_kept, owing_closed, placed_closed, roomy_closed, turning_labels, usable_closed, waiting_closed, root_in_closed, standing_closed}
use Rattle.fo_closing.proofs.close.close.Goals as goal

pub close-requires-clause-block : goal.close-requires-clause-block
close-requires-clause-block c = record { from = c.requires.may.block.0; to = c.requires.may.block.1 }

pub close-requires-clause-live : goal.close-requires-clause-live
close-requires-clause-live c = ap (λ (l : Label). l.state) (sym (data_label c.args.mind.now.labels c.args.at c.requires.may.block.0)) ∙ c.requires.may.live

pub close-requires-clause-made : goal.close-requires-clause-made
close-requires-clause-made c = subst (λ (l : Label). l.epoch ≤ c.args.epoch) (data_label c.args.mind.now.labels c.args.at c.requires.may.block.0) c.requires.may.begun

pub change-requires-clause-block : goal.change-requires-clause-block
change-requires-clause-block c =
    let m = c.args.mind.now in
    let from = c.requires.may.block.0 in
    let to = c.requires.may.block.1 in
    let n = m.placed.is_count in
    let f = m.placed.is_first in
    let p = m.placed.is_place in
    let k = m.placed.flag_count in
    let e = c.label_place.ensures.block in
    omega (arith, from, to, n, f, p, k, e)

pub change-requires-clause-room : goal.change-requires-clause-room
change-requires-clause-room c = λ e. let t = c.requires.turn in omega (arith, t)

pub invariant_of-mind-clause-placed : goal.invariant_of-mind-clause-placed
invariant_of-mind-clause-placed c =
    let m = c.args.mind.now in
    both (λ (r : Region) (t : Turns). Placed r t m.facts m.first m.count) c.close.ensures c.change.ensures
    (placed_closed c.args.at c.label_place.result.0 0 (closed_label (label_of m.labels c.args.at) c.args.epoch) m.placed)

pub invariant_of-mind-clause-labelled : goal.invariant_of-mind-clause-labelled
invariant_of-mind-clause-labelled c =
    let m = c.args.mind.now in
    let may = c.requires.may in
    let same = data_label m.labels c.args.at may.block.0 in
    let is : IsDataBlock m.labels c.args.at = record { from = may.block.0; to = may.block.1 } in
    subst Labelled (sym c.close.ensures) (labelled_given m.labels c.args.at (closed_label (label_of m.labels c.args.at) c.args.epoch) is
    (closed_holds (label_of m.labels c.args.at) c.args.epoch (ap (λ (l : Label). l.state) (sym same) ∙ may.live) (subst (λ (l : Label). l.epoch ≤ c.args.epoch) same may.begun) may.small (m.labelled.each c.args.at (may.block.0, may.block.1)))
    m.labelled)

pub invariant_of-mind-clause-holding : goal.invariant_of-mind-clause-holding
invariant_of-mind-clause-holding c =
    let m = c.args.mind.now in
    let may = c.requires.may in
    let is : IsDataBlock m.labels c.args.at = record { from = may.block.0; to = may.block.1 } in
    both (λ (r : Region) (h : Held). Holding m.one.low m.first m.count r h) c.close.ensures c.forget.ensures
    (holding_relabeled m.labels c.args.at (closed_label (label_of m.labels c.args.at) c.args.epoch) is (cuts c.args.at m.buffers).here (holding_cut (cuts c.args.at m.buffers) m.holding))

pub invariant_of-mind-clause-waiting : goal.invariant_of-mind-clause-waiting
invariant_of-mind-clause-waiting c =
    let m = c.args.mind.now in
    let may = c.requires.may in
    let is : IsDataBlock m.labels c.args.at = record { from = may.block.0; to = may.block.1 } in
    three (λ (r : Region) (h : Held) (w : List Wait). Waiting r h w) c.close.ensures c.forget.ensures c.drop_waits.ensures.items
    (waiting_closed m.labels c.args.at (closed_label (label_of m.labels c.args.at) c.args.epoch) is m.waits.items (cuts c.args.at m.buffers) m.waiting)

pub invariant_of-mind-clause-clearable : goal.invariant_of-mind-clause-clearable
invariant_of-mind-clause-clearable c =
    let m = c.args.mind.now in
    let may = c.requires.may in
    let is : IsDataBlock m.labels c.args.at = record { from = may.block.0; to = may.block.1 } in
    subst (λ (r : Region). Clearable r m.one.low m.one.high m.clears.items) (sym c.close.ensures)
    (clearable_closed m.labels c.args.at (closed_label (label_of m.labels c.args.at) c.args.epoch) is may.unclear m.clearable)

pub invariant_of-mind-clause-owing : goal.invariant_of-mind-clause-owing
invariant_of-mind-clause-owing c =
    let m = c.args.mind.now in
    let may = c.requires.may in
    let from = may.block.0 in
    let to = may.block.1 in
    let n = m.placed.is_count in
    let f = m.placed.is_first in
    let p = m.placed.is_place in
    let k = m.placed.flag_count in
    let e = c.label_place.ensures.block in
    let lt : c.label_place.result.0 < length m.order.flags = omega (arith, from, to, n, f, p, k, e) in
    both (λ (h : Held) (t : Turns). Owing h t m.facts) c.forget.ensures c.change.ensures
    (owing_closed c.label_place.result.0 lt (owing_cut (cuts c.args.at m.buffers) m.owing))

pub invariant_of-mind-clause-roomy : goal.invariant_of-mind-clause-roomy
invariant_of-mind-clause-roomy c =
    let m = c.args.mind.now in
    let may = c.requires.may in
    let is : IsDataBlock m.labels c.args.at = record { from = may.block.0; to = may.block.1 } in
    let same = data_label m.labels c.args.at may.block.0 in
    let u = usable_closed m.labels c.args.at (closed_label (label_of m.labels c.args.at) c.args.epoch) is m.one.low (live_kept m.one.low (label_of m.labels c.args.at) (ap (λ (l : Label). l.state) (sym same) ∙ may.live)) in
    let more : usable_count m.one.low m.labels ≤ usable_count m.one.low (relabeled m.labels c.args.at (closed_label (label_of m.labels c.args.at) c.args.epoch)) = omega (arith, u) in
    three (λ (r : Region) (h : Held) (t : Turns). Roomy h t r m.facts m.one.low m.spare m.pins (m.room + length m.clears.items)) c.close.ensures c.forget.ensures c.change.ensures
    (roomy_closed c.label_place.result.0 refl more c.requires.turn m.roomy)

pub invariant_of-mind-clause-turning : goal.invariant_of-mind-clause-turning
invariant_of-mind-clause-turning c =
    let m = c.args.mind.now in
    let may = c.requires.may in
    let to : c.args.at < m.count = subst (λ n. c.args.at < n) m.placed.is_count may.block.1 in
    both (λ (h : Held) (t : Turns). Turning m.first h t m.facts) c.forget.ensures c.change.ensures
    (turning_labels c.args.at c.label_place.result.0 to c.label_place.ensures.block m.placed (holding_cut (cuts c.args.at m.buffers) m.holding)
    (turning_cut (cuts c.args.at m.buffers) may.calm may.settled m.turning))

pub returns-clause-closed : goal.returns-clause-closed
returns-clause-closed c = λ disk faults.
    let m = c.args.mind.now in
    let may = c.requires.may in
    let is : IsDataBlock m.labels c.args.at = record { from = may.block.0; to = may.block.1 } in
    let same = data_label m.labels c.args.at may.block.0 in
    let region = c.close.ensures ∙ ap (λ (l : Label). relabeled m.labels c.args.at (closed_label l c.args.epoch)) (sym same) in
    record {
      may = record {
        block = may.block;
        live = may.live;
        begun = may.begun;
        small = may.small;
        other = may.other;
        linked = may.linked;
        free = may.free;
        calm = may.calm;
        clean = may.clean;
        settled = may.settled;
        unclear = may.unclear;
      };
      within =
          let from = may.block.0 in
          let to = may.block.1 in
          let n = m.placed.is_count in
          let f = m.placed.is_first in
          let p = m.placed.is_place in
          let k = m.placed.flag_count in
          omega (arith, from, to, n, f, p, k);
      region = region;
      usable = ap (usable_count m.one.low) region ∙ usable_closed m.labels c.args.at (closed_label (label_at m.labels c.args.at) c.args.epoch) is m.one.low (live_kept m.one.low (label_of m.labels c.args.at) (ap (λ (l : Label). l.state) (sym same) ∙ may.live));
      held = c.forget.ensures;
      turns = c.change.ensures ∙ ap (λ n. changed m.order n 0) c.label_place.ensures.block;
      waits = c.drop_waits.ensures.items;
      rest = refl;
    }

pub invariant_of-mind-clause-standing : goal.invariant_of-mind-clause-standing
invariant_of-mind-clause-standing c =
    let m = c.args.mind.now in
    subst (λ (h : Held). Standing h m.facts m.clears.items) (sym c.forget.ensures) (standing_closed (cuts c.args.at m.buffers) c.requires.may.linked c.requires.may.unclear m.standing)

pub invariant_of-mind-clause-root_in : goal.invariant_of-mind-clause-root_in
invariant_of-mind-clause-root_in c =
    let m = c.args.mind.now in
    let is : IsDataBlock m.labels c.args.at = record { from = c.requires.may.block.0; to = c.requires.may.block.1 } in
    subst (λ (r : Region). RootIn m.one.low r m.facts m.one.active) (sym c.close.ensures) (root_in_closed m.labels c.args.at (closed_label (label_of m.labels c.args.at) c.args.epoch) is c.requires.may.other m.root_in)

pub invariant_of-mind-clause-changing : goal.invariant_of-mind-clause-changing
invariant_of-mind-clause-changing c =
    let m = c.args.mind.now in
    let is : IsDataBlock m.labels c.args.at = record { from = c.requires.may.block.0; to = c.requires.may.block.1 } in
    let k = cuts c.args.at m.buffers in
    both (λ (r : Region) (h : Held). Changing m.one.high r h) c.close.ensures c.forget.ensures
    (changing_relabeled m.labels c.args.at (closed_label (label_of m.labels c.args.at) c.args.epoch) is k.here (changing_gone k.others k.here m.changing))
