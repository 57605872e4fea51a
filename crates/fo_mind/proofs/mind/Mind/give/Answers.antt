use Rattle.std.proofs.Common.{◌<◌, ◌≤◌, ◌-◌, List, length, refl, sym, ap, ◌∙◌, subst, arith, ◌+◌, true}
use Rattle.fo_image.specs.Format.{LabelHolds}
use Rattle.fo_image.specs.Usable.{live_label}
use Rattle.fo_buffers.specs.Held.{Held, buffer_of, unlisted}
use Rattle.fo_bring.proofs.Buffering.{put_other, put_same}
use Rattle.fo_order.specs.Keeps.{Turns}
use Rattle.fo_order.specs.Turns.{changed}
use Rattle.fo_labels.specs.Region.{Region}
use Rattle.fo_facts.specs.Known.{made_fact}
use Rattle.fo_bring.specs.Blocks.{IsData}
use Rattle.fo_facts.specs.declared.fact.Fact.{Fact}
use Rattle.fo_mind.specs.Sound.{Placed, Labelled, Holding, Waiting, Clearable, Standing, RootIn, Owing, Roomy}
use Rattle.fo_mind.proofs.Giving.{clearable_given, holding_given, labelled_given, owing_given, placed_given, roomy_given, waiting_given}
use Rattle.fo_mind.proofs.Results.{both, three}
use Rattle.fo_mind.proofs.Standing.{root_given, standing_given}
use Rattle.fo_mind.specs.Turning.{Turning}
use Rattle.fo_mind.proofs.Turning.{turning_given}
use Rattle.fo_mind.proofs.Making.{making_given}
use Rattle.fo_mind.proofs.Changing.{changing_given}
use Rattle.fo_mind.specs.Sound.{Changing}
use Rattle.fo_mind.proofs.mind.Mind.give.Goals as goal

pub alloc_in-at-requires-clause-label : goal.alloc_in-at-requires-clause-label
alloc_in-at-requires-clause-label c =
    record { state_holds = (c.requires.kind, c.args.self.now.rooted.high, refl) }

pub make-requires-clause-length : goal.make-requires-clause-length
make-requires-clause-length c =
    c.requires.good.long

pub change-requires-clause-block : goal.change-requires-clause-block
change-requires-clause-block c =
    let self = c.args.self.now in
    let at = c.alloc_in-at.result in
    let u = c.alloc_in-at.ensures.usable in
    let block : IsData self.first self.count at = (subst (λ n. n ≤ at) self.placed.is_first u.block.from, subst (λ n. at < n) self.placed.is_count u.block.to) in
    let n = self.placed.fact_count in
    let b = block.1 in
    let lt : at < length self.facts = omega (arith, b, n) in
    let p = self.placed.is_place in
    let m = self.placed.flag_count in
    let e = c.label_place.ensures.block in
    let within : c.label_place.result.0 < length self.order.flags = omega (arith, e, m, p, b, block.0) in
    within

pub give-requires : goal.give-requires
give-requires c =
    let self = c.args.self.now in
    let at = c.alloc_in-at.result in
    let u = c.alloc_in-at.ensures.usable in
    let block : IsData self.first self.count at = (subst (λ n. n ≤ at) self.placed.is_first u.block.from, subst (λ n. at < n) self.placed.is_count u.block.to) in
    let n = self.placed.fact_count in
    let b = block.1 in
    let lt : at < length self.facts = omega (arith, b, n) in
    lt

pub invariant_of-self-clause-placed : goal.invariant_of-self-clause-placed
invariant_of-self-clause-placed c =
    let self = c.args.self.now in
    let at = c.alloc_in-at.result in
    let u = c.alloc_in-at.ensures.usable in
    let l = live_label c.args.kind c.args.tag self.one.high in
    three (λ (r : Region) (t : Turns) (fs : List Fact). Placed r t fs self.first self.count) c.alloc_in-at.ensures.is c.change.ensures c.give.ensures (placed_given self.facts at 0 c.label_place.result.0 l (made_fact c.args.origin c.args.rank) self.placed)

pub invariant_of-self-clause-labelled : goal.invariant_of-self-clause-labelled
invariant_of-self-clause-labelled c =
    let self = c.args.self.now in
    let at = c.alloc_in-at.result in
    let u = c.alloc_in-at.ensures.usable in
    let l = live_label c.args.kind c.args.tag self.one.high in
    let holds : LabelHolds l = record { state_holds = (c.requires.kind, self.rooted.high, refl) } in
    subst Labelled (sym c.alloc_in-at.ensures.is) (labelled_given self.labels at l u.block holds self.labelled)

pub invariant_of-self-clause-holding : goal.invariant_of-self-clause-holding
invariant_of-self-clause-holding c =
    let self = c.args.self.now in
    let at = c.alloc_in-at.result in
    let u = c.alloc_in-at.ensures.usable in
    let l = live_label c.args.kind c.args.tag self.one.high in
    let block : IsData self.first self.count at = (subst (λ n. n ≤ at) self.placed.is_first u.block.from, subst (λ n. at < n) self.placed.is_count u.block.to) in
    both (λ (r : Region) (h : Held). Holding self.one.low self.first self.count r h) c.alloc_in-at.ensures.is c.make.ensures (holding_given self.labels at l u.block self.buffers refl refl block c.requires.good self.holding)

pub invariant_of-self-clause-waiting : goal.invariant_of-self-clause-waiting
invariant_of-self-clause-waiting c =
    let self = c.args.self.now in
    let at = c.alloc_in-at.result in
    let u = c.alloc_in-at.ensures.usable in
    let l = live_label c.args.kind c.args.tag self.one.high in
    both (λ (r : Region) (h : Held). Waiting r h self.waits.items) c.alloc_in-at.ensures.is c.make.ensures (waiting_given self.labels at l u.block c.args.bytes.now self.buffers u.usable self.holding self.waiting)

pub invariant_of-self-clause-clearable : goal.invariant_of-self-clause-clearable
invariant_of-self-clause-clearable c =
    let self = c.args.self.now in
    let at = c.alloc_in-at.result in
    let u = c.alloc_in-at.ensures.usable in
    let l = live_label c.args.kind c.args.tag self.one.high in
    subst (λ (r : Region). Clearable r self.one.low self.one.high self.clears.items) (sym c.alloc_in-at.ensures.is) (clearable_given self.labels at l u.block u.usable self.clearable)

pub invariant_of-self-clause-owing : goal.invariant_of-self-clause-owing
invariant_of-self-clause-owing c =
    let self = c.args.self.now in
    let at = c.alloc_in-at.result in
    let u = c.alloc_in-at.ensures.usable in
    let block : IsData self.first self.count at = (subst (λ n. n ≤ at) self.placed.is_first u.block.from, subst (λ n. at < n) self.placed.is_count u.block.to) in
    let n = self.placed.fact_count in
    let b = block.1 in
    let lt : at < length self.facts = omega (arith, b, n) in
    let p = self.placed.is_place in
    let m = self.placed.flag_count in
    let e = c.label_place.ensures.block in
    let within : c.label_place.result.0 < length self.order.flags = omega (arith, e, m, p, b, block.0) in
    three (λ (h : Held) (t : Turns) (fs : List Fact). Owing h t fs) c.make.ensures c.change.ensures c.give.ensures (owing_given self.facts at 0 c.label_place.result.0 (made_fact c.args.origin c.args.rank) c.args.bytes.now lt within refl self.owing)

pub invariant_of-self-clause-roomy : goal.invariant_of-self-clause-roomy
invariant_of-self-clause-roomy c =
    let self = c.args.self.now in
    let at = c.alloc_in-at.result in
    let u = c.alloc_in-at.ensures.usable in
    let block : IsData self.first self.count at = (subst (λ n. n ≤ at) self.placed.is_first u.block.from, subst (λ n. at < n) self.placed.is_count u.block.to) in
    let n = self.placed.fact_count in
    let b = block.1 in
    let lt : at < length self.facts = omega (arith, b, n) in
    both (λ (t : Turns) (fs : List Fact). Roomy c.make.new.self t c.alloc_in-at.new.labels fs self.one.low (self.spare - 1) self.pins (self.room + length self.clears.items)) c.change.ensures c.give.ensures (roomy_given self.facts at 0 c.label_place.result.0 (made_fact c.args.origin c.args.rank) lt (ap (λ (h : Held). h.room) c.make.ensures) c.requires.spare c.alloc_in-at.ensures.count self.roomy)

pub returns : goal.returns
returns c =
    let self = c.args.self.now in
    let at = c.alloc_in-at.result in
    let u = c.alloc_in-at.ensures.usable in
    λ disk faults.
    let spare = c.requires.spare in
    record {
      least = c.alloc_in-at.ensures.least;
      usable = u;
      region = c.alloc_in-at.ensures.is;
      count = c.alloc_in-at.ensures.count;
      held = c.make.ensures;
      turns = c.change.ensures ∙ ap (λ n. changed self.order n 0) c.label_place.ensures.block;
      facts = c.give.ensures;
      spare = omega (arith, spare);
      rest = refl;
    }

pub invariant_of-self-clause-turning : goal.invariant_of-self-clause-turning
invariant_of-self-clause-turning c =
    let self = c.args.self.now in
    let at = c.alloc_in-at.result in
    let u = c.alloc_in-at.ensures.usable in
    let block : IsData self.first self.count at = (subst (λ n. n ≤ at) self.placed.is_first u.block.from, subst (λ n. at < n) self.placed.is_count u.block.to) in
    three (λ (h : Held) (t : Turns) (fs : List Fact). Turning self.first h t fs) c.make.ensures c.change.ensures c.give.ensures (turning_given self.facts at c.label_place.result.0 (made_fact c.args.origin c.args.rank) c.args.bytes.now block c.label_place.ensures.block refl self.placed self.holding self.turning)

pub invariant_of-self-clause-making : goal.invariant_of-self-clause-making
invariant_of-self-clause-making c =
    let self = c.args.self.now in
    let at = c.alloc_in-at.result in
    let u = c.alloc_in-at.ensures.usable in
    let to : at < self.count = subst (λ n. at < n) self.placed.is_count u.block.to in
    let n = self.placed.fact_count in
    let lt : at < length self.facts = omega (arith, to, n) in
    making_given self.facts c.give.new.self at c.args.rank c.args.origin lt c.give.ensures c.requires.spare self.making

pub invariant_of-self-clause-standing : goal.invariant_of-self-clause-standing
invariant_of-self-clause-standing c =
    let self = c.args.self.now in
    let at = c.alloc_in-at.result in
    let x = buffer_of c.args.bytes.now true true in
    both (λ (h : Held) (fs : List Fact). Standing h fs self.clears.items) c.make.ensures c.give.ensures (standing_given self.facts (made_fact c.args.origin c.args.rank) x (λ q ne. put_other (unlisted self.buffers at) at x q ne) (put_same (unlisted self.buffers at) at x) self.standing)

pub invariant_of-self-clause-root_in : goal.invariant_of-self-clause-root_in
invariant_of-self-clause-root_in c =
    let self = c.args.self.now in
    let at = c.alloc_in-at.result in
    let u = c.alloc_in-at.ensures.usable in
    let l = live_label c.args.kind c.args.tag self.one.high in
    both (λ (r : Region) (fs : List Fact). RootIn self.one.low r fs self.one.active) c.alloc_in-at.ensures.is c.give.ensures (root_given self.labels self.facts at l (made_fact c.args.origin c.args.rank) u.block u.usable self.root_in)

pub invariant_of-self-clause-changing : goal.invariant_of-self-clause-changing
invariant_of-self-clause-changing c =
    let self = c.args.self.now in
    let at = c.alloc_in-at.result in
    let u = c.alloc_in-at.ensures.usable in
    let l = live_label c.args.kind c.args.tag self.one.high in
    both (λ (r : Region) (h : Held). Changing self.one.high r h) c.alloc_in-at.ensures.is c.make.ensures (changing_given self.labels at l u.block refl refl c.args.bytes.now self.buffers self.changing)
