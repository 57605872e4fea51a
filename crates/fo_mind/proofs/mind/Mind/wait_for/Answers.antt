use Rattle.std.proofs.Common.{◌-◌, ap, ◌∙◌, arith}
use Rattle.fo_image.specs.declared.types.Kind.{Kind}
use Rattle.fo_image.specs.declared.types.Kind.TheVariants.{Dir}
use Rattle.fo_buffers.specs.Held.{held_at}
use Rattle.fo_slots.specs.Read.{read}
use Rattle.fo_bring.proofs.Copying.{good_held as bytes_good}
use Rattle.fo_mind.specs.MindParts.{parts}
use Rattle.fo_mind.proofs.Getting.{good_held, held_is, is_held}
use Rattle.fo_mind.proofs.Waits.{calm_pairs, image_pairs, keeps_pairs, no_wait_pairs, waiting_more, waits_pairs}
use Rattle.fo_mind.proofs.Making.{making_fewer}
use Rattle.fo_mind.proofs.Keeping.{roomy_fewer}
use Rattle.fo_mind.proofs.mind.Mind.wait_for.Goals as goal

pub copied-bytes-requires : goal.copied-bytes-requires
copied-bytes-requires c = is_held (held_at c.args.self.now.buffers c.args.on) c.requires.pinned

pub wait_pairs-requires-clause-slots : goal.wait_pairs-requires-clause-slots
wait_pairs-requires-clause-slots c =
    let self = c.args.self.now in
    let some = is_held (held_at self.buffers c.args.on) c.requires.pinned in
    (bytes_good self.first self.count (Dir 0) (held_at self.buffers c.args.on) c.copied-bytes.result c.copied-bytes.ensures (good_held c.args.on (Dir 0) self.holding c.requires.entries some)).slots

pub wait_pairs-requires-clause-room : goal.wait_pairs-requires-clause-room
wait_pairs-requires-clause-room c = let a = c.args.self.now.awaits in let r = c.requires.room in omega (arith, a, r)

pub invariant_of-self-clause-waiting : goal.invariant_of-self-clause-waiting
invariant_of-self-clause-waiting c = waiting_more c.copied-bytes.ensures c.requires.entries c.wait_pairs.ensures.lists c.args.self.now.waiting

pub invariant_of-self-clause-awaits : goal.invariant_of-self-clause-awaits
invariant_of-self-clause-awaits c =
    let a = c.args.self.now.awaits in
    let r = c.requires.room in
    let l = c.wait_pairs.ensures.len in
    let k = c.wait_pairs.ensures.capacity in
    omega (arith, a, r, l, k)

pub returns-clause-waits : goal.returns-clause-waits
returns-clause-waits c = λ disk faults.
    let self = c.args.self.now in
    let p = parts self disk faults in
    let some = c.requires.room in
    waits_pairs p c.args.at c.args.on (self.room - 1) c.copied-bytes.result c.wait_pairs.new.waits.items (omega (arith, some)) (held_is p self.first self.count c.args.on c.copied-bytes.result self.placed self.holding c.copied-bytes.ensures ∙ ap (λ (k : Kind). read k c.copied-bytes.result) c.requires.entries) c.wait_pairs.ensures.lists

pub returns-clause-no_wait : goal.returns-clause-no_wait
returns-clause-no_wait c = λ disk faults.
    let self = c.args.self.now in
    let p = parts self disk faults in
    let some = c.requires.room in
    no_wait_pairs p c.args.at c.args.on (self.room - 1) c.copied-bytes.result c.wait_pairs.new.waits.items (omega (arith, some)) (held_is p self.first self.count c.args.on c.copied-bytes.result self.placed self.holding c.copied-bytes.ensures ∙ ap (λ (k : Kind). read k c.copied-bytes.result) c.requires.entries) c.wait_pairs.ensures.lists

pub returns-clause-now : goal.returns-clause-now
returns-clause-now c = λ disk faults.
    let self = c.args.self.now in
    let p = parts self disk faults in
    let some = c.requires.room in
    image_pairs p c.args.at c.args.on (self.room - 1) c.copied-bytes.result c.wait_pairs.new.waits.items (omega (arith, some)) (held_is p self.first self.count c.args.on c.copied-bytes.result self.placed self.holding c.copied-bytes.ensures ∙ ap (λ (k : Kind). read k c.copied-bytes.result) c.requires.entries) c.wait_pairs.ensures.lists

pub returns-clause-calm : goal.returns-clause-calm
returns-clause-calm c = λ disk faults.
    let self = c.args.self.now in
    let p = parts self disk faults in
    let some = c.requires.room in
    calm_pairs p c.args.at c.args.on (self.room - 1) c.copied-bytes.result c.wait_pairs.new.waits.items (omega (arith, some)) (held_is p self.first self.count c.args.on c.copied-bytes.result self.placed self.holding c.copied-bytes.ensures ∙ ap (λ (k : Kind). read k c.copied-bytes.result) c.requires.entries) c.wait_pairs.ensures.lists

pub returns-clause-keeps : goal.returns-clause-keeps
returns-clause-keeps c = λ disk faults.
    let self = c.args.self.now in
    let p = parts self disk faults in
    let some = c.requires.room in
    keeps_pairs p c.args.at c.args.on (self.room - 1) c.copied-bytes.result c.wait_pairs.new.waits.items (omega (arith, some)) (held_is p self.first self.count c.args.on c.copied-bytes.result self.placed self.holding c.copied-bytes.ensures ∙ ap (λ (k : Kind). read k c.copied-bytes.result) c.requires.entries) c.wait_pairs.ensures.lists

pub invariant_of-self-clause-roomy : goal.invariant_of-self-clause-roomy
invariant_of-self-clause-roomy c = roomy_fewer (omega arith) c.args.self.now.roomy

pub invariant_of-self-clause-making : goal.invariant_of-self-clause-making
invariant_of-self-clause-making c = making_fewer (omega arith) c.args.self.now.making
