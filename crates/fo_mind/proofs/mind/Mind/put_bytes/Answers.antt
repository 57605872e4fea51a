use Rattle.std.proofs.Common.{◌≡◌, ◌+◌, ◌≤◌, ℕ, List, Option, Some, length, refl, sym, ap, ◌∙◌, subst}
use Rattle.std.specs.Option.{option_map}
use Rattle.fo_image.specs.declared.types.Label.{Label}
use Rattle.fo_buffers.specs.declared.block.Buffer.{Buffer}
use Rattle.fo_buffers.specs.Held.{held_at, block_in}
use Rattle.fo_slots.specs.Read.{read}
use Rattle.fo_ports.specs.Blocks.{MayPut, ReadsSlots, put_at}
use Rattle.fo_ports.proofs.Lengths.{length_put_at}
use Rattle.fo_bring.proofs.Copying.{good_held as bytes_good}
use Rattle.fo_mind.specs.Changes.{Refilled}
use Rattle.fo_mind.specs.MindParts.{parts}
use Rattle.fo_mind.specs.Parts.{label_at}
use Rattle.fo_mind.specs.Laws.{pinned_held}
use Rattle.fo_mind.proofs.Getting.{good_held, is_held}
use Rattle.fo_mind.proofs.Refilling.{good_put, owed_pinned, used_put, put_result, no_wait_put}
use Rattle.fo_mind.proofs.mind.Mind.put_bytes.Goals as goal

pub label-label-requires : goal.label-label-requires
label-label-requires c =
    let self = c.args.self.now in
    let x = pinned_held (held_at self.buffers c.args.at) c.requires.pinned in
    self.holding.block c.args.at x.0 x.1

pub copied-block-requires : goal.copied-block-requires
copied-block-requires c = is_held (held_at c.args.self.now.buffers c.args.at) c.requires.pinned

pub put_bytes_into-requires-clause-place : goal.put_bytes_into-requires-clause-place
put_bytes_into-requires-clause-place c = subst (λ (z : Label). MayPut z.kind c.args.from (c.args.from + length c.args.bytes.now)) (sym c.label-label.ensures) c.requires.place

pub refill-requires-clause-good : goal.refill-requires-clause-good
refill-requires-clause-good c =
    let self = c.args.self.now in
    let kind = (label_at self.labels c.args.at).kind in
    let some = is_held (held_at self.buffers c.args.at) c.requires.pinned in
    let good = bytes_good self.first self.count kind (held_at self.buffers c.args.at) c.copied-block.result c.copied-block.ensures (good_held c.args.at kind self.holding refl some) in
    let same = subst (λ (z : Label). (i : ℕ) → (read z.kind c.put_bytes_into.new.into).slot i ≡ (read z.kind c.copied-block.result).slot i) c.label-label.ensures c.put_bytes_into.ensures.same in
    let slots = subst (λ (z : Label). ReadsSlots z.kind (read z.kind c.copied-block.result) c.copied-block.result → ReadsSlots z.kind (read z.kind c.put_bytes_into.new.into) c.put_bytes_into.new.into) c.label-label.ensures c.put_bytes_into.ensures.slots in
    let long = ap length c.put_bytes_into.ensures.is ∙ length_put_at c.args.from c.args.bytes.now c.copied-block.result (subst (λ n. c.args.from + length c.args.bytes.now ≤ n) (sym good.long) c.requires.within) ∙ good.long in
    good_put self.first self.count kind c.args.from (c.args.from + length c.args.bytes.now) c.copied-block.result c.put_bytes_into.new.into good c.requires.place same slots long

pub refill-requires-clause-used : goal.refill-requires-clause-used
refill-requires-clause-used c =
    let self = c.args.self.now in
    let same = subst (λ (z : Label). (i : ℕ) → (read z.kind c.put_bytes_into.new.into).slot i ≡ (read z.kind c.copied-block.result).slot i) c.label-label.ensures c.put_bytes_into.ensures.same in
    used_put c.args.at c.copied-block.result c.put_bytes_into.new.into c.copied-block.ensures same self.waiting

pub returns-clause-now : goal.returns-clause-now
returns-clause-now c = λ disk faults.
    let self = c.args.self.now in
    let kind = (label_at self.labels c.args.at).kind in
    let some = is_held (held_at self.buffers c.args.at) c.requires.pinned in
    let good = bytes_good self.first self.count kind (held_at self.buffers c.args.at) c.copied-block.result c.copied-block.ensures (good_held c.args.at kind self.holding refl some) in
    let same = subst (λ (z : Label). (i : ℕ) → (read z.kind c.put_bytes_into.new.into).slot i ≡ (read z.kind c.copied-block.result).slot i) c.label-label.ensures c.put_bytes_into.ensures.same in
    let long = ap length c.put_bytes_into.ensures.is ∙ length_put_at c.args.from c.args.bytes.now c.copied-block.result (subst (λ n. c.args.from + length c.args.bytes.now ≤ n) (sym good.long) c.requires.within) ∙ good.long in
    (put_result (parts self disk faults) (parts c.refill.new.self disk faults) self.first self.count c.args.at c.args.from c.args.bytes.now c.copied-block.result c.put_bytes_into.new.into self.placed self.holding c.requires.pinned c.copied-block.ensures long c.put_bytes_into.ensures.is c.requires.place same (c.refill.ensures.is disk faults)).0

pub returns-clause-calm : goal.returns-clause-calm
returns-clause-calm c = λ disk faults.
    let self = c.args.self.now in
    let kind = (label_at self.labels c.args.at).kind in
    let some = is_held (held_at self.buffers c.args.at) c.requires.pinned in
    let good = bytes_good self.first self.count kind (held_at self.buffers c.args.at) c.copied-block.result c.copied-block.ensures (good_held c.args.at kind self.holding refl some) in
    let same = subst (λ (z : Label). (i : ℕ) → (read z.kind c.put_bytes_into.new.into).slot i ≡ (read z.kind c.copied-block.result).slot i) c.label-label.ensures c.put_bytes_into.ensures.same in
    let long = ap length c.put_bytes_into.ensures.is ∙ length_put_at c.args.from c.args.bytes.now c.copied-block.result (subst (λ n. c.args.from + length c.args.bytes.now ≤ n) (sym good.long) c.requires.within) ∙ good.long in
    (put_result (parts self disk faults) (parts c.refill.new.self disk faults) self.first self.count c.args.at c.args.from c.args.bytes.now c.copied-block.result c.put_bytes_into.new.into self.placed self.holding c.requires.pinned c.copied-block.ensures long c.put_bytes_into.ensures.is c.requires.place same (c.refill.ensures.is disk faults)).1

pub returns-clause-no_wait : goal.returns-clause-no_wait
returns-clause-no_wait c = λ disk faults. no_wait_put (c.refill.ensures.is disk faults)

same_bytes : {a b : List ℕ} (o : Option Buffer) → Some a ≡ option_map block_in o → Some b ≡ option_map block_in o → a ≡ b
same_bytes o e f = some_same (e ∙ sym f)
  where
    some_same : {a b : List ℕ} → Some a ≡ Some b → a ≡ b
    some_same e = cc

pub returns-clause-refilled : goal.returns-clause-refilled
returns-clause-refilled c = λ was is disk faults.
    let self = c.args.self.now in
    let same = same_bytes (held_at self.buffers c.args.at) c.copied-block.ensures is in
    subst (λ (b : List ℕ). Refilled c.args.at b (parts self disk faults) (parts c.refill.new.self disk faults)) (c.put_bytes_into.ensures.is ∙ ap (put_at c.args.from c.args.bytes.now) same) (c.refill.ensures.is disk faults)

pub refill-requires-clause-held : goal.refill-requires-clause-held
refill-requires-clause-held c = is_held (held_at c.args.self.now.buffers c.args.at) c.requires.pinned

pub refill-requires-clause-owed : goal.refill-requires-clause-owed
refill-requires-clause-owed c = let self = c.args.self.now in owed_pinned self.facts c.args.at c.requires.pinned self.owing

pub refill-requires-clause-current : goal.refill-requires-clause-current
refill-requires-clause-current c = c.requires.current
