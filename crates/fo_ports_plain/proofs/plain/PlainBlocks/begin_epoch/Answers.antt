use Rattle.std.proofs.Common.{◌+◌, ◌-◌, ◌^◌, ◌<◌, ◌≤◌, false, length, length-set, set, ◌∙◌, ap, arith}
use Rattle.fo_image.specs.declared.types.Pointer.TheVariants.{Local}
use Rattle.fo_crash.specs.declared.slot.Slot.TheVariants.{Pointer as To, Prev}
use Rattle.fo_ports_plain.specs.declared.block.PlainBlock.{PlainBlock}
use Rattle.fo_ports_plain.specs.Plain.{nowhere}
use Rattle.fo_ports_plain.specs.Parts.{parts}
use Rattle.fo_ports_plain.specs.Sound.{Well}
use Rattle.fo_ports_plain.proofs.Lists.{block_is}
use Rattle.fo_ports_plain.proofs.Begin.{begun_well}
use Rattle.fo_ports_plain.proofs.BeginEpoch.{grows, begins}
use Rattle.fo_ports_plain.proofs.plain.PlainBlocks.begin_epoch.Goals as goal

pub invariant_of-self-clause-few : goal.invariant_of-self-clause-few
invariant_of-self-clause-few c =
    let self = c.args.self.now in
    let blocks = self.blocks.items in
    let n = length-set (set blocks self.made c.next_root-root.result) 1 c.with_slot-top.result ∙ length-set blocks self.made c.next_root-root.result in
    let few : length blocks < 2 ^ 32 = self.few in
    omega (arith, n, few)

pub invariant_of-self-clause-spared : goal.invariant_of-self-clause-spared
invariant_of-self-clause-spared c =
    let self = c.args.self.now in
    let blocks = self.blocks.items in
    let n = length-set (set blocks self.made c.next_root-root.result) 1 c.with_slot-top.result ∙ length-set blocks self.made c.next_root-root.result in
    let spared : self.made + self.spare ≤ length blocks = self.spared in
    omega (arith, n, spared, c.requires.spare)

pub invariant_of-self-clause-sound : goal.invariant_of-self-clause-sound
invariant_of-self-clause-sound c =
    let self = c.args.self.now in
    let blocks = self.blocks.items in
    let three : 2 < self.made = self.three in
    let spared : self.made + self.spare ≤ length blocks = self.spared in
    let some = c.requires.spare in
    let well : Well blocks self.made self.high self.root self.waits.items self.queued = record { sound = self.sound; formed = self.formed; waiting = self.waiting; queue = self.queue } in
    let kept = self.sound.tops self.root self.sound.root_kept.0 in
    let root_lt : self.root < self.made = kept.was_made in
    let root_is = block_is blocks self.root c.index.result.now (omega (arith, spared, root_lt)) c.index.ensures in
    let top_is = block_is blocks 1 c.index-2.result.now (omega (arith, spared, three)) c.index-2.ensures in
    let grown = grows blocks self.made self.high self.root c.next_root-root.result c.with_slot-top.result three (omega (arith, spared, some))
    (c.next_root-root.ensures.block ∙ ap (λ (y : PlainBlock). record y { epoch = self.high + 1; home = nowhere; taken = false; retired = false; slots = set y.slots 2 (Prev y.epoch self.root) }) root_is)
    (c.next_root-root.ensures.here ∙ ap (λ (y : PlainBlock). Prev y.epoch self.root) root_is)
    (c.with_slot-top.ensures.block ∙ ap (λ (y : PlainBlock). record y { slots = set y.slots 0 (To (Local self.made)) }) top_is)
    c.with_slot-top.ensures.here in
    (begun_well grown three well).sound

pub invariant_of-self-clause-formed : goal.invariant_of-self-clause-formed
invariant_of-self-clause-formed c =
    let self = c.args.self.now in
    let blocks = self.blocks.items in
    let three : 2 < self.made = self.three in
    let spared : self.made + self.spare ≤ length blocks = self.spared in
    let some = c.requires.spare in
    let well : Well blocks self.made self.high self.root self.waits.items self.queued = record { sound = self.sound; formed = self.formed; waiting = self.waiting; queue = self.queue } in
    let kept = self.sound.tops self.root self.sound.root_kept.0 in
    let root_lt : self.root < self.made = kept.was_made in
    let root_is = block_is blocks self.root c.index.result.now (omega (arith, spared, root_lt)) c.index.ensures in
    let top_is = block_is blocks 1 c.index-2.result.now (omega (arith, spared, three)) c.index-2.ensures in
    let grown = grows blocks self.made self.high self.root c.next_root-root.result c.with_slot-top.result three (omega (arith, spared, some))
    (c.next_root-root.ensures.block ∙ ap (λ (y : PlainBlock). record y { epoch = self.high + 1; home = nowhere; taken = false; retired = false; slots = set y.slots 2 (Prev y.epoch self.root) }) root_is)
    (c.next_root-root.ensures.here ∙ ap (λ (y : PlainBlock). Prev y.epoch self.root) root_is)
    (c.with_slot-top.ensures.block ∙ ap (λ (y : PlainBlock). record y { slots = set y.slots 0 (To (Local self.made)) }) top_is)
    c.with_slot-top.ensures.here in
    (begun_well grown three well).formed

pub invariant_of-self-clause-waiting : goal.invariant_of-self-clause-waiting
invariant_of-self-clause-waiting c =
    let self = c.args.self.now in
    let blocks = self.blocks.items in
    let three : 2 < self.made = self.three in
    let spared : self.made + self.spare ≤ length blocks = self.spared in
    let some = c.requires.spare in
    let well : Well blocks self.made self.high self.root self.waits.items self.queued = record { sound = self.sound; formed = self.formed; waiting = self.waiting; queue = self.queue } in
    let kept = self.sound.tops self.root self.sound.root_kept.0 in
    let root_lt : self.root < self.made = kept.was_made in
    let root_is = block_is blocks self.root c.index.result.now (omega (arith, spared, root_lt)) c.index.ensures in
    let top_is = block_is blocks 1 c.index-2.result.now (omega (arith, spared, three)) c.index-2.ensures in
    let grown = grows blocks self.made self.high self.root c.next_root-root.result c.with_slot-top.result three (omega (arith, spared, some))
    (c.next_root-root.ensures.block ∙ ap (λ (y : PlainBlock). record y { epoch = self.high + 1; home = nowhere; taken = false; retired = false; slots = set y.slots 2 (Prev y.epoch self.root) }) root_is)
    (c.next_root-root.ensures.here ∙ ap (λ (y : PlainBlock). Prev y.epoch self.root) root_is)
    (c.with_slot-top.ensures.block ∙ ap (λ (y : PlainBlock). record y { slots = set y.slots 0 (To (Local self.made)) }) top_is)
    c.with_slot-top.ensures.here in
    (begun_well grown three well).waiting

pub invariant_of-self-clause-queue : goal.invariant_of-self-clause-queue
invariant_of-self-clause-queue c =
    let self = c.args.self.now in
    let blocks = self.blocks.items in
    let three : 2 < self.made = self.three in
    let spared : self.made + self.spare ≤ length blocks = self.spared in
    let some = c.requires.spare in
    let well : Well blocks self.made self.high self.root self.waits.items self.queued = record { sound = self.sound; formed = self.formed; waiting = self.waiting; queue = self.queue } in
    let kept = self.sound.tops self.root self.sound.root_kept.0 in
    let root_lt : self.root < self.made = kept.was_made in
    let root_is = block_is blocks self.root c.index.result.now (omega (arith, spared, root_lt)) c.index.ensures in
    let top_is = block_is blocks 1 c.index-2.result.now (omega (arith, spared, three)) c.index-2.ensures in
    let grown = grows blocks self.made self.high self.root c.next_root-root.result c.with_slot-top.result three (omega (arith, spared, some))
    (c.next_root-root.ensures.block ∙ ap (λ (y : PlainBlock). record y { epoch = self.high + 1; home = nowhere; taken = false; retired = false; slots = set y.slots 2 (Prev y.epoch self.root) }) root_is)
    (c.next_root-root.ensures.here ∙ ap (λ (y : PlainBlock). Prev y.epoch self.root) root_is)
    (c.with_slot-top.ensures.block ∙ ap (λ (y : PlainBlock). record y { slots = set y.slots 0 (To (Local self.made)) }) top_is)
    c.with_slot-top.ensures.here in
    (begun_well grown three well).queue

pub returns : goal.returns
returns c =
    let self = c.args.self.now in
    let blocks = self.blocks.items in
    let three : 2 < self.made = self.three in
    let spared : self.made + self.spare ≤ length blocks = self.spared in
    let some = c.requires.spare in
    let well : Well blocks self.made self.high self.root self.waits.items self.queued = record { sound = self.sound; formed = self.formed; waiting = self.waiting; queue = self.queue } in
    let kept = self.sound.tops self.root self.sound.root_kept.0 in
    let root_lt : self.root < self.made = kept.was_made in
    let root_is = block_is blocks self.root c.index.result.now (omega (arith, spared, root_lt)) c.index.ensures in
    let top_is = block_is blocks 1 c.index-2.result.now (omega (arith, spared, three)) c.index-2.ensures in
    let grown = grows blocks self.made self.high self.root c.next_root-root.result c.with_slot-top.result three (omega (arith, spared, some))
    (c.next_root-root.ensures.block ∙ ap (λ (y : PlainBlock). record y { epoch = self.high + 1; home = nowhere; taken = false; retired = false; slots = set y.slots 2 (Prev y.epoch self.root) }) root_is)
    (c.next_root-root.ensures.here ∙ ap (λ (y : PlainBlock). Prev y.epoch self.root) root_is)
    (c.with_slot-top.ensures.block ∙ ap (λ (y : PlainBlock). record y { slots = set y.slots 0 (To (Local self.made)) }) top_is)
    c.with_slot-top.ensures.here in
    begins (parts self) (set (set blocks self.made c.next_root-root.result) 1 c.with_slot-top.result) grown three well (self.spare - 1) (omega (arith, some))
