use Rattle.std.proofs.Common.{◌≡◌, true, ◌+◌, ◌^◌, ◌<◌, ◌≤◌, length, sym, ◌∙◌, ap, subst, arith}
use Rattle.fo_image.specs.declared.types.Pointer.TheVariants.{Local}
use Rattle.fo_crash.specs.Images.{target}
use Rattle.fo_ports_plain.specs.declared.block.PlainBlock.{PlainBlock}
use Rattle.fo_ports_plain.specs.Plain.{block_at, slot_of, Updates}
use Rattle.fo_ports_plain.proofs.Lists.{block_is}
use Rattle.fo_ports_plain.proofs.Still.{taken_sound, taken_formed, taken_waiting, one_taken, goes_elsewhere}
use Rattle.fo_ports_plain.proofs.plain.PlainBlocks.take_out.Goals as goal

pub index-requires-in-Local : goal.index-requires-in-Local
index-requires-in-Local c =
    let self = c.args.self.now in
    let blocks = self.blocks.items in
    let spared : self.made + self.spare ≤ length blocks = self.spared in
    let at_is = block_is blocks c.args.at c.index.result.now c.requires.block c.index.ensures in
    let leads : target (slot_of (block_at blocks c.args.at) c.args.i) ≡ Local c.in-Local.x = ap (λ (y : PlainBlock). target (slot_of y c.args.i)) (sym at_is) ∙ sym c.target-old.ensures ∙ c.in-Local.is in
    let lt = (self.sound.links c.args.at c.args.i c.in-Local.x leads).was_made in
    omega (arith, spared, lt)

pub set_block-requires : goal.set_block-requires
set_block-requires c =
    let self = c.args.self.now in
    let blocks = self.blocks.items in
    let spared : self.made + self.spare ≤ length blocks = self.spared in
    let at_is = block_is blocks c.args.at c.index.result.now c.requires.block c.index.ensures in
    let leads : target (slot_of (block_at blocks c.args.at) c.args.i) ≡ Local c.in-Local.x = ap (λ (y : PlainBlock). target (slot_of y c.args.i)) (sym at_is) ∙ sym c.target-old.ensures ∙ c.in-Local.is in
    let lt = (self.sound.links c.args.at c.args.i c.in-Local.x leads).was_made in
    omega (arith, spared, lt)

pub invariant_of-self-clause-sound : goal.invariant_of-self-clause-sound
invariant_of-self-clause-sound c =
    let self = c.args.self.now in
    let blocks = self.blocks.items in
    let spared : self.made + self.spare ≤ length blocks = self.spared in
    let at_is = block_is blocks c.args.at c.index.result.now c.requires.block c.index.ensures in
    let leads : target (slot_of (block_at blocks c.args.at) c.args.i) ≡ Local c.in-Local.x = ap (λ (y : PlainBlock). target (slot_of y c.args.i)) (sym at_is) ∙ sym c.target-old.ensures ∙ c.in-Local.is in
    let lt = (self.sound.links c.args.at c.args.i c.in-Local.x leads).was_made in
    let x_is = block_is blocks c.in-Local.x c.index-in-Local.result.now (omega (arith, spared, lt)) c.index-in-Local.ensures in
    let block = c.taken_out-block.ensures ∙ ap (λ (y : PlainBlock). record y { taken = true }) x_is in
    let up = subst (λ (y : PlainBlock). Updates c.in-Local.x y blocks c.set_block.new.blocks.items) block c.set_block.ensures in
    taken_sound lt up self.sound

pub invariant_of-self-clause-formed : goal.invariant_of-self-clause-formed
invariant_of-self-clause-formed c =
    let self = c.args.self.now in
    let blocks = self.blocks.items in
    let spared : self.made + self.spare ≤ length blocks = self.spared in
    let at_is = block_is blocks c.args.at c.index.result.now c.requires.block c.index.ensures in
    let leads : target (slot_of (block_at blocks c.args.at) c.args.i) ≡ Local c.in-Local.x = ap (λ (y : PlainBlock). target (slot_of y c.args.i)) (sym at_is) ∙ sym c.target-old.ensures ∙ c.in-Local.is in
    let lt = (self.sound.links c.args.at c.args.i c.in-Local.x leads).was_made in
    let x_is = block_is blocks c.in-Local.x c.index-in-Local.result.now (omega (arith, spared, lt)) c.index-in-Local.ensures in
    let block = c.taken_out-block.ensures ∙ ap (λ (y : PlainBlock). record y { taken = true }) x_is in
    let up = subst (λ (y : PlainBlock). Updates c.in-Local.x y blocks c.set_block.new.blocks.items) block c.set_block.ensures in
    taken_formed up self.formed

pub invariant_of-self-clause-waiting : goal.invariant_of-self-clause-waiting
invariant_of-self-clause-waiting c =
    let self = c.args.self.now in
    let blocks = self.blocks.items in
    let spared : self.made + self.spare ≤ length blocks = self.spared in
    let at_is = block_is blocks c.args.at c.index.result.now c.requires.block c.index.ensures in
    let leads : target (slot_of (block_at blocks c.args.at) c.args.i) ≡ Local c.in-Local.x = ap (λ (y : PlainBlock). target (slot_of y c.args.i)) (sym at_is) ∙ sym c.target-old.ensures ∙ c.in-Local.is in
    let lt = (self.sound.links c.args.at c.args.i c.in-Local.x leads).was_made in
    let x_is = block_is blocks c.in-Local.x c.index-in-Local.result.now (omega (arith, spared, lt)) c.index-in-Local.ensures in
    let block = c.taken_out-block.ensures ∙ ap (λ (y : PlainBlock). record y { taken = true }) x_is in
    let up = subst (λ (y : PlainBlock). Updates c.in-Local.x y blocks c.set_block.new.blocks.items) block c.set_block.ensures in
    taken_waiting self.waits.items up self.waiting

pub invariant_of-self-clause-queue : goal.invariant_of-self-clause-queue
invariant_of-self-clause-queue c = λ none b. let more = c.saturating_add-self.ensures in absurd (omega (arith, none, more))

pub invariant_of-self-clause-few : goal.invariant_of-self-clause-few
invariant_of-self-clause-few c =
    let self = c.args.self.now in
    let blocks = self.blocks.items in
    let spared : self.made + self.spare ≤ length blocks = self.spared in
    let at_is = block_is blocks c.args.at c.index.result.now c.requires.block c.index.ensures in
    let leads : target (slot_of (block_at blocks c.args.at) c.args.i) ≡ Local c.in-Local.x = ap (λ (y : PlainBlock). target (slot_of y c.args.i)) (sym at_is) ∙ sym c.target-old.ensures ∙ c.in-Local.is in
    let lt = (self.sound.links c.args.at c.args.i c.in-Local.x leads).was_made in
    let x_is = block_is blocks c.in-Local.x c.index-in-Local.result.now (omega (arith, spared, lt)) c.index-in-Local.ensures in
    let block = c.taken_out-block.ensures ∙ ap (λ (y : PlainBlock). record y { taken = true }) x_is in
    let up = subst (λ (y : PlainBlock). Updates c.in-Local.x y blocks c.set_block.new.blocks.items) block c.set_block.ensures in
    let few : length blocks < 2 ^ 32 = self.few in
    let as_long = up.as_long in
    omega (arith, few, as_long)

pub invariant_of-self-clause-spared : goal.invariant_of-self-clause-spared
invariant_of-self-clause-spared c =
    let self = c.args.self.now in
    let blocks = self.blocks.items in
    let spared : self.made + self.spare ≤ length blocks = self.spared in
    let at_is = block_is blocks c.args.at c.index.result.now c.requires.block c.index.ensures in
    let leads : target (slot_of (block_at blocks c.args.at) c.args.i) ≡ Local c.in-Local.x = ap (λ (y : PlainBlock). target (slot_of y c.args.i)) (sym at_is) ∙ sym c.target-old.ensures ∙ c.in-Local.is in
    let lt = (self.sound.links c.args.at c.args.i c.in-Local.x leads).was_made in
    let x_is = block_is blocks c.in-Local.x c.index-in-Local.result.now (omega (arith, spared, lt)) c.index-in-Local.ensures in
    let block = c.taken_out-block.ensures ∙ ap (λ (y : PlainBlock). record y { taken = true }) x_is in
    let up = subst (λ (y : PlainBlock). Updates c.in-Local.x y blocks c.set_block.new.blocks.items) block c.set_block.ensures in
    let as_long = up.as_long in
    omega (arith, spared, as_long)

pub returns-in-Local-clause-takes : goal.returns-in-Local-clause-takes
returns-in-Local-clause-takes c =
    let self = c.args.self.now in
    let blocks = self.blocks.items in
    let spared : self.made + self.spare ≤ length blocks = self.spared in
    let at_is = block_is blocks c.args.at c.index.result.now c.requires.block c.index.ensures in
    let leads : target (slot_of (block_at blocks c.args.at) c.args.i) ≡ Local c.in-Local.x = ap (λ (y : PlainBlock). target (slot_of y c.args.i)) (sym at_is) ∙ sym c.target-old.ensures ∙ c.in-Local.is in
    let lt = (self.sound.links c.args.at c.args.i c.in-Local.x leads).was_made in
    let x_is = block_is blocks c.in-Local.x c.index-in-Local.result.now (omega (arith, spared, lt)) c.index-in-Local.ensures in
    let block = c.taken_out-block.ensures ∙ ap (λ (y : PlainBlock). record y { taken = true }) x_is in
    let up = subst (λ (y : PlainBlock). Updates c.in-Local.x y blocks c.set_block.new.blocks.items) block c.set_block.ensures in
    one_taken up leads (λ e. goes_elsewhere c.in-Local.x (target c.args.slot.now) (sym c.leads_elsewhere.ensures ∙ c.if-leads_elsewhere.true) (e ∙ leads))
