use Rattle.std.proofs.Common.{◌≡◌, inl, ◌+◌, ◌-◌, ◌^◌, ◌<◌, ◌≤◌, length, refl, sym, ◌∙◌, ap, subst, arith}
use Rattle.fo_image.specs.declared.types.Label.{Label}
use Rattle.fo_image.specs.declared.types.State.TheVariants.{Live}
use Rattle.fo_crash.proofs.Reach.{reaches_on}
use Rattle.fo_ports.specs.State.{Gives}
use Rattle.fo_ports_plain.specs.declared.block.PlainBlock.{PlainBlock}
use Rattle.fo_ports_plain.specs.Plain.{block_at, content_of, label_at, Updates}
use Rattle.fo_ports_plain.specs.Sound.{Well}
use Rattle.fo_ports_plain.specs.Meaning.{state_of, PlainKeeps}
use Rattle.fo_ports_plain.specs.Parts.{parts}
use Rattle.fo_ports_plain.proofs.Lists.{block_is}
use Rattle.fo_ports_plain.proofs.Made.{made_well}
use Rattle.fo_ports_plain.proofs.Given.{gives, made_keeps}
use Rattle.fo_ports_plain.proofs.GivenBlocks.{copied, copied_label, copy_may, joined_of}
use Rattle.fo_ports_plain.proofs.calls.PlainBlocksBlocks.copy.Goals as goal

pub make-requires-clause-well : goal.make-requires-clause-well
make-requires-clause-well c = λ new up.
    let self = c.args.self.now in
    let p = parts self in
    let spared : self.made + self.spare ≤ length self.blocks.items = self.spared in
    let lt : c.args.at < self.made = c.requires.pinned.1 in
    let is = block_is self.blocks.items c.args.at c.index.result.now (omega (arith, spared, lt)) c.index.ensures in
    let block : c.copied-block.result ≡ copied self.high c.args.at (block_at self.blocks.items c.args.at) = c.copied-block.ensures ∙ ap (copied self.high c.args.at) is in
    let may = copy_may self.sound self.formed c.requires.pinned.0 lt (joined_of p self.three self.sound (c.requires.in_tree tt)) in
    made_well (subst (λ (y : PlainBlock). Updates self.made y self.blocks.items new) block up) may self.three (record { sound = self.sound; formed = self.formed; waiting = self.waiting; queue = self.queue })

pub returns-clause-gives : goal.returns-clause-gives
returns-clause-gives c =
    let self = c.args.self.now in
    let p = parts self in
    let spared : self.made + self.spare ≤ length self.blocks.items = self.spared in
    let lt : c.args.at < self.made = c.requires.pinned.1 in
    let some : 0 < self.spare = c.requires.spare in
    let is = block_is self.blocks.items c.args.at c.index.result.now (omega (arith, spared, lt)) c.index.ensures in
    let block : c.copied-block.result ≡ copied self.high c.args.at (block_at self.blocks.items c.args.at) = c.copied-block.ensures ∙ ap (copied self.high c.args.at) is in
    let may = copy_may self.sound self.formed c.requires.pinned.0 lt (joined_of p self.three self.sound (c.requires.in_tree tt)) in
    let well : Well p.blocks p.made p.high p.root p.waits p.queued = record { sound = self.sound; formed = self.formed; waiting = self.waiting; queue = self.queue } in
    let new = c.make.new.self.blocks.items in
    let up : Updates p.made (copied self.high c.args.at (block_at p.blocks c.args.at)) p.blocks new = subst (λ (y : PlainBlock). Updates self.made y self.blocks.items new) block c.make.ensures.updates in
    let l : Label = record (label_at p.blocks p.made c.args.at) { state = Live; epoch = self.high; closing = 2 ^ 32 - 1 } in
    let g = gives p new c.make.new.self.spare {c = content_of (block_at p.blocks c.args.at)} up may self.three well (omega (arith, spared, some)) c.make.ensures.spare (record { bytes = refl; slots = λ i. refl }) (copied_label p.blocks p.made self.high c.args.at) (λ i x e. (1, inl (inl refl), reaches_on i (c.requires.in_tree tt) e)) in
    subst (λ n. Gives n (content_of (block_at p.blocks c.args.at)) l (state_of p) (state_of (parts c.make.new.self))) (sym c.make.ensures.at)
    (subst (λ z. Gives p.made (content_of (block_at p.blocks c.args.at)) l (state_of p) (state_of z)) (sym c.make.ensures.rest) g)

pub returns-clause-keeps : goal.returns-clause-keeps
returns-clause-keeps c =
    let self = c.args.self.now in
    let p = parts self in
    let spared : self.made + self.spare ≤ length self.blocks.items = self.spared in
    let lt : c.args.at < self.made = c.requires.pinned.1 in
    let some : 0 < self.spare = c.requires.spare in
    let is = block_is self.blocks.items c.args.at c.index.result.now (omega (arith, spared, lt)) c.index.ensures in
    let block : c.copied-block.result ≡ copied self.high c.args.at (block_at self.blocks.items c.args.at) = c.copied-block.ensures ∙ ap (copied self.high c.args.at) is in
    let new = c.make.new.self.blocks.items in
    let up : Updates p.made (copied self.high c.args.at (block_at p.blocks c.args.at)) p.blocks new = subst (λ (y : PlainBlock). Updates self.made y self.blocks.items new) block c.make.ensures.updates in
    subst (λ z. PlainKeeps p z) (sym c.make.ensures.rest) (made_keeps p new c.make.new.self.spare up refl self.sound)
