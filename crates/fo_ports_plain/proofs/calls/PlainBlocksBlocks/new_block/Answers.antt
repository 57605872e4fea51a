use Rattle.std.proofs.Common.{◌≡◌, ◌∙◌, ◌+◌, ◌-◌, ◌^◌, ◌<◌, ◌≤◌, length, sym, ap, subst, arith}
use Rattle.fo_image.specs.declared.types.Label.{Label}
use Rattle.fo_image.specs.declared.types.State.TheVariants.{Live}
use Rattle.fo_crash.specs.declared.place.Place.{Place}
use Rattle.fo_crash.specs.Images.{target}
use Rattle.fo_ports.specs.Blocks.{blank}
use Rattle.fo_ports.specs.State.{Gives}
use Rattle.fo_ports_plain.specs.Plain.{label_of}
use Rattle.fo_ports_plain.specs.Sound.{Well}
use Rattle.fo_ports_plain.specs.Meaning.{state_of}
use Rattle.fo_ports_plain.specs.Parts.{parts}
use Rattle.fo_ports_plain.proofs.Made.{made_well}
use Rattle.fo_ports_plain.proofs.Given.{gives}
use Rattle.fo_ports_plain.proofs.GivenBlocks.{blank_may}
use Rattle.fo_ports_plain.proofs.Memory.{blank_nowhere}
use Rattle.fo_ports_plain.proofs.calls.PlainBlocksBlocks.new_block.Goals as goal

pub make-requires-clause-well : goal.make-requires-clause-well
make-requires-clause-well c = λ new up.
    let self = c.args.self.now in
    let block = c.blank_block.ensures in
    let place : Place = record { kind = c.args.kind; tag = c.args.tag; index = 0; rank = c.args.rank } in
    let may = blank_may self.blocks.items self.made self.high place {block = c.blank_block.result} c.requires.level block.place block.marks block.content block.bytes in
    made_well up may self.three (record { sound = self.sound; formed = self.formed; waiting = self.waiting; queue = self.queue })

pub returns-clause-gives : goal.returns-clause-gives
returns-clause-gives c =
    let self = c.args.self.now in
    let p = parts self in
    let block = c.blank_block.ensures in
    let place : Place = record { kind = c.args.kind; tag = c.args.tag; index = 0; rank = c.args.rank } in
    let may = blank_may self.blocks.items self.made self.high place {block = c.blank_block.result} c.requires.level block.place block.marks block.content block.bytes in
    let well : Well p.blocks p.made p.high p.root p.waits p.queued = record { sound = self.sound; formed = self.formed; waiting = self.waiting; queue = self.queue } in
    let spared : self.made + self.spare ≤ length self.blocks.items = self.spared in
    let some : 0 < self.spare = c.requires.spare in
    let l : Label = record { state = Live; kind = c.args.kind; tag = c.args.tag; epoch = self.high; closing = 2 ^ 32 - 1 } in
    let is_label : label_of Live p.high (2 ^ 32 - 1) c.blank_block.result ≡ l = ap (λ (x : Place). record { state = Live; kind = x.kind; tag = x.tag; epoch = self.high; closing = 2 ^ 32 - 1 }) block.place.0 in
    let g = gives p c.make.new.self.blocks.items c.make.new.self.spare c.make.ensures.updates may self.three well (omega (arith, spared, some)) c.make.ensures.spare block.content is_label (λ i x e. absurd (blank_nowhere c.args.kind i x (ap target (sym (block.content.slots i)) ∙ e))) in
    subst (λ n. Gives n (blank c.args.kind) l (state_of p) (state_of (parts c.make.new.self))) (sym c.make.ensures.at)
    (subst (λ z. Gives p.made (blank c.args.kind) l (state_of p) (state_of z)) (sym c.make.ensures.rest) g)
