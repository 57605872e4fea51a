use Rattle.std.proofs.Common.{◌≡◌, ℕ, ◌+◌, length, refl, sym, ap, subst, ◌∙◌, arith}
use Rattle.fo_ports.specs.Blocks.{MayPut, put_at}
use Rattle.fo_slots.specs.Read.{read}
use Rattle.test_blocks.specs.declared.silent.Block.{Block}
use Rattle.test_blocks.specs.Silent.{block_at, content_of}
use Rattle.test_blocks.proofs.Updating.{is_data, plain_kind, bytes_good, bytes_put, marks_of, good_like}
use Rattle.test_blocks.proofs.silent.CarelessBlocks.set_bytes.Goals as goal

pub with_bytes-block-requires-clause-within : goal.with_bytes-block-requires-clause-within
with_bytes-block-requires-clause-within c =
    let x = block_at c.args.self.now.blocks.items c.args.at in
    let good = c.args.self.now.sound.each c.args.at c.requires.there in
    let plain = ap length (plain_kind x.label.kind x.bytes (is_data x.label.kind c.args.from (c.args.from + length c.args.bytes.now) good.level c.requires.place)) in
    let long = good.long in
    let fits = c.requires.within in
    omega (arith, plain, long, fits)

pub set-requires-clause-good : goal.set-requires-clause-good
set-requires-clause-good c =
    let x = block_at c.args.self.now.blocks.items c.args.at in
    let y = c.with_bytes-block.ensures in
    let mine : c.with_bytes-block.result.label.kind ≡ c.block.result.label.kind = ap (λ (z : Block). z.label.kind) y.is in
    let may = c.requires.place in
    let place = subst (λ (z : Block). MayPut z.label.kind c.args.from (c.args.from + length c.args.bytes.now)) (sym c.block.ensures.is) may in
    good_like mine refl (bytes_good c.args.self.now.count c.block.result.label.kind c.args.from (c.args.from + length c.args.bytes.now) c.block.result.bytes c.with_bytes-block.result.bytes c.block.ensures.good place y.same y.slots y.long)

pub returns-clause-puts : goal.returns-clause-puts
returns-clause-puts c =
    let good = c.args.self.now.sound.each c.args.at c.requires.there in
    let y = c.with_bytes-block.ensures in
    let is = c.block.ensures.is in
    bytes_put c.args.from (c.args.from + length c.args.bytes.now) c.args.bytes.now c.set.ensures.updates
    (ap (λ (z : Block). z.label) y.is ∙ ap (λ (z : Block). z.label) is)
    good.level c.requires.place
    (subst (λ (z : Block). (i : ℕ) → (read z.label.kind c.with_bytes-block.result.bytes).slot i ≡ (content_of z).slot i) is y.same)
    (ap (λ (z : Block). z.bytes) y.is ∙ ap (λ (z : Block). put_at c.args.from c.args.bytes.now z.bytes) is)

pub returns-clause-marks : goal.returns-clause-marks
returns-clause-marks c =
    let y = c.with_bytes-block.ensures in
    let is = c.block.ensures.is in
    marks_of c.set.ensures.updates c.set.ensures.size
    (ap (λ (z : Block). z.label) y.is ∙ ap (λ (z : Block). z.label) is)
    (ap (λ (z : Block). z.apart) y.is ∙ ap (λ (z : Block). z.apart) is)
    (ap (λ (z : Block). z.origin) y.is ∙ ap (λ (z : Block). z.origin) is)
