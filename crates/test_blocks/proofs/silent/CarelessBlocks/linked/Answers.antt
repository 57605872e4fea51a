use Rattle.std.proofs.Common.{refl, sym, ap, subst}
use Rattle.fo_slots.specs.Read.{PutsInto}
use Rattle.test_blocks.specs.declared.silent.Block.{Block}
use Rattle.test_blocks.specs.Silent.{Rises}
use Rattle.test_blocks.proofs.Updating.{slot_good, good_like}
use Rattle.test_blocks.proofs.silent.CarelessBlocks.linked.Goals as goal

pub returns-clause-good : goal.returns-clause-good
returns-clause-good c =
    let y = c.with_slot.ensures in
    good_like (ap (λ (z : Block). z.label.kind) y.is) refl (slot_good c.args.self.now.count c.block.result.label.kind c.args.i c.args.slot.now c.block.result.bytes c.with_slot.result.bytes c.block.ensures.good y.puts c.requires.leads y.long)

pub returns-clause-puts : goal.returns-clause-puts
returns-clause-puts c = subst (λ (z : Block). PutsInto z.label.kind c.args.i c.args.slot.now z.bytes c.with_slot.result.bytes) c.block.ensures.is c.with_slot.ensures.puts

pub returns-clause-rises : goal.returns-clause-rises
returns-clause-rises c = subst (λ o. Rises c.args.at c.args.i c.args.slot.now c.args.self.now.blocks.items o) (sym (ap (λ (z : Block). z.origin) c.with_slot.ensures.is)) c.origin_with-origin.ensures
