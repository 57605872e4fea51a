use Rattle.std.proofs.Common.{refl}
use Rattle.fo_buffers.specs.Held.{held_at}
use Rattle.fo_mind.specs.MindParts.{parts}
use Rattle.fo_mind.proofs.Getting.{got_held, good_held, held_as, not_first}
use Rattle.fo_mind.proofs.mind.Mind.copy_out.Goals as goal

pub copy_held-requires-clause-good : goal.copy_held-requires-clause-good
copy_held-requires-clause-good c = good_held c.args.at c.args.kind c.args.self.now.holding c.requires.kind c.requires.held

pub returns-clause-got : goal.returns-clause-got
returns-clause-got c = λ disk faults.
    let self = c.args.self.now in
    got_held (parts self disk faults) self.first self.count c.args.at c.args.kind c.requires.kind (not_first c.args.at self.placed.begins self.holding c.requires.held)
    c.args.rank _ (held_at self.buffers c.args.at) refl (good_held c.args.at c.args.kind self.holding c.requires.kind c.requires.held) (c.copy_held.ensures.copied c.if-not-copy_held.false)

pub returns-clause-is : goal.returns-clause-is
returns-clause-is c = held_as c.args.kind c.args.rank (held_at c.args.self.now.buffers c.args.at) _ (c.copy_held.ensures.copied c.if-not-copy_held.false)
