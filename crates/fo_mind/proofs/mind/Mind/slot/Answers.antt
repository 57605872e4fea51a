use Rattle.fo_buffers.specs.Held.{held_at}
use Rattle.fo_mind.proofs.Getting.{is_held}
use Rattle.fo_mind.proofs.mind.Mind.slot.Goals as goal

pub slot_held-requires-clause-held : goal.slot_held-requires-clause-held
slot_held-requires-clause-held c = is_held (held_at c.args.self.now.buffers c.args.at) c.requires.pinned
