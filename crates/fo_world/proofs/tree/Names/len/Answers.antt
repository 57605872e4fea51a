use Rattle.fo_world.proofs.Changes.{name_count-length}
use Rattle.fo_world.proofs.tree.Names.len.Goals as goal

pub returns : goal.returns
returns c = rw (c.as_slice.ensures.value, ← c.self.view_is) (name_count-length c.self.inside.entries.items)
