use Rattle.fo_buffers.proofs.Keeping.{view_unpinned}
use Rattle.fo_buffers.proofs.buffers.Buffers.unpin.Goals as goal

pub returns : goal.returns
returns c =
    rw (← c.self.view_is)
    (view_unpinned c.self.inside.held c.next_pinned.new.held c.self.inside.clean.entries c.self.inside.room c.next_pinned.result c.next_pinned.ensures.some)
