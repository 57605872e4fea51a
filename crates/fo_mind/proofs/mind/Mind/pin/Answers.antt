use Rattle.std.proofs.Common.{sym, subst}
use Rattle.fo_mind.specs.Frames.{Brings}
use Rattle.fo_mind.proofs.Looking.{looks, keeps}
use Rattle.fo_mind.proofs.mind.Mind.pin.Goals as goal

pub returns-clause-brings : goal.returns-clause-brings
returns-clause-brings g c =
    subst (Brings c.args.at _) (sym (c.learn.ensures.parts (g.D.Disk.state c.pin_while_left-pinned.new.main).holds (g.D.Disk.faults c.pin_while_left-pinned.new.main))) c.pin_while_left-pinned.ensures.brings

pub returns-clause-looks : goal.returns-clause-looks
returns-clause-looks g c =
    let brought = subst (Brings c.args.at _) (sym (c.learn.ensures.parts (g.D.Disk.state c.pin_while_left-pinned.new.main).holds (g.D.Disk.faults c.pin_while_left-pinned.new.main))) c.pin_while_left-pinned.ensures.brings in
    looks _ _ c.args.at brought

pub returns-clause-keeps : goal.returns-clause-keeps
returns-clause-keeps g c =
    let brought = subst (Brings c.args.at _) (sym (c.learn.ensures.parts (g.D.Disk.state c.pin_while_left-pinned.new.main).holds (g.D.Disk.faults c.pin_while_left-pinned.new.main))) c.pin_while_left-pinned.ensures.brings in
    keeps _ _ c.args.at brought

pub returns-clause-comes : goal.returns-clause-comes
returns-clause-comes g c = rw c.learn.ensures.buffers c.pin_while_left-pinned.ensures.comes

pub returns-clause-pinned : goal.returns-clause-pinned
returns-clause-pinned g c = rw c.learn.ensures.buffers c.pin_while_left-pinned.ensures.pinned
