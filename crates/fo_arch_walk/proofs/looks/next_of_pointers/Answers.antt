use Rattle.fo_arch_walk.proofs.Steps.{form_inner}
use Rattle.fo_arch_walk.proofs.looks.next_of_pointers.Goals as goal

pub returns-in-None-clause-next : goal.returns-in-None-clause-next
returns-in-None-clause-next g c =
    form_inner c.args.done.now c.args.spot.kind ((g.B.Blocks.state c.look_pointers.new.on).now c.args.spot.at) c.look_pointers.new.block c.requires.inner (rw c.in-None.is at c.in_ok-look_pointers.ensures.form)
