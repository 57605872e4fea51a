use Rattle.nine_session.specs.Attempting.{state}
use Rattle.nine_session.proofs.Ends.{gone_state}
use Rattle.nine_session.proofs.Kept.{users_without}
use Rattle.nine_session.proofs.session.Session.let_go.Goals as goal

pub invariant_of-self : goal.invariant_of-self
invariant_of-self c = rw c.remove_fid.ensures (users_without c.args.number c.self.inside.fids.items c.self.invariant)

pub returns : goal.returns
returns c = λ w.
    let found = rw c.as_slice.ensures.value at c.in-Some.ensures in
    rw (← c.self.view_is) (gone_state (state _ c.args.exclusive.now.items w) c.args.number c.in-Some.fid.now c.remove_fid.new.fids.items c.release.new.exclusive.items found c.remove_fid.ensures c.release.ensures)
