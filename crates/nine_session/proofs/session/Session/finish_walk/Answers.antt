use Rattle.nine_session.proofs.Kept.{users_with}
use Rattle.nine_session.proofs.session.Session.finish_walk.Goals as goal

pub invariant_of-self : goal.invariant_of-self
invariant_of-self c = rw c.put_fid.ensures (users_with _ _ c.requires.user c.self.invariant)
