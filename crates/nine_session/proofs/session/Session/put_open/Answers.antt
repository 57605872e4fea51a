use Rattle.std.proofs.Common.{sym, subst}
use Rattle.nine_fids.specs.Fids.{AreUsers}
use Rattle.std.proofs.Common.{List}
use Rattle.nine_fids.specs.declared.fid.Fid.{Fid}
use Rattle.nine_session.proofs.Kept.{users_with}
use Rattle.nine_session.proofs.session.Session.put_open.Goals as goal

pub invariant_of-self : goal.invariant_of-self
invariant_of-self c =
    let P : List Fid → Type 0 = λ fids. AreUsers fids in
    subst P (sym c.put_fid.ensures) (users_with c.args.fid c.self.inside.fids.items c.requires.user c.self.invariant)
