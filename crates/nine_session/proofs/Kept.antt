-- The fids of a session: their numbers, that their users stay users, and the blocks that their files need.
use Rattle.std.proofs.Common.{◌≡◌, ℕ, Bool, true, false, List, [], ◌∷◌, Option, Some, None, Ok, ◌==◌, refl, sym, ap, subst, ◌∙◌}
use Rattle.std.specs.Prelude.{if◌then◌else◌}
use Rattle.std.proofs.lemmas.Bool.{eqb-true}
use Rattle.fo_world.specs.Limits.{IsUser}
use Rattle.fo_world.specs.World.{World}
use Rattle.nine_fids.specs.declared.fid.Fid.{Fid}
use Rattle.nine_fids.specs.declared.refusal.Refusal.TheVariants as refusal
use Rattle.nine_fids.specs.Fids.{Fids, State, AreUsers, nofid, fid_of, known, fid_at, with_fid, with_fids, without}
use Rattle.nine_wire.specs.declared.message.Reply.{Reply}
use Rattle.nine_wire.specs.declared.message.Reply.TheVariants as reply
use Rattle.std.specs.Option.{ok_or}
use Rattle.nine_session.specs.Attempting.{state}
use Rattle.nine_session.specs.Session.{Told, need_at}
use Rattle.nine_session.proofs.Links.{ok_or_ok}

-- ---- a fid that is asked for

not_nofid : (b : Bool) (o : Option Fid) (f : Fid) → (if b then None else o) ≡ Some f → o ≡ Some f
not_nofid true o f h = absurd cc
not_nofid false o f h = h

pub known_fid : (k : ℕ) (fids : List Fid) (f : Fid) → known k fids ≡ Some f → fid_of k fids ≡ Some f
known_fid k fids f h = not_nofid (k == nofid) (fid_of k fids) f h

pub known_there : (z : State) (k : ℕ) (f : Fid) → fid_at z k ≡ Ok f → known k z.session.fids ≡ Some f
known_there z k f h = ok_or_ok (known k z.session.fids) refusal.UnknownFid f h

pub fid_there : (z : State) (k : ℕ) (f : Fid) → fid_at z k ≡ Ok f → fid_of k z.session.fids ≡ Some f
fid_there z k f h = known_fid k z.session.fids f (known_there z k f h)

number_here : (b : Bool) (k : ℕ) (g : Fid) (found : Option Fid) (f : Fid) → (g.number == k) ≡ b → (if b then Some g else found) ≡ Some f → (found ≡ Some f → f.number ≡ k) → f.number ≡ k
number_here true k g found f same is more = let here : g ≡ f = cc in ap (λ x. x.number) (sym here) ∙ eqb-true g.number k same
number_here false k g found f same is more = more is

pub fid_number : (k : ℕ) (fids : List Fid) (f : Fid) → fid_of k fids ≡ Some f → f.number ≡ k
fid_number k [] f is = absurd cc
fid_number k (g ∷ gs) f is = number_here (g.number == k) k g (fid_of k gs) f refl is (fid_number k gs f)

pub number_there : (z : State) (k : ℕ) (f : Fid) → fid_at z k ≡ Ok f → f.number ≡ k
number_there z k f h = fid_number k z.session.fids f (fid_there z k f h)

-- the blocks that its file needs
pub need_there : (o : Option Fid) (f : Fid) (need : Fid → ℕ) → ok_or o refusal.UnknownFid ≡ Ok f → need_at o need ≡ need f
need_there (Some g) f need h = let same : g ≡ f = cc in ap need same
need_there None f need h = absurd cc

-- ---- users

users_tail : (b : Bool) (f : Fid) (fs rest : List Fid) → AreUsers (f ∷ fs) → AreUsers rest → AreUsers (if b then fs else f ∷ rest)
users_tail true f fs rest h k = h.1
users_tail false f fs rest h k = (h.0, k)

pub users_without : (k : ℕ) (fids : List Fid) → AreUsers fids → AreUsers (without k fids)
users_without k [] h = tt
users_without k (f ∷ fs) h = users_tail (f.number == k) f fs (without k fs) h (users_without k fs h.1)

user_here : (b : Bool) (g : Fid) (gs : List Fid) (found : Option Fid) (f : Fid) → AreUsers (g ∷ gs) → (if b then Some g else found) ≡ Some f → (found ≡ Some f → IsUser f.user) → IsUser f.user
user_here true g gs found f h is more = let same : g ≡ f = cc in let P : Fid → Type 0 = λ x. IsUser x.user in subst P same h.0
user_here false g gs found f h is more = more is

pub fid_user : (k : ℕ) (fids : List Fid) (f : Fid) → AreUsers fids → fid_of k fids ≡ Some f → IsUser f.user
fid_user k [] f h is = absurd cc
fid_user k (g ∷ gs) f h is = user_here (g.number == k) g gs (fid_of k gs) f h is (fid_user k gs f h.1)

pub user_there : (z : State) (k : ℕ) (f : Fid) → AreUsers z.session.fids → fid_at z k ≡ Ok f → IsUser f.user
user_there z k f users h = fid_user k z.session.fids f users (fid_there z k f h)

users_here : (b : Bool) (f g : Fid) (gs rest : List Fid) → IsUser f.user → AreUsers (g ∷ gs) → AreUsers rest → AreUsers (if b then f ∷ gs else g ∷ rest)
users_here true f g gs rest user users more = (user, users.1)
users_here false f g gs rest user users more = (users.0, more)

pub users_with : (f : Fid) (fids : List Fid) → IsUser f.user → AreUsers fids → AreUsers (with_fid f fids)
users_with f [] user users = tt
users_with f (g ∷ gs) user users = users_here (g.number == f.number) f g gs (with_fid f gs) user users (users_with f gs user users.1)

-- ---- states

-- the fids of a session with one put in its place, as its fields have them
pub put_state : (inside now : Fids) (x : List ℕ) (old new : World) (fids : List Fid) (f g : Fid) → inside ≡ now → new ≡ old → fids ≡ with_fid f inside.fids → f ≡ g → state (record { msize = inside.msize; fids = fids }) x new ≡ with_fids (state now x old) (with_fid g now.fids)
put_state inside now x old new fids f g view world put same =
    ap (λ (fs : List Fid). state (record { msize = inside.msize; fids = fs }) x new) (put ∙ ap (λ (k : Fid). with_fid k inside.fids) same)
    ∙ ap (λ (s : Fids). state (record { msize = s.msize; fids = with_fid g s.fids }) x new) view
    ∙ ap (λ (w : World). state (record { msize = now.msize; fids = with_fid g now.fids }) x w) world

-- the users of the fields are those of the value
pub users_seen : (inside now : Fids) → inside ≡ now → AreUsers inside.fids → AreUsers now.fids
users_seen inside now view users = let P : Fids → Type 0 = λ s. AreUsers s.fids in subst P view users

pub replied_same : (bytes read : List ℕ) (z z' : State) → read ≡ bytes → z' ≡ z → (let out : Told = Ok (reply.Read bytes, z) in out) ≡ Ok (reply.Read read, z')
replied_same bytes read z z' same left =
    ap (λ (bs : List ℕ). let out : Told = Ok (reply.Read bs, z) in out) (sym same) ∙ ap (λ (s : State). let out : Told = Ok (reply.Read read, s) in out) (sym left)

pub told_same : (r : Reply) (z z' : State) → z' ≡ z → (let out : Told = Ok (r, z) in out) ≡ Ok (r, z')
told_same r z z' left = ap (λ (s : State). let out : Told = Ok (r, s) in out) (sym left)
