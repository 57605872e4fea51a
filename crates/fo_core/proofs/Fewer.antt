-- What a session lets go: the least fid is there, so there are fewer without it; and with no fid nothing is answered.
use Rattle.std.proofs.Common.{◌≡◌, ℕ, ◌<◌, Bool, true, false, cond, eqb, List, [], ◌∷◌, length, Some, None, inl, inr, ◌⊎◌, refl, sym, ap, ◌∙◌, arith}
use Rattle.std.specs.declared.option.Option.{Option}
use Rattle.std.specs.Prelude.{nat_lt}
use Rattle.std.proofs.lemmas.Bool.{eq-eqb}
use Rattle.nine_wire.specs.declared.message.Reply.{Reply}
use Rattle.nine_fids.specs.declared.fid.Fid.{Fid}
use Rattle.nine_fids.specs.Fids.{lesser, least, without}
use Rattle.nine_fids.specs.Looking.{FilesState}
use Rattle.nine_session.specs.Session.{Drops, Kept, Touches}

-- ---- the least fid

chosen : (b : Bool) (f g k : Fid) → cond b (Some g) (Some f) ≡ Some k → (k ≡ f) ⊎ (Some g ≡ Some k)
chosen true f g k e = inr e
chosen false f g k e = inl (cc)

lesser_is : (f : Fid) (o : Option Fid) (k : Fid) → lesser f o ≡ Some k → (k ≡ f) ⊎ (o ≡ Some k)
lesser_is f None k e = inl (cc)
lesser_is f (Some g) k e = chosen (nat_lt g.number f.number) f g k e

without_first : (k : ℕ) (f : Fid) (fs : List Fid) → f.number ≡ k → length (without k (f ∷ fs)) < length (f ∷ fs)
without_first k f fs e = rw (eq-eqb f.number k e) (omega arith)

without_later : (b : Bool) (k : ℕ) (f : Fid) (fs : List Fid) → length (without k fs) < length fs → length (cond b fs (f ∷ without k fs)) < length (f ∷ fs)
without_later true k f fs lt = omega arith
without_later false k f fs lt = omega (arith, lt)

shorter : (fids : List Fid) (k : Fid) → least fids ≡ Some k → length (without k.number fids) < length fids
shorter [] k e = absurd cc
shorter (f ∷ fs) k e = elim (lesser_is f (least fs) k e) [
  | inl here ↦ without_first k.number f fs (ap (λ (x : Fid). x.number) (sym here))
  | inr there ↦ without_later (eqb f.number k.number) k.number f fs (shorter fs k there)
]

-- ---- a fid that is let go

apart : true ≡ false → ⊥
apart e = cc

module _ (old new : FilesState) (within : Touches) (k k' : Kept) (now : ℕ) (more : Bool) (r : Option Reply) where
  dropped_fewer : (best : Option Fid) → least k.session.fids ≡ best → Drops old new within k now best more r k' → more ≡ true → length k'.session.fids < length k.session.fids
  dropped_fewer None is d m = absurd cc
  dropped_fewer (Some f) is d m =
      let left : k'.session.fids ≡ without f.number k.session.fids = ap (λ (x : Kept). x.session.fids) d.1.left in
      rw left (shorter k.session.fids f is)

  pub fewer : Drops old new within k now (least k.session.fids) more r k' → more ≡ true → length k'.session.fids < length k.session.fids
  fewer d m = dropped_fewer (least k.session.fids) refl d m

  dropped_none : (best : Option Fid) → Drops old new within k now best more r k' → more ≡ false → r ≡ None
  dropped_none None d m = d.1
  dropped_none (Some f) d m = absurd (apart (sym d.0 ∙ m))

  pub none : Drops old new within k now (least k.session.fids) more r k' → more ≡ false → r ≡ None
  none d m = dropped_none (least k.session.fids) d m
