-- Why slots may not be put.
use Rattle.std.proofs.Common.{◌≡◌, ◌≢◌, ℕ, Bool, false, cond, nat_eq, [], ◌∷◌, ⊎_elim, refl, sym, subst, arith}
use Rattle.std.proofs.lemmas.Bool.{cases_eq}
use Rattle.std.proofs.lemmas.Grind.{common_steps}
use Rattle.fo_crash.specs.declared.place.Place.{Place}
use Rattle.fo_crash.specs.Places.{root_place, super_place}
use Rattle.fo_crash.specs.Spots.{Spot, top_spot}
use Rattle.fo_image.specs.declared.types.Pointer.{Pointer}
use Rattle.fo_image.specs.declared.types.Pointer.TheVariants.{Nil, Local, Score as Held}
use Rattle.fo_crash.specs.Images.{Reaches, target, to_block}
use Rattle.fo_ports.specs.Blocks.{dropped, ends, zeros}
use Rattle.fo_ports.specs.State.{State}
use Rattle.fo_crash.specs.declared.slot.Slot.{Slot}
use Rattle.fo_crash.specs.declared.slot.Slot.TheVariants.{Pointer as To, Entry as Head, Prev}
use Rattle.fo_crash.specs.Steps.{cleared}
use Rattle.fo_ports_clients.specs.Refused.{LinksOnce, RaisesOnce, KeepsFirst, KeepsOutClosed, KeepsInTree, LetsNoneGo, KeepsCopies, CutsInTree}
use Rattle.fo_ports_clients.proofs.Leaf.{nil_reaches}

pub once : (s : State) → ((b : ℕ) → s.apart b → Reaches s.now (to_block 1) b → ⊥) → LinksOnce s
once s hangs = record {
  each = λ at i b slot nil leads tree outer may. ⊎_elim
      (λ led. nil_reaches ((s.now at).slot i) b nil (record { path = zeros (dropped ((s.now at).slot i) slot); leads = led }))
      (λ rest. ⊎_elim
      (λ h. nil_reaches ((s.now at).slot i) h.0 nil (record { path = zeros (dropped ((s.now at).slot i) slot); leads = h.2 }))
      (λ h. ⊎_elim
      (λ loose. hangs b loose.0.0 tree)
      (λ more. ⊎_elim
      (λ new. hangs b new.0.0 tree)
      (λ raised. outer raised.0.1 raised.0.0.0.0)
      more)
      h.1)
      rest)
      (may.comes b leads);
}

pub raised : (s : State) → RaisesOnce s
raised s = record {
  each = λ at i b slot nil leads joined free may. ⊎_elim
      (λ led. nil_reaches ((s.now at).slot i) b nil (record { path = zeros (dropped ((s.now at).slot i) slot); leads = led }))
      (λ rest. ⊎_elim
      (λ h. nil_reaches ((s.now at).slot i) h.0 nil (record { path = zeros (dropped ((s.now at).slot i) slot); leads = h.2 }))
      (λ h. ⊎_elim
      (λ loose. joined loose.0.0)
      (λ more. ⊎_elim
      (λ new. joined new.0.0)
      (λ over. ⊎_elim joined free over.1)
      more)
      h.1)
      rest)
      (may.comes b leads);
}

pub first : (s : State) → KeepsFirst s
first s = record {
  put = λ at x slot inner leads none may. let still = may.first inner refl x leads in none still.0 still.1;
  cleared = λ at inner may. may.first inner refl;
}

pub closed : (s : State) → KeepsOutClosed s
closed s = record {
  put = λ at i b slot leads covered may. (may.brings.each b (record { path = []; leads = leads })).2 covered;
  into = λ at i slot covered may. may.uncovered covered;
  cleared = λ at i covered may. may.uncovered covered;
}

pub tree : (s : State) → KeepsInTree s
tree s = record {
  put = λ at i slot out may. out may.holder;
  cleared = λ at i out may. out may.holder;
}

pub made : (s : State) → LetsNoneGo s
made s = record {
  put = λ at i c slot leads free other may. ⊎_elim other free (may.keeps c leads);
  cleared = λ at i c leads free may. free (may.keeps c leads);
}

cleared_nil : (s : Slot) → target (cleared s) ≡ Nil
cleared_nil (To p) = refl
cleared_nil (Head e) = refl
cleared_nil (Prev epoch at) = refl

pub copies : (s : State) → KeepsCopies s
copies s = record {
  put = λ at i y x slot comes below stays alone may. ⊎_elim stays alone (may.leaves.each y x comes below);
  cleared = λ at i y x comes below may.
      let none = cleared_nil ((s.now at).slot i) in
      ⊎_elim
      (λ r. nil_reaches (cleared ((s.now at).slot i)) x none r)
      (λ r. nil_reaches (cleared ((s.now at).slot i)) y none r)
      (may.leaves.each y x comes below);
}

-- a slot that led to a block and leads to none takes a removal to put
ends_one : (old new : Pointer) (c : ℕ) → old ≡ Local c → ((b : ℕ) → new ≢ Local b) → ends old new ≡ 1
ends_one (Local x) Nil c e none = refl
ends_one (Local x) (Held score) c e none = refl
ends_one (Local x) (Local y) c e none = absurd (none y refl)
ends_one Nil new c e none = absurd (cc)
ends_one (Held score) new c e none = absurd (cc)

pub cut : (s : State) → CutsInTree s
cut s = record {
  put = λ at i c slot leads none out may.
      let one = ends_one (target ((s.now at).slot i)) (target slot) c leads none in
      out (may.linked (omega (arith, one)));
  entries = λ at i c slot outer leads other out may. out (may.entry outer c leads other);
  levels = λ at i slot fewer out may. out (may.linked (omega (arith, fewer)));
  cleared = λ at i c leads out may. out (may.linked c leads);
}

abbrev spot_by : Bool → Spot
spot_by v = cond v (record { place = super_place; trail = [] }) (record { place = root_place; trail = 0 ∷ [] })

other : (t : ℕ) → t ≢ 1 → nat_eq t 1 ≡ false
other t ne = grind (arith, common_steps)

-- each top stands at its place
pub top_place : (stands : ℕ → Place → Type 0) → stands 1 super_place → (t : ℕ) → (t ≢ 1 → stands t root_place) → stands t (top_spot t).place
top_place stands super t roots = ⊎_elim
    (λ e. subst (λ x. stands x (top_spot x).place) (sym e) super)
    (λ ne. subst (λ v. stands t (spot_by v).place) (sym (other t ne)) (roots ne))
    (cases_eq t 1)
