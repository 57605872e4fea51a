-- What a new top comes in the place of that was raised over another.
use Rattle.std.proofs.Common.{◌≡◌, ◌≢◌, ◌⊎◌, ◌+◌, ℕ, suc, [], ◌∷◌, inl, inr, ⊎_elim, refl, sym, ◌∙◌, ap, subst, arith}
use Rattle.std.proofs.lemmas.Bool.{cases_eq}
use Rattle.fo_image.specs.declared.types.Label.{Label}
use Rattle.fo_image.specs.declared.types.State.TheVariants.{Live}
use Rattle.fo_image.specs.declared.types.Pointer.{Pointer}
use Rattle.fo_image.specs.declared.types.Pointer.TheVariants.{Local}
use Rattle.fo_crash.specs.Images.{Reaches, to_block}
use Rattle.fo_crash.specs.Places.{place, IsPlaced, RanksFall}
use Rattle.fo_crash.proofs.Places.{stands_below}
use Rattle.fo_crash.proofs.Reach.{reach_aside, reaches_joins}
use Rattle.fo_ports.specs.State.{State, KeepsAll}
use Rattle.fo_ports.specs.Sources.{IsInstead, ComesFor}
use Rattle.fo_tree_read.specs.declared.tree.Tree.{Tree}
use Rattle.fo_tree_read.specs.Tree.{kind_at}
use Rattle.fo_tree_down.proofs.of_tree_own.Link.{local_eq}
use Rattle.fo_tree_raise.specs.Raise.{CanRaise, Raises}

-- A top was raised over another, over a device that tells.
pub record Coming (t : Tree) (top : ℕ) (s u : State) : Type 0 where
  pub raises : Raises t top s u
  pub can : CanRaise s t
  pub all : KeepsAll s u
  pub told : s.tells
  pub placed : IsPlaced s.stands s.now
  pub ranked : RanksFall s.stands s.now
  pub made_apart : (y z : ℕ) → s.instead y z → s.apart y

module _ {t : Tree} {top : ℕ} {s u : State} (x : Coming t top s u) where
  ne_live : (y : ℕ) → (s.label y).state ≡ Live → y ≢ top
  ne_live y live e = x.raises.made.0 (ap (λ z. (s.label z).state) (sym e) ∙ live)

  live_on : (y : ℕ) → (s.label y).state ≡ Live → (u.label y).state ≡ Live
  live_on y live = ap (λ (l : Label). l.state) (x.raises.labels y (ne_live y live)) ∙ live

  -- what the source's top is hangs from the new one
  leads : (b : ℕ) → t.top ≡ Local b → Reaches u.now (to_block top) b
  leads b e = record { path = 0 ∷ []; leads = x.raises.leads ∙ e }

  -- the first top was put
  first_instead : ((b : ℕ) → t.top ≡ Local b → s.apart b → ⊥) → IsInstead u t.top top
  first_instead put =
      let own = x.raises.own.told (x.all.still_tells.1 x.told) in
      record {
        is_apart = x.raises.is.2;
        place = place (kind_at t.dir (suc t.depth)) t.tag 0 (t.rank + suc t.depth);
        stands = own.stands;
        uncovered = own.uncovered;
        instead = λ y. (
          λ h. let is = x.raises.raises y h in ⊎_elim (λ here. is.1 ∙ ap (λ z. Local z) here.0) (λ old. absurd (put is.0 is.1 (x.made_apart is.0 y old))) is.2,
          λ e. x.raises.comes y y e (inr (refl, put y e)),
        );
        live = λ y e. live_on y (x.can.under y e).live;
        keeps = λ y e. inr (leads y e);
      }

  -- it was itself made to come in the place of another
  next_instead : (from : Pointer) (c : ℕ) → t.top ≡ Local c → IsInstead s from c → IsInstead u from top
  next_instead from c is i =
      let own = x.raises.own.told (x.all.still_tells.1 x.told) in
      record {
        is_apart = x.raises.is.2;
        place = place (kind_at t.dir (suc t.depth)) t.tag 0 (t.rank + suc t.depth);
        stands = own.stands;
        uncovered = own.uncovered;
        instead = λ y. (
          λ h. let r = x.raises.raises y h in
              let same : r.0 ≡ c = local_eq (sym r.1 ∙ is) in
              ⊎_elim
              (λ here. absurd (here.1 (subst (λ b. s.apart b) (sym same) i.is_apart)))
              (λ old. (i.instead y).0 (subst (λ b. s.instead b y) same old))
              r.2,
          λ e. x.raises.comes c y is (inl ((i.instead y).1 e)),
        );
        live = λ y e. live_on y (i.live y e);
        keeps = λ y e.
            let label : (u.label y).epoch ≡ (s.label y).epoch = ap (λ (l : Label). l.epoch) (x.raises.labels y (ne_live y (i.live y e))) in
            let high = x.all.same_high in
            ⊎_elim
            (λ older. inl (omega (arith, label, high, older)))
            (λ r. inr (reaches_joins (leads c is) (still y r)))
            (i.keeps y e);
      }
    where
      still : (y : ℕ) → Reaches s.now (to_block c) y → Reaches u.now (to_block c) y
      still y r = reach_aside s.now u.now (λ b. b ≡ top) c (λ b j ne. sym ((x.raises.same b ne).slots j))
          (λ b e far. let q = stands_below i.place x.placed x.ranked i.stands (subst (λ z. Reaches s.now (to_block c) z) e far) in (x.raises.was.1 x.told).1 q.0 q.1) y r

  pub comes_raised : (from : Pointer) → ComesFor s t.top from → ComesFor u (Local top) from
  comes_raised from (inl h) = inr (top, refl, subst (λ p. IsInstead u p top) h.0 (first_instead h.1))
  comes_raised from (inr h) = inr (top, refl, next_instead from h.0 h.1 h.2)

  pub only_raised : (y z : ℕ) → u.instead y z → (y ≡ top) ⊎ (s.instead y z × (t.top ≡ Local y → ⊥))
  only_raised y z h = ⊎_elim
      (λ e. inl e)
      (λ ne. inr (x.raises.instead y z ne h, λ e. (x.raises.put y e).1 z h))
      (cases_eq y top)
