-- Places that fit, once their index is fixed.
use Rattle.std.proofs.Common.{◌≡◌, ◌⊎◌, ⊎_elim, ℕ, zero, suc, ◌^◌, ◌<◌, ◌≤◌, refl, sym, ◌∙◌, ap, arith}
use Rattle.fo_image.specs.declared.types.Kind.{Kind}
use Rattle.fo_image.specs.declared.types.Kind.TheVariants.{Data, Dir, Root}
use Rattle.fo_crash.specs.declared.slot.Slot.{Slot}
use Rattle.fo_crash.specs.declared.place.Place.{Place}
use Rattle.fo_crash.specs.Places.{place_below, FitsAt}
use Rattle.fo_ports_plain.specs.Plain.{index_below}

-- the index of a place below does not depend on the slot
pub index_any : (p : Place) (i : ℕ) (s : Slot) → (place_below p i s).index ≡ index_below p i
index_any p i s = by p.kind
  where
    by : (k : Kind) → (place_below (record p { kind = k }) i s).index ≡ index_below (record p { kind = k }) i
    by (Data zero) = refl
    by (Data (suc l)) = refl
    by (Dir zero) = refl
    by (Dir (suc l)) = refl
    by Root = refl

-- a place that fits is the place below, once its index is fixed
pub fits_fixed : (q p : Place) (free : Type 0) → FitsAt free q p → record q { index = p.index } ≡ p
fits_fixed q p free fits = ⊎_elim (λ same. ap (λ (x : Place). record q { index = x.index }) (sym same) ∙ same) (λ h. h.2) fits

pub fits_rank : (q p : Place) (free : Type 0) → FitsAt free q p → q.rank ≡ p.rank
fits_rank q p free fits = ap (λ (x : Place). x.rank) (fits_fixed q p free fits)

pub fits_firm : (q p : Place) (free : Type 0) → FitsAt free q p → (free → ⊥) → q ≡ p
fits_firm q p free fits firm = ⊎_elim (λ same. same) (λ h. absurd (firm h.0)) fits

-- the same for an index that is that of the place below, or else the one that the place has
pub fits_at : (q p : Place) (free : Type 0) (index n : ℕ) → p.index ≡ index → FitsAt free q p → (n ≡ index) ⊎ ((2 ^ 64 ≤ index) × (n ≡ q.index)) → record q { index = n } ≡ p
fits_at q p free index n is fits which = ⊎_elim
    (λ e. ap (λ k. record q { index = k }) (e ∙ sym is) ∙ fits_fixed q p free fits)
    (λ big. ⊎_elim
    (λ same. ap (λ k. record q { index = k }) big.1 ∙ same)
    (λ h. let far : 2 ^ 64 ≤ index = big.0 in let small : p.index < 2 ^ 64 = h.1 in absurd (omega (arith, far, small, is)))
    fits)
    which
