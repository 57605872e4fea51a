-- What changes of counts leave.
use Rattle.std.proofs.Common.{◌≡◌, ◌⊎◌, ℕ, ◌+◌, inl, inr, ⊎_elim, Bool, List, [], ◌∷◌, ◌++◌, refl, sym, ap, ◌∙◌, subst, arith}
use Rattle.std.specs.List.{Contains}
use Rattle.std.proofs.lemmas.List.Elements.{Contains-push_cases}
use Rattle.fo_unlink.specs.declared.removal.Removal.{Removal}
use Rattle.fo_crash.specs.Images.{SameImage}
use Rattle.fo_ports.specs.State.{AddsNoRemoval, AddsNoWait, Frame, KeepsCovered, KeepsOrder, Stays, Uses, none}
use Rattle.fo_mind.specs.Parts.{Parts, CacheKeeps, Removes, memory, state_of}
use Rattle.fo_mind.proofs.Looking.{same_content}

-- only these differ
abbrev but_counts : Parts → ℕ → Bool → ℕ → List Removal → Parts
but_counts p next granted room removals = record p { next = next; granted = granted; room = room; removals = removals }

module _ (p : Parts) (next : ℕ) (granted : Bool) (room : ℕ) (removals : List Removal) where
  abbrev q : Parts
  q = but_counts p next granted room removals

  pub image_counts : SameImage (memory q) (memory p)
  image_counts = record { each = λ b. same_content refl }

  pub stays_counts : Stays none none (state_of p) (state_of q)
  stays_counts = record {
    labels = λ b _. refl;
    marks = λ b _. (λ h. h, λ h. h, λ h. h);
    places = λ t. absurd t;
    rooted = λ t. absurd t;
    newborn = λ b _ h. h;
    apart = λ b _ _. (λ h. h, λ h. h);
    instead = λ b x _ _. (λ h. h, λ h. h);
    waits = λ a on j _ _ _ w. w;
  }

  pub order_counts : KeepsOrder none (state_of p) (state_of q)
  order_counts = record { clearing = λ b j h. (λ none. none, h); goes_on = λ b j _ h. h }

  pub covered_counts : KeepsCovered (state_of p) (state_of q)
  covered_counts = record { covered = λ b. (λ h. h, λ h. h) }

  pub no_wait_counts : AddsNoWait none (state_of p) (state_of q)
  no_wait_counts = record { each = λ a on j _ w. w }

  pub keeps_counts : CacheKeeps p q
  keeps_counts = record { first = refl; count = refl; high = refl; low = refl; root = refl; faults = omega arith }

pub uses_none : (p : Parts) (next : ℕ) (granted : Bool) → Uses 0 0 (state_of p) (state_of (but_counts p next granted p.room p.removals))
uses_none p next granted = record { spare = omega arith; usable = omega arith; room = omega arith; pins = refl; moments = refl; left = λ k image h. h }

pub frame_counts : (p : Parts) (room : ℕ) (removals : List Removal) → room + 1 ≡ p.room → Frame none none 1 (state_of p) (state_of (but_counts p p.next p.granted room removals))
frame_counts p room removals used = record {
  stays = stays_counts p p.next p.granted room removals;
  dirty = λ b d. inl d;
  uses = record { spare = omega arith; usable = omega arith; room = used; pins = refl; moments = refl; left = λ k image h. h };
  numbers = record { next = refl; grants = λ h. h };
}

pub no_removal_counts : (p : Parts) (next : ℕ) (granted : Bool) → AddsNoRemoval (state_of p) (state_of (but_counts p next granted p.room p.removals))
no_removal_counts p next granted = record { each = λ b e w h. h }

-- one removal more is queued
pub removes_one : (rs new : List Removal) (r : Removal) → new ≡ rs ++ r ∷ [] → (b e : ℕ) (whole : Bool) → Removes new b e whole → Removes rs b e whole ⊎ ((b ≡ r.at) × (e ≡ r.epoch) × (whole ≡ r.whole))
removes_one rs new r is b e whole h = ⊎_elim
    (λ was. inl (h.0, was, h.2, h.3, h.4))
    (λ one. inr (sym h.2 ∙ ap (λ (x : Removal). x.at) (sym one), sym h.3 ∙ ap (λ (x : Removal). x.epoch) (sym one), sym h.4 ∙ ap (λ (x : Removal). x.whole) (sym one)))
    (Contains-push_cases rs r h.0 (subst (λ (l : List Removal). Contains l h.0) is h.1))
