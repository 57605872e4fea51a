-- A block that is pinned, and then lent or copied.
use Rattle.std.proofs.Common.{◌≡◌, ◌⊎◌, ◌+◌, ◌<◌, ◌≤◌, ℕ, Result, Ok, Err, IfErr, inl, inr, ⊎_elim, sym, ap, ◌∙◌, subst, arith}
use Rattle.std.proofs.lemmas.Bool.{cases_lt}
use Rattle.fo_looks.specs.of_base.Cause.{Rose}
use Rattle.fo_looks.specs.of_image.declared.types.Kind.{Kind}
use Rattle.fo_looks.specs.of_image.declared.types.Label.{Label}
use Rattle.fo_looks.specs.of_crash.declared.place.Place.{Place}
use Rattle.fo_looks.specs.of_ports.declared.error.BlockError.{BlockError}
use Rattle.fo_looks.specs.of_ports.declared.error.BlockError.TheVariants.{Full, Damaged, Fault, Arena, Memory}
use Rattle.fo_looks.specs.of_ports.Causes.{Caused}
use Rattle.fo_looks.specs.of_ports.State.{State, Looks}
use Rattle.fo_tree_read.specs.Tree.{StandsAs, IsGot, Failed}

module _ (a b : State) (kind : Kind) (at : ℕ) (looks : Looks a b) (label : (a.label at).kind ≡ kind) (pinned : 0 < a.pins_left → b.pinned at) where
  pub is_got : (0 < a.pins_left) ⊎ a.pinned at → IsGot b kind at
  is_got is = record {
    is_pinned = ⊎_elim (λ some. pinned some) (λ h. (looks.stays.marks at (λ n. n)).0 h) is;
    has_kind = ap (λ (l : Label). l.kind) (looks.stays.labels at (λ n. n)) ∙ label;
  }

  -- a call behind that takes no pin for a block that was got
  pub pins_joined : (c : State) → a.pins_left ≤ b.pins_left + 1 → (IsGot b kind at → b.pins_left ≤ c.pins_left) → a.pins_left ≤ c.pins_left + 1
  pins_joined c one again = ⊎_elim
      (λ some. let le = again (is_got (inl some)) in omega (arith, one, le))
      (λ none. omega (arith, none))
      (cases_lt 0 a.pins_left)

  pub again_joined : (c : State) → (a.pinned at → (a.label at).kind ≡ kind → b.pins_left ≡ a.pins_left) → (IsGot b kind at → b.pins_left ≤ c.pins_left) → IsGot a kind at → a.pins_left ≤ c.pins_left
  again_joined c no_pin again got =
      let same = no_pin got.is_pinned got.has_kind in
      let le = again (is_got (inr got.is_pinned)) in
      omega (arith, same, le)

-- why a block that stands is not pinned
pin_failed : (a b : State) (kind : Kind) (rank at : ℕ) → (a.tells → StandsAs a kind rank at) → a.is_block at → (e : BlockError)
    → Caused ⊥ (λ x. (x ≡ at) × (a.tells → (p : Place) → a.stands at p → ⊥)) (Rose a.faults b.faults) ⊥ e → Failed a b e
pin_failed a b kind rank at stands block Full cause = cause
pin_failed a b kind rank at stands block (Damaged x) cause = (λ told. let s = stands told in cause.1 told s.there s.stands, subst a.is_block (sym cause.0) block)
pin_failed a b kind rank at stands block (Fault which) cause = cause
pin_failed a b kind rank at stands block (Arena which) cause = cause
pin_failed a b kind rank at stands block Memory cause = cause

pub any_pin_failed : {T : Type 0} (a b : State) (kind : Kind) (rank at : ℕ) → (a.tells → StandsAs a kind rank at) → a.is_block at → (r : Result T BlockError)
    → IfErr r (Caused ⊥ (λ x. (x ≡ at) × (a.tells → (p : Place) → a.stands at p → ⊥)) (Rose a.faults b.faults) ⊥) → IfErr r (Failed a b)
any_pin_failed a b kind rank at stands block (Ok x) cause = cause
any_pin_failed a b kind rank at stands block (Err e) cause = pin_failed a b kind rank at stands block e cause
