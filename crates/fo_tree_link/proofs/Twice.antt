-- What two calls on a source leave of other blocks.
use Rattle.std.proofs.Common.{◌≡◌, ◌≢◌, ◌⊎◌, ℕ, inl, inr, ⊎_elim, refl, ◌∙◌, ap}
use Rattle.fo_image.specs.declared.types.Label.{Label}
use Rattle.fo_image.specs.declared.types.State.{State as BlockState}
use Rattle.fo_image.specs.declared.types.State.TheVariants.{Free, Live, Closed}
use Rattle.fo_ports.specs.State.{State, KeepsAll, IsRooted}
use Rattle.fo_ports.specs.Sources.{Made}
use Rattle.fo_tree_read.specs.declared.tree.Tree.{Tree}
use Rattle.fo_tree_look.specs.Source.{HasBlock}
use Rattle.fo_tree_down.proofs.of_tree_own.Link.{Laws}
use Rattle.fo_tree_link.specs.Change.{KeepsOthers}

live_cases : (s : BlockState) → (s ≡ Live) ⊎ (s ≢ Live)
live_cases Live = inl refl
live_cases Free = inr (λ e. cc)
live_cases Closed = inr (λ e. cc)

-- A call on a source, and one on what it left.
pub record Twice (s u v : State) (t mid : Tree) : Type 0 where
  pub laws : Laws s
  pub all : KeepsAll s u
  pub first : KeepsOthers s u t
  pub second : KeepsOthers u v mid
  pub owns : s.tells → (b : ℕ) → HasBlock u mid b → HasBlock s t b ⊎ Made s u b
  pub labels : ((b : ℕ) → (Made s u b → ⊥) → u.label b ≡ s.label b) × ((b : ℕ) → (Made u v b → ⊥) → v.label b ≡ u.label b)
  pub covered : (b : ℕ) → u.covered b → v.covered b

module _ {s u v : State} {t mid : Tree} (x : Twice s u v t mid) where
  -- what the first call gave out is live still
  made_first : (b : ℕ) → Made s u b → Made s v b
  made_first b made = (made.0, ap (λ (l : Label). l.state) (x.labels.1 b (λ again. again.0 made.1)) ∙ made.1)

  made_second : (b : ℕ) → (Made s v b → ⊥) → Made u v b → ⊥
  made_second b not made = ⊎_elim
      (λ live. made.0 (ap (λ (l : Label). l.state) (x.labels.0 b (λ first. first.0 live)) ∙ live))
      (λ free. not (free, made.1))
      (live_cases (s.label b).state)

  rooted_mid : s.tells → (b : ℕ) → (Made s v b → ⊥) → IsRooted v b → IsRooted u b
  rooted_mid told b not r = x.second.rooted (x.all.still_tells.1 told) b (made_second b not) r

  pub others_twice : KeepsOthers s v t
  others_twice = record {
    made = λ b made. ⊎_elim
        (λ live. x.first.made b (made.0, live))
        (λ free. x.second.made b (free, made.1))
        (live_cases (u.label b).state);
    places = λ told b p not other free r stands.
        x.second.places (x.all.still_tells.1 told) b p (made_second b not)
        (λ has. ⊎_elim other (λ made. not (made_first b made)) (x.owns told b has))
        free
        r
        (x.first.places told b p (λ made. not (made_first b made)) other (λ c. free (x.covered b c)) (rooted_mid told b not r) stands);
    rooted = λ told b not r. x.first.rooted told b (λ made. not (made_first b made)) (rooted_mid told b not r);
    in_tree = λ told b other r.
        x.second.in_tree (x.all.still_tells.1 told) b
        (λ has. ⊎_elim other (λ made. made.0 (x.laws.live b told (x.first.made b made) r).0) (x.owns told b has))
        (x.first.in_tree told b other r);
  }
