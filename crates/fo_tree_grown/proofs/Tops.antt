-- The top of a source after two calls, and which blocks it has.
use Rattle.std.proofs.Common.{◌≡◌, ◌⊎◌, ℕ, List, inl, inr, ⊎_elim, sym, ◌∙◌, ap, subst}
use Rattle.fo_image.specs.declared.types.Label.{Label}
use Rattle.fo_image.specs.declared.types.State.TheVariants.{Live}
use Rattle.fo_image.specs.declared.types.Pointer.TheVariants.{Local}
use Rattle.fo_ports.specs.State.{State, KeepsAll}
use Rattle.fo_ports.specs.Sources.{Made, Grows}
use Rattle.fo_tree_read.specs.declared.tree.Tree.{Tree}
use Rattle.fo_tree_look.specs.declared.ways.Kept.{Kept}
use Rattle.fo_tree_look.specs.Source.{HasBlock, leaves_of}
use Rattle.fo_tree_clear.specs.of_tree_down.Way.{IsTopOf, with_top}
use Rattle.fo_tree_clear.proofs.Stepping.{cases_made}

local_eq : {a b : ℕ} → Local a ≡ Local b → a ≡ b
local_eq e = cc

-- Two calls on a source, one after another.
pub record Twice (s m u : State) (t new : Tree) (kept : List Kept) (first top : ℕ) : Type 0 where
  pub all : KeepsAll s m
  pub labels : (b : ℕ) → (Made s m b → ⊥) → m.label b ≡ s.label b
  pub more : (b : ℕ) → (Made m u b → ⊥) → u.label b ≡ m.label b
  pub current : (b : ℕ) → Made s m b → (m.label b).epoch ≡ s.high
  pub top_one : IsTopOf s m t first
  pub top_two : IsTopOf m u (with_top t first) top
  pub apart : (first ≡ top) → m.apart top → u.apart top
  pub grows_one : (limit : ℕ) → Grows s m (leaves_of s t kept limit) (leaves_of m (with_top t first) kept limit)
  pub grows_two : (limit : ℕ) → Grows m u (leaves_of m (with_top t first) kept limit) (leaves_of u new kept limit)
  pub stays : m.tells → (b : ℕ) → HasBlock m (with_top t first) b → (m.label b).epoch ≡ m.high → HasBlock u new b

module _ {s m u : State} {t new : Tree} {kept : List Kept} {first top : ℕ} (x : Twice s m u t new kept first top) where
  made_on : (b : ℕ) → Made s m b → Made s u b
  made_on b made = (made.0, ap (λ (l : Label). l.state) (x.more b (λ n. n.0 made.1)) ∙ made.1)

  made_later : (b : ℕ) → Made m u b → Made s u b
  made_later b made = (λ live. made.0 (ap (λ (l : Label). l.state) (x.labels b (λ n. n.0 live)) ∙ live), made.1)

  made_either : (b : ℕ) → Made s u b → Made s m b ⊎ Made m u b
  made_either b made = ⊎_elim
      (λ later. inr later)
      (λ not. inl (made.0, ap (λ (l : Label). l.state) (sym (x.more b not)) ∙ made.1))
      (cases_made m u b)

  mid : s.tells → m.tells
  mid told = x.all.still_tells.1 told

  pub top_end : IsTopOf s u t top
  top_end = record {
    from = ⊎_elim
        (λ made. inl (made_later top made))
        (λ e.
        let same : first ≡ top = local_eq e in
        ⊎_elim (λ made. inl (made_on top (subst (λ y. Made s m y) same made))) (λ was. inr (was ∙ ap (λ y. Local y) same)) x.top_one.from)
        x.top_two.from;
    apart = λ made. ⊎_elim
        (λ later. x.top_two.apart later)
        (λ e.
        let same : first ≡ top = local_eq e in
        x.apart same (subst (λ y. m.apart y) same (x.top_one.apart (subst (λ y. Made s m y) (sym same) (made.0, subst (λ y. (m.label y).state ≡ Live) same x.top_one.live)))))
        x.top_two.from;
    comes = λ told from h. x.top_two.comes (mid told) from (x.top_one.comes told from h);
    only = λ told y z h. ⊎_elim
        (λ own. inl own)
        (λ old. ⊎_elim
        (λ e. absurd (old.1 (ap (λ w. Local w) (sym e))))
        (λ was. inr was)
        (x.top_one.only told y z old.0))
        (x.top_two.only (mid told) y z h);
    live = x.top_two.live;
    current = x.top_two.current;
  }

  pub grows_end : (limit : ℕ) → Grows s u (leaves_of s t kept limit) (leaves_of u new kept limit)
  grows_end limit = record {
    owns = λ told b. (
      λ has. ⊎_elim
          (λ old. ⊎_elim (λ was. inl was) (λ made. inr (made_on b made)) (((x.grows_one limit).owns told b).0 old))
          (λ made. inr (made_later b made))
          (((x.grows_two limit).owns (mid told) b).0 has),
      λ made. ⊎_elim
          (λ old. x.stays (mid told) b (((x.grows_one limit).owns told b).1 old) (x.current b old ∙ sym x.all.same_high))
          (λ later. ((x.grows_two limit).owns (mid told) b).1 later)
          (made_either b made),
    );
    still = λ o n was. (x.grows_two limit).still o n ((x.grows_one limit).still o n was);
  }
