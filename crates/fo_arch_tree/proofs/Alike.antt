-- What slots that are alike lead to.
use Rattle.std.proofs.Common.{◌≡◌, ◌∙◌, ◌⊎◌, inl, inr, ℕ, Bool, true, false, cond, bytes_eq, List, [], length, refl, sym, ap}
use Rattle.std.specs.Prelude.{Some}
use Rattle.std.proofs.lemmas.Slice.Eq.{bytes_eq-Decides}
use Rattle.sha1.specs.Sha1.{sha1}
use Rattle.fo_image.specs.declared.types.Score.{Score}
use Rattle.fo_image.specs.declared.types.Kind.{Kind}
use Rattle.fo_image.specs.declared.types.Pointer.{Pointer}
use Rattle.fo_image.specs.declared.types.Pointer.TheVariants.{Nil, Local, Score as ToScore}
use Rattle.fo_image.specs.Format.{kind_code}
use Rattle.fo_crash.specs.declared.slot.Slot.{Slot}
use Rattle.fo_crash.specs.Images.{target}
use Rattle.fo_vacput.specs.declared.types.TheConstants.{EMPTY}
use Rattle.fo_vacput.specs.Cut.{tail_of, grown}
use Rattle.fo_vac_open.specs.Held.{held, first_held, pointer_to}
use Rattle.fo_vac_open.proofs.Held.{held_is}
use Rattle.fo_arch_form.specs.Stored.{found, score_under}
use Rattle.fo_arch_walk.specs.Spots.{arena_code}
use Rattle.fo_arch_tree.proofs.Empty.{empty_hash}
use Rattle.fo_arch_tree.proofs.Sides.{Sides, Holds, Alike, HeldAt, Finds}

-- nothing is held under the score of the empty block
empty_held : (s : Sides) (score : List ℕ) (kind : ℕ) → score ≡ EMPTY.0 → held s.lines s.stored score kind ≡ []
empty_held s score kind is = ap (λ b. cond b [] (first_held s.lines s.stored score kind)) ((bytes_eq-Decides score (sha1 [])).1 (is ∙ sym empty_hash))

module _ (s : Sides) (h : Holds s) (kind : Kind) (here there : Slot) where
  held_at : (a : Alike s kind here there) (at : ℕ) → target here ≡ Local at → found s.done at (arena_code kind) ≡ Some a.score → HeldAt s kind here there at
  held_at a at leads known =
      let st = h.forms.each at kind a.score a.holds known in
      let stored_is : held s.lines s.stored a.score.0 (arena_code kind) ≡ st.bytes = held_is s.lines s.stored a.score.0 (arena_code kind) st.bytes h.apart st.held in record {
        leads = leads;
        form = st.is.form;
        is = st.is.is;
        bytes = st.bytes;
        again =
            ap (λ n. grown (tail_of n) (length st.is.form) st.bytes) (sym a.code_is)
            ∙ ap (grown (tail_of (arena_code kind)) (length st.is.form)) st.is.stored.bytes_are
            ∙ st.is.stored.cut.again;
        found = by st.bytes stored_is (bytes_eq a.score.0 EMPTY.0) refl;
      }
    where
      by : (bytes : List ℕ) → held s.lines s.stored a.score.0 (arena_code kind) ≡ bytes → (b : Bool) → bytes_eq a.score.0 EMPTY.0 ≡ b
          → ((target there ≡ Nil) × (bytes ≡ [])) ⊎ ((score : Score) × (target there ≡ ToScore score) × (held s.lines s.stored score.0 (kind_code kind) ≡ bytes))
      by bytes is true e = inl (a.leads ∙ ap (λ b. cond b Nil (ToScore a.score)) e, sym is ∙ empty_held s a.score.0 (arena_code kind) ((bytes_eq-Decides a.score.0 EMPTY.0).0 e))
      by bytes is false e = inr (a.score, a.leads ∙ ap (λ b. cond b Nil (ToScore a.score)) e, ap (held s.lines s.stored a.score.0) (sym a.code_is) ∙ is)

  pub finds : (a : Alike s kind here there) → ((score : Score) → target here ≡ ToScore score → ⊥) → Finds s kind here there
  finds a none = by (target here) refl
    where
      known : (p : Pointer) → target here ≡ p → score_under s.done (arena_code kind) p ≡ Some a.score
      known p e = ap (λ (q : Pointer). score_under s.done (arena_code kind) q) (sym e) ∙ a.known

      empty : (score : Score) → Some EMPTY ≡ Some score → EMPTY ≡ score
      empty score e = cc

      by : (p : Pointer) → target here ≡ p → Finds s kind here there
      by Nil e = inl (e, a.leads ∙ ap (λ (x : Score). pointer_to x.0) (sym (empty a.score (known Nil e))))
      by (ToScore score) e = absurd (none score e)
      by (Local at) e = inr (at, held_at a at e (known (Local at) e))
