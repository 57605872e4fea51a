-- A slot that waited waits no more, and room is kept for the next turn of its block.
use Rattle.std.proofs.Common.{◌≡◌, ℕ, ◌+◌, ◌<◌, ◌≤◌, Bool, true, false, cond, List, [], ◌∷◌, length, set, count_by, Option, Some, None, refl, sym, ap, ◌∙◌, subst, arith, inl, inr, ⊎_elim}
use Rattle.std.specs.Option.{MatchOption}
use Rattle.std.proofs.lemmas.List.{get_or-set_same}
use Rattle.fo_buffers.specs.Held.{Held, held_at}
use Rattle.fo_order.specs.Keeps.{Turns}
use Rattle.fo_order.specs.Turns.{flag_at}
use Rattle.fo_labels.specs.Region.{Region}
use Rattle.fo_facts.specs.declared.fact.Fact.{Fact}
use Rattle.fo_facts.specs.Known.{fact_at, no_fact, owing_as}
use Rattle.fo_facts.specs.Counts.{owes}
use Rattle.fo_waits.specs.declared.listed.Clearing.{Clearing}
use Rattle.fo_waits.specs.Listed.{Clears, ClearsAfter}
use Rattle.fo_mind.specs.Changes.{takes_turn}
use Rattle.fo_mind.specs.Due.{IsDueSlot, is_over, next_of}
use Rattle.fo_mind.specs.Frames.{SameMarks}
use Rattle.fo_mind.specs.Sound.{Making, Owing, Placed, Roomy}
use Rattle.fo_mind.specs.Turning.{Turning, TurnsAt}
use Rattle.fo_mind.proofs.Getting.{marks_owed, same_marks}
use Rattle.fo_mind.proofs.Keeping.{owed_more, owing_owed, placed_set}
use Rattle.fo_mind.proofs.Making.{making_noted}

-- ---- which is next

abbrev IsAnswer : Turns → List Clearing → Option (ℕ × ℕ) → Type 0
IsAnswer t cs o = MatchOption o ((b j leaf : ℕ) → ClearsAfter cs b j leaf → is_over t leaf ≡ false) (λ s. IsDueSlot t cs s.0 s.1 × Clears cs s.0 s.1)

next_later : (t : Turns) (c : Clearing) (cs : List Clearing) (o : Option (ℕ × ℕ)) → is_over t c.after ≡ false → IsAnswer t cs o → IsAnswer t (c ∷ cs) o
next_later t c cs None e m = λ b j leaf h. ⊎_elim (λ here. subst (λ n. is_over t n ≡ false) here.2 e) (λ rest. m b j leaf rest) h
next_later t c cs (Some s) e m = ((m.0.0, inr m.0.1, m.0.2), inr m.1)

next_now : (t : Turns) (c : Clearing) (cs : List Clearing) (d : Bool) → is_over t c.after ≡ d → IsAnswer t cs (next_of t cs) → IsAnswer t (c ∷ cs) (cond d (Some (c.at, c.slot)) (next_of t cs))
next_now t c cs true e m = ((c.after, inl (refl, refl, refl), e), inl (refl, refl))
next_now t c cs false e m = next_later t c cs (next_of t cs) e m

pub next_is : (t : Turns) (cs : List Clearing) → MatchOption (next_of t cs) ((b j leaf : ℕ) → ClearsAfter cs b j leaf → is_over t leaf ≡ false) (λ s. IsDueSlot t cs s.0 s.1 × Clears cs s.0 s.1)
next_is t [] = λ b j leaf h. absurd h
next_is t (c ∷ cs) = next_now t c cs (is_over t c.after) refl (next_is t cs)

-- ---- what is known of the block

-- room is kept for its next turn, or it has one, or it is not in the tree
abbrev pub due_facts : List Fact → Turns → ℕ → List Fact
due_facts facts t at = cond (takes_turn facts t at) (set facts at (owing_as (fact_at facts at).rank (fact_at facts at))) facts

module _ (facts new : List Fact) (t : Turns) (at : ℕ) (lt : at < length facts) (is : new ≡ due_facts facts t at) where
  due_case : (P : List Fact → Type 0) → P facts → P (set facts at (owing_as (fact_at facts at).rank (fact_at facts at))) → P new
  due_case P calm due = subst P (sym is) (by (takes_turn facts t at))
    where
      by : (b : Bool) → P (cond b (set facts at (owing_as (fact_at facts at).rank (fact_at facts at))) facts)
      by true = due
      by false = calm

  pub marks_due : SameMarks facts new
  marks_due = due_case (λ fs. SameMarks facts fs) (same_marks facts facts refl) (marks_owed facts (set facts at (owing_as (fact_at facts at).rank (fact_at facts at))) at (fact_at facts at).rank lt refl)

  pub placed_due : {region : Region} {first count : ℕ} → Placed region t facts first count → Placed region t new first count
  placed_due {region} {first} {count} placed = due_case (λ fs. Placed region t fs first count) placed (placed_set facts at (owing_as (fact_at facts at).rank (fact_at facts at)) placed)

  pub owing_due : {held : Held} → Owing held t facts → Owing held t new
  owing_due {held} owing = due_case (λ fs. Owing held t fs) owing (owing_owed facts (set facts at (owing_as (fact_at facts at).rank (fact_at facts at))) at (fact_at facts at).rank lt refl {h = held} {g = held} (λ q ne. refl) owing)

  owed_one : count_by owes new ≤ count_by owes facts + 1
  owed_one = due_case (λ fs. count_by owes fs ≤ count_by owes facts + 1) (omega arith) (owed_more facts at (owing_as (fact_at facts at).rank (fact_at facts at)) lt)

  -- a unit that was kept is kept for it
  pub roomy_due : {held : Held} {region : Region} {low spare pins more less : ℕ} → less < more → Roomy held t region facts low spare pins more → Roomy held t region new low spare pins less
  roomy_due le roomy = let o = owed_one in let some = roomy.turn_room in record { buffer_room = roomy.buffer_room; turn_room = omega (arith, some, le, o); usable = roomy.usable }

  pub making_due : {spare more links removals : ℕ} → Making facts spare more links removals → Making new spare more links removals
  making_due {spare} {more} {links} {removals} making = due_case (λ fs. Making fs spare more links removals) making
      (making_noted facts (set facts at (owing_as (fact_at facts at).rank (fact_at facts at))) at (owing_as (fact_at facts at).rank (fact_at facts at)) lt refl refl (λ _ _. refl) making)

  pub turning_due : {first : ℕ} {held : Held} → Turning first held t facts → Turning first held t new
  turning_due {first} {held} turning = let m = marks_due in record { each = λ b. subst (λ (l : Bool). TurnsAt first b (held_at held b) (flag_at t b) l) (sym (m.linked b)) (turning.each b) }

-- room is kept for a block that is due
pub owed_due : (facts new : List Fact) (t : Turns) (at : ℕ) → at < length facts → new ≡ due_facts facts t at → takes_turn new t at ≡ true → (fact_at new at).owes ≡ true
owed_due facts new t at lt is takes = by (takes_turn facts t at) refl
  where
    never : {A : Type 0} → false ≡ true → A
    never e = absurd (cc)

    by : (b : Bool) → takes_turn facts t at ≡ b → (fact_at new at).owes ≡ true
    by true e =
        let all : new ≡ set facts at (owing_as (fact_at facts at).rank (fact_at facts at)) = is ∙ ap (λ b. cond b (set facts at (owing_as (fact_at facts at).rank (fact_at facts at))) facts) e in
        ap (λ (fs : List Fact). (fact_at fs at).owes) all ∙ ap (λ (f : Fact). f.owes) (get_or-set_same facts at (owing_as (fact_at facts at).rank (fact_at facts at)) no_fact lt)
    by false e =
        let all : new ≡ facts = is ∙ ap (λ b. cond b (set facts at (owing_as (fact_at facts at).rank (fact_at facts at))) facts) e in
        never (sym e ∙ ap (λ (fs : List Fact). takes_turn fs t at) (sym all) ∙ takes)
