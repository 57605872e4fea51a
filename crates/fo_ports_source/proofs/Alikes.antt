-- The entry of a plain source leads nowhere, so it leads to no more than memory's slot, whatever is done to the source.
use Rattle.std.proofs.Common.{◌≡◌, ◌⊎◌, ◌+◌, ◌-◌, ◌%◌, ℕ, zero, suc, Bool, true, false, cond, nat_eq, List, Option, inl, ⊎_elim, refl, sym, ◌∙◌, ap, subst, arith}
use Rattle.fo_image.specs.declared.types.Entry.{Entry}
use Rattle.fo_image.specs.declared.types.Kind.{Kind}
use Rattle.fo_image.specs.declared.types.Kind.TheVariants.{Data, Dir, Root}
use Rattle.fo_image.specs.declared.types.Pointer.TheVariants.{Nil, Local}
use Rattle.fo_crash.specs.declared.place.Place.{Place}
use Rattle.fo_crash.specs.declared.slot.Slot.TheVariants.{Entry as Head}
use Rattle.fo_crash.specs.Images.{Reaches, to_block}
use Rattle.fo_crash.specs.Places.{place, place_below}
use Rattle.fo_crash.proofs.Reach.{lost}
use Rattle.fo_ports.specs.Alike.{Stem, stem_of, IsFormed, HoldsEntry, KeepsAlike}
use Rattle.fo_ports.specs.State.{State}
use Rattle.fo_ports.specs.Sources.{Made}
use Rattle.fo_ports_source.specs.Source.{form_of}
use Rattle.fo_ports_source.specs.Steps.{Steps}
use Rattle.fo_ports_source.proofs.Shows.{Laws}

-- the place of a source's top
abbrev top_place : Stem → Place
top_place a = place (cond a.dir (Dir a.depth) (Data a.depth)) a.tag 0 (a.rank + a.depth)

-- where slot i of a block of entries of this rank leads to a top with so many levels
abbrev top_at : (dir : Bool) (depth tag i high : ℕ) → Place
top_at dir depth tag i high = place (cond dir (Dir depth) (Data depth)) tag 0 (cond dir (high - 32 + depth) (cond (nat_eq (i % 2) 0) (high - 8 + depth) (high - 24 + depth)))

with_levels : (dir : Bool) (depth more tag i high rank : ℕ) → (top_at dir depth tag i high).rank ≡ rank + depth → top_at dir more tag i high ≡ place (cond dir (Dir more) (Data more)) tag 0 (rank + more)
with_levels true depth more tag i high rank e = let x : high - 32 + depth ≡ rank + depth = e in let y : high - 32 + more ≡ rank + more = omega (arith, x) in ap (λ n. place (Dir more) tag 0 n) y
with_levels false depth more tag i high rank e = ap (λ n. place (Data more) tag 0 n) (by (nat_eq (i % 2) 0) e)
  where
    by : (even : Bool) → cond even (high - 8 + depth) (high - 24 + depth) ≡ rank + depth → cond even (high - 8 + more) (high - 24 + more) ≡ rank + more
    by true h = let x : high - 8 + depth ≡ rank + depth = h in omega (arith, x)
    by false h = let x : high - 24 + depth ≡ rank + depth = h in omega (arith, x)

-- An entry with other levels leads to the place of a top with these.
levels_below : (p : Place) (i : ℕ) (e : Entry) (a : Stem) (depth : ℕ) → (p.kind ≡ Dir 0) ⊎ (p.kind ≡ Root) → IsFormed (record a { depth = depth }) e → place_below p i (Head (record e { depth = a.depth })) ≡ top_place a → place_below p i (Head e) ≡ top_place (record a { depth = depth })
levels_below p i e a depth names formed below = by p.kind p.tag p.index p.rank names below
  where
    ends : (high : ℕ) → top_at e.dir a.depth e.tag i high ≡ top_place a → top_at e.dir e.depth e.tag i high ≡ top_place (record a { depth = depth })
    ends high h =
        ap (λ d. top_at d e.depth e.tag i high) formed.0 ∙ ap (λ n. top_at a.dir n e.tag i high) formed.1 ∙ ap (λ n. top_at a.dir depth n i high) formed.2
        ∙ with_levels a.dir a.depth depth a.tag i high a.rank (ap (λ d. (top_at d a.depth a.tag i high).rank) (sym formed.0) ∙ ap (λ (q : Place). q.rank) h)

    by : (kind : Kind) (t index high : ℕ) → (kind ≡ Dir 0) ⊎ (kind ≡ Root) → place_below (place kind t index high) i (Head (record e { depth = a.depth })) ≡ top_place a → place_below (place kind t index high) i (Head e) ≡ top_place (record a { depth = depth })
    by (Data level) t index high h below = absurd (⊎_elim (λ x. cc) (λ x. cc) h)
    by (Dir zero) t index high h below = ends high below
    by (Dir (suc level)) t index high h below = absurd (⊎_elim (λ x. cc) (λ x. cc) h)
    by Root t index high h below = ends (high - 24) below

module _ {tag : ℕ} {mine inner : ℕ → Type 0} {old new : State} (laws : Laws old) (steps : Steps tag mine inner old new) where
  -- What hangs from block 1 was not given out, so an entry stands where it stood.
  holds_on : {a : Stem} {at i : ℕ} (depth : ℕ) → old.tells → HoldsEntry old a at i → HoldsEntry new (record a { depth = depth }) at i
  holds_on {a} {at} {i} depth told holds = record {
    there = holds.there;
    stands = steps.places told at holds.there not_made uncovered (1, inl ((steps.all.same_tops 1).1 laws.active), reached) holds.stands;
    names = holds.names;
    below = λ e formed. levels_below holds.there i e a depth holds.names formed (holds.below (record e { depth = a.depth }) (formed.0, refl, formed.2));
    above = holds.above;
    in_tree = reached;
    uncovered = uncovered;
  }
    where
      not_made : Made old new at → ⊥
      not_made made = made.0 (laws.live at told ((steps.made at made).was.0) holds.in_tree).0

      uncovered : new.covered at → ⊥
      uncovered h = holds.uncovered ((steps.covered at).0 h)

      reached : Reaches new.now (to_block 1) at
      reached = steps.reaches told at holds.in_tree

  -- no path leads on from an entry with no top
  levels_alike : (a : Stem) (depth : ℕ) → a.top ≡ Nil → KeepsAlike old new a (record a { depth = depth })
  levels_alike a depth none = record {
    each = λ told at i holds alike. (
      holds_on depth told holds,
      λ e formed to. record { each = λ image p q path b is same found finds of. absurd (lost image path (Head e) (λ c h. let nowhere : Nil ≡ Local c = sym (to ∙ none) ∙ h in cc) b finds.leads) },
    );
  }

  -- a plain source of another size and other leaves
  pub steps_alike : {kind new_kind : Kind} {is_tag new_tag rank new_rank : ℕ} (size new_size : ℕ) (leaves new_leaves : List (Option ℕ)) → new_kind ≡ kind → new_tag ≡ is_tag → new_rank ≡ rank
      → KeepsAlike old new (stem_of (form_of kind is_tag rank leaves) size Nil) (stem_of (form_of new_kind new_tag new_rank new_leaves) new_size Nil)
  steps_alike {kind} {new_kind} {is_tag} {new_tag} {rank} {new_rank} size new_size leaves new_leaves same_kind same_tag same_rank =
      let was = stem_of (form_of kind is_tag rank leaves) size Nil in
      subst (λ k. KeepsAlike old new was (stem_of (form_of k new_tag new_rank new_leaves) new_size Nil)) (sym same_kind)
      (subst (λ t. KeepsAlike old new was (stem_of (form_of kind t new_rank new_leaves) new_size Nil)) (sym same_tag)
      (subst (λ r. KeepsAlike old new was (stem_of (form_of kind is_tag r new_leaves) new_size Nil)) (sym same_rank)
      (levels_alike was (stem_of (form_of kind is_tag rank new_leaves) new_size Nil).depth refl)))
