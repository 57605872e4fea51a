-- As a plain source changes, images show no more of leaves of records.
use Rattle.std.proofs.Common.{◌≡◌, ◌≢◌, ℕ, ◌%◌, ◌≤◌, List, Option, inl, ⊎_elim, sym, ◌∙◌, ap, subst}
use Rattle.fo_image.specs.declared.types.Kind.{Kind}
use Rattle.fo_image.specs.declared.types.State.TheVariants.{Live}
use Rattle.fo_crash.specs.declared.place.Place.{Place}
use Rattle.fo_crash.specs.Images.{Image, Reaches, target, to_block}
use Rattle.fo_crash.specs.Places.{super_place, place_below, IsPlaced, OnePlace}
use Rattle.fo_crash.specs.Spots.{Spot, spot_below}
use Rattle.fo_crash.proofs.Reach.{reaches_on, reaches_itself}
use Rattle.fo_ports.specs.Shown.{ShowsNoMore}
use Rattle.fo_ports.specs.State.{State}
use Rattle.fo_shown.proofs.Ways.{Follows, found_on}
use Rattle.fo_ports_source.specs.Source.{HasLeaf, Over}
use Rattle.fo_ports_source.specs.SourceLaws.{only_place}
use Rattle.fo_ports_source.specs.Steps.{Steps, Behind}

-- What is known of blocks at one moment.
pub record Laws (s : State) : Type 0 where
  pub told : (image : Image) → s.may_leave image → s.tells
  pub active : s.tops 1
  pub one : OnePlace s.stands
  pub super_stands : s.tells → s.stands 1 super_place
  pub placed : (image : Image) → s.may_leave image → IsPlaced s.stands image
  pub live : (at : ℕ) → s.tells → at ≢ 1 → Reaches s.now (to_block 1) at → ((s.label at).state ≡ Live) × ((s.label at).epoch ≤ s.high) × (s.covered at → ⊥)

-- Block 1 leads to a block in this image, and the block stands at the place of its spot.
record IsBelow (stands : ℕ → Place → Type 0) (image : Image) (a : ℕ) (p : Spot) : Type 0 where
  reached : Reaches image (to_block 1) a
  here : stands a p.place

module _ {old new : State} (laws : Laws old) where
  -- No path of an image of before leads to what was given out, so the new image leads on in the same way.
  follows : {touched : ℕ → Type 0} (image : Image) (i : Behind touched old new image) → Follows (IsBelow old.stands i.other) image i.other
  follows image i = record {
    each = λ a j c p below to.
        let slot : (image a).slot j ≡ (i.other a).slot j = i.same_slots a j (λ made. i.apart 1 a laws.active made below.reached) in
        let leads = ap target (sym slot) ∙ to in (
          leads,
          ap (λ s. spot_below p j s) slot,
          record {
            reached = reaches_on j below.reached leads;
            here = subst (λ s. old.stands c (place_below p.place j s)) (sym slot) ((laws.placed i.other i.was).each a j c p.place below.here leads);
          },
        );
  }

  -- The blocks of its own into which a source puts stand at no place of records.
  pub steps_show : {tag : ℕ} {mine inner : ℕ → Type 0} → ((b : ℕ) (p : Place) → old.tells → inner b → old.stands b p → p.rank % 32 ≢ 16) → Steps tag mine inner old new → ShowsNoMore old.may_leave new.may_leave
  steps_show elsewhere steps = record {
    each = λ p bytes of is.
        let i = steps.images is.image is.is in
        let told = laws.told i.other i.was in
        let there = found_on (follows is.image i) (record { reached = reaches_itself i.other 1; here = laws.super_stands told }) is.found in
        let kept = i.same is.block (λ touched. ⊎_elim (λ made. i.apart 1 is.block laws.active made there.1.reached) (λ put. elsewhere is.block p.place told put.0 there.1.here of.1) touched) in
        inl (record { image = i.other; is = i.was; block = is.block; found = there.0; same = sym kept.bytes ∙ is.same });
  }

-- The leaves of a source stand at its rank alone.
pub leaf_elsewhere : {s : State} {kind : Kind} {tag rank size : ℕ} {leaves : List (Option ℕ)} → Laws s → Over s kind tag rank size leaves → rank % 32 ≢ 16 → (b : ℕ) (p : Place) → s.tells → HasLeaf leaves b → s.stands b p → p.rank % 32 ≢ 16
leaf_elsewhere laws over plain b p told leaf stands = subst (λ r. r % 32 ≢ 16) (sym (only_place laws.one ((over.leaf leaf.number b leaf.is).told told) p stands).2) plain
