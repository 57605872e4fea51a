-- The leaves of a source of records, with a step that was followed.
use Rattle.std.proofs.Common.{◌≡◌, ◌≢◌, ℕ, zero, suc, List, [], ◌∷◌, ◌++◌, length, append-nil, Bool, refl, sym, ap, ◌∙◌, subst}
use Rattle.fo_disk.specs.Disk.{Block}
use Rattle.fo_image.specs.declared.types.Kind.{Kind}
use Rattle.fo_image.specs.declared.types.Kind.TheVariants.{Data}
use Rattle.fo_image.specs.declared.types.Super.{Super}
use Rattle.fo_image.specs.declared.types.Pointer.TheVariants.{Nil, Local, Score as Held}
use Rattle.fo_crash.specs.Images.{Image, Arena, Link, target, goes, leaf_path}
use Rattle.fo_sound.specs.Image.{block_of, IsDataBlock, HasLabel}
use Rattle.fo_good.specs.Sound.{Kept}
use Rattle.fo_check_names.specs.declared.names.Named.{Named}
use Rattle.fo_check_labels.specs.declared.labels.Known.{Known}
use Rattle.fo_check_tree.specs.declared.walk.Step.{Step}
use Rattle.fo_check_tree.specs.declared.walk.Walk.{Walk}
use Rattle.fo_check_tree.specs.Follows.{Reaches, Follows}
use Rattle.fo_check_tree.specs.Follows.Reaches.{again, enters}
use Rattle.fo_check_tree.specs.Follows.Follows.{nowhere, held, local}
use Rattle.fo_check_tree.specs.Listing.{Adds, IsInSource, IsListing}
use Rattle.fo_check_tree.specs.Pairing.{MissesBy}
use Rattle.fo_check_tree.specs.Slots.{HasSlots, steps_of}
use Rattle.fo_check_tree.specs.Walking.{Walking}
use Rattle.fo_check_tree.proofs.Alone.{twice_behind}
use Rattle.fo_check_tree.proofs.Leaves.{along, off_way, shorter, one_source, one_leaf, one_inner}
use Rattle.fo_check_tree.proofs.Stepping.{again_breaks, taken_of, slots_on}

module _ (arena : Arena) (device : List Block) (image : Image) (s : Super) (k : Kept) (meta : Link) where
  pub listing_at : (known known' : List Known) (steps steps' : List Step) (named named' : List Named) → known' ≡ known → steps' ≡ steps → named' ≡ named → IsListing arena image k meta known steps named → IsListing arena image k meta known' steps' named'
  listing_at known known' steps steps' named named' a b c l =
      subst (λ (x : List Known). IsListing arena image k meta x steps' named') (sym a) (subst (λ (x : List Step). IsListing arena image k meta known x named') (sym b) (subst (λ (x : List Named). IsListing arena image k meta known steps x) (sym c) l))

  module _ (rest : List Step) (step : Step) (old new : Walk) (w : Walking arena device image s k (step ∷ rest) old) (l : IsListing arena image k meta old.labels.known.items (old.steps.items ++ step ∷ []) old.named.items) where
    after_none : ((a : ℕ) → step.pointer ≢ Local a) → IsListing arena image k meta old.labels.known.items old.steps.items old.named.items
    after_none isnt = shorter arena image w.holds.empty k meta old.labels.known.items old.steps.items step old.named.items l
        (λ n at alone h v. off_way arena image w.holds.empty k meta (leaf_path meta.slot n) step at isnt h.leads v)

    module _ (depth : ℕ) (named : Bool) where
      after_block : (at : ℕ) → step.pointer ≡ Local at → Reaches device image depth named step at old new → IsListing arena image k meta new.labels.known.items new.steps.items new.named.items
      after_block at is (again m allowed marks same same' noted kept) =
          let o : IsInSource arena image meta step = one_source arena image w.holds.empty k meta old.labels.known.items old.steps.items step old.named.items l in
          let names : new.named.items ≡ old.named.items = subst (λ (d : Kind). MissesBy step d old.named.items new.named.items) o.kind kept in
          listing_at old.labels.known.items new.labels.known.items old.steps.items new.steps.items old.named.items new.named.items marks.same same names
          (shorter arena image w.holds.empty k meta old.labels.known.items old.steps.items step old.named.items l
          (λ n b alone h v. twice_behind arena image w.holds.empty k at (again_breaks arena device image s k rest step old new w at m is marks.none allowed.known) (goes arena image meta v.source.path) (sym v.source.pointer ∙ is) v.more b
          (along arena image w.holds.empty k meta v.source.path v.more b (ap (λ (p : List ℕ). target ((goes arena image meta p).slot)) (sym v.is) ∙ h.leads)) alone))
      after_block at is (enters m allowed marks steps folders notes read adds leafs seeks bytes deeps clean asks eights heads) = by o.level o.kind
        where
          o : IsInSource arena image meta step
          o = one_source arena image w.holds.empty k meta old.labels.known.items old.steps.items step old.named.items l

          known : List Known
          known = old.labels.known.items

          t : IsDataBlock (length device) at × HasLabel device at m
          t = taken_of device known at m w.goes.table allowed.known

          slots : HasSlots step.kind (image at) (block_of device at)
          slots = subst (λ (d : Kind). HasSlots d (image at) (block_of device at)) allowed.may.kind (slots_on arena device image s k rest step old new w at m is t)

          by : (level : ℕ) → step.kind ≡ Data level → IsListing arena image k meta new.labels.known.items new.steps.items new.named.items
          by zero kind =
              let added : new.steps.items ≡ old.steps.items ++ [] = steps slots ∙ ap (λ (d : Kind). old.steps.items ++ steps_of step (record { block = at; label = m }) (image at) d) kind in
              listing_at new.labels.known.items new.labels.known.items old.steps.items new.steps.items new.named.items new.named.items refl (added ∙ append-nil old.steps.items) refl
              (one_leaf arena image w.holds.empty k meta known old.steps.items step old.named.items l new.labels.known.items at m w.goes.table.up marks allowed.known is kind
              (block_of device at) (w.holds.bytes at) new.named.items (subst (λ (d : Kind). Adds step at (block_of device at) d old.named.items new.named.items) kind adds))
          by (suc level) kind =
              let inner : HasSlots (Data (suc level)) (image at) (block_of device at) = subst (λ (d : Kind). HasSlots d (image at) (block_of device at)) kind slots in
              let same : new.named.items ≡ old.named.items = subst (λ (d : Kind). Adds step at (block_of device at) d old.named.items new.named.items) kind adds in
              let added = steps slots ∙ ap (λ (d : Kind). old.steps.items ++ steps_of step (record { block = at; label = m }) (image at) d) kind in
              listing_at new.labels.known.items new.labels.known.items _ new.steps.items old.named.items new.named.items refl added same
              (one_inner arena image w.holds.empty k meta known old.steps.items step old.named.items l new.labels.known.items at m w.goes.table.up marks allowed.known is level kind
              (record { block = at; label = m }) inner.1)

      pub lists : Follows device image depth named step old new → IsListing arena image k meta new.labels.known.items new.steps.items new.named.items
      lists (nowhere nil same) = subst (λ (v : Walk). IsListing arena image k meta v.labels.known.items v.steps.items v.named.items) (sym same) (after_none (λ a e. let n : Nil ≡ Local a = sym nil ∙ e in cc))
      lists (held x is same) = subst (λ (v : Walk). IsListing arena image k meta v.labels.known.items v.steps.items v.named.items) (sym same) (after_none (λ a e. let n : Held x ≡ Local a = sym is ∙ e in cc))
      lists (local at is r) = after_block at is r
