-- What memory finds after slots that waited were cleared.
use Rattle.std.proofs.Common.{◌≡◌, ◌⊎◌, inl, inr, ⊎_elim, ℕ, ◌<◌, List, [], ◌∷◌, ◌++◌, refl, sym, ◌∙◌, ap, subst}
use Rattle.fo_image.specs.declared.types.Kind.TheVariants.{Dir}
use Rattle.fo_image.specs.declared.types.Pointer.TheVariants.{Nil, Local}
use Rattle.fo_crash.specs.declared.slot.Slot.{Slot}
use Rattle.fo_crash.specs.declared.slot.Slot.TheVariants.{Entry as Head}
use Rattle.fo_crash.specs.Images.{Image, Reaches, target, to_block}
use Rattle.fo_crash.specs.Spots.{Spot, FoundAt, spot_below, slots_of}
use Rattle.fo_crash.proofs.Reach.{reaches_on, reaches_itself}
use Rattle.fo_ports.specs.State.{State, WasCleared}
use Rattle.fo_ports.specs.Shown.{active}
use Rattle.fo_shown.proofs.Showing.{cleared_nowhere}
use Rattle.fo_shown.proofs.Uses.{found_further}
use Rattle.fo_shown.proofs.Ways.{Follows, found_on}
use Rattle.fo_dir_pairs.specs.Pairs.{IsNamed}
use Rattle.fo_dir_pairs.specs.Calls.{ClearsWaiting}
use Rattle.fo_dir_pairs.proofs.Clears.{cleared_unused}
use Rattle.fo_dir_pairs.proofs.Finding.{HasWays, way_leads, way_spot}
use Rattle.fo_dir_pairs.proofs.Still.{Numbers, numbers, below_at}
use Rattle.fo_dir_pairs.proofs.Trails.{Holds, At, back_at, onto, via, one_holder, no_less, stands_at}

-- ---- paths turned round

at_reach : (image : Image) (t : ℕ) (path : List ℕ) (b : ℕ) (q : Spot) → At image t path b q → Reaches image (to_block t) b
unfolding At
at_reach image t [] b q at = subst (λ x. Reaches image (to_block t) x) (sym at.0) (reaches_itself image t)
at_reach image t (i ∷ path) b q (a, p, up, leads, there) = reaches_on i (at_reach image t path a p up) leads

at_found : (image : Image) (path : List ℕ) (b : ℕ) (q : Spot) → At image 1 path b q → FoundAt active image b q
unfolding At
at_found image [] b q at = record { top = 1; is_top = refl; path = []; leads = ap (λ x. Local x) (sym at.0); spot = sym at.1 }
at_found image (i ∷ path) b q (a, p, up, leads, there) = (found_further i [] (at_found image path a p up) (record { leads = leads; spot = sym there })).found

found_at : {image : Image} {b : ℕ} {q : Spot} → (f : FoundAt active image b q) → At image 1 (onto f.path []) b q
found_at {image} {b} f = subst (λ x. At image 1 (onto f.path []) b x) (way_spot f) (back_at image 1 f.path b (way_leads f))

-- A path of before comes to a slot that was cleared.
pub record Stops (old new : State) (q : Spot) : Type 0 where
  pub way : List ℕ
  pub block : ℕ
  pub holder : Spot
  pub slot : ℕ
  pub below : ℕ
  pub at : At old.now 1 way block holder
  pub clears : WasCleared old new block slot
  pub leads : target ((old.now block).slot slot) ≡ Local below
  pub front : List ℕ
  pub trail_is : q.trail ≡ front ++ (spot_below holder slot ((old.now block).slot slot)).trail

module _ (old new : State) (flush : ClearsWaiting old new) where
  same_slot : (a j c : ℕ) → Reaches new.now (to_block 1) a → target ((new.now a).slot j) ≡ Local c → (new.now a).slot j ≡ (old.now a).slot j
  same_slot a j c here to = ⊎_elim
      (λ h. h.0)
      (λ w. let no : Nil ≡ Local c = sym (cleared_nowhere ((old.now a).slot j)) ∙ ap target (sym w.2) ∙ to in absurd (cc))
      (flush.known a here j)

  follows : Follows (λ a q. Reaches new.now (to_block 1) a) new.now old.now
  follows = record { each = λ a j c q here to. let same = same_slot a j c here to in (ap target (sym same) ∙ to, ap (λ x. spot_below q j x) same, reaches_on j here to) }

  -- what memory finds now it found before
  pub found_before : {b : ℕ} {p : Spot} → FoundAt active new.now b p → FoundAt active old.now b p × Reaches new.now (to_block 1) b
  found_before f = found_on follows (reaches_itself new.now 1) f

  pub named_before : (trail : List ℕ) (tag : ℕ) → IsNamed new.now trail tag → IsNamed old.now trail tag
  named_before trail tag n =
      let h = found_before n.found in
      record {
        block = n.block;
        at = n.at;
        slot = n.slot;
        entry = n.entry;
        found = h.0;
        holds = n.holds;
        within = n.within;
        is = ⊎_elim (λ k. sym k.0 ∙ n.is) (λ w. absurd (cleared_unused ((old.now n.block).slot n.slot) n.entry (sym w.2 ∙ n.is) n.used.0)) (flush.known n.block h.1 n.slot);
        used = n.used;
        trail_is = n.trail_is;
        tag_is = n.tag_is;
      }

  at_before : (path : List ℕ) (b : ℕ) (q : Spot) → At new.now 1 path b q → At old.now 1 path b q
  unfolding At
  at_before [] b q at = at
  at_before (i ∷ path) b q (a, p, up, leads, there) =
      let same = same_slot a i b (at_reach new.now 1 path a p up) leads in
      (a, p, at_before path a p up, ap target (sym same) ∙ leads, there ∙ ap (λ x. spot_below p i x) same)

  further : {p q : Spot} (i : ℕ) (s : Slot) → q ≡ spot_below p i s → Stops old new p → Stops old new q
  further {p} {q} i s there stop = ⊎_elim
      (λ e. record { way = stop.way; block = stop.block; holder = stop.holder; slot = stop.slot; below = stop.below; at = stop.at; clears = stop.clears; leads = stop.leads; front = stop.front; trail_is = ap (λ (x : Spot). x.trail) there ∙ e ∙ stop.trail_is })
      (λ h. record { way = stop.way; block = stop.block; holder = stop.holder; slot = stop.slot; below = stop.below; at = stop.at; clears = stop.clears; leads = stop.leads; front = h.0 ∷ stop.front; trail_is = ap (λ (x : Spot). x.trail) there ∙ h.1 ∙ ap (λ t. h.0 ∷ t) stop.trail_is })
      (below_at p.place.kind p.place.tag p.place.index p.place.rank p.trail i s)

  -- a path of before is one now, or comes to a slot that was cleared
  walks : (path : List ℕ) (b : ℕ) (q : Spot) → At old.now 1 path b q → At new.now 1 path b q ⊎ Stops old new q
  unfolding At
  walks [] b q at = inl at
  walks (i ∷ path) b q (a, p, up, leads, there) = by (walks path a p up)
    where
      by : At new.now 1 path a p ⊎ Stops old new p → ((c : ℕ) × (r : Spot) × At new.now 1 path c r × (target ((new.now c).slot i) ≡ Local b) × (q ≡ spot_below r i ((new.now c).slot i))) ⊎ Stops old new q
      by (inr stop) = inr (further i ((old.now a).slot i) there stop)
      by (inl on) = ⊎_elim
          (λ k. inl (a, p, on, ap target k.0 ∙ leads, there ∙ ap (λ x. spot_below p i x) (sym k.0)))
          (λ w. inr (record { way = path; block = a; holder = p; slot = i; below = b; at = up; clears = w; leads = leads; front = []; trail_is = ap (λ (x : Spot). x.trail) there }))
          (flush.known a (at_reach new.now 1 path a p on) i)

  module _ (ways : HasWays old) (ways_too : HasWays new) where
    -- a source that memory names hangs not from a slot that was cleared
    stops_not : (q : Spot) (tag : ℕ) → Stops old new q → IsNamed new.now q.trail tag → ⊥
    stops_not q tag stop named = by stop.front (sym number.trail_is ∙ named.trail_is ∙ stop.trail_is ∙ ap (λ t. stop.front ++ t) below.trail_is)
      where
        kind : stop.holder.place.kind ≡ Dir 0
        kind = flush.holds stop.block stop.slot stop.holder.place stop.clears.0 (stands_at {t = 1} (ways.placed old.now ways.present) (ways.few old.now ways.present) ways.super_at stop.way stop.block stop.holder stop.at)

        few : stop.slot < 204
        few = subst (λ k. stop.slot < slots_of k) kind ((ways.few old.now ways.present).each stop.block stop.slot stop.below stop.holder.place (stands_at {t = 1} (ways.placed old.now ways.present) (ways.few old.now ways.present) ways.super_at stop.way stop.block stop.holder stop.at) stop.leads)

        below : Numbers stop.holder stop.slot ((old.now stop.block).slot stop.slot)
        below = numbers stop.holder stop.slot ((old.now stop.block).slot stop.slot) (inl kind) few

        number : Numbers named.at named.slot (Head named.entry)
        number = numbers named.at named.slot (Head named.entry) named.holds named.within

        way : List ℕ
        way = onto named.found.path []

        same_as : (path : List ℕ) (a i : ℕ) (z : Spot) → At new.now 1 path a z → z.trail ≡ stop.holder.trail → Holds z i below.number → (a ≡ stop.block) × (i ≡ stop.slot)
        same_as path a i z at e holds = one_holder {t = 1} (ways.placed old.now ways.present) (ways.few old.now ways.present) ways.super_at path stop.way a stop.block i stop.slot below.number z stop.holder (at_before path a z at) stop.at e holds below.holds

        by : (front : List ℕ) → number.number ∷ named.at.trail ≡ front ++ below.number ∷ stop.holder.trail → ⊥
        by [] e =
            let one = same_as way named.block named.slot named.at (found_at named.found) (rest_is e) (subst (λ m. Holds named.at named.slot m) (first_is e) number.holds) in
            cleared_unused ((old.now stop.block).slot stop.slot) named.entry (sym stop.clears.2 ∙ ap (λ k. (new.now stop.block).slot k) (sym one.1) ∙ ap (λ b. (new.now b).slot named.slot) (sym one.0) ∙ named.is) named.used.0
          where
            first_is : {m n : ℕ} {xs ys : List ℕ} → m ∷ xs ≡ n ∷ ys → m ≡ n
            first_is f = cc

            rest_is : {m n : ℕ} {xs ys : List ℕ} → m ∷ xs ≡ n ∷ ys → xs ≡ ys
            rest_is f = cc
        by (m ∷ more) e =
            let v = via {t = 1} (ways_too.placed new.now ways_too.present) (ways_too.few new.now ways_too.present) ways_too.super_at way named.block named.at (found_at named.found) more below.number stop.holder.trail (rest_is e)
            (no_less {t = 1} (ways.placed old.now ways.present) (ways.few old.now ways.present) ways.super_at stop.way stop.block stop.holder stop.at) in
            let one = same_as v.way v.block v.slot v.holder v.at v.trail_is v.holds in
            let no : Nil ≡ Local v.below = sym (cleared_nowhere ((old.now stop.block).slot stop.slot)) ∙ ap target (sym stop.clears.2) ∙ ap (λ k. target ((new.now stop.block).slot k)) (sym one.1) ∙ ap (λ b. target ((new.now b).slot v.slot)) (sym one.0) ∙ v.leads in
            absurd (cc)
          where
            rest_is : {m n : ℕ} {xs ys : List ℕ} → m ∷ xs ≡ n ∷ ys → xs ≡ ys
            rest_is f = cc

    -- a block of a source that memory names is found as it was
    pub found_after : {b : ℕ} {q : Spot} {tag : ℕ} → FoundAt active old.now b q → IsNamed new.now q.trail tag → FoundAt active new.now b q × Reaches new.now (to_block 1) b
    found_after {b} {q} {tag} f named = ⊎_elim
        (λ at. (at_found new.now (onto f.path []) b q at, at_reach new.now 1 (onto f.path []) b q at))
        (λ stop. absurd (stops_not q tag stop named))
        (walks (onto f.path []) b q (found_at f))
