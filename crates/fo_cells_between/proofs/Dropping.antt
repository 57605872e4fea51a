-- The snapshot is given up: the whole holds again.
use Rattle.std.proofs.Common.{◌≡◌, ◌≢◌, inl, inr, ◌⊎◌, ⊎_elim, ℕ, ◌≤◌, ◌*◌, Bool, false, List, [], ◌∷◌, map, refl, sym, ◌∙◌, ap, subst, arith}
use Rattle.std.proofs.lemmas.Bool.{cases_eq}
use Rattle.std.specs.List.{Contains}
use Rattle.fo_disk.specs.Disk.{Content as Holds}
use Rattle.fo_image.specs.declared.types.Label.{Label}
use Rattle.fo_image.specs.declared.types.Pointer.TheVariants.{Local}
use Rattle.fo_image.specs.Usable.{is_usable}
use Rattle.fo_crash.specs.declared.slot.Slot.{Slot}
use Rattle.fo_crash.specs.declared.place.Place.{Place}
use Rattle.fo_crash.specs.Images.{Content, Reaches, target, to_block}
use Rattle.fo_crash.specs.Places.{root_place}
use Rattle.fo_crash.specs.Steps.{AddsNothing}
use Rattle.fo_crash.proofs.Reach.{reaches_on}
use Rattle.fo_cells.specs.Known.{Known, Top, MaySlot, Remains, Stands}
use Rattle.fo_cells.specs.Safe.{super_top}
use Rattle.fo_cells.specs.Device.{Mind, known}
use Rattle.fo_cells.proofs.Standing.{seen_is, stands_top, stands_below, among_cases, first_among}
use Rattle.fo_cells_out.specs.Removals.{IsCovered}
use Rattle.fo_cells_out.specs.Parents.{view}
use Rattle.fo_cells_out.proofs.Steps.{view_stands}
use Rattle.fo_cells_out.proofs.Asked.{walk_keeps}
use Rattle.fo_cells_epochs.specs.Epochs.{Root, HasEpochs, root_top, tree_of}
use Rattle.fo_cells_epochs.proofs.Epochs.{with_doubt}
use Rattle.fo_cells_epochs.proofs.Trees.{active_among, root_among, tree_stands}
use Rattle.fo_cells_lost.specs.Lost.{IsLost, KeepsKept}
use Rattle.fo_cells_lost.proofs.Lost.{tree_stays}
use Rattle.fo_cells_all.specs.All.{Kept, Format, HoldsBeside}
use Rattle.fo_cells_steps.specs.Division.{division}
use Rattle.fo_cells_steps.specs.Calls.{SameEpoch, images}
use Rattle.fo_cells_steps.proofs.Moving.{listed_from}
use Rattle.fo_cells_held.specs.Held.{OnlyLiveDirty}
use Rattle.fo_cells_turns.specs.Opening.{none_made, no_origins}
use Rattle.fo_cells_whole.specs.of_cells_snapshot.Abandon.{AbandonsQueue, Abandons}
use Rattle.fo_cells_whole.specs.Whole.{HoldsWhole}
use Rattle.fo_cells_whole.specs.Awaited.{WaitsUsed}
use Rattle.fo_cells_whole.proofs.Certain.{awaited_still}
use Rattle.fo_cells_whole.proofs.Supers.{abandon_whole}
use Rattle.fo_cells_between.specs.Between.{HoldsBetween}
use Rattle.fo_cells_between.specs.Steps.{DropsRoot}
use Rattle.fo_cells_between.proofs.Rest.{retopped}
use Rattle.fo_cells_between.proofs.Counting.{epochs_first, tops_fewer}

module _ {root next : ℕ} {first c d : Kept} {f : Format} {unsure : List Bool} {before holds : Holds} (x : DropsRoot next first c d holds) (h : HoldsBetween root next first before c f unsure holds) where
  abbrev K : Known
  K = known c.mind holds

  abbrev First : Known
  First = known first.mind before

  abbrev Tops : List Top
  Tops = super_top ∷ map root_top first.roots

  abbrev E : Known
  E = view K Tops

  now_is : known d.mind holds ≡ E
  now_is = ap (λ (m : Mind). known m holds) x.mind

  -- tops that are left were tops before the new root was given out
  top_was : (t : Top) → Contains Tops t → Contains K.tops t
  top_was t is = ⊎_elim
      (λ e. subst (λ (y : Top). Contains K.tops y) e (active_among h.epochs.trees super_top h.epochs.trees.top))
      (λ r. let (y, among, e) = Rattle.fo_cells.proofs.Calls.among_map root_top first.roots t r in subst (λ (z : Top). Contains K.tops z) e (root_among h.epochs.trees y (subst (λ (rs : List Root). Contains rs y) (sym h.roots) among)))
      (among_cases super_top (map root_top first.roots) t is)

  root_in : Reaches first.mind.memory (to_block 1) root
  root_in = record { path = 0 ∷ []; leads = ap target h.begins.leads }

  leads : (i b : ℕ) → target ((c.mind.memory next).slot i) ≡ Local b → (division first none_made).Within b
  leads i b e = reaches_on i root_in (sym (h.leads.targets i) ∙ e)

  -- block 1 has on the device what memory has
  may_one : (i : ℕ) (v : Slot) → MaySlot K 1 i v → v ≡ (c.mind.memory 1).slot i
  may_one i v m = ⊎_elim
      (λ has. sym has.is ∙ (x.alone has.content (subst (λ (cs : List Content). Contains cs has.content) (seen_is K 1 h.epochs.safe.settled) has.among)).slots i)
      (λ r. ⊎_elim (λ is. is) (λ k. absurd ((h.epochs.safe.clears 1 i k.0 k.1).1 refl)) r)
      m

  may_was : (a i : ℕ) (v : Slot) → a ≢ next → MaySlot K a i v → MaySlot First a i v
  may_was a i v ne m = ⊎_elim
      (λ one. subst (λ z. MaySlot First z i v) (sym one) (inr (inl (may_one i v (subst (λ z. MaySlot K z i v) one m) ∙ h.memory 1 i (λ e. h.begins.other (sym e))))))
      (λ far. h.may a i v far ne m)
      (cases_eq a 1)

  unled : (a i : ℕ) (v : Slot) (p : Place) → Stands E a p → MaySlot E a i v → target v ≡ Local next → ⊥
  unled a i v p st m e = ⊎_elim
      (λ is. h.begins.fresh.0 (leads i next (ap target (sym (h.may_next i v (subst (λ z. MaySlot K z i v) is m))) ∙ e)))
      (λ ne. ⊎_elim
      (λ was. h.begins.nowhere (Rattle.fo_crash.specs.Places.place_below p i v) (stands_below i v next was (may_was a i v ne m) e))
      (λ is. ne is)
      (h.stands a p (view_stands K Tops top_was a p st)))
      (cases_eq a next)

  queue : AbandonsQueue next First E (division first none_made) first.roots
  queue = record {
    memory = λ a i ne. h.memory a i ne;
    leads = leads;
    may = λ a i b v ne m e. may_was a i v ne m;
    unled = unled;
    other = h.begins.other;
    root = λ r among is. h.begins.nowhere root_place (subst (λ z. Stands First z root_place) is (stands_top (root_top r) (root_among h.begins.whole.made.all.epochs.trees r among)));
    fresh = h.begins.fresh;
    label = λ b ne. h.label b ne;
    live = h.live;
  }

  epochs_now : HasEpochs K first.high f.high_of d.doubts c.active first.roots
  epochs_now = let e = epochs_first h in record {
    safe = with_doubt (record { versions = λ v is. inl (x.alone v is) }) e.safe;
    trees = e.trees;
    supers = e.supers;
  }

  dirty_now : OnlyLiveDirty c.mind c.flags f.is_data d.high
  dirty_now = subst (λ n. OnlyLiveDirty c.mind c.flags f.is_data n) (h.high ∙ sym x.high) h.beside.dirty

  beside_now : HoldsBeside d f unsure holds
  beside_now = retopped {c = c} {d = d} Tops x.mind x.flags x.rest dirty_now h.beside

  abandons : Abandons next first c d f unsure before holds
  abandons = record {
    active = h.begins.active;
    epochs = epochs_now;
    fewer = tops_fewer h;
    mind = x.mind;
    queue = subst (λ (k : Known). AbandonsQueue next First k (division first none_made) first.roots) (sym now_is) queue;
    beside = beside_now;
    read = h.begins.read;
    high_now = x.high;
    active_now = x.active;
    roots_now = x.roots;
    past_now = x.past;
    queue_now = x.queue;
  }

  used : WaitsUsed d.mind.waits d.mind.memory
  used = awaited_still c d (ap (λ (m : Mind). m.waits) x.mind) (λ leaf on k is. ap (λ (m : Mind). (m.memory on).slot (2 * k)) x.mind) h.awaited

  adds : AddsNothing (images c holds) (images d holds)
  adds = record {
    each = λ image r.
        let now : Remains E image = subst (λ (k : Known). Remains k image) now_is r in
        record { cells = now.cells; super = now.super };
  }

  young : first.high ≤ (d.mind.label next).epoch
  young =
      let same : (d.mind.label next).epoch ≡ (c.mind.label next).epoch = ap (λ (m : Mind). (m.label next).epoch) x.mind in
      let epoch = h.epoch in
      omega (arith, same, epoch)

  pub dropped_between : AddsNothing (images c holds) (images d holds) × HoldsWhole d f none_made no_origins unsure holds
  dropped_between = (adds, abandon_whole abandons h.begins.nowhere (ap (λ (m : Mind). m.low) x.mind ∙ h.low) young used x.doubts h.begins.whole)

  -- NO BLOCK IS LOST: the new root waits, and all else hangs where it hung
  epoch_same : SameEpoch first (record d { doubts = first.doubts })
  epoch_same = record { high = x.high; doubts = refl; roots = x.roots; past = x.past }

  covered_now : (b : ℕ) → (division first none_made).Covered b ⊎ IsCovered (record { blocks = next ∷ []; after = 1 } ∷ []) b → (division d none_made).Covered b
  covered_now b is = listed_from {c = first} {d = record d { doubts = first.doubts }} (record { blocks = next ∷ []; after = 1 } ∷ []) epoch_same x.queue b is

  abbrev Both : ℕ → Type 0
  Both a = Reaches c.mind.memory (to_block 1) a × Reaches first.mind.memory (to_block 1) a

  both_on : (a j z : ℕ) → Both a → target ((first.mind.memory a).slot j) ≡ Local z → Both z
  both_on a j z r e = (reaches_on j r.0 (ap target (h.memory a j (λ is. h.begins.fresh.0 (subst (λ v. Reaches first.mind.memory (to_block 1) v) is r.1))) ∙ e), reaches_on j r.1 e)

  within_now : (b : ℕ) → (division first none_made).Within b → Reaches c.mind.memory (to_block 1) b
  within_now b w = (walk_keeps first.mind.memory Both both_on w.path (to_block 1) b (λ a e. (record { path = []; leads = e }, record { path = []; leads = e })) w.leads).0

  kept_now : KeepsKept First E first.roots
  kept_now = record {
    slots = λ a i. ⊎_elim
        (λ is. inr (λ r p among st. h.begins.nowhere p (subst (λ v. Stands First v p) is (tree_stands h.begins.whole.made.all.epochs.trees r among a p st))))
        (λ ne. inl (h.memory a i ne))
        (cases_eq a next);
  }

  pub dropped_loses : (b : ℕ) → IsLost (known d.mind holds) (division d none_made) d.roots b → IsLost First (division first none_made) first.roots b
  dropped_loses b lost = record {
    taken =
        let ne : b ≢ next = λ e. lost.outside.2 (covered_now b (inr (inl (subst (λ v. Contains (next ∷ []) v) (sym e) (first_among next []))))) in
        let now : is_usable c.mind.low (c.mind.label b) ≡ false = subst (λ (k : Known). is_usable k.low (k.label b) ≡ false) now_is lost.taken in
        subst (λ n. is_usable n (first.mind.label b) ≡ false) h.low (subst (λ (y : Label). is_usable c.mind.low y ≡ false) (h.label b ne) now);
    outside = (
      λ w. lost.outside.0 (subst (λ (m : Mind). Reaches m.memory (to_block 1) b) (sym x.mind) (within_now b w)),
      λ m. m,
      λ is. lost.outside.2 (covered_now b (inl is)),
    );
    unkept = λ r q among st. lost.unkept r q
        (subst (λ (rs : List Root). Contains rs r) (sym x.roots) among)
        (subst (λ (k : Known). Stands (tree_of k r) b q) (sym now_is) (tree_stays h.begins.whole.made.all.epochs.safe h.begins.whole.made.all.epochs.trees kept_now r among b q st));
  }
