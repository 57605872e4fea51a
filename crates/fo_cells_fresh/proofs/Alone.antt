-- A root alone: what is known of blocks, trees and super blocks where a cache opens.
use Rattle.std.proofs.Common.{◌≡◌, ◌≢◌, ◌⊎◌, inl, inr, ⊎_elim, ℕ, ◌<◌, false, List, [], ◌∷◌, length, refl, sym, ◌∙◌, ap, subst, arith}
use Rattle.std.proofs.lemmas.Bool.{cases_lt}
use Rattle.std.proofs.lemmas.List.{length-map, get_or_past}
use Rattle.std.specs.List.{Contains}
use Rattle.fo_disk.specs.Disk.{Block, Versions, versions_of, latest_of, settled}
use Rattle.fo_disk.specs.Disk.{Content as Holds}
use Rattle.fo_disk.proofs.Quiet.{settled-quiet, settled-is_image, read-settled}
use Rattle.fo_image.specs.declared.types.Label.{Label}
use Rattle.fo_image.specs.declared.types.Pointer.TheVariants.{Local}
use Rattle.fo_image.specs.declared.types.State.TheVariants.{Live}
use Rattle.fo_image.specs.Usable.{is_usable}
use Rattle.fo_labels.specs.Region.{Region}
use Rattle.fo_crash.specs.declared.slot.Slot.{Slot}
use Rattle.fo_crash.specs.declared.place.Place.{Place}
use Rattle.fo_crash.specs.Images.{Content, Image, Reaches, target, to_block}
use Rattle.fo_crash.specs.Places.{super_place, root_place, place_below}
use Rattle.fo_crash.proofs.Sure.{same_if}
use Rattle.fo_cells.specs.Known.{Known, Top, MaySlot, IsKept, MayName, Leads, Stands}
use Rattle.fo_cells.specs.Safe.{super_top, IsLive}
use Rattle.fo_cells.specs.Laws.{Safe}
use Rattle.fo_cells.specs.Device.{known}
use Rattle.fo_cells.proofs.Calls.{among_map}
use Rattle.fo_cells.proofs.Standing.{among_cases, first_among, written_may}
use Rattle.fo_cells_out.proofs.Queue.{nothing_among}
use Rattle.fo_cells_out.proofs.Asked.{walk_keeps}
use Rattle.fo_cells_out.proofs.Takeout.{same_block}
use Rattle.fo_cells_epochs.specs.Epochs.{HasEpochs}
use Rattle.fo_cells_epochs.proofs.Trees.{only_one}
use Rattle.fo_cells_fresh.specs.Fresh.{Reading, HasRootAlone, label_at, block_at, opened_mind}

module _ {r : Reading} {image : List Block} {labels : Region} {root epoch : ℕ} (h : HasRootAlone r image labels root epoch) where
  abbrev H : Holds
  H = settled image

  abbrev K : Known
  K = known (opened_mind r image labels epoch) H

  abbrev M : Image
  M = (opened_mind r image labels epoch).memory

  pub count : length H ≡ length image
  count = length-map image (λ (b : Block). b ∷ [])

  inside : (b : ℕ) → b < length image → b < length H
  inside b lt = omega (arith, lt, count)

  -- each block has one version, the last
  pub latest_is : (b : ℕ) → b < length H → latest_of (versions_of H b) ≡ block_at image b
  latest_is b lt = sym (read-settled H b ((settled-quiet image).each b lt) ((settled-is_image image).each b lt))

  pub some : (b : ℕ) → b < length H → 0 < length (versions_of H b)
  some b lt = let one : length (versions_of H b) ≡ 1 = (settled-quiet image).each b lt in omega (arith, one)

  version : (b : ℕ) (v : Block) → Contains (versions_of H b) v → v ≡ block_at image b
  version b v is = ⊎_elim
      (λ lt. read-settled H b ((settled-quiet image).each b lt) is ∙ latest_is b lt)
      (λ le. absurd (nothing_among v (subst (λ (vs : Versions). Contains vs v) (get_or_past H b [] le) is)))
      (cases_lt b (length H))

  content : (b : ℕ) (c : Content) → Contains (K.versions b) c → c ≡ M b
  content b c is = let (v, among, e) = among_map (r.read b) (versions_of H b) c is in sym e ∙ ap (λ x. r.read b x) (version b v among)

  some_known : (b : ℕ) → b < length image → 0 < length (K.versions b)
  some_known b lt = let n = some b (inside b lt) in omega (arith, n, length-map (versions_of H b) (r.read b))

  -- the label of the root
  root_is : (l : Label) → Contains (K.labels root) l → l ≡ label_at labels root
  root_is l is =
      let (v, among, e) = among_map (r.label_in root) (versions_of H (r.label_block root)) l is in
      sym e ∙ ap (λ x. r.label_in root x) (version (r.label_block root) v among) ∙ h.spelled root h.label_here

  root_kept : is_usable epoch (label_at labels root) ≡ false
  root_kept = ap (λ l. is_usable epoch l) h.root_label

  root_live : (label_at labels root).state ≡ Live
  root_live = ap (λ (l : Label). l.state) h.root_label

  root_epoch : (label_at labels root).epoch ≡ epoch
  root_epoch = ap (λ (l : Label). l.epoch) h.root_label

  some_labels : 0 < length (K.labels root)
  some_labels = let n = some (r.label_block root) (inside (r.label_block root) h.label_here) in omega (arith, n, length-map (versions_of H (r.label_block root)) (r.label_in root))

  -- SLOTS are memory's
  pub may : (a i : ℕ) (s : Slot) → MaySlot K a i s → s ≡ (M a).slot i
  may a i s m = ⊎_elim
      (λ has. sym has.is ∙ ap (λ (c : Content). c.slot i) (content a has.content has.among))
      (λ x. ⊎_elim (λ is. is) (λ k. absurd (nothing_among (k.1).clear (k.1).among)) x)
      m

  -- block 1 leads to the root, and the root nowhere
  abbrev Two : ℕ → Type 0
  Two a = (a ≡ 1) ⊎ (a ≡ root)

  pub led : (a i b : ℕ) → Two a → target ((M a).slot i) ≡ Local b → (a ≡ 1) × (i ≡ 0) × (b ≡ root)
  led a i b is e = ⊎_elim
      (λ one.
      let there : target ((M 1).slot i) ≡ Local b = subst (λ z. target ((M z).slot i) ≡ Local b) one e in
      let zero_is = h.only i b there in
      (one, zero_is, same_block (subst (λ j. target ((M 1).slot j) ≡ Local b) zero_is there) (ap target h.leads)))
      (λ at. absurd (h.empty i b (subst (λ z. target ((M z).slot i) ≡ Local b) at e)))
      is

  pub reached : (b : ℕ) → Reaches M (to_block 1) b → Two b
  reached b w = walk_keeps M Two (λ a j z is e. inr (led a j z is e).2) w.path (to_block 1) b (λ a e. inl (let x : Local 1 ≡ Local a = e in cc)) w.leads

  -- PLACES
  abbrev At : ℕ → Place → Type 0
  At b q = ((b ≡ 1) × (q ≡ super_place)) ⊎ ((b ≡ root) × (q ≡ root_place))

  two : (b : ℕ) (q : Place) → At b q → Two b
  two b q is = ⊎_elim (λ x. inl x.0) (λ x. inr x.0) is

  -- a slot of a block at a place leads from block 1 to the root
  step : (a i b : ℕ) (s : Slot) (p : Place) → At a p → MaySlot K a i s → target s ≡ Local b → (p ≡ super_place) × (s ≡ to_block root) × (b ≡ root) × (a ≡ 1)
  step a i b s p is m e =
      let s_is = may a i s m in
      let l = led a i b (two a p is) (ap target (sym s_is) ∙ e) in
      let slot : s ≡ to_block root = s_is ∙ ap (λ z. (M z).slot i) l.0 ∙ ap (λ j. (M 1).slot j) l.1 ∙ h.leads in
      (⊎_elim (λ x. x.1) (λ x. absurd (h.other (sym x.0 ∙ l.0))) is, slot, l.2, l.0)

  below : (i : ℕ) (s : Slot) (p : Place) → p ≡ super_place → s ≡ to_block root → place_below p i s ≡ root_place
  below i s p p_is s_is = ap (λ y. place_below y i s) p_is ∙ ap (λ v. place_below super_place i v) s_is

  stood : (b : ℕ) (q : Place) → Stands K b q → At b q
  stood b q st = along st.path st.top.at st.top.place (let e = only_one super_top st.top st.is_top in inl (ap (λ (t : Top). t.at) (sym e), ap (λ (t : Top). t.place) (sym e))) st.leads
    where
      along : (path : List (ℕ × Slot)) (a : ℕ) (p : Place) → At a p → Leads K path a p b q → At b q
      along [] a p is l = subst (λ z. At z q) l.0 (subst (λ y. At a y) l.1 is)
      along ((i, s) ∷ path) a p is l =
          let x = step a i l.1.0 s p is l.0 l.1.1 in
          along path l.1.0 (place_below p i s) (inr (x.2, below i s p x.0 x.1)) l.1.2

  at_root : (b : ℕ) (q : Place) → b ≢ 1 → Stands K b q → (b ≡ root) × (q ≡ root_place)
  at_root b q ne st = ⊎_elim (λ x. absurd (ne x.0)) (λ x. x) (stood b q st)

  named : (t : ℕ) → t ≡ root → (t ≢ 1) × MayName K t
  named t is = subst (λ z. (z ≢ 1) × MayName K z) (sym is) (
    h.other,
    record {
      settled = refl;
      labels = λ l among.
          let e = root_is l among in record {
            kind = ap (λ (x : Label). x.kind) e;
            tag = ap (λ (x : Label). x.tag) e;
            epoch = ap (λ (x : Label). x.epoch) e;
            kept = ap (λ x. is_usable epoch x) e ∙ root_kept;
          };
    },
  )

  kept : IsKept K
  kept = record {
    one = λ b p q x y. ⊎_elim
        (λ u. ⊎_elim (λ v. u.1 ∙ sym v.1) (λ v. absurd (h.other (sym v.0 ∙ u.0))) (stood b q y))
        (λ u. ⊎_elim (λ v. absurd (h.other (sym u.0 ∙ v.0))) (λ v. u.1 ∙ sym v.1) (stood b q y))
        (stood b p x);
    falls = λ a i b s p st m e.
        let x = step a i b s p (stood a p st) m e in
        let low : (place_below p i s).rank ≡ 2144 = ap (λ (y : Place). y.rank) (below i s p x.0 x.1) in
        let high : p.rank ≡ 2145 = ap (λ (y : Place). y.rank) x.0 in
        omega (arith, low, high);
    labelled = λ b p ne st.
        let x = at_root b p ne st in (
          ap (λ z. (label_at labels z).kind) x.0 ∙ ap (λ (l : Label). l.kind) h.root_label ∙ ap (λ (y : Place). y.kind) (sym x.1),
          ap (λ z. (label_at labels z).tag) x.0 ∙ ap (λ (l : Label). l.tag) h.root_label ∙ ap (λ (y : Place). y.tag) (sym x.1),
          ap (λ z. is_usable epoch (label_at labels z)) x.0 ∙ root_kept,
        );
    named = λ a i t c p st w e. named t (step a i t (c.slot i) p (stood a p st) (written_may K a i c w) e).2;
  }

  safe : Safe K epoch []
  safe = record {
    kept = kept;
    of_device = record {
      blocks = λ b p st. ⊎_elim
          (λ x. subst (λ z. 0 < length (K.versions z)) (sym x.0) (some_known 1 h.super_here))
          (λ x. subst (λ z. 0 < length (K.versions z)) (sym x.0) (some_known root h.root_here))
          (stood b p st);
      labels = λ b p ne st. subst (λ z. 0 < length (K.labels z)) (sym (at_root b p ne st).0) some_labels;
    };
    top = first_among super_top [];
    old = λ b p ne st young.
        let e : (label_at labels b).epoch ≡ epoch = ap (λ z. (label_at labels z).epoch) (at_root b p ne st).0 ∙ root_epoch in
        absurd (omega (arith, e, young));
    epochs = λ a i b s p ne st m e. absurd (ne (step a i b s p (stood a p st) m e).3);
    live = λ b ne w. ⊎_elim
        (λ one. absurd (ne one))
        (λ is. subst (λ z. IsLive epoch (label_at labels z)) (sym is) (root_live, let e = root_epoch in omega (arith, e)))
        (reached b w);
    settled = refl;
    supers = record { versions = λ c is. inl (same_if (content 1 c is)) };
    waits = λ leaf on j is. absurd (nothing_among is.wait is.among);
    clears = λ at i leaf is. absurd (nothing_among is.clear is.among);
  }

  pub epochs : HasEpochs K epoch r.high_of [] (super_top ∷ []) []
  epochs = record {
    safe = safe;
    trees = record {
      tops = refl;
      top = first_among super_top [];
      kept = λ k is. absurd (nothing_among k is);
      late = λ k b q is st. absurd (nothing_among k is);
      live = λ b q ne st. ap (λ z. (label_at labels z).state) (at_root b q ne st).0 ∙ root_live;
      named = λ a i t c p st w e l is.
          let x = (step a i t (c.slot i) p (stood a p st) (written_may K a i c w) e).2 in
          ap (λ (y : Label). y.state) (root_is l (subst (λ z. Contains (K.labels z) l) x is)) ∙ root_live;
    };
    supers = record {
      root = λ c i b among e.
          let is : c ≡ M 1 = ⊎_elim (λ m. sym m) (λ v. content 1 c v) (among_cases (M 1) (K.versions 1) c among) in
          let l = led 1 i b (inl refl) (ap (λ (y : Content). target (y.slot i)) (sym is) ∙ e) in
          let high : r.high_of c ≡ epoch = ap r.high_of is ∙ h.high_is in (
            λ one. h.other (sym l.2 ∙ one),
            ap (λ (y : Content). y.slot i) is ∙ ap (λ j. (M 1).slot j) l.1 ∙ h.leads ∙ ap to_block (sym l.2),
            ap (λ z. (label_at labels z).epoch) l.2 ∙ root_epoch ∙ sym high,
            λ y y_is.
                let e_y = root_is y (subst (λ z. Contains (K.labels z) y) l.2 y_is) in
                (ap (λ (z : Label). z.state) e_y ∙ root_live, ap (λ (z : Label). z.epoch) e_y ∙ root_epoch ∙ sym high),
          );
      high_is = h.high_is;
    };
  }
