-- Block 1 is written whole: what each step adds to the images, with block 1 as one of its versions or memory's.
use Rattle.std.proofs.Common.{◌≡◌, ◌≢◌, ◌⊎◌, inl, inr, ⊎_elim, ℕ, ◌<◌, Bool, true, false, List, ◌∷◌, refl, sym, ◌∙◌, ap, subst}
use Rattle.std.proofs.lemmas.Bool.{cases_eq}
use Rattle.std.specs.Prelude.{not}
use Rattle.std.specs.List.{Contains}
use Rattle.fo_image.specs.declared.types.Label.{Label}
use Rattle.fo_crash.specs.declared.slot.Slot.{Slot}
use Rattle.fo_crash.specs.declared.place.Place.{Place}
use Rattle.fo_crash.specs.Images.{Content, Image, SameContent, target, with_slot, with_block}
use Rattle.fo_crash.specs.Places.{place_below}
use Rattle.fo_crash.specs.Steps.{AddsNothing, AddsSlot, AddsBytes, AddsBlock, AddsSuper, HasSuper, cleared}
use Rattle.fo_crash.specs.Names.{SameUse}
use Rattle.fo_crash.specs.Forms.{IsCleared}
use Rattle.fo_crash.proofs.Sure.{same_content, same_joins, same_back, same_if}
use Rattle.fo_crash.proofs.Updates.{slot_bytes, slot_other, bytes_other, block_other, block_here}
use Rattle.fo_crash.proofs.Equal.{bool_cases}
use Rattle.fo_cells.specs.Known.{Known, Wait, Clear, Top, HasSlot, HasBytes, IsWait, IsClear, IsSince, MaySlot, Images, IsWholeSuper, Remains, IsKept, Stands, seen, written, waiting}
use Rattle.fo_cells.specs.Calls.{SameButSuper, TriesSuper, CountsSuper, HasSupers, SuperStays}
use Rattle.fo_cells.proofs.Standing.{seen_is, seen_born, written_is, written_born, first_among, next_among, among_cases, at_b, stands_by, stands_top, stands_below}
use Rattle.fo_cells.proofs.Keeping.{Steps, kept_by, may_name_still}
use Rattle.fo_cells.proofs.Giving.{chosen, chosen_here, chosen_other}
use Rattle.fo_cells.proofs.Known.{memory_may}

-- THE SAME SUPER BLOCKS
pub whole_same : (k : Known) {c d : Content} → SameContent c d → IsWholeSuper k d → IsWholeSuper k c
whole_same k same whole = ⊎_elim (λ m. inl (same_joins same m)) (λ v. inr (v.0, v.1, same_joins same v.2)) whole

pub super_fewer : {old new : Known} → SuperStays old new → (c : Content) → IsWholeSuper new c → IsWholeSuper old c
super_fewer stays c whole = ⊎_elim
    (λ m. inl (same_joins m stays.memory))
    (λ v. ⊎_elim (λ was. inr (v.0, was, v.2)) (λ is. inl (same_joins v.2 is)) (stays.versions v.0 v.1))
    whole

pub remains_nothing : {old new : Known} → AddsNothing (Images old) (Images new) → SuperStays old new → AddsNothing (Remains old) (Remains new)
remains_nothing adds stays = record { each = λ image r. record { cells = adds.each image r.cells; super = super_fewer stays (image 1) r.super } }

pub remains_slot : {at i : ℕ} {s : Slot} {beside : Image → Type 0} {old new : Known} → at ≢ 1 → AddsSlot old.memory at i s beside (Images old) (Images new) → SuperStays old new → AddsSlot old.memory at i s beside (Remains old) (Remains new)
remains_slot {at} {i} {s} {beside} {old} {new} ne adds stays = record {
  each = λ image r. ⊎_elim
      (λ was. inl (record { cells = was; super = super_fewer stays (image 1) r.super }))
      (λ h. inr (h.0, record { cells = h.1; super = whole_same old (beside_slot image) (super_fewer stays (image 1) r.super) }, h.2))
      (adds.each image r.cells);
}
  where
    beside_slot : (image : Image) → SameContent (with_slot image at i ((old.memory at).slot i) 1) (image 1)
    beside_slot image = record {
      bytes = slot_bytes image at i ((old.memory at).slot i) 1;
      slots = λ j. slot_other image at i ((old.memory at).slot i) 1 j (inl (λ e. ne (sym e)));
    }

pub remains_bytes : {at : ℕ} {bytes : List ℕ} {beside : Image → Type 0} {old new : Known} → at ≢ 1 → AddsBytes old.memory at bytes beside (Images old) (Images new) → SuperStays old new → AddsBytes old.memory at bytes beside (Remains old) (Remains new)
remains_bytes {at} {bytes} {beside} {old} {new} ne adds stays = record {
  each = λ image r. ⊎_elim
      (λ was. inl (record { cells = was; super = super_fewer stays (image 1) r.super }))
      (λ h. inr (h.0, record { cells = h.1; super = whole_same old (same_if (bytes_other image at ((old.memory at).bytes) 1 (λ e. ne (sym e)))) (super_fewer stays (image 1) r.super) }, h.2))
      (adds.each image r.cells);
}

pub remains_block : {tops : ℕ → Type 0} {at : ℕ} {c : Content} {old new : Known} → at ≢ 1 → AddsBlock tops at c (Images old) (Images new) → SuperStays old new → AddsBlock tops at c (Remains old) (Remains new)
remains_block {tops} {at} {c} {old} {new} ne adds stays = record {
  apart = λ image r. adds.apart image r.cells;
  holds = λ image r. adds.holds image r.cells;
  before = λ image r. let b = adds.before image r.cells in (b.0, record { cells = b.1; super = whole_same old (same_if (block_other image at b.0 1 (λ e. ne (sym e)))) (super_fewer stays (image 1) r.super) });
}

-- what memory has is left
pub memory_remains : (k : Known) → Remains k k.memory
memory_remains k = record { cells = memory_may k; super = inl (same_content (k.memory 1)) }

-- the super block of each image is memory's or the doubt
pub super_known : {k : Known} {doubt : Content → Type 0} → HasSupers k doubt → HasSuper k.memory doubt (Remains k)
super_known {k} {doubt} has = record {
  each = λ image r. ⊎_elim
      (λ m. inl m)
      (λ v. ⊎_elim (λ is. inl (same_joins v.2 is)) (λ d. inr (v.0, d, v.2)) (has.versions v.0 v.1))
      r.super;
}

pub supers_still : {old new : Known} {doubt : Content → Type 0} → SuperStays old new → HasSupers old doubt → HasSupers new doubt
supers_still stays has = record {
  versions = λ c h. ⊎_elim
      (λ was. ⊎_elim (λ m. inl (same_joins m (same_back stays.memory))) (λ d. inr d) (has.versions c was))
      (λ is. inl (same_joins is (same_back stays.memory)))
      (stays.versions c h);
}

-- ALL BUT BLOCK 1
module _ {old new : Known} (w : SameButSuper old new) where
  seen_other : (b : ℕ) (c : Content) → b ≢ 1 → Contains (seen new b) c → Contains (seen old b) c
  seen_other b c ne h = ⊎_elim
      (λ born. ⊎_elim
      (λ first. subst (λ (cs : List Content). Contains cs c) (sym (seen_born old b born)) (subst (λ (x : Content). Contains (x ∷ old.late b) c) (w.memory b ne) (subst (λ (x : Content). Contains (new.memory b ∷ old.late b) x) first (first_among (new.memory b) (old.late b)))))
      (λ more. subst (λ (cs : List Content). Contains cs c) (sym (seen_born old b born)) (next_among (old.memory b) c (old.late b) (subst (λ (xs : List Content). Contains xs c) (at_b b w.late) more)))
      (among_cases (new.memory b) (new.late b) c (subst (λ (cs : List Content). Contains cs c) (seen_born new b (at_b b w.newborn ∙ born)) h)))
      (λ settled. subst (λ (cs : List Content). Contains cs c) (sym (seen_is old b settled)) (w.versions b c ne (subst (λ (cs : List Content). Contains cs c) (seen_is new b (at_b b w.newborn ∙ settled)) h)))
      (bool_cases (old.newborn b))

  slot_other_block : (b j : ℕ) (s : Slot) → b ≢ 1 → HasSlot (seen new b) j s → HasSlot (seen old b) j s
  slot_other_block b j s ne h = record { content = h.content; among = seen_other b h.content ne h.among; is = h.is }

  bytes_other_block : (b : ℕ) (x : List ℕ) → b ≢ 1 → HasBytes (seen new b) x → HasBytes (seen old b) x
  bytes_other_block b x ne h = record { content = h.content; among = seen_other b h.content ne h.among; is = h.is }

  clear_same : (b j leaf : ℕ) → IsClear new.clears b j leaf → IsClear old.clears b j leaf
  clear_same b j leaf h = subst (λ (cs : List Clear). IsClear cs b j leaf) w.clears h

  -- An image that is the same but for block 1 was left, where that block may be so.
  pub back : (image other : Image) (m : Images new image) (fresh : Bool) → ((b : ℕ) → b ≢ 1 → SameContent (other b) (image b)) → ((i : ℕ) → HasSlot (seen old 1) i ((other 1).slot i) ⊎ ((other 1).slot i ≡ (old.memory 1).slot i)) → (fresh ≡ true → (other 1).bytes ≡ (old.memory 1).bytes) → (fresh ≡ false → HasBytes (seen old 1) ((other 1).bytes)) → Images old other
  back image other m fresh there slots now before = record {
    fresh = choice;
    slots = λ b i. ⊎_elim
        (λ e. subst (λ y. HasSlot (seen old y) i ((other y).slot i) ⊎ (((other y).slot i ≡ (old.memory y).slot i) ⊎ IsCleared old.memory (waiting old) other choice y i)) (sym e) (⊎_elim (λ d. inl d) (λ is. inr (inl is)) (slots i)))
        (λ ne. ⊎_elim
        (λ d. inl (slot_other_block b i ((other b).slot i) ne (subst (λ (s : Slot). HasSlot (seen new b) i s) (sym ((there b ne).slots i)) d)))
        (λ x. inr (⊎_elim (λ is. inl ((there b ne).slots i ∙ is ∙ ap (λ (c : Content). c.slot i) (w.memory b ne))) (λ c. inr (still b i c)) x))
        (m.slots b i))
        (cases_eq b 1);
    old_bytes = λ b o. ⊎_elim
        (λ e. subst (λ y. HasBytes (seen old y) ((other y).bytes)) (sym e) (before (sym (at_one 1 refl) ∙ ap choice (sym e) ∙ o)))
        (λ ne. bytes_other_block b ((other b).bytes) ne (subst (λ x. HasBytes (seen new b) x) (sym ((there b ne).bytes)) (m.old_bytes b (sym (at_other b ne) ∙ o))))
        (cases_eq b 1);
    new_bytes = λ b f. ⊎_elim
        (λ e. subst (λ y. (other y).bytes ≡ (old.memory y).bytes) (sym e) (now (sym (at_one 1 refl) ∙ ap choice (sym e) ∙ f)))
        (λ ne. (there b ne).bytes ∙ m.new_bytes b (sym (at_other b ne) ∙ f) ∙ ap (λ (c : Content). c.bytes) (w.memory b ne))
        (cases_eq b 1);
    used = λ b on j f h.
        let ne = w.wait b on j h in
        ⊎_elim
        (λ u. inl (subst (λ (x : Slot). SameUse x ((old.memory on).slot j)) (sym ((there on ne.1).slots j)) (subst (λ (c : Content). SameUse ((image on).slot j) (c.slot j)) (w.memory on ne.1) u)))
        (λ c. inr (still on j c))
        (m.used b on j (sym (at_other b ne.0) ∙ f) (subst (λ (ws : List Wait). IsWait ws b on j) (sym w.waits) h));
  }
    where
      pick : Bool → (ℕ → Bool) → ℕ → Bool
      pick true f b = chosen 1 f b
      pick false f b = not (chosen 1 (λ x. not (f x)) b)

      choice : ℕ → Bool
      choice b = pick fresh m.fresh b

      twice : (x : Bool) → not (not x) ≡ x
      twice true = refl
      twice false = refl

      pick_one : (v : Bool) (f : ℕ → Bool) (b : ℕ) → b ≡ 1 → pick v f b ≡ v
      pick_one true f b e = chosen_here 1 f b e
      pick_one false f b e = ap (λ x. not x) (chosen_here 1 (λ x. not (f x)) b e)

      pick_other : (v : Bool) (f : ℕ → Bool) (b : ℕ) → b ≢ 1 → pick v f b ≡ f b
      pick_other true f b ne = chosen_other 1 f b ne
      pick_other false f b ne = ap (λ x. not x) (chosen_other 1 (λ x. not (f x)) b ne) ∙ twice (f b)

      at_one : (b : ℕ) → b ≡ 1 → choice b ≡ fresh
      at_one b e = pick_one fresh m.fresh b e

      at_other : (b : ℕ) → b ≢ 1 → choice b ≡ m.fresh b
      at_other b ne = pick_other fresh m.fresh b ne

      still : (b i : ℕ) → IsCleared new.memory (waiting new) image m.fresh b i → IsCleared old.memory (waiting old) other choice b i
      still b i c =
          let was = clear_same b i c.leaf c.waits in
          let ne = w.clear b i c.leaf was in record {
            leaf = c.leaf;
            waits = was;
            slot = (there b ne.0).slots i ∙ c.slot ∙ ap (λ (x : Content). cleared (x.slot i)) (w.memory b ne.0);
            since = ⊎_elim
                (λ f. inl (at_other c.leaf ne.1 ∙ f))
                (λ n. inr (at_other c.leaf ne.1 ∙ n.0, subst (λ x. IsSince old.clears b i c.leaf x) (sym ((there c.leaf ne.1).bytes)) (subst (λ (cs : List Clear). IsSince cs b i c.leaf ((image c.leaf).bytes)) w.clears n.1)))
                c.since;
          }

  -- a slot of another block that may be there was
  pub may_other : (a j : ℕ) (x : Slot) → a ≢ 1 → MaySlot new a j x → MaySlot old a j x
  may_other a j x ne h = ⊎_elim
      (λ has. inl (slot_other_block a j x ne has))
      (λ r. inr (⊎_elim
      (λ is. inl (is ∙ ap (λ (c : Content). c.slot j) (w.memory a ne)))
      (λ c. inr (c.0, clear_same a j c.0 c.1, c.2 ∙ ap (λ (y : Content). cleared (y.slot j)) (w.memory a ne)))
      r))
      h

  pub written_other : (a : ℕ) (c : Content) → a ≢ 1 → Contains (written new a) c → Contains (written old a) c
  written_other a c ne h = ⊎_elim
      (λ born. subst (λ (cs : List Content). Contains cs c) (sym (written_born old a born)) (subst (λ (xs : List Content). Contains xs c) (at_b a w.late) (subst (λ (cs : List Content). Contains cs c) (written_born new a (at_b a w.newborn ∙ born)) h)))
      (λ settled. subst (λ (cs : List Content). Contains cs c) (sym (written_is old a settled)) (w.versions a c ne (subst (λ (cs : List Content). Contains cs c) (written_is new a (at_b a w.newborn ∙ settled)) h)))
      (bool_cases (old.newborn a))

-- A SUPER BLOCK IS TRIED
module _ {d : Content} {old new : Known} (t : TriesSuper d old new) where
  -- The images grow by this super block.
  pub super_adds : AddsSuper old.memory (λ image. SameContent (image 1) d) (Remains old) (Remains new)
  super_adds = record {
    each = λ image r. ⊎_elim
        (λ m. inl (old_image image r (same_joins m (same_if t.here))))
        (λ v. ⊎_elim
        (λ was. inl (old_image image r (same_joins v.2 (same_if (t.quiet v.0 was)))))
        (λ is. inr (new_image image r, same_joins v.2 (same_if is)))
        (t.versions v.0 v.1))
        r.super;
  }
    where
      old_image : (image : Image) → Remains new image → SameContent (image 1) (old.memory 1) → Remains old image
      old_image image r same = record {
        cells = back t.same image image r.cells true (λ b ne. same_content (image b)) (λ i. inr (same.slots i)) (λ f. same.bytes) (λ f. absurd (cc));
        super = inl same;
      }

      new_image : (image : Image) → Remains new image → Remains old (with_block image 1 (old.memory 1))
      new_image image r =
          let same = same_if (block_here image 1 (old.memory 1)) in record {
            cells = back t.same image (with_block image 1 (old.memory 1)) r.cells true (λ b ne. same_if (block_other image 1 (old.memory 1) b ne)) (λ i. inr (same.slots i)) (λ f. same.bytes) (λ f. absurd (cc));
            super = inl same;
          }

  pub version_case : (c : Content) → Contains (written new 1) c → Contains (written old 1) c ⊎ (c ≡ d)
  version_case c h = ⊎_elim
      (λ was. inl (subst (λ (cs : List Content). Contains cs c) (sym (written_is old 1 t.same.settled)) was))
      (λ is. inr is)
      (t.versions c (subst (λ (cs : List Content). Contains cs c) (written_is new 1 (at_b 1 t.same.newborn ∙ t.same.settled)) h))

  pub may_tried : (a j : ℕ) (x : Slot) → MaySlot new a j x → MaySlot old a j x ⊎ ((a ≡ 1) × (x ≡ d.slot j))
  may_tried a j x h = ⊎_elim
      (λ e. ⊎_elim (λ was. inl (subst (λ y. MaySlot old y j x) (sym e) was)) (λ is. inr (e, is)) (here (subst (λ y. MaySlot new y j x) e h)))
      (λ ne. inl (may_other t.same a j x ne h))
      (cases_eq a 1)
    where
      here : MaySlot new 1 j x → MaySlot old 1 j x ⊎ (x ≡ d.slot j)
      here h = ⊎_elim
          (λ has. ⊎_elim
          (λ was. inl (inl (record { content = has.content; among = subst (λ (cs : List Content). Contains cs has.content) (sym (seen_is old 1 t.same.settled)) was; is = has.is })))
          (λ is. inr (sym has.is ∙ ap (λ (c : Content). c.slot j) is))
          (t.versions has.content (subst (λ (cs : List Content). Contains cs has.content) (seen_is new 1 (at_b 1 t.same.newborn ∙ t.same.settled)) has.among)))
          (λ r. ⊎_elim
          (λ is. inl (inr (inl (is ∙ ap (λ (c : Content). c.slot j) t.here))))
          (λ c. absurd ((t.same.clear 1 j c.0 (subst (λ (cs : List Clear). IsClear cs 1 j c.0) t.same.clears c.1)).0 refl))
          r)
          h

  pub super_stands : (b : ℕ) (q : Place) → Stands new b q → Stands old b q
  super_stands = stands_by (λ x h. stands_top x (subst (λ (ts : List Top). Contains ts x) t.same.tops h)) (λ a j x p b st may e. ⊎_elim
      (λ was. stands_below j x b st was e)
      (λ n. subst (λ (y : Slot). Stands old b (place_below p j y)) (sym n.1) (t.fits p j b (subst (λ y. Stands old y p) n.0 st) (ap target (sym n.1) ∙ e)).0)
      (may_tried a j x may))

  -- The invariant is kept.
  pub super_keeps : IsKept old → IsKept new
  super_keeps kept =
      let steps : Steps old new = record {
        stands = super_stands;
        falls = λ a j b x p st may e. ⊎_elim
            (λ was. kept.falls a j b x p st was e)
            (λ n. subst (λ (y : Slot). (place_below p j y).rank < p.rank) (sym n.1) (t.fits p j b (subst (λ y. Stands old y p) n.0 st) (ap target (sym n.1) ∙ e)).1)
            (may_tried a j x may);
        label = t.same.label;
        low = t.same.low;
        named = λ a j b c p st h e.
            let n = ⊎_elim
            (λ is. ⊎_elim
            (λ was. kept.named a j b c p st (subst (λ y. Contains (written old y) c) (sym is) was) e)
            (λ new_is. let f = t.fits p j b (subst (λ y. Stands old y p) is st) (ap (λ (x : Content). target (x.slot j)) (sym new_is) ∙ e) in (f.2, f.3))
            (version_case c (subst (λ y. Contains (written new y) c) is h)))
            (λ ne. kept.named a j b c p st (written_other t.same a c ne h) e)
            (cases_eq a 1) in (
              n.0,
              may_name_still old new b t.same.label t.same.low (at_b b t.same.newborn ∙ n.1.settled) (λ l is. n.1.labels l (subst (λ (g : ℕ → List Label). Contains (g b) l) t.same.labels is)),
            );
      } in
      kept_by kept steps

  -- It is the doubt now.
  pub super_doubt : HasSupers new (λ c. SameContent c d)
  super_doubt = record { versions = λ c h. ⊎_elim (λ was. inl (same_if (t.quiet c was ∙ sym t.here))) (λ is. inr (same_if is)) (t.versions c h) }

-- A SUPER BLOCK COUNTS
module _ {d : Content} {old new : Known} (t : CountsSuper d old new) where
  d_seen : Contains (seen old 1) d
  d_seen = subst (λ (cs : List Content). Contains cs d) (sym (seen_is old 1 t.same.settled)) t.some

  pub counts_adds : AddsNothing (Remains old) (Remains new)
  counts_adds = record {
    each = λ image r.
        let same : SameContent (image 1) d = ⊎_elim
        (λ m. same_joins m (same_if t.here))
        (λ v. same_joins v.2 (same_if (t.quiet v.0 (t.versions v.0 v.1))))
        r.super in record {
          cells = back t.same image image r.cells false (λ b ne. same_content (image b)) (λ i. inl (record { content = d; among = d_seen; is = sym (same.slots i) })) (λ f. absurd (cc)) (λ f. record { content = d; among = d_seen; is = sym same.bytes });
          super = inr (d, t.some, same);
        };
  }

  pub may_counted : (a j : ℕ) (x : Slot) → MaySlot new a j x → MaySlot old a j x
  may_counted a j x h = ⊎_elim
      (λ e. subst (λ y. MaySlot old y j x) (sym e) (here (subst (λ y. MaySlot new y j x) e h)))
      (λ ne. may_other t.same a j x ne h)
      (cases_eq a 1)
    where
      here : MaySlot new 1 j x → MaySlot old 1 j x
      here h = ⊎_elim
          (λ has. inl (record { content = has.content; among = subst (λ (cs : List Content). Contains cs has.content) (sym (seen_is old 1 t.same.settled)) (t.versions has.content (subst (λ (cs : List Content). Contains cs has.content) (seen_is new 1 (at_b 1 t.same.newborn ∙ t.same.settled)) has.among)); is = has.is }))
          (λ r. ⊎_elim
          (λ is. inl (record { content = d; among = d_seen; is = sym (is ∙ ap (λ (c : Content). c.slot j) t.here) }))
          (λ c. absurd ((t.same.clear 1 j c.0 (subst (λ (cs : List Clear). IsClear cs 1 j c.0) t.same.clears c.1)).0 refl))
          r)
          h

  pub counts_stands : (b : ℕ) (q : Place) → Stands new b q → Stands old b q
  counts_stands = stands_by (λ x h. stands_top x (subst (λ (ts : List Top). Contains ts x) t.same.tops h)) (λ a j x p b st may e. stands_below j x b st (may_counted a j x may) e)

  pub counts_keeps : IsKept old → IsKept new
  counts_keeps kept =
      let steps : Steps old new = record {
        stands = counts_stands;
        falls = λ a j b x p st may e. kept.falls a j b x p st (may_counted a j x may) e;
        label = t.same.label;
        low = t.same.low;
        named = λ a j b c p st h e.
            let n = kept.named a j b c p st (⊎_elim
            (λ is. subst (λ y. Contains (written old y) c) (sym is) (subst (λ (cs : List Content). Contains cs c) (sym (written_is old 1 t.same.settled)) (t.versions c (subst (λ (cs : List Content). Contains cs c) (written_is new 1 (at_b 1 t.same.newborn ∙ t.same.settled)) (subst (λ y. Contains (written new y) c) is h)))))
            (λ ne. written_other t.same a c ne h)
            (cases_eq a 1)) e in (
              n.0,
              may_name_still old new b t.same.label t.same.low (at_b b t.same.newborn ∙ n.1.settled) (λ l is. n.1.labels l (subst (λ (g : ℕ → List Label). Contains (g b) l) t.same.labels is)),
            );
      } in
      kept_by kept steps

  -- There is no doubt.
  pub counts_doubt : HasSupers new (λ c. ⊥)
  counts_doubt = record { versions = λ c h. inl (same_if (t.quiet c (t.versions c h) ∙ sym t.here)) }
