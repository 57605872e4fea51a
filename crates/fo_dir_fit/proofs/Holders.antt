-- Where the second entry of a directory leads on, the image has the first too: both stand in one block, which is found at a spot of entries.
use Rattle.std.proofs.Common.{◌≡◌, ◌⊎◌, inl, inr, ⊎_elim, ℕ, zero, suc, ◌+◌, ◌-◌, ◌*◌, ◌/◌, ◌%◌, ◌<◌, List, [], ◌∷◌, refl, sym, ◌∙◌, ap, subst, arith}
use Rattle.fo_image.specs.declared.types.Entry.{Entry}
use Rattle.fo_image.specs.declared.types.Kind.{Kind}
use Rattle.fo_image.specs.declared.types.Kind.TheVariants.{Data, Dir, Root}
use Rattle.fo_image.specs.declared.types.Pointer.TheVariants.{Local}
use Rattle.fo_crash.specs.declared.slot.Slot.{Slot}
use Rattle.fo_crash.specs.declared.slot.Slot.TheVariants.{Entry as Head}
use Rattle.fo_crash.specs.declared.place.Place.{Place}
use Rattle.fo_crash.specs.Images.{Image, Arena, Link, IsArena, target, goes, step, to_block, leaf_path, entry_of, file_link}
use Rattle.fo_crash.specs.Places.{super_place, IsPlaced}
use Rattle.fo_crash.specs.Spots.{Spot, FoundAt, FewSlots, spot_below, top_spot, slots_of}
use Rattle.fo_ports.specs.Shown.{active}
use Rattle.fo_alike.specs.Like.{IsOfEntries}
use Rattle.fo_dir_pairs.specs.Pairs.{entries_trail}
use Rattle.fo_dir_images.proofs.Listing.{IsAt}
use Rattle.fo_dir_images.proofs.Placing.{from_local, front_local, found_leaf}
use Rattle.fo_dir_images.proofs.Siding.{along_records}
use Rattle.fo_dir_images.proofs.Trailing.{level_of, spot, link_of, AtTrail, entry_is, slot_of}
use Rattle.fo_dir_names.proofs.Ranks.{Shape}
use Rattle.fo_dir_fit.proofs.Spots.{root_first}

-- ---- trails

-- the entries of the directory whose records a trail of entries leads to
pub lowered : (arena : Arena) (image : Image) (trail way meta : List ℕ) → entries_trail meta ≡ way → file_link arena image (link_of arena image way) trail ≡ link_of arena image (entries_trail (along_records way meta trail))
lowered arena image [] way meta e = ap (link_of arena image) (sym e)
lowered arena image (pair ∷ trail) way meta e =
    let same : 2 * pair + 1 - 1 ≡ 2 * pair = omega arith in
    lowered arena image trail (2 * pair ∷ way) ((2 * pair + 1) ∷ way) (ap (λ x. x ∷ way) same)

-- ---- slots of a leaf of entries

-- an entry stands in its leaf
pub entry_at : (arena : Arena) (image : Image) (w : Link) (m b j i : ℕ) → j / 204 ≡ m → j % 204 ≡ i → IsAt arena image w m b → (entry_of arena image w j).slot ≡ (image b).slot i
entry_at arena image w m b j i leaf place at =
    ap (λ (x : Link). x.slot) (entry_is arena image w j)
    ∙ ap (λ x. (step arena image (goes arena image w (leaf_path w.slot x)) (j % 204)).slot) leaf
    ∙ ap (λ x. (step arena image (goes arena image w (leaf_path w.slot m)) x).slot) place
    ∙ slot_of arena image (goes arena image w (leaf_path w.slot m)) i at.leads

-- a leaf with a slot that leads on is one of entries
with_slots : (kind : Kind) (i : ℕ) → level_of kind ≡ 0 → i < slots_of kind → ((kind ≡ Dir 0) ⊎ (kind ≡ Root)) × (i < 204)
with_slots (Data zero) i level few = let no : i < 0 = few in absurd (omega (arith, no))
with_slots (Data (suc l)) i level few = let no : suc l ≡ 0 = level in absurd (omega (arith, no))
with_slots (Dir (suc l)) i level few = let no : suc l ≡ 0 = level in absurd (omega (arith, no))
with_slots (Dir zero) i level few = (inl refl, few)
with_slots Root i level few = let three : i < 3 = few in (inr refl, omega (arith, three))

-- from its slot the trail goes on by the number of the entry
trail_on : (kind : Kind) (tag index rank : ℕ) (trail : List ℕ) (e : ℕ) (s : Slot) → (kind ≡ Dir 0) ⊎ (kind ≡ Root) → index ≡ e / 204 → (kind ≡ Root → index ≡ 0) → (spot_below (spot kind tag index rank trail) (e % 204) s).trail ≡ e ∷ trail
trail_on (Data n) tag index rank trail e s holds is first = absurd (⊎_elim (λ x. let no : Data n ≡ Dir 0 = x in cc) (λ x. let no : Data n ≡ Root = x in cc) holds)
trail_on (Dir (suc l)) tag index rank trail e s holds is first = absurd (⊎_elim (λ x. let no : Dir (suc l) ≡ Dir 0 = x in cc) (λ x. let no : Dir (suc l) ≡ Root = x in cc) holds)
trail_on (Dir zero) tag index rank trail e s holds is first = ap (λ x. x ∷ trail) (let same : 204 * index + e % 204 ≡ e = omega (arith, is) in same)
trail_on Root tag index rank trail e s holds is first = let none = first refl in ap (λ x. x ∷ trail) (let same : e % 204 ≡ e = omega (arith, is, none) in same)

-- ---- the block of a pair

-- A block that is found at a spot of entries has this entry, from which the trail goes on like this.
pub record Holds (image : Image) (trail : List ℕ) (x : Entry) : Type 0 where
  pub block : ℕ
  pub at : Spot
  pub slot : ℕ
  pub found : FoundAt active image block at
  pub holds : IsOfEntries at
  pub within : slot < 204
  pub has : (image block).slot slot ≡ Head x
  pub trail_is : (spot_below at slot (Head x)).trail ≡ trail

module _ {stands : ℕ → Place → Type 0} {image : Image} (placed : IsPlaced stands image) (few : FewSlots stands image) (super_at : stands 1 super_place) (arena : Arena) (is : IsArena arena) where
  -- the block that holds entry e of the source at the end of a trail, by which it leads on
  record Holder (e : ℕ) (trail : List ℕ) : Type 0 where
    block : ℕ
    below : ℕ
    at : AtTrail arena image trail (e / 204) block
    leads : target ((image block).slot (e % 204)) ≡ Local below

  holder : (e : ℕ) (trail : List ℕ) (n b : ℕ) → AtTrail arena image (e ∷ trail) n b → Holder e trail
  holder e trail n b leaf =
      let v = link_of arena image trail in
      let w = link_of arena image (e ∷ trail) in
      let above = goes arena image v (leaf_path v.slot (e / 204)) in
      let entry : w ≡ step arena image above (e % 204) = entry_is arena image v e in
      let first = front_local arena image is (leaf_path w.slot n) w b leaf.leads in
      let leads : target ((step arena image above (e % 204)).slot) ≡ Local first.0 = ap (λ (x : Link). target x.slot) (sym entry) ∙ first.1 in
      let up = from_local arena image is above (e % 204) first.0 leads in
      record {
        block = up.0;
        below = first.0;
        at = record { rooms = leaf.rooms.1; room = leaf.rooms.0; leads = up.1 };
        leads = ap target (sym (slot_of arena image above (e % 204) up.1)) ∙ leads;
      }

  -- where the second entry leads on, a block has the first
  before : (e : ℕ) (trail : List ℕ) (n b : ℕ) (x : Entry) → e % 2 ≡ 1 → AtTrail arena image (e ∷ trail) n b → (link_of arena image ((e - 1) ∷ trail)).slot ≡ Head x → Holds image ((e - 1) ∷ trail) x
  before e trail n b x odd leaf slot =
      let h = holder e trail n b leaf in
      let found = found_leaf placed few super_at arena is trail (e / 204) h.block h.at in
      let at = found.at in
      let kind = with_slots at.place.kind (e % 204) found.level_is (few.each h.block (e % 204) h.below at.place found.on.stands_at h.leads) in
      let leaf_same : (e - 1) / 204 ≡ e / 204 = omega (arith, odd) in
      let first : at.place.kind ≡ Root → at.place.index ≡ 0 = subst (λ (p : Spot). p.place.kind ≡ Root → p.place.index ≡ 0) found.on.spot_is (root_first image found.on.path (top_spot 1) (to_block 1) (λ top. refl)) in
      record {
        block = h.block;
        at = at;
        slot = (e - 1) % 204;
        found = record { top = 1; is_top = refl; path = found.on.path; leads = found.on.leads; spot = found.on.spot_is };
        holds = kind.0;
        within = omega arith;
        has = sym (entry_at arena image (link_of arena image trail) (e / 204) h.block (e - 1) ((e - 1) % 204) leaf_same refl (record { room = h.at.room; leads = h.at.leads })) ∙ slot;
        trail_is = trail_on at.place.kind at.place.tag at.place.index at.place.rank at.trail (e - 1) (Head x) kind.0 (found.index_is ∙ sym leaf_same) first ∙ ap (λ t. (e - 1) ∷ t) found.trail_is;
      }

  -- likewise of the trail of a directory's records
  pub first_held : (pairs : ℕ) (way : List ℕ) (n b : ℕ) (x : Entry) → Shape pairs way → AtTrail arena image way n b → (link_of arena image (entries_trail way)).slot ≡ Head x → Holds image (entries_trail way) x
  first_held pairs way n b x shape =
      subst (λ t. AtTrail arena image t n b → (link_of arena image (entries_trail t)).slot ≡ Head x → Holds image (entries_trail t) x)
      (sym shape.is)
      (before shape.entry (shape.next ∷ shape.rest) n b x shape.odd)
