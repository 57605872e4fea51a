-- Records that an image lists are shown at the spot of their leaf, so they differ where what is shown stands once.
use Rattle.std.proofs.Common.{◌≡◌, ◌≢◌, inl, inr, ⊎_elim, ℕ, ◌*◌, ◌^◌, ◌<◌, ◌≤◌, List, [], length, refl, sym, ◌∙◌, ap, subst, arith}
use Rattle.std.proofs.lemmas.Bool.{cases_eq}
use Rattle.fo_image.specs.declared.record.Record.{Record}
use Rattle.fo_image.specs.declared.types.Score.{Score}
use Rattle.fo_image.specs.declared.types.Pointer.{Pointer}
use Rattle.fo_image.specs.declared.types.Pointer.TheVariants.{Nil, Local, Score as Held}
use Rattle.fo_crash.specs.Images.{Image, Arena, Link, IsArena, target, meant, goes, bytes_at, depth_of, leaf_path, to_block}
use Rattle.fo_crash.specs.Places.{super_place, IsPlaced, RanksFall}
use Rattle.fo_crash.specs.Spots.{Spot, FewSlots}
use Rattle.fo_good.specs.Trees.{Lists, IsWithin, size_of}
use Rattle.fo_ports.specs.State.{State}
use Rattle.fo_shown.specs.Shown.{IsShownAt}
use Rattle.fo_dir_put.specs.Differ.{Distinct}
use Rattle.fo_dir_put.specs.Names.{Clash}
use Rattle.fo_dir_put.specs.Once.{StandOnce}
use Rattle.fo_dir_images.proofs.Trailing.{link_of, Rooms}
use Rattle.fo_dir_images.proofs.Listing.{IsAt, listed, contained, same_place}
use Rattle.fo_dir_names.specs.Names.{IsOfData}
use Rattle.fo_dir_names.proofs.Ranks.{Shape, AtRecords, leaf_at_records}

-- what is known of an image where the device tells
pub record IsRanked (s : State) (image : Image) : Type 0 where
  pub placed : IsPlaced s.stands image
  pub few : FewSlots s.stands image
  pub fall : RanksFall s.stands image

-- A source of records at the end of a trail of entries: it is data, not too deep, its size lies within its depth, and no leaf is archived.
pub record IsSource (arena : Arena) (image : Image) (way : List ℕ) (meta : Link) : Type 0 where
  pub link : meta ≡ link_of arena image way
  pub rooms : Rooms arena image way
  pub pairs : ℕ
  pub shape : Shape pairs way
  pub deep : pairs ≤ 64
  pub of_data : IsOfData meta.slot
  pub room : size_of meta.slot ≤ 8192 * 409 ^ depth_of meta.slot
  pub unheld : (k : ℕ) (score : Score) → IsWithin meta.slot k → target ((goes arena image meta (leaf_path meta.slot k)).slot) ≢ Held score

-- ---- the block of a leaf with records

within_depth : (size k depth : ℕ) → 8192 * k < size → size ≤ 8192 * 409 ^ depth → k < 409 ^ depth
within_depth size k depth lt le = omega (arith, lt, le)

-- a leaf that lists a record, and isn't archived, is a block of the device
leaf_block : {arena : Arena} {image : Image} {way : List ℕ} {meta : Link} {k j : ℕ} {r : Record} → IsSource arena image way meta → Lists arena image meta k j r → (b : ℕ) × IsAt arena image meta k b
leaf_block {arena} {image} {way} {meta} {k} {j} {r} source l = by (target end.slot) refl
  where
    end : Link
    end = goes arena image meta (leaf_path meta.slot k)

    by : (p : Pointer) → target end.slot ≡ p → (b : ℕ) × IsAt arena image meta k b
    by Nil e =
        let bytes : bytes_at arena image meta (leaf_path meta.slot k) ≡ [] = ap (λ p. (meant arena image end.kind p).bytes) e in
        let none = ap length (sym bytes ∙ l.spelled.bytes_are) in
        absurd (omega (arith, none))
    by (Held score) e = absurd (source.unheld k score l.within e)
    by (Local b) e = (b, record { room = within_depth (size_of meta.slot) k (depth_of meta.slot) l.within source.room; leads = e })

-- Leaf k of a source is this block, at this spot.
record Standing (s : State) (arena : Arena) (image : Image) (way : List ℕ) (meta : Link) (k : ℕ) : Type 0 where
  block : ℕ
  is_at : IsAt arena image meta k block
  found : AtRecords s.stands image way (link_of arena image way).slot k block

module _ {s : State} {arena : Arena} {image : Image} (super_at : s.stands 1 super_place) (ranked : IsRanked s image) (is : IsArena arena) (root : ℕ) (named : (image 1).slot 0 ≡ to_block root) where
  standing : {way : List ℕ} {meta : Link} {k j : ℕ} {r : Record} → IsSource arena image way meta → Lists arena image meta k j r → Standing s arena image way meta k
  standing {way} {meta} {k} {j} {r} source l =
      let leaf = leaf_block source l in
      let moved : IsAt arena image (link_of arena image way) k leaf.0 = subst (λ w. IsAt arena image w k leaf.0) source.link leaf.1 in
      record {
        block = leaf.0;
        is_at = leaf.1;
        found = leaf_at_records ranked.placed ranked.few ranked.fall super_at arena is root named source.pairs way k leaf.0 source.shape source.deep
            (subst (λ (w : Link). IsOfData w.slot) source.link source.of_data)
            (record { rooms = source.rooms; room = moved.room; leads = moved.leads });
      }

  shown_at : {images : Image → Type 0} {way : List ℕ} {meta : Link} {k : ℕ} → images image → (x : Standing s arena image way meta k) → IsShownAt images x.found.at ((image x.block).bytes)
  shown_at may x = record {
    image = image;
    is = may;
    block = x.block;
    found = record { top = 1; is_top = refl; path = x.found.on.path; leads = x.found.on.leads; spot = x.found.on.spot_is };
    same = refl;
  }

  -- records of one source
  pub one_source : {images : Image → Type 0} {way : List ℕ} {meta : Link} {k j m n : ℕ} {r q : Record} → images image → StandOnce images → IsSource arena image way meta
      → Lists arena image meta k j r → Lists arena image meta m n q → Clash r q → (k ≡ m) × (j ≡ n)
  one_source {images} {way} {meta} {k} {j} {m} {n} {r} {q} may once source l t clash = ⊎_elim same other (cases_eq k m)
    where
      x : Standing s arena image way meta k
      x = standing source l

      y : Standing s arena image way meta m
      y = standing source t

      same : k ≡ m → (k ≡ m) × (j ≡ n)
      same e =
          let here : Lists arena image meta m j r = subst (λ i. Lists arena image meta i j r) e l in
          let first = listed y.is_at here in
          let distinct = once.within y.found.at ((image y.block).bytes) (y.found.kind_is, y.found.rank_is) (shown_at may y) in
          let place = same_place here.before t.before r q here.after t.after (sym first ∙ listed y.is_at t) (subst (λ xs. Distinct xs) first distinct.are) clash in
          (e, sym here.place ∙ place ∙ t.place)

      other : k ≢ m → (k ≡ m) × (j ≡ n)
      other ne = absurd (once.between x.found.at y.found.at ((image x.block).bytes) ((image y.block).bytes) r q
          (x.found.kind_is, x.found.rank_is) (y.found.kind_is, y.found.rank_is)
          (λ e. ne (sym x.found.index_is ∙ ap (λ (p : Spot). p.place.index) e ∙ y.found.index_is))
          (shown_at may x) (shown_at may y) (contained x.is_at l) (contained y.is_at t)
          (inr ((x.found.trail_is ∙ sym y.found.trail_is, x.found.tag_is ∙ sym y.found.tag_is), clash)))

  -- records of two
  pub two_sources : {images : Image → Type 0} {way other : List ℕ} {meta beside : Link} {k j m n : ℕ} {r q : Record} → images image → StandOnce images → IsSource arena image way meta → IsSource arena image other beside
      → way ≢ other → Lists arena image meta k j r → Lists arena image beside m n q → r.number ≢ q.number
  two_sources {images} {way} {other} {meta} {beside} {k} {j} {m} {n} {r} {q} may once source second ne l t = λ number.
      let x = standing source l in
      let y = standing second t in
      once.between x.found.at y.found.at ((image x.block).bytes) ((image y.block).bytes) r q
      (x.found.kind_is, x.found.rank_is) (y.found.kind_is, y.found.rank_is)
      (λ e. ne (sym x.found.trail_is ∙ ap (λ (p : Spot). p.trail) e ∙ y.found.trail_is))
      (shown_at may x) (shown_at may y) (contained x.is_at l) (contained y.is_at t)
      (inl number)
