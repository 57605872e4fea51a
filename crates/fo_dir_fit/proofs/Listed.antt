-- A record that an image lists is shown at the spot of its leaf, and the block at the entries' spot is the leaf that the image reads its pair in.
use Rattle.std.proofs.Common.{◌≡◌, ℕ, ◌+◌, ◌*◌, ◌/◌, ◌%◌, ◌^◌, ◌<◌, ◌≤◌, true, List, [], ◌∷◌, ◌++◌, length, refl, sym, ◌∙◌, ap, subst, append_assoc, arith}
use Rattle.std.proofs.lemmas.List.{append-nil}
use Rattle.fo_image.specs.declared.record.Record.{Record}
use Rattle.fo_image.specs.declared.types.Pointer.{Pointer}
use Rattle.fo_image.specs.declared.types.Pointer.TheVariants.{Nil, Local, Score as Held}
use Rattle.fo_crash.specs.declared.slot.Slot.{Slot}
use Rattle.fo_crash.specs.declared.slot.Slot.TheVariants.{Pointer as To, Entry as Head, Prev}
use Rattle.fo_crash.specs.Images.{Image, Arena, Link, IsArena, target, meant, goes, bytes_at, depth_of, leaf_path, entry_of, file_link, to_block}
use Rattle.fo_crash.specs.Places.{super_place, tag_of_top}
use Rattle.fo_good.specs.of_world.Step.{is_dir_mode}
use Rattle.fo_good.specs.Trees.{IsDir, IsEntries, IsFirst, IsSecond, Lists, size_of}
use Rattle.fo_good.specs.Trees.IsDir.{top as dir_top, below as dir_below}
use Rattle.fo_ports.specs.State.{State}
use Rattle.fo_dir_pairs.specs.Pairs.{entries_trail, entries_spot, HasFirst, HasPairAt, ShowsRecord, IsPaired}
use Rattle.fo_dir_images.specs.Leaves.{Records}
use Rattle.fo_dir_images.specs.Whole.{HasEntries}
use Rattle.fo_dir_images.proofs.Listing.{IsAt, contained}
use Rattle.fo_dir_images.proofs.Same.{reads_dirs}
use Rattle.fo_dir_images.proofs.Siding.{numbers, entries_top}
use Rattle.fo_dir_images.proofs.Trailing.{link_of, AtTrail}
use Rattle.fo_dir_names.specs.Names.{IsOfData, IsPlainDir}
use Rattle.fo_dir_names.proofs.Listed.{plain_source}
use Rattle.fo_dir_names.proofs.Ranks.{AtRecords, leaf_at_records}
use Rattle.fo_dir_names.proofs.Sources.{IsRanked, IsSource}
use Rattle.fo_dir_fit.specs.Fit.{IsPairOfDir, IsRootDir, IsPlainTo, ListsPairs}
use Rattle.fo_dir_fit.proofs.Holders.{lowered, entry_at, first_held}
use Rattle.fo_dir_fit.proofs.Spots.{read_found}

-- ---- the leaf of a record

within_depth : (size k depth : ℕ) → 8192 * k < size → size ≤ 8192 * 409 ^ depth → k < 409 ^ depth
within_depth size k depth lt le = omega (arith, lt, le)

-- a leaf that lists a record, and isn't archived, is a block of the device
leaf_block : {arena : Arena} {image : Image} {way : List ℕ} {meta : Link} {k j : ℕ} {r : Record} → IsSource arena image way meta → Lists arena image meta k j r → (b : ℕ) × IsAt arena image meta k b
leaf_block {arena} {image} {way} {meta} {k} {j} {r} source l = by (target end.slot) refl
  where
    end : Link
    end = goes arena image meta (leaf_path meta.slot k)

    by : (p : Pointer) → target end.slot ≡ p → (b : ℕ) × IsAt arena image meta k b
    by Nil e =
        let bytes : bytes_at arena image meta (leaf_path meta.slot k) ≡ [] = ap (λ p. (meant arena image end.kind p).bytes) e in
        let none = ap length (sym bytes ∙ l.spelled.bytes_are) in
        absurd (omega (arith, none))
    by (Held score) e = absurd (source.unheld k score l.within e)
    by (Local b) e = (b, record { room = within_depth (size_of meta.slot) k (depth_of meta.slot) l.within source.room; leads = e })

-- ---- entries

first_leaf : (pair : ℕ) → 2 * pair / 204 ≡ pair / 102
first_leaf pair = omega arith

first_place : (pair : ℕ) → 2 * pair % 204 ≡ 2 * (pair % 102)
first_place pair = omega arith

second_leaf : (pair : ℕ) → (2 * pair + 1) / 204 ≡ pair / 102
second_leaf pair = omega arith

second_place : (pair : ℕ) → (2 * pair + 1) % 204 ≡ 2 * (pair % 102) + 1
second_place pair = omega arith

-- the pair that a directory's record names
named_pair : (s t : Slot) (r : Record) → IsFirst s r → IsSecond t r → is_dir_mode r.mode ≡ true → IsEntries s × (tag_of_top t ≡ tag_of_top s + 1)
named_pair (Head e) (Head f) r first second dir =
    let one = first.3 in
    let two = second.2 (second.0 ∙ dir) in
    ((first.0, first.2 ∙ dir), omega (arith, one, two))
named_pair (Head e) (To p) r first second dir = absurd second
named_pair (Head e) (Prev epoch at) r first second dir = absurd second
named_pair (To p) t r first second dir = absurd first
named_pair (Prev epoch at) t r first second dir = absurd first

pub pair_of_record : {arena : Arena} {image : Image} {entries : Link} {r : Record} → HasEntries arena image entries r → is_dir_mode r.mode ≡ true → IsPairOfDir (entry_of arena image entries (2 * r.slot)) (entry_of arena image entries (2 * r.slot + 1))
pair_of_record {arena} {image} {entries} {r} has dir =
    let both = named_pair (entry_of arena image entries (2 * r.slot)).slot (entry_of arena image entries (2 * r.slot + 1)).slot r has.first has.second dir in
    record { in_use = both.0; tags = both.1 }

module _ {s : State} {arena : Arena} {image : Image} (super_at : s.stands 1 super_place) (ranked : IsRanked s image) (paired : IsPaired image) (is : IsArena arena) (root : ℕ) (named : (image 1).slot 0 ≡ to_block root) where
  -- the entries of a directory are those whose trail is that of its records but for the last
  entries_link : {trail : List ℕ} {entries meta : Link} → IsDir arena image root trail entries meta → link_of arena image (entries_trail (numbers Records trail)) ≡ entries
  entries_link {trail} {entries} {meta} dir =
      sym (lowered arena image trail (0 ∷ 0 ∷ []) (1 ∷ 0 ∷ []) refl)
      ∙ ap (λ w. file_link arena image w trail) (entries_top arena image root named)
      ∙ ((reads_dirs arena image root).each trail entries meta dir).0

  pub listed_fits : (k j : ℕ) (trail : List ℕ) (entries meta : Link) (r : Record) → IsDir arena image root trail entries meta → IsPlainDir arena image root trail meta → IsPairOfDir entries meta → Lists arena image meta k j r → HasEntries arena image entries r
  listed_fits k j trail entries meta r dir plain pair l = record {
    room = at.room;
    first = subst (λ x. IsFirst x r) (sym (entry_at arena image entries (r.slot / 102) has.block (2 * r.slot) (2 * (r.slot % 102)) (first_leaf r.slot) (first_place r.slot) at)) has.both.first;
    second = subst (λ x. IsSecond x r) (sym (entry_at arena image entries (r.slot / 102) has.block (2 * r.slot + 1) (2 * (r.slot % 102) + 1) (second_leaf r.slot) (second_place r.slot) at)) has.both.second;
  }
    where
      way : List ℕ
      way = numbers Records trail

      source : IsSource arena image way meta
      source = plain_source named dir plain

      leaf : (b : ℕ) × IsAt arena image meta k b
      leaf = leaf_block source l

      at_trail : AtTrail arena image way k leaf.0
      at_trail =
          let moved : IsAt arena image (link_of arena image way) k leaf.0 = subst (λ w. IsAt arena image w k leaf.0) source.link leaf.1 in
          record { rooms = source.rooms; room = moved.room; leads = moved.leads }

      found : AtRecords s.stands image way (link_of arena image way).slot k leaf.0
      found = leaf_at_records ranked.placed ranked.few ranked.fall super_at arena is root named source.pairs way k leaf.0 source.shape source.deep (subst (λ (w : Link). IsOfData w.slot) source.link source.of_data) at_trail

      tag_is : tag_of_top meta.slot ≡ found.at.place.tag
      tag_is = ap (λ (w : Link). tag_of_top w.slot) source.link ∙ sym found.tag_is

      first : HasFirst image found.at
      first = by entries.slot refl pair.in_use pair.tags
        where
          by : (t : Slot) → entries.slot ≡ t → IsEntries t → tag_of_top meta.slot ≡ tag_of_top t + 1 → HasFirst image found.at
          by (To p) q used tags = absurd used
          by (Prev epoch at) q used tags = absurd used
          by (Head x) q used tags =
              let held = first_held ranked.placed ranked.few super_at arena is source.pairs way k leaf.0 x source.shape at_trail (ap (λ (w : Link). w.slot) (entries_link dir) ∙ q) in
              record {
                block = held.block;
                at = held.at;
                slot = held.slot;
                entry = x;
                found = held.found;
                holds = held.holds;
                within = held.within;
                is = held.has;
                used = used;
                trail_is = held.trail_is ∙ ap entries_trail (sym found.trail_is);
                tag_is = omega (arith, tags, tag_is);
              }

      shows : ShowsRecord image found.at r
      shows = record {
        of = (found.kind_is, found.rank_is);
        block = leaf.0;
        found = record { top = 1; is_top = refl; path = found.on.path; leads = found.on.leads; spot = found.on.spot_is };
        listed = contained leaf.1 l;
        first = first;
      }

      has : HasPairAt image found.at r
      has = paired.each found.at r shows

      at : IsAt arena image entries (r.slot / 102) has.block
      at =
          let read = read_found ranked.placed ranked.few super_at arena has.block (entries_spot found.at (r.slot / 102)) refl has.found in
          subst (λ w. IsAt arena image w (r.slot / 102) has.block) (ap (λ t. link_of arena image (entries_trail t)) found.trail_is ∙ entries_link dir) (record { room = read.room; leads = read.leads })

  -- ---- along a trail

  plain_up : (up : List ℕ) (pair : ℕ) → IsPlainTo arena image root (up ++ pair ∷ []) → IsPlainTo arena image root up
  plain_up up pair plain = record { each = λ front rest entries meta e. plain.each front (rest ++ pair ∷ []) entries meta (sym (append_assoc front rest (pair ∷ [])) ∙ ap (λ t. t ++ pair ∷ []) e) }

  plain_at : (trail : List ℕ) (entries meta : Link) → IsPlainTo arena image root trail → IsDir arena image root trail entries meta → IsPlainDir arena image root trail meta
  plain_at trail entries meta plain dir = plain.each trail [] entries meta (append-nil trail) dir

  -- each directory to which names lead has its pair in use where the root directory has
  pair_of : (trail : List ℕ) (entries meta : Link) → IsDir arena image root trail entries meta → IsPlainTo arena image root trail → IsRootDir arena image root → IsPairOfDir entries meta
  pair_of trail entries meta dir_top plain begins = begins
  pair_of trail entries meta (dir_below up e m k j r dir listed folder) plain begins =
      let above = plain_up up r.slot plain in
      pair_of_record (listed_fits k j up e m r dir (plain_at up e m above dir) (pair_of up e m dir above begins) listed) folder

  pub along_fits : (k j : ℕ) (trail : List ℕ) (entries meta : Link) (r : Record) → IsDir arena image root trail entries meta → IsPlainTo arena image root trail → IsRootDir arena image root → Lists arena image meta k j r → HasEntries arena image entries r
  along_fits k j trail entries meta r dir plain begins l = listed_fits k j trail entries meta r dir (plain_at trail entries meta plain dir) (pair_of trail entries meta dir plain begins) l

pub lists_pairs : (s : State) → s.stands 1 super_place → ((image : Image) → s.may_leave image → IsRanked s image) → ((image : Image) → s.may_leave image → IsPaired image) → ListsPairs s
lists_pairs s super_at ranked paired = record {
  one = λ arena image root k j trail entries meta r is may named dir plain pair l. listed_fits {s = s} {arena = arena} {image = image} super_at (ranked image may) (paired image may) is root named k j trail entries meta r dir plain pair l;
  along = λ arena image root k j trail entries meta r is may named dir plain begins l. along_fits {s = s} {arena = arena} {image = image} super_at (ranked image may) (paired image may) is root named k j trail entries meta r dir plain begins l;
}
