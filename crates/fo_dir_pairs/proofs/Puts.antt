-- An entry of a free pair is put, which leads nowhere.
use Rattle.std.proofs.Common.{◌≡◌, ◌≢◌, ◌⊎◌, ⊎_elim, ℕ, suc, ◌+◌, ◌-◌, ◌*◌, ◌/◌, ◌%◌, subst, arith}
use Rattle.fo_image.specs.declared.types.Entry.{Entry}
use Rattle.fo_image.specs.declared.types.Pointer.TheVariants.{Nil}
use Rattle.fo_image.specs.declared.record.Record.{Record}
use Rattle.fo_crash.specs.declared.slot.Slot.TheVariants.{Entry as Head}
use Rattle.fo_crash.specs.Images.{Image, Reaches, target, to_block, with_slot}
use Rattle.fo_crash.specs.Names.{IsInUse}
use Rattle.fo_crash.specs.Spots.{Spot, FoundAt}
use Rattle.fo_ports.specs.State.{State}
use Rattle.fo_ports.specs.Shown.{active}
use Rattle.fo_dir_put.specs.Paired.{HasBoth}
use Rattle.fo_dir_put.proofs.Paired.{first_used}
use Rattle.fo_dir_pairs.specs.Pairs.{IsNamed, HasPairAt, ShowsRecord, PairsStand, entries_spot, entries_trail}
use Rattle.fo_dir_pairs.proofs.Beside.{found_beside, both_beside, which_pair}
use Rattle.fo_dir_pairs.proofs.Finding.{HasWays, reach_found, same_spot, same_block}

-- a pair whose first entry is in no use is no record's
pub free_none : {at k : ℕ} {image : Image} {r : Record} → ((g : ℕ) → IsInUse ((image at).slot (2 * k)) g → ⊥) → r.slot % 102 ≡ k → HasBoth at image r → ⊥
free_none {at} {k} {image} {r} free pair h = free r.generation (subst (λ m. IsInUse ((image at).slot (2 * m)) r.generation) pair (first_used ((image at).slot (2 * (r.slot % 102))) r h.first))

-- one less and one more
pub whole : {e t : ℕ} → suc e ≡ t → suc (t - 1) ≡ t
whole s = omega (arith, s)

-- No record that an image shows has a pair that is free in memory, in a leaf of a directory whose first entry memory has in use.
pub free_unshown : {s : State} {at k : ℕ} {image : Image} {p : Spot} {r : Record} → HasWays s → PairsStand s → ((x : Spot) → FoundAt active s.now at x → IsNamed s.now x.trail (suc x.place.tag)) → ((g : ℕ) → IsInUse ((s.now at).slot (2 * k)) g → ⊥)
    → s.may_leave image → ShowsRecord image p r → FoundAt active s.now at (entries_spot p (r.slot / 102)) → r.slot % 102 ≡ k → ⊥
free_unshown {s} {at} {k} {image} {p} {r} ways stand first free is shows found pair =
    let h = stand.memory image p r is shows (subst (λ t. IsNamed s.now (entries_trail p.trail) t) (whole shows.first.tag_is) (first (entries_spot p (r.slot / 102)) found)) in
    free_none {image = s.now} {r = r} free pair (subst (λ e. HasBoth e s.now r) (same_block ways ways.present h.found found) h.both)

-- where an image finds a block that hangs in memory, memory does
pub found_now : {s : State} {at : ℕ} {image : Image} {p : Spot} → HasWays s → Reaches s.now (to_block 1) at → s.may_leave image → FoundAt active image at p → FoundAt active s.now at p
found_now {s} {at} ways linked is found = let here = reach_found linked in subst (λ x. FoundAt active s.now at x) (same_spot ways ways.present is here.1 found) here.1

module _ (image other : Image) (at i k : ℕ) (which : (i ≡ 2 * k) ⊎ (i ≡ 2 * k + 1)) (nil : target ((image at).slot i) ≡ Nil) (same : (b j : ℕ) → (b ≢ at) ⊎ (j ≢ i) → (other b).slot j ≡ (image b).slot j) where
  -- a record has its pair in the other image, too, if it is not this pair
  pub pair_beside : (p : Spot) (r : Record) → (FoundAt active image at (entries_spot p (r.slot / 102)) → r.slot % 102 ≡ k → HasBoth at image r → ⊥) → HasPairAt image p r → HasPairAt other p r
  pair_beside p r not h = record {
    block = h.block;
    found = found_beside image other at i nil same h.found;
    both = ⊎_elim
        (λ is. absurd (not (subst (λ e. FoundAt active image e (entries_spot p (r.slot / 102))) is.0 h.found) is.1 (subst (λ e. HasBoth e image r) is.0 h.both)))
        (λ ne. both_beside image other at i k h.block r which same ne h.both)
        (which_pair at k h.block r);
  }

pub same_entry : {e f : Entry} → Head e ≡ Head f → e ≡ f
same_entry e = cc

-- what memory had put back
abbrev pub before : State → ℕ → ℕ → Image → Image
before old at i image = with_slot image at i ((old.now at).slot i)
