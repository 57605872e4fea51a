-- Bytes of a leaf that waited for a leaf of entries are put.
use Rattle.std.proofs.Common.{inl, inr, ⊎_elim, ℕ, ◌+◌, ◌*◌, ◌/◌, ◌%◌, List, sym, subst}
use Rattle.fo_image.specs.declared.record.Record.{Record}
use Rattle.fo_crash.specs.declared.slot.Slot.{Slot}
use Rattle.fo_crash.specs.Names.{SameUse}
use Rattle.fo_crash.specs.Images.{Image, Reaches, SameImage, to_block, with_bytes}
use Rattle.fo_crash.specs.Spots.{Spot, FoundAt}
use Rattle.fo_crash.specs.Steps.{AddsBytes, AddsNothing, PutsBytes}
use Rattle.fo_crash.proofs.Updates.{bytes_slot}
use Rattle.fo_ports.specs.State.{State, WaitsForPairs, WaitsInUse}
use Rattle.fo_ports.specs.Shown.{active}
use Rattle.fo_dir_put.specs.Paired.{HasBoth}
use Rattle.fo_dir_put.proofs.Once.{found_on}
use Rattle.fo_dir_put.proofs.Paired.{first_used}
use Rattle.fo_dir_pairs.specs.Pairs.{PairsStand, entries_spot}
use Rattle.fo_dir_pairs.specs.Calls.{HasWaited, HavePairs, IsLeafFor}
use Rattle.fo_dir_pairs.proofs.Bytes.{AreBacked, IsBacked, bytes_stand}
use Rattle.fo_dir_pairs.proofs.Entries.{both_used}
use Rattle.fo_dir_pairs.proofs.Finding.{HasWays, reach_found, same_spot, there_found}

-- What is known where the device tells.
pub record IsReady (s : State) (leaf entries : ℕ) : Type 0 where
  pub ways : HasWays s
  pub linked : Reaches s.now (to_block 1) leaf
  pub hangs : (image : Image) → s.may_leave image → Reaches image (to_block 1) entries

-- a pair that waited is in an image with the bytes
backed_here : {s : State} {leaf entries : ℕ} {image : Image} {r : Record} → IsReady s leaf entries → s.may_leave (with_bytes image leaf ((s.now leaf).bytes)) → HasWaited s entries image
    → HasBoth entries s.now r → (s.clearing entries (2 * (r.slot % 102)) → ⊥) → IsLeafFor s leaf (r.slot / 102) entries → IsBacked s leaf image r
backed_here {s} {leaf} {entries} {image} {r} ready was waited both free for = record {
  here = λ p found. record {
    block = entries;
    found = found_on (λ a i. bytes_slot image leaf ((s.now leaf).bytes) a i) (there_found ready.ways (ready.hangs other was) was (at_spot p found));
    both = let w = waited.each (r.slot % 102) r.generation (first_used ((s.now entries).slot (2 * (r.slot % 102))) r both.first) free in both_used {d = entries} {e = entries} {x = s.now} {y = image} w.0 w.1 both;
  };
  memory = λ p found. record { block = entries; found = at_spot p found; both = both };
}
  where
    other : Image
    other = with_bytes image leaf ((s.now leaf).bytes)

    at_spot : (p : Spot) → FoundAt active image leaf p → FoundAt active s.now entries (entries_spot p (r.slot / 102))
    at_spot p found =
        let h = reach_found ready.linked in
        let same = same_spot ready.ways ready.ways.present was h.1 (found_on {other = other} (λ a i. sym (bytes_slot image leaf ((s.now leaf).bytes) a i)) found) in
        for.each p (subst (λ x. FoundAt active s.now leaf x) same h.1)

pub waited_stand : (old new : State) (leaf entries : ℕ) (bytes : List ℕ) → AddsBytes old.now leaf bytes (HasWaited old entries) old.may_leave new.may_leave → PutsBytes leaf bytes old.now new.now → HavePairs leaf entries bytes old → PairsStand old
    → ((image : Image) → old.may_leave image → IsReady old leaf entries) → PairsStand new
waited_stand old new leaf entries bytes adds puts have stand ready = bytes_stand old leaf bytes (HasWaited old entries) backed stand new adds puts.slots
  where
    backed : AreBacked old leaf bytes (HasWaited old entries)
    backed r has = ⊎_elim
        (λ st. inl st)
        (λ h. inr (λ image was waited. backed_here {r = r} (ready (with_bytes image leaf ((old.now leaf).bytes)) was) was waited h.0 h.1 h.2))
        (have.each r has)

-- What the two calls of a put say: the leaf was made to wait for the entries, and then got the bytes.
pub waits_add : {s u : State} {leaf entries : ℕ} {bytes : List ℕ} {later : Image → Type 0} → WaitsForPairs leaf entries s u → SameImage u.now s.now → ((image : Image) → u.may_leave image → WaitsInUse u) → ((b j : ℕ) → u.clearing b j → s.clearing b j) → AddsNothing s.may_leave u.may_leave
    → AddsBytes u.now leaf bytes (λ image. (on j : ℕ) → u.waits leaf on j → (u.clearing on j → ⊥) → SameUse ((image on).slot j) ((u.now on).slot j)) u.may_leave later → AddsBytes s.now leaf bytes (HasWaited s entries) s.may_leave later
waits_add {s} {u} {leaf} {entries} {bytes} waits same in_use order first adds = record {
  each = λ image is. ⊎_elim
      (λ was. inl (first.each image was))
      (λ h. inr (h.0, first.each (with_bytes image leaf ((s.now leaf).bytes)) (subst (λ xs. u.may_leave (with_bytes image leaf xs)) ((same.each leaf).bytes) h.1), waited image (in_use (with_bytes image leaf ((u.now leaf).bytes)) h.1) h.2))
      (adds.each image is);
}
  where
    waited : (image : Image) → WaitsInUse u → ((on j : ℕ) → u.waits leaf on j → (u.clearing on j → ⊥) → SameUse ((image on).slot j) ((u.now on).slot j)) → HasWaited s entries image
    waited image used beside = record {
      each = λ k g taken free.
          let w = waits.each k g taken free in (
            subst (λ (x : Slot). SameUse ((image entries).slot (2 * k)) x) ((same.each entries).slots (2 * k)) (beside entries (2 * k) w.0 (λ c. free (order entries (2 * k) c))),
            subst (λ (x : Slot). SameUse ((image entries).slot (2 * k + 1)) x) ((same.each entries).slots (2 * k + 1)) (beside entries (2 * k + 1) w.1 (λ c. free (order entries (2 * k) (used.first entries k c)))),
          );
    }
