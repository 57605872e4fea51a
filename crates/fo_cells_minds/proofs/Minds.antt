-- What a cache changes is a step of what is known.
use Rattle.std.proofs.Common.{◌≡◌, ◌⊎◌, inl, inr, ⊎_elim, ℕ, ◌<◌, Bool, cond, List, length, [], ◌∷◌, map, sym, ◌∙◌, ap, subst}
use Rattle.std.specs.List.{Contains}
use Rattle.fo_disk.specs.Disk.{Block, versions_of, latest_of, IsSettled}
use Rattle.fo_disk.specs.Disk.{Content as Holds}
use Rattle.fo_image.specs.declared.types.Label.{Label}
use Rattle.fo_image.specs.declared.types.Pointer.TheVariants.{Local}
use Rattle.fo_crash.specs.declared.slot.Slot.{Slot}
use Rattle.fo_crash.specs.declared.place.Place.{Place}
use Rattle.fo_crash.specs.Images.{Content, target}
use Rattle.fo_crash.specs.Places.{place_below}
use Rattle.fo_crash.specs.Names.{SameUse}
use Rattle.fo_cells.specs.Known.{Clear, IsWait, IsClear, IsSince, HasSlot, Stands, seen}
use Rattle.fo_cells.specs.Writes.{SameDevice, Puts, Gives, Fires, Ends}
use Rattle.fo_cells.specs.Calls.{PutsInto, Awaits, WaitsMore}
use Rattle.fo_cells.specs.Device.{Clearing, Mind, since_of, known}
use Rattle.fo_cells.proofs.Calls.{among_map, map_among}
use Rattle.fo_cells.proofs.Standing.{first_among, seen_is}
use Rattle.fo_cells.proofs.Flags.{one_latest}
use Rattle.fo_cells_out.proofs.Queue.{nothing_among}
use Rattle.fo_cells_queue.specs.Queue.{NewLabel}
use Rattle.fo_cells_minds.specs.Minds.{SameWrites, RefillsMind, PutsMind, AwaitsMind, WaitsMind, FiresMind, GivesMind, LabelsMind}

-- THE DEVICE as it was
pub same_device : {m n : Mind} (holds : Holds) → SameWrites m n → SameDevice (known m holds) (known n holds)
same_device {m} {n} holds w = record {
  versions = ap (λ (r : ℕ → Block → Content). λ b. map (r b) (versions_of holds b)) w.read;
  newborn = w.newborn;
  late = ap (λ (r : ℕ → Block → Content). λ b. cond (n.complete b) (r b (latest_of (versions_of holds b)) ∷ []) []) w.read ∙ ap (λ (x : ℕ → Bool). λ b. cond (x b) (m.read b (latest_of (versions_of holds b)) ∷ []) []) w.complete;
  labels = ap (λ (l : ℕ → Block → Label). λ b. map (l b) (versions_of holds (n.label_block b))) w.label_in ∙ ap (λ (k : ℕ → ℕ). λ b. map (m.label_in b) (versions_of holds (k b))) w.label_block;
}

-- WAITING SLOTS
clear_from : (holds : Holds) (ks : List Clearing) {at i leaf : ℕ} → IsClear (map (since_of holds) ks) at i leaf → (k : Clearing) × Contains ks k × (k.at ≡ at) × (k.slot ≡ i) × (k.leaf ≡ leaf)
clear_from holds ks c =
    let (k, among, e) = among_map (since_of holds) ks c.clear c.among in
    (k, among, ap (λ (y : Clear). y.at) e ∙ c.is.0, ap (λ (y : Clear). y.slot) e ∙ c.is.1, ap (λ (y : Clear). y.leaf) e ∙ c.is.2)

clear_to : (holds : Holds) (ks : List Clearing) (k : Clearing) {at i leaf : ℕ} → Contains ks k → k.at ≡ at → k.slot ≡ i → k.leaf ≡ leaf → IsClear (map (since_of holds) ks) at i leaf
clear_to holds ks k among a s l = record { clear = since_of holds k; among = map_among (since_of holds) ks k among; is = (a, s, l) }

since_from : (holds : Holds) (ks : List Clearing) {at i leaf : ℕ} {bytes : List ℕ} → IsSince (map (since_of holds) ks) at i leaf bytes → (k : Clearing) × Contains ks k × (k.at ≡ at) × (k.slot ≡ i) × (k.leaf ≡ leaf) × Contains ((since_of holds k).since) bytes
since_from holds ks {bytes = bytes} c =
    let (k, among, e) = among_map (since_of holds) ks c.clear c.among in
    (k, among, ap (λ (y : Clear). y.at) e ∙ c.is.0, ap (λ (y : Clear). y.slot) e ∙ c.is.1, ap (λ (y : Clear). y.leaf) e ∙ c.is.2, subst (λ (y : Clear). Contains y.since bytes) (sym e) c.has)

since_to : (holds : Holds) (ks : List Clearing) (k : Clearing) {at i leaf : ℕ} {bytes : List ℕ} → Contains ks k → k.at ≡ at → k.slot ≡ i → k.leaf ≡ leaf → Contains ((since_of holds k).since) bytes → IsSince (map (since_of holds) ks) at i leaf bytes
since_to holds ks k among a s l has = record { clear = since_of holds k; among = map_among (since_of holds) ks k among; is = (a, s, l); has = has }

-- THE STEPS
pub bytes_step : {at : ℕ} {bytes : List ℕ} {m n : Mind} (holds : Holds) → RefillsMind at bytes m n → PutsInto at bytes (known m holds) (known n holds)
bytes_step holds r = record {
  memory = r.memory;
  device = same_device holds r.writes;
  tops = r.tops;
  label = r.label;
  low = r.writes.low;
  waits = r.waits;
  clears = ap (λ (ks : List Clearing). map (since_of holds) ks) r.clears;
  free = r.free;
}

pub slot_step : {at i : ℕ} {s : Slot} {m n : Mind} (holds : Holds) → PutsMind at i s m n → ((p : Place) (b : ℕ) → Stands (known m holds) at p → target s ≡ Local b → Stands (known m holds) b (place_below p i s) × ((place_below p i s).rank < p.rank)) → Puts at i s (known m holds) (known n holds)
slot_step {at} {i} {s} {m} {n} holds r fits = record {
  memory = r.memory;
  device = same_device holds r.writes;
  label = r.label;
  low = r.writes.low;
  waits = r.waits;
  clears = ap (λ (ks : List Clearing). map (since_of holds) ks) r.clears;
  tops = r.tops;
  unclear = λ leaf c. let k = clear_from holds m.clears c in r.unclear k.0 k.1 k.2 k.3;
  same_use = r.same_use;
  free = r.free;
  fits = λ p b st e. (fits p b st e).0;
  falls = λ p b st e. (fits p b st e).1;
}

pub await_step : {at i leaf : ℕ} {m n : Mind} (holds : Holds) → AwaitsMind at i leaf m n → Awaits at i leaf (known m holds) (known n holds)
await_step {at} {i} {leaf} {m} {n} holds r = record {
  same = record { memory = r.memory; tops = r.tops; label = r.label; low = r.writes.low };
  device = same_device holds r.writes;
  waits = r.waits;
  none = λ l c. let k = clear_from holds m.clears c in r.none k.0 k.1 k.2 k.3;
  clears = λ b j l c.
      let k = clear_from holds n.clears c in ⊎_elim
      (λ was. inl (clear_to holds m.clears k.0 was k.2 k.3 k.4))
      (λ y. inr (sym k.2 ∙ y.0, sym k.3 ∙ y.1, sym k.4 ∙ y.2))
      (r.clears k.0 k.1);
  since = λ b j l bytes was c.
      let k = since_from holds n.clears c in ⊎_elim
      (λ old. since_to holds m.clears k.0 old k.2 k.3 k.4 k.5)
      (λ y. absurd (nothing_among bytes (subst (λ v. Contains (cond v (latest_of (versions_of holds (k.0).leaf) ∷ []) []) bytes) y.3 k.5)))
      (r.clears k.0 k.1);
  begins = λ bytes c.
      let k = since_from holds n.clears c in ⊎_elim
      (λ old. absurd (r.none k.0 old k.2 k.3))
      (λ y. absurd (nothing_among bytes (subst (λ v. Contains (cond v (latest_of (versions_of holds (k.0).leaf) ∷ []) []) bytes) y.3 k.5)))
      (r.clears k.0 k.1);
}

pub wait_step : {m n : Mind} (holds : Holds) → WaitsMind m n → ((leaf on j : ℕ) → IsWait m.waits leaf on j → IsWait n.waits leaf on j) → WaitsMore (known m holds) (known n holds)
wait_step holds r more = record {
  same = record { memory = r.memory; tops = r.tops; label = r.label; low = r.writes.low };
  device = same_device holds r.writes;
  clears = ap (λ (ks : List Clearing). map (since_of holds) ks) r.clears;
  waits = more;
}

pub end_step : {m n : Mind} (holds : Holds) → WaitsMind m n → ((leaf on j : ℕ) → IsWait m.waits leaf on j → IsWait n.waits leaf on j ⊎ ((s : Slot) → HasSlot (seen (known m holds) on) j s → SameUse s ((m.memory on).slot j))) → Ends (known m holds) (known n holds)
end_step holds r ends = record {
  same = record { memory = r.memory; tops = r.tops; label = r.label; low = r.writes.low };
  device = same_device holds r.writes;
  clears = ap (λ (ks : List Clearing). map (since_of holds) ks) r.clears;
  waits = ends;
}

pub clearing_step : {at i leaf : ℕ} {m n : Mind} (holds : Holds) → FiresMind at i leaf m n → IsSettled holds leaf → ((a : ℕ) → IsWait m.waits a at i → (s : Slot) → HasSlot (seen (known m holds) at) i s → SameUse s ((m.memory at).slot i)) → Fires at i leaf (known m holds) (known n holds)
clearing_step {at} {i} {leaf} {m} {n} holds r one in_use = record {
  memory = r.memory;
  device = same_device holds r.writes;
  tops = r.tops;
  label = r.label;
  low = r.writes.low;
  settled = r.settled.0;
  waited = clear_to holds m.clears r.waited r.among r.is.0 r.is.1 r.is.2;
  since_all = λ bytes has.
      let (x, among, e) = among_map (m.read leaf) (versions_of holds leaf) has.content (subst (λ (cs : List Content). Contains cs has.content) (seen_is (known m holds) leaf r.settled.1) has.among) in
      let last : latest_of (versions_of holds leaf) ≡ bytes = sym (one_latest (versions_of holds leaf) one x among) ∙ sym (r.raw x) ∙ ap (λ (y : Content). y.bytes) e ∙ has.is in
      since_to holds m.clears r.waited r.among r.is.0 r.is.1 r.is.2 (subst (λ v. Contains (cond v (latest_of (versions_of holds (r.waited).leaf) ∷ []) []) bytes) (sym r.is.3) (subst (λ b. Contains (latest_of (versions_of holds b) ∷ []) bytes) (sym r.is.2) (subst (λ (b : Block). Contains (latest_of (versions_of holds leaf) ∷ []) b) last (first_among (latest_of (versions_of holds leaf)) []))));
  clears = λ b j l c. let k = clear_from holds n.clears c in let y = r.clears k.0 k.1 in (clear_to holds m.clears k.0 y.0 k.2 k.3 k.4, ⊎_elim (λ ne. inl (λ e. ne (k.2 ∙ e))) (λ ne. inr (λ e. ne (k.3 ∙ e))) y.1);
  since = λ b j l bytes c. let k = since_from holds n.clears c in let y = r.clears k.0 k.1 in since_to holds m.clears k.0 y.0 k.2 k.3 k.4 k.5;
  waits = r.waits;
  in_use = in_use;
}

pub giving_step : {at : ℕ} {content : Content} {p : Place} {m n : Mind} (holds : Holds) → GivesMind at content p m n → (0 < length ((known m holds).versions at)) × (0 < length ((known m holds).labels at)) → ((q : Place) → Stands (known m holds) at q → ⊥) → ((i t : ℕ) → target (content.slot i) ≡ Local t → Stands (known m holds) t (place_below p i (content.slot i)) × ((place_below p i (content.slot i)).rank < p.rank)) → Gives at content p (known m holds) (known n holds)
giving_step {at} {content} {p} {m} {n} holds r there nowhere fits = record {
  nowhere = nowhere;
  of_device = there;
  memory = r.memory;
  versions = ap (λ (y : ℕ → Block → Content). λ b. map (y b) (versions_of holds b)) r.read;
  labels = ap (λ (l : ℕ → Block → Label). λ b. map (l b) (versions_of holds (n.label_block b))) r.label_in ∙ ap (λ (k : ℕ → ℕ). λ b. map (m.label_in b) (versions_of holds (k b))) r.label_block;
  low = r.low;
  born = r.born.0;
  unwritten = λ d is. nothing_among d (subst (λ v. Contains (cond v (n.read at (latest_of (versions_of holds at)) ∷ []) []) d) r.born.1 is);
  newborn = λ b ne. (r.others b ne).0;
  late = λ b ne. ap (λ v. cond v (n.read b (latest_of (versions_of holds b)) ∷ []) []) (r.others b ne).1 ∙ ap (λ (y : ℕ → Block → Content). cond (m.complete b) (y b (latest_of (versions_of holds b)) ∷ []) []) r.read;
  tops = r.tops;
  label = λ b ne. (r.others b ne).2;
  label_here = r.label;
  waits = r.waits;
  clears = λ b j l c. let k = clear_from holds n.clears c in let y = r.clears k.0 k.1 in (clear_to holds m.clears k.0 y.0 k.2 k.3 k.4, λ e. y.1 (k.2 ∙ e), λ e. y.2 (k.4 ∙ e));
  since = λ b j l bytes c. let k = since_from holds n.clears c in let y = r.clears k.0 k.1 in since_to holds m.clears k.0 y.0 k.2 k.3 k.4 k.5;
  fits = λ i t e. (fits i t e).0;
  falls = λ i t e. (fits i t e).1;
}

pub label_step : {b : ℕ} {l : Label} {m n : Mind} (holds : Holds) → LabelsMind b l m n → NewLabel b l (known m holds) (known n holds)
label_step holds r = record {
  memory = r.memory;
  tops = r.tops;
  low = r.writes.low;
  device = same_device holds r.writes;
  waits = r.waits;
  clears = ap (λ (ks : List Clearing). map (since_of holds) ks) r.clears;
  here = r.here;
  others = r.others;
}
