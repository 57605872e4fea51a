-- Each record keeps both entries of its pair.
use Rattle.std.proofs.Common.{◌≡◌, ◌≢◌, ◌⊎◌, inl, inr, ⊎_elim, ℕ, ◌+◌, ◌*◌, ◌/◌, ◌%◌, List, Contains, sym, ◌∙◌, ap, subst, arith}
use Rattle.std.proofs.lemmas.Bool.{cases_eq}
use Rattle.fo_image.specs.declared.record.Record.{Record}
use Rattle.fo_image.specs.declared.types.Entry.{Entry}
use Rattle.fo_good.specs.of_world.Step.{is_dir_mode}
use Rattle.fo_good.specs.Reading.{leaf_records}
use Rattle.fo_good.specs.Trees.{IsFirst, IsSecond}
use Rattle.fo_crash.specs.Images.{Content, Image, SameImage, with_bytes, with_slot}
use Rattle.fo_crash.specs.declared.slot.Slot.{Slot}
use Rattle.fo_crash.specs.declared.slot.Slot.TheVariants.{Pointer as To, Entry as Head, Prev}
use Rattle.fo_crash.specs.Steps.{AddsBytes, AddsSlot, AddsNothing, PutsSlot, HasBytes}
use Rattle.fo_crash.specs.Names.{IsInUse, SameUse}
use Rattle.fo_crash.proofs.Updates.{slot_bytes, slot_other, bytes_other, bytes_here, bytes_slot}
use Rattle.fo_ports.specs.State.{State, WaitsForPairs, WaitsInUse}
use Rattle.fo_dir_put.specs.Names.{AllFit}
use Rattle.fo_dir_put.specs.Puts.{PutsPair}
use Rattle.fo_dir_put.specs.Paired.{HasBoth, AllPaired, StoodAs, ArePaired, AddsPaired, LacksPair, IsUnnamed}

-- ---- one record

first_use : (s t : Slot) (r : Record) → SameUse s t → IsFirst t r → IsFirst s r
first_use (Head e) (Head f) r h u = (h.1 ∙ u.0, h.0 ∙ u.1, h.2 ∙ u.2, h.3 ∙ u.3)
first_use (Head e) (To p) r h u = absurd u
first_use (Head e) (Prev n a) r h u = absurd u
first_use (To q) (Head f) r h u = absurd (cc)
first_use (To q) (To p) r h u = absurd u
first_use (To q) (Prev n a) r h u = absurd u
first_use (Prev m b) (Head f) r h u = absurd (cc)
first_use (Prev m b) (To p) r h u = absurd u
first_use (Prev m b) (Prev n a) r h u = absurd u

second_use : (s t : Slot) (r : Record) → SameUse s t → IsSecond t r → IsSecond s r
second_use (Head e) (Head f) r h u = (h.1 ∙ u.0, h.2 ∙ u.1, λ a. h.3 ∙ u.2 (sym h.1 ∙ a))
second_use (Head e) (To p) r h u = absurd u
second_use (Head e) (Prev n a) r h u = absurd u
second_use (To q) (Head f) r h u = absurd (cc)
second_use (To q) (To p) r h u = absurd u
second_use (To q) (Prev n a) r h u = absurd u
second_use (Prev m b) (Head f) r h u = absurd (cc)
second_use (Prev m b) (To p) r h u = absurd u
second_use (Prev m b) (Prev n a) r h u = absurd u

pub first_used : (s : Slot) (r : Record) → IsFirst s r → IsInUse s r.generation
first_used (Head e) r h = (h.0, h.1)
first_used (To p) r h = absurd h
first_used (Prev n a) r h = absurd h

first_as : (s : Slot) (r q : Record) → q.generation ≡ r.generation → q.number ≡ r.number → is_dir_mode q.mode ≡ is_dir_mode r.mode → IsFirst s q → IsFirst s r
first_as (Head e) r q generation number dir h = (h.0, h.1 ∙ generation, h.2 ∙ dir, h.3 ∙ ap (λ n. 32 + 2 * n) number)
first_as (To p) r q generation number dir h = absurd h
first_as (Prev n a) r q generation number dir h = absurd h

second_as : (s : Slot) (r q : Record) → q.number ≡ r.number → is_dir_mode q.mode ≡ is_dir_mode r.mode → IsSecond s q → IsSecond s r
second_as (Head e) r q number dir h = (h.0 ∙ dir, h.1, λ a. h.2 a ∙ ap (λ n. 33 + 2 * n) number)
second_as (To p) r q number dir h = absurd h
second_as (Prev n a) r q number dir h = absurd h

pub both_on : {e : ℕ} {x y : Image} {r : Record} → (y e).slot (2 * (r.slot % 102)) ≡ (x e).slot (2 * (r.slot % 102)) → (y e).slot (2 * (r.slot % 102) + 1) ≡ (x e).slot (2 * (r.slot % 102) + 1) → HasBoth e x r → HasBoth e y r
both_on {r = r} one two h = record { first = subst (λ (s : Slot). IsFirst s r) (sym one) h.first; second = subst (λ (s : Slot). IsSecond s r) (sym two) h.second }

both_as : {e : ℕ} {x : Image} {r q : Record} → q.slot ≡ r.slot → q.generation ≡ r.generation → q.number ≡ r.number → is_dir_mode q.mode ≡ is_dir_mode r.mode → HasBoth e x q → HasBoth e x r
both_as {e = e} {x = x} {r = r} {q = q} slot generation number dir h = record {
  first = first_as ((x e).slot (2 * (r.slot % 102))) r q generation number dir (subst (λ k. IsFirst ((x e).slot (2 * (k % 102))) q) slot h.first);
  second = second_as ((x e).slot (2 * (r.slot % 102) + 1)) r q number dir (subst (λ k. IsSecond ((x e).slot (2 * (k % 102) + 1)) q) slot h.second);
}

-- each record has its first entry in use
pub paired_fit : {n leaf entries : ℕ} {s : State} → AllPaired n leaf entries s → AllFit n leaf entries s.may_leave
paired_fit {entries = entries} all = record {
  are = record {
    each = λ image is. record {
      each = λ j g lists.
          let h = (all.each image is lists.named lists.is_one lists.leaf).0 in
          subst (λ i. IsInUse ((image entries).slot i) g) (sym lists.entry) (subst (λ x. IsInUse ((image entries).slot (2 * (lists.named.slot % 102))) x) lists.same (first_used ((image entries).slot (2 * (lists.named.slot % 102))) lists.named h.first));
    };
  };
}

-- ---- an entry of a pair that no record has

module _ (old new : State) (n a e : ℕ) {at j : ℕ} (k : ℕ) {slot : Slot} {beside : Image → Type 0} (which : (j ≡ 2 * k) ⊎ (j ≡ 2 * k + 1)) (adds : AddsSlot old.now at j slot beside old.may_leave new.may_leave) where
  first_not : (m : ℕ) → m ≢ k → 2 * m ≢ j
  first_not m ne f = ⊎_elim (λ g. ne (omega (arith, f, g))) (λ g. omega (arith, f, g)) which

  second_not : (m : ℕ) → m ≢ k → 2 * m + 1 ≢ j
  second_not m ne f = ⊎_elim (λ g. omega (arith, f, g)) (λ g. ne (omega (arith, f, g))) which

  -- the pair of a record of an image is another
  aside : (image : Image) → ((e ≡ at) → LacksPair n k ((image a).bytes)) → (r : Record) → Contains (leaf_records ((image a).bytes)) r → r.slot / 102 ≡ n → (e ≢ at) ⊎ (r.slot % 102 ≢ k)
  aside image lacks r has leaf = ⊎_elim (λ same. inr (λ f. (lacks same).each r has leaf f)) (λ ne. inl ne) (cases_eq e at)

  first_aside : (m : ℕ) → (e ≢ at) ⊎ (m ≢ k) → (e ≢ at) ⊎ (2 * m ≢ j)
  first_aside m h = ⊎_elim (λ ne. inl ne) (λ ne. inr (first_not m ne)) h

  second_aside : (m : ℕ) → (e ≢ at) ⊎ (m ≢ k) → (e ≢ at) ⊎ (2 * m + 1 ≢ j)
  second_aside m h = ⊎_elim (λ ne. inl ne) (λ ne. inr (second_not m ne)) h

  -- what memory has of another pair
  pub memory_aside : ((b i : ℕ) → (b ≢ at) ⊎ (i ≢ j) → (new.now b).slot i ≡ (old.now b).slot i) → (image : Image) → ((e ≡ at) → LacksPair n k ((image a).bytes)) → (r : Record) → Contains (leaf_records ((image a).bytes)) r → r.slot / 102 ≡ n → HasBoth e old.now r → HasBoth e new.now r
  memory_aside now image lacks r has leaf h = let o = aside image lacks r has leaf in both_on (now e (2 * (r.slot % 102)) (first_aside (r.slot % 102) o)) (now e (2 * (r.slot % 102) + 1) (second_aside (r.slot % 102) o)) h

  -- An entry was put, or cleared; an image with it has no record of its pair.
  pub entry_paired : ((image : Image) → new.may_leave image → (r : Record) → Contains (leaf_records ((image a).bytes)) r → r.slot / 102 ≡ n → HasBoth e old.now r → HasBoth e new.now r)
      → ((image : Image) → new.may_leave image → beside image → (e ≡ at) → LacksPair n k ((image a).bytes)) → AllPaired n a e old → AllPaired n a e new
  entry_paired memory unnamed all = record {
    each = λ image is r has leaf. ⊎_elim
        (λ was. let h = all.each image was r has leaf in (h.0, memory image is r has leaf h.1))
        (λ h. let b = all.each (with_slot image at j ((old.now at).slot j)) h.1 r (subst (λ xs. Contains (leaf_records xs) r) (sym (slot_bytes image at j ((old.now at).slot j) a)) has) leaf in
        (put image (unnamed image is h.2) r has leaf b.0, memory image is r has leaf b.1))
        (adds.each image is);
  }
    where
      put : (image : Image) → ((e ≡ at) → LacksPair n k ((image a).bytes)) → (r : Record) → Contains (leaf_records ((image a).bytes)) r → r.slot / 102 ≡ n → HasBoth e (with_slot image at j ((old.now at).slot j)) r → HasBoth e image r
      put image lacks r has leaf h = let o = aside image lacks r has leaf in
          both_on (sym (slot_other image at j ((old.now at).slot j) e (2 * (r.slot % 102)) (first_aside (r.slot % 102) o))) (sym (slot_other image at j ((old.now at).slot j) e (2 * (r.slot % 102) + 1) (second_aside (r.slot % 102) o))) h

-- No record of an image has a pair that is free in memory.
pub free_unnamed : (old new : State) (n a : ℕ) {at j : ℕ} (k : ℕ) {slot : Slot} {beside : Image → Type 0} → AddsSlot old.now at j slot beside old.may_leave new.may_leave → ((g : ℕ) → IsInUse ((old.now at).slot (2 * k)) g → ⊥) → AllPaired n a at old
    → (image : Image) → new.may_leave image → LacksPair n k ((image a).bytes)
free_unnamed old new n a {at = at} {j = j} k adds free all image is = record {
  each = λ r has leaf pair. ⊎_elim
      (λ was. none r pair (all.each image was r has leaf).1)
      (λ h. none r pair (all.each (with_slot image at j ((old.now at).slot j)) h.1 r (subst (λ xs. Contains (leaf_records xs) r) (sym (slot_bytes image at j ((old.now at).slot j) a)) has) leaf).1)
      (adds.each image is);
}
  where
    none : (r : Record) → r.slot % 102 ≡ k → HasBoth at old.now r → ⊥
    none r pair h = free r.generation (subst (λ m. IsInUse ((old.now at).slot (2 * m)) r.generation) pair (first_used ((old.now at).slot (2 * (r.slot % 102))) r h.first))

-- An entry of a free pair was put.
pub free_paired : (old new : State) (n a e : ℕ) {at j : ℕ} (k : ℕ) {slot : Slot} {beside : Image → Type 0} → (j ≡ 2 * k) ⊎ (j ≡ 2 * k + 1) → AddsSlot old.now at j slot beside old.may_leave new.may_leave → PutsSlot at j slot old.now new.now
    → ((g : ℕ) → IsInUse ((old.now at).slot (2 * k)) g → ⊥) → AllPaired n a e old → AllPaired n a e new
free_paired old new n a e {at = at} k which adds puts free all = entry_paired old new n a e k which adds
    (λ image is. memory_aside old new n a e k which adds puts.others image (lacks image is))
    (λ image is b. lacks image is) all
  where
    lacks : (image : Image) → new.may_leave image → (e ≡ at) → LacksPair n k ((image a).bytes)
    lacks image is same = free_unnamed old new n a k adds free (subst (λ x. AllPaired n a x old) same all) image is

-- No record has the pair in an image of before, and so none in one with an entry of it.
unnamed_on : (old new : State) (n a : ℕ) {at j : ℕ} (k : ℕ) {slot : Slot} {beside : Image → Type 0} → AddsSlot old.now at j slot beside old.may_leave new.may_leave → ((image : Image) → old.may_leave image → LacksPair n k ((image a).bytes)) → (image : Image) → new.may_leave image → LacksPair n k ((image a).bytes)
unnamed_on old new n a {at = at} {j = j} k adds none image is = ⊎_elim
    (λ was. none image was)
    (λ h. subst (λ xs. LacksPair n k xs) (slot_bytes image at j ((old.now at).slot j) a) (none (with_slot image at j ((old.now at).slot j)) h.1))
    (adds.each image is)

-- An entry was cleared after the leaf, at once or to wait for it.
pub clear_paired : (old new : State) (n a e : ℕ) {at j : ℕ} (k leaf : ℕ) {slot : Slot} → (j ≡ 2 * k) ⊎ (j ≡ 2 * k + 1) → AddsSlot old.now at j slot (λ image. (image leaf).bytes ≡ (old.now leaf).bytes) old.may_leave new.may_leave
    → (PutsSlot at j slot old.now new.now × HasBytes old.now leaf new.may_leave) ⊎ SameImage new.now old.now → (e ≡ at → IsUnnamed n k a leaf old) → AllPaired n a e old → AllPaired n a e new
clear_paired old new n a e {at = at} {j = j} k leaf which adds now free all = entry_paired old new n a e k which adds memory unnamed all
  where
    lacks : (image : Image) → new.may_leave image → (image leaf).bytes ≡ (old.now leaf).bytes → (e ≡ at) → LacksPair n k ((image a).bytes)
    lacks image is here same = ⊎_elim
        (λ h. subst (λ xs. LacksPair n k xs) (sym (ap (λ b. (image b).bytes) h.0 ∙ here)) h.1)
        (λ none. unnamed_on old new n a k adds none image is)
        (free same)

    memory : (image : Image) → new.may_leave image → (r : Record) → Contains (leaf_records ((image a).bytes)) r → r.slot / 102 ≡ n → HasBoth e old.now r → HasBoth e new.now r
    memory image is r has slot h = ⊎_elim
        (λ p. memory_aside old new n a e k which adds p.0.others image (lacks image is (p.1.each image is)) r has slot h)
        (λ same. both_on ((same.each e).slots (2 * (r.slot % 102))) ((same.each e).slots (2 * (r.slot % 102) + 1)) h)
        now

    unnamed : (image : Image) → new.may_leave image → (image leaf).bytes ≡ (old.now leaf).bytes → (e ≡ at) → LacksPair n k ((image a).bytes)
    unnamed image is here same = lacks image is here same

-- ---- bytes

-- Bytes of a leaf were put: each record stood there, or has its pair in memory and in each image with them.
pub bytes_paired : {old new : State} {n leaf e : ℕ} {bytes : List ℕ} {P : Image → Type 0} → AddsBytes old.now leaf bytes P old.may_leave new.may_leave → ((b i : ℕ) → (new.now b).slot i ≡ (old.now b).slot i)
    → ((r : Record) → Contains (leaf_records bytes) r → r.slot / 102 ≡ n → StoodAs ((old.now leaf).bytes) r ⊎ (HasBoth e old.now r × ((image : Image) → old.may_leave (with_bytes image leaf ((old.now leaf).bytes)) → P image → HasBoth e image r)))
    → AllPaired n leaf e old → AllPaired n leaf e new
bytes_paired {old = old} {new = new} {n = n} {leaf = leaf} {e = e} {bytes = bytes} {P = P} adds now backed all = record {
  each = λ image is r has slot. ⊎_elim
      (λ was. let h = all.each image was r has slot in (h.0, memory r h.1))
      (λ h. put image h.1 h.2 r (subst (λ xs. Contains (leaf_records xs) r) h.0 has) slot)
      (adds.each image is);
}
  where
    memory : (r : Record) → HasBoth e old.now r → HasBoth e new.now r
    memory r h = both_on (now e (2 * (r.slot % 102))) (now e (2 * (r.slot % 102) + 1)) h

    put : (image : Image) → old.may_leave (with_bytes image leaf ((old.now leaf).bytes)) → P image → (r : Record) → Contains (leaf_records bytes) r → r.slot / 102 ≡ n → HasBoth e image r × HasBoth e new.now r
    put image was beside r has slot = ⊎_elim
        (λ st.
        let before = with_bytes image leaf ((old.now leaf).bytes) in
        let h = all.each before was st.before (subst (λ xs. Contains (leaf_records xs) st.before) (sym (bytes_here image leaf ((old.now leaf).bytes))) st.is_one) (ap (λ k. k / 102) st.slot ∙ slot) in
        let there = both_as {x = before} st.slot st.generation st.number st.dir h.0 in
        let mine = both_as {x = old.now} st.slot st.generation st.number st.dir h.1 in
        (both_on (sym (bytes_slot image leaf ((old.now leaf).bytes) e (2 * (r.slot % 102)))) (sym (bytes_slot image leaf ((old.now leaf).bytes) e (2 * (r.slot % 102) + 1))) there, memory r mine))
        (λ h. (h.1 image was beside, memory r h.0))
        (backed r has slot)

-- the records of another leaf
pub bytes_others : {old new : State} {n a leaf e : ℕ} {bytes : List ℕ} {P : Image → Type 0} → a ≢ leaf → AddsBytes old.now leaf bytes P old.may_leave new.may_leave → ((b i : ℕ) → (new.now b).slot i ≡ (old.now b).slot i) → AllPaired n a e old → AllPaired n a e new
bytes_others {old = old} {new = new} {n = n} {a = a} {leaf = leaf} {e = e} differs adds now all = record {
  each = λ image is r has slot. ⊎_elim
      (λ was. let h = all.each image was r has slot in (h.0, memory r h.1))
      (λ h.
      let before = with_bytes image leaf ((old.now leaf).bytes) in
      let same = ap (λ (c : Content). c.bytes) (bytes_other image leaf ((old.now leaf).bytes) a differs) in
      let b = all.each before h.1 r (subst (λ xs. Contains (leaf_records xs) r) (sym same) has) slot in
      (both_on (sym (bytes_slot image leaf ((old.now leaf).bytes) e (2 * (r.slot % 102)))) (sym (bytes_slot image leaf ((old.now leaf).bytes) e (2 * (r.slot % 102) + 1))) b.0, memory r b.1))
      (adds.each image is);
}
  where
    memory : (r : Record) → HasBoth e old.now r → HasBoth e new.now r
    memory r h = both_on (now e (2 * (r.slot % 102))) (now e (2 * (r.slot % 102) + 1)) h

-- no image was added, and memory is the same
pub still_paired : {old new : State} {n a e : ℕ} → AddsNothing old.may_leave new.may_leave → SameImage new.now old.now → AllPaired n a e old → AllPaired n a e new
still_paired {e = e} adds same all = record { each = λ image is r has slot. let h = all.each image (adds.each image is) r has slot in (h.0, both_on ((same.each e).slots (2 * (r.slot % 102))) ((same.each e).slots (2 * (r.slot % 102) + 1)) h.1) }

-- what is waited for is in use, in an image with the bytes, as in memory
pub waited_both : {s t : State} {at on : ℕ} {image : Image} {r : Record} → WaitsForPairs at on s t → SameImage t.now s.now → WaitsInUse t → ((b j : ℕ) → t.clearing b j → s.clearing b j) → (s.clearing on (2 * (r.slot % 102)) → ⊥)
    → HasBoth on s.now r → ((o j : ℕ) → t.waits at o j → (t.clearing o j → ⊥) → SameUse ((image o).slot j) ((t.now o).slot j)) → HasBoth on image r
waited_both {s = s} {t = t} {at = at} {on = on} {image = image} {r = r} waits same used order free h beside =
    let k = r.slot % 102 in
    let w = waits.each k r.generation (first_used ((s.now on).slot (2 * k)) r h.first) free in
    let one = beside on (2 * k) w.0 (λ c. free (order on (2 * k) c)) in
    let two = beside on (2 * k + 1) w.1 (λ c. free (order on (2 * k) (used.first on k c))) in
    record {
      first = first_use ((image on).slot (2 * k)) ((t.now on).slot (2 * k)) r one (subst (λ (x : Slot). IsFirst x r) (sym ((same.each on).slots (2 * k))) h.first);
      second = second_use ((image on).slot (2 * k + 1)) ((t.now on).slot (2 * k + 1)) r two (subst (λ (x : Slot). IsSecond x r) (sym ((same.each on).slots (2 * k + 1))) h.second);
    }

pub stood_on : {r : Record} {xs ys : List ℕ} → ys ≡ xs → StoodAs xs r → StoodAs ys r
stood_on {r = r} e st = subst (λ zs. StoodAs zs r) (sym e) st

pub waits_back : {s u : State} {n leaf e entries : ℕ} {bytes : List ℕ} → ArePaired n leaf e entries bytes s → WaitsForPairs leaf entries s u → SameImage u.now s.now → ((image : Image) → u.may_leave image → WaitsInUse u) → ((b j : ℕ) → u.clearing b j → s.clearing b j)
    → (r : Record) → Contains (leaf_records bytes) r → r.slot / 102 ≡ n
    → StoodAs ((u.now leaf).bytes) r ⊎ (HasBoth e u.now r × ((image : Image) → u.may_leave (with_bytes image leaf ((u.now leaf).bytes)) → ((on j : ℕ) → u.waits leaf on j → (u.clearing on j → ⊥) → SameUse ((image on).slot j) ((u.now on).slot j)) → HasBoth e image r))
waits_back {s = s} {u = u} {leaf = leaf} {e = e} {entries = entries} paired waits same used order r has slot = ⊎_elim
    (λ st. inl (stood_on ((same.each leaf).bytes) st))
    (λ h. inr (
      subst (λ x. HasBoth x u.now r) (sym h.0) (both_on ((same.each entries).slots (2 * (r.slot % 102))) ((same.each entries).slots (2 * (r.slot % 102) + 1)) h.1),
      λ image was beside. subst (λ x. HasBoth x image r) (sym h.0) (waited_both {s = s} {t = u} {at = leaf} {on = entries} {image = image} waits same (used (with_bytes image leaf ((u.now leaf).bytes)) was) order h.2 h.1 beside),
    ))
    (paired.each r has slot)

-- the pair was put before
pub adds_back : {s t : State} {n leaf e entries p : ℕ} {first second : Entry} {bytes : List ℕ} → PutsPair entries p first second s t → (t.clearing entries (2 * p) → ⊥) → AddsPaired n p e entries first second bytes ((s.now leaf).bytes) → ArePaired n leaf e entries bytes t
adds_back {s = s} {t = t} {leaf = leaf} {entries = entries} {p = p} {first = first} {second = second} puts settled adds = record {
  each = λ r has slot. ⊎_elim
      (λ st. inl (stood_on (puts.bytes leaf) st))
      (λ h. inr (
        h.0,
        record {
          first = subst (λ (x : Slot). IsFirst x r) (sym (ap (λ k. (t.now entries).slot (2 * k)) h.1 ∙ puts.first_is)) h.2;
          second = subst (λ (x : Slot). IsSecond x r) (sym (ap (λ k. (t.now entries).slot (2 * k + 1)) h.1 ∙ puts.second_is)) h.3;
        },
        λ c. settled (subst (λ k. t.clearing entries (2 * k)) h.1 c),
      ))
      (adds.each r has slot);
}
