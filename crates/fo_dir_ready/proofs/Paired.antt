-- The pairs of a directory stay what they are where one of its leaves is owned.
use Rattle.std.proofs.Common.{◌≡◌, ◌⊎◌, inl, inr, ⊎_elim, ◌+◌, ◌*◌, ◌/◌, ◌%◌, ◌<◌, ℕ, Option, Some, None, MatchOption, refl, sym, ◌∙◌, ap, subst, arith, true, false, Bool}
use Rattle.std.specs.Prelude.{cond}
use Rattle.std.proofs.lemmas.Bool.{lt-ltb}
use Rattle.fo_image.specs.declared.types.Entry.{Entry}
use Rattle.fo_image.specs.declared.types.Kind.TheVariants.{Data, Dir}
use Rattle.fo_image.specs.declared.types.Pointer.TheVariants.{Nil}
use Rattle.fo_crash.specs.Images.{SameContent}
use Rattle.fo_crash.specs.declared.slot.Slot.{Slot}
use Rattle.fo_crash.specs.declared.slot.Slot.TheVariants.{Pointer as To, Entry as Head}
use Rattle.fo_crash.specs.Names.{IsInUse}
use Rattle.fo_ports.specs.Blocks.{blank, blank_slot, no_entry}
use Rattle.fo_ports.specs.State.{State, Looks, WaitsInUse}
use Rattle.fo_ports.specs.Sources.{Form, Leaves, SameLeaves, Owned, Renewed, Made, IsPlain, EndsWithin, IsCut}
use Rattle.fo_dir_read.specs.Names.{leaf_count}
use Rattle.fo_dir_read.specs.Pairs.{OfEntries, PairTaken, IsTaken, IsFree, AreTaken, IsPair}
use Rattle.fo_dir_ready.specs.Entries.{IsBlank, HasEntries, SameAt, SameEntries}

-- ---- what follows of pairs

first_within : (k : ℕ) → 2 * (k % 102) < 204
first_within k = omega arith

second_within : (k : ℕ) → 2 * (k % 102) + 1 < 204
second_within k = omega arith

pub pair_on : {old new : State} {x y : Leaves} {k : ℕ} {first second : Entry} → SameEntries old new x y (k / 102) → IsPair old.now x k first second → IsPair new.now y k first second
pair_on {old = old} {new = new} {x = x} {y = y} {k = k} {first = first} {second = second} same pair = record { is = by (x.at (k / 102)) same.is pair.is }
  where
    Two : Option ℕ → Type 0
    Two o = MatchOption o ((first ≡ no_entry) × (second ≡ no_entry)) (λ c. ((new.now c).slot (2 * (k % 102)) ≡ Head first) × ((new.now c).slot (2 * (k % 102) + 1) ≡ Head second))

    none : (o : Option ℕ) → MatchOption o (Unit {0}) (λ c. IsBlank new c) → (first ≡ no_entry) × (second ≡ no_entry) → Two o
    none None h e = e
    none (Some c) h e = (h.slots (2 * (k % 102)) (first_within k) ∙ ap Head (sym e.0), h.slots (2 * (k % 102) + 1) (second_within k) ∙ ap Head (sym e.1))

    by : (o : Option ℕ) → SameAt old new (y.at (k / 102)) o → MatchOption o ((first ≡ no_entry) × (second ≡ no_entry)) (λ b. ((old.now b).slot (2 * (k % 102)) ≡ Head first) × ((old.now b).slot (2 * (k % 102) + 1) ≡ Head second)) → Two (y.at (k / 102))
    by None h e = none (y.at (k / 102)) h e
    by (Some b) h e = subst Two (sym h.1) (h.2.slots (2 * (k % 102)) ∙ e.0, h.2.slots (2 * (k % 102) + 1) ∙ e.1)

unused : (s : Slot) (g : ℕ) → s ≡ Head no_entry → IsInUse s g → ⊥
unused s g e u = false_not ((subst (λ (t : Slot). IsInUse t g) e u).0)
  where
    false_not : false ≡ true → ⊥
    false_not h = cc

blank_free : {s : State} {c : ℕ} (p : ℕ) → p < 102 → IsBlank s c → PairTaken s c p → ⊥
blank_free {s = s} {c = c} p lt blank taken = ⊎_elim
    (λ one. ⊎_elim (λ u. unused ((s.now c).slot (2 * p)) u.0 (blank.slots (2 * p) (omega (arith, lt))) u.1) (λ w. blank.still (2 * p) w) one)
    (λ two. ⊎_elim (λ u. unused ((s.now c).slot (2 * p + 1)) u.0 (blank.slots (2 * p + 1) (omega (arith, lt))) u.1) (λ w. blank.still (2 * p + 1) w) two)
    taken

entry_back : {old new : State} {b c : ℕ} (k : ℕ) → HasEntries old new b c → IsTaken new c k → IsTaken old b k
entry_back k has taken = ⊎_elim (λ u. inl (u.0, subst (λ (t : Slot). IsInUse t u.0) (has.slots k) u.1)) (λ w. inr (has.order k w)) taken

taken_back : {old new : State} {b c : ℕ} (p : ℕ) → HasEntries old new b c → PairTaken new c p → PairTaken old b p
taken_back p has taken = ⊎_elim (λ one. inl (entry_back (2 * p) has one)) (λ two. inr (entry_back (2 * p + 1) has two)) taken

pair_within : (k : ℕ) → k % 102 < 102
pair_within k = omega arith

pub free_on : {old new : State} {x y : Leaves} {size after k : ℕ} → SameEntries old new x y (k / 102) → (leaf_count size ≡ k / 102 → x.at (k / 102) ≡ None) → IsFree old x size k → IsFree new y after k
free_on {old = old} {new = new} {x = x} {y = y} {k = k} same behind free = record { is = inr (⊎_elim (λ e. by (x.at (k / 102)) same.is (subst (λ o. Free o) (sym (behind e)) tt)) (λ m. by (x.at (k / 102)) same.is m) free.is) }
  where
    Free : Option ℕ → Type 0
    Free o = MatchOption o (Unit {0}) (λ b. PairTaken old b (k % 102) → ⊥)

    After : Option ℕ → Type 0
    After o = MatchOption o (Unit {0}) (λ c. PairTaken new c (k % 102) → ⊥)

    none : (o : Option ℕ) → MatchOption o (Unit {0}) (λ c. IsBlank new c) → After o
    none None h = tt
    none (Some c) h = λ t. blank_free (k % 102) (pair_within k) h t

    by : (o : Option ℕ) → SameAt old new (y.at (k / 102)) o → Free o → After (y.at (k / 102))
    by None h e = none (y.at (k / 102)) h
    by (Some b) h e = subst After (sym h.1) (λ t. e (taken_back (k % 102) h.2 t))

-- Of a pair that is taken an entry is in use in memory, as what waits is in use or stands beside such an entry.
in_use : (s : State) (b p : ℕ) → WaitsInUse s → PairTaken s b p → ((g : ℕ) × IsInUse ((s.now b).slot (2 * p)) g) ⊎ ((g : ℕ) × IsInUse ((s.now b).slot (2 * p + 1)) g)
in_use s b p w (inl (inl used)) = inl used
in_use s b p w (inl (inr waits)) = inl (w.used b p waits)
in_use s b p w (inr (inl used)) = inr used
in_use s b p w (inr (inr waits)) = inl (w.used b p (w.first b p waits))

taken_with : {old new : State} {b c : ℕ} (p : ℕ) → WaitsInUse old → HasEntries old new b c → PairTaken old b p → PairTaken new c p
taken_with {old = old} {b = b} p waits has taken = ⊎_elim
    (λ u. inl (inl (u.0, subst (λ (t : Slot). IsInUse t u.0) (sym (has.slots (2 * p))) u.1)))
    (λ u. inr (inl (u.0, subst (λ (t : Slot). IsInUse t u.0) (sym (has.slots (2 * p + 1))) u.1)))
    (in_use old b p waits taken)

pub taken_on : {old new : State} {x y : Leaves} {k : ℕ} → WaitsInUse old → ((j : ℕ) → SameEntries old new x y j) → AreTaken old x k → AreTaken new y k
taken_on {old = old} {new = new} {x = x} {y = y} waits same taken = record { each = λ j lt. let t = taken.each j lt in by j t.0 t.1 t.2 (subst (λ o. SameAt old new (y.at (j / 102)) o) t.1 ((same (j / 102)).is)) }
  where
    by : (j b : ℕ) → x.at (j / 102) ≡ Some b → PairTaken old b (j % 102) → SameAt old new (y.at (j / 102)) (Some b) → (c : ℕ) × (y.at (j / 102) ≡ Some c) × PairTaken new c (j % 102)
    by j b there t h = (h.0, h.1, taken_with (j % 102) waits h.2 t)

-- ---- one leaf

-- a leaf that stays where it stood
pub entries_stay : {old new : State} {x y : Leaves} {j : ℕ} → y.at j ≡ x.at j → ((b : ℕ) → x.at j ≡ Some b → HasEntries old new b b) → SameEntries old new x y j
entries_stay {old = old} {new = new} {x = x} {y = y} {j = j} there same = record { is = by (x.at j) refl }
  where
    by : (o : Option ℕ) → x.at j ≡ o → SameAt old new (y.at j) o
    by None e = subst (λ o. MatchOption o (Unit {0}) (λ c. IsBlank new c)) (sym (there ∙ e)) tt
    by (Some b) e = (b, there ∙ e, same b e)

-- each leaf over a look
pub entries_looked : {old new : State} {x y : Leaves} → old.tells → Looks old new → SameLeaves old.tells x y → (j : ℕ) → SameEntries old new x y j
entries_looked told looks same j = entries_stay ((same.leaves told j).0) (λ b there. record { slots = ((looks.memory told).each b).slots; order = λ k w. (looks.order.clearing b k w).1 })

pub not_plain : {form : Form} {rank : ℕ} → OfEntries form rank → IsPlain form → ⊥
not_plain of plain = dir_not_data (sym of.entries ∙ plain.0)
  where
    dir_not_data : Dir 0 ≡ Data 0 → ⊥
    dir_not_data e = cc

-- the last leaf of before, copied
pub entries_renewed : {form : Form} {size j : ℕ} {old new : State} {x y : Leaves} → x.held j ≡ None → ((b k : ℕ) → Made old new b → new.clearing b k → ⊥) → Renewed form size j old new x y → SameEntries old new x y j
entries_renewed {form = form} {size = size} {j = j} {old = old} {new = new} {x = x} {y = y} none fresh r = record { is = by (x.at j) r.content }
  where
    by : (o : Option ℕ) → MatchOption o (MatchOption (x.held j) ⊥ (λ bytes. EndsWithin form size j × IsCut form size j ((new.now r.block).bytes) bytes)) (λ b. ((old.label b).epoch < old.high) × IsCut form size j ((new.now r.block).bytes) ((old.now b).bytes) × ((k : ℕ) → (new.now r.block).slot k ≡ (old.now b).slot k)) → SameAt old new (y.at j) o
    by None h = absurd (subst (λ o. MatchOption o ⊥ (λ bytes. EndsWithin form size j × IsCut form size j ((new.now r.block).bytes) bytes)) none h)
    by (Some b) h = (r.block, r.is.0, record { slots = h.2; order = λ k w. absurd (fresh r.block k r.made w) })

blank_at : (k : ℕ) → k < 204 → blank_slot (Dir 0) k ≡ Head no_entry
blank_at k lt = ap (λ (b : Bool). cond b (Head no_entry) (To Nil)) (lt-ltb k 204 lt)

-- the leaf that is owned
pub entries_owned : {form : Form} {rank size i at : ℕ} {old new : State} {x y : Leaves} → OfEntries form rank → x.held i ≡ None → ((b k : ℕ) → Made old new b → new.clearing b k → ⊥) → ((b k : ℕ) → new.clearing b k → old.clearing b k) → Owned form size i at old new x y → SameEntries old new x y i
entries_owned {form = form} {size = size} {i = i} {at = at} {old = old} {new = new} {x = x} {y = y} of none fresh later owned = record { is = by (x.at i) owned.content owned.copied }
  where
    blank_one : SameContent (new.now at) (blank form.kind) → Made old new at → MatchOption (y.at i) (Unit {0}) (λ c. IsBlank new c)
    blank_one h made = subst (λ o. MatchOption o (Unit {0}) (λ c. IsBlank new c)) (sym owned.is) (record {
      slots = λ k lt. h.slots k ∙ ap (λ kind. blank_slot kind k) of.entries ∙ blank_at k lt;
      still = λ k w. fresh at k made w;
    })

    by : (o : Option ℕ) → MatchOption o (MatchOption (x.held i) (SameContent (new.now at) (blank form.kind)) (λ bytes. IsCut form size i ((new.now at).bytes) bytes)) (λ b. IsCut form size i ((new.now at).bytes) ((old.now b).bytes) × ((k : ℕ) → (new.now at).slot k ≡ (old.now b).slot k))
        → MatchOption o (Made old new at) (λ b. ((b ≡ at) × ((old.label b).epoch ≡ old.high)) ⊎ (((old.label b).epoch < old.high) × Made old new at)) → SameAt old new (y.at i) o
    by None h made = blank_one (subst (λ o. MatchOption o (SameContent (new.now at) (blank form.kind)) (λ bytes. IsCut form size i ((new.now at).bytes) bytes)) none h) made
    by (Some b) h copied = (
      at,
      owned.is,
      record {
        slots = h.1;
        order = λ k w. ⊎_elim (λ same. subst (λ a. old.clearing a k) (sym same.0) (later at k w)) (λ made. absurd (fresh at k made.1 w)) copied;
      },
    )
