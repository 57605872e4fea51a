-- The records of a directory stay where one of its leaves is owned.
use Rattle.std.proofs.Common.{◌≡◌, ◌⊎◌, inl, inr, ⊎_elim, ◌+◌, ◌*◌, ◌%◌, ◌<◌, ◌≤◌, ℕ, List, [], ◌++◌, max, Option, Some, None, MatchOption, refl, sym, ◌∙◌, ap, subst, arith}
use Rattle.std.proofs.lemmas.Bool.{cases_lt}
use Rattle.std.specs.Prelude.{replicate}
use Rattle.std.proofs.lemmas.List.{append-nil, replicate-append-replicate}
use Rattle.fo_image.specs.declared.record.Record.{Record}
use Rattle.fo_image.specs.declared.types.Kind.TheVariants.{Data, Root}
use Rattle.fo_image.specs.declared.types.State.TheVariants.{Live}
use Rattle.fo_image.specs.Field.{Two, number, zeros}
use Rattle.fo_meta.specs.Leaf.{SpellsLeaf}
use Rattle.fo_crash.specs.Images.{Image, SameContent}
use Rattle.fo_ports.specs.Blocks.{blank, zero_bytes}
use Rattle.fo_ports.specs.State.{State}
use Rattle.fo_ports.specs.Sources.{Form, Leaves, Owned, Renewed, MayZero, Touched, IsPlain, EndsWithin, IsCut}
use Rattle.fo_dir_read.specs.Names.{OfRecords, HasRecords, AreRecords, leaf_count}
use Rattle.fo_dir_read.proofs.Rows.{rows_more}

-- a leaf has the records of one with the same bytes
pub record SameBytes (old_now new_now : Image) (old new : Leaves) (j : ℕ) : Type 0 where
  pub is : MatchOption (old.at j) (MatchOption (new.at j) (Unit {0}) (λ b. SpellsLeaf [] ((new_now b).bytes))) (λ b. (c : ℕ) × (new.at j ≡ Some c) × ((new_now c).bytes ≡ (old_now b).bytes))

pub has_on : {old_now new_now : Image} {old new : Leaves} {j : ℕ} {rs : List Record} → SameBytes old_now new_now old new j → HasRecords old_now old j rs → HasRecords new_now new j rs
has_on {old_now = old_now} {new_now = new_now} {old = old} {new = new} {j = j} {rs = rs} same has = record { is = by (old.at j) same.is has.is }
  where
    Goal : Option ℕ → Type 0
    Goal o = MatchOption o (rs ≡ []) (λ b. SpellsLeaf rs ((new_now b).bytes))

    none : (n : Option ℕ) → MatchOption n (Unit {0}) (λ b. SpellsLeaf [] ((new_now b).bytes)) → rs ≡ [] → Goal n
    none None h e = e
    none (Some b) h e = subst (λ ys. SpellsLeaf ys ((new_now b).bytes)) (sym e) h

    by : (o : Option ℕ) → MatchOption o (MatchOption (new.at j) (Unit {0}) (λ b. SpellsLeaf [] ((new_now b).bytes))) (λ b. (c : ℕ) × (new.at j ≡ Some c) × ((new_now c).bytes ≡ (old_now b).bytes)) → MatchOption o (rs ≡ []) (λ b. SpellsLeaf rs ((old_now b).bytes)) → Goal (new.at j)
    by None h e = none (new.at j) h e
    by (Some b) h s = subst Goal (sym h.1) (subst (λ xs. SpellsLeaf rs xs) (sym h.2) s)

pub rows_owned : {old_now new_now : Image} {old new : Leaves} {n m : ℕ} {rs : List Record} → ((j : ℕ) → SameBytes old_now new_now old new j) → (m ≡ n) ⊎ ((m ≡ n + 1) × HasRecords new_now new n []) → AreRecords old_now old n rs → AreRecords new_now new m rs
rows_owned {new_now = new_now} {new = new} {n = n} {rs = rs} same count are = ⊎_elim
    (λ e. subst (λ k. AreRecords new_now new k rs) (sym e) stay)
    (λ h. subst (λ k. AreRecords new_now new k rs) (sym h.0) (subst (λ ys. AreRecords new_now new (n + 1) ys) (append-nil rs) (rows_more stay h.1)))
    count
  where
    stay : AreRecords new_now new n rs
    stay = record { rows = are.rows; each = λ j lt. has_on (same j) (are.each j lt); all = are.all }

-- ---- one leaf

zeros_are : (xs : List ℕ) (n : ℕ) → xs ≡ replicate n 0 → xs ≡ zeros n
unfolding zeros
zeros_are xs n e = e

zeros-append : (m n : ℕ) → zeros m ++ zeros n ≡ zeros (m + n)
unfolding zeros
zeros-append m n = replicate-append-replicate m n 0

four : (xs : List ℕ) → zeros 4 ++ xs ≡ number Two 0 ++ (number Two 0 ++ xs)
unfolding zeros
four xs = refl

zero_is : (xs : List ℕ) → xs ≡ zero_bytes → xs ≡ replicate 8192 0
unfolding zero_bytes
zero_is xs e = e

-- a leaf of zeros has no record
pub no_records : (xs : List ℕ) → xs ≡ zero_bytes → SpellsLeaf [] xs
no_records xs e = record { each = tt; room = omega arith; bytes_are = zeros_are xs 8192 (zero_is xs e) ∙ sym (zeros-append 4 8188) ∙ four (zeros 8188) }

pub not_plain : {form : Form} {rank : ℕ} → OfRecords form rank → IsPlain form → ⊥
not_plain {form = form} {rank = rank} of plain = plain.1 (ap (λ r. r % 32) of.ranked ∙ of.records)

-- a leaf that stays where it stood
pub stays_same : {old_now new_now : Image} {x y : Leaves} {j : ℕ} → y.at j ≡ x.at j → ((b : ℕ) → x.at j ≡ Some b → SameContent (new_now b) (old_now b)) → SameBytes old_now new_now x y j
stays_same {old_now = old_now} {new_now = new_now} {x = x} {y = y} {j = j} there same = record { is = by (x.at j) refl }
  where
    by : (o : Option ℕ) → x.at j ≡ o → MatchOption o (MatchOption (y.at j) (Unit {0}) (λ b. SpellsLeaf [] ((new_now b).bytes))) (λ b. (c : ℕ) × (y.at j ≡ Some c) × ((new_now c).bytes ≡ (old_now b).bytes))
    by None e = subst (λ o. MatchOption o (Unit {0}) (λ b. SpellsLeaf [] ((new_now b).bytes))) (sym (there ∙ e)) tt
    by (Some b) e = (b, there ∙ e, (same b e).bytes)

-- the last leaf of before, copied
pub renewed_same : {form : Form} {rank size j : ℕ} {old new : State} {x y : Leaves} → OfRecords form rank → x.held j ≡ None → Renewed form size j old new x y → SameBytes old.now new.now x y j
renewed_same {form = form} {size = size} {j = j} {old = old} {new = new} {x = x} {y = y} of none r = record { is = by (x.at j) r.content }
  where
    by : (o : Option ℕ) → MatchOption o (MatchOption (x.held j) ⊥ (λ bytes. EndsWithin form size j × IsCut form size j ((new.now r.block).bytes) bytes)) (λ b. ((old.label b).epoch < old.high) × IsCut form size j ((new.now r.block).bytes) ((old.now b).bytes) × ((k : ℕ) → (new.now r.block).slot k ≡ (old.now b).slot k))
        → MatchOption o (MatchOption (y.at j) (Unit {0}) (λ b. SpellsLeaf [] ((new.now b).bytes))) (λ b. (c : ℕ) × (y.at j ≡ Some c) × ((new.now c).bytes ≡ (old.now b).bytes))
    by None h = absurd (subst (λ o. MatchOption o ⊥ (λ bytes. EndsWithin form size j × IsCut form size j ((new.now r.block).bytes) bytes)) none h)
    by (Some b) h = (r.block, r.is.0, h.1.whole (λ ends. not_plain of ends.0))

-- the leaf that is owned
pub owned_same : {form : Form} {rank size i at : ℕ} {old new : State} {x y : Leaves} → OfRecords form rank → x.held i ≡ None → Owned form size i at old new x y → SameBytes old.now new.now x y i
owned_same {form = form} {size = size} {i = i} {at = at} {old = old} {new = new} {x = x} {y = y} of none owned = record { is = by (x.at i) owned.content }
  where
    fresh : SameContent (new.now at) (blank form.kind) → MatchOption (y.at i) (Unit {0}) (λ b. SpellsLeaf [] ((new.now b).bytes))
    fresh h = subst (λ o. MatchOption o (Unit {0}) (λ b. SpellsLeaf [] ((new.now b).bytes))) (sym owned.is) (no_records ((new.now at).bytes) h.bytes)

    by : (o : Option ℕ) → MatchOption o (MatchOption (x.held i) (SameContent (new.now at) (blank form.kind)) (λ bytes. IsCut form size i ((new.now at).bytes) bytes)) (λ b. IsCut form size i ((new.now at).bytes) ((old.now b).bytes) × ((k : ℕ) → (new.now at).slot k ≡ (old.now b).slot k))
        → MatchOption o (MatchOption (y.at i) (Unit {0}) (λ b. SpellsLeaf [] ((new.now b).bytes))) (λ b. (c : ℕ) × (y.at i ≡ Some c) × ((new.now c).bytes ≡ (old.now b).bytes))
    by None h = fresh (subst (λ o. MatchOption o (SameContent (new.now at) (blank form.kind)) (λ bytes. IsCut form size i ((new.now at).bytes) bytes)) none h)
    by (Some b) h = (at, owned.is, h.0.whole (λ ends. not_plain of ends.0))

-- ---- how many leaves

pub counted : (size new i : ℕ) → i ≤ leaf_count size → new ≡ max size (8192 * (i + 1)) → (leaf_count new ≡ leaf_count size) ⊎ ((leaf_count new ≡ leaf_count size + 1) × (leaf_count size ≡ i))
counted size new i within is = ⊎_elim
    (λ lt. ⊎_elim (λ more. inl (still (is ∙ grown lt) lt more)) (λ le. inr (added (is ∙ grown lt) le, here le)) (cases_lt i (leaf_count size)))
    (λ le. inl (ap leaf_count (is ∙ same le)))
    (cases_lt size (8192 * (i + 1)))
  where
    grown : size < 8192 * (i + 1) → max size (8192 * (i + 1)) ≡ 8192 * (i + 1)
    grown lt = omega (arith, lt)

    same : 8192 * (i + 1) ≤ size → max size (8192 * (i + 1)) ≡ size
    same le = omega (arith, le)

    here : leaf_count size ≤ i → leaf_count size ≡ i
    here le = omega (arith, le, within)

    added : new ≡ 8192 * (i + 1) → leaf_count size ≤ i → leaf_count new ≡ leaf_count size + 1
    added e le = omega (arith, e, le, within)

    still : new ≡ 8192 * (i + 1) → size < 8192 * (i + 1) → i < leaf_count size → leaf_count new ≡ leaf_count size
    still e lt more = omega (arith, e, lt, more)

-- a source of so many leaves ends before this one begins
pub ends_before : (size i : ℕ) → leaf_count size ≡ i → size ≤ 8192 * i
ends_before size i e = omega (arith, e)

-- ---- what was touched

pub root_not_data : Root ≡ Data 0 → ⊥
root_not_data e = cc

pub none_there : {now : Image} {x : Leaves} {i : ℕ} → x.at i ≡ None → HasRecords now x i []
none_there {now = now} {x = x} {i = i} e = record { is = subst (λ o. MatchOption o (◌≡◌ {A = List Record} [] []) (λ b. SpellsLeaf [] ((now b).bytes))) (sym e) refl }

-- a live leaf of a source of records is not touched
pub untouched : (form : Form) (size i tag b : ℕ) (old new : State) (x : Leaves) → Touched old new tag (MayZero form size i old x) b → (old.label b).state ≡ Live → (old.label b).kind ≡ form.kind → (IsPlain form → ⊥) → ⊥
untouched form size i tag b old new x (inl made) live kind plain = made.0 live
untouched form size i tag b old new x (inr h) live kind plain = ⊎_elim (λ k. k.1 kind) (λ k. plain k.1.0) h.0
