-- One row of several, and a source of which one leaf gets other bytes.
use Rattle.std.proofs.Common.{◌≡◌, ◌≢◌, inl, inr, ⊎_elim, ℕ, zero, suc, ◌+◌, ◌*◌, ◌<◌, ◌≤◌, List, [], ◌++◌, length, Option, Some, None, MatchOption, refl, sym, ap, ◌∙◌, subst, append_assoc, arith}
use Rattle.std.proofs.lemmas.Bool.{cases_eq, eq-eqb, ne_eqb}
use Rattle.std.proofs.lemmas.List.{append-nil}
use Rattle.std.proofs.Math.Bool.{cond}
use Rattle.std.proofs.Math.Dec.{eqb}
use Rattle.fo_image.specs.declared.record.Record.{Record}
use Rattle.fo_meta.specs.Leaf.{SpellsLeaf}
use Rattle.fo_good.proofs.Leaf.{leaf_is_read}
use Rattle.fo_image.specs.declared.types.Kind.TheVariants.{Dir}
use Rattle.fo_crash.specs.Images.{Image, Reaches, to_block}
use Rattle.fo_crash.specs.Steps.{PutsBytes, Covers}
use Rattle.fo_crash.proofs.Reach.{reaches_itself}
use Rattle.fo_ports.specs.State.{State, IsPointers, IsRooted}
use Rattle.fo_ports.specs.Sources.{Leaves, IsHung, Undisturbed}
use Rattle.fo_dir_read.specs.Names.{HasRecords, AreRecords, joined}
use Rattle.fo_dir_put.specs.Puts.{StaysCalm, ClearsAlone}
use Rattle.fo_dir_put.proofs.Leaves.{bytes_reached}
use Rattle.fo_dir_rows.specs.Rows.{ChangesLeaf, HasRow}

-- ---- lists

-- all but one of so many rows
pub record Between (f g : ℕ → List Record) (i n : ℕ) : Type 0 where
  pub back : List Record
  pub first : joined f n ≡ joined f i ++ (f i ++ back)
  pub second : joined g n ≡ joined f i ++ (g i ++ back)

same_front : (f g : ℕ → List Record) (n i : ℕ) → n ≤ i → ((j : ℕ) → j < i → g j ≡ f j) → joined g n ≡ joined f n
same_front f g zero i le same = refl
same_front f g (suc n) i le same = ap (λ xs. xs ++ g n) (same_front f g n i (omega (arith, le)) same) ∙ ap (λ xs. joined f n ++ xs) (same n (omega (arith, le)))

pub between : (f g : ℕ → List Record) (i n : ℕ) → i < n → ((j : ℕ) → j ≢ i → g j ≡ f j) → Between f g i n
between f g i zero lt same = absurd (omega (arith, lt))
between f g i (suc n) lt same = ⊎_elim
    (λ e. subst (λ k. Between f g k (suc n)) (sym e) (record {
      back = [];
      first = ap (λ xs. joined f n ++ xs) (sym (append-nil (f n)));
      second = ap (λ xs. xs ++ g n) (same_front f g n n (omega arith) (λ j less. same j (λ h. absurd (omega (arith, h, e, less))))) ∙ ap (λ xs. joined f n ++ xs) (sym (append-nil (g n)));
    }))
    (λ ne.
    let b = between f g i n (omega (arith, lt, ne)) same in
    record {
      back = b.back ++ f n;
      first = ap (λ xs. xs ++ f n) b.first ∙ append_assoc (joined f i) (f i ++ b.back) (f n) ∙ ap (λ xs. joined f i ++ xs) (append_assoc (f i) b.back (f n));
      second = ap (λ xs. xs ++ g n) b.second ∙ ap (λ xs. (joined f i ++ (g i ++ b.back)) ++ xs) (same n (λ h. ne (sym h))) ∙ append_assoc (joined f i) (g i ++ b.back) (f n) ∙ ap (λ xs. joined f i ++ xs) (append_assoc (g i) b.back (f n));
    })
    (cases_eq i n)

-- ---- leaves

pub spelled : {now : Image} {x : Leaves} {i at : ℕ} {rs : List Record} → x.at i ≡ Some at → HasRecords now x i rs → SpellsLeaf rs ((now at).bytes)
spelled {now = now} {rs = rs} is has = subst (λ o. MatchOption o (rs ≡ []) (λ b. SpellsLeaf rs ((now b).bytes))) is has.is

pub has_spelled : {now : Image} {x : Leaves} {i at : ℕ} {rs : List Record} → x.at i ≡ Some at → SpellsLeaf rs ((now at).bytes) → HasRecords now x i rs
has_spelled {now = now} {rs = rs} is spells = record { is = subst (λ o. MatchOption o (rs ≡ []) (λ b. SpellsLeaf rs ((now b).bytes))) (sym is) spells }

-- another leaf has what it had
pub leaf_aside : {now next : Image} {x y : Leaves} {j : ℕ} {rs : List Record} → y.at j ≡ x.at j → ((b : ℕ) → x.at j ≡ Some b → (next b).bytes ≡ (now b).bytes) → HasRecords now x j rs → HasRecords next y j rs
leaf_aside {now = now} {next = next} {x = x} {j = j} {rs = rs} there same has = record { is = subst (λ o. MatchOption o (rs ≡ []) (λ b. SpellsLeaf rs ((next b).bytes))) (sym there) (by (x.at j) refl has.is) }
  where
    by : (o : Option ℕ) → x.at j ≡ o → MatchOption o (rs ≡ []) (λ b. SpellsLeaf rs ((now b).bytes)) → MatchOption o (rs ≡ []) (λ b. SpellsLeaf rs ((next b).bytes))
    by None e h = h
    by (Some b) e h = subst (λ bytes. SpellsLeaf rs bytes) (sym (same b e)) h

-- the rows with another one in the place of one
abbrev pub with_row : (ℕ → List Record) → ℕ → List Record → ℕ → List Record
with_row f i row j = cond (eqb j i) row (f j)

pub here : (f : ℕ → List Record) (i : ℕ) (row : List Record) → with_row f i row i ≡ row
here f i row = ap (λ b. cond b row (f i)) (eq-eqb i i refl)

pub other : (f : ℕ → List Record) (i : ℕ) (row : List Record) (j : ℕ) → j ≢ i → with_row f i row j ≡ f j
other f i row j ne = ap (λ b. cond b row (f j)) (ne_eqb j i ne)

pub row_changed : (now next : Image) (x y : Leaves) (i at count : ℕ) (all was is : List Record) → x.at i ≡ Some at → i < count → ((j : ℕ) → y.at j ≡ x.at j) → ((j b : ℕ) → j ≢ i → x.at j ≡ Some b → (next b).bytes ≡ (now b).bytes)
    → AreRecords now x count all → HasRecords now x i was → SpellsLeaf is ((next at).bytes) → HasRow next y count all was is
row_changed now next x y i at count all was is leaf lt there same are has spells = record {
  front = joined are.rows i;
  back = gap.back;
  before = are.all ∙ gap.first ∙ ap (λ xs. joined are.rows i ++ (xs ++ gap.back)) row_is;
  are = record {
    rows = with_row are.rows i is;
    each = each;
    all = sym (gap.second ∙ ap (λ xs. joined are.rows i ++ (xs ++ gap.back)) (here are.rows i is));
  };
}
  where
    gap : Between are.rows (with_row are.rows i is) i count
    gap = between are.rows (with_row are.rows i is) i count lt (other are.rows i is)

    row_is : are.rows i ≡ was
    row_is = sym (leaf_is_read (are.rows i) ((now at).bytes) (spelled leaf (are.each i lt))) ∙ leaf_is_read was ((now at).bytes) (spelled leaf has)

    each : (j : ℕ) → j < count → HasRecords next y j (with_row are.rows i is j)
    each j less = ⊎_elim
        (λ e. subst (λ k. HasRecords next y k (with_row are.rows i is k)) (sym e) (subst (λ rs. HasRecords next y i rs) (sym (here are.rows i is)) (has_spelled (there i ∙ leaf) spells)))
        (λ ne. subst (λ rs. HasRecords next y j rs) (sym (other are.rows i is j ne)) (leaf_aside (there j) (λ b e. same j b ne e) (are.each j less)))
        (cases_eq j i)

-- ---- the source

-- what may be put into hangs
hung_rooted : (s : State) (b : ℕ) → s.tops 1 → IsHung s b → IsRooted s b
hung_rooted s b active = ⊎_elim (λ r. (1, inl active, r)) (λ k. (k.top, inr k.is_apart, k.reaches))

-- it stays over blocks of which one of its leaves changed
pub leaf_undisturbed : {a b : State} {leaves : Leaves} {size at : ℕ} (i : ℕ) → a.tells → a.tops 1 → ChangesLeaf at a b → ((x : ℕ) → leaves.owns x → a.covered x → ⊥) → leaves.at i ≡ Some at → 8192 * (i + 1) ≤ size → Undisturbed leaves size a b
leaf_undisturbed {a = a} {b = b} {leaves = leaves} {at = at} i told active changes spared is within = record {
  each = λ x own. (
    record {
      same_slots = changes.slots x;
      same_length = ⊎_elim
          (λ e. subst (λ y. length ((b.now y).bytes) ≡ length ((a.now y).bytes)) (sym e) changes.long)
          (λ ne. ap (λ (xs : List ℕ). length xs) (changes.bytes x ne))
          (cases_eq x at);
      same_label = changes.calm.labels x;
      same_places = λ hung p h. changes.calm.places told x p (spared x own) ((changes.calm.rooted told x).1 (hung_rooted a x active hung)) h;
      in_tree = λ r. changes.calm.linked told x r;
      hung = λ h. ⊎_elim
          (λ r. inl (changes.calm.linked told x r))
          (λ k. inr (record { top = k.top; is_apart = changes.calm.apart k.top k.is_apart; place = k.place; stands = changes.calm.places told k.top k.place k.uncovered (k.top, inr (changes.calm.apart k.top k.is_apart), reaches_itself b.now k.top) k.stands; uncovered = changes.calm.uncovered k.top k.uncovered; reaches = changes.reached k.top x k.reaches }))
          h;
      linked = λ h. inl (changes.calm.apart x h);
      uncovered = λ clear. changes.calm.uncovered x clear;
      instead = λ y h. changes.calm.instead y x h;
    },
    ⊎_elim
        (λ e. inr (i, is ∙ ap (λ y. Some y) (sym e), within))
        (λ ne. inl (changes.bytes x ne))
        (cases_eq x at),
  );
}

-- bytes of a leaf were put
pub bytes_change : {at : ℕ} {bytes : List ℕ} {a b : State} → StaysCalm a b → PutsBytes at bytes a.now b.now → length bytes ≡ length ((a.now at).bytes) → ChangesLeaf at a b
bytes_change calm puts long = record {
  calm = calm;
  slots = λ x. inr (λ j. puts.slots x j);
  bytes = puts.others;
  long = ap (λ (xs : List ℕ). length xs) puts.here ∙ long;
  reached = λ t c r. bytes_reached puts r;
}

-- ---- an entry is cleared

-- a source stays over blocks of which an entry was cleared, below which none of its blocks hangs
pub entry_undisturbed : {a b : State} {leaves : Leaves} {size at j : ℕ} → a.tells → a.tops 1 → ClearsAlone at j a b → (a.label at).kind ≡ Dir 0 → Covers (IsPointers a) ((a.now at).slot j) a.now b.now a.covered b.covered → ((x : ℕ) → leaves.owns x → a.covered x → ⊥)
    → ((x : ℕ) → leaves.owns x → Reaches a.now ((a.now at).slot j) x → ⊥) → ((x : ℕ) → leaves.owns x → Reaches a.now (to_block 1) x) → Undisturbed leaves size a b
entry_undisturbed {a = a} {b = b} {leaves = leaves} {at = at} {j = j} told active alone kind covers spared aside linked = record {
  each = λ x own.
      let clear : b.covered x → ⊥ = λ h. covers.only x (spared x own) (aside x own) h in (
        record {
          same_slots = ⊎_elim (λ e. inl (subst (λ y. (a.label y).kind ≡ Dir 0) (sym e) kind)) (λ ne. inr (λ i. alone.slots x i (inl ne))) (cases_eq x at);
          same_length = ap (λ (xs : List ℕ). length xs) (alone.bytes x);
          same_label = alone.labels x;
          same_places = λ hung p h. alone.places told x p clear (alone.hangs told x (aside x own) (1, inl active, linked x own)) h;
          in_tree = λ r. alone.linked told x (aside x own) r;
          hung = λ h. inl (alone.linked told x (aside x own) (linked x own));
          linked = λ h. inl (alone.apart x h);
          uncovered = λ free h. clear h;
          instead = λ y h. alone.instead y x h;
        },
        inl (alone.bytes x),
      );
}

-- its leaves have the records that they had
pub rows_stay : {now next : Image} {x y : Leaves} {count : ℕ} {all : List Record} → ((j : ℕ) → y.at j ≡ x.at j) → ((b : ℕ) → (next b).bytes ≡ (now b).bytes) → AreRecords now x count all → AreRecords next y count all
rows_stay there same are = record { rows = are.rows; each = λ j less. leaf_aside (there j) (λ b e. same b) (are.each j less); all = are.all }
