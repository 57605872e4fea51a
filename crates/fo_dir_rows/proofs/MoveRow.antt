-- A record moves from one leaf of a source to another.
use Rattle.std.proofs.Common.{◌≡◌, ◌≢◌, ◌⊎◌, inl, inr, ⊎_elim, ℕ, zero, suc, ◌+◌, ◌*◌, ◌<◌, ◌≤◌, List, ◌++◌, length, Some, refl, sym, ap, ◌∙◌, subst, arith}
use Rattle.std.proofs.lemmas.Bool.{cases_eq}
use Rattle.fo_image.specs.declared.record.Record.{Record}
use Rattle.fo_image.specs.declared.types.Kind.{Kind}
use Rattle.fo_image.specs.declared.types.Kind.TheVariants.{Data, Dir, Root}
use Rattle.fo_meta.specs.Leaf.{SpellsLeaf}
use Rattle.fo_good.proofs.Leaf.{leaf_is_read}
use Rattle.fo_crash.specs.Images.{Image, Reaches, to_block}
use Rattle.fo_ports.specs.State.{State, IsDoomed, IsRooted}
use Rattle.fo_ports.specs.Sources.{Leaves, Undisturbed}
use Rattle.fo_dir_read.specs.Names.{HasRecords, AreRecords, joined}
use Rattle.fo_dir_move.specs.Moves.{MovesAlone}
use Rattle.fo_dir_rows.specs.Rows.{HasRows}
use Rattle.fo_dir_rows.proofs.Row.{Between, between, with_row, here, other, spelled, has_spelled, leaf_aside}

-- a block is a leaf of entries or not
levels : Kind → ℕ
levels (Data n) = 1
levels (Dir n) = n
levels Root = 1

far : {k : Kind} → levels k ≡ 1 → k ≡ Dir 0 → ⊥
unfolding levels
far one e = let no = sym one ∙ ap levels e in omega (arith, no)

is_leaf : (k : Kind) → (k ≡ Dir 0) ⊎ (k ≡ Dir 0 → ⊥)
unfolding levels
is_leaf (Data n) = inr (λ e. far refl e)
is_leaf (Dir zero) = inl refl
is_leaf (Dir (suc n)) = inr (λ e. let no = ap levels e in omega (arith, no))
is_leaf Root = inr (λ e. far refl e)

-- the source stays
pub move_undisturbed : {a b : State} {leaves : Leaves} {size from to : ℕ} (i j : ℕ) → a.tells → MovesAlone from to a b → a.tops 1 → b.tops 1 → ((x k : ℕ) → a.clearing x k → (a.label x).kind ≡ Dir 0) → leaves.at i ≡ Some from → leaves.at j ≡ Some to → 8192 * (i + 1) ≤ size → 8192 * (j + 1) ≤ size
    → length ((b.now from).bytes) ≡ length ((a.now from).bytes) → length ((b.now to).bytes) ≡ length ((a.now to).bytes) → ((x : ℕ) → leaves.owns x → IsDoomed a x → ⊥) → ((x : ℕ) → leaves.owns x → Reaches a.now (to_block 1) x) → Undisturbed leaves size a b
move_undisturbed {a = a} {b = b} {leaves = leaves} {from = from} {to = to} i j told alone top still dirs one two in_one in_two long longer spared linked = record {
  each = λ x own.
      let stays = alone.blocks told x (spared x own) in
      let rooted : IsRooted a x = (1, inl top, linked x own) in (
        record {
          same_slots = ⊎_elim
              (λ e. inl e)
              (λ ne. inr (λ k. ⊎_elim (λ s. s.0) (λ was. absurd (ne (dirs x k was.0))) (stays.content.slots k)))
              (is_leaf (a.label x).kind);
          same_length = ⊎_elim
              (λ e. subst (λ y. length ((b.now y).bytes) ≡ length ((a.now y).bytes)) (sym e) long)
              (λ ne. ⊎_elim (λ e. subst (λ y. length ((b.now y).bytes) ≡ length ((a.now y).bytes)) (sym e) longer) (λ no. ap (λ (xs : List ℕ). length xs) (stays.content.bytes ne no)) (cases_eq x to))
              (cases_eq x from);
          same_label = alone.labels x;
          same_places = λ hung p h. stays.places rooted (1, inl still, alone.linked told x (spared x own) (linked x own)) p h;
          in_tree = λ r. alone.linked told x (spared x own) r;
          hung = λ h. inl (alone.linked told x (spared x own) (linked x own));
          linked = λ h. inl (alone.apart x h);
          uncovered = λ clear h. stays.uncovered h;
          instead = λ y h. alone.instead y x h;
        },
        ⊎_elim
            (λ e. inr (i, one ∙ ap (λ y. Some y) (sym e), in_one))
            (λ ne. ⊎_elim (λ e. inr (j, two ∙ ap (λ y. Some y) (sym e), in_two)) (λ no. inl (stays.content.bytes ne no)) (cases_eq x to))
            (cases_eq x from),
      );
}

pub rows_moved : (now next : Image) (x y : Leaves) (i j from to count : ℕ) (all was is were are_now : List Record) → i ≢ j → x.at i ≡ Some from → x.at j ≡ Some to → i < count → j < count → ((k : ℕ) → y.at k ≡ x.at k) → ((k b : ℕ) → k ≢ i → k ≢ j → x.at k ≡ Some b → (next b).bytes ≡ (now b).bytes)
    → AreRecords now x count all → HasRecords now x i was → HasRecords now x j were → SpellsLeaf is ((next from).bytes) → SpellsLeaf are_now ((next to).bytes) → HasRows next y count all was is were are_now
rows_moved now next x y i j from to count all was is were are_now differ one two lt lt_too there same are has has_too spells spells_too = record {
  front = joined are.rows i;
  back = gap.back;
  before = are.all ∙ gap.first ∙ ap (λ xs. joined are.rows i ++ (xs ++ gap.back)) was_is;
  then_front = joined mid j;
  then_back = next_gap.back;
  between = ap (λ xs. joined are.rows i ++ (xs ++ gap.back)) (sym (here are.rows i is)) ∙ sym gap.second ∙ next_gap.first ∙ ap (λ xs. joined mid j ++ (xs ++ next_gap.back)) were_is;
  are = record {
    rows = with_row mid j are_now;
    each = each;
    all = sym (next_gap.second ∙ ap (λ xs. joined mid j ++ (xs ++ next_gap.back)) (here mid j are_now));
  };
}
  where
    mid : ℕ → List Record
    mid = with_row are.rows i is

    gap : Between are.rows (with_row are.rows i is) i count
    gap = between are.rows (with_row are.rows i is) i count lt (other are.rows i is)

    next_gap : Between mid (with_row mid j are_now) j count
    next_gap = between mid (with_row mid j are_now) j count lt_too (other mid j are_now)

    was_is : are.rows i ≡ was
    was_is = sym (leaf_is_read (are.rows i) ((now from).bytes) (spelled one (are.each i lt))) ∙ leaf_is_read was ((now from).bytes) (spelled one has)

    were_is : mid j ≡ were
    were_is = other are.rows i is j (λ e. differ (sym e)) ∙ sym (leaf_is_read (are.rows j) ((now to).bytes) (spelled two (are.each j lt_too))) ∙ leaf_is_read were ((now to).bytes) (spelled two has_too)

    each : (k : ℕ) → k < count → HasRecords next y k (with_row mid j are_now k)
    each k less = ⊎_elim
        (λ e. subst (λ m. HasRecords next y m (with_row mid j are_now m)) (sym e) (subst (λ rs. HasRecords next y j rs) (sym (here mid j are_now)) (has_spelled (there j ∙ two) spells_too)))
        (λ ne. subst (λ rs. HasRecords next y k rs) (sym (other mid j are_now k ne)) (⊎_elim
        (λ e. subst (λ m. HasRecords next y m (mid m)) (sym e) (subst (λ rs. HasRecords next y i rs) (sym (here are.rows i is)) (has_spelled (there i ∙ one) spells)))
        (λ no. subst (λ rs. HasRecords next y k rs) (sym (other are.rows i is k no)) (leaf_aside (there k) (λ b e. same k b no ne e) (are.each k less)))
        (cases_eq k i)))
        (cases_eq k j)
