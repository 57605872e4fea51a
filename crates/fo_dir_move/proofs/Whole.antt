-- One record moves: what its leaves are without it and with it.
use Rattle.std.proofs.Common.{◌≡◌, ◌⊎◌, inl, inr, ⊎_elim, ℕ, ◌+◌, ◌*◌, ◌/◌, ◌%◌, List, [], ◌∷◌, ◌++◌, Contains, Bool, true, false, find, None, Some, refl, sym, ◌∙◌, ap, subst}
use Rattle.std.proofs.lemmas.List.Elements.{Contains-append_cases}
use Rattle.fo_image.specs.declared.record.Record.{Record}
use Rattle.std.specs.List.{list_any}
use Rattle.fo_meta.specs.Leaf.{SpellsLeaf, is_named, without}
use Rattle.fo_meta.proofs.Lists.{find-none}
use Rattle.fo_dir_put.specs.of_good.Reading.{leaf_records}
use Rattle.fo_dir_put.proofs.of_good.Leaf.{leaf_is_read}
use Rattle.fo_crash.specs.Images.{Image}
use Rattle.fo_ports.specs.State.{State, IsDoomed}
use Rattle.fo_dir_put.specs.Names.{AllApart, Clash}
use Rattle.fo_dir_put.specs.Differ.{Distinct, AreDistinct}
use Rattle.fo_dir_put.specs.Paired.{HasBoth, StoodAs}
use Rattle.fo_dir_put.proofs.Named.{distinct_more}
use Rattle.fo_dir_change.proofs.Without.{Split, split_at, was_there, first_there, left_or_first, left_distinct, left_apart, one_is}
use Rattle.fo_dir_move.specs.Moves.{MovesKeys, MovesPaired}
use Rattle.fo_dir_move.specs.Record.{IsBacked}

stood : {bytes : List ℕ} (x : Record) → Contains (leaf_records bytes) x → StoodAs bytes x
stood x has = record { before = x; is_one = has; slot = refl; generation = refl; number = refl; dir = refl }

-- each record stood in those bytes, or has its pair
abbrev Backing : State → (e entries : ℕ) → List ℕ → Record → Type 0
Backing t e entries xs x = StoodAs xs x ⊎ ((e ≡ entries) × HasBoth entries t.now x × (t.clearing entries (2 * (x.slot % 102)) → ⊥) × (t.clearing entries (2 * (x.slot % 102) + 1) → ⊥))

decide : (b : Bool) → (b ≡ true) ⊎ (b ≡ false)
decide true = inl refl
decide false = inr refl

-- a record that is found splits the records
pub found_splits : (name : List ℕ) (rs : List Record) (r : Record) → find (is_named name) rs ≡ Some r → Split name rs
found_splits name rs r is = ⊎_elim
    (λ e. split_at name rs e)
    (λ e. let none : None ≡ Some r = sym (find-none (is_named name) rs e) ∙ is in absurd (cc))
    (decide (list_any (is_named name) rs))

module _ {r : Record} {rs ts : List Record} {from_bytes to_bytes left with : List ℕ} (s : Split r.name rs) (is : s.named ≡ r) (was : SpellsLeaf rs from_bytes) (were : SpellsLeaf ts to_bytes) (now : SpellsLeaf (without r.name rs) left) (more : SpellsLeaf (ts ++ r ∷ []) with) where
  in_from : (x : Record) → Contains rs x → Contains (leaf_records from_bytes) x
  in_from x h = subst (λ xs. Contains xs x) (sym (leaf_is_read rs from_bytes was)) h

  pub r_there : Contains (leaf_records from_bytes) r
  r_there = subst (λ y. Contains (leaf_records from_bytes) y) is (in_from s.named (first_there s))

  left_was : (x : Record) → Contains (leaf_records left) x → Contains (leaf_records from_bytes) x
  left_was x has = in_from x (was_there s x (subst (λ xs. Contains xs x) (leaf_is_read (without r.name rs) left now) has))

  -- what was in the first leaf is left, or is the record
  from_cases : (x : Record) → Contains (leaf_records from_bytes) x → Contains (leaf_records left) x ⊎ (x ≡ r)
  from_cases x has = ⊎_elim
      (λ h. inl (subst (λ xs. Contains xs x) (sym (leaf_is_read (without r.name rs) left now)) h))
      (λ e. inr (e ∙ is))
      (left_or_first s x (subst (λ xs. Contains xs x) (leaf_is_read rs from_bytes was) has))

  -- what is in the second one then was there, or is the record
  to_cases : (x : Record) → Contains (leaf_records with) x → Contains (leaf_records to_bytes) x ⊎ (x ≡ r)
  to_cases x has = ⊎_elim
      (λ h. inl (subst (λ xs. Contains xs x) (sym (leaf_is_read ts to_bytes were)) h))
      (λ h. inr (one_is x r h))
      (Contains-append_cases ts (r ∷ []) x (subst (λ xs. Contains xs x) (leaf_is_read (ts ++ r ∷ []) with more) has))

  apart_left : AreDistinct from_bytes → (x : Record) → Contains (leaf_records left) x → Clash x r → ⊥
  apart_left d x has clash = left_apart s (subst Distinct (leaf_is_read rs from_bytes was) d.are) x (subst (λ xs. Contains xs x) (leaf_is_read (without r.name rs) left now) has) (subst (λ (y : Record). Clash x y) (sym is) clash)

  flip : (x q : Record) → Clash x q → Clash q x
  flip x q clash = ⊎_elim (λ e. inl (sym e)) (λ rest. ⊎_elim (λ e. inr (inl (sym e))) (λ e. inr (inr (sym e))) rest) clash

  pub moves_keys : AreDistinct from_bytes → MovesKeys from_bytes to_bytes left with
  moves_keys d = record {
    kept = λ x has. record { keyed = x; is_one = left_was x has; same = (refl, refl, refl) };
    moved = λ x has. ⊎_elim
        (λ h. inl (record { keyed = x; is_one = h; same = (refl, refl, refl) }))
        (λ e. inr (
          record { keyed = r; is_one = r_there; same = (ap (λ (y : Record). y.name) e, ap (λ (y : Record). y.number) e, ap (λ (y : Record). y.slot) e) },
          λ q two clash. apart_left d q two (flip r q (subst (λ (y : Record). Clash y q) e clash)),
        ))
        (to_cases x has);
  }

  pub left_differ : AreDistinct from_bytes → AreDistinct left
  left_differ d = record { are = subst Distinct (sym (leaf_is_read (without r.name rs) left now)) (left_distinct s (subst Distinct (leaf_is_read rs from_bytes was) d.are)) }

  pub with_differ : AreDistinct to_bytes → ((q : Record) → Contains (leaf_records to_bytes) q → Clash q r → ⊥) → AreDistinct with
  with_differ d none = record {
    are = subst Distinct (sym (leaf_is_read (ts ++ r ∷ []) with more))
        (distinct_more ts r (subst Distinct (leaf_is_read ts to_bytes were) d.are) (λ q has clash. none q (subst (λ xs. Contains xs q) (sym (leaf_is_read ts to_bytes were)) has) clash));
  }

  -- two leaves of memory have nothing in common
  pub none_there : (from to : ℕ) (now_is : Image) (images : Image → Type 0) → images now_is → (now_is from).bytes ≡ from_bytes → (now_is to).bytes ≡ to_bytes → AllApart to from images → (q : Record) → Contains (leaf_records to_bytes) q → Clash q r → ⊥
  none_there from to now_is images present one two all q has clash =
      all.each now_is now_is present present q r (subst (λ xs. Contains (leaf_records xs) q) (sym two) has) (subst (λ xs. Contains (leaf_records xs) r) (sym one) r_there) clash

  pub moves_paired : (t : State) (n a from to e entries : ℕ) → (t.now from).bytes ≡ from_bytes → (t.now to).bytes ≡ to_bytes → (r.slot / 102 ≡ n → (e ≡ entries) × IsBacked entries r t) → t.pinned e ⊎ (IsDoomed t e → ⊥) → MovesPaired n a from to e entries left with t
  moves_paired t n a from to e entries one two backed stays = record {
    kept = λ f. record { each = λ x has slot. subst (λ xs. StoodAs xs x) (sym one) (stood x (left_was x has)) };
    put = λ f. record { each = λ x has slot. subst (λ xs. Backing t e entries xs x) (sym two) (⊎_elim (λ h. inl (stood x h)) (λ g. inr (own x g slot)) (to_cases x has)) };
    back = λ f. record { each = λ x has slot. ⊎_elim (λ h. inl (stood x h)) (λ g. inr (own x g slot)) (from_cases x (subst (λ xs. Contains (leaf_records xs) x) one has)) };
    stays = stays;
  }
    where
      own : (x : Record) → x ≡ r → x.slot / 102 ≡ n → (e ≡ entries) × HasBoth entries t.now x × (t.clearing entries (2 * (x.slot % 102)) → ⊥) × (t.clearing entries (2 * (x.slot % 102) + 1) → ⊥)
      own x g slot =
          let b = backed (ap (λ (y : Record). y.slot / 102) (sym g) ∙ slot) in (
            b.0,
            subst (λ (y : Record). HasBoth entries t.now y) (sym g) b.1.has,
            subst (λ (y : Record). t.clearing entries (2 * (y.slot % 102)) → ⊥) (sym g) b.1.first,
            subst (λ (y : Record). t.clearing entries (2 * (y.slot % 102) + 1) → ⊥) (sym g) b.1.second,
          )
