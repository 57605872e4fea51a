-- One pair of a source of entries is put.
use Rattle.std.proofs.Common.{◌≡◌, ◌≢◌, ◌⊎◌, inl, inr, ⊎_elim, ℕ, ◌+◌, ◌*◌, ◌/◌, ◌%◌, ◌<◌, List, length, Option, Some, None, MatchOption, refl, sym, ap, ◌∙◌, subst, arith}
use Rattle.std.proofs.lemmas.Bool.{cases_eq}
use Rattle.fo_image.specs.declared.types.Entry.{Entry}
use Rattle.fo_image.specs.declared.types.Kind.TheVariants.{Dir}
use Rattle.fo_crash.specs.declared.slot.Slot.TheVariants.{Entry as Head}
use Rattle.fo_crash.specs.Images.{Image, Reaches, to_block}
use Rattle.fo_ports.specs.Blocks.{no_entry}
use Rattle.fo_ports.specs.State.{State}
use Rattle.fo_ports.specs.Sources.{Leaves, Undisturbed}
use Rattle.fo_dir_read.specs.Pairs.{IsPair}
use Rattle.fo_dir_put.specs.Puts.{StaysCalm}

-- the source stays
pub pair_undisturbed : {a b : State} {leaves : Leaves} {size at : ℕ} (p : ℕ) → a.tells → a.tops 1 → StaysCalm a b → (a.label at).kind ≡ Dir 0 → ((x j : ℕ) → (x ≢ at) ⊎ ((j ≢ 2 * p) × (j ≢ 2 * p + 1)) → (b.now x).slot j ≡ (a.now x).slot j)
    → ((x : ℕ) → leaves.owns x → (b.now x).bytes ≡ (a.now x).bytes) → ((x : ℕ) → leaves.owns x → a.covered x → ⊥) → ((x : ℕ) → leaves.owns x → Reaches a.now (to_block 1) x) → Undisturbed leaves size a b
pair_undisturbed {a = a} {b = b} {leaves = leaves} {at = at} p told active calm kind slots bytes spared linked = record {
  each = λ x own. (
    record {
      same_slots = ⊎_elim (λ e. inl (subst (λ y. (a.label y).kind ≡ Dir 0) (sym e) kind)) (λ ne. inr (λ j. slots x j (inl ne))) (cases_eq x at);
      same_length = ap (λ (xs : List ℕ). length xs) (bytes x own);
      same_label = calm.labels x;
      same_places = λ hung q h. calm.places told x q (spared x own) ((calm.rooted told x).1 (1, inl active, linked x own)) h;
      in_tree = λ r. calm.linked told x r;
      hung = λ h. inl (calm.linked told x (linked x own));
      linked = λ h. inl (calm.apart x h);
      uncovered = λ clear. calm.uncovered x clear;
      instead = λ y h. calm.instead y x h;
    },
    inl (bytes x own),
  );
}

pub pair_is : {now : Image} {x : Leaves} {at : ℕ} {first second : Entry} (i p : ℕ) → p < 102 → x.at i ≡ Some at → (now at).slot (2 * p) ≡ Head first → (now at).slot (2 * p + 1) ≡ Head second → IsPair now x (102 * i + p) first second
pair_is {now = now} {x = x} {at = at} {first = first} {second = second} i p lt leaf one two = record {
  is = subst (λ o. MatchOption o ((first ≡ no_entry) × (second ≡ no_entry)) (λ b. ((now b).slot (2 * ((102 * i + p) % 102)) ≡ Head first) × ((now b).slot (2 * ((102 * i + p) % 102) + 1) ≡ Head second))) (sym (ap (λ k. x.at k) div ∙ leaf))
      (subst (λ q. (now at).slot (2 * q) ≡ Head first) (sym rest) one, subst (λ q. (now at).slot (2 * q + 1) ≡ Head second) (sym rest) two);
}
  where
    div : (102 * i + p) / 102 ≡ i
    div = omega (arith, lt)

    rest : (102 * i + p) % 102 ≡ p
    rest = omega (arith, lt)

pub pair_aside : {now next : Image} {x y : Leaves} {at : ℕ} {first second : Entry} (i p k : ℕ) → k ≢ 102 * i + p → ((j : ℕ) → x.at j ≡ Some at → j ≡ i) → ((b j : ℕ) → (b ≢ at) ⊎ ((j ≢ 2 * p) × (j ≢ 2 * p + 1)) → (next b).slot j ≡ (now b).slot j)
    → y.at (k / 102) ≡ x.at (k / 102) → IsPair now x k first second → IsPair next y k first second
pair_aside {now = now} {next = next} {x = x} {y = y} {at = at} {first = first} {second = second} i p k other one slots there pair = record {
  is = subst (λ o. MatchOption o Nothing (λ b. Has next b)) (sym there) (by (x.at (k / 102)) refl pair.is);
}
  where
    Nothing : Type 0
    Nothing = (first ≡ no_entry) × (second ≡ no_entry)

    Has : Image → ℕ → Type 0
    Has image b = ((image b).slot (2 * (k % 102)) ≡ Head first) × ((image b).slot (2 * (k % 102) + 1) ≡ Head second)

    differs : k / 102 ≡ i → k % 102 ≢ p
    differs e f = other (omega (arith, e, f))

    free : (b : ℕ) → x.at (k / 102) ≡ Some b → (b ≢ at) ⊎ (k % 102 ≢ p)
    free b e = ⊎_elim (λ f. inr (differs (one (k / 102) (e ∙ ap (λ z. Some z) f)))) (λ ne. inl ne) (cases_eq b at)

    even : (q : ℕ) → q ≢ p → (2 * q ≢ 2 * p) × (2 * q ≢ 2 * p + 1)
    even q ne = (λ e. ne (omega (arith, e)), λ e. omega (arith, e))

    odd : (q : ℕ) → q ≢ p → (2 * q + 1 ≢ 2 * p) × (2 * q + 1 ≢ 2 * p + 1)
    odd q ne = (λ e. omega (arith, e), λ e. ne (omega (arith, e)))

    by : (o : Option ℕ) → x.at (k / 102) ≡ o → MatchOption o Nothing (λ b. Has now b) → MatchOption o Nothing (λ b. Has next b)
    by None e h = h
    by (Some b) e h =
        let f = free b e in
        (slots b (2 * (k % 102)) (⊎_elim (λ ne. inl ne) (λ ne. inr (even (k % 102) ne)) f) ∙ h.0, slots b (2 * (k % 102) + 1) (⊎_elim (λ ne. inl ne) (λ ne. inr (odd (k % 102) ne)) f) ∙ h.1)
