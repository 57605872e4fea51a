-- A source stays over blocks of which one leaf gets other bytes.
use Rattle.std.proofs.Common.{◌≡◌, ◌∙◌, inl, inr, ⊎_elim, ℕ, ◌+◌, ◌*◌, ◌≤◌, List, length, Some, sym, ap, subst}
use Rattle.std.proofs.lemmas.Bool.{cases_eq}
use Rattle.fo_crash.specs.Steps.{PutsBytes}
use Rattle.fo_crash.proofs.Reach.{reaches_itself}
use Rattle.fo_ports.specs.State.{State}
use Rattle.fo_ports.specs.Sources.{Leaves, Undisturbed}
use Rattle.fo_dir_put.specs.Puts.{StaysCalm}
use Rattle.fo_dir_put.proofs.Leaves.{bytes_reached}

-- the leaf is one of the source
pub put_undisturbed : {a b : State} {leaves : Leaves} {size at : ℕ} {bytes : List ℕ} (i : ℕ) → a.tells → a.tops 1 → StaysCalm a b → PutsBytes at bytes a.now b.now → length bytes ≡ length ((a.now at).bytes) → ((x : ℕ) → leaves.owns x → a.covered x → ⊥) → leaves.at i ≡ Some at → 8192 * (i + 1) ≤ size → Undisturbed leaves size a b
put_undisturbed {a = a} {b = b} {leaves = leaves} {at = at} i told active calm puts long spared is within = record {
  each = λ x own. (
    record {
      same_slots = inr (λ j. puts.slots x j);
      same_length = ⊎_elim
          (λ e. subst (λ y. length ((b.now y).bytes) ≡ length ((a.now y).bytes)) (sym e) (ap (λ (xs : List ℕ). length xs) puts.here ∙ long))
          (λ ne. ap (λ (xs : List ℕ). length xs) (puts.others x ne))
          (cases_eq x at);
      same_label = calm.labels x;
      same_places = λ hung p h. calm.places told x p (spared x own) ((calm.rooted told x).1 (⊎_elim (λ r. (1, inl active, r)) (λ k. (k.top, inr k.is_apart, k.reaches)) hung)) h;
      in_tree = λ r. calm.linked told x r;
      hung = λ hung. ⊎_elim
          (λ r. inl (calm.linked told x r))
          (λ h. inr (record {
            top = h.top;
            is_apart = calm.apart h.top h.is_apart;
            place = h.place;
            stands = calm.places told h.top h.place h.uncovered (h.top, inr (calm.apart h.top h.is_apart), reaches_itself b.now h.top) h.stands;
            uncovered = calm.uncovered h.top h.uncovered;
            reaches = bytes_reached puts h.reaches;
          }))
          hung;
      linked = λ h. inl (calm.apart x h);
      uncovered = λ clear. calm.uncovered x clear;
      instead = λ y h. calm.instead y x h;
    },
    ⊎_elim
        (λ e. inr (i, is ∙ ap (λ y. Some y) (sym e), within))
        (λ ne. inl (puts.others x ne))
        (cases_eq x at),
  );
}
