-- What stays so after the first entry of a pair was cleared, or waits for it.
use Rattle.std.proofs.Common.{◌≡◌, ◌≢◌, ◌⊎◌, inl, inr, ⊎_elim, ℕ, ◌*◌, ◌≤◌, List, ◌∷◌, ◌++◌, length, sym, ◌∙◌, ap, subst, arith}
use Rattle.std.proofs.lemmas.Bool.{cases_eq}
use Rattle.std.proofs.lemmas.List.{length-append}
use Rattle.fo_image.specs.declared.types.Label.{Label}
use Rattle.fo_image.specs.declared.types.Pointer.TheVariants.{Nil, Local}
use Rattle.fo_crash.specs.declared.slot.Slot.{Slot}
use Rattle.fo_crash.specs.Images.{Image, Reaches, to_block, target, local, walk}
use Rattle.fo_crash.specs.Spots.{OnePath}
use Rattle.fo_crash.specs.Steps.{Covers, PutsSlot, cleared}
use Rattle.fo_crash.specs.Names.{IsInUse}
use Rattle.fo_crash.proofs.Reach.{walk_joins}
use Rattle.fo_crash.proofs.Covers.{slot_reaches}
use Rattle.fo_ports.specs.State.{State, KeepsAll, IsPointers}
use Rattle.fo_dir_change.specs.of_dir_put.Puts.{StaysCalm, ClearsAlone, IsOwnedEntries, IsOwnedRecords, MayClear}
use Rattle.fo_dir_change.proofs.of_dir_put.Nothing.{nil_reaches}
use Rattle.fo_dir_change.proofs.of_dir_put.Spared.{slots_reached}
use Rattle.fo_dir_remove.specs.Removes.{IsQuiet, IsGoing}

-- ---- after bytes were put

module _ {o a : State} (calm : StaysCalm o a) (same : (b j : ℕ) → (a.now b).slot j ≡ (o.now b).slot j) where
  below : (at i b : ℕ) → Reaches a.now ((a.now at).slot i) b → Reaches o.now ((o.now at).slot i) b
  below at i b r = subst (λ (s : Slot). Reaches o.now s b) (same at i) (slots_reached (λ x j. sym (same x j)) r)

  pub calm_aside : (at i b : ℕ) → (Reaches o.now ((o.now at).slot i) b → ⊥) → Reaches a.now ((a.now at).slot i) b → ⊥
  calm_aside at i b free r = free (below at i b r)

  pub calm_quiet : (at i : ℕ) → IsQuiet o at i → IsQuiet a at i
  calm_quiet at i q = record {
    none_comes = λ y x h. q.none_comes y x (calm.instead y x h);
    quiet = λ b k waits r. q.quiet b k (calm.order.clearing b k waits).1 (below at i b r);
  }

  pub calm_clear : (at j : ℕ) → MayClear o at j → MayClear a at j
  calm_clear at j may = record {
    is_sealed = (calm.marks at).1 may.is_sealed;
    waits = ⊎_elim
        (λ h. inl (h.0, h.1, (h.2.0, subst (λ (s : Slot). IsInUse s h.2.0) (sym (same at j)) h.2.1)))
        (λ h. inr (h.0, h.1, calm.order.goes_on at (2 * h.0) (λ n. n) h.2))
        may.waits;
    none_comes = λ y x h. may.none_comes y x (calm.instead y x h);
    quiet = λ b k waits r. may.quiet b k (calm.order.clearing b k waits).1 (below at j b r);
  }

  pub calm_entries : KeepsAll o a → (at : ℕ) → IsOwnedEntries o at → IsOwnedEntries a at
  calm_entries all at owned = record {
    is_pinned = (calm.marks at).0 owned.is_pinned;
    current = ap (λ (l : Label). l.epoch) (calm.labels at) ∙ owned.current ∙ sym all.same_high;
    leaf_kind = ap (λ (l : Label). l.kind) (calm.labels at) ∙ owned.leaf_kind;
    linked = λ tells. let was = all.still_tells.0 tells in calm.linked was at (owned.linked was);
    uncovered = calm.uncovered at owned.uncovered;
  }

-- ---- after the first entry

-- Where one path leads to each block, none leads back to where it came from.
pub no_way_back : {now : Image} {at j : ℕ} → OnePath 1 now → Reaches now (to_block 1) at → Reaches now ((now at).slot j) at → ⊥
no_way_back {now = now} {at = at} {j = j} one way back = longer (one.each at way.path (way.path ++ j ∷ back.path) way.leads leads)
  where
    leads : target (walk now (to_block 1) (way.path ++ j ∷ back.path)) ≡ Local at
    leads = ap target (walk_joins now (to_block 1) way.path (j ∷ back.path)) ∙ ap (λ p. target (walk now ((local now p).slot j) back.path)) way.leads ∙ back.leads

    longer : way.path ≡ way.path ++ j ∷ back.path → ⊥
    longer e =
        let long = ap (λ (xs : List ℕ). length xs) e ∙ length-append way.path (j ∷ back.path) in
        let more : 1 ≤ length (j ∷ back.path) = omega arith in
        omega (arith, long, more)

module _ {a b : State} {at j : ℕ} (going : IsGoing a b at j) (alone : ClearsAlone at j a b) (nil : target (cleared ((a.now at).slot j)) ≡ Nil) where
  -- what is reached now was reached
  pub reached_back : {t : Slot} {c : ℕ} → Reaches b.now t c → Reaches a.now t c
  reached_back {t = t} {c = c} r = by going
    where
      by : IsGoing a b at j → Reaches a.now t c
      by (inl h) = ⊎_elim (λ r. r) (λ below. absurd (nil_reaches (cleared ((a.now at).slot j)) c nil below))
          (slot_reaches (let puts : PutsSlot at j (cleared ((a.now at).slot j)) a.now b.now = record { bytes = alone.bytes; here = h.0; others = alone.slots } in puts) r)
      by (inr h) = slots_reached (λ x i. sym (same x i)) r
        where
          same : (x i : ℕ) → (b.now x).slot i ≡ (a.now x).slot i
          same x i = ⊎_elim
              (λ e. ⊎_elim (λ f. ap (λ y. (b.now y).slot i) e ∙ ap (λ k. (b.now at).slot k) f ∙ h.0 ∙ ap (λ k. (a.now at).slot k) (sym f) ∙ ap (λ y. (a.now y).slot i) (sym e)) (λ ne. alone.slots x i (inr ne)) (cases_eq i j))
              (λ ne. alone.slots x i (inl ne))
              (cases_eq x at)

  module _ (all : KeepsAll a b) (order : (x i : ℕ) → b.clearing x i → a.clearing x i ⊎ ((x ≡ at) × (i ≡ j))) where
    -- another entry of the leaf may be cleared next
    pub quiet_then : (i : ℕ) → i ≢ j → (Reaches a.now ((a.now at).slot i) at → ⊥) → IsQuiet a at i → IsQuiet b at i
    quiet_then i ne free q = record {
      none_comes = λ y x h. q.none_comes y x (alone.instead y x h);
      quiet = λ x k waits r.
          let s = subst (λ (t : Slot). Reaches a.now t x) (alone.slots at i (inr ne)) (reached_back r) in
          ⊎_elim (λ h. q.quiet x k h s) (λ h. free (subst (λ y. Reaches a.now ((a.now at).slot i) y) h.0 s)) (order x k waits);
    }

    module _ (told : (x : ℕ) → b.covered x → a.tells) (covers : a.tells → Covers (IsPointers a) ((a.now at).slot j) a.now b.now a.covered b.covered) where
      uncovered : (x : ℕ) → (a.covered x → ⊥) → (a.tells → Reaches a.now ((a.now at).slot j) x → ⊥) → b.covered x → ⊥
      uncovered x clear aside h = (covers (told x h)).only x clear (aside (told x h)) h

      pub entries_then : (a.tells → Reaches a.now ((a.now at).slot j) at → ⊥) → IsOwnedEntries a at → IsOwnedEntries b at
      entries_then free owned = record {
        is_pinned = (alone.marks at).0 owned.is_pinned;
        current = ap (λ (l : Label). l.epoch) (alone.labels at) ∙ owned.current ∙ sym all.same_high;
        leaf_kind = ap (λ (l : Label). l.kind) (alone.labels at) ∙ owned.leaf_kind;
        linked = λ tells. let was = all.still_tells.0 tells in alone.linked was at (free was) (owned.linked was);
        uncovered = uncovered at owned.uncovered free;
      }

      pub records_then : (leaf : ℕ) → (a.tells → Reaches a.now ((a.now at).slot j) leaf → ⊥) → IsOwnedRecords a leaf → IsOwnedRecords b leaf
      records_then leaf aside owned =
          let clear = uncovered leaf owned.uncovered aside in
          record {
            is_pinned = (alone.marks leaf).0 owned.is_pinned;
            current = ap (λ (l : Label). l.epoch) (alone.labels leaf) ∙ owned.current ∙ sym all.same_high;
            leaf_kind = ap (λ (l : Label). l.kind) (alone.labels leaf) ∙ owned.leaf_kind;
            whole = ap (λ (xs : List ℕ). length xs) (alone.bytes leaf) ∙ owned.whole;
            uncovered = clear;
            other = λ tells. owned.other (all.still_tells.0 tells);
          }
