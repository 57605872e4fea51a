-- Slots of a block that is made in place.
use Rattle.std.proofs.Common.{◌≡◌, ⊎_elim, ℕ, ◌+◌, ◌*◌, ◌<◌, ◌≤◌, List, take, drop, sym, ◌∙◌, ap, subst, arith}
use Rattle.fo_image.specs.declared.types.Pointer.TheVariants.{Local}
use Rattle.fo_image.specs.Format.{SpellsPointer}
use Rattle.std.proofs.lemmas.Bool.{cases_eq}
use Rattle.std.proofs.lemmas.List.{take-take, drop-drop, drop-take}
use Rattle.fo_arch_form.specs.declared.stored.Stored.{Stored}
use Rattle.fo_arch_form.specs.Pointers.{pointer_at, PutsPointer, Misses, MissesOne, HasScore, HasScores}

pub kept_before : (from at len : ℕ) (old new : List ℕ) → at + len ≤ from → take from new ≡ take from old → take len (drop at new) ≡ take len (drop at old)
kept_before from at len old new le same =
    let e : take (at + len) new ≡ take (at + len) old = sym (take-take (at + len) from new le) ∙ ap (λ (xs : List ℕ). take (at + len) xs) same ∙ take-take (at + len) from old le in
    sym (drop-take at len new) ∙ ap (λ (xs : List ℕ). drop at xs) e ∙ drop-take at len old

pub further : (from len to : ℕ) (old new : List ℕ) → from + len ≡ to → drop from new ≡ drop from old → drop to new ≡ drop to old
further from len to old new is same = later new ∙ ap (λ (xs : List ℕ). drop len xs) same ∙ sym (later old)
  where
    later : (xs : List ℕ) → drop to xs ≡ drop len (drop from xs)
    later xs = ap (λ n. drop n xs) (sym is) ∙ sym (drop-drop len from xs)

module _ {done : Stored} {kind i : ℕ} {old mid : List ℕ} (so_far : HasScores done kind i old mid) where
  was_same : pointer_at mid i ≡ pointer_at old i
  was_same = ap (λ (xs : List ℕ). take 20 xs) so_far.behind

  pub one_more : {new : List ℕ} → PutsPointer done kind i mid new → HasScores done kind (i + 1) old new
  one_more {new} p = record {
    each = each;
    behind = p_behind ∙ further (20 * i) 20 (20 * (i + 1)) old mid (omega arith) so_far.behind;
    length_is = p.puts.length_is ∙ so_far.length_is;
  }
    where
      p_behind : drop (20 * (i + 1)) new ≡ drop (20 * (i + 1)) mid
      p_behind = subst (λ (n : ℕ). drop n new ≡ drop n mid) (omega (arith, p.long)) p.puts.behind

      here : HasScore done kind i old new
      here = record {
        score = p.score;
        was = record { pointer = p.was.pointer; spelled = subst (λ (bytes : List ℕ). SpellsPointer p.was.pointer bytes) was_same p.was.spelled; stored = p.was.stored };
        here = subst (λ (n : ℕ). take n (drop (20 * i) new) ≡ p.score.0) p.long p.puts.here;
      }

      earlier : (j : ℕ) → j < i → HasScore done kind j old new
      earlier j lt =
          let h = so_far.each j lt in record {
            score = h.score;
            was = h.was;
            here = kept_before (20 * i) (20 * j) 20 mid new (omega (arith, lt)) p.puts.before ∙ h.here;
          }

      each : (j : ℕ) → j < i + 1 → HasScore done kind j old new
      each j lt = ⊎_elim (λ (same : j ≡ i). subst (λ (n : ℕ). HasScore done kind n old new) (sym same) here) (λ other. earlier j (omega (arith, lt, other))) (cases_eq j i)

  pub missed : (at : ℕ) → i < 409 → Misses done kind i mid at → MissesOne done kind old at
  missed at lt m = (i, lt, record { spelled = subst (λ (bytes : List ℕ). SpellsPointer (Local at) bytes) was_same m.spelled; none = m.none })
