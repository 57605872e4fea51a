-- Entries of a leaf that is made in place.
use Rattle.std.proofs.Common.{◌≡◌, ⊎_elim, ℕ, ◌+◌, ◌*◌, ◌<◌, List, true, false, Bool, take, drop, sym, ◌∙◌, ap, subst, arith}
use Rattle.std.proofs.lemmas.Bool.{cases_eq}
use Rattle.fo_image.specs.declared.types.Entry.{Entry}
use Rattle.fo_image.specs.Format.{SpellsEntry, EntryHolds, PointerHolds, ActiveHolds}
use Rattle.fo_vacput.specs.Vac.{SpellsVacEntry}
use Rattle.fo_arch_hash.specs.Form.{archived}
use Rattle.fo_arch_form.specs.declared.stored.Stored.{Stored}
use Rattle.fo_arch_form.specs.Entries.{entry_at, HasEntry, PutsArchived, MissesTop, HasArchived, HasArchivedAll}
use Rattle.fo_arch_form.proofs.Slots.{kept_before, further}

top_in : (active : Bool) (e : Entry) → ActiveHolds active e → PointerHolds e.top
top_in true e h = h.1
top_in false e h = subst PointerHolds (sym h.4) tt

-- what an entry names has a spelling
pub top_holds : (e : Entry) → EntryHolds e → PointerHolds e.top
top_holds e h = top_in e.active e h.active_holds

module _ {done : Stored} {i : ℕ} {old mid : List ℕ} (so_far : HasArchivedAll done i old mid) where
  was_same : entry_at mid i ≡ entry_at old i
  was_same = ap (λ (xs : List ℕ). take 40 xs) so_far.behind

  pub still_has : HasEntry i old → HasEntry i mid
  still_has h = record { entry = h.entry; spelled = subst (λ (bytes : List ℕ). SpellsEntry h.entry bytes) (sym was_same) h.spelled; shallow = h.shallow }

  pub one_more_entry : {new : List ℕ} → PutsArchived done i mid new → HasArchivedAll done (i + 1) old new
  one_more_entry {new} p = record {
    each = each;
    behind = p_behind ∙ further (40 * i) 40 (40 * (i + 1)) old mid (omega arith) so_far.behind;
    length_is = p.puts.puts.length_is ∙ so_far.length_is;
  }
    where
      p_behind : drop (40 * (i + 1)) new ≡ drop (40 * (i + 1)) mid
      p_behind = subst (λ (n : ℕ). drop n new ≡ drop n mid) (omega (arith, p.puts.long)) p.puts.puts.behind

      bytes_here : entry_at new i ≡ p.puts.bytes
      bytes_here = subst (λ (n : ℕ). take n (drop (40 * i) new) ≡ p.puts.bytes) p.puts.long p.puts.puts.here

      here : HasArchived done i old new
      here = record {
        entry = p.entry;
        score = p.score;
        was = record { spelled = subst (λ (bytes : List ℕ). SpellsEntry p.entry bytes) was_same p.was.spelled; shallow = p.was.shallow; stored = p.was.stored };
        here = subst (λ (bytes : List ℕ). SpellsVacEntry (archived p.entry p.score) bytes) (sym bytes_here) p.puts.spelled;
      }

      earlier : (j : ℕ) → j < i → HasArchived done j old new
      earlier j lt =
          let h = so_far.each j lt in
          let same : entry_at new j ≡ entry_at mid j = kept_before (40 * i) (40 * j) 40 mid new (omega (arith, lt)) p.puts.puts.before in record {
            entry = h.entry;
            score = h.score;
            was = h.was;
            here = subst (λ (bytes : List ℕ). SpellsVacEntry (archived h.entry h.score) bytes) (sym same) h.here;
          }

      each : (j : ℕ) → j < i + 1 → HasArchived done j old new
      each j lt = ⊎_elim (λ (same : j ≡ i). subst (λ (n : ℕ). HasArchived done n old new) (sym same) here) (λ other. earlier j (omega (arith, lt, other))) (cases_eq j i)

  pub missed_top : (e : Entry) → MissesTop done i mid e → MissesTop done i old e
  missed_top e m = record { spelled = subst (λ (bytes : List ℕ). SpellsEntry e bytes) was_same m.spelled; shallow = m.shallow; at = m.at; top = m.top; none = m.none }
