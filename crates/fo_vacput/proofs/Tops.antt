-- What stands where in a top block.
use Rattle.std.proofs.Common.{◌≡◌, ℕ, ◌-◌, ◌≤◌, List, [], ◌∷◌, ◌++◌, length, take, drop, sym, subst, ◌∙◌, ap, arith}
use Rattle.std.specs.Int.{w16, from_be_bytes}
use Rattle.std.specs.List.{AllByRecursion}
use Rattle.std.proofs.lemmas.Nat.{from_be_bytes-to_be_bytes_2}
use Rattle.std.proofs.lemmas.List.{take_at, drop_at, drop-drop, append_assoc, append-nil}
use Rattle.std.proofs.lemmas.List.Concat.{flat_map-append}
use Rattle.fo_image.specs.Field.{Two, Field, FieldFits, number_at, zeros, padded, spelled, spelling, Spells}
use Rattle.fo_image.specs.Record.{RecordHolds, record_len, record_fields}
use Rattle.fo_image.proofs.PointerLemmas.{padded_whole}
use Rattle.fo_image.proofs.RecordLemmas.{fit_both, length-record, spells_itself}
use Rattle.fo_vacput.specs.declared.types.VacTop.{VacTop}
use Rattle.fo_vacput.specs.Vac.{VacEntryHolds, vac_entry_fields}
use Rattle.fo_vacput.specs.Top.{VacTopHolds, vac_top_fields}
use Rattle.fo_vacput.proofs.Entries.{length-fields}

fit_left : (xs ys : List Field) → AllByRecursion FieldFits (xs ++ ys) → AllByRecursion FieldFits xs
fit_left [] ys p = tt
fit_left (x ∷ xs) ys p = (p.0, fit_left xs ys p.1)

fit_right : (xs ys : List Field) → AllByRecursion FieldFits (xs ++ ys) → AllByRecursion FieldFits ys
fit_right [] ys p = p
fit_right (x ∷ xs) ys p = fit_right xs ys p.1

top_spelling : (t : VacTop) (tail : List ℕ) → spelling (vac_top_fields t) ++ tail ≡ spelling (vac_entry_fields t.entries) ++ (spelling (vac_entry_fields t.meta) ++ (spelling (record_fields t.own) ++ tail))
top_spelling t tail =
    let E = vac_entry_fields t.entries in
    let M = vac_entry_fields t.meta in
    let O = record_fields t.own in
    let joined : spelling (vac_top_fields t) ≡ spelling E ++ (spelling M ++ spelling O) = flat_map-append spelled E (M ++ O) ∙ ap (λ xs. spelling E ++ xs) (flat_map-append spelled M O) in
    ap (λ xs. xs ++ tail) joined ∙ append_assoc (spelling E) (spelling M ++ spelling O) tail ∙ ap (λ xs. spelling E ++ xs) (append_assoc (spelling M) (spelling O) tail)

pub record TopAt (block : List ℕ) (t : VacTop) : Type 0 where
  pub entries : Spells 40 vac_entry_fields VacEntryHolds t.entries (take 40 block)
  pub meta : Spells 40 vac_entry_fields VacEntryHolds t.meta (take 40 (drop 40 block))
  pub len : number_at Two 80 block ≡ record_len t.own
  pub own : Spells (record_len t.own) record_fields RecordHolds t.own (take (record_len t.own) (drop 80 block))
  pub short : record_len t.own ≤ 481

pub top_at : (block : List ℕ) (t : VacTop) → Spells 8192 vac_top_fields VacTopHolds t block → TopAt block t
unfolding number_at
top_at block t s =
    let E = vac_entry_fields t.entries in
    let M = vac_entry_fields t.meta in
    let O = record_fields t.own in
    let Z : List ℕ = zeros (8192 - length (spelling (vac_top_fields t))) in
    let at_0 : block ≡ spelling E ++ (spelling M ++ (spelling O ++ Z)) = s.bytes_are ∙ top_spelling t Z in
    let E_fit : AllByRecursion FieldFits E = fit_left E (M ++ O) s.fit in
    let MO_fit : AllByRecursion FieldFits (M ++ O) = fit_right E (M ++ O) s.fit in
    let M_fit : AllByRecursion FieldFits M = fit_left M O MO_fit in
    let O_fit : AllByRecursion FieldFits O = fit_right M O MO_fit in
    let E_len : length (spelling E) ≡ 40 = length-fields t.entries E_fit.1.1.1.1.1.1.1.1.0 in
    let M_len : length (spelling M) ≡ 40 = length-fields t.meta M_fit.1.1.1.1.1.1.1.1.0 in
    let at_40 : drop 40 block ≡ spelling M ++ (spelling O ++ Z) = ap (drop 40) at_0 ∙ drop_at (spelling E) (spelling M ++ (spelling O ++ Z)) 40 E_len in
    let at_80 : drop 80 block ≡ spelling O ++ Z = sym (drop-drop 40 40 block) ∙ ap (drop 40) at_40 ∙ drop_at (spelling M) (spelling O ++ Z) 40 M_len in
    let E_is : take 40 block ≡ spelling E = ap (take 40) at_0 ∙ take_at (spelling E) (spelling M ++ (spelling O ++ Z)) 40 E_len in
    let M_is : take 40 (drop 40 block) ≡ spelling M = ap (take 40) at_40 ∙ take_at (spelling M) (spelling O ++ Z) 40 M_len in
    let O_is : take (record_len t.own) (drop 80 block) ≡ spelling O = ap (take (record_len t.own)) at_80 ∙ take_at (spelling O) Z (record_len t.own) (length-record t.own) in
    let texts = s.holds.own_holds.holds in
    record {
      entries = subst (λ b. Spells 40 vac_entry_fields VacEntryHolds t.entries b) (sym E_is) (spells_itself 40 vac_entry_fields VacEntryHolds t.entries s.holds.entries_hold E_fit E_len);
      meta = subst (λ b. Spells 40 vac_entry_fields VacEntryHolds t.meta b) (sym M_is) (spells_itself 40 vac_entry_fields VacEntryHolds t.meta s.holds.meta_holds M_fit M_len);
      len = ap (λ xs. from_be_bytes w16 (take 2 xs)) at_80 ∙ from_be_bytes-to_be_bytes_2 (record_len t.own) O_fit.0;
      own = subst (λ b. Spells (record_len t.own) record_fields RecordHolds t.own b) (sym O_is) (spells_itself (record_len t.own) record_fields RecordHolds t.own texts O_fit (length-record t.own));
      short = omega (arith, texts.name_is.within, texts.uid_is.within, texts.gid_is.within, texts.muid_is.within);
    }

-- ---- a top block as it is written

pub record Pieces (t : VacTop) (entries meta own : List ℕ) : Type 0 where
  pub entries_are : Spells 40 vac_entry_fields VacEntryHolds t.entries entries
  pub meta_is : Spells 40 vac_entry_fields VacEntryHolds t.meta meta
  pub own_is : Spells (record_len t.own) record_fields RecordHolds t.own own

module _ (t : VacTop) (entries meta own : List ℕ) (p : Pieces t entries meta own) where
  entries_spelled : entries ≡ spelling (vac_entry_fields t.entries)
  entries_spelled = p.entries_are.bytes_are ∙ padded_whole (spelling (vac_entry_fields t.entries)) 40 (length-fields t.entries p.entries_are.fit.1.1.1.1.1.1.1.1.0)

  meta_spelled : meta ≡ spelling (vac_entry_fields t.meta)
  meta_spelled = p.meta_is.bytes_are ∙ padded_whole (spelling (vac_entry_fields t.meta)) 40 (length-fields t.meta p.meta_is.fit.1.1.1.1.1.1.1.1.0)

  own_spelled : own ≡ spelling (record_fields t.own)
  own_spelled = p.own_is.bytes_are ∙ padded_whole (spelling (record_fields t.own)) (record_len t.own) (length-record t.own)

  pub top_written : (old new : List ℕ) → VacTopHolds t → length old ≡ 8192 → new ≡ padded (length old) (entries ++ (meta ++ (own ++ []))) → Spells 8192 vac_top_fields VacTopHolds t new
  top_written old new holds len is =
      let E = vac_entry_fields t.entries in
      let M = vac_entry_fields t.meta in
      let O = record_fields t.own in
      let same : entries ++ (meta ++ (own ++ [])) ≡ spelling (vac_top_fields t) =
      rw (entries_spelled, meta_spelled, own_spelled) (sym (top_spelling t [])) ∙ append-nil (spelling (vac_top_fields t)) in
      record {
        holds = holds;
        fit = fit_both E (M ++ O) p.entries_are.fit (fit_both M O p.meta_is.fit p.own_is.fit);
        bytes_are = is ∙ ap (λ n. padded n (entries ++ (meta ++ (own ++ [])))) len ∙ ap (padded 8192) same;
      }
