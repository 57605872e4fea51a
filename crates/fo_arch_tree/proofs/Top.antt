-- The top block of a root block spells both archived entries and the root directory's own record.
use Rattle.std.proofs.Common.{◌≡◌, ◌∙◌, ℕ, zero, suc, ◌+◌, ◌-◌, ◌≤◌, List, [], ◌∷◌, ◌++◌, length, drop, sym, ap, append_assoc, arith}
use Rattle.std.specs.Prelude.{replicate}
use Rattle.std.specs.List.{AllByRecursion}
use Rattle.std.proofs.lemmas.List.{append-nil, length-append, drop_at, drop-drop}
use Rattle.std.proofs.lemmas.List.Concat.{flat_map-append}
use Rattle.fo_image.specs.declared.record.RootBlock.{RootBlock}
use Rattle.fo_image.specs.Field.{FieldFits, zeros, padded, spelled, spelling}
use Rattle.fo_image.specs.Format.{entry_fields}
use Rattle.fo_image.specs.Record.{record_len, record_fields, root_fields, SpellsRoot}
use Rattle.fo_image.proofs.Padding.{length-zeros}
use Rattle.fo_image.proofs.PointerLemmas.{padded_whole}
use Rattle.fo_image.proofs.RecordLemmas.{fit_both, length-entry, length-record, root_at, root_parts, root_spelling}
use Rattle.fo_vacput.specs.declared.types.VacEntry.{VacEntry}
use Rattle.fo_vacput.specs.declared.types.VacTop.{VacTop}
use Rattle.fo_vacput.specs.Vac.{vac_entry_fields, SpellsVacEntry}
use Rattle.fo_vacput.specs.Top.{VacTopHolds, vac_top_fields, SpellsVacTop}

zeros_join : (a b : ℕ) → zeros a ++ zeros b ≡ zeros (a + b)
unfolding zeros
zeros_join zero b = let e : b ≡ zero + b = omega arith in ap (λ n. replicate n 0) e
zeros_join (suc a) b = let e : suc (a + b) ≡ suc a + b = omega arith in ap (λ xs. 0 ∷ xs) (zeros_join a b) ∙ ap (λ n. replicate n 0) e

-- what stands behind the two entries of a root block
pub own_at : (r : RootBlock) (block : List ℕ) → SpellsRoot r block → drop 104 block ≡ spelling (record_fields r.own) ++ zeros (8088 - record_len r.own)
unfolding root_parts
own_at r block s =
    let at = root_at block r s in
    let E : List ℕ = spelling (entry_fields r.entries) in
    let M : List ℕ = spelling (entry_fields r.meta) in
    let O : List ℕ = spelling (record_fields r.own) in
    let Z : List ℕ = zeros (8192 - length (spelling (root_fields r))) in
    let is : block ≡ root_parts r Z = s.bytes_are ∙ root_spelling r Z in
    let E_len : length E ≡ 40 = length-entry r.entries at.entries.fit.1.1.1.1.1.1.0 in
    let M_len : length M ≡ 40 = length-entry r.meta at.meta.fit.1.1.1.1.1.1.0 in
    let at_24 : drop 24 block ≡ E ++ (M ++ (O ++ Z)) = ap (drop 24) is in
    let at_64 : drop 64 block ≡ M ++ (O ++ Z) = sym (drop-drop 40 24 block) ∙ ap (drop 40) at_24 ∙ drop_at E (M ++ (O ++ Z)) 40 E_len in
    let at_104 : drop 104 block ≡ O ++ Z = sym (drop-drop 40 64 block) ∙ ap (drop 40) at_64 ∙ drop_at M (O ++ Z) 40 M_len in
    let parts : length (root_parts r []) ≡ 24 + (length E + (length M + (length O + 0))) = omega (arith, length-append E (M ++ (O ++ [])), length-append M (O ++ []), length-append O []) in
    let whole : length (spelling (root_fields r)) ≡ 104 + record_len r.own = ap length (sym (append-nil (spelling (root_fields r))) ∙ root_spelling r []) ∙ omega (arith, parts, E_len, M_len, length-record r.own) in
    let left : 8192 - length (spelling (root_fields r)) ≡ 8088 - record_len r.own = omega (arith, whole) in
    at_104 ∙ ap (λ n. O ++ zeros n) left

entry_long : (e : VacEntry) → length e.score.0 ≡ 20 → length (spelling (vac_entry_fields e)) ≡ 40
entry_long e h = let n = ap length (append-nil e.score.0) ∙ h in omega (arith, n)

entry_bytes : (e : VacEntry) (bytes : List ℕ) → SpellsVacEntry e bytes → bytes ≡ spelling (vac_entry_fields e)
entry_bytes e bytes s = s.bytes_are ∙ padded_whole (spelling (vac_entry_fields e)) 40 (entry_long e s.fit.1.1.1.1.1.1.1.1.0)

pub entry_whole : (e : VacEntry) (bytes : List ℕ) → SpellsVacEntry e bytes → length bytes ≡ 40
entry_whole e bytes s = ap length (entry_bytes e bytes s) ∙ entry_long e s.fit.1.1.1.1.1.1.1.1.0

regroup : (a b c d z : List ℕ) → (a ++ (b ++ (c ++ d))) ++ z ≡ a ++ (b ++ (c ++ (d ++ z)))
regroup a b c d z = simp append_assoc

regroup_three : (a b c z : List ℕ) → (a ++ (b ++ c)) ++ z ≡ a ++ (b ++ (c ++ z))
regroup_three a b c z = simp append_assoc

pub joined : (a b c d : List ℕ) → a ++ b ++ c ++ d ≡ a ++ (b ++ (c ++ d))
joined a b c d = simp append_assoc

-- zeros that stand behind a record are those that fill the block
fills : (a b c : List ℕ) (n : ℕ) → length a ≡ 40 → length b ≡ 40 → length c ≡ n → n ≤ 481 → padded 8192 (a ++ (b ++ (c ++ zeros (8088 - n)))) ≡ padded 8192 (a ++ (b ++ c))
fills a b c n la lb lc le =
    let z : ℕ = 8088 - n in
    let long : length (a ++ (b ++ (c ++ zeros z))) ≡ 8168 = omega (arith, length-append a (b ++ (c ++ zeros z)), length-append b (c ++ zeros z), length-append c (zeros z), length-zeros z, la, lb, lc, le) in
    let short : length (a ++ (b ++ c)) ≡ 80 + n = omega (arith, length-append a (b ++ c), length-append b c, la, lb, lc) in
    let first : 8192 - length (a ++ (b ++ (c ++ zeros z))) ≡ 24 = omega (arith, long) in
    let second : z + 24 ≡ 8192 - length (a ++ (b ++ c)) = omega (arith, short, le) in
    ap (λ m. (a ++ (b ++ (c ++ zeros z))) ++ zeros m) first
    ∙ regroup a b c (zeros z) (zeros 24)
    ∙ ap (λ xs. a ++ (b ++ (c ++ xs))) (zeros_join z 24)
    ∙ ap (λ m. a ++ (b ++ (c ++ zeros m))) second
    ∙ sym (regroup_three a b c (zeros (8192 - length (a ++ (b ++ c)))))

pub record TopParts (t : VacTop) (first second rest form : List ℕ) : Type 0 where
  pub first_is : SpellsVacEntry t.entries first
  pub second_is : SpellsVacEntry t.meta second
  pub own_fit : AllByRecursion FieldFits (record_fields t.own)
  pub short : record_len t.own ≤ 481
  pub rest_is : rest ≡ spelling (record_fields t.own) ++ zeros (8088 - record_len t.own)
  pub holds : VacTopHolds t
  pub is : form ≡ padded 8192 (first ++ second ++ rest ++ [])

pub top_spelled : (t : VacTop) (first second rest form : List ℕ) → TopParts t first second rest form → SpellsVacTop t form
top_spelled t first second rest form p =
    let E = vac_entry_fields t.entries in
    let M = vac_entry_fields t.meta in
    let O = record_fields t.own in
    let fields : spelling E ++ (spelling M ++ spelling O) ≡ spelling (vac_top_fields t) = sym (flat_map-append spelled E (M ++ O) ∙ ap (λ xs. spelling E ++ xs) (flat_map-append spelled M O)) in
    let tail : rest ++ [] ≡ spelling O ++ zeros (8088 - record_len t.own) = append-nil rest ∙ p.rest_is in
    record {
      holds = p.holds;
      fit = fit_both E (M ++ O) p.first_is.fit (fit_both M O p.second_is.fit p.own_fit);
      bytes_are =
          p.is
          ∙ ap (padded 8192) (joined first second rest [])
          ∙ ap (λ xs. padded 8192 (xs ++ (second ++ (rest ++ [])))) (entry_bytes t.entries first p.first_is)
          ∙ ap (λ xs. padded 8192 (spelling E ++ (xs ++ (rest ++ [])))) (entry_bytes t.meta second p.second_is)
          ∙ ap (λ xs. padded 8192 (spelling E ++ (spelling M ++ xs))) tail
          ∙ fills (spelling E) (spelling M) (spelling O) (record_len t.own) (entry_long t.entries p.first_is.fit.1.1.1.1.1.1.1.1.0) (entry_long t.meta p.second_is.fit.1.1.1.1.1.1.1.1.0) (length-record t.own) p.short
          ∙ ap (padded 8192) fields;
    }
