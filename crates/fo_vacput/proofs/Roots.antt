-- What stands where in the root of an archive.
use Rattle.std.proofs.Common.{◌≡◌, ℕ, ◌+◌, ◌-◌, true, false, eqb, Option, Some, None, List, [], ◌++◌, length, take, drop, refl, sym, ◌∙◌, ap, arith}
use Rattle.std.specs.Prelude.{replicate}
use Rattle.std.specs.List.{list_all, AllByRecursion}
use Rattle.std.proofs.lemmas.List.{take_at, drop_at, drop-drop, take_all, append_assoc, append-nil, length-append}
use Rattle.fo_image.specs.declared.types.Score.{Score}
use Rattle.fo_image.specs.Field.{Two, FieldFits, number, zeros, spelling, padded, Spells}
use Rattle.fo_image.specs.Format.{last_bytes}
use Rattle.fo_image.proofs.Padding.{length-zeros, zeros-from_all}
use Rattle.fo_vacput.specs.declared.types.VacRoot.{VacRoot}
use Rattle.fo_vacput.specs.Vac.{PrevHolds, VacRootHolds, vac_root_fields, name_text, kind_text}
use Rattle.fo_vacput.proofs.Entries.{same_score}

record Parts (bytes name kind top prev tail : List ℕ) : Type 0 where
  name_len : length name ≡ 128
  kind_len : length kind ≡ 128
  top_len : length top ≡ 20
  prev_len : length prev ≡ 20
  is : bytes ≡ number Two 2 ++ (name ++ (kind ++ (top ++ (number Two 8192 ++ (prev ++ tail)))))

pub record PartsAt (bytes name top prev tail : List ℕ) : Type 0 where
  pub name_at : take 128 (drop 2 bytes) ≡ name
  pub top_at : take 20 (drop 258 bytes) ≡ top
  pub prev_at : drop 280 bytes ≡ prev ++ tail
  pub len : length bytes ≡ 300 + length tail

parts_at : (bytes name kind top prev tail : List ℕ) → Parts bytes name kind top prev tail → PartsAt bytes name top prev tail
parts_at bytes name kind top prev tail p =
    let from_prev : List ℕ = prev ++ tail in
    let from_size : List ℕ = number Two 8192 ++ from_prev in
    let from_top : List ℕ = top ++ from_size in
    let from_kind : List ℕ = kind ++ from_top in
    let at_2 : drop 2 bytes ≡ name ++ from_kind = ap (drop 2) p.is in
    let at_130 : drop 130 bytes ≡ from_kind = sym (drop-drop 128 2 bytes) ∙ ap (drop 128) at_2 ∙ drop_at name from_kind 128 p.name_len in
    let at_258 : drop 258 bytes ≡ from_top = sym (drop-drop 128 130 bytes) ∙ ap (drop 128) at_130 ∙ drop_at kind from_top 128 p.kind_len in
    let at_278 : drop 278 bytes ≡ from_size = sym (drop-drop 20 258 bytes) ∙ ap (drop 20) at_258 ∙ drop_at top from_size 20 p.top_len in
    let at_280 : drop 280 bytes ≡ from_prev = sym (drop-drop 2 278 bytes) ∙ ap (drop 2) at_278 in
    let n_prev : length from_prev ≡ 20 + length tail = length-append prev tail ∙ ap (λ n. n + length tail) p.prev_len in
    let n_top : length from_top ≡ 42 + length tail = omega (arith, length-append top from_size, p.top_len, n_prev) in
    let n_kind : length from_kind ≡ 170 + length tail = omega (arith, length-append kind from_top, p.kind_len, n_top) in
    let n_name : length (name ++ from_kind) ≡ 298 + length tail = omega (arith, length-append name from_kind, p.name_len, n_kind) in
    record {
      name_at = ap (take 128) at_2 ∙ take_at name from_kind 128 p.name_len;
      top_at = ap (take 20) at_258 ∙ take_at top from_size 20 p.top_len;
      prev_at = at_280;
      len = ap length p.is ∙ omega (arith, n_name);
    }

regroup : (a b c d e f z : List ℕ) → (a ++ (b ++ (c ++ (d ++ (e ++ (f ++ [])))))) ++ z ≡ a ++ (b ++ (c ++ (d ++ (e ++ (f ++ z)))))
regroup a b c d e f z = simp (append_assoc, append-nil)

root_parts : (bytes : List ℕ) (r : VacRoot) → Spells 300 vac_root_fields VacRootHolds r bytes
    → Parts bytes (padded 128 (name_text r.epoch r.time)) (padded 128 kind_text) r.top.0 (last_bytes r.prev) (zeros (300 - length (spelling (vac_root_fields r))))
root_parts bytes r s = record {
  name_len = s.fit.1.0;
  kind_len = s.fit.1.1.0;
  top_len = s.fit.1.1.1.0;
  prev_len = s.fit.1.1.1.1.1.0;
  is = s.bytes_are ∙ regroup (number Two 2) (padded 128 (name_text r.epoch r.time)) (padded 128 kind_text) r.top.0 (number Two 8192) (last_bytes r.prev) (zeros (300 - length (spelling (vac_root_fields r))));
}

spelling_parts : (r : VacRoot) → AllByRecursion FieldFits (vac_root_fields r) → Parts (spelling (vac_root_fields r)) (padded 128 (name_text r.epoch r.time)) (padded 128 kind_text) r.top.0 (last_bytes r.prev) []
spelling_parts r fit = record { name_len = fit.1.0; kind_len = fit.1.1.0; top_len = fit.1.1.1.0; prev_len = fit.1.1.1.1.1.0; is = refl }

pub record RootAt (bytes : List ℕ) (r : VacRoot) : Type 0 where
  pub name : take 128 (drop 2 bytes) ≡ padded 128 (name_text r.epoch r.time)
  pub top : take 20 (drop 258 bytes) ≡ r.top.0
  pub prev : take (length bytes - 280) (drop 280 bytes) ≡ last_bytes r.prev
  pub len : length bytes ≡ 300

pub root_at : (bytes : List ℕ) (r : VacRoot) → Spells 300 vac_root_fields VacRootHolds r bytes → RootAt bytes r
root_at bytes r s =
    let tail : List ℕ = zeros (300 - length (spelling (vac_root_fields r))) in
    let whole = parts_at (spelling (vac_root_fields r)) (padded 128 (name_text r.epoch r.time)) (padded 128 kind_text) r.top.0 (last_bytes r.prev) [] (spelling_parts r s.fit) in
    let at = parts_at bytes (padded 128 (name_text r.epoch r.time)) (padded 128 kind_text) r.top.0 (last_bytes r.prev) tail (root_parts bytes r s) in
    let len : length bytes ≡ 300 = at.len ∙ ap (λ n. 300 + n) (length-zeros (300 - length (spelling (vac_root_fields r))) ∙ ap (λ n. 300 - n) whole.len) in
    let n : length bytes - 280 ≡ 20 = omega arith in
    record {
      name = at.name_at;
      top = at.top_at;
      prev = ap (λ k. take k (drop 280 bytes)) n ∙ ap (take 20) at.prev_at ∙ take_at (last_bytes r.prev) tail 20 s.fit.1.1.1.1.1.0;
      len = len;
    }

pub prev_none : (prev : Option Score) (bytes : List ℕ) → list_all (λ b. eqb b 0) bytes ≡ true → length bytes ≡ 20 → PrevHolds prev → bytes ≡ last_bytes prev → None ≡ prev
unfolding zeros
prev_none None bytes clear len holds e = refl
prev_none (Some score) bytes clear len holds e = absurd (holds (ap (take 16) (sym e ∙ zeros-from_all bytes clear ∙ ap (λ n. replicate n 0) len)))

pub prev_some : (prev : Option Score) (bytes : List ℕ) (read : Score) → list_all (λ b. eqb b 0) bytes ≡ false → read.0 ≡ take 20 (drop 0 bytes) → length bytes ≡ 20 → bytes ≡ last_bytes prev → Some read ≡ prev
prev_some None bytes read some read_is len e = absurd (let clear : list_all (λ b. eqb b 0) bytes ≡ true = ap (list_all (λ b. eqb b 0)) e in cc)
prev_some (Some score) bytes read some read_is len e = ap (λ s. Some s) (same_score read score (read_is ∙ take_all 20 bytes (omega arith) ∙ e))
