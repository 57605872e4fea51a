-- The table that is found is the one that is spelled.
use Rattle.std.proofs.Common.{◌≡◌, ℕ, ◌-◌, List, [], ◌∷◌, ◌++◌, map, length, take, Bool, true, false, ◌&&◌, Option, Some, None, refl, sym, ap, subst, ◌∙◌, append_assoc, append-nil, arith, length-append}
use Rattle.std.specs.Prelude.{if◌then◌else◌, option_and_then}
use Rattle.std.specs.List.{list_all, join_with_byte}
use Rattle.std.specs.Option.{option_map}
use Rattle.std.specs.Str.{bytes_eq}
use Rattle.std.proofs.Math.Seq.{take-append_seam}
use Rattle.std.proofs.lemmas.Bool.{and_parts, and_from, true≢false}
use Rattle.std.proofs.lemmas.Slice.Eq.{bytes_eq-Decides}
use Rattle.std.proofs.lemmas.List.Folds.{list_all-append}
use Rattle.fo_users.specs.declared.table.User.{User}
use Rattle.fo_users.specs.Table.{is_line, line_text, is_table, table_text, Spells}
use Rattle.fo_base.specs.Parts.{parts_at}
use Rattle.fo_users.specs.Parts.{user_of}
use Rattle.fo_users.specs.Found.{lines_of, users_of, spelled_by, table_in}
use Rattle.fo_base.proofs.Cutting.{lacks, cut_joined}
use Rattle.fo_users.proofs.Lines.{line_read, lines_lack}

-- the lines with an empty part behind the last newline
joined_lines : (us : List User) → join_with_byte 10 (map line_text us ++ [] ∷ []) ≡ table_text us
joined_lines [] = refl
joined_lines (u ∷ []) = sym (append-nil (line_text u ++ 10 ∷ []))
joined_lines (u ∷ v ∷ us) =
    ap (λ rest. line_text u ++ 10 ∷ rest) (joined_lines (v ∷ us)) ∙ sym (append_assoc (line_text u) (10 ∷ []) (table_text (v ∷ us)))

cut_lines : (us : List User) → list_all is_line us ≡ true → parts_at 10 (table_text us) ≡ map line_text us ++ [] ∷ []
cut_lines [] h = refl
cut_lines (u ∷ us) h =
    ap (parts_at 10) (sym (joined_lines (u ∷ us)))
    ∙ cut_joined 10 (line_text u) (map line_text us ++ [] ∷ []) (list_all-append (lacks 10) (map line_text (u ∷ us)) ([] ∷ []) ∙ and_from _ _ (lines_lack (u ∷ us) h) refl)

-- all but the last
abbrev fore : List (List ℕ) → List (List ℕ)
fore xs = take (length xs - 1) xs

fore_more : (xs : List (List ℕ)) (x : List ℕ) → fore (xs ++ x ∷ []) ≡ xs
fore_more xs x =
    let long : length (xs ++ x ∷ []) - 1 ≡ length xs = omega (arith, length-append xs (x ∷ [])) in
    ap (λ n. take n (xs ++ x ∷ [])) long ∙ take-append_seam xs (x ∷ [])

found_lines : (us : List User) → list_all is_line us ≡ true → lines_of (table_text us) ≡ map line_text us
found_lines us h = ap fore (cut_lines us h) ∙ fore_more (map line_text us) []

found_users : (us : List User) → list_all is_line us ≡ true → users_of (map line_text us) ≡ Some us
found_users [] h = refl
found_users (u ∷ us) h =
    let first : user_of (parts_at 58 (line_text u)) ≡ Some u = line_read (line_text u) u (record { line = (and_parts _ _ h).0; text = refl }) in
    ap (option_and_then (λ v. option_map (λ vs. v ∷ vs) (users_of (map line_text us)))) first
    ∙ ap (option_map (λ vs. u ∷ vs)) (found_users us (and_parts _ _ h).1)

chosen : (b : Bool) (us : List User) → b ≡ true → (if b then Some us else None) ≡ Some us
chosen true us h = refl
chosen false us h = absurd (true≢false (sym h))

unchosen : (b : Bool) (us vs : List User) → (if b then Some us else None) ≡ Some vs → (b ≡ true) × (us ≡ vs)
unchosen true us vs e = (refl, cc)
unchosen false us vs e = absurd (cc)

pub found_table : (bytes : List ℕ) (us : List User) → Spells bytes us → table_in bytes ≡ Some us
unfolding table_in
found_table bytes us s =
    ap (λ b. option_and_then (spelled_by bytes) (users_of (lines_of b))) s.text
    ∙ ap (λ lines. option_and_then (spelled_by bytes) (users_of lines)) (found_lines us s.lines)
    ∙ ap (option_and_then (spelled_by bytes)) (found_users us s.lines)
    ∙ chosen (list_all is_line us && (is_table us && bytes_eq bytes (table_text us))) us
    (and_from _ _ s.lines (and_from _ _ s.whole ((bytes_eq-Decides bytes (table_text us)).1 s.text)))

spelled_from : (bytes : List ℕ) (o : Option (List User)) (us : List User) → option_and_then (spelled_by bytes) o ≡ Some us → Spells bytes us
spelled_from bytes None us e = absurd (cc)
spelled_from bytes (Some vs) us e =
    let same = unchosen (list_all is_line vs && (is_table vs && bytes_eq bytes (table_text vs))) vs us e in
    let parts = and_parts _ _ same.0 in
    let rest = and_parts _ _ parts.1 in
    let P : List User → Type 0 = λ ws. Spells bytes ws in
    subst P same.1 (record { lines = parts.0; whole = rest.0; text = (bytes_eq-Decides bytes (table_text vs)).0 rest.1 })

pub spelled_table : (bytes : List ℕ) (us : List User) → table_in bytes ≡ Some us → Spells bytes us
unfolding table_in
spelled_table bytes us e = spelled_from bytes (users_of (lines_of bytes)) us e
