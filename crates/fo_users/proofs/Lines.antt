-- Lines and tables: what is spelled is read, and what is read is spelled.
use Rattle.std.proofs.Common.{◌≡◌, ℕ, ◌==◌, List, [], ◌∷◌, ◌++◌, map, true, false, not, Option, Some, None, unwrap_or, refl, sym, ap, ◌∙◌, append_assoc, append-nil, length, get_or, take, ◌<◌, ◌+◌, arith, Bor}
use Rattle.std.specs.List.{list_all, join_with_byte}
use Rattle.std.specs.Option.{option_map_or}
use Rattle.std.proofs.lemmas.Bool.{and_parts, and_from, true≢false, eqb-true, not_from_false, false_from_ne_true}
use Rattle.std.proofs.lemmas.List.Splits.{join_with_byte-slice_split}
use Rattle.std.proofs.lemmas.List.{append_cancel_right, map-append, map_more, take_more, get_or-map, length-map}
use Rattle.std.proofs.lemmas.List.Folds.{list_all-append}
use Rattle.std.proofs.lemmas.List.Sums.{AllPass-from_list_all}
use Rattle.fo_users.specs.declared.table.User.{User}
use Rattle.fo_users.specs.Table.{is_name_byte, is_user_name, is_line, line_text, members_text, SpellsLine, is_table, table_text, Spells}
use Rattle.fo_base.specs.Parts.{parts_at}
use Rattle.fo_users.specs.Parts.{members_of, leader_of, user_of, SpellsLines}
use Rattle.fo_base.proofs.Cutting.{lacks, cut_joined, joined_lacks, all_pass}

-- ---- names

byte_differs : (c b : ℕ) → is_name_byte c ≡ false → is_name_byte b ≡ true → not (b == c) ≡ true
byte_differs c b n h =
    not_from_false (b == c) (false_from_ne_true (b == c) (λ e. true≢false (sym h ∙ ap is_name_byte (eqb-true b c e) ∙ n)))

pub name_lacks : (c : ℕ) → is_name_byte c ≡ false → (name : List ℕ) → is_user_name name ≡ true → lacks c name ≡ true
name_lacks c n name h =
    all_pass is_name_byte (λ b. not (b == c)) (λ b. byte_differs c b n) name (and_parts _ _ h).1

-- ---- one line

leader_read : (o : Option (List ℕ)) → option_map_or is_user_name o true ≡ true → leader_of (unwrap_or o []) ≡ o
leader_read None h = refl
leader_read (Some []) h = absurd (true≢false (sym h))
leader_read (Some (b ∷ bs)) h = refl

leader_lacks : (c : ℕ) → is_name_byte c ≡ false → (o : Option (List ℕ)) → option_map_or is_user_name o true ≡ true → lacks c (unwrap_or o []) ≡ true
leader_lacks c n None h = refl
leader_lacks c n (Some name) h = name_lacks c n name h

members_lack : (c : ℕ) → is_name_byte c ≡ false → (ms : List (List ℕ)) → list_all is_user_name ms ≡ true → list_all (lacks c) ms ≡ true
members_lack c n ms h = all_pass is_user_name (lacks c) (name_lacks c n) ms h

-- the first member has a first byte
members_begun : (b : ℕ) (bs : List ℕ) (ms : List (List ℕ)) → list_all (lacks 44) ((b ∷ bs) ∷ ms) ≡ true → members_of (members_text ((b ∷ bs) ∷ ms)) ≡ (b ∷ bs) ∷ ms
members_begun b bs [] h = cut_joined 44 (b ∷ bs) [] h
members_begun b bs (m ∷ ms) h = cut_joined 44 (b ∷ bs) (m ∷ ms) h

members_read : (ms : List (List ℕ)) → list_all is_user_name ms ≡ true → members_of (members_text ms) ≡ ms
members_read [] h = refl
members_read ([] ∷ ms) h = absurd (true≢false (sym h))
members_read ((b ∷ bs) ∷ ms) h = members_begun b bs ms (members_lack 44 refl ((b ∷ bs) ∷ ms) h)

-- what a line's names say, one by one
pub record Named (u : User) : Type 0 where
  pub id : is_user_name u.id ≡ true
  pub name : is_user_name u.name ≡ true
  pub leader : option_map_or is_user_name u.leader true ≡ true
  pub members : list_all is_user_name u.members ≡ true

named : (u : User) → is_line u ≡ true → Named u
named u h =
    let all = and_parts _ _ h in
    let front = and_parts _ _ all.0 in
    let two = and_parts _ _ front.0 in
    record { id = two.0; name = two.1; leader = front.1; members = all.1 }

abbrev fields_of : User → List (List ℕ)
fields_of u = u.id ∷ u.name ∷ unwrap_or u.leader [] ∷ members_text u.members ∷ []

fields_lack : (c : ℕ) → is_name_byte c ≡ false → not (44 == c) ≡ true → (u : User) → Named u → list_all (lacks c) (fields_of u) ≡ true
fields_lack c n d u h =
    and_from _ _ (name_lacks c n u.id h.id) (and_from _ _ (name_lacks c n u.name h.name) (and_from _ _ (leader_lacks c n u.leader h.leader) (and_from _ _ (joined_lacks c 44 u.members d (members_lack c n u.members h.members)) refl)))

-- a line that is spelled is read
pub line_read : (bytes : List ℕ) (u : User) → SpellsLine bytes u → user_of (parts_at 58 bytes) ≡ Some u
line_read bytes u s =
    let h = named u s.line in
    let cut : parts_at 58 bytes ≡ fields_of u =
    ap (parts_at 58) s.text ∙ cut_joined 58 u.id (u.name ∷ unwrap_or u.leader [] ∷ members_text u.members ∷ []) (fields_lack 58 refl refl u h) in
    ap user_of cut ∙ (λ k. Some (record { id = u.id; name = u.name; leader = leader_read u.leader h.leader k; members = members_read u.members h.members k }))

leader_spelled : (bytes : List ℕ) → unwrap_or (leader_of bytes) [] ≡ bytes
leader_spelled [] = refl
leader_spelled (b ∷ bs) = refl

members_spelled : (bytes : List ℕ) → members_text (members_of bytes) ≡ bytes
members_spelled [] = refl
members_spelled (b ∷ bs) = join_with_byte-slice_split 44 (b ∷ bs)

fields_spelled : (fs : List (List ℕ)) (u : User) → user_of fs ≡ Some u → join_with_byte 58 fs ≡ line_text u
fields_spelled [] u e = absurd (cc)
fields_spelled (a ∷ []) u e = absurd (cc)
fields_spelled (a ∷ b ∷ []) u e = absurd (cc)
fields_spelled (a ∷ b ∷ l ∷ []) u e = absurd (cc)
fields_spelled (a ∷ b ∷ l ∷ m ∷ []) u e =
    let is : record { id = a; name = b; leader = leader_of l; members = members_of m } ≡ u = cc in
    (λ k. join_with_byte 58 (a ∷ b ∷ sym (leader_spelled l) k ∷ sym (members_spelled m) k ∷ [])) ∙ ap line_text is
fields_spelled (a ∷ b ∷ l ∷ m ∷ x ∷ xs) u e = absurd (cc)

-- a line that is read is spelled
pub line_spelled : (bytes : List ℕ) (u : User) → user_of (parts_at 58 bytes) ≡ Some u → bytes ≡ line_text u
line_spelled bytes u e = sym (join_with_byte-slice_split 58 bytes) ∙ fields_spelled (parts_at 58 bytes) u e

-- ---- all lines

line_lacks : (u : User) → is_line u ≡ true → lacks 10 (line_text u) ≡ true
line_lacks u h = joined_lacks 10 58 (fields_of u) refl (fields_lack 10 refl refl u (named u h))

pub lines_lack : (us : List User) → list_all is_line us ≡ true → list_all (lacks 10) (map line_text us) ≡ true
lines_lack [] h = refl
lines_lack (u ∷ us) h = and_from _ _ (line_lacks u (and_parts _ _ h).0) (lines_lack us (and_parts _ _ h).1)

text_joined : (u : User) (us : List User) → table_text (u ∷ us) ≡ join_with_byte 10 (map line_text (u ∷ us)) ++ 10 ∷ []
text_joined u [] = append-nil (line_text u ++ 10 ∷ [])
text_joined u (v ∷ us) =
    ap (λ rest. (line_text u ++ 10 ∷ []) ++ rest) (text_joined v us)
    ∙ append_assoc (line_text u) (10 ∷ []) (join_with_byte 10 (map line_text (v ∷ us)) ++ 10 ∷ [])
    ∙ sym (append_assoc (line_text u) (10 ∷ join_with_byte 10 (map line_text (v ∷ us))) (10 ∷ []))

-- a table that is read is spelled
pub table_spelled : (bytes body : List ℕ) (us : List User) → bytes ≡ body ++ 10 ∷ [] → SpellsLines (parts_at 10 body) us → is_table us ≡ true → Spells bytes us
table_spelled bytes body [] e s t = absurd (true≢false (sym t))
table_spelled bytes body (u ∷ us) e s t = record {
  lines = s.lines;
  whole = t;
  text =
      e ∙ ap (λ b. b ++ 10 ∷ []) (sym (join_with_byte-slice_split 10 body) ∙ ap (join_with_byte 10) (sym s.texts_are)) ∙ sym (text_joined u us);
}

-- a table that is spelled is read
pub table_read : (bytes body : List ℕ) (us : List User) → bytes ≡ body ++ 10 ∷ [] → Spells bytes us → SpellsLines (parts_at 10 body) us
table_read bytes body [] e s = absurd (true≢false (sym s.whole))
table_read bytes body (u ∷ us) e s =
    let same : body ≡ join_with_byte 10 (map line_text (u ∷ us)) =
    append_cancel_right body (join_with_byte 10 (map line_text (u ∷ us))) (10 ∷ []) (sym e ∙ s.text ∙ text_joined u us) in
    record { lines = s.lines; texts_are = sym (ap (parts_at 10) same ∙ cut_joined 10 (line_text u) (map line_text us) (lines_lack (u ∷ us) s.lines)) }

-- a table ends with a newline
pub table_ends : (bytes : List ℕ) (us : List User) → Spells bytes us → ((front : List ℕ) → bytes ≡ front ++ 10 ∷ [] → ⊥) → ⊥
table_ends bytes [] s n = true≢false (sym s.whole)
table_ends bytes (u ∷ us) s n = n _ (s.text ∙ text_joined u us)

-- ---- as the reader goes

pub no_line : (bytes : List ℕ) (u : User) → user_of (parts_at 58 bytes) ≡ None → SpellsLine bytes u → ⊥
no_line bytes u e s = let read = line_read bytes u s in cc

pub bad_line : (bytes : List ℕ) (v u : User) → user_of (parts_at 58 bytes) ≡ Some v → is_line v ≡ false → SpellsLine bytes u → ⊥
bad_line bytes v u e n s =
    let read = line_read bytes u s in
    let same : u ≡ v = cc in
    true≢false (sym s.line ∙ ap is_line same ∙ n)

pub line_found : (bytes : List ℕ) (v : User) → user_of (parts_at 58 bytes) ≡ Some v → is_line v ≡ true → SpellsLine bytes v
line_found bytes v e h = record { line = h; text = line_spelled bytes v e }

pub line_same : (bytes : List ℕ) (v u : User) → user_of (parts_at 58 bytes) ≡ Some v → SpellsLine bytes u → v ≡ u
line_same bytes v u e s = let read = line_read bytes u s in cc

pub lines_more : (before : List (List ℕ)) (us : List User) (text : List ℕ) (u : User) → SpellsLines before us → SpellsLine text u → SpellsLines (before ++ text ∷ []) (us ++ u ∷ [])
lines_more before us text u s h = record {
  lines = list_all-append is_line us (u ∷ []) ∙ and_from _ _ s.lines (and_from _ _ h.line refl);
  texts_are = map-append line_text us (u ∷ []) ∙ (λ k. s.texts_are k ++ sym h.text k ∷ []);
}

pub lines_long : (all : List (List ℕ)) (us : List User) → SpellsLines all us → length us ≡ length all
lines_long all us s = sym (length-map us line_text) ∙ ap length s.texts_are

pub line_at : (all : List (List ℕ)) (us : List User) (k : ℕ) (d : User) → SpellsLines all us → k < length all → SpellsLine (get_or all k []) (get_or us k d)
line_at all us k d s lt =
    let within : k < length us = omega (arith, lines_long all us s) in
    record {
      line = AllPass-from_list_all is_line us s.lines k d within;
      text = ap (λ t. get_or t k []) (sym s.texts_are) ∙ get_or-map line_text us k d [] within;
    }

abbrev pub nobody : User
nobody = record { id = []; name = []; leader = None; members = [] }

abbrev texts_of : List (Bor (List ℕ)) → List (List ℕ)
texts_of texts = map (λ t. t.now) texts

pub lines_along : (a b : List (List ℕ)) (us : List User) → a ≡ b → SpellsLines b us → SpellsLines a us
lines_along a b us e s = record { lines = s.lines; texts_are = s.texts_are ∙ sym e }

pub item_spelled : (texts : List (Bor (List ℕ))) (k : ℕ) (b : Bor (List ℕ)) (us : List User) (d : User) → k < length texts → SpellsLines (texts_of texts) us → SpellsLine (get_or texts k b).now (get_or us k d)
item_spelled texts k b us d lt s =
    let within : k < length (texts_of texts) = omega (arith, length-map texts (λ (t : Bor (List ℕ)). t.now)) in
    let here = line_at (texts_of texts) us k d s within in
    record { line = here.line; text = sym (get_or-map (λ (t : Bor (List ℕ)). t.now) texts k b [] lt) ∙ here.text }

pub lines_next : (texts : List (Bor (List ℕ))) (k : ℕ) (b : Bor (List ℕ)) (us : List User) (u : User) → k < length texts → SpellsLines (texts_of (take k texts)) us → SpellsLine (get_or texts k b).now u → SpellsLines (texts_of (take (k + 1) texts)) (us ++ u ∷ [])
lines_next texts k b us u lt s h =
    lines_along _ _ (us ++ u ∷ []) (map_more (λ (t : Bor (List ℕ)). t.now) texts k b lt) (lines_more (texts_of (take k texts)) us (get_or texts k b).now u s h)

pub users_next : (texts : List (Bor (List ℕ))) (k : ℕ) (b : Bor (List ℕ)) (got us : List User) (u : User) → k < length texts → SpellsLines (texts_of texts) us → got ≡ take k us → ((v : User) → SpellsLine (get_or texts k b).now v → u ≡ v) → got ++ u ∷ [] ≡ take (k + 1) us
users_next texts k b got us u lt s e same =
    let within : k < length us = omega (arith, lines_long (texts_of texts) us s, length-map texts (λ (t : Bor (List ℕ)). t.now)) in
    (λ i. e i ++ same (get_or us k u) (item_spelled texts k b us u lt s) i ∷ []) ∙ sym (take_more us k u within)
