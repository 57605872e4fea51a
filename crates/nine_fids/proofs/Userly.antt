-- A name of the table is a user's: 1 to 64 bytes of a text.
use Rattle.std.proofs.Common.{◌≡◌, ℕ, ◌≤◌, ◌<◌, ◌==◌, List, [], ◌∷◌, length, Bool, true, false, not, refl, sym, subst, arith}
use Rattle.std.specs.Prelude.{codes, nat_le, ◌||◌}
use Rattle.std.specs.List.{list_any, list_all}
use Rattle.std.specs.Str.{bytes_eq}
use Rattle.std.proofs.lemmas.Bool.{and_parts, true≢false}
use Rattle.std.proofs.lemmas.Bool.Decides.{nat_tests}
use Rattle.std.proofs.lemmas.Slice.Eq.{bytes_eq-Decides}
use Rattle.fo_world.specs.Limits.{IsUser}
use Rattle.fo_world.proofs.Texts.{AllPlain, text-plain}
use Rattle.fo_users.specs.declared.table.User.{User}
use Rattle.fo_users.specs.Table.{is_name_byte, is_user_name, is_line, is_known}

byte_some : (b : ℕ) → is_name_byte b ≡ true → 0 < b
byte_some b h = grind (arith, nat_tests)

byte_ascii : (b : ℕ) → is_name_byte b ≡ true → b < 128
byte_ascii b h = grind (arith, nat_tests)

bytes_plain : (bytes : List ℕ) → list_all is_name_byte bytes ≡ true → AllPlain bytes
bytes_plain [] h = tt
bytes_plain (b ∷ bs) h = (record { some = byte_some b (and_parts _ _ h).0; ascii = byte_ascii b (and_parts _ _ h).0 }, bytes_plain bs (and_parts _ _ h).1)

long : (n : ℕ) → not (n == 0) ≡ true → 1 ≤ n
long n h = grind (arith, nat_tests)

short : (n : ℕ) → nat_le n 64 ≡ true → n ≤ 64
short n h = grind (arith, nat_tests)

pub user_name : (name : List ℕ) → is_user_name name ≡ true → IsUser name
user_name name h =
    let front = and_parts _ _ h in
    let sizes = and_parts _ _ front.0 in
    record { some = long (length name) sizes.0; short = short (length name) sizes.1; text = text-plain name (bytes_plain name front.1) }

line_name : (u : User) → is_line u ≡ true → is_user_name u.name ≡ true
line_name u h = (and_parts _ _ (and_parts _ _ (and_parts _ _ h).0).0).1

known_here : (u : User) (us : List User) (name : List ℕ) (b : Bool) → bytes_eq u.name name ≡ b → list_all is_line (u ∷ us) ≡ true → (b || list_any (λ v. bytes_eq v.name name) us) ≡ true → (list_any (λ v. bytes_eq v.name name) us ≡ true → IsUser name) → IsUser name
known_here u us name true same h k more =
    let P : List ℕ → Type 0 = λ n. IsUser n in
    subst P ((bytes_eq-Decides u.name name).0 same) (user_name u.name (line_name u (and_parts _ _ h).0))
known_here u us name false same h k more = more k

pub known_name : (table : List User) (name : List ℕ) → list_all is_line table ≡ true → is_known table name ≡ true → IsUser name
known_name [] name h k = absurd (true≢false (sym k))
known_name (u ∷ us) name h k = known_here u us name (bytes_eq u.name name) refl h k (known_name us name (and_parts _ _ h).1)

pub none_user : IsUser (codes "none")
none_user = user_name (codes "none") refl
