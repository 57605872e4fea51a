-- Rights that are there whatever the table of users is.
use Rattle.std.proofs.Common.{◌≡◌, ℕ, List, [], ◌∷◌, length, Bool, true, false, not, Result, Ok, Err, ◌==◌, refl, ap, ◌∙◌, arith}
use Rattle.std.specs.Prelude.{◌&&◌, ◌||◌, ◌*◌}
use Rattle.std.specs.List.{list_any}
use Rattle.std.specs.Str.{bytes_eq}
use Rattle.std.proofs.lemmas.Bool.{eqb-true}
use Rattle.fo_world.specs.declared.place.Info.{Info}
use Rattle.fo_world.specs.World.{World}
use Rattle.fo_users.specs.declared.table.User.{User}
use Rattle.fo_users.specs.declared.right.Right.{Right}
use Rattle.fo_users.specs.declared.right.Right.TheVariants.{Read as ToRead, Write as ToWrite, Execute as ToExecute}
use Rattle.fo_users.specs.Rights.{bit_of, has_bit, lists, may}
use Rattle.nine_fids.specs.declared.fid.Fid.{Fid}
use Rattle.nine_fids.specs.declared.mode.Access.{Access}
use Rattle.nine_fids.specs.declared.mode.Access.TheVariants.{Read, Write, ReadWrite, Execute}
use Rattle.nine_fids.specs.declared.mode.Mode.{Mode}
use Rattle.nine_fids.specs.declared.refusal.Refusal.{Refusal}
use Rattle.nine_fids.specs.Told.{Files}
use Rattle.nine_files.specs.Opening as opening
use Rattle.nine_files.specs.Opening.{may_access, may_open, opening_rights_by}
use Rattle.nine_files.specs.Walking as walking
use Rattle.nine_files.specs.Walking.{from_next, next_by, walked_by}
use Rattle.nine_files.proofs.Chains.{opening_plain}

-- ---- a right by the table of no users is one by any

listed_more : (a b c d x : Bool) → (a || b || (c && (d || false))) ≡ true → (a || b || (c && (d || x))) ≡ true
listed_more true b c d x h = refl
listed_more false true c d x h = refl
listed_more false false true true x h = refl
listed_more false false true false x h = absurd cc
listed_more false false false d x h = absurd cc

pub may_more : (table : List User) (user : List ℕ) (i : Info) (r : Right) → may [] user i r ≡ true → may table user i r ≡ true
may_more table user i r h =
    listed_more (has_bit i.mode (bit_of r)) (bytes_eq user i.uid && has_bit i.mode (bit_of r * 64)) (has_bit i.mode (bit_of r * 8)) (bytes_eq user i.gid) (list_any (λ line. lists line user i.gid) table) h

both_more : (a b x y : Bool) → (a ≡ true → x ≡ true) → (b ≡ true → y ≡ true) → (a && b) ≡ true → (x && y) ≡ true
both_more true true x y up too h = rw (up refl, too refl) refl
both_more true false x y up too h = absurd cc
both_more false b x y up too h = absurd cc

either_more : (a b y : Bool) → (b ≡ true → y ≡ true) → (a || b) ≡ true → (a || y) ≡ true
either_more true b y too h = refl
either_more false b y too h = too h

access_more : (table : List User) (user : List ℕ) (i : Info) (a : Access) → may_access [] user i a ≡ true → may_access table user i a ≡ true
access_more table user i Read h = may_more table user i ToRead h
access_more table user i Write h = may_more table user i ToWrite h
access_more table user i ReadWrite h =
    both_more (may [] user i ToRead) (may [] user i ToWrite) (may table user i ToRead) (may table user i ToWrite) (may_more table user i ToRead) (may_more table user i ToWrite) h
access_more table user i Execute h = may_more table user i ToExecute h

open_more : (table : List User) (user : List ℕ) (i : Info) (m : Mode) → may_open [] user i m ≡ true → may_open table user i m ≡ true
open_more table user i m h =
    both_more (may_access [] user i m.access) (not m.truncate || may [] user i ToWrite) (may_access table user i m.access) (not m.truncate || may table user i ToWrite)
    (access_more table user i m.access) (either_more (not m.truncate) (may [] user i ToWrite) (may table user i ToWrite) (may_more table user i ToWrite)) h

both_parts : (a b : Bool) → (not a && b) ≡ true → (a ≡ false) × (b ≡ true)
both_parts true b h = absurd cc
both_parts false b h = (refl, h)

-- ---- a file that may be opened

pub opening_free : (table : List User) (e : Files) (w : World) (f : Fid) (i : Info) (m : Mode) → opening.is_free f.user i m ≡ true → opening_rights_by table e w f i m ≡ Ok tt
opening_free table e w f i m h =
    let parts = both_parts m.remove (may_open [] f.user i m) h in
    opening_plain table e w f i m (open_more table f.user i m parts.1) parts.0

-- ---- a walk by one name

next_free : (table : List User) (e : Files) (w : World) (user : List ℕ) (i : Info) (name : List ℕ) → may [] user i ToExecute ≡ true → next_by [] e w user i name ≡ next_by table e w user i name
unfolding next_by
next_free table e w user i name h = rw (h, may_more table user i ToExecute h) refl

none_left : (table : List User) (e : Files) (w : World) (user : List ℕ) (i : Info) (r : Result Info Refusal) → from_next (walked_by [] e w user []) i r ≡ from_next (walked_by table e w user []) i r
unfolding walked_by
none_left table e w user i (Ok j) = refl
none_left table e w user i (Err r) = refl

one_free : (table : List User) (e : Files) (w : World) (user : List ℕ) (i : Info) (name : List ℕ) → may [] user i ToExecute ≡ true → walked_by [] e w user (name ∷ []) i ≡ walked_by table e w user (name ∷ []) i
unfolding walked_by
one_free table e w user i name h =
    none_left table e w user i (next_by [] e w user i name) ∙ ap (from_next (walked_by table e w user []) i) (next_free table e w user i name h)

one_parts : (a b : Bool) → (a && b) ≡ true → (a ≡ true) × (b ≡ true)
one_parts true b h = (refl, h)
one_parts false b h = absurd cc

pub walk_free : (table : List User) (e : Files) (w : World) (user : List ℕ) (names : List (List ℕ)) (i : Info) → walking.is_free user names i ≡ true → walked_by [] e w user names i ≡ walked_by table e w user names i
walk_free table e w user [] i h = absurd cc
walk_free table e w user (name ∷ []) i h = one_free table e w user i name (one_parts (length (name ∷ []) == 1) (may [] user i ToExecute) h).1
walk_free table e w user (name ∷ more ∷ names) i h =
    let one : length (name ∷ more ∷ names) ≡ 1 = eqb-true (length (name ∷ more ∷ names)) 1 (one_parts (length (name ∷ more ∷ names) == 1) (may [] user i ToExecute) h).0 in
    absurd (omega (arith, one))
