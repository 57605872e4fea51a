-- Blocks that are kept, and what is seen with them.
use Rattle.std.specs.List.{list_any}
use Rattle.std.specs.Str.{bytes_eq}
use Rattle.std.proofs.Common.{◌≡◌, ◌*◌, ◌/◌, ◌%◌, ◌^◌, ℕ, zero, suc, Bool, true, false, cond, nat_lt, ◌&&◌, ◌||◌, nat_eq, List, [], ◌∷◌, ◌++◌, Option, Some, None, refl, sym, ap, ◌∙◌}
use Rattle.std.proofs.lemmas.Bool.{eqb-true, eq-eqb}
use Rattle.std.proofs.lemmas.Slice.Eq.{bytes_eq-Decides}
use Rattle.fo_image.specs.declared.types.Kind.{Kind}
use Rattle.fo_image.specs.declared.types.Score.{Score}
use Rattle.fo_image.specs.declared.types.Pointer.{Pointer}
use Rattle.fo_image.specs.declared.types.Pointer.TheVariants.{Nil, Local, Score as Held}
use Rattle.fo_image.specs.Format.{kind_code}
use Rattle.fo_tree_read.specs.of_ports.State.{State}
use Rattle.fo_tree_read.specs.declared.tree.Tree.{Tree}
use Rattle.fo_tree_read.specs.Tree.{kind_at, kind_down, score_in, below, block_at, leaf_at, address_of, held_of, held_leaf, Got}
use Rattle.fo_tree_read.proofs.Exits.{address_local, none_below}
use Rattle.fo_tree_look.specs.declared.ways.Kept.{Kept}
use Rattle.fo_tree_look.specs.Source.{is_same, find_kept, or_held, seen, IsKept, AllHeld, held_here}

and_parts : (a b : Bool) → (a && b) ≡ true → (a ≡ true) × (b ≡ true)
and_parts true true e = (refl, refl)
and_parts true false e = absurd (let h = e in cc)
and_parts false b e = absurd (let h = e in cc)

and_both : (a b : Bool) → a ≡ true → b ≡ true → (a && b) ≡ true
and_both true b e f = f
and_both false b e f = absurd (let h = e in cc)

score_same : (x y : Score) → x.0 ≡ y.0 → x ≡ y
score_same x y e = ap (λ bytes. let s : Score = record { 0 = bytes } in s) e

same_is : (x : Kept) (score : Score) (kind : ℕ) → is_same x score kind ≡ true → (x.score ≡ score) × (x.kind ≡ kind)
same_is x score kind e =
    let parts = and_parts (nat_eq x.kind kind) (bytes_eq x.score.0 score.0) e in
    (score_same x.score score ((bytes_eq-Decides x.score.0 score.0).0 parts.1), eqb-true x.kind kind parts.0)

same_itself : (x : Kept) → is_same x x.score x.kind ≡ true
same_itself x = and_both (nat_eq x.kind x.kind) (bytes_eq x.score.0 x.score.0) (eq-eqb x.kind x.kind refl) ((bytes_eq-Decides x.score.0 x.score.0).1 refl)

none_some : (bytes : List ℕ) → None ≡ Some bytes → ⊥
none_some bytes e = cc

-- ---- what is kept

kept_one : (same : Bool) (bytes : List ℕ) (rest : Option (List ℕ)) → (found : List ℕ) × (rest ≡ Some found) → (found : List ℕ) × (cond same (Some bytes) rest ≡ Some found)
kept_one true bytes rest later = (bytes, refl)
kept_one false bytes rest later = later

any_one : (same any : Bool) (bytes : List ℕ) (rest : Option (List ℕ)) → (any ≡ true → (found : List ℕ) × (rest ≡ Some found)) → (same || any) ≡ true → (found : List ℕ) × (cond same (Some bytes) rest ≡ Some found)
any_one true any bytes rest later e = (bytes, refl)
any_one false any bytes rest later e = later e

pub any_kept : (kept : List Kept) (score : Score) (kind : ℕ) → list_any (λ x. is_same x score kind) kept ≡ true → IsKept kept score kind
any_kept [] score kind e = absurd (let h = e in cc)
any_kept (x ∷ rest) score kind e = any_one (is_same x score kind) (list_any (λ y. is_same y score kind) rest) x.bytes (find_kept rest score kind) (any_kept rest score kind) e

pub kept_last : (kept : List Kept) (x : Kept) → IsKept (kept ++ (x ∷ [])) x.score x.kind
kept_last [] x = (x.bytes, ap (λ b. cond b (Some x.bytes) None) (same_itself x))
kept_last (y ∷ rest) x = kept_one (is_same y x.score x.kind) y.bytes (find_kept (rest ++ (x ∷ [])) x.score x.kind) (kept_last rest x)

pub held_last : (s : State) (kept : List Kept) (x : Kept) → AllHeld s kept → (s.tells → s.held x.score x.kind ≡ Some x.bytes) → AllHeld s (kept ++ (x ∷ []))
held_last s [] x held here = (here, tt)
held_last s (y ∷ rest) x held here = (held.0, held_last s rest x held.1 here)

cond_more : (same : Bool) (here a b found : Option (List ℕ)) → (a ≡ found → b ≡ found) → cond same here a ≡ found → cond same here b ≡ found
cond_more true here a b found on e = e
cond_more false here a b found on e = on e

-- what is kept is found among more
pub find_more : (kept more : List Kept) (score : Score) (kind : ℕ) (bytes : List ℕ) → find_kept kept score kind ≡ Some bytes → find_kept (kept ++ more) score kind ≡ Some bytes
find_more [] more score kind bytes e = absurd (none_some bytes e)
find_more (x ∷ rest) more score kind bytes e = cond_more (is_same x score kind) (Some x.bytes) (find_kept rest score kind) (find_kept (rest ++ more) score kind) (Some bytes) (find_more rest more score kind bytes) e

-- ---- where the device tells, what is seen is what is held

cond_held : (same : Bool) (held here rest found : Option (List ℕ)) → (same ≡ true → held ≡ here) → (rest ≡ found → held ≡ found) → cond same here rest ≡ found → held ≡ found
cond_held true held here rest found now later e = now refl ∙ e
cond_held false held here rest found now later e = later e

find_held : (s : State) (kept : List Kept) (score : Score) (kind : ℕ) (bytes : List ℕ) → AllHeld s kept → s.tells → find_kept kept score kind ≡ Some bytes → s.held score kind ≡ Some bytes
find_held s [] score kind bytes held told e = absurd (none_some bytes e)
find_held s (x ∷ rest) score kind bytes held told e =
    cond_held (is_same x score kind) (s.held score kind) (Some x.bytes) (find_kept rest score kind) (Some bytes)
    (λ same. let is = same_is x score kind same in ap (λ y. s.held y kind) (sym is.0) ∙ ap (λ n. s.held x.score n) (sym is.1) ∙ held.0 told)
    (find_held s rest score kind bytes held.1 told)
    e

or_same : (found held : Option (List ℕ)) → ((bytes : List ℕ) → found ≡ Some bytes → held ≡ Some bytes) → or_held found held ≡ held
or_same None held is = refl
or_same (Some bytes) held is = sym (is bytes refl)

pub seen_held : (s : State) (kept : List Kept) → AllHeld s kept → s.tells → (score : Score) (kind : ℕ) → (seen s kept).held score kind ≡ s.held score kind
seen_held s kept held told score kind = or_same (find_kept kept score kind) (s.held score kind) (λ bytes e. find_held s kept score kind bytes held told e)

seen_below : (s : State) (kept : List Kept) → AllHeld s kept → s.tells → (kind : Kind) (p : Pointer) (i : ℕ) → below (seen s kept) kind p i ≡ below s kind p i
seen_below s kept held told kind Nil i = refl
seen_below s kept held told kind (Local at) i = refl
seen_below s kept held told kind (Held score) i = ap (λ h. score_in h i) (seen_held s kept held told score (kind_code kind))

pub seen_block : (s : State) (kept : List Kept) → AllHeld s kept → s.tells → (t : Tree) (n k : ℕ) → block_at (seen s kept) t n k ≡ block_at s t n k
seen_block s kept held told t zero k = refl
seen_block s kept held told t (suc n) k =
    ap (λ (p : Pointer). below (seen s kept) (kind_down t n) p (k % 409)) (seen_block s kept held told t n (k / 409))
    ∙ seen_below s kept held told (kind_down t n) (block_at s t n (k / 409)) (k % 409)

held_of_seen : (s : State) (kept : List Kept) → AllHeld s kept → s.tells → (kind : Kind) (p : Pointer) → held_of (seen s kept) kind p ≡ held_of s kind p
held_of_seen s kept held told kind Nil = refl
held_of_seen s kept held told kind (Local at) = refl
held_of_seen s kept held told kind (Held score) = seen_held s kept held told score (kind_code kind)

-- what is held of a leaf, nothing at the end and past it
abbrev pub held_plain : State → Tree → ℕ → Option (List ℕ)
held_plain s t i = cond (nat_lt (8192 * i) t.size) (held_leaf s t i) None

pub seen_leaf : (s : State) (t : Tree) (kept : List Kept) → AllHeld s kept → s.tells → (i : ℕ) → held_here s t kept i ≡ held_plain s t i
seen_leaf s t kept held told i = ap (λ (h : Option (List ℕ)). cond (nat_lt (8192 * i) t.size) h None)
    (ap (λ (p : Pointer). held_of (seen s kept) (kind_at t.dir 0) (cond (nat_lt i (409 ^ t.depth)) p Nil)) (seen_block s kept held told t t.depth i)
    ∙ held_of_seen s kept held told (kind_at t.dir 0) (leaf_at s t i))

-- ---- over any device the same blocks of the device are seen

below_address : (s : State) (kept : List Kept) (kind : Kind) (p q : Pointer) (i : ℕ) → address_of p ≡ address_of q → address_of (below (seen s kept) kind p i) ≡ address_of (below s kind q i)
below_address s kept kind Nil q i e = none_below s kind q i e
below_address s kept kind (Local at) q i e = ap (λ (x : Pointer). address_of (below s kind x i)) (sym (address_local at q e))
below_address s kept kind (Held score) q i e = sym (none_below (seen s kept) kind (Held score) i refl) ∙ none_below s kind q i e

pub seen_address : (s : State) (kept : List Kept) (t : Tree) (n k : ℕ) → address_of (block_at (seen s kept) t n k) ≡ address_of (block_at s t n k)
seen_address s kept t zero k = refl
seen_address s kept t (suc n) k = below_address s kept (kind_down t n) (block_at (seen s kept) t n (k / 409)) (block_at s t n (k / 409)) (k % 409) (seen_address s kept t n (k / 409))

pub address_got : (s : State) (kind : Kind) {p q : Pointer} → address_of p ≡ address_of q → Got s kind q → Got s kind p
address_got s kind {q = q} same got at e = got at (address_local at q (sym (ap (λ (x : Pointer). address_of x) e) ∙ same))
