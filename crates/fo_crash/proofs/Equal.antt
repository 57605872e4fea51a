-- Equality of slots and of bytes is decided.
use Rattle.std.proofs.Common.{◌≡◌, ◌≢◌, ◌⊎◌, inl, inr, ⊎_elim, ℕ, Bool, true, false, List, [], ◌∷◌, refl, ◌∙◌, ap}
use Rattle.std.proofs.lemmas.Bool.{cases_eq}
use Rattle.fo_image.specs.declared.types.Score.{Score}
use Rattle.fo_image.specs.declared.types.Pointer.{Pointer}
use Rattle.fo_image.specs.declared.types.Pointer.TheVariants.{Nil, Local, Score as Held}
use Rattle.fo_image.specs.declared.types.Entry.{Entry}
use Rattle.fo_crash.specs.declared.slot.Slot.{Slot}
use Rattle.fo_crash.specs.declared.slot.Slot.TheVariants.{Pointer as To, Entry as Head, Prev}

abbrev pub Decided : {A : Type 0} → A → A → Type 0
Decided a b = (a ≡ b) ⊎ (a ≢ b)

pub bool_cases : (b : Bool) → (b ≡ true) ⊎ (b ≡ false)
bool_cases true = inl refl
bool_cases false = inr refl

pub flags : (a b : Bool) → Decided a b
flags true true = inl refl
flags false false = inl refl
flags true false = inr (λ e. cc)
flags false true = inr (λ e. cc)

pub lists : (xs ys : List ℕ) → Decided xs ys
lists [] [] = inl refl
lists [] (y ∷ ys) = inr (λ e. cc)
lists (x ∷ xs) [] = inr (λ e. cc)
lists (x ∷ xs) (y ∷ ys) = ⊎_elim
    (λ e. ⊎_elim (λ f. inl (cc)) (λ nf. inr (λ e. nf (cc))) (lists xs ys))
    (λ ne. inr (λ e. ne (cc)))
    (cases_eq x y)

pub pointers : (p q : Pointer) → Decided p q
pointers Nil Nil = inl refl
pointers Nil (Local b) = inr (λ e. cc)
pointers Nil (Held y) = inr (λ e. cc)
pointers (Local a) Nil = inr (λ e. cc)
pointers (Local a) (Local b) = ⊎_elim (λ e. inl (ap Local e)) (λ ne. inr (λ e. ne (cc))) (cases_eq a b)
pointers (Local a) (Held y) = inr (λ e. cc)
pointers (Held x) Nil = inr (λ e. cc)
pointers (Held x) (Local b) = inr (λ e. cc)
pointers (Held x) (Held y) = ⊎_elim (λ e. let same : x ≡ y = ap (λ bytes. record { 0 = bytes }) e in inl (ap Held same)) (λ ne. inr (λ e. let same : x ≡ y = cc in ne (ap (λ (s : Score). s.0) same))) (lists (x.0) (y.0))

-- an entry from its parts, and two of them
abbrev entry : ℕ → Bool → Bool → ℕ → ℕ → ℕ → Pointer → Entry
entry g a d depth tag size top = record { generation = g; active = a; dir = d; depth = depth; tag = tag; size = size; top = top }

pub entries : (e f : Entry) → Decided e f
entries e f = ⊎_elim
    (λ g. ⊎_elim
    (λ a. ⊎_elim
    (λ d. ⊎_elim
    (λ p. ⊎_elim
    (λ t. ⊎_elim
    (λ s. ⊎_elim
    (λ top. inl (
    ap (λ x. entry x e.active e.dir e.depth e.tag e.size e.top) g
    ∙ ap (λ x. entry f.generation x e.dir e.depth e.tag e.size e.top) a
    ∙ ap (λ x. entry f.generation f.active x e.depth e.tag e.size e.top) d
    ∙ ap (λ x. entry f.generation f.active f.dir x e.tag e.size e.top) p
    ∙ ap (λ x. entry f.generation f.active f.dir f.depth x e.size e.top) t
    ∙ ap (λ x. entry f.generation f.active f.dir f.depth f.tag x e.top) s
    ∙ ap (λ x. entry f.generation f.active f.dir f.depth f.tag f.size x) top))
    (λ ne. inr (λ h. ne (ap (λ (x : Entry). x.top) h)))
    (pointers e.top f.top))
    (λ ne. inr (λ h. ne (ap (λ (x : Entry). x.size) h)))
    (cases_eq e.size f.size))
    (λ ne. inr (λ h. ne (ap (λ (x : Entry). x.tag) h)))
    (cases_eq e.tag f.tag))
    (λ ne. inr (λ h. ne (ap (λ (x : Entry). x.depth) h)))
    (cases_eq e.depth f.depth))
    (λ ne. inr (λ h. ne (ap (λ (x : Entry). x.dir) h)))
    (flags e.dir f.dir))
    (λ ne. inr (λ h. ne (ap (λ (x : Entry). x.active) h)))
    (flags e.active f.active))
    (λ ne. inr (λ h. ne (ap (λ (x : Entry). x.generation) h)))
    (cases_eq e.generation f.generation)

pub slots : (s t : Slot) → Decided s t
slots (To p) (To q) = ⊎_elim (λ e. inl (ap To e)) (λ ne. inr (λ e. ne (cc))) (pointers p q)
slots (To p) (Head f) = inr (λ e. cc)
slots (To p) (Prev m b) = inr (λ e. cc)
slots (Head e) (To q) = inr (λ h. cc)
slots (Head e) (Head f) = ⊎_elim (λ h. inl (ap Head h)) (λ ne. inr (λ h. ne (cc))) (entries e f)
slots (Head e) (Prev m b) = inr (λ h. cc)
slots (Prev n a) (To q) = inr (λ e. cc)
slots (Prev n a) (Head f) = inr (λ e. cc)
slots (Prev n a) (Prev m b) = ⊎_elim
    (λ e. ⊎_elim (λ f. inl (ap (λ x. Prev x a) e ∙ ap (λ x. Prev m x) f)) (λ ne. inr (λ h. ne (cc))) (cases_eq a b))
    (λ ne. inr (λ h. ne (cc)))
    (cases_eq n m)
