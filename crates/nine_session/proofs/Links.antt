-- A chain of steps that may be refused, link by link.
use Rattle.std.proofs.Common.{◌≡◌, Bool, true, false, Option, Some, None, Result, Ok, Err, refl, sym, ap, subst, ◌∙◌, ⊎_elim, ℕ, inl, inr}
use Rattle.fo_world.specs.declared.error.FileError.{FileError}
use Rattle.fo_world.specs.World.{World, Faults}
use Rattle.fo_world.specs.Answers.{NotFewer, MayFail, granted_world, world_beside}
use Rattle.nine_fids.specs.declared.refusal.Refusal.{Refusal}
use Rattle.fo_world.specs.Chain.{and_then, refuse_if}
use Rattle.std.specs.Option.{ok_or}
use Rattle.nine_fids.specs.Looking.{MayMiss, IsRefused}
use Rattle.nine_fids.proofs.Missing.{refused_by, fails_since}
use Rattle.nine_fids.specs.Fids.{State}
use Rattle.nine_wire.specs.declared.message.Reply.{Reply}
use Rattle.fo_world.specs.declared.error.FileError.TheVariants as error
use Rattle.nine_files.specs.Answering.{world_told}
use Rattle.nine_session.specs.Attempting.{Attempts}
use Rattle.nine_session.specs.Session.{Told, world_after}

-- ---- what a chain is, once its first link is known

pub then_err : {A B : Type 0} (r : Result A Refusal) (e : Refusal) (f : A → Result B Refusal) → r ≡ Err e → and_then r f ≡ Err e
then_err r e f h = ap (λ t. and_then t f) h

pub refuse_yes : {A : Type 0} (b : Bool) (e : Refusal) (rest : Result A Refusal) → b ≡ true → refuse_if b e rest ≡ Err e
refuse_yes b e rest h = ap (λ t. refuse_if t e rest) h

pub refuse_no : {A : Type 0} (b : Bool) (e : Refusal) (rest : Result A Refusal) → b ≡ false → refuse_if b e rest ≡ rest
refuse_no b e rest h = ap (λ t. refuse_if t e rest) h

-- ---- two chains are one

pub past_refuse : {A B : Type 0} (b : Bool) (r : Refusal) (x : Result A Refusal) (g : A → Result B Refusal) → refuse_if b r (and_then x g) ≡ and_then (refuse_if b r x) g
past_refuse true r x g = refl
past_refuse false r x g = refl

pub then_same : {A B : Type 0} (x : Result A Refusal) (f g : A → Result B Refusal) → ((a : A) → f a ≡ g a) → and_then x f ≡ and_then x g
then_same (Ok a) f g h = h a
then_same (Err r) f g h = refl

pub refuse_same : {A : Type 0} (b : Bool) (r : Refusal) (x y : Result A Refusal) → x ≡ y → refuse_if b r x ≡ refuse_if b r y
refuse_same b r x y h = ap (refuse_if b r) h

-- ---- refusals

-- the refusal of a first link
pub link_refused : {A B : Type 0} (r : Result A Refusal) (f : A → Result B Refusal) (P : FileError → Type 0) (e : Refusal) → IsRefused r P e → IsRefused (and_then r f) P e
link_refused r f P e h = refused_by r (and_then r f) P P e (then_err r e f) (λ x p. p) h

-- what is the same is refused the same
pub same_refused : {A : Type 0} (told other : Result A Refusal) (P : FileError → Type 0) (e : Refusal) → told ≡ other → IsRefused other P e → IsRefused told P e
same_refused told other P e is h = let Q : Result _ Refusal → Type 0 = λ t. IsRefused t P e in subst Q (sym is) h

-- want of memory needs no cause
pub memory_misses : (f0 f1 : Faults) (h : Type 0) (x : FileError) → x ≡ error.Memory → MayMiss f0 f1 h x
memory_misses f0 f1 h x is = let P : FileError → Type 0 = λ y. MayMiss f0 f1 h y in subst P (sym is) tt

-- what is told the same, with more causes
pub attempts_same : (told other : Told) (P Q : FileError → Type 0) (left z : State) (r : Result Reply Refusal) → told ≡ other → ((x : FileError) → P x → Q x) → Attempts other P left z r → Attempts told Q left z r
attempts_same told other P Q left z (Ok r) is up h = is ∙ h
attempts_same told other P Q left z (Err r) is up h = (same_refused told other Q r is (refused_by other other P Q r (λ e. e) up h.0), h.1)

-- the call that changes, after calls that looked, refuses the whole
pub refused_changing : {A B : Type 0} (part : Result A Refusal) (whole : Result B Refusal) (f0 f1 f2 : Faults) (h0 h1 : Type 0) (room : ℕ → Type 0) (need need' : ℕ) (granted granted' : Bool) (r : Refusal) → NotFewer f0 f1 → (h0 → h1) → need ≡ need' → granted ≡ granted' → (part ≡ Err r → whole ≡ Err r) → IsRefused part (MayFail f1 f2 h1 room need granted) r → IsRefused whole (MayFail f0 f2 h0 room need' granted') r
refused_changing part whole f0 f1 f2 h0 h1 room need need' granted granted' r fewer up same same' told p =
    let P : ℕ → Type 0 = λ n. IsRefused whole (MayFail f0 f2 h0 room n granted') r in
    let Q : Bool → Type 0 = λ b. IsRefused whole (MayFail f0 f2 h0 room need b) r in
    subst P same (subst Q same' (⊎_elim (λ e. inl (told e)) (λ q. inr (q.0, q.1, fails_since f0 f1 f2 h0 h1 room need granted fewer up q.0 q.2)) p))

-- ---- the world that a chain grants

-- a chain that ends with a reply grants the world that its last link leads to
pub world_led : (told : Told) (t : Result World Refusal) (go : World → Reply × State) (old : World) → told ≡ and_then t (λ w. Ok (go w)) → ((w : World) → (go w).1.world ≡ w) → granted_world world_after told old ≡ granted_world world_told t old
world_led told (Ok w) go old is same = ap (λ (r : Told). granted_world world_after r old) is ∙ same w
world_led told (Err r) go old is same = ap (λ (r : Told). granted_world world_after r old) is

-- the same, where the last link tells more than the world
pub world_with : {A : Type 0} (told : Told) (t : Result (A × World) Refusal) (go : A × World → Reply × State) (old : World) → told ≡ and_then t (λ p. Ok (go p)) → ((p : A × World) → (go p).1.world ≡ p.1) → granted_world world_after told old ≡ granted_world world_beside t old
world_with told (Ok p) go old is same = ap (λ (r : Told). granted_world world_after r old) is ∙ same p
world_with told (Err r) go old is same = ap (λ (r : Told). granted_world world_after r old) is

-- ---- options

pub ok_or_ok : {A : Type 0} (o : Option A) (e : Refusal) (x : A) → ok_or o e ≡ Ok x → o ≡ Some x
ok_or_ok None e x h = absurd cc
ok_or_ok (Some y) e x h = cc
