-- What a walk says at each of its exits.
use Rattle.std.proofs.Common.{◌≡◌, ◌*◌, ℕ, take, drop, Bool, true, false, cond, List, Option, Some, None, IfSome, Result, Ok, Err, IfErr, inr, refl, sym, ap, ◌∙◌, arith}
use Rattle.fo_looks.specs.of_base.Cause.{Rose}
use Rattle.fo_looks.specs.of_image.declared.types.Kind.{Kind}
use Rattle.fo_looks.specs.of_image.declared.types.Score.{Score}
use Rattle.fo_looks.specs.of_image.declared.types.Pointer.{Pointer}
use Rattle.fo_looks.specs.of_image.declared.types.Pointer.TheVariants.{Nil, Local, Score as Held}
use Rattle.fo_looks.specs.of_image.Format.{kind_code}
use Rattle.fo_looks.specs.of_ports.declared.error.BlockError.{BlockError}
use Rattle.fo_looks.specs.of_ports.declared.error.BlockError.TheVariants.{Full, Damaged, Fault, Arena, Memory}
use Rattle.fo_looks.specs.of_ports.Causes.{Caused}
use Rattle.fo_looks.specs.of_ports.State.{State, KeepsAll, Looks}
use Rattle.fo_tree_read.specs.declared.tree.Tree.{Tree}
use Rattle.fo_tree_read.specs.Tree.{is_none, score_of, score_in, below, address_of, Agrees, Got, Names, Refused}
use Rattle.fo_looks.proofs.Looks.{rose_later}

pub looks_none : (a : State) → Looks a a
looks_none a = record {
  holds = refl;
  memory = λ told. record { each = λ x. record { bytes = refl; slots = λ i. refl } };
  known = λ x h. record { bytes = refl; slots = λ i. refl };
  images = record { each = λ image h. h };
  passes = record { later = omega arith; before = λ k image le h. h; within = λ k image lt le h. absurd (omega (arith, lt, le)) };
  stays = record {
    labels = λ x h. refl;
    marks = λ x h. (λ y. y, λ y. y, λ y. y);
    places = λ told x p h i spared r s. s;
    rooted = λ told x h r. r;
    newborn = λ x h n. n;
    apart = λ x h i. (λ y. y, λ y. y);
    instead = λ x z h i. (λ y. y, λ y. y);
    waits = λ x on j h i k w. w;
  };
  order = record { clearing = λ x j h. (λ n. n, h); goes_on = λ x j n h. h };
  covered = record { covered = λ x. (λ h. h, λ h. h) };
  newborn = λ x n. n;
  no_wait = record { each = λ x on j h w. w };
  dirty = λ x d. d;
  room = (refl, refl);
  usable = (refl, refl);
  no_removal = record { each = λ x e w h. h };
  numbers = record { next = refl; grants = λ h. h };
}

pub address_local : (at : ℕ) (q : Pointer) → Some at ≡ address_of q → q ≡ Local at
address_local at Nil e = absurd (let h = e in cc)
address_local at (Local a) e = cc
address_local at (Held score) e = absurd (let h = e in cc)

score_none : (b : Bool) (bytes : List ℕ) → None ≡ address_of (cond b Nil (Held (record { 0 = bytes })))
score_none true bytes = refl
score_none false bytes = refl

held_none : (h : Option (List ℕ)) (i : ℕ) → None ≡ address_of (score_in h i)
held_none None i = refl
held_none (Some bytes) i = score_none (is_none (take 20 (drop (20 * i) bytes))) (take 20 (drop (20 * i) bytes))

-- where no block stands on the device, none stands below
pub none_below : (s : State) (kind : Kind) (q : Pointer) (i : ℕ) → None ≡ address_of q → None ≡ address_of (below s kind q i)
none_below s kind Nil i e = refl
none_below s kind (Local at) i e = absurd (let h = e in cc)
none_below s kind (Held score) i e = held_none (s.held score (kind_code kind)) i

none_some : (at : ℕ) → None ≡ Some at → ⊥
none_some at e = cc

pub none_got : (s : State) (kind : Kind) (q : Pointer) → None ≡ address_of q → Got s kind q
none_got s kind q none at e = absurd (none_some at (none ∙ ap (λ (p : Pointer). address_of p) e))

pub block_some : (s : State) (q : Pointer) (a : Option ℕ) → a ≡ address_of q → ((at : ℕ) → q ≡ Local at → s.is_block at) → IfSome a (λ b. s.is_block b)
block_some s q None e is = tt
block_some s q (Some at) e is = is at (address_local at q e)

-- ---- pointers that are known to be others

pub agrees_same : {tells : Type 0} {p q : Pointer} → p ≡ q → Agrees tells p q
agrees_same e = (λ told. e, ap (λ (p : Pointer). address_of p) e)

pub agrees_on : {tells : Type 0} {p q r : Pointer} → Agrees tells p q → q ≡ r → Agrees tells p r
agrees_on f e = (λ told. f.0 told ∙ e, f.1 ∙ ap (λ (p : Pointer). address_of p) e)

pub agrees_local : {tells : Type 0} {p q : Pointer} {at : ℕ} → Agrees tells p q → p ≡ Local at → q ≡ Local at
agrees_local {q = q} {at = at} f e = address_local at q (sym (ap (λ (x : Pointer). address_of x) e) ∙ f.1)

pub local_agrees : {tells : Type 0} {p q : Pointer} {at : ℕ} → Agrees tells p q → q ≡ Local at → p ≡ Local at
local_agrees {p = p} {at = at} f e = address_local at p (sym (ap (λ (x : Pointer). address_of x) e) ∙ sym f.1)

pub agrees_got : {tells : Type 0} {p q : Pointer} (s : State) (kind : Kind) → Agrees tells p q → Got s kind q → Got s kind p
agrees_got s kind f got at e = got at (agrees_local f e)

pub got_agrees : {tells : Type 0} {p q : Pointer} (s : State) (kind : Kind) → Agrees tells p q → Got s kind p → Got s kind q
got_agrees s kind f got at e = got at (local_agrees f e)

pub agrees_none : {tells : Type 0} {p q : Pointer} → Agrees tells p q → None ≡ address_of p → None ≡ address_of q
agrees_none f none = none ∙ f.1

pub nil_none : {p : Pointer} → p ≡ Nil → None ≡ address_of p
nil_none e = sym (ap (λ (x : Pointer). address_of x) e)

pub held_score_none : {p : Pointer} {score : Score} → p ≡ Held score → None ≡ address_of p
held_score_none e = sym (ap (λ (x : Pointer). address_of x) e)

pub score_bytes_none : (bytes : List ℕ) → None ≡ address_of (score_of bytes)
score_bytes_none bytes = score_none (is_none bytes) bytes

-- below a pointer to nothing there is nothing
pub nil_agrees : {tells : Type 0} (s : State) (kind : Kind) (p q : Pointer) (i : ℕ) → Agrees tells p q → p ≡ Nil → Agrees tells Nil (below s kind q i)
nil_agrees s kind p q i f e = (λ told. ap (λ (x : Pointer). below s kind x i) (sym (sym (f.0 told) ∙ e)), none_below s kind q i (agrees_none f (nil_none e)))

-- below a score there is a score, or nothing
pub held_agrees : {tells : Type 0} (s : State) (kind : Kind) (p q r : Pointer) (i : ℕ) (score : Score) → Agrees tells p q → p ≡ Held score → (tells → r ≡ below s kind (Held score) i) → None ≡ address_of r → Agrees tells r (below s kind q i)
held_agrees s kind p q r i score f e is none = (λ told. is told ∙ ap (λ (x : Pointer). below s kind x i) (sym (sym (f.0 told) ∙ e)), sym none ∙ none_below s kind q i (agrees_none f (held_score_none e)))

-- a score that is not held
held_refused : (old mid new : State) (t : Tree) (score : Score) (kind : ℕ) → KeepsAll old mid → Names old t score kind → (e : BlockError) → Caused ⊥ (λ b. (b ≡ 1) × (mid.tells → mid.held score kind ≡ None)) ⊥ (Rose mid.arena_faults new.arena_faults) e → Refused old new (Names old t) e
held_refused old mid new t score kind all names Full cause = cause
held_refused old mid new t score kind all names (Damaged at) cause = inr (cause.0, λ told. (score, kind, names, sym (all.same_held score kind) ∙ cause.1 (all.still_tells.1 told)))
held_refused old mid new t score kind all names (Fault which) cause = absurd cause
held_refused old mid new t score kind all names (Arena which) cause = rose_later old.arena_faults mid.arena_faults new.arena_faults all.more_arena_faults cause
held_refused old mid new t score kind all names Memory cause = cause

pub any_held_refused : {T : Type 0} (old mid new : State) (t : Tree) (score : Score) (kind : ℕ) → KeepsAll old mid → Names old t score kind → (r : Result T BlockError) → IfErr r (Caused ⊥ (λ b. (b ≡ 1) × (mid.tells → mid.held score kind ≡ None)) ⊥ (Rose mid.arena_faults new.arena_faults)) → IfErr r (Refused old new (Names old t))
any_held_refused old mid new t score kind all names (Ok x) cause = cause
any_held_refused old mid new t score kind all names (Err e) cause = held_refused old mid new t score kind all names e cause

held_local : (score : Score) (at : ℕ) → Held score ≡ Local at → ⊥
held_local score at e = cc

pub held_got : (s : State) (kind : Kind) (q : Pointer) (score : Score) → q ≡ Held score → Got s kind q
held_got s kind q score held at e = absurd (held_local score at (sym held ∙ e))
