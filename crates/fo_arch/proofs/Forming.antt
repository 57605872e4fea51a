-- Forms once more was stored.
use Rattle.std.proofs.Common.{◌≡◌, ◌⊎◌, ⊎_elim, inl, inr, ℕ, zero, suc, List, refl, sym, ◌∙◌, ap, arith}
use Rattle.std.proofs.lemmas.Bool.{cases_eq}
use Rattle.std.specs.Prelude.{Option, Some, None}
use Rattle.fo_image.specs.declared.types.Score.{Score}
use Rattle.fo_image.specs.declared.types.Kind.{Kind}
use Rattle.fo_image.specs.declared.types.Kind.TheVariants.{Data, Dir, Root}
use Rattle.fo_image.specs.declared.types.Pointer.{Pointer}
use Rattle.fo_image.specs.declared.types.Pointer.TheVariants.{Nil, Local, Score as Held}
use Rattle.fo_image.specs.Format.{KindHolds}
use Rattle.fo_crash.specs.Images.{Content}
use Rattle.fo_vacput.specs.declared.types.VacEntry.{VacEntry}
use Rattle.fo_arch_form.specs.declared.stored.Stored.{Stored}
use Rattle.fo_arch_form.specs.Stored.{found, score_under, Adds}
use Rattle.fo_arch_walk.specs.Entries.{IsEntriesForm}
use Rattle.fo_arch_walk.specs.Pointers.{IsPointersForm}
use Rattle.fo_arch_walk.specs.Forms.{HasHead, IsTopForm, IsForm}
use Rattle.fo_arch_walk.specs.Pieces.{IsCutForm}
use Rattle.fo_arch_walk.specs.Spots.{arena_code}
use Rattle.fo_arch.specs.Forms.{StoresMore}

pub more_stored_none : (done : Stored) → StoresMore done done
more_stored_none done = record { each = λ at kind score is. is }

pub more_stored_joins : {a b c : Stored} → StoresMore a b → StoresMore b c → StoresMore a c
more_stored_joins p q = record { each = λ at kind score is. q.each at kind score (p.each at kind score is) }

pub same_stored : {a b : Stored} → ((at kind : ℕ) → found b at kind ≡ found a at kind) → StoresMore a b
same_stored same = record { each = λ at kind score is. same at kind ∙ is }

some_none : {X : Type 0} {x : X} {o : Option X} → o ≡ None → o ≡ Some x → ⊥
some_none none some = cc

pub adds_more : {old new : Stored} {at kind : ℕ} {score : Score} → found old at kind ≡ None → Adds at kind score old new → StoresMore old new
adds_more {old = old} {at = at} {kind = kind} fresh adds = record {
  each = λ a k s is. adds.others a k (λ same_at same_kind. some_none fresh (sym (ap (λ (x : ℕ). found old x k) same_at ∙ ap (λ (x : ℕ). found old at x) same_kind) ∙ is)) ∙ is;
}

under_more : {old new : Stored} → StoresMore old new → (kind : ℕ) (p : Pointer) (score : Score) → score_under old kind p ≡ Some score → score_under new kind p ≡ Some score
under_more more kind Nil score is = is
under_more more kind (Local at) score is = more.each at kind score is
under_more more kind (Held s) score is = is

pointers_more : {old new : Stored} → StoresMore old new → (kind : Kind) (c : Content) (form : List ℕ) → IsPointersForm old kind c form → IsPointersForm new kind c form
pointers_more more kind c form f = record {
  each = λ i lt. let s = f.each i lt in record { score = s.score; stored = under_more more _ _ s.score s.stored; here = s.here };
  behind = f.behind;
  length_is = f.length_is;
}

entries_more : {old new : Stored} → StoresMore old new → (c : Content) (form : List ℕ) → IsEntriesForm old c form → IsEntriesForm new c form
entries_more more c form f = record {
  each = λ i lt. let s = f.each i lt in record { entry = s.entry; score = s.score; slot_is = s.slot_is; stored = under_more more _ _ s.score s.stored; here = s.here };
  behind = f.behind;
  length_is = f.length_is;
}

head_more : {old new : Stored} → StoresMore old new → {c : Content} {i : ℕ} {v : VacEntry} → HasHead old c i v → HasHead new c i v
head_more more h = record { entry = h.entry; score = h.score; slot_is = h.slot_is; stored = under_more more _ _ h.score h.stored; is = h.is }

top_more : {old new : Stored} → StoresMore old new → (c : Content) (form : List ℕ) → IsTopForm old c form → IsTopForm new c form
top_more more c form f = record { entries = f.entries; meta = f.meta; entries_are = head_more more f.entries_are; meta_are = head_more more f.meta_are; is = f.is }

form_more : {old new : Stored} → StoresMore old new → (kind : Kind) (c : Content) (form : List ℕ) → IsForm old kind c form → IsForm new kind c form
form_more more (Data zero) c form f = f
form_more more (Data (suc level)) c form f = pointers_more more (Data (suc level)) c form f
form_more more (Dir zero) c form f = entries_more more c form f
form_more more (Dir (suc level)) c form f = pointers_more more (Dir (suc level)) c form f
form_more more Root c form f = top_more more c form f

pub cut_more : {old new : Stored} → StoresMore old new → (kind : Kind) (c : Content) (bytes : List ℕ) → IsCutForm old kind c bytes → IsCutForm new kind c bytes
cut_more more kind c bytes f = record { form = f.form; is = form_more more kind c f.form f.is; stored = f.stored }

-- a kind is known by its number in the arena
pub code_once : (k j : Kind) → KindHolds k → KindHolds j → arena_code k ≡ arena_code j → k ≡ j
code_once (Data a) (Data b) hk hj e = ap (λ (n : ℕ). Data n) e
code_once (Data a) (Dir b) hk hj e = absurd (omega (arith, hk, e))
code_once (Data a) Root hk hj e = absurd (omega (arith, hk, e))
code_once (Dir a) (Data b) hk hj e = absurd (omega (arith, hj, e))
code_once (Dir a) (Dir b) hk hj e = let same : a ≡ b = omega (arith, e) in ap (λ (n : ℕ). Dir n) same
code_once (Dir a) Root hk hj e = absurd (omega (arith, hk, e))
code_once Root (Data b) hk hj e = absurd (omega (arith, hj, e))
code_once Root (Dir b) hk hj e = absurd (omega (arith, hj, e))
code_once Root Root hk hj e = refl

-- an address and a kind are those of a block, or others
pub same_key : (a k at kind : ℕ) → ((a ≡ at) × (k ≡ kind)) ⊎ (a ≡ at → k ≡ kind → ⊥)
same_key a k at kind = ⊎_elim
    (λ same_at. ⊎_elim (λ same_kind. inl (same_at, same_kind)) (λ other. inr (λ _ same. other same)) (cases_eq k kind))
    (λ other. inr (λ same _. other same))
    (cases_eq a at)
