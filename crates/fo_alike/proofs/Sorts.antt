-- What is asked of two leaves that are the same, and of a bare one.
use Rattle.std.proofs.Common.{ℕ, refl, sym, ◌∙◌, subst}
use Rattle.fo_crash.specs.declared.slot.Slot.{Slot}
use Rattle.fo_crash.specs.declared.slot.Slot.TheVariants.{Pointer as To, Entry as Head, Prev}
use Rattle.fo_crash.specs.Images.{Content, SameContent}
use Rattle.fo_crash.specs.Names.{IsInUse, SameUse}
use Rattle.fo_crash.proofs.Names.{same_use_self, same_use_joins}
use Rattle.fo_alike.specs.Like.{SameBytes, IsZeros, SameUses, NoneInUse}

-- The same content is the same leaf; what is the same joins; and what is the same as a bare leaf is bare.
pub record IsSort (same : Content → Content → Type 0) (bare : Content → Type 0) : Type 0 where
  pub content : {c d : Content} → SameContent c d → same c d
  pub joins : {c d e : Content} → same c d → same d e → same c e
  pub bare_back : {c d : Content} → same c d → bare d → bare c

use_back : (s t : Slot) → SameUse s t → SameUse t s
use_back (Head e) (Head f) u = (sym u.0, sym u.1, sym u.2, sym u.3)
use_back (Head e) (To p) u = absurd (cc)
use_back (Head e) (Prev n a) u = absurd (cc)
use_back (To p) t u = subst (λ (x : Slot). SameUse x (To p)) u (same_use_self (To p) (To p) refl)
use_back (Prev m b) t u = subst (λ (x : Slot). SameUse x (Prev m b)) u (same_use_self (Prev m b) (Prev m b) refl)

pub uses_back : (c d : Content) → SameUses c d → SameUses d c
uses_back c d same = λ j. use_back (c.slot j) (d.slot j) (same j)

-- An entry is in use where one in the same use is.
pub used_too : (s t : Slot) (g : ℕ) → SameUse s t → IsInUse s g → IsInUse t g
used_too (Head e) (Head f) g u h = (sym (u.1) ∙ h.0, sym (u.0) ∙ h.1)
used_too (Head e) (To p) g u h = absurd (cc)
used_too (Head e) (Prev n a) g u h = absurd (cc)
used_too (To p) t g u h = absurd h
used_too (Prev m b) t g u h = absurd h

pub of_records : IsSort SameBytes IsZeros
of_records = record {
  content = λ same. same.bytes;
  joins = λ e f. e ∙ f;
  bare_back = λ e zeros. e ∙ zeros;
}

uses_content : {c d : Content} → SameContent c d → SameUses c d
uses_content {c} {d} same = λ j. same_use_self (c.slot j) (d.slot j) (same.slots j)

uses_join : (c d e : Content) → SameUses c d → SameUses d e → SameUses c e
uses_join c d e first second = λ j. same_use_joins (c.slot j) (d.slot j) (e.slot j) (first j) (second j)

pub of_entries : IsSort SameUses NoneInUse
of_entries = record {
  content = λ same. uses_content same;
  joins = λ {c} {d} {e} first second. uses_join c d e first second;
  bare_back = λ {c} {d} same none j g used. none j g (used_too (c.slot j) (d.slot j) g (same j) used);
}
