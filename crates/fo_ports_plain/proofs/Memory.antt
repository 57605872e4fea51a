-- Blocks whose only image is what memory has.
use Rattle.std.proofs.Common.{◌≡◌, ◌≢◌, inl, inr, ⊎_elim, ℕ, zero, suc, Bool, true, false, cond, nat_lt, refl, sym, ◌∙◌, ap, subst, Option, Some, None, IfSome}
use Rattle.std.proofs.lemmas.Bool.{cases_eq}
use Rattle.fo_image.specs.declared.types.Kind.{Kind}
use Rattle.fo_image.specs.declared.types.Kind.TheVariants.{Data, Dir, Root}
use Rattle.fo_image.specs.declared.types.Pointer.TheVariants.{Nil, Local}
use Rattle.fo_crash.specs.declared.slot.Slot.{Slot}
use Rattle.fo_crash.specs.declared.slot.Slot.TheVariants.{Pointer as To, Entry as Head}
use Rattle.fo_crash.specs.Images.{Content, Image, target, SameContent, SameImage, with_slot, with_block}
use Rattle.fo_crash.specs.Steps.{AddsSlot, AddsBlock, PutsSlot, PutsBlock}
use Rattle.fo_crash.proofs.Updates.{slot_bytes, slot_other, slot_here, block_other, block_here}
use Rattle.fo_crash.proofs.Reach.{reaches_within}
use Rattle.fo_crash.proofs.Sure.{same_joins}
use Rattle.fo_ports.specs.Blocks.{no_entry, blank_slot}

pub slot_added : {old new : Image} {at i : ℕ} {s : Slot} {beside : Image → Type 0} → PutsSlot at i s old new → ((image : Image) → SameImage image new → beside image) → AddsSlot old at i s beside (λ image. SameImage image old) (λ image. SameImage image new)
slot_added {old} {new} {at} {i} {s} puts besides = record {
  each = λ image is. inr (
    (is.each at).slots i ∙ puts.here,
    record {
      each = λ b. record {
        bytes = slot_bytes image at i ((old at).slot i) b ∙ (is.each b).bytes ∙ puts.bytes b;
        slots = λ j. ⊎_elim
            (λ b_is. ⊎_elim
            (λ j_is. ap (λ x. (with_slot image at i ((old at).slot i) x).slot j) b_is ∙ ap (λ k. (with_slot image at i ((old at).slot i) at).slot k) j_is ∙ slot_here image at i ((old at).slot i) ∙ ap (λ k. (old at).slot k) (sym j_is) ∙ ap (λ x. (old x).slot j) (sym b_is))
            (λ ne. slot_other image at i ((old at).slot i) b j (inr ne) ∙ (is.each b).slots j ∙ puts.others b j (inr ne))
            (cases_eq j i))
            (λ ne. slot_other image at i ((old at).slot i) b j (inl ne) ∙ (is.each b).slots j ∙ puts.others b j (inl ne))
            (cases_eq b at);
      };
    },
    besides image is,
  );
}

-- A block to which no slot leads, and which is no top, is new.
pub block_added : {old new : Image} {at : ℕ} {c : Content} (tops : ℕ → Type 0) → PutsBlock at c old new → ((t : ℕ) → tops t → t ≢ at) → ((a i : ℕ) → target ((new a).slot i) ≢ Local at) → AddsBlock tops at c (λ image. SameImage image old) (λ image. SameImage image new)
block_added {old} {new} {at} {c} tops puts past within = record {
  apart = λ image is t is_top r. reaches_within (λ b. b ≢ at) image (λ a i b e same. within a i (ap target (sym ((is.each a).slots i)) ∙ e ∙ ap Local same)) (λ b e same. let is_t : Local t ≡ Local b = e in let t_is : t ≡ b = cc in past t is_top (t_is ∙ same)) r refl;
  holds = λ image is. same_joins (is.each at) puts.here;
  before = λ image is. (
    old at,
    record {
      each = λ b. ⊎_elim
          (λ b_is. subst (λ x. SameContent (with_block image at (old at) x) (old x)) (sym b_is) (here image))
          (λ ne. same_joins (record { bytes = ap (λ (k : Content). k.bytes) (block_other image at (old at) b ne); slots = λ i. ap (λ (k : Content). k.slot i) (block_other image at (old at) b ne) }) (same_joins (is.each b) (puts.others b ne)))
          (cases_eq b at);
    },
  );
}
  where
    here : (image : Image) → SameContent (with_block image at (old at) at) (old at)
    here image = record { bytes = ap (λ (k : Content). k.bytes) (block_here image at (old at)); slots = λ i. ap (λ (k : Content). k.slot i) (block_here image at (old at)) }

pub if_some : (o : Option ℕ) (P : ℕ → Type 0) → ((x : ℕ) → P x) → IfSome o P
if_some (Some x) P h = h x
if_some None P h = tt

-- slots of zeros lead nowhere
pub blank_nowhere : (kind : Kind) (i b : ℕ) → target (blank_slot kind i) ≢ Local b
blank_nowhere (Data level) i b = λ e. cc
blank_nowhere (Dir zero) i b = either (nat_lt i 204)
  where
    either : (t : Bool) → target (cond t (Head no_entry) (To Nil)) ≢ Local b
    either true = λ e. cc
    either false = λ e. cc
blank_nowhere (Dir (suc level)) i b = λ e. cc
blank_nowhere Root zero b = λ e. cc
blank_nowhere Root (suc zero) b = λ e. cc
blank_nowhere Root (suc (suc zero)) b = λ e. cc
blank_nowhere Root (suc (suc (suc i))) b = λ e. cc
