-- What is made of the bytes of a block, is made of what memory has of it.
use Rattle.std.proofs.Common.{◌≡◌, ℕ, zero, suc, ◌-◌, ◌*◌, ◌<◌, List, length, take, drop, refl, sym, ◌∙◌, subst, arith}
use Rattle.std.specs.Prelude.{Some, None}
use Rattle.fo_image.specs.declared.types.Kind.{Kind}
use Rattle.fo_image.specs.declared.types.Kind.TheVariants.{Data, Dir, Root}
use Rattle.fo_image.specs.declared.types.Pointer.{Pointer}
use Rattle.fo_image.specs.declared.types.Pointer.TheVariants.{Local}
use Rattle.fo_image.specs.Format.{kind_code}
use Rattle.fo_crash.specs.Images.{Content, target}
use Rattle.fo_ports.specs.Blocks.{IsInner, Reads, ReadsSlots, slots_to}
use Rattle.fo_tree_read.proofs.Slots.{slot_pointer}
use Rattle.fo_arch_form.specs.declared.stored.Stored.{Stored}
use Rattle.fo_arch_form.specs.Stored.{found, score_under}
use Rattle.fo_arch_form.specs.Pointers.{MissesOne, HasScores}
use Rattle.fo_arch_walk.proofs.Once.{once}
use Rattle.fo_arch_walk.specs.Pointers.{HasSlot, IsPointersForm, NamesMissing}

-- where the pointers of a block end
pub pointers_end : (kind : Kind) → IsInner kind → slots_to kind ≡ 8180
pointers_end (Data zero) inner = absurd (omega (arith, inner))
pointers_end (Data (suc level)) inner = refl
pointers_end (Dir zero) inner = absurd (omega (arith, inner))
pointers_end (Dir (suc level)) inner = refl
pointers_end Root inner = absurd inner

-- a block that was read
pub record WasRead (kind : Kind) (c : Content) (bytes : List ℕ) : Type 0 where
  pub inner : IsInner kind
  pub reads : Reads kind c bytes
  pub slots : ReadsSlots kind c bytes
  pub long : length bytes ≡ 8192

module _ {kind : Kind} {c : Content} {bytes : List ℕ} (r : WasRead kind c bytes) where
  pub formed : (done : Stored) (below : ℕ) (form : List ℕ) → below ≡ kind_code kind - 1 → HasScores done below 409 bytes form → IsPointersForm done kind c form
  formed done below form is h = record {
    each = λ i lt. subst (λ (n : ℕ). HasSlot done n c i form) is (slot i lt);
    behind = h.behind ∙ subst (λ (n : ℕ). drop n bytes ≡ drop n c.bytes) (pointers_end kind r.inner) r.reads.behind;
    length_is = h.length_is ∙ r.long;
  }
    where
      slot : (i : ℕ) → i < 409 → HasSlot done below c i form
      slot i lt =
          let s = h.each i lt in
          let named : s.was.pointer ≡ target (c.slot i) = slot_pointer kind r.inner c bytes i lt r.slots s.was.pointer (λ q sq. once q s.was.pointer (take 20 (drop (20 * i) bytes)) sq s.was.spelled) in record {
            score = s.score;
            stored = subst (λ (p : Pointer). score_under done below p ≡ Some s.score) named s.was.stored;
            here = s.here;
          }

  pub missing : (done : Stored) (below at : ℕ) → below ≡ kind_code kind - 1 → MissesOne done below bytes at → NamesMissing done kind c at
  missing done below at is m = record {
    i = m.0;
    within = m.1;
    leads = sym (slot_pointer kind r.inner c bytes m.0 m.1 r.slots (Local at) (λ q sq. once q (Local at) (take 20 (drop (20 * m.0) bytes)) sq m.2.spelled));
    none = subst (λ (n : ℕ). found done at n ≡ None) is m.2.none;
  }
