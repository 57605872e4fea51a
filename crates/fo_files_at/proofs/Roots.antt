-- The two entries of a root block.
use Rattle.std.proofs.Common.{◌≡◌, ◌<◌, ℕ, List, take, drop, sym, ap, subst, ◌∙◌, arith}
use Rattle.fo_image.specs.declared.types.Entry.{Entry}
use Rattle.fo_image.specs.declared.types.Kind.TheVariants.{Root}
use Rattle.fo_image.specs.declared.types.Pointer.TheVariants.{Local}
use Rattle.fo_image.specs.Format.{SpellsEntry}
use Rattle.fo_ports.specs.of_crash.declared.slot.Slot.{Slot}
use Rattle.fo_ports.specs.of_crash.declared.slot.Slot.TheVariants.{Pointer as To, Entry as Head, Prev}
use Rattle.fo_ports.specs.of_crash.Images.{target}
use Rattle.fo_ports.specs.Blocks.{IsEntry, ReadsSlots, SpellsSlot, slot_count, slot_size}
use Rattle.fo_ports.specs.State.{State}
use Rattle.fo_dir_read.specs.Pairs.{LeadsWithin}

entry_is : (q : Slot) (bytes : List ℕ) (e : Entry) → IsEntry q → SpellsSlot q (take (slot_size q) bytes) → ((x : Entry) → SpellsEntry x (take 40 bytes) → e ≡ x) → q ≡ Head e
entry_is (Head x) bytes e fits spells reads = ap Head (sym (reads x spells))
entry_is (To p) bytes e fits spells reads = absurd fits
entry_is (Prev epoch at) bytes e fits spells reads = absurd fits

leads : (s : State) (b i : ℕ) (e : Entry) → i < slot_count Root → (s.now b).slot i ≡ Head e → IsEntry ((s.now b).slot i) → ((j below : ℕ) → j < slot_count Root → target ((s.now b).slot j) ≡ Local below → s.is_block below) → LeadsWithin s e
leads s b i e few is fits names = record {
  few = (subst (λ q. IsEntry q) is fits).1;
  block = λ below to. names i below few (ap target is ∙ to);
}

-- the entries that a root block has, as they were read, lead to data blocks
pub first_leads : (s : State) (b : ℕ) (e : Entry) (bytes : List ℕ) → ReadsSlots Root (s.now b) bytes → ((j below : ℕ) → j < slot_count Root → target ((s.now b).slot j) ≡ Local below → s.is_block below)
    → ((x : Entry) → SpellsEntry x (take 40 (drop 24 bytes)) → e ≡ x) → LeadsWithin s e
first_leads s b e bytes reads names is = leads s b 0 e (omega arith) (entry_is ((s.now b).slot 0) (drop 24 bytes) e (reads.fit 0 (omega arith)) (reads.spelled 0 (omega arith)) is) (reads.fit 0 (omega arith)) names

pub second_leads : (s : State) (b : ℕ) (e : Entry) (bytes : List ℕ) → ReadsSlots Root (s.now b) bytes → ((j below : ℕ) → j < slot_count Root → target ((s.now b).slot j) ≡ Local below → s.is_block below)
    → ((x : Entry) → SpellsEntry x (take 40 (drop 64 bytes)) → e ≡ x) → LeadsWithin s e
second_leads s b e bytes reads names is = leads s b 1 e (omega arith) (entry_is ((s.now b).slot 1) (drop 64 bytes) e (reads.fit 1 (omega arith)) (reads.spelled 1 (omega arith)) is) (reads.fit 1 (omega arith)) names
