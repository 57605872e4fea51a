-- What is made of the bytes of a root block, is made of what memory has of it.
use Rattle.std.proofs.Common.{◌≡◌, ⊎_elim, ℕ, ◌<◌, List, take, drop, sym, ap, subst, lit<, ◌∙◌, ◌≤◌}
use Rattle.fo_image.specs.declared.types.Entry.{Entry}
use Rattle.fo_image.specs.declared.types.Kind.TheVariants.{Root}
use Rattle.fo_image.specs.Format.{SpellsEntry}
use Rattle.fo_crash.specs.declared.slot.Slot.{Slot}
use Rattle.fo_crash.specs.declared.slot.Slot.TheVariants.{Pointer as To, Entry as Head, Prev}
use Rattle.fo_crash.specs.Images.{Content}
use Rattle.fo_ports.specs.Blocks.{IsEntry, SpellsSlot, Reads, ReadsSlots, slot_size, slot_count}
use Rattle.fo_slots.proofs.Meaning.{entry_meant}
use Rattle.fo_arch_form.specs.declared.stored.Stored.{Stored}
use Rattle.fo_arch_form.specs.declared.entries.Missing.{Missing}
use Rattle.fo_arch_form.specs.Root.{part_at, HasEntryFrom, MissesFrom, IsTop, IsRootForm, MissesOfRoot}
use Rattle.fo_arch_walk.specs.Entries.{NamesTop}
use Rattle.fo_arch_walk.specs.Forms.{IsTopForm}

-- the entry that is spelled from a place on is that of the slot
pub entry_from : (s : Slot) (from : ℕ) (bytes : List ℕ) → IsEntry s → SpellsSlot s (take (slot_size s) (drop from bytes)) → HasEntryFrom from bytes
entry_from (Head e) from bytes fits spelled = record { entry = e; spelled = spelled; shallow = fits.1 }
entry_from (To p) from bytes fits spelled = absurd fits
entry_from (Prev epoch at) from bytes fits spelled = absurd fits

head_is : (s : Slot) (from : ℕ) (bytes : List ℕ) (e : Entry) → IsEntry s → SpellsSlot s (take (slot_size s) (drop from bytes)) → SpellsEntry e (part_at bytes from) → s ≡ Head e
head_is (Head f) from bytes e fits spelled read = ap (λ (x : Entry). Head x) (sym (entry_meant f (part_at bytes from) spelled) ∙ entry_meant e (part_at bytes from) read)
head_is (To p) from bytes e fits spelled read = absurd fits
head_is (Prev epoch at) from bytes e fits spelled read = absurd fits

shallow_is : (s : Slot) (e : Entry) → IsEntry s → s ≡ Head e → e.depth ≤ 4
shallow_is s e fits is = (subst IsEntry is fits).1

-- a root block that was read
pub record RootRead (c : Content) (bytes : List ℕ) : Type 0 where
  pub reads : Reads Root c bytes
  pub slots : ReadsSlots Root c bytes

module _ {c : Content} {bytes : List ℕ} (r : RootRead c bytes) where
  pub first_from : HasEntryFrom 24 bytes
  first_from = entry_from (c.slot 0) 24 bytes (r.slots.fit 0 (lit< tt)) (r.slots.spelled 0 (lit< tt))

  pub second_from : HasEntryFrom 64 bytes
  second_from = entry_from (c.slot 1) 64 bytes (r.slots.fit 1 (lit< tt)) (r.slots.spelled 1 (lit< tt))

  first_is : (e : Entry) → SpellsEntry e (part_at bytes 24) → c.slot 0 ≡ Head e
  first_is e s = head_is (c.slot 0) 24 bytes e (r.slots.fit 0 (lit< tt)) (r.slots.spelled 0 (lit< tt)) s

  second_is : (e : Entry) → SpellsEntry e (part_at bytes 64) → c.slot 1 ≡ Head e
  second_is e s = head_is (c.slot 1) 64 bytes e (r.slots.fit 1 (lit< tt)) (r.slots.spelled 1 (lit< tt)) s

  pub formed_top : (done : Stored) (form : List ℕ) → IsRootForm done bytes form → IsTopForm done c form
  formed_top done form f = record {
    entries = f.entries;
    meta = f.meta;
    entries_are = record { entry = f.entries_are.entry; score = f.entries_are.score; slot_is = first_is f.entries_are.entry f.entries_are.spelled; stored = f.entries_are.stored; is = f.entries_are.is };
    meta_are = record { entry = f.meta_are.entry; score = f.meta_are.score; slot_is = second_is f.meta_are.entry f.meta_are.spelled; stored = f.meta_are.stored; is = f.meta_are.is };
    is = subst (λ (rest : List ℕ). IsTop f.entries f.meta (take 8088 rest) form) r.reads.behind f.is;
  }

  named : (done : Stored) (m : Missing) (i from : ℕ) → m.i ≡ i → i < 204 → IsEntry (c.slot i) → ((e : Entry) → SpellsEntry e (part_at bytes from) → c.slot i ≡ Head e) → MissesFrom done from bytes m.entry → NamesTop done c m
  named done m i from is lt fits means misses =
      let here : c.slot i ≡ Head m.entry = means m.entry misses.spelled in record {
        within = subst (λ (n : ℕ). n < 204) (sym is) lt;
        slot_is = ap (λ (n : ℕ). c.slot n) is ∙ here;
        shallow = shallow_is (c.slot i) m.entry fits here;
        at = misses.at;
        leads = misses.top;
        none = misses.none;
      }

  pub missing_head : (done : Stored) (m : Missing) → MissesOfRoot done bytes m → NamesTop done c m
  missing_head done m misses = ⊎_elim
      (λ first. named done m 0 24 first.0 (lit< tt) (r.slots.fit 0 (lit< tt)) first_is first.1)
      (λ second. named done m 1 64 second.0 (lit< tt) (r.slots.fit 1 (lit< tt)) second_is second.1)
      misses

-- it is one of both
pub root_within : (done : Stored) (bytes : List ℕ) (m : Missing) → MissesOfRoot done bytes m → m.i < slot_count Root
root_within done bytes m misses = ⊎_elim
    (λ first. subst (λ (n : ℕ). n < slot_count Root) (sym first.0) (lit< tt))
    (λ second. subst (λ (n : ℕ). n < slot_count Root) (sym second.0) (lit< tt))
    misses
