-- What is made of the bytes of a leaf of entries, is made of what memory has of it.
use Rattle.std.proofs.Common.{◌≡◌, ℕ, ◌*◌, ◌<◌, List, length, take, drop, sym, ◌∙◌, ap}
use Rattle.fo_image.specs.declared.types.Entry.{Entry}
use Rattle.fo_image.specs.declared.types.Kind.TheVariants.{Dir}
use Rattle.fo_image.specs.Format.{SpellsEntry}
use Rattle.fo_crash.specs.declared.slot.Slot.{Slot}
use Rattle.fo_crash.specs.declared.slot.Slot.TheVariants.{Pointer as To, Entry as Head, Prev}
use Rattle.fo_crash.specs.Images.{Content}
use Rattle.fo_ports.specs.Blocks.{IsEntry, SpellsSlot, Reads, ReadsSlots, slot_size}
use Rattle.fo_slots.proofs.Meaning.{entry_meant}
use Rattle.fo_arch_form.specs.declared.stored.Stored.{Stored}
use Rattle.fo_arch_form.specs.declared.entries.Missing.{Missing}
use Rattle.fo_arch_form.specs.Entries.{entry_at, HasEntry, MissesOneTop, HasArchivedAll}
use Rattle.fo_arch_walk.specs.Entries.{IsEntriesForm, NamesTop}

same_entry : (e f : Entry) (bytes : List ℕ) → SpellsEntry e bytes → SpellsEntry f bytes → e ≡ f
same_entry e f bytes se sf = sym (entry_meant e bytes se) ∙ entry_meant f bytes sf

has_entry : (s : Slot) (i : ℕ) (bytes : List ℕ) → IsEntry s → SpellsSlot s (take (slot_size s) (drop (40 * i) bytes)) → HasEntry i bytes
has_entry (Head e) i bytes fits spelled = record { entry = e; spelled = spelled; shallow = fits.1 }
has_entry (To p) i bytes fits spelled = absurd fits
has_entry (Prev epoch at) i bytes fits spelled = absurd fits

pub slot_has : (s : Slot) (i : ℕ) (bytes : List ℕ) (e : Entry) → IsEntry s → SpellsSlot s (take (slot_size s) (drop (40 * i) bytes)) → SpellsEntry e (entry_at bytes i) → s ≡ Head e
slot_has (Head f) i bytes e fits spelled read = ap (λ (x : Entry). Head x) (same_entry f e (entry_at bytes i) spelled read)
slot_has (To p) i bytes e fits spelled read = absurd fits
slot_has (Prev epoch at) i bytes e fits spelled read = absurd fits

pub leaf_entries : (c : Content) (bytes : List ℕ) → ReadsSlots (Dir 0) c bytes → (i : ℕ) → i < 204 → HasEntry i bytes
leaf_entries c bytes slots i lt = has_entry (c.slot i) i bytes (slots.fit i lt) (slots.spelled i lt)

-- a leaf that was read
pub record LeafRead (c : Content) (bytes : List ℕ) : Type 0 where
  pub reads : Reads (Dir 0) c bytes
  pub slots : ReadsSlots (Dir 0) c bytes
  pub long : length bytes ≡ 8192

module _ {c : Content} {bytes : List ℕ} (r : LeafRead c bytes) where
  pub formed_entries : (done : Stored) (form : List ℕ) → HasArchivedAll done 204 bytes form → IsEntriesForm done c form
  formed_entries done form h = record {
    each = λ i lt.
        let s = h.each i lt in record {
          entry = s.entry;
          score = s.score;
          slot_is = slot_has (c.slot i) i bytes s.entry (r.slots.fit i lt) (r.slots.spelled i lt) s.was.spelled;
          stored = s.was.stored;
          here = s.here;
        };
    behind = h.behind ∙ r.reads.behind;
    length_is = h.length_is ∙ r.long;
  }

  pub missing_top : (done : Stored) (m : Missing) → MissesOneTop done bytes m → NamesTop done c m
  missing_top done m misses = record {
    within = misses.0;
    slot_is = slot_has (c.slot m.i) m.i bytes m.entry (r.slots.fit m.i misses.0) (r.slots.spelled m.i misses.0) misses.1.spelled;
    shallow = misses.1.shallow;
    at = misses.1.at;
    leads = misses.1.top;
    none = misses.1.none;
  }
