use Rattle.std.proofs.Common.{◌≡◌, Bool, true, false, refl, sym, ap, subst, ◌∙◌, arith, Ok}
use Rattle.fo_image.specs.declared.types.Entry.{Entry}
use Rattle.fo_image.specs.declared.types.Pointer.TheVariants.{Nil}
use Rattle.fo_image.specs.Field.{zeros, number_at}
use Rattle.fo_image.specs.Format.{SpellsEntry, ActiveHolds, flag_bits}
use Rattle.fo_image.proofs.Offsets.{entry_at}
use Rattle.fo_image.proofs.Padding.{zeros-from_all}
use Rattle.fo_image.proofs.entries.read_entry.Goals as goal

abbrev no_entry : Entry
no_entry = record { generation = 0; active = false; dir = false; depth = 0; tag = 0; size = 0; top = Nil }

none_spelled : SpellsEntry no_entry (zeros 40)
unfolding zeros
none_spelled = record {
  holds = record { active_holds = (refl, refl, refl, refl, refl) };
  fit = (omega arith, (omega arith, (omega arith, (omega arith, (omega arith, (omega arith, (refl, tt)))))));
  bytes_are = refl;
}

is_none : (e : Entry) → (a : Bool) → e.active ≡ a → ActiveHolds a e → 0 ≡ flag_bits a e.dir → 0 ≡ e.generation → e ≡ no_entry
is_none e false a h flags generation = rw (a, h.0, h.1, h.2, h.3, h.4, sym generation) refl
is_none e true a h flags generation = absurd (by_dir e.dir flags)
  where
    by_dir : (d : Bool) → 0 ≡ flag_bits true d → ⊥
    by_dir false e = cc
    by_dir true e = cc

only_none : (e : Entry) → SpellsEntry e (zeros 40) → e ≡ no_entry
unfolding zeros number_at
only_none e s = let at = entry_at (zeros 40) e s in is_none e e.active refl s.holds.active_holds at.flags at.generation

pub returns-then-is_zero : goal.returns-then-is_zero
returns-then-is_zero c =
    let z : c.args.bytes.now ≡ zeros 40 = zeros-from_all c.args.bytes.now (sym c.is_zero.ensures ∙ c.if-is_zero.true) ∙ ap zeros c.requires in
    record {
      found = subst (SpellsEntry no_entry) (sym z) none_spelled;
      only = λ e s. ap Ok (sym (only_none e (subst (SpellsEntry e) z s)));
      refused = tt;
    }
