use Rattle.std.proofs.Common.{refl, sym, subst, arith}
use Rattle.std.specs.Prelude.{codes}
use Rattle.std.specs.Str.{is_utf8, chars}
use lib.Utf8.{encode}
use Rattle.fo_image.specs.Record.{IsTextWithin}
use Rattle.fo_ports_plain.proofs.plain.root_record.Goals as goal

root_name : IsTextWithin 255 (codes "/")
unfolding is_utf8 chars encode
root_name = record { some = omega arith; within = omega arith; is_text = refl }

adm_name : IsTextWithin 64 (codes "adm")
unfolding is_utf8 chars encode
adm_name = record { some = omega arith; within = omega arith; is_text = refl }

pub returns : goal.returns
returns c = record {
  holds = record {
    name_is = subst (IsTextWithin 255) (sym c.in_ok-copy_of.ensures) root_name;
    uid_is = subst (IsTextWithin 64) (sym c.in_ok-copy_of-2.ensures) adm_name;
    gid_is = subst (IsTextWithin 64) (sym c.in_ok-copy_of-3.ensures) adm_name;
    muid_is = subst (IsTextWithin 64) (sym c.in_ok-copy_of-4.ensures) adm_name;
  };
  name_is = c.in_ok-copy_of.ensures;
  number_is = refl;
  slot_is = refl;
  generation_is = refl;
}
