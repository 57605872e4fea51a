-- The root directory and its root block.
use Rattle.std.proofs.Common.{◌≢◌, ℕ, List, Option, Some, None, refl, arith}
use Rattle.std.specs.Prelude.{MatchOption, codes}
use Rattle.std.specs.Str.{is_utf8, chars}
use lib.Utf8.{encode}
use Rattle.fo_image.specs.declared.record.Record.{Record}
use Rattle.fo_image.specs.Record.{RecordHolds, RootRecordHolds, IsTextWithin}
use Rattle.fo_ports.specs.State.{State}
use Rattle.fo_files_into.specs.of_files_at.declared.at.Step.{Step}
use Rattle.fo_files_dir.specs.declared.dir.DirAt.{DirAt}
use Rattle.fo_files_dir.specs.Dir.{IsDirAt}
use Rattle.fo_files_record.specs.Leaf.{IsEntriesAt}
use Rattle.fo_files_record.specs.Own.{IsRootAt}
use Rattle.fo_files_into.specs.of_files_along.Along.{IsAboveOf}
use Rattle.fo_files_edit.specs.Edit.{as_root}

-- above the root directory there is none
pub root_stands : (s : State) (at : List ℕ) (steps : List Step) (b number : ℕ) (above : Option DirAt) → MatchOption above (IsRootAt s b) (λ a. IsDirAt s a × IsEntriesAt s b × (a.number ≢ number)) → IsAboveOf at steps 0 above → IsRootAt s b
root_stands s at steps b number None is none = is
root_stands s at steps b number (Some a) is one = let some = one.0 in absurd (omega (arith, some))

root_name : IsTextWithin 255 (codes "/")
unfolding is_utf8 chars encode
root_name = record { some = omega arith; within = omega arith; is_text = refl }

-- a record may stand in a root block
pub root_holds : (r : Record) → RecordHolds r → RootRecordHolds (as_root r)
root_holds r h = record {
  holds = record { name_is = root_name; uid_is = h.uid_is; gid_is = h.gid_is; muid_is = h.muid_is };
  name_is = refl;
  number_is = refl;
  slot_is = refl;
  generation_is = refl;
}
