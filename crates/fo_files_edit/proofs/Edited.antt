-- The record of a file after a change.
use Rattle.std.proofs.Common.{◌≡◌, ℕ, Bool, true, false, List, Option, Some, None, refl, ◌∙◌}
use Rattle.std.specs.Prelude.{IfSome}
use Rattle.fo_image.specs.declared.record.Record.{Record}
use Rattle.fo_image.specs.Record.{RecordHolds}
use Rattle.fo_world.specs.declared.place.Change.{Change}
use Rattle.fo_world.specs.Limits.{IsName, IsUser}
use Rattle.fo_files_into.proofs.of_files_along.Ways.{touched_holds}
use Rattle.fo_files_edit.specs.Fields.{with_mode, with_mtime, with_gid, with_name, with_length, touched_file, edited}

mode_holds : (mode : Option ℕ) (r : Record) → RecordHolds r → RecordHolds (with_mode mode r)
mode_holds None r h = h
mode_holds (Some mode) r h = record { name_is = h.name_is; uid_is = h.uid_is; gid_is = h.gid_is; muid_is = h.muid_is }

mtime_holds : (mtime : Option ℕ) (r : Record) → RecordHolds r → RecordHolds (with_mtime mtime r)
mtime_holds None r h = h
mtime_holds (Some mtime) r h = record { name_is = h.name_is; uid_is = h.uid_is; gid_is = h.gid_is; muid_is = h.muid_is }

gid_holds : (gid : Option (List ℕ)) (r : Record) → IfSome gid IsUser → RecordHolds r → RecordHolds (with_gid gid r)
gid_holds None r is h = h
gid_holds (Some gid) r is h = record { name_is = h.name_is; uid_is = h.uid_is; gid_is = record { some = is.some; within = is.short; is_text = is.text }; muid_is = h.muid_is }

name_holds : (name : Option (List ℕ)) (r : Record) → IfSome name IsName → RecordHolds r → RecordHolds (with_name name r)
name_holds None r is h = h
name_holds (Some name) r is h = record { name_is = record { some = is.some; within = is.short; is_text = is.text }; uid_is = h.uid_is; gid_is = h.gid_is; muid_is = h.muid_is }

file_touched : (dir : Bool) (who : List ℕ) (now : ℕ) (r : Record) → IsUser who → RecordHolds r → RecordHolds (touched_file dir who now r)
file_touched true who now r is h = h
file_touched false who now r is h = touched_holds who now r is h

length_holds : (given : Option ℕ) (dir : Bool) (who : List ℕ) (now : ℕ) (r : Record) → IsUser who → RecordHolds r → RecordHolds (with_length given dir who now r)
length_holds None dir who now r is h = h
length_holds (Some n) dir who now r is h = file_touched dir who now r is h

-- a record after all that is given holds
pub edited_holds : (what : Change) (dir : Bool) (who : List ℕ) (now : ℕ) (r : Record) → IfSome what.name IsName → IfSome what.gid IsUser → IsUser who → RecordHolds r → RecordHolds (edited what dir who now r)
edited_holds what dir who now r name gid is h =
    let a = with_length what.length dir who now r in
    let b = with_gid what.gid a in
    let c = with_name what.name b in
    mtime_holds what.mtime (with_mode what.mode c) (mode_holds what.mode c (name_holds what.name b name (gid_holds what.gid a gid (length_holds what.length dir who now r is h))))

-- ---- it is of the same file

mode_number : (mode : Option ℕ) (r : Record) → (with_mode mode r).number ≡ r.number
mode_number None r = refl
mode_number (Some mode) r = refl

mtime_number : (mtime : Option ℕ) (r : Record) → (with_mtime mtime r).number ≡ r.number
mtime_number None r = refl
mtime_number (Some mtime) r = refl

gid_number : (gid : Option (List ℕ)) (r : Record) → (with_gid gid r).number ≡ r.number
gid_number None r = refl
gid_number (Some gid) r = refl

name_number : (name : Option (List ℕ)) (r : Record) → (with_name name r).number ≡ r.number
name_number None r = refl
name_number (Some name) r = refl

touched_number : (dir : Bool) (who : List ℕ) (now : ℕ) (r : Record) → (touched_file dir who now r).number ≡ r.number
touched_number true who now r = refl
touched_number false who now r = refl

length_number : (given : Option ℕ) (dir : Bool) (who : List ℕ) (now : ℕ) (r : Record) → (with_length given dir who now r).number ≡ r.number
length_number None dir who now r = refl
length_number (Some n) dir who now r = touched_number dir who now r

pub edited_number : (what : Change) (dir : Bool) (who : List ℕ) (now : ℕ) (r : Record) → (edited what dir who now r).number ≡ r.number
edited_number what dir who now r =
    let a = with_length what.length dir who now r in
    let b = with_gid what.gid a in
    let c = with_name what.name b in
    mtime_number what.mtime (with_mode what.mode c) ∙ mode_number what.mode c ∙ name_number what.name b ∙ gid_number what.gid a ∙ length_number what.length dir who now r
