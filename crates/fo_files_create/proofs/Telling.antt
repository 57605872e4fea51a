-- What is told of a new file.
use Rattle.std.proofs.Common.{◌≡◌, ℕ, Bool, true, false, if◌then◌else◌, List, [], refl, sym}
use Rattle.fo_image.specs.declared.record.Record.{Record}
use Rattle.fo_image.specs.Record.{RecordHolds}
use Rattle.fo_world.specs.declared.place.Place.{Place}
use Rattle.fo_world.specs.declared.place.View.{View}
use Rattle.fo_world.specs.declared.place.View.TheVariants.{Active, Snap, Archive, Dated}
use Rattle.fo_world.specs.Step.{below, info_of, is_active, is_dir_mode, new_body, new_node, path_of}
use Rattle.fo_world.specs.declared.tree.Body.TheVariants.{File, Dir}
use Rattle.fo_world.specs.Names.{no_names}
use Rattle.fo_world.specs.Tree.{length_of}
use Rattle.fo_files_new.specs.of_dir_add.Adds.{IsNumbered}
use Rattle.fo_files_create_look.specs.Named.{new_record}
use Rattle.fo_files_create.specs.Create.{numbered, told_of}

-- pair and generation aren't told
pub told_same : (place : Place) (old new : Record) (slot generation : ℕ) → IsNumbered old slot generation new → told_of place new ≡ told_of place old
told_same place old new slot generation is = λ k. record {
  place = place;
  name = is.same_name k;
  path = is.same_number k;
  vers = is.same_vers k;
  mode = is.same_mode k;
  atime = is.same_times.0 k;
  mtime = is.same_times.1 k;
  length = 0;
  uid = is.same_users.0 k;
  gid = is.same_users.1 k;
  muid = is.same_users.2 k;
}

path_is : (view : View) (number : ℕ) → is_active view ≡ true → path_of view number ≡ number
path_is Active number is = refl
path_is (Snap e) number is = let h : false ≡ true = is in cc
path_is (Archive e) number is = let h : false ≡ true = is in cc
path_is (Dated archive year monthday) number is = let h : false ≡ true = is in cc

no_bytes : (mode : ℕ) → length_of (new_body mode) ≡ 0
no_bytes mode = by (is_dir_mode mode)
  where
    by : (b : Bool) → length_of (if b then Dir no_names else File []) ≡ 0
    by true = refl
    by false = refl

-- what is told is what the file step says
pub told_is : (at : Place) (number : ℕ) (name : List ℕ) (mode : ℕ) (who uid gid : List ℕ) (now : ℕ) → is_active at.view ≡ true
    → told_of (below at number) (numbered number (new_record name mode who uid gid now)) ≡ info_of (below at number) (name, new_node number mode who uid gid now)
told_is at number name mode who uid gid now active = λ k. record {
  place = below at number;
  name = name;
  path = sym (path_is at.view number active) k;
  vers = 0;
  mode = mode;
  atime = now;
  mtime = now;
  length = sym (no_bytes mode) k;
  uid = uid;
  gid = gid;
  muid = who;
}

-- a record with its number holds
pub number_holds : (number : ℕ) (r : Record) → RecordHolds r → RecordHolds (numbered number r)
number_holds number r holds = record { name_is = holds.name_is; uid_is = holds.uid_is; gid_is = holds.gid_is; muid_is = holds.muid_is }
