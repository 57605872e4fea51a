-- What is told of files on the wire (stat(5) and intro(5) of the Plan 9 manual).
use Rattle.std.specs.Prelude.{ℕ, ◌-◌, ◌/◌, ◌^◌, List, length, Bool, Option, Result}
use Rattle.nine_fields.specs.declared.qid.Qid.{Qid}
use Rattle.nine_wire.specs.declared.message.Reply.{Reply}
use Rattle.nine_wire.specs.Message.{reply_message, spelling}
use Rattle.nine_stat.specs.declared.stat.Stat.{Stat}
use Rattle.nine_stat.specs.Stat as stats
use Rattle.fo_users.specs.Rights.{has_bit}
use Rattle.fo_world.specs.declared.place.Info.{Info}
use Rattle.fo_world.specs.declared.place.Place.{Place}
use Rattle.fo_world.specs.World.{World}
use Rattle.fo_world.specs.Step as step
use Rattle.nine_fids.specs.declared.refusal.Refusal.{Refusal}
use Rattle.nine_fids.specs.Refusing.{looked}

-- how the files answer: for all views or for one tree, with files up to this size
pub record Files : Type 0 where
  pub whole : Bool
  pub largest : ℕ

abbrev pub served : Bool → ℕ → Files
served whole largest = record { whole = whole; largest = largest }

-- what is told of the file at a place
unfoldable pub info_at : Files → World → Place → Result Info Refusal
info_at e w at = looked (step.info e.whole w at)

-- of the directory above it
unfoldable pub parent_at : Files → World → Place → Result Info Refusal
parent_at e w at = looked (step.parent e.whole w at)

-- of the file with a name in it
unfoldable pub named_at : Files → World → Place → List ℕ → Result Info Refusal
named_at e w at name = looked (step.find e.whole w at name)

-- of the file in it with the least name above this one
unfoldable pub next_at : Files → World → Place → Option (List ℕ) → Result (Option Info) Refusal
next_at e w at after = looked (step.next_name e.whole w at after)

-- the bytes of it
unfoldable pub bytes_at : Files → World → Place → ℕ → ℕ → Result (List ℕ) Refusal
bytes_at e w at offset count = looked (step.read e.whole w at offset count)

-- The type of a qid is the top byte of the mode.
abbrev pub qid_of : Info → Qid
qid_of i = record { kind = i.mode / 2 ^ 24; vers = i.vers; path = i.path }

-- the stat record of a file; type and dev are 0
abbrev pub stat_of : Info → Stat
stat_of i = record { kind = 0; dev = 0; qid = qid_of i; mode = i.mode; atime = i.atime; mtime = i.mtime; length = i.length; name = i.name; uid = i.uid; gid = i.gid; muid = i.muid }

-- and its bytes
abbrev pub record_of : Info → List ℕ
record_of i = stats.spelling (stat_of i)

-- the length of a reply, which its tag doesn't change
abbrev pub reply_len : Reply → ℕ
reply_len r = length (spelling 0 (reply_message r))

-- the most bytes of one read or write: what a message holds beside 24 bytes (open(5))
abbrev pub iounit : ℕ → ℕ
iounit msize = msize - 24

-- ---- modes

-- DMDIR, DMAPPEND and DMEXCL
abbrev pub is_dir : ℕ → Bool
is_dir mode = step.is_dir_mode mode

abbrev pub appends : ℕ → Bool
appends mode = has_bit mode (2 ^ 30)

abbrev pub is_exclusive : ℕ → Bool
is_exclusive mode = has_bit mode (2 ^ 29)
