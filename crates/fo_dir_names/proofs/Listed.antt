-- Records of the directories to which names lead differ.
use Rattle.std.proofs.Common.{◌≡◌, List, length, sym, ◌∙◌, ℕ}
use Rattle.fo_crash.specs.Images.{Image, Arena, Link, to_block}
use Rattle.fo_crash.specs.Places.{super_place}
use Rattle.fo_good.specs.Trees.{IsDir}
use Rattle.fo_ports.specs.State.{State}
use Rattle.fo_dir_put.specs.Once.{StandOnce}
use Rattle.fo_dir_images.specs.Leaves.{Records}
use Rattle.fo_dir_images.proofs.Siding.{numbers, source_is, rooms_of, one_source as one_trail}
use Rattle.fo_dir_images.proofs.Same.{reads_dirs}
use Rattle.fo_dir_names.specs.Names.{IsPlainDir, NamesDiffer}
use Rattle.fo_dir_names.proofs.Ranks.{trail_shape}
use Rattle.fo_dir_names.proofs.Sources.{IsRanked, IsSource, one_source, two_sources}

-- the records of such a directory are a source
pub plain_source : {arena : Arena} {image : Image} {root : ℕ} {trail : List ℕ} {entries meta : Link} → (image 1).slot 0 ≡ to_block root
    → IsDir arena image root trail entries meta → IsPlainDir arena image root trail meta → IsSource arena image (numbers Records trail) meta
plain_source {arena} {image} {root} {trail} {entries} {meta} named dir plain = record {
  link = sym ((reads_dirs arena image root).each trail entries meta dir).1 ∙ source_is arena image root named Records trail;
  rooms = rooms_of arena image root named Records trail plain.way;
  pairs = length trail;
  shape = trail_shape trail;
  deep = plain.deep;
  of_data = plain.of_data;
  room = plain.room;
  unheld = plain.unheld;
}

pub names_stand : (s : State) → s.stands 1 super_place → ((image : Image) → s.may_leave image → IsRanked s image) → StandOnce s.may_leave → NamesDiffer s
names_stand s super_at ranked once = record {
  within = λ arena image root k j m n trail entries meta r q is may named dir plain l t clash. one_source {s = s} {arena = arena} {image = image} super_at (ranked image may) is root named may once (plain_source named dir plain) l t clash;
  between = λ arena image root k j m n trail way entries meta below beside r q is may named dir plain other plain' ne l t.
      two_sources {s = s} {arena = arena} {image = image} super_at (ranked image may) is root named may once (plain_source named dir plain) (plain_source named other plain') (λ e. ne (one_trail Records Records trail way e).1) l t;
}
