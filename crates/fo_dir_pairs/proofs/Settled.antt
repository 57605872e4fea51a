-- Where every image is what memory has, records have their pairs if memory's have.
use Rattle.std.proofs.Common.{inl, sym}
use Rattle.fo_crash.specs.Images.{Image, SameImage}
use Rattle.fo_crash.specs.Steps.{AddsNothing, AllAre}
use Rattle.fo_ports.specs.State.{State}
use Rattle.fo_alike.specs.Like.{IsLike}
use Rattle.fo_dir_put.proofs.Once.{found_on}
use Rattle.fo_dir_pairs.specs.Pairs.{IsPaired, PairsStand}
use Rattle.fo_dir_pairs.proofs.Entries.{use_same}
use Rattle.fo_dir_pairs.proofs.Finding.{named_on, pair_on}
use Rattle.fo_dir_pairs.proofs.Like.{paired_like, shows_from}

pub like_same : {image other : Image} → SameImage image other → IsLike image other
like_same {image} {other} same = record {
  records = record { each = λ p b of f. inl (b, found_on (λ a i. (same.each a).slots i) f, (same.each b).bytes) };
  from = record { each = λ p b of f. inl (b, found_on (λ a i. (same.each a).slots i) f, λ i. use_same ((image b).slot i) ((other b).slot i) ((same.each b).slots i)) };
  onto = record { each = λ p b of f. inl (b, found_on (λ a i. sym ((same.each a).slots i)) f, λ i. use_same ((other b).slot i) ((image b).slot i) (sym ((same.each b).slots i))) };
}

pub settled_stand : (s : State) → AllAre s.now s.may_leave → IsPaired s.now → PairsStand s
settled_stand s all paired = record {
  each = λ image is. paired_like (like_same (all.each image is)) paired;
  memory = λ image p r is shows first. paired.each p r (shows_from (like_same (all.each image is)) shows);
}

-- What is asked of all images may rest on one.
pub lazily : (s : State) → ((image : Image) → s.may_leave image → PairsStand s) → PairsStand s
lazily s stand = record {
  each = λ image is. (stand image is).each image is;
  memory = λ image p r is. (stand image is).memory image p r is;
}

-- no image was added, and memory is the same
pub still_stand : (old new : State) → AddsNothing old.may_leave new.may_leave → SameImage new.now old.now → PairsStand old → PairsStand new
still_stand old new adds same stand = record {
  each = λ image is. stand.each image (adds.each image is);
  memory = λ image p r is shows first. pair_on (λ a i. sym ((same.each a).slots i)) (stand.memory image p r (adds.each image is) shows (named_on (λ a i. (same.each a).slots i) first));
}
