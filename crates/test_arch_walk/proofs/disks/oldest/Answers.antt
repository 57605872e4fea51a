use Rattle.std.proofs.Common.{ℕ, ◌<◌, length, sym, subst}
use Rattle.std.proofs.lemmas.List.{get_or-replicate}
use Rattle.fo_disk.specs.Disk.{versions_of}
use Rattle.fo_disk.specs.Memory.{holds_of}
use Rattle.test_arch_walk.proofs.Quieting.{made_quiet, some_version}
use Rattle.test_arch_walk.proofs.disks.oldest.Goals as goal

pub image-requires-clause-versions : goal.image-requires-clause-versions
image-requires-clause-versions c = λ k lt. subst (λ (n : ℕ). n < length (versions_of (holds_of c.args.disk.now) k)) (sym (get_or-replicate 64 k 0 0 lt)) (some_version c.args.disk.now 64 k c.requires lt)

pub returns : goal.returns
returns c = made_quiet _ c.image.result c.image.ensures.holds
