-- The oldest versions, of disks in memory.
use Rattle.std.proofs.Common.{◌≡◌, ℕ, ◌<◌, List, length, get_or, sym, ◌∙◌, subst}
use Rattle.std.specs.Prelude.{replicate}
use Rattle.std.proofs.lemmas.List.{get_or-replicate, length-replicate}
use Rattle.fo_disk.specs.Disk.{Content, versions_of}
use Rattle.fo_disk.specs.Memory.{holds_of}
use Rattle.fo_disk.specs.declared.memory.MemDisk.{MemDisk}
use Rattle.many_names.specs.Picks.{Picks}
use Rattle.many_names.proofs.Quieting.{as_long, some_version}

pub oldest_picks : (m : MemDisk) (n : ℕ) → length m.cells.items ≡ n → Picks (replicate n 0) (holds_of m)
oldest_picks m n e = record {
  count = length-replicate n 0 ∙ sym (as_long m n e);
  each = λ k lt.
      let less = subst (λ (l : ℕ). k < l) (length-replicate n 0) lt in
      subst (λ (v : ℕ). v < length (versions_of (holds_of m) k)) (sym (get_or-replicate n k 0 0 less)) (some_version m n k e less);
}

pub oldest_of : (m : MemDisk) (n : ℕ) (picks : List ℕ) → picks ≡ replicate n 0 → length m.cells.items ≡ n → Picks picks (holds_of m)
oldest_of m n picks p e = subst (λ (l : List ℕ). Picks l (holds_of m)) (sym p) (oldest_picks m n e)
