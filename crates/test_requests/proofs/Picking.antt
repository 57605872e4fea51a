-- Versions that are picked, of disks in memory.
use Rattle.std.proofs.Common.{◌≡◌, ⊎_elim, ℕ, ◌<◌, List, length, get_or, set, sym, ◌∙◌, subst, get_or-set_same, get_or-set_other, length-set}
use Rattle.std.specs.Prelude.{replicate}
use Rattle.std.proofs.lemmas.Bool.{cases_eq}
use Rattle.std.proofs.lemmas.List.{get_or-replicate, length-replicate}
use Rattle.fo_disk.specs.Disk.{Content, versions_of}
use Rattle.fo_disk.specs.Memory.{holds_of}
use Rattle.fo_disk.specs.declared.memory.MemDisk.{MemDisk}
use Rattle.test_requests.specs.Picks.{Picks}
use Rattle.test_requests.proofs.Quieting.{as_long, some_version}

pub oldest_picks : (m : MemDisk) (n : ℕ) → length m.cells.items ≡ n → Picks (replicate n 0) (holds_of m)
oldest_picks m n e = record {
  count = length-replicate n 0 ∙ sym (as_long m n e);
  each = λ k lt.
      let less = subst (λ (l : ℕ). k < l) (length-replicate n 0) lt in
      subst (λ (v : ℕ). v < length (versions_of (holds_of m) k)) (sym (get_or-replicate n k 0 0 less)) (some_version m n k e less);
}

pub newest_picks : (holds : Content) (picks : List ℕ) (at v : ℕ) → at < length picks → v < length (versions_of holds at) → Picks picks holds → Picks (set picks at v) holds
newest_picks holds picks at v within less p = record {
  count = length-set picks at v ∙ p.count;
  each = λ k lt. ⊎_elim
      (λ e. subst (λ (n : ℕ). get_or (set picks at v) n 0 < length (versions_of holds n)) (sym e)
      (subst (λ (x : ℕ). x < length (versions_of holds at)) (sym (get_or-set_same picks at v 0 within)) less))
      (λ ne. subst (λ (x : ℕ). x < length (versions_of holds k)) (sym (get_or-set_other picks at k v 0 ne)) (p.each k (subst (λ (l : ℕ). k < l) (length-set picks at v) lt)))
      (cases_eq k at);
}
