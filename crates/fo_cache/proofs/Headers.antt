-- Block 0 keeps its one version, since no call writes it.
use Rattle.std.proofs.Common.{◌≡◌, inl, inr, ℕ, ◌<◌, ◌≤◌, List, [], ◌∷◌, length, Result, ap, ◌∙◌, arith}
use Rattle.fo_disk.specs.Disk.{DiskState, IsSettled, IsSync, IsWrite, Versions, versions_of}
use Rattle.fo_disk.specs.declared.disk.Failed.{Failed}
use Rattle.fo_cache.specs.Settling.{Rested}
use Rattle.fo_cache.proofs.Labelling.{count_kept, versions_kept}
use Rattle.fo_cache.proofs.Trials.{count_synced, synced_rested}

one_rested : (old new : Versions) → Rested old new → length old ≡ 1 → length new ≡ 1
one_rested old new (inl e) one = ap length e ∙ one
one_rested (v ∷ []) new (inr e) one = ap length e
one_rested [] new (inr e) one = absurd (omega (arith, one))
one_rested (v ∷ w ∷ vs) new (inr e) one = absurd (omega (arith, one))

pub header_wrote : (s t : DiskState) (at : ℕ) {bytes : List ℕ} → 1 ≤ at → (r : Result Unit Failed) → IsWrite at bytes r s t → (0 < length s.holds → IsSettled s.holds 0) → 0 < length t.holds → IsSettled t.holds 0
header_wrote s t at some r w one lt =
    let n = count_kept r w in
    ap length (versions_kept r w 0 (λ e. absurd (omega (arith, e, some)))) ∙ one (omega (arith, n, lt))

pub header_synced : (s t : DiskState) (r : Result Unit Failed) → IsSync r s t → (0 < length s.holds → IsSettled s.holds 0) → 0 < length t.holds → IsSettled t.holds 0
header_synced s t r y one lt =
    let n = count_synced s t r y in
    one_rested (versions_of s.holds 0) (versions_of t.holds 0) (synced_rested s t r y 0) (one (omega (arith, n, lt)))
