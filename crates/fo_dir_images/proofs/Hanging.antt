-- Leaves of a directory that are in place are there.
use Rattle.std.proofs.Common.{inl, inr, ⊎_elim, ℕ, List}
use Rattle.fo_crash.specs.Images.{Image, Arena, IsArena, Reaches, to_block}
use Rattle.fo_ports.specs.State.{State, IsDoomed}
use Rattle.fo_dir_put.specs.There.{IsThere}
use Rattle.fo_dir_put.proofs.Spared.{is_there}
use Rattle.fo_dir_images.specs.Leaves.{Side, Entries, Records, IsLeafOf}
use Rattle.fo_dir_images.specs.Whole.{IsInPlace, IsWholeDir}
use Rattle.fo_dir_images.proofs.Same.{HasLaws, leaf_found}

-- a leaf of memory hangs from block 1
leaf_hangs : {s : State} {arena : Arena} (side : Side) (n b : ℕ) (trail : List ℕ) → HasLaws s → IsArena arena → IsLeafOf side arena s.now s.root trail n b → Reaches s.now (to_block 1) b
leaf_hangs {s} {arena} side n b trail laws is leaf =
    let found = leaf_found {s = s} {arena = arena} {image = s.now} side s.root n b trail laws laws.now is laws.named leaf in
    record { path = found.on.path; leads = found.on.leads }

pub more_whole : (arena : Arena) (s : State) (good better : ℕ → Type 0) (count : ℕ) (trail leaves : List ℕ) → ((side : Side) (n b : ℕ) → IsLeafOf side arena s.now s.root trail n b → good b → better b) → IsWholeDir arena s good trail count leaves → IsWholeDir arena s better trail count leaves
more_whole arena s good better count trail leaves more whole = record {
  each = λ n lt. let leaf = whole.each n lt in (leaf.0, leaf.1, leaf.2, more Records n leaf.0 leaf.2 leaf.3);
  differ = whole.differ;
  paired = λ n m b lt leaf. ⊎_elim (λ p. inl (p.0, p.1, more Entries m p.0 p.1 p.2, p.3)) (λ none. inr none) (whole.paired n m b lt leaf);
}

pub leaf_there : (s : State) (arena : Arena) (side : Side) (n b : ℕ) (trail : List ℕ) → HasLaws s → IsArena arena
    → ((b : ℕ) → s.sealed b → (IsDoomed s b → ⊥) → Reaches s.now (to_block 1) b → (image : Image) → s.may_leave image → Reaches image (to_block 1) b)
    → IsLeafOf side arena s.now s.root trail n b → IsInPlace s b → IsThere s b
leaf_there s arena side n b trail laws is in_place leaf at = is_there s b laws.active laws.now.leaves laws.one_spot (in_place b at.sealed at.spared (leaf_hangs side n b trail laws is leaf))

pub whole_there : (arena : Arena) (s : State) (count : ℕ) (trail leaves : List ℕ) → HasLaws s → IsArena arena
    → ((b : ℕ) → s.sealed b → (IsDoomed s b → ⊥) → Reaches s.now (to_block 1) b → (image : Image) → s.may_leave image → Reaches image (to_block 1) b)
    → IsWholeDir arena s (IsInPlace s) trail count leaves → IsWholeDir arena s (IsThere s) trail count leaves
whole_there arena s count trail leaves laws is in_place whole = more_whole arena s (IsInPlace s) (IsThere s) count trail leaves
    (λ side n b leaf at. leaf_there s arena side n b trail laws is in_place leaf at)
    whole
