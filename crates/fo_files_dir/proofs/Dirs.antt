-- A pair of entries stays where it stands.
use Rattle.std.proofs.Common.{◌≡◌, ◌+◌, ℕ, sym, ap, subst, ◌∙◌}
use Rattle.fo_tree_open.specs.of_image.declared.types.Label.{Label}
use Rattle.fo_tree_open.specs.of_ports.State.{State, KeepsAll}
use Rattle.fo_tree_open.specs.of_ports.Sources.{Made, StaysMarked}
use Rattle.fo_tree_open.specs.Open.{HasEntry}
use Rattle.fo_files_dir.specs.declared.dir.DirAt.{DirAt}
use Rattle.fo_files_dir.specs.declared.dir.FileAt.{FileAt}
use Rattle.fo_files_dir.specs.Dir.{IsPairAt, IsDirAt, IsFileAt}

-- a pair stays where its block keeps its label and stays pinned
pub pair_keeps : (s u : State) (at j : ℕ) → KeepsAll s u → u.label at ≡ s.label at → (s.pinned at → u.pinned at) → IsPairAt s at j → IsPairAt u at j
pair_keeps s u at j all same pinned is = record {
  is_one = (all.same_blocks at).1 is.is_one;
  is_pinned = pinned is.is_pinned;
  live = ap (λ (l : Label). l.state) same ∙ is.live;
  current = ap (λ (l : Label). l.epoch) same ∙ is.current ∙ sym all.same_high;
  first = subst (λ (l : Label). HasEntry l.kind j) (sym same) is.first;
  second = subst (λ (l : Label). HasEntry l.kind (j + 1)) (sym same) is.second;
}

-- so it does where all stays but what is given out
pub pair_stays : (s u : State) (at j : ℕ) → KeepsAll s u → ((b : ℕ) → (Made s u b → ⊥) → StaysMarked s u b) → IsPairAt s at j → IsPairAt u at j
pair_stays s u at j all others is = let same = others at (λ made. made.0 is.live) in pair_keeps s u at j all same.label same.marks.0 is

pub dir_stays : (s u : State) (d : DirAt) → KeepsAll s u → ((b : ℕ) → (Made s u b → ⊥) → StaysMarked s u b) → IsDirAt s d → IsDirAt u d
dir_stays s u d all others is = record { pair = pair_stays s u d.at d.slot all others is.pair; ranked = is.ranked; least = is.least; most = is.most }

pub file_stays : (s u : State) (f : FileAt) → KeepsAll s u → ((b : ℕ) → (Made s u b → ⊥) → StaysMarked s u b) → IsFileAt s f → IsFileAt u f
file_stays s u f all others is = record { pair = pair_stays s u f.at f.slot all others is.pair; ranked = is.ranked; most = is.most }
