-- What is noted on the way: for a block by itself, and for a leaf.
use Rattle.std.specs.Prelude.{◌≡◌, ◌⊎◌, ℕ, ◌<◌, ◌≤◌, Option, Some, MatchOption}
use Rattle.fo_check_tree.specs.declared.broken.Broken.{Broken}
use Rattle.fo_check_tree.specs.Lower.{IsRule, lower, level}

-- Rule 5 or 8 is noted for the block, or nothing.
pub data NotesAt (block : ℕ) (old new : Option Broken) : Type 0 where
  same : new ≡ old → NotesAt block old new
  format : new ≡ Some (record { rule = 5; block = block }) → NotesAt block old new
  deep : new ≡ Some (record { rule = 8; block = block }) → NotesAt block old new

-- Rule 8 is noted for the block, or nothing.
pub data NotesDeep (block : ℕ) (old new : Option Broken) : Type 0 where
  same : new ≡ old → NotesDeep block old new
  deep : new ≡ Some (record { rule = 8; block = block }) → NotesDeep block old new

-- What is noted stood there before, or is one of the rules of trees.
pub record KeepsRules (old new : Option Broken) : Type 0 where
  pub each : (b : Broken) → new ≡ Some b → (old ≡ Some b) ⊎ IsRule b.rule

-- Rule 5 is noted only if it stood there before.
pub record KeepsFormats (old new : Option Broken) : Type 0 where
  pub same : (b : Broken) → new ≡ Some b → b.rule ≡ 5 → old ≡ Some b

-- The same of rule 6.
pub record KeepsPairs (old new : Option Broken) : Type 0 where
  pub same : (b : Broken) → new ≡ Some b → b.rule ≡ 6 → old ≡ Some b

-- The same of rule 8.
pub record KeepsNumbers (old new : Option Broken) : Type 0 where
  pub same : (b : Broken) → new ≡ Some b → b.rule ≡ 8 → old ≡ Some b

-- Rule 8 is noted for the block, with this depth, where this is so of its entries and a higher rule or none stood there.
pub record IsDeep (P : Type 0) (deep block : ℕ) (old : Option Broken) (b : Broken) : Type 0 where
  pub above : 8 < level old
  pub low : 64 < deep
  pub here : block ≡ b.block
  pub folder : P

pub record NotesFolders (P : Type 0) (deep block : ℕ) (old new : Option Broken) : Type 0 where
  pub each : (b : Broken) → new ≡ Some b → b.rule ≡ 8 → (old ≡ Some b) ⊎ IsDeep P deep block old b

-- The rule is noted for this leaf, if any.
abbrev pub NotesLeaf : ℕ → Option ℕ → Option Broken → Option Broken → Type 0
NotesLeaf rule leaf old new = MatchOption leaf (new ≡ old) (λ block. new ≡ lower old rule block)

-- What is noted is of no higher rule than before, and of a rule of the walk only if it stood there before. It is one of the rules of trees.
pub record Lowers (old new : Option Broken) : Type 0 where
  pub low : level new ≤ level old
  pub rules : (b : Broken) → new ≡ Some b → (old ≡ Some b) ⊎ IsRule b.rule
  pub same : (b : Broken) → new ≡ Some b → (b.rule ≡ 7) ⊎ (b.rule ≡ 9) → old ≡ Some b
