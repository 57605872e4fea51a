-- How often a device is called while its tree is checked.
use Rattle.std.specs.Prelude.{◌≡◌, ℕ, ◌+◌, ◌≤◌, length, Result, IfOk, MatchResult}
use Rattle.fo_image.specs.Place.{label_blocks}
use Rattle.fo_check_labels.specs.declared.error.TreeError.{TreeError}
use Rattle.fo_check_labels.specs.declared.labels.Labels.{Labels}
use Rattle.fo_check_tree.specs.declared.tree.Found.{Found}

-- A walk calls the device at most once for each block that it reaches. Where it fails, there were at most so many calls as blocks could
-- still be reached.
abbrev pub Spends : {T E : Type 0} → ℕ → ℕ → Labels → Labels → Result T E → Type 0
Spends before now old new result = MatchResult result (λ _. (now + new.left ≤ before + old.left) × (length new.known.items ≡ length old.known.items)) (λ _. now ≤ before + old.left)

-- The same of one block: it is read at most as often as it may still be reached, and that is at most once.
abbrev pub SpendsAt : {T E : Type 0} → ℕ → ℕ → ℕ → ℕ → Result T E → Type 0
SpendsAt before now old new result = MatchResult result (λ _. now + new ≤ before + old) (λ _. now ≤ before + old)

-- There are never more calls than blocks, and where there is a report at most one for each block of the label table and one for each
-- block that is used.
abbrev pub ReadsOnce : ℕ → ℕ → ℕ → Result Found TreeError → Type 0
ReadsOnce before now blocks result = (now ≤ before + blocks) × IfOk result (λ found. now ≤ before + label_blocks blocks + found.used)
