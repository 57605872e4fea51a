-- The lowest rule that was found to be broken.
use Rattle.std.specs.Prelude.{ℕ, ◌<◌, ◌≤◌, nat_le, Option, Some, None, if◌then◌else◌}
use Rattle.fo_image.specs.declared.record.RootBlock.{RootBlock}
use Rattle.fo_sound.specs.Sound.{HasRootEntries}
use Rattle.fo_check_tree.specs.declared.broken.Broken.{Broken}

-- Of what was noted and a rule that is broken at a block, the lower; of one rule what was noted first.
abbrev pub lower : Option Broken → ℕ → ℕ → Option Broken
lower None rule block = Some (record { rule = rule; block = block })
lower (Some b) rule block = if nat_le b.rule rule then Some b else Some (record { rule = rule; block = block })

-- The rules that a report may name; a tree that breaks rule 4 is refused.
abbrev pub IsRule : ℕ → Type 0
IsRule rule = (5 ≤ rule) × (rule ≤ 9)

-- the rule that is noted, or a number above all rules
abbrev pub level : Option Broken → ℕ
level None = 256
level (Some b) = b.rule

-- What the root block says by itself: a rule no higher than 5 is noted where an entry is of more than four levels, and one no higher than
-- 6 where the entries are not those of a root.
pub record JudgesRoot (root : RootBlock) (noted : Option Broken) : Type 0 where
  pub first : 4 < root.entries.depth → level noted ≤ 5
  pub second : 4 < root.meta.depth → level noted ≤ 5
  pub entries : 6 < level noted → HasRootEntries root
