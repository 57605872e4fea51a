-- The rule that is noted only falls.
use Rattle.std.proofs.Common.{◌≡◌, ℕ, ◌^◌, ◌<◌, ◌≤◌, Bool, true, false, leb, Option, Some, None, refl, arith}
use borrow.Author.Tests.{leb-true, leb-false}
use Rattle.std.specs.Prelude.{if◌then◌else◌}
use Rattle.fo_image.specs.declared.record.RootBlock.{RootBlock}
use Rattle.fo_check_tree.specs.declared.broken.Broken.{Broken}
use Rattle.fo_check_tree.specs.Lower.{lower, level, JudgesRoot}

by_test : (b : Broken) (rule block : ℕ) (t : Bool) → leb b.rule rule ≡ t → (level (if t then Some b else Some (record { rule = rule; block = block })) ≤ b.rule) × (level (if t then Some b else Some (record { rule = rule; block = block })) ≤ rule)
by_test b rule block true e = (omega arith, leb-true b.rule rule e)
by_test b rule block false e = let less = leb-false b.rule rule e in (omega arith, omega arith)

pub level-lower : (noted : Option Broken) (rule block : ℕ) → rule < 2 ^ 8 → (level (lower noted rule block) ≤ level noted) × (level (lower noted rule block) ≤ rule)
level-lower None rule block fits = (omega arith, omega arith)
level-lower (Some b) rule block fits = by_test b rule block (leb b.rule rule) refl

pub judges_later : {root : RootBlock} {old new : Option Broken} → level new ≤ level old → JudgesRoot root old → JudgesRoot root new
judges_later {root} {old} {new} less j = record {
  first = λ deep. let low = j.first deep in omega arith;
  second = λ deep. let low = j.second deep in omega arith;
  entries = λ quiet. j.entries (omega arith);
}
