-- What was noted falls, and keeps the rules of the walk.
use Rattle.std.proofs.Common.{◌≡◌, ◌≢◌, ◌⊎◌, ⊎_elim, inl, inr, ℕ, ◌<◌, ◌≤◌, Bool, true, false, leb, Option, Some, None, refl, sym, ap, ◌∙◌, subst, arith}
use Rattle.std.specs.Prelude.{if◌then◌else◌}
use borrow.Author.Tests.{leb-false}
use Rattle.std.proofs.lemmas.Bool.{cases_lt, false≢true}
use Rattle.fo_check_tree.specs.declared.broken.Broken.{Broken}
use Rattle.fo_check_tree.specs.Lower.{IsRule, lower, level}
use Rattle.fo_check_tree.specs.Notes.{NotesAt, NotesDeep, NotesLeaf, KeepsFormats, KeepsPairs, KeepsNumbers, KeepsRules, IsDeep, NotesFolders, Lowers}
use Rattle.fo_check_tree.specs.Notes.NotesDeep.{same as deep_same, deep as deep_deep}
use Rattle.fo_check_tree.specs.Slots.{unless}
use Rattle.fo_check_tree.specs.Notes.NotesAt.{same as note_same, format as note_format, deep as note_deep}

is_some : (x b : Broken) → Some x ≡ Some b → x ≡ b
is_some x b e = cc

other_rule : (rule block : ℕ) (b : Broken) → rule ≢ 7 → rule ≢ 9 → Some (record { rule = rule; block = block }) ≡ Some b → (b.rule ≡ 7) ⊎ (b.rule ≡ 9) → ⊥
other_rule rule block b isnt isnt' e r =
    let is : rule ≡ b.rule = ap (λ (x : Broken). x.rule) (is_some (record { rule = rule; block = block }) b e) in
    ⊎_elim (λ seven. isnt (is ∙ seven)) (λ nine. isnt' (is ∙ nine)) r

by_test : (t : Bool) (o : Broken) (rule block : ℕ) (b : Broken) → rule ≢ 7 → rule ≢ 9 → (if t then Some o else Some (record { rule = rule; block = block })) ≡ Some b → (b.rule ≡ 7) ⊎ (b.rule ≡ 9) → Some o ≡ Some b
by_test true o rule block b isnt isnt' e r = e
by_test false o rule block b isnt isnt' e r = absurd (other_rule rule block b isnt isnt' e r)

lower_some : (noted : Option Broken) (rule block : ℕ) (b : Broken) → rule ≢ 7 → rule ≢ 9 → lower noted rule block ≡ Some b → (b.rule ≡ 7) ⊎ (b.rule ≡ 9) → noted ≡ Some b
lower_some None rule block b isnt isnt' e r = absurd (other_rule rule block b isnt isnt' e r)
lower_some (Some o) rule block b isnt isnt' e r = by_test (leb o.rule rule) o rule block b isnt isnt' e r

by_rule : (t : Bool) (o : Broken) (rule block : ℕ) (b : Broken) → (if t then Some o else Some (record { rule = rule; block = block })) ≡ Some b → (Some o ≡ Some b) ⊎ ((rule ≡ b.rule) × (block ≡ b.block))
by_rule true o rule block b e = inl e
by_rule false o rule block b e = inr (ap (λ (x : Broken). x.rule) (is_some (record { rule = rule; block = block }) b e), ap (λ (x : Broken). x.block) (is_some (record { rule = rule; block = block }) b e))

-- What is noted stood there before, or is this.
pub lowered : (noted : Option Broken) (rule block : ℕ) (b : Broken) → lower noted rule block ≡ Some b → (noted ≡ Some b) ⊎ ((rule ≡ b.rule) × (block ≡ b.block))
lowered None rule block b e = inr (ap (λ (x : Broken). x.rule) (is_some (record { rule = rule; block = block }) b e), ap (λ (x : Broken). x.block) (is_some (record { rule = rule; block = block }) b e))
lowered (Some o) rule block b e = by_rule (leb o.rule rule) o rule block b e

pub lowers_same : (old new : Option Broken) → new ≡ old → Lowers old new
lowers_same old new is = record { rules = λ b e. inl (sym is ∙ e); low = subst (λ (o : Option Broken). level o ≤ level old) (sym is) (omega arith); same = λ b e r. sym is ∙ e }

pub lowers_then : (a b c : Option Broken) → Lowers a b → Lowers b c → Lowers a c
lowers_then a b c v w = record { rules = λ x e. ⊎_elim (λ (before : b ≡ Some x). v.rules x before) (λ (now : IsRule x.rule). inr now) (w.rules x e); low = omega (arith, v.low, w.low); same = λ x e r. v.same x (w.same x e r) r }

rule_now : (old new : Option Broken) (rule block : ℕ) → IsRule rule → new ≡ lower old rule block → (b : Broken) → new ≡ Some b → (old ≡ Some b) ⊎ IsRule b.rule
rule_now old new rule block fits is b e = ⊎_elim (λ (before : old ≡ Some b). inl before) (λ (now : (rule ≡ b.rule) × (block ≡ b.block)). inr (subst (λ (n : ℕ). IsRule n) now.0 fits)) (lowered old rule block b (sym is ∙ e))

rule_some : (rule block : ℕ) → IsRule rule → (old new : Option Broken) → new ≡ Some (record { rule = rule; block = block }) → (b : Broken) → new ≡ Some b → (old ≡ Some b) ⊎ IsRule b.rule
rule_some rule block fits old new is b e = inr (subst (λ (n : ℕ). IsRule n) (ap (λ (x : Broken). x.rule) (is_some (record { rule = rule; block = block }) b (sym is ∙ e))) fits)

pub lowers_lower : (old new : Option Broken) (rule block : ℕ) → IsRule rule → rule ≢ 7 → rule ≢ 9 → level new ≤ level old → new ≡ lower old rule block → Lowers old new
lowers_lower old new rule block fits isnt isnt' low is = record { rules = rule_now old new rule block fits is; low = low; same = λ b e r. lower_some old rule block b isnt isnt' (sym is ∙ e) r }

pub lowers_leaf : (old new : Option Broken) (rule : ℕ) (leaf : Option ℕ) → IsRule rule → rule ≢ 7 → rule ≢ 9 → level new ≤ level old → NotesLeaf rule leaf old new → Lowers old new
lowers_leaf old new rule None fits isnt isnt' low is = lowers_same old new is
lowers_leaf old new rule (Some block) fits isnt isnt' low is = lowers_lower old new rule block fits isnt isnt' low is

pub lowers_at : (block : ℕ) (old new : Option Broken) → level new ≤ level old → NotesAt block old new → Lowers old new
lowers_at block old new low (note_same is) = lowers_same old new is
lowers_at block old new low (note_format is) = record { rules = rule_some 5 block (omega arith, omega arith) old new is; low = low; same = λ b e r. absurd (other_rule 5 block b (λ h. omega (arith, h)) (λ h. omega (arith, h)) (sym is ∙ e) r) }
lowers_at block old new low (note_deep is) = record { rules = rule_some 8 block (omega arith, omega arith) old new is; low = low; same = λ b e r. absurd (other_rule 8 block b (λ h. omega (arith, h)) (λ h. omega (arith, h)) (sym is ∙ e) r) }

-- ---- rule 5

pub keeps_same : (old new : Option Broken) → new ≡ old → KeepsFormats old new
keeps_same old new is = record { same = λ b e five. sym is ∙ e }

pub keeps_then : (a b c : Option Broken) → KeepsFormats a b → KeepsFormats b c → KeepsFormats a c
keeps_then a b c v w = record { same = λ x e five. v.same x (w.same x e five) five }

other_five : (rule block : ℕ) (b : Broken) → rule ≢ 5 → Some (record { rule = rule; block = block }) ≡ Some b → b.rule ≡ 5 → ⊥
other_five rule block b isnt e five = isnt (ap (λ (x : Broken). x.rule) (is_some (record { rule = rule; block = block }) b e) ∙ five)

pub keeps_deep : (block : ℕ) (old new : Option Broken) → NotesDeep block old new → KeepsFormats old new
keeps_deep block old new (deep_same is) = keeps_same old new is
keeps_deep block old new (deep_deep is) = record { same = λ b e five. absurd (other_five 8 block b (λ h. omega (arith, h)) (sym is ∙ e) five) }

pub deep_at : (block : ℕ) (old new : Option Broken) → NotesDeep block old new → NotesAt block old new
deep_at block old new (deep_same is) = note_same is
deep_at block old new (deep_deep is) = note_deep is

pub keeps_zero : (t : Bool) → t ≡ true → (block : ℕ) (old new : Option Broken) → new ≡ unless t 5 block old → KeepsFormats old new
keeps_zero true same block old new is = keeps_same old new is
keeps_zero false same block old new is = absurd (false≢true same)

pub keeps_lower : (old new : Option Broken) (rule block : ℕ) → rule ≢ 5 → new ≡ lower old rule block → KeepsFormats old new
keeps_lower old new rule block isnt is = record { same = λ b e five. ⊎_elim (λ before. before) (λ now. absurd (isnt (now.0 ∙ five))) (lowered old rule block b (sym is ∙ e)) }

pub keeps_leaf : (old new : Option Broken) (rule : ℕ) (leaf : Option ℕ) → rule ≢ 5 → NotesLeaf rule leaf old new → KeepsFormats old new
keeps_leaf old new rule None isnt is = keeps_same old new is
keeps_leaf old new rule (Some block) isnt is = keeps_lower old new rule block isnt is

-- ---- rule 6

other_six : (rule block : ℕ) (b : Broken) → rule ≢ 6 → Some (record { rule = rule; block = block }) ≡ Some b → b.rule ≡ 6 → ⊥
other_six rule block b isnt e six = isnt (ap (λ (x : Broken). x.rule) (is_some (record { rule = rule; block = block }) b e) ∙ six)

is_above : (t : Bool) (o : Broken) (rule block : ℕ) → leb o.rule rule ≡ t → (b : Broken) → (if t then Some o else Some (record { rule = rule; block = block })) ≡ Some b → (Some o ≡ Some b) ⊎ ((rule < o.rule) × (rule ≡ b.rule) × (block ≡ b.block))
is_above true o rule block test b e = inl e
is_above false o rule block test b e = inr (leb-false o.rule rule test, ap (λ (x : Broken). x.rule) (is_some (record { rule = rule; block = block }) b e), ap (λ (x : Broken). x.block) (is_some (record { rule = rule; block = block }) b e))

-- What is noted stood there before, or is this, and a higher rule or none stood there.
pub lowered_from : (noted : Option Broken) (rule block : ℕ) → rule < 256 → (b : Broken) → lower noted rule block ≡ Some b → (noted ≡ Some b) ⊎ ((rule < level noted) × (rule ≡ b.rule) × (block ≡ b.block))
lowered_from None rule block fits b e = inr (fits, ap (λ (x : Broken). x.rule) (is_some (record { rule = rule; block = block }) b e), ap (λ (x : Broken). x.block) (is_some (record { rule = rule; block = block }) b e))
lowered_from (Some o) rule block fits b e = is_above (leb o.rule rule) o rule block refl b e

-- Where a rule no higher than this is noted, it stays.
pub pairs_low : (old new : Option Broken) (leaf : Option ℕ) → level old ≤ 6 → NotesLeaf 6 leaf old new → KeepsPairs old new
pairs_low old new None low is = record { same = λ b e six. sym is ∙ e }
pairs_low old new (Some block) low is = record { same = λ b e six. ⊎_elim (λ (before : old ≡ Some b). before) (λ (now : (6 < level old) × (6 ≡ b.rule) × (block ≡ b.block)). absurd (omega (arith, low, now.0))) (lowered_from old 6 block (omega arith) b (sym is ∙ e)) }

pub pairs_same : (old new : Option Broken) → new ≡ old → KeepsPairs old new
pairs_same old new is = record { same = λ b e six. sym is ∙ e }

pub pairs_then : (a b c : Option Broken) → KeepsPairs a b → KeepsPairs b c → KeepsPairs a c
pairs_then a b c v w = record { same = λ x e six. v.same x (w.same x e six) six }

pub pairs_lower : (old new : Option Broken) (rule block : ℕ) → rule ≢ 6 → new ≡ lower old rule block → KeepsPairs old new
pairs_lower old new rule block isnt is = record { same = λ b e six. ⊎_elim (λ before. before) (λ now. absurd (isnt (now.0 ∙ six))) (lowered old rule block b (sym is ∙ e)) }

pub pairs_leaf : (old new : Option Broken) (rule : ℕ) (leaf : Option ℕ) → rule ≢ 6 → NotesLeaf rule leaf old new → KeepsPairs old new
pairs_leaf old new rule None isnt is = pairs_same old new is
pairs_leaf old new rule (Some block) isnt is = pairs_lower old new rule block isnt is

pub pairs_at : (block : ℕ) (old new : Option Broken) → NotesAt block old new → KeepsPairs old new
pairs_at block old new (note_same is) = pairs_same old new is
pairs_at block old new (note_format is) = record { same = λ b e six. absurd (other_six 5 block b (λ h. omega (arith, h)) (sym is ∙ e) six) }
pairs_at block old new (note_deep is) = record { same = λ b e six. absurd (other_six 8 block b (λ h. omega (arith, h)) (sym is ∙ e) six) }

-- ---- rule 8

pub numbers_same : (old new : Option Broken) → new ≡ old → KeepsNumbers old new
numbers_same old new is = record { same = λ b e eight. sym is ∙ e }

pub numbers_then : (a b c : Option Broken) → KeepsNumbers a b → KeepsNumbers b c → KeepsNumbers a c
numbers_then a b c v w = record { same = λ x e eight. v.same x (w.same x e eight) eight }

pub numbers_lower : (old new : Option Broken) (rule block : ℕ) → rule ≢ 8 → new ≡ lower old rule block → KeepsNumbers old new
numbers_lower old new rule block isnt is = record { same = λ b e eight. ⊎_elim (λ before. before) (λ now. absurd (isnt (now.0 ∙ eight))) (lowered old rule block b (sym is ∙ e)) }

pub numbers_leaf : (old new : Option Broken) (rule : ℕ) (leaf : Option ℕ) → rule ≢ 8 → NotesLeaf rule leaf old new → KeepsNumbers old new
numbers_leaf old new rule None isnt is = numbers_same old new is
numbers_leaf old new rule (Some block) isnt is = numbers_lower old new rule block isnt is

pub numbers_unless : (t : Bool) (block : ℕ) (old new : Option Broken) → new ≡ unless t 5 block old → KeepsNumbers old new
numbers_unless true block old new is = numbers_same old new is
numbers_unless false block old new is = numbers_lower old new 5 block (λ e. absurd (omega (arith, e))) is

pub folders_kept : {P : Type 0} (deep block : ℕ) (old new : Option Broken) → KeepsNumbers old new → NotesFolders P deep block old new
folders_kept deep block old new v = record { each = λ b e eight. inl (v.same b e eight) }

pub folders_by_other : {P Q : Type 0} (deep block : ℕ) (old new : Option Broken) → (P → Q) → NotesFolders P deep block old new → NotesFolders Q deep block old new
folders_by_other {P} {Q} deep block old new f v = record {
  each = λ b e eight. ⊎_elim (λ (before : old ≡ Some b). inl before) (λ (d : IsDeep P deep block old b). inr (record { above = d.above; low = d.low; here = d.here; folder = f d.folder })) (v.each b e eight);
}

pub folders_then : {P : Type 0} (deep block : ℕ) (a b c : Option Broken) → level b ≤ level a → NotesFolders P deep block a b → NotesFolders P deep block b c → NotesFolders P deep block a c
folders_then {P} deep block a b c low v w = record {
  each = λ x e eight. ⊎_elim (λ (before : b ≡ Some x). v.each x before eight) (λ (d : IsDeep P deep block b x). inr (record { above = omega (arith, d.above, low); low = d.low; here = d.here; folder = d.folder })) (w.each x e eight);
}

-- What is noted of one entry.
pub folders_entry : (t : Bool) (deep block : ℕ) (old new : Option Broken) → (t ≡ true → 64 < deep → new ≡ lower old 8 block) → (deep ≤ 64 → new ≡ old) → (t ≡ false → new ≡ old) → NotesFolders (t ≡ true) deep block old new
folders_entry false deep block old new one low other = folders_kept deep block old new (numbers_same old new (other refl))
folders_entry true deep block old new one low other = ⊎_elim
    (λ (less : 64 < deep). record {
      each = λ b e eight. ⊎_elim (λ (before : old ≡ Some b). inl before) (λ (now : (8 < level old) × (8 ≡ b.rule) × (block ≡ b.block)). inr (record { above = now.0; low = less; here = now.2; folder = refl })) (lowered_from old 8 block (omega arith) b (sym (one refl less) ∙ e));
    })
    (λ (le : deep ≤ 64). folders_kept deep block old new (numbers_same old new (low le)))
    (cases_lt 64 deep)

-- ---- the rules of trees

pub rules_same : (old new : Option Broken) → new ≡ old → KeepsRules old new
rules_same old new is = record { each = λ b e. inl (sym is ∙ e) }

pub rules_then : (a b c : Option Broken) → KeepsRules a b → KeepsRules b c → KeepsRules a c
rules_then a b c v w = record { each = λ x e. ⊎_elim (λ (before : b ≡ Some x). v.each x before) (λ (now : IsRule x.rule). inr now) (w.each x e) }

pub rules_lower : (old new : Option Broken) (rule block : ℕ) → IsRule rule → new ≡ lower old rule block → KeepsRules old new
rules_lower old new rule block fits is = record { each = rule_now old new rule block fits is }

pub rules_leaf : (old new : Option Broken) (rule : ℕ) (leaf : Option ℕ) → IsRule rule → NotesLeaf rule leaf old new → KeepsRules old new
rules_leaf old new rule None fits is = rules_same old new is
rules_leaf old new rule (Some block) fits is = rules_lower old new rule block fits is

pub rules_at : (block : ℕ) (old new : Option Broken) → NotesAt block old new → KeepsRules old new
rules_at block old new (note_same is) = rules_same old new is
rules_at block old new (note_format is) = record { each = rule_some 5 block (omega arith, omega arith) old new is }
rules_at block old new (note_deep is) = record { each = rule_some 8 block (omega arith, omega arith) old new is }

pub rules_by : (old new : Option Broken) → Lowers old new → KeepsRules old new
rules_by old new w = record { each = w.rules }
