use Rattle.std.proofs.Common.{◌≡◌, ℕ, ◌+◌, ◌-◌, ◌*◌, ◌≤◌, List, refl, take, drop, sym, ◌∙◌, ap, subst, arith}
use Rattle.fo_image.specs.declared.types.Entry.{Entry}
use Rattle.fo_image.specs.Format.{SpellsEntry}
use Rattle.fo_check_names.specs.Pairs.{no_entry}
use Rattle.fo_check_tree.proofs.Slots.{as_slot}
use Rattle.fo_check_tree.proofs.folder.entry_at.Goals as goal

part : (i : ℕ) (block : List ℕ) → take (40 * i + 40 - 40 * i) (drop (40 * i) block) ≡ take 40 (drop (40 * i) block)
part i block = let width : 40 * i + 40 - 40 * i ≡ 40 = omega arith in ap (λ (n : ℕ). take n (drop (40 * i) block)) width

pub returns-in-Ok-clause-found : goal.returns-in-Ok-clause-found
returns-in-Ok-clause-found c e spelled low =
    let same : e ≡ c.in-Ok.entry = let only = c.in-Ok.ensures.only e (subst (SpellsEntry e) (sym (part c.args.i c.args.block.now)) spelled) in cc in
    c.shallow.ensures.entry (subst (λ (x : Entry). x.depth ≤ 4) same low) ∙ sym same

pub returns-in-Ok-clause-none : goal.returns-in-Ok-clause-none
returns-in-Ok-clause-none c deep =
    let less = deep c.in-Ok.entry (subst (SpellsEntry c.in-Ok.entry) (part c.args.i c.args.block.now) c.in-Ok.ensures.found) in
    (c.shallow.ensures.none less, c.shallow.ensures.deep less)

pub returns-in-Err-clause-found : goal.returns-in-Err-clause-found
returns-in-Err-clause-found c e spelled low = absurd (c.in-Err.ensures.refused.1 e (subst (SpellsEntry e) (sym (part c.args.i c.args.block.now)) spelled))

pub returns-in-Err-clause-none : goal.returns-in-Err-clause-none
returns-in-Err-clause-none c deep = (refl, c.note.ensures.at)

pub returns-in-Ok-clause-is : goal.returns-in-Ok-clause-is
returns-in-Ok-clause-is c c' h = as_slot c' c.args.block.now c.args.i c.shallow.result (returns-in-Ok-clause-found c) (λ deep. (returns-in-Ok-clause-none c deep).0) h

pub returns-in-Err-clause-is : goal.returns-in-Err-clause-is
returns-in-Err-clause-is c c' h = as_slot c' c.args.block.now c.args.i no_entry (returns-in-Err-clause-found c) (λ deep. (returns-in-Err-clause-none c deep).0) h

pub returns-in-Ok-clause-kept : goal.returns-in-Ok-clause-kept
returns-in-Ok-clause-kept c c' h =
    let same : h.entry ≡ c.in-Ok.entry = let only = c.in-Ok.ensures.only h.entry (subst (SpellsEntry h.entry) (sym (part c.args.i c.args.block.now)) h.spelled) in cc in
    c.shallow.ensures.quiet (subst (λ (x : Entry). x.depth ≤ 4) same h.shallow)

pub returns-in-Err-clause-kept : goal.returns-in-Err-clause-kept
returns-in-Err-clause-kept c c' h = absurd (c.in-Err.ensures.refused.1 h.entry (subst (SpellsEntry h.entry) (sym (part c.args.i c.args.block.now)) h.spelled))
