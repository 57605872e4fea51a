use Rattle.std.proofs.Common.{◌≡◌, ℕ, ◌^◌, ◌-◌, ◌+◌, drop, refl, sym, ap, ◌∙◌, subst, rules, arith}
use Rattle.fo_image.specs.declared.types.Kind.TheVariants.{Data, Dir}
use Rattle.std.specs.Prelude.{min, OnOk}
use Rattle.fo_image.specs.declared.types.Kind.{Kind}
use Rattle.fo_check_tree.specs.Follows.{Reads}
use Rattle.fo_sound.specs.Image.{is_zero}
use Rattle.fo_check_tree.specs.Notes.{NotesAt, KeepsFormats}
use Rattle.fo_check_tree.specs.Slots.{unless, HasSlots}
use Rattle.fo_check_tree.proofs.Adding.{data_adds, dir_adds, on_ok, notes_unless, data_reads, dir_reads, data_clean, dir_clean, entries_read, leaf_names, inner_names, dir_names, root_names, not_leaf_data, not_leaf_dir, not_leaf_root, leaf_seeks, inner_seeks, data_seeks, root_seeks, leaf_deepens, nothing_deepens, other_deepens, leaf_asks, nothing_asks, other_asks, leaf_heads, nothing_heads, other_heads, leaf_depths, same_depths, other_depths, rest_depths, not_entries_data, not_entries_dir, not_entries_root}
use Rattle.fo_check_tree.proofs.Noting.{keeps_same, numbers_same}
use Rattle.fo_good.specs.Means.{IsRead}
use Rattle.fo_check_tree.proofs.blocks.add_block.Goals as goal

pub returns-in-Data-clause-pushed : goal.returns-in-Data-clause-pushed
returns-in-Data-clause-pushed c c' = data_adds c.add_pointers.result c.args.step.now c.args.here c' c.args.block.now c.args.walk.now.steps.items c.add_pointers.new.walk.steps.items c.in-Data.level c.args.step.now.kind c.in-Data.is (grind (arith, c.in-Data.level-test)) (c.add_pointers.ensures.pushed c')

pub returns-in-Dir-clause-pushed : goal.returns-in-Dir-clause-pushed
returns-in-Dir-clause-pushed c c' = dir_adds c.add_pointers-in-Dir.result c.args.step.now c.args.here c' c.args.block.now c.args.walk.now.steps.items c.add_pointers-in-Dir.new.walk.steps.items c.in-Dir.level c.args.step.now.kind c.in-Dir.is (grind (arith, c.in-Dir.level-test)) (c.add_pointers-in-Dir.ensures.pushed c')

pub returns-in-Data-clause-notes : goal.returns-in-Data-clause-notes
returns-in-Data-clause-notes c =
    let rest = is_zero (drop 8180 c.args.block.now) in
    on_ok c.add_pointers.result (c.add_pointers.new.walk.noted ≡ unless rest 5 c.args.here.block c.args.walk.now.noted) (NotesAt c.args.here.block c.args.walk.now.noted c.add_pointers.new.walk.noted)
    (λ is. notes_unless rest c.args.here.block c.args.walk.now.noted c.add_pointers.new.walk.noted is) c.add_pointers.ensures.noted

pub returns-in-Dir-clause-notes : goal.returns-in-Dir-clause-notes
returns-in-Dir-clause-notes c =
    let rest = is_zero (drop 8180 c.args.block.now) in
    on_ok c.add_pointers-in-Dir.result (c.add_pointers-in-Dir.new.walk.noted ≡ unless rest 5 c.args.here.block c.args.walk.now.noted) (NotesAt c.args.here.block c.args.walk.now.noted c.add_pointers-in-Dir.new.walk.noted)
    (λ is. notes_unless rest c.args.here.block c.args.walk.now.noted c.add_pointers-in-Dir.new.walk.noted is) c.add_pointers-in-Dir.ensures.noted

pub returns-in-Data-clause-format : goal.returns-in-Data-clause-format
returns-in-Data-clause-format c c' = data_reads c.add_pointers.result c' c.args.block.now c.args.here.block c.args.walk.now.noted c.add_pointers.new.walk.noted c.in-Data.level c.args.step.now.kind c.in-Data.is (grind (arith, c.in-Data.level-test)) c.add_pointers.ensures.noted

pub returns-in-Dir-clause-format : goal.returns-in-Dir-clause-format
returns-in-Dir-clause-format c c' = dir_reads c.add_pointers-in-Dir.result c' c.args.block.now c.args.here.block c.args.walk.now.noted c.add_pointers-in-Dir.new.walk.noted c.in-Dir.level c.args.step.now.kind c.in-Dir.is (grind (arith, c.in-Dir.level-test)) c.add_pointers-in-Dir.ensures.noted

pub returns-in-Dir-eq0-clause-format : goal.returns-in-Dir-eq0-clause-format
returns-in-Dir-eq0-clause-format c c' = subst (λ (k : Kind). OnOk c.add_entries.result (Reads k c' c.args.block.now c.add_entries.new.walk.noted)) (sym (c.in-Dir-eq0.is ∙ ap (λ (n : ℕ). Dir n) (first_of (omega (arith, c.in-Dir-eq0.field-0-is), grind (arith, c.in-Dir-eq0.field-0-test), search rules))))
    (entries_read c.add_entries.result c' c.args.block.now c.add_entries.new.walk.noted (c.add_entries.ensures.whole c') c.add_entries.ensures.rest)

pub returns-in-Data-eq0-clause-named : goal.returns-in-Data-eq0-clause-named
returns-in-Data-eq0-clause-named c = leaf_names c.add_records.result c.args.step.now c.args.here.block c.args.block.now c.args.walk.now.named.items c.add_records.new.walk.named.items c.args.step.now.kind
    (c.in-Data-eq0.is ∙ ap (λ (n : ℕ). Data n) (first_of (omega (arith, c.in-Data-eq0.field-0-is), grind (arith, c.in-Data-eq0.field-0-test), search rules))) c.add_records.ensures.named

pub returns-in-Data-clause-named : goal.returns-in-Data-clause-named
returns-in-Data-clause-named c = inner_names c.add_pointers.result c.args.step.now c.args.here.block c.args.block.now c.args.walk.now.named.items c.add_pointers.new.walk.named.items c.in-Data.level c.args.step.now.kind c.in-Data.is (grind (arith, c.in-Data.level-test)) c.add_pointers.ensures.named

pub returns-in-Dir-eq0-clause-named : goal.returns-in-Dir-eq0-clause-named
returns-in-Dir-eq0-clause-named c = dir_names c.add_entries.result c.args.step.now c.args.here.block c.args.block.now c.args.walk.now.named.items c.add_entries.new.walk.named.items _ c.args.step.now.kind c.in-Dir-eq0.is

pub returns-in-Dir-clause-named : goal.returns-in-Dir-clause-named
returns-in-Dir-clause-named c = dir_names c.add_pointers-in-Dir.result c.args.step.now c.args.here.block c.args.block.now c.args.walk.now.named.items c.add_pointers-in-Dir.new.walk.named.items c.in-Dir.level c.args.step.now.kind c.in-Dir.is

pub returns-in-Root-clause-named : goal.returns-in-Root-clause-named
returns-in-Root-clause-named c = root_names c.args.step.now c.args.here.block c.args.block.now c.args.walk.now.named.items c.args.walk.now.named.items c.args.step.now.kind c.in-Root.is

pub returns-in-Data-eq0-clause-leaf : goal.returns-in-Data-eq0-clause-leaf
returns-in-Data-eq0-clause-leaf c e = c.add_records.ensures.leaf

pub returns-in-Data-clause-leaf : goal.returns-in-Data-clause-leaf
returns-in-Data-clause-leaf c e = absurd (not_leaf_data c.in-Data.level c.args.step.now.kind c.in-Data.is (grind (arith, c.in-Data.level-test)) e)

pub returns-in-Dir-eq0-clause-leaf : goal.returns-in-Dir-eq0-clause-leaf
returns-in-Dir-eq0-clause-leaf c e = absurd (not_leaf_dir _ c.args.step.now.kind c.in-Dir-eq0.is e)

pub returns-in-Dir-clause-leaf : goal.returns-in-Dir-clause-leaf
returns-in-Dir-clause-leaf c e = absurd (not_leaf_dir c.in-Dir.level c.args.step.now.kind c.in-Dir.is e)

pub returns-in-Root-clause-leaf : goal.returns-in-Root-clause-leaf
returns-in-Root-clause-leaf c e = absurd (not_leaf_root c.args.step.now.kind c.in-Root.is e)

pub returns-in-Data-eq0-clause-sought : goal.returns-in-Data-eq0-clause-sought
returns-in-Data-eq0-clause-sought c c' slots = data_seeks c.add_records.result c.args.step.now c' c.args.named c.args.walk.now.named.items c.add_records.new.walk.named.items c.add_records.new.walk.folders.items _ c.args.step.now.kind c.in-Data-eq0.is

pub returns-in-Data-clause-sought : goal.returns-in-Data-clause-sought
returns-in-Data-clause-sought c c' slots = data_seeks c.add_pointers.result c.args.step.now c' c.args.named c.args.walk.now.named.items c.add_pointers.new.walk.named.items c.add_pointers.new.walk.folders.items c.in-Data.level c.args.step.now.kind c.in-Data.is

pub returns-in-Dir-eq0-clause-sought : goal.returns-in-Dir-eq0-clause-sought
returns-in-Dir-eq0-clause-sought c c' slots =
    let kind : c.args.step.now.kind ≡ Dir 0 = c.in-Dir-eq0.is ∙ ap (λ (n : ℕ). Dir n) (first_of (omega (arith, c.in-Dir-eq0.field-0-is), grind (arith, c.in-Dir-eq0.field-0-test), search rules)) in
    leaf_seeks c.add_entries.result c.args.step.now c' c.args.named c.args.walk.now.named.items c.add_entries.new.walk.named.items c.add_entries.new.walk.folders.items c.args.step.now.kind kind
    (c.add_entries.ensures.sought c' (subst (λ (k : Kind). HasSlots k c' c.args.block.now) kind slots).0)

pub returns-in-Dir-clause-sought : goal.returns-in-Dir-clause-sought
returns-in-Dir-clause-sought c c' slots = inner_seeks c.add_pointers-in-Dir.result c.args.step.now c' c.args.named c.args.walk.now.named.items c.add_pointers-in-Dir.new.walk.named.items c.add_pointers-in-Dir.new.walk.folders.items c.in-Dir.level c.args.step.now.kind c.in-Dir.is (grind (arith, c.in-Dir.level-test)) c.add_pointers-in-Dir.ensures.named

pub returns-in-Root-clause-sought : goal.returns-in-Root-clause-sought
returns-in-Root-clause-sought c c' slots = root_seeks c.args.step.now c' c.args.named c.args.walk.now.named.items c.args.walk.now.named.items c.args.walk.now.folders.items c.args.step.now.kind c.in-Root.is

pub returns-in-Data-eq0-clause-deep : goal.returns-in-Data-eq0-clause-deep
returns-in-Data-eq0-clause-deep c c' slots = other_deepens c.add_records.result c' (min (c.args.depth + 1) (2 ^ 32 - 1)) c.add_records.new.walk.noted c.args.step.now.kind (not_entries_data _ c.args.step.now.kind c.in-Data-eq0.is)

pub returns-in-Data-clause-deep : goal.returns-in-Data-clause-deep
returns-in-Data-clause-deep c c' slots = other_deepens c.add_pointers.result c' (min (c.args.depth + 1) (2 ^ 32 - 1)) c.add_pointers.new.walk.noted c.args.step.now.kind (not_entries_data c.in-Data.level c.args.step.now.kind c.in-Data.is)

pub returns-in-Dir-eq0-clause-deep : goal.returns-in-Dir-eq0-clause-deep
returns-in-Dir-eq0-clause-deep c c' slots =
    let kind : c.args.step.now.kind ≡ Dir 0 = c.in-Dir-eq0.is ∙ ap (λ (n : ℕ). Dir n) (first_of (omega (arith, c.in-Dir-eq0.field-0-is), grind (arith, c.in-Dir-eq0.field-0-test), search rules)) in
    leaf_deepens c.add_entries.result c' (min (c.args.depth + 1) (2 ^ 32 - 1)) c.add_entries.new.walk.noted c.args.step.now.kind kind
    (c.add_entries.ensures.deep c' (subst (λ (k : Kind). HasSlots k c' c.args.block.now) kind slots).0)

pub returns-in-Dir-clause-deep : goal.returns-in-Dir-clause-deep
returns-in-Dir-clause-deep c c' slots = other_deepens c.add_pointers-in-Dir.result c' (min (c.args.depth + 1) (2 ^ 32 - 1)) c.add_pointers-in-Dir.new.walk.noted c.args.step.now.kind (not_entries_dir c.in-Dir.level c.args.step.now.kind c.in-Dir.is (grind (arith, c.in-Dir.level-test)))

pub returns-in-Root-clause-deep : goal.returns-in-Root-clause-deep
returns-in-Root-clause-deep c c' slots = nothing_deepens c' (min (c.args.depth + 1) (2 ^ 32 - 1)) c.args.walk.now.noted c.args.step.now.kind (not_entries_root c.args.step.now.kind c.in-Root.is)

pub returns-in-Data-eq0-clause-clean : goal.returns-in-Data-eq0-clause-clean
returns-in-Data-eq0-clause-clean c c' read leaf =
    let kind : c.args.step.now.kind ≡ Data 0 = c.in-Data-eq0.is ∙ ap (λ (n : ℕ). Data n) (first_of (omega (arith, c.in-Data-eq0.field-0-is), grind (arith, c.in-Data-eq0.field-0-test), search rules)) in
    on_ok c.add_records.result (c.add_records.new.walk.noted ≡ c.args.walk.now.noted) (KeepsFormats c.args.walk.now.noted c.add_records.new.walk.noted) (λ is. keeps_same c.args.walk.now.noted c.add_records.new.walk.noted is) (c.add_records.ensures.quiet (leaf kind))

pub returns-in-Data-clause-clean : goal.returns-in-Data-clause-clean
returns-in-Data-clause-clean c c' read leaf = data_clean c.add_pointers.result c' c.args.block.now c.args.here.block c.args.walk.now.noted c.add_pointers.new.walk.noted c.in-Data.level c.args.step.now.kind c.in-Data.is (grind (arith, c.in-Data.level-test)) c.add_pointers.ensures.noted read

pub returns-in-Dir-clause-clean : goal.returns-in-Dir-clause-clean
returns-in-Dir-clause-clean c c' read leaf = dir_clean c.add_pointers-in-Dir.result c' c.args.block.now c.args.here.block c.args.walk.now.noted c.add_pointers-in-Dir.new.walk.noted c.in-Dir.level c.args.step.now.kind c.in-Dir.is (grind (arith, c.in-Dir.level-test)) c.add_pointers-in-Dir.ensures.noted read

pub returns-in-Dir-eq0-clause-clean : goal.returns-in-Dir-eq0-clause-clean
returns-in-Dir-eq0-clause-clean c c' read leaf =
    let kind : c.args.step.now.kind ≡ Dir 0 = c.in-Dir-eq0.is ∙ ap (λ (n : ℕ). Dir n) (first_of (omega (arith, c.in-Dir-eq0.field-0-is), grind (arith, c.in-Dir-eq0.field-0-test), search rules)) in
    let entries = subst (λ (k : Kind). IsRead k c' c.args.block.now) kind read in
    c.add_entries.ensures.clean c' entries.each entries.rest

pub returns-in-Root-clause-clean : goal.returns-in-Root-clause-clean
returns-in-Root-clause-clean c c' read leaf = keeps_same c.args.walk.now.noted c.args.walk.now.noted refl

pub returns-in-Data-eq0-clause-asks : goal.returns-in-Data-eq0-clause-asks
returns-in-Data-eq0-clause-asks c c' slots = other_asks c.add_records.result c.args.step.now c' c.args.walk.now.named.items c.add_records.new.walk.named.items c.args.step.now.kind (not_entries_data _ c.args.step.now.kind c.in-Data-eq0.is)

pub returns-in-Data-clause-asks : goal.returns-in-Data-clause-asks
returns-in-Data-clause-asks c c' slots = other_asks c.add_pointers.result c.args.step.now c' c.args.walk.now.named.items c.add_pointers.new.walk.named.items c.args.step.now.kind (not_entries_data c.in-Data.level c.args.step.now.kind c.in-Data.is)

pub returns-in-Dir-eq0-clause-asks : goal.returns-in-Dir-eq0-clause-asks
returns-in-Dir-eq0-clause-asks c c' slots =
    let kind : c.args.step.now.kind ≡ Dir 0 = c.in-Dir-eq0.is ∙ ap (λ (n : ℕ). Dir n) (first_of (omega (arith, c.in-Dir-eq0.field-0-is), grind (arith, c.in-Dir-eq0.field-0-test), search rules)) in
    leaf_asks c.add_entries.result c.args.step.now c' c.args.walk.now.named.items c.add_entries.new.walk.named.items c.args.step.now.kind kind
    (c.add_entries.ensures.asks c' (subst (λ (k : Kind). HasSlots k c' c.args.block.now) kind slots).0)

pub returns-in-Dir-clause-asks : goal.returns-in-Dir-clause-asks
returns-in-Dir-clause-asks c c' slots = other_asks c.add_pointers-in-Dir.result c.args.step.now c' c.args.walk.now.named.items c.add_pointers-in-Dir.new.walk.named.items c.args.step.now.kind (not_entries_dir c.in-Dir.level c.args.step.now.kind c.in-Dir.is (grind (arith, c.in-Dir.level-test)))

pub returns-in-Root-clause-asks : goal.returns-in-Root-clause-asks
returns-in-Root-clause-asks c c' slots = nothing_asks c.args.step.now c' c.args.walk.now.named.items c.args.walk.now.named.items c.args.step.now.kind (not_entries_root c.args.step.now.kind c.in-Root.is)

pub returns-in-Data-eq0-clause-heads : goal.returns-in-Data-eq0-clause-heads
returns-in-Data-eq0-clause-heads c c' slots = other_heads c.add_records.result c.args.step.now c' c.args.walk.now.named.items c.args.walk.now.folders.items c.add_records.new.walk.folders.items c.args.step.now.kind (not_entries_data _ c.args.step.now.kind c.in-Data-eq0.is)

pub returns-in-Data-clause-heads : goal.returns-in-Data-clause-heads
returns-in-Data-clause-heads c c' slots = other_heads c.add_pointers.result c.args.step.now c' c.args.walk.now.named.items c.args.walk.now.folders.items c.add_pointers.new.walk.folders.items c.args.step.now.kind (not_entries_data c.in-Data.level c.args.step.now.kind c.in-Data.is)

pub returns-in-Dir-eq0-clause-heads : goal.returns-in-Dir-eq0-clause-heads
returns-in-Dir-eq0-clause-heads c c' slots =
    let kind : c.args.step.now.kind ≡ Dir 0 = c.in-Dir-eq0.is ∙ ap (λ (n : ℕ). Dir n) (first_of (omega (arith, c.in-Dir-eq0.field-0-is), grind (arith, c.in-Dir-eq0.field-0-test), search rules)) in
    leaf_heads c.add_entries.result c.args.step.now c' c.args.walk.now.named.items c.args.walk.now.folders.items c.add_entries.new.walk.folders.items c.args.step.now.kind kind
    (c.add_entries.ensures.heads c' (subst (λ (k : Kind). HasSlots k c' c.args.block.now) kind slots).0)

pub returns-in-Dir-clause-heads : goal.returns-in-Dir-clause-heads
returns-in-Dir-clause-heads c c' slots = other_heads c.add_pointers-in-Dir.result c.args.step.now c' c.args.walk.now.named.items c.args.walk.now.folders.items c.add_pointers-in-Dir.new.walk.folders.items c.args.step.now.kind (not_entries_dir c.in-Dir.level c.args.step.now.kind c.in-Dir.is (grind (arith, c.in-Dir.level-test)))

pub returns-in-Root-clause-heads : goal.returns-in-Root-clause-heads
returns-in-Root-clause-heads c c' slots = nothing_heads c.args.step.now c' c.args.walk.now.named.items c.args.walk.now.folders.items c.args.walk.now.folders.items c.args.step.now.kind (not_entries_root c.args.step.now.kind c.in-Root.is)

pub returns-in-Data-eq0-clause-eight : goal.returns-in-Data-eq0-clause-eight
returns-in-Data-eq0-clause-eight c c' slots = other_depths c.add_records.result c' (min (c.args.depth + 1) (2 ^ 32 - 1)) c.args.here.block c.args.walk.now.noted c.add_records.new.walk.noted c.args.step.now.kind (not_entries_data _ c.args.step.now.kind c.in-Data-eq0.is) c.add_records.ensures.eight

pub returns-in-Data-clause-eight : goal.returns-in-Data-clause-eight
returns-in-Data-clause-eight c c' slots = rest_depths c.add_pointers.result c' (min (c.args.depth + 1) (2 ^ 32 - 1)) c.args.here.block c.args.walk.now.noted c.add_pointers.new.walk.noted c.args.step.now.kind (is_zero (drop 8180 c.args.block.now)) (not_entries_data c.in-Data.level c.args.step.now.kind c.in-Data.is) c.add_pointers.ensures.noted

pub returns-in-Dir-eq0-clause-eight : goal.returns-in-Dir-eq0-clause-eight
returns-in-Dir-eq0-clause-eight c c' slots =
    let kind : c.args.step.now.kind ≡ Dir 0 = c.in-Dir-eq0.is ∙ ap (λ (n : ℕ). Dir n) (first_of (omega (arith, c.in-Dir-eq0.field-0-is), grind (arith, c.in-Dir-eq0.field-0-test), search rules)) in
    leaf_depths c.add_entries.result c' (min (c.args.depth + 1) (2 ^ 32 - 1)) c.args.here.block c.args.walk.now.noted c.add_entries.new.walk.noted c.args.step.now.kind kind
    (c.add_entries.ensures.eight c' (subst (λ (k : Kind). HasSlots k c' c.args.block.now) kind slots).0)

pub returns-in-Dir-clause-eight : goal.returns-in-Dir-clause-eight
returns-in-Dir-clause-eight c c' slots = rest_depths c.add_pointers-in-Dir.result c' (min (c.args.depth + 1) (2 ^ 32 - 1)) c.args.here.block c.args.walk.now.noted c.add_pointers-in-Dir.new.walk.noted c.args.step.now.kind (is_zero (drop 8180 c.args.block.now)) (not_entries_dir c.in-Dir.level c.args.step.now.kind c.in-Dir.is (grind (arith, c.in-Dir.level-test))) c.add_pointers-in-Dir.ensures.noted

pub returns-in-Root-clause-eight : goal.returns-in-Root-clause-eight
returns-in-Root-clause-eight c c' slots = same_depths c' (min (c.args.depth + 1) (2 ^ 32 - 1)) c.args.here.block c.args.walk.now.noted c.args.walk.now.noted c.args.step.now.kind (not_entries_root c.args.step.now.kind c.in-Root.is) (numbers_same c.args.walk.now.noted c.args.walk.now.noted refl)
