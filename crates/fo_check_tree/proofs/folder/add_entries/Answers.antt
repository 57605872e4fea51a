use Rattle.std.proofs.Common.{◌≡◌, ◌≢◌, ⊎_elim, sym, true, ℕ, ◌+◌, ◌-◌, ◌*◌, ◌^◌, ◌<◌, ◌≤◌, List, ◌++◌, length, take, drop, ◌∙◌, ap, subst, arith}
use Rattle.std.specs.Prelude.{min}
use Rattle.fo_sound.specs.Image.{is_zero}
use Rattle.fo_check_tree.specs.declared.walk.Step.{Step}
use Rattle.fo_check_tree.specs.declared.walk.Folder.{Folder}
use Rattle.fo_check_tree.specs.Lower.{level}
use Rattle.fo_check_names.specs.Pairs.{is_folder}
use Rattle.fo_check_tree.specs.Slots.{entry_of, steps_by_pairs, pair_steps, pair_folders, AddsFolders}
use Rattle.fo_check_tree.specs.Notes.NotesAt.{same as note_same}
use Rattle.fo_check_names.specs.Finds.{Finds}
use Rattle.fo_check_names.specs.declared.names.Named.{Named}
use Rattle.fo_check_tree.specs.Pairing.{Searches, Asks, Leads}
use Rattle.fo_check_tree.proofs.Heading.{leads_first, leads_on}
use Rattle.fo_check_tree.proofs.Searching.{searches_first, searches_on}
use Rattle.fo_good.specs.Means.{HasEntry}
use Rattle.std.proofs.lemmas.Bool.{cases_eq, cases_lt}
use Rattle.fo_check_tree.proofs.Asking.{apart_same, asks_first, asks_on}
use Rattle.fo_check_tree.proofs.Adding.{then_notes, notes_unless, entry_read}
use Rattle.fo_check_tree.proofs.Noting.{keeps_same, keeps_then, keeps_deep, deep_at, keeps_zero, numbers_same, numbers_then, numbers_unless, folders_kept, folders_by_other, folders_then}
use Rattle.fo_check_tree.specs.Depths.{HasFolder}
use Rattle.fo_check_tree.specs.Notes.{KeepsNumbers, NotesFolders}
use Rattle.fo_check_tree.proofs.Slots.{pairs_first, pairs_more, folders_first, folders_more, low_unless, rest_is}
use Rattle.fo_check_tree.proofs.folder.add_entries.Goals as goal

shallow_by : (a b d n : ℕ) → d ≡ min a b → 8 < n → (64 < d → n ≤ 8) → min a b ≤ 64
shallow_by a b d n is quiet deep = ⊎_elim (λ (less : 64 < d). absurd (omega (arith, quiet, deep less))) (λ (low : d ≤ 64). subst (λ (x : ℕ). x ≤ 64) is low) (cases_lt 64 d)

pub loop-k-init : goal.loop-k-init
loop-k-init c = record {
  pushed = λ c' each. rw c.note_rest.ensures.steps (pairs_first c.args.here c' c.args.walk.now.steps.items);
  put = λ c' each. rw c.note_rest.ensures.folders (folders_first c.args.here c' (min (c.args.depth + 1) (2 ^ 32 - 1)) c.args.named c.args.walk.now.folders.items);
  whole = λ c' each quiet i lt. absurd (omega (arith, lt));
  sought = λ c' each. rw c.note_rest.ensures.named (searches_first c.args.index c' c.args.named c.args.walk.now.named.items c.note_rest.new.self.folders.items);
  eight = λ c' each. folders_kept (min (c.args.depth + 1) (2 ^ 32 - 1)) c.args.here.block c.args.walk.now.noted c.note_rest.new.self.noted (numbers_unless (is_zero (take (length c.args.block.now - 8160) (drop 8160 c.args.block.now))) c.args.here.block c.args.walk.now.noted c.note_rest.new.self.noted c.note_rest.ensures.noted);
  heads = λ c' each. rw c.note_rest.ensures.folders (leads_first c.args.index c' c.args.walk.now.named.items c.args.walk.now.folders.items);
  asks = λ c' each small apart. rw c.note_rest.ensures.named (asks_first c.args.index c' small c.args.walk.now.named.items);
  deep = λ c' each quiet i lt. absurd (omega (arith, lt));
  rest = λ no. rw c.note_rest.ensures.noted (low_unless (is_zero (take (length c.args.block.now - 8160) (drop 8160 c.args.block.now))) c.args.here.block c.args.walk.now.noted (ap is_zero (rest_is 8160 c.args.block.now) ∙ no));
  clean = λ c' each zero. keeps_zero (is_zero (take (length c.args.block.now - 8160) (drop 8160 c.args.block.now))) (ap is_zero (rest_is 8160 c.args.block.now) ∙ zero) c.args.here.block c.args.walk.now.noted c.note_rest.new.self.noted c.note_rest.ensures.noted;
  notes = notes_unless (is_zero (take (length c.args.block.now - 8160) (drop 8160 c.args.block.now))) c.args.here.block c.args.walk.now.noted c.note_rest.new.self.noted c.note_rest.ensures.noted;
  blocks = c.note_rest.ensures.blocks;
  tree = c.note_rest.ensures.tree;
  low = c.note_rest.ensures.level;
  labels = c.note_rest.ensures.labels;
  steps = rw c.note_rest.ensures.steps (omega arith);
  folders = rw c.note_rest.ensures.folders (omega arith);
}

pub loop-k-preserved : goal.loop-k-preserved
loop-k-preserved c =
    let steps : c.find_here-of.new.walk.steps.items ≡ c.loop-k.walk.steps.items = c.find_here-of.ensures.steps ∙ c.entry_at-second.ensures.steps ∙ c.entry_at-first.ensures.steps in
    let folders : c.find_here-of.new.walk.folders.items ≡ c.loop-k.walk.folders.items = c.find_here-of.ensures.folders ∙ c.entry_at-second.ensures.folders ∙ c.entry_at-first.ensures.folders in
    let names : c.entry_at-second.new.walk.named.items ≡ c.loop-k.walk.named.items = c.entry_at-second.ensures.named ∙ c.entry_at-first.ensures.named in
    let found : Finds c.saturating_add.result c.entry_at-first.result c.entry_at-second.result c.find_here-of.result c.loop-k.walk.named.items c.add_pair.new.walk.named.items =
    subst (λ (xs : List Named). Finds c.saturating_add.result c.entry_at-first.result c.entry_at-second.result c.find_here-of.result xs c.add_pair.new.walk.named.items) names
    (subst (λ (xs : List Named). Finds c.saturating_add.result c.entry_at-first.result c.entry_at-second.result c.find_here-of.result c.entry_at-second.new.walk.named.items xs) (sym c.in_ok-add_pair.ensures.named) c.find_here-of.ensures.finds) in
    let many = ap (λ (s : List Step). length s) steps in
    let many' = ap (λ (s : List Folder). length s) folders in
    let less : c.loop-k.k < 102 = c.loop-k-test.true in
    let low : level c.add_pair.new.walk.noted ≤ level c.loop-k.walk.noted = omega (arith, c.entry_at-first.ensures.level, c.entry_at-second.ensures.level, c.find_here-of.ensures.level, c.in_ok-add_pair.ensures.level) in
    record {
      pushed = λ c' each. pairs_more c.args.here c' c.args.walk.now.steps.items c.loop-k.walk.steps.items c.add_pair.new.walk.steps.items c.loop-k.k c.entry_at-first.result c.entry_at-second.result
          (c.entry_at-first.ensures.is c' (each (2 * c.loop-k.k) (omega (arith, less)))) (c.entry_at-second.ensures.is c' (each (2 * c.loop-k.k + 1) (omega (arith, less))))
          (c.loop-k.invariant.pushed c' each) (c.in_ok-add_pair.ensures.pushed ∙ ap (λ (s : List Step). s ++ pair_steps c.args.here c.entry_at-first.result c.entry_at-second.result) steps);
      put = λ c' each. folders_more c.args.here c' (min (c.args.depth + 1) (2 ^ 32 - 1)) c.saturating_add-below.result c.args.named c.find_here-of.result c.is_both-leads.result
          c.args.walk.now.folders.items c.loop-k.walk.folders.items c.add_pair.new.walk.folders.items c.loop-k.k c.entry_at-first.result c.entry_at-second.result
          c.saturating_add-below.ensures c.is_both-leads.ensures
          (c.entry_at-first.ensures.is c' (each (2 * c.loop-k.k) (omega (arith, less)))) (c.entry_at-second.ensures.is c' (each (2 * c.loop-k.k + 1) (omega (arith, less))))
          (c.loop-k.invariant.put c' each) (c.in_ok-add_pair.ensures.put ∙ ap (λ (s : List Folder). s ++ pair_folders c.args.here c.entry_at-first.result c.entry_at-second.result c.saturating_add-below.result c.is_both-leads.result) folders);
      whole = λ c' each quiet i lt. ⊎_elim
          (λ old. c.loop-k.invariant.whole c' each (omega (arith, quiet, low)) i old)
          (λ new. ⊎_elim
          (λ (first : i ≡ 2 * c.loop-k.k). subst (λ (n : ℕ). HasEntry c' c.args.block.now n) (sym first)
          (entry_read c' c.args.block.now (2 * c.loop-k.k) c.entry_at-first.new.walk.noted (each (2 * c.loop-k.k) (omega (arith, less))) (λ deep. (c.entry_at-first.ensures.none deep).1)
          (omega (arith, quiet, c.entry_at-second.ensures.level, c.find_here-of.ensures.level, c.in_ok-add_pair.ensures.level))))
          (λ (apart : i ≢ 2 * c.loop-k.k).
          let second : i ≡ 2 * c.loop-k.k + 1 = omega (arith, lt, new, apart) in
          subst (λ (n : ℕ). HasEntry c' c.args.block.now n) (sym second)
          (entry_read c' c.args.block.now (2 * c.loop-k.k + 1) c.entry_at-second.new.walk.noted (each (2 * c.loop-k.k + 1) (omega (arith, less))) (λ deep. (c.entry_at-second.ensures.none deep).1)
          (omega (arith, quiet, c.find_here-of.ensures.level, c.in_ok-add_pair.ensures.level))))
          (cases_eq i (2 * c.loop-k.k)))
          (cases_lt i (2 * c.loop-k.k));
      sought = λ c' each. searches_on c.args.index c' c.args.named c.args.here c.saturating_add-below.result c.loop-k.k c.args.walk.now.named.items c.loop-k.walk.named.items c.add_pair.new.walk.named.items c.loop-k.walk.folders.items c.add_pair.new.walk.folders.items c.find_here-of.result c.is_both-leads.result
          c.entry_at-first.result c.entry_at-second.result c.saturating_add.result (c.saturating_add.ensures ∙ ap (λ (n : ℕ). min (n + c.loop-k.k) (2 ^ 64 - 1)) c.saturating_mul.ensures) c.is_both-leads.ensures
          (c.entry_at-first.ensures.is c' (each (2 * c.loop-k.k) (omega (arith, less)))) (c.entry_at-second.ensures.is c' (each (2 * c.loop-k.k + 1) (omega (arith, less))))
          (c.loop-k.invariant.sought c' each) found (c.in_ok-add_pair.ensures.put ∙ ap (λ (s : List Folder). s ++ pair_folders c.args.here c.entry_at-first.result c.entry_at-second.result c.saturating_add-below.result c.is_both-leads.result) folders);
      eight = λ c' each.
          let first : is_folder c.entry_at-first.result ≡ true → HasFolder c' = λ folder. record { slot = 2 * c.loop-k.k; within = omega (arith, less); folder = sym (ap is_folder (c.entry_at-first.ensures.is c' (each (2 * c.loop-k.k) (omega (arith, less))))) ∙ folder } in
          let second : is_folder c.entry_at-second.result ≡ true → HasFolder c' = λ folder. record { slot = 2 * c.loop-k.k + 1; within = omega (arith, less); folder = sym (ap is_folder (c.entry_at-second.ensures.is c' (each (2 * c.loop-k.k + 1) (omega (arith, less))))) ∙ folder } in
          let pair : NotesFolders (HasFolder c') c.saturating_add-below.result c.args.here.block c.find_here-of.new.walk.noted c.add_pair.new.walk.noted = folders_by_other c.saturating_add-below.result c.args.here.block c.find_here-of.new.walk.noted c.add_pair.new.walk.noted (λ either. ⊎_elim first second either) c.in_ok-add_pair.ensures.eight in
          let before : KeepsNumbers c.loop-k.walk.noted c.find_here-of.new.walk.noted = numbers_then c.loop-k.walk.noted c.entry_at-second.new.walk.noted c.find_here-of.new.walk.noted
          (numbers_then c.loop-k.walk.noted c.entry_at-first.new.walk.noted c.entry_at-second.new.walk.noted c.entry_at-first.ensures.eight c.entry_at-second.ensures.eight)
          (numbers_same c.entry_at-second.new.walk.noted c.find_here-of.new.walk.noted c.find_here-of.ensures.noted) in
          let deep = min (c.args.depth + 1) (2 ^ 32 - 1) in
          folders_then deep c.args.here.block c.args.walk.now.noted c.loop-k.walk.noted c.add_pair.new.walk.noted c.loop-k.invariant.low (c.loop-k.invariant.eight c' each)
          (folders_then deep c.args.here.block c.loop-k.walk.noted c.find_here-of.new.walk.noted c.add_pair.new.walk.noted (omega (arith, c.entry_at-first.ensures.level, c.entry_at-second.ensures.level, c.find_here-of.ensures.level)) (folders_kept deep c.args.here.block c.loop-k.walk.noted c.find_here-of.new.walk.noted before)
          (subst (λ (n : ℕ). NotesFolders (HasFolder c') n c.args.here.block c.find_here-of.new.walk.noted c.add_pair.new.walk.noted) c.saturating_add-below.ensures pair));
      heads = λ c' each. leads_on c.args.index c' c.args.named c.args.here c.saturating_add-below.result c.loop-k.k c.args.walk.now.named.items c.loop-k.walk.named.items c.add_pair.new.walk.named.items c.args.walk.now.folders.items c.loop-k.walk.folders.items c.add_pair.new.walk.folders.items c.find_here-of.result c.is_both-leads.result
          c.entry_at-first.result c.entry_at-second.result c.saturating_add.result (c.saturating_add.ensures ∙ ap (λ (n : ℕ). min (n + c.loop-k.k) (2 ^ 64 - 1)) c.saturating_mul.ensures) c.is_both-leads.ensures
          (c.entry_at-first.ensures.is c' (each (2 * c.loop-k.k) (omega (arith, less)))) (c.entry_at-second.ensures.is c' (each (2 * c.loop-k.k + 1) (omega (arith, less))))
          (c.loop-k.invariant.sought c' each).same (c.loop-k.invariant.heads c' each) found (c.in_ok-add_pair.ensures.put ∙ ap (λ (s : List Folder). s ++ pair_folders c.args.here c.entry_at-first.result c.entry_at-second.result c.saturating_add-below.result c.is_both-leads.result) folders);
      asks = λ c' each small apart.
          let before = c.loop-k.invariant.sought c' each in
          asks_on c.args.index c' small c.loop-k.k less c.args.walk.now.named.items c.loop-k.walk.named.items c.find_here-of.result (apart_same c.args.walk.now.named.items c.loop-k.walk.named.items before.same apart) (c.loop-k.invariant.asks c' each small apart)
          c.add_pair.new.walk.named.items c.entry_at-first.result c.entry_at-second.result c.saturating_add.result (c.saturating_add.ensures ∙ ap (λ (n : ℕ). min (n + c.loop-k.k) (2 ^ 64 - 1)) c.saturating_mul.ensures)
          (c.entry_at-first.ensures.is c' (each (2 * c.loop-k.k) (omega (arith, less)))) (c.entry_at-second.ensures.is c' (each (2 * c.loop-k.k + 1) (omega (arith, less)))) found;
      deep = λ c' each quiet i lt yes. ⊎_elim
          (λ old. c.loop-k.invariant.deep c' each (omega (arith, quiet, low)) i old yes)
          (λ new. ⊎_elim
          (λ (first : i ≡ 2 * c.loop-k.k).
          let folder : is_folder c.entry_at-first.result ≡ true = ap is_folder (c.entry_at-first.ensures.is c' (each (2 * c.loop-k.k) (omega (arith, less)))) ∙ ap (λ (n : ℕ). is_folder (entry_of (c'.slot n))) (sym first) ∙ yes in
          shallow_by (c.args.depth + 1) (2 ^ 32 - 1) c.saturating_add-below.result (level c.add_pair.new.walk.noted) c.saturating_add-below.ensures quiet (c.in_ok-add_pair.ensures.first_deep folder))
          (λ (apart : i ≢ 2 * c.loop-k.k).
          let second : i ≡ 2 * c.loop-k.k + 1 = omega (arith, lt, new, apart) in
          let folder : is_folder c.entry_at-second.result ≡ true = ap is_folder (c.entry_at-second.ensures.is c' (each (2 * c.loop-k.k + 1) (omega (arith, less)))) ∙ ap (λ (n : ℕ). is_folder (entry_of (c'.slot n))) (sym second) ∙ yes in
          shallow_by (c.args.depth + 1) (2 ^ 32 - 1) c.saturating_add-below.result (level c.add_pair.new.walk.noted) c.saturating_add-below.ensures quiet (c.in_ok-add_pair.ensures.second_deep folder))
          (cases_eq i (2 * c.loop-k.k)))
          (cases_lt i (2 * c.loop-k.k));
      rest = λ no. let before = c.loop-k.invariant.rest no in omega (arith, low, before);
      clean = λ c' each zero. keeps_then c.args.walk.now.noted c.loop-k.walk.noted c.add_pair.new.walk.noted (c.loop-k.invariant.clean c' each zero)
          (keeps_then c.loop-k.walk.noted c.find_here-of.new.walk.noted c.add_pair.new.walk.noted
          (keeps_same c.loop-k.walk.noted c.find_here-of.new.walk.noted (c.find_here-of.ensures.noted ∙ c.entry_at-second.ensures.kept c' (each (2 * c.loop-k.k + 1) (omega (arith, less))) ∙ c.entry_at-first.ensures.kept c' (each (2 * c.loop-k.k) (omega (arith, less)))))
          (keeps_deep c.args.here.block c.find_here-of.new.walk.noted c.add_pair.new.walk.noted c.in_ok-add_pair.ensures.notes));
      notes = then_notes c.loop-k.invariant.notes (then_notes c.entry_at-first.ensures.notes (then_notes c.entry_at-second.ensures.notes (then_notes (note_same c.find_here-of.ensures.noted) (deep_at c.args.here.block c.find_here-of.new.walk.noted c.add_pair.new.walk.noted c.in_ok-add_pair.ensures.notes))));
      blocks = c.in_ok-add_pair.ensures.blocks ∙ c.find_here-of.ensures.blocks ∙ c.entry_at-second.ensures.blocks ∙ c.entry_at-first.ensures.blocks ∙ c.loop-k.invariant.blocks;
      tree = (c.in_ok-add_pair.ensures.tree.0 ∙ c.find_here-of.ensures.tree.0 ∙ c.entry_at-second.ensures.tree.0 ∙ c.entry_at-first.ensures.tree.0 ∙ c.loop-k.invariant.tree.0, c.in_ok-add_pair.ensures.tree.1 ∙ c.find_here-of.ensures.tree.1 ∙ c.entry_at-second.ensures.tree.1 ∙ c.entry_at-first.ensures.tree.1 ∙ c.loop-k.invariant.tree.1);
      low = omega (arith, low, c.loop-k.invariant.low);
      labels = c.in_ok-add_pair.ensures.labels ∙ c.find_here-of.ensures.labels ∙ c.entry_at-second.ensures.labels ∙ c.entry_at-first.ensures.labels ∙ c.loop-k.invariant.labels;
      steps = omega (arith, many, c.in_ok-add_pair.ensures.steps, c.loop-k.invariant.steps);
      folders = omega (arith, many', c.in_ok-add_pair.ensures.folders, c.loop-k.invariant.folders);
    }

pub returns-clause-pushed : goal.returns-clause-pushed
returns-clause-pushed c c' each =
    let end : c.loop-k.k ≡ 102 = omega (arith, c.loop-k-test.false, c.loop-k.auto.k-end) in
    subst (λ (n : ℕ). c.loop-k.walk.steps.items ≡ c.args.walk.now.steps.items ++ steps_by_pairs c.args.here c' n) end (c.loop-k.invariant.pushed c' each)

pub returns-clause-put : goal.returns-clause-put
returns-clause-put c c' each =
    let end : c.loop-k.k ≡ 102 = omega (arith, c.loop-k-test.false, c.loop-k.auto.k-end) in
    subst (λ (n : ℕ). AddsFolders c.args.here c' (min (c.args.depth + 1) (2 ^ 32 - 1)) c.args.named n c.args.walk.now.folders.items c.loop-k.walk.folders.items) end (c.loop-k.invariant.put c' each)

pub returns-clause-whole : goal.returns-clause-whole
returns-clause-whole c c' each quiet i lt =
    let end : c.loop-k.k ≡ 102 = omega (arith, c.loop-k-test.false, c.loop-k.auto.k-end) in
    c.loop-k.invariant.whole c' each quiet i (omega (arith, lt, end))

pub returns-clause-sought : goal.returns-clause-sought
returns-clause-sought c c' each =
    let end : c.loop-k.k ≡ 102 = omega (arith, c.loop-k-test.false, c.loop-k.auto.k-end) in
    subst (λ (n : ℕ). Searches c.args.index c' c.args.named n c.args.walk.now.named.items c.loop-k.walk.named.items c.loop-k.walk.folders.items) end (c.loop-k.invariant.sought c' each)

pub returns-clause-deep : goal.returns-clause-deep
returns-clause-deep c c' each quiet i lt folder =
    let end : c.loop-k.k ≡ 102 = omega (arith, c.loop-k-test.false, c.loop-k.auto.k-end) in
    c.loop-k.invariant.deep c' each quiet i (omega (arith, lt, end)) folder

pub returns-clause-asks : goal.returns-clause-asks
returns-clause-asks c c' each small apart =
    let end : c.loop-k.k ≡ 102 = omega (arith, c.loop-k-test.false, c.loop-k.auto.k-end) in
    subst (λ (n : ℕ). Asks c.args.index c' n c.args.walk.now.named.items c.loop-k.walk.named.items) end (c.loop-k.invariant.asks c' each small apart)

pub returns-clause-heads : goal.returns-clause-heads
returns-clause-heads c c' each =
    let end : c.loop-k.k ≡ 102 = omega (arith, c.loop-k-test.false, c.loop-k.auto.k-end) in
    subst (λ (n : ℕ). Leads c.args.index c' n c.args.walk.now.named.items c.args.walk.now.folders.items c.loop-k.walk.folders.items) end (c.loop-k.invariant.heads c' each)

pub returns-clause-eight : goal.returns-clause-eight
returns-clause-eight c c' each = c.loop-k.invariant.eight c' each
