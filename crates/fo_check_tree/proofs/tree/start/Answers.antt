use Rattle.std.proofs.Common.{◌≡◌, ◌<◌, ⊎_elim, inl, inr, Option, None, refl, List, [], ◌∷◌, ◌++◌, Some, true, sym, ap, ◌∙◌, subst, arith}
use Rattle.fo_image.specs.declared.record.RootBlock.{RootBlock}
use Rattle.fo_image.specs.declared.types.Label.{Label}
use Rattle.fo_check_labels.specs.declared.labels.Labels.{Labels}
use Rattle.fo_check_labels.specs.Known.{left_at}
use Rattle.fo_check_tree.specs.declared.walk.Folder.{Folder}
use Rattle.fo_check_tree.specs.Lower.{JudgesRoot}
use Rattle.fo_sound.specs.Sound.{root_label, HasRootEntries}
use Rattle.fo_check_tree.specs.declared.broken.Broken.{Broken}
use Rattle.fo_check_tree.specs.Answer.BreaksPairs.{root as breaks_root}
use Rattle.fo_check_tree.proofs.Grounding.{formats_kept}
use Rattle.fo_check_tree.proofs.Granting.{formats_root, formats_none, grounds_begin}
use Rattle.fo_check_tree.proofs.Noting.{lowers_then, lowers_at, pairs_at, rules_then, rules_at, rules_by}
use Rattle.fo_check_tree.proofs.Starting.{IsEntryOf, begun, directories, formats, settles, heads_begin, sources_begin, depths_begin}
use Rattle.fo_check_tree.proofs.tree.start.Goals as goal

pub returns-clause-watched : goal.returns-clause-watched
returns-clause-watched c at =
    let same = ap (λ (l : Labels). left_at at l.known.items) (c.note_entries.ensures.labels ∙ c.shallow-records.ensures.labels ∙ c.shallow-entries.ensures.labels) in
    let spent = c.reach.ensures.spends at in
    omega (arith, same, spent)

pub returns-clause-judged : goal.returns-clause-judged
returns-clause-judged c = record {
  first = λ deep. let low = c.shallow-entries.ensures.deep deep in omega arith;
  second = λ deep. let low = c.shallow-records.ensures.deep deep in omega arith;
  entries = c.note_entries.ensures.entries;
}

pub returns-clause-begun : goal.returns-clause-begun
returns-clause-begun c arena device image k is holds u =
    let s = c.args.s.now in
    let old = c.args.walk.now in
    let e = c.shallow-entries.result in
    let r = c.shallow-records.result in
    let we : IsEntryOf k.root.entries e = subst (λ (x : RootBlock). IsEntryOf x.entries e) (sym is) (record { shallow = c.shallow-entries.ensures.entry; deep = c.shallow-entries.ensures.none }) in
    let wr : IsEntryOf k.root.meta r = subst (λ (x : RootBlock). IsEntryOf x.meta r) (sym is) (record { shallow = c.shallow-records.ensures.entry; deep = c.shallow-records.ensures.none }) in
    let low = lowers_then old.noted c.shallow-records.new.walk.noted c.note_entries.new.walk.noted
    (lowers_then old.noted c.shallow-entries.new.walk.noted c.shallow-records.new.walk.noted
    (lowers_at s.active old.noted c.shallow-entries.new.walk.noted c.shallow-entries.ensures.level c.shallow-entries.ensures.notes)
    (lowers_at s.active c.shallow-entries.new.walk.noted c.shallow-records.new.walk.noted c.shallow-records.ensures.level c.shallow-records.ensures.notes))
    c.note_entries.ensures.lowers in
    begun arena device image s k holds old _ u c.reach.result c.reach.new.self
    (c.note_entries.ensures.labels ∙ c.shallow-records.ensures.labels ∙ c.shallow-entries.ensures.labels)
    c.reach.ensures.marks low
    (c.note_entries.ensures.blocks ∙ c.shallow-records.ensures.blocks ∙ c.shallow-entries.ensures.blocks)
    (c.note_entries.ensures.tree.0 ∙ c.shallow-records.ensures.tree.0 ∙ c.shallow-entries.ensures.tree.0, c.note_entries.ensures.tree.1 ∙ c.shallow-records.ensures.tree.1 ∙ c.shallow-entries.ensures.tree.1)
    (c.note_entries.ensures.steps ∙ c.shallow-records.ensures.steps ∙ c.shallow-entries.ensures.steps)
    e r we wr
    (c.in_ok-push.ensures.items
    ∙ ap (λ (fs : List Folder). fs ++ record { entries = e; records = Some r; holder = record { block = s.active; label = c.root_label.result }; depth = 0; named = true } ∷ []) (c.note_entries.ensures.folders ∙ c.shallow-records.ensures.folders ∙ c.shallow-entries.ensures.folders)
    ∙ ap (λ (l : Label). old.folders.items ++ record { entries = e; records = Some r; holder = record { block = s.active; label = l }; depth = 0; named = true } ∷ []) c.root_label.ensures)
    (subst (λ (x : RootBlock). JudgesRoot x c.note_entries.new.walk.noted) (sym is) (returns-clause-judged c))

pub returns-clause-dirs : goal.returns-clause-dirs
returns-clause-dirs c arena device image k is holds u =
    let s = c.args.s.now in
    let old = c.args.walk.now in
    let e = c.shallow-entries.result in
    let r = c.shallow-records.result in
    let wr : IsEntryOf k.root.meta r = subst (λ (x : RootBlock). IsEntryOf x.meta r) (sym is) (record { shallow = c.shallow-records.ensures.entry; deep = c.shallow-records.ensures.none }) in
    let low = lowers_then old.noted c.shallow-records.new.walk.noted c.note_entries.new.walk.noted
    (lowers_then old.noted c.shallow-entries.new.walk.noted c.shallow-records.new.walk.noted
    (lowers_at s.active old.noted c.shallow-entries.new.walk.noted c.shallow-entries.ensures.level c.shallow-entries.ensures.notes)
    (lowers_at s.active c.shallow-entries.new.walk.noted c.shallow-records.new.walk.noted c.shallow-records.ensures.level c.shallow-records.ensures.notes))
    c.note_entries.ensures.lowers in
    directories arena device image s k holds old _ u c.reach.result c.reach.new.self
    (c.note_entries.ensures.labels ∙ c.shallow-records.ensures.labels ∙ c.shallow-entries.ensures.labels)
    c.reach.ensures.marks low e r wr
    (c.in_ok-push.ensures.items
    ∙ ap (λ (fs : List Folder). fs ++ record { entries = e; records = Some r; holder = record { block = s.active; label = c.root_label.result }; depth = 0; named = true } ∷ []) (c.note_entries.ensures.folders ∙ c.shallow-records.ensures.folders ∙ c.shallow-entries.ensures.folders)
    ∙ ap (λ (l : Label). old.folders.items ++ record { entries = e; records = Some r; holder = record { block = s.active; label = l }; depth = 0; named = true } ∷ []) c.root_label.ensures)
    (subst (λ (x : RootBlock). JudgesRoot x c.note_entries.new.walk.noted) (sym is) (returns-clause-judged c))

pub returns-clause-formed : goal.returns-clause-formed
returns-clause-formed c arena device image k is holds u =
    let s = c.args.s.now in
    let old = c.args.walk.now in
    let e = c.shallow-entries.result in
    let r = c.shallow-records.result in
    let wr : IsEntryOf k.root.meta r = subst (λ (x : RootBlock). IsEntryOf x.meta r) (sym is) (record { shallow = c.shallow-records.ensures.entry; deep = c.shallow-records.ensures.none }) in
    let low = lowers_then old.noted c.shallow-records.new.walk.noted c.note_entries.new.walk.noted
    (lowers_then old.noted c.shallow-entries.new.walk.noted c.shallow-records.new.walk.noted
    (lowers_at s.active old.noted c.shallow-entries.new.walk.noted c.shallow-entries.ensures.level c.shallow-entries.ensures.notes)
    (lowers_at s.active c.shallow-entries.new.walk.noted c.shallow-records.new.walk.noted c.shallow-records.ensures.level c.shallow-records.ensures.notes))
    c.note_entries.ensures.lowers in
    formats arena device image s k holds old (record c.note_entries.new.walk { folders = c.push.new.self }) u c.reach.result c.reach.new.self
    (c.note_entries.ensures.labels ∙ c.shallow-records.ensures.labels ∙ c.shallow-entries.ensures.labels)
    c.reach.ensures.marks low e r wr
    (c.in_ok-push.ensures.items
    ∙ ap (λ (fs : List Folder). fs ++ record { entries = e; records = Some r; holder = record { block = s.active; label = c.root_label.result }; depth = 0; named = true } ∷ []) (c.note_entries.ensures.folders ∙ c.shallow-records.ensures.folders ∙ c.shallow-entries.ensures.folders)
    ∙ ap (λ (l : Label). old.folders.items ++ record { entries = e; records = Some r; holder = record { block = s.active; label = l }; depth = 0; named = true } ∷ []) c.root_label.ensures)
    (subst (λ (x : RootBlock). JudgesRoot x c.note_entries.new.walk.noted) (sym is) (returns-clause-judged c))

pub returns-clause-pairs : goal.returns-clause-pairs
returns-clause-pairs c arena device image k is holds u =
    let s = c.args.s.now in
    let old = c.args.walk.now in
    let e = c.shallow-entries.result in
    let r = c.shallow-records.result in
    let we : IsEntryOf k.root.entries e = subst (λ (x : RootBlock). IsEntryOf x.entries e) (sym is) (record { shallow = c.shallow-entries.ensures.entry; deep = c.shallow-entries.ensures.none }) in
    let wr : IsEntryOf k.root.meta r = subst (λ (x : RootBlock). IsEntryOf x.meta r) (sym is) (record { shallow = c.shallow-records.ensures.entry; deep = c.shallow-records.ensures.none }) in
    settles arena device image s k holds old (record c.note_entries.new.walk { folders = c.push.new.self }) u e r we wr
    (c.in_ok-push.ensures.items
    ∙ ap (λ (fs : List Folder). fs ++ record { entries = e; records = Some r; holder = record { block = s.active; label = c.root_label.result }; depth = 0; named = true } ∷ []) (c.note_entries.ensures.folders ∙ c.shallow-records.ensures.folders ∙ c.shallow-entries.ensures.folders)
    ∙ ap (λ (l : Label). old.folders.items ++ record { entries = e; records = Some r; holder = record { block = s.active; label = l }; depth = 0; named = true } ∷ []) c.root_label.ensures)
    (subst (λ (x : RootBlock). JudgesRoot x c.note_entries.new.walk.noted) (sym is) (returns-clause-judged c))

pub returns-clause-depths : goal.returns-clause-depths
returns-clause-depths c arena device image k is holds u =
    let s = c.args.s.now in
    let old = c.args.walk.now in
    let e = c.shallow-entries.result in
    let r = c.shallow-records.result in
    let we : IsEntryOf k.root.entries e = subst (λ (x : RootBlock). IsEntryOf x.entries e) (sym is) (record { shallow = c.shallow-entries.ensures.entry; deep = c.shallow-entries.ensures.none }) in
    depths_begin arena device image s k holds old (record c.note_entries.new.walk { folders = c.push.new.self }) u e r we
    (c.in_ok-push.ensures.items
    ∙ ap (λ (fs : List Folder). fs ++ record { entries = e; records = Some r; holder = record { block = s.active; label = c.root_label.result }; depth = 0; named = true } ∷ []) (c.note_entries.ensures.folders ∙ c.shallow-records.ensures.folders ∙ c.shallow-entries.ensures.folders)
    ∙ ap (λ (l : Label). old.folders.items ++ record { entries = e; records = Some r; holder = record { block = s.active; label = l }; depth = 0; named = true } ∷ []) c.root_label.ensures)
    (subst (λ (x : RootBlock). JudgesRoot x c.note_entries.new.walk.noted) (sym is) (returns-clause-judged c))

pub returns-clause-grounds : goal.returns-clause-grounds
returns-clause-grounds c arena device image k is holds u =
    let s = c.args.s.now in
    let old = c.args.walk.now in
    let e = c.shallow-entries.result in
    let r = c.shallow-records.result in
    let f : Folder = record { entries = e; records = Some r; holder = record { block = s.active; label = root_label s }; depth = 0; named = true } in
    let wr : IsEntryOf k.root.meta r = subst (λ (x : RootBlock). IsEntryOf x.meta r) (sym is) (record { shallow = c.shallow-records.ensures.entry; deep = c.shallow-records.ensures.none }) in
    let first = formats_root arena device image s k holds c.args.root.now.entries.depth old.noted c.shallow-entries.new.walk.noted (λ deep. inl (subst (λ (x : RootBlock). 4 < x.entries.depth) (sym is) deep)) c.shallow-entries.ensures.notes c.shallow-entries.ensures.quiet
    (formats_none arena device image s k holds old.noted u.nothing.2) in
    let second = formats_root arena device image s k holds c.args.root.now.meta.depth c.shallow-entries.new.walk.noted c.shallow-records.new.walk.noted (λ deep. inr (subst (λ (x : RootBlock). 4 < x.meta.depth) (sym is) deep)) c.shallow-records.ensures.notes c.shallow-records.ensures.quiet first in
    let folders : c.push.new.self.items ≡ f ∷ [] = c.in_ok-push.ensures.items
    ∙ ap (λ (fs : List Folder). fs ++ record { entries = e; records = Some r; holder = record { block = s.active; label = c.root_label.result }; depth = 0; named = true } ∷ []) (c.note_entries.ensures.folders ∙ c.shallow-records.ensures.folders ∙ c.shallow-entries.ensures.folders)
    ∙ ap (λ (l : Label). old.folders.items ++ record { entries = e; records = Some r; holder = record { block = s.active; label = l }; depth = 0; named = true } ∷ []) c.root_label.ensures
    ∙ ap (λ (fs : List Folder). fs ++ f ∷ []) u.nothing.1 in
    grounds_begin arena device image s k holds c.note_entries.new.walk.noted c.note_entries.new.walk.steps.items c.push.new.self.items f r
    (formats_kept arena image k c.shallow-records.new.walk.noted c.note_entries.new.walk.noted c.note_entries.ensures.formats second)
    (c.note_entries.ensures.steps ∙ c.shallow-records.ensures.steps ∙ c.shallow-entries.ensures.steps ∙ u.nothing.0) folders refl wr

none_is : (o : Option Broken) (b : Broken) → o ≡ None → o ≡ Some b → ⊥
none_is o b is e = let no : None ≡ Some b = sym is ∙ e in cc

pub returns-clause-heads : goal.returns-clause-heads
returns-clause-heads c arena device image k is holds u =
    let s = c.args.s.now in
    let old = c.args.walk.now in
    let e = c.shallow-entries.result in
    let r = c.shallow-records.result in
    let we : IsEntryOf k.root.entries e = subst (λ (x : RootBlock). IsEntryOf x.entries e) (sym is) (record { shallow = c.shallow-entries.ensures.entry; deep = c.shallow-entries.ensures.none }) in
    let wr : IsEntryOf k.root.meta r = subst (λ (x : RootBlock). IsEntryOf x.meta r) (sym is) (record { shallow = c.shallow-records.ensures.entry; deep = c.shallow-records.ensures.none }) in
    record {
      pairs = record {
        each = λ b e six. ⊎_elim
            (λ (before : c.shallow-records.new.walk.noted ≡ Some b).
            let first = (pairs_at s.active c.shallow-entries.new.walk.noted c.shallow-records.new.walk.noted c.shallow-records.ensures.notes).same b before six in
            absurd (none_is old.noted b u.nothing.2 ((pairs_at s.active old.noted c.shallow-entries.new.walk.noted c.shallow-entries.ensures.notes).same b first six)))
            (λ (now : (s.active ≡ b.block) × (HasRootEntries c.args.root.now → ⊥)). breaks_root b.block (sym now.0 ∙ sym holds.at) (λ h. now.1 (subst (λ (x : RootBlock). HasRootEntries x) is h)))
            (c.note_entries.ensures.pairs b e six);
      };
      heads = heads_begin arena device image s k holds old (record c.note_entries.new.walk { folders = c.push.new.self }) u e r we wr
          (c.in_ok-push.ensures.items
          ∙ ap (λ (fs : List Folder). fs ++ record { entries = e; records = Some r; holder = record { block = s.active; label = c.root_label.result }; depth = 0; named = true } ∷ []) (c.note_entries.ensures.folders ∙ c.shallow-records.ensures.folders ∙ c.shallow-entries.ensures.folders)
          ∙ ap (λ (l : Label). old.folders.items ++ record { entries = e; records = Some r; holder = record { block = s.active; label = l }; depth = 0; named = true } ∷ []) c.root_label.ensures)
          (subst (λ (x : RootBlock). JudgesRoot x c.note_entries.new.walk.noted) (sym is) (returns-clause-judged c));
    }

pub returns-clause-eight : goal.returns-clause-eight
returns-clause-eight c arena device image k limit is holds u =
    let s = c.args.s.now in
    let old = c.args.walk.now in
    let e = c.shallow-entries.result in
    let r = c.shallow-records.result in
    let we : IsEntryOf k.root.entries e = subst (λ (x : RootBlock). IsEntryOf x.entries e) (sym is) (record { shallow = c.shallow-entries.ensures.entry; deep = c.shallow-entries.ensures.none }) in
    let wr : IsEntryOf k.root.meta r = subst (λ (x : RootBlock). IsEntryOf x.meta r) (sym is) (record { shallow = c.shallow-records.ensures.entry; deep = c.shallow-records.ensures.none }) in
    record {
      names = record {
        each = λ b e eight.
            let first : c.shallow-records.new.walk.noted ≡ Some b = c.note_entries.ensures.eight.same b e eight in
            absurd (none_is old.noted b u.nothing.2 (c.shallow-entries.ensures.eight.same b (c.shallow-records.ensures.eight.same b first eight) eight));
      };
      sources = sources_begin arena device image s k holds old (record c.note_entries.new.walk { folders = c.push.new.self }) u e r we wr
          (c.in_ok-push.ensures.items
          ∙ ap (λ (fs : List Folder). fs ++ record { entries = e; records = Some r; holder = record { block = s.active; label = c.root_label.result }; depth = 0; named = true } ∷ []) (c.note_entries.ensures.folders ∙ c.shallow-records.ensures.folders ∙ c.shallow-entries.ensures.folders)
          ∙ ap (λ (l : Label). old.folders.items ++ record { entries = e; records = Some r; holder = record { block = s.active; label = l }; depth = 0; named = true } ∷ []) c.root_label.ensures)
          (subst (λ (x : RootBlock). JudgesRoot x c.note_entries.new.walk.noted) (sym is) (returns-clause-judged c));
    }

pub returns-clause-rules : goal.returns-clause-rules
returns-clause-rules c = rules_then c.args.walk.now.noted c.shallow-records.new.walk.noted c.note_entries.new.walk.noted
    (rules_then c.args.walk.now.noted c.shallow-entries.new.walk.noted c.shallow-records.new.walk.noted
    (rules_at c.args.s.now.active c.args.walk.now.noted c.shallow-entries.new.walk.noted c.shallow-entries.ensures.notes)
    (rules_at c.args.s.now.active c.shallow-entries.new.walk.noted c.shallow-records.new.walk.noted c.shallow-records.ensures.notes))
    (rules_by c.shallow-records.new.walk.noted c.note_entries.new.walk.noted c.note_entries.ensures.lowers)
