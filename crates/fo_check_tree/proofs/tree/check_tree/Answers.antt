use Rattle.std.proofs.Common.{◌≡◌, ⊎_elim, Some, ℕ, ◌-◌, true, None, take, List, [], ◌∷◌, append-nil, refl, sym, ap, ◌∙◌, subst, rules, arith}
use Rattle.std.proofs.lemmas.Result.{err_from_is_err_and}
use Rattle.fo_disk.specs.Disk.{DiskState}
use Rattle.fo_sound.specs.Device.{Shows}
use Rattle.fo_check_tree.specs.declared.walk.Walk.{Walk}
use Rattle.fo_image.specs.declared.record.RootBlock.{RootBlock}
use Rattle.fo_check_labels.specs.declared.labels.Labels.{Labels}
use Rattle.fo_check_labels.specs.Known.{reached}
use Rattle.fo_check_tree.specs.Dirs.{AreJudged}
use Rattle.fo_check_tree.specs.Lower.{IsRule, JudgesRoot}
use Rattle.fo_check_tree.specs.declared.broken.Broken.{Broken}
use Rattle.fo_check_tree.specs.Notes.{KeepsRules}
use Rattle.fo_check_tree.specs.Answer.{NamesFormats, NamesPairs, NamesNumbers}
use Rattle.fo_check_tree.specs.Grounds.{HasGrounds}
use Rattle.fo_check_tree.proofs.Grounding.{formats_kept}
use Rattle.fo_check_tree.proofs.Granting.{grounds_open}
use Rattle.fo_check_tree.specs.Walking.{IsUnbegun, Walking, tops}
use Rattle.fo_check_tree.proofs.Adding.{on_ok_is}
use Rattle.fo_check_tree.proofs.Answering.{walked}
use Rattle.fo_check_tree.proofs.Ending.{refuses_table, refuses_tree}
use Rattle.fo_check_tree.proofs.Formatting.{formed_like, formed_open}
use Rattle.fo_check_tree.proofs.Judging.{judged_like, judged_open, judged_folder}
use Rattle.fo_check_tree.specs.Numbers.{HasSources, AreNumbers}
use Rattle.fo_check_tree.proofs.Collecting.{numbers_none, names_numbers}
use Rattle.fo_check_tree.proofs.Deepening.{sources_open}
use Rattle.fo_check_tree.proofs.Lacking.{names_kept, heads_open}
use Rattle.fo_check_tree.proofs.Levels.{judges_later}
use Rattle.fo_check_labels.proofs.Scanning.{table_whole}
use Rattle.fo_check_labels.proofs.Marking.{reached_left}
use Rattle.fo_check_tree.proofs.Sounding.{holds_sound, names_none, refuses_none}
use Rattle.fo_check_names.specs.declared.names.Number.{Number}
use Rattle.fo_check_tree.specs.Pairing.{AreSettled, HasHeads}
use Rattle.fo_check_tree.proofs.Settling.{settled_like, settled_on}
use Rattle.fo_check_tree.proofs.Spreading.{tree_depths, above_like, above_on}
use Rattle.fo_check_tree.proofs.Starting.{read_table, read_unreached}
use Rattle.fo_check_tree.proofs.Stepping.{opened, emptied, walking_like}
use Rattle.fo_check_tree.proofs.tree.check_tree.Goals as goal

none_some : (b : Broken) → None ≡ Some b → ⊥
none_some b e = cc

pub returns-clause-table : goal.returns-clause-table
returns-clause-table g c image len shows = table_whole c.args.setting.blocks len (c.in_ok-labels.ensures.table image len shows)

pub returns-clause-root : goal.returns-clause-root
returns-clause-root g c = judges_later c.check_numbers.ensures.lowers.low c.loop-folder.invariant.judged

pub returns-in_err-labels-clause-walked : goal.returns-in_err-labels-clause-walked
returns-in_err-labels-clause-walked g c arena device image k len shows is holds =
    let p = err_from_is_err_and c.from_residual.result c.from_residual.ensures.1 in
    rw (p.1, p.2) (refuses_table arena device image k c.in_err-labels.field-0.0 (c.in_err-labels.ensures.table device len shows))

pub loop-folder-init : goal.loop-folder-init
loop-folder-init g c = record {
  size = search rules;
  walks = λ arena device image k len shows is holds.
      let scan = c.in_ok-labels.ensures.table device len shows in
      let start : Walk = record { blocks = c.args.setting.blocks; epoch = c.args.setting.s.high; active = true; labels = c.in_ok-labels.labels; noted = None; steps = c.new.result; folders = c.new-2.result; named = c.new-3.result } in
      let u : IsUnbegun device c.args.setting.s start = record {
        size = sym len;
        tree = (refl, refl);
        table = read_table device c.in_ok-labels.labels.known.items c.args.setting.blocks len scan c.in_ok-labels.labels.ascending;
        unreached = read_unreached device c.in_ok-labels.labels.known.items c.args.setting.blocks len scan c.in_ok-labels.labels.ascending;
        nothing = (c.new.ensures.items, c.new-2.ensures.items, refl);
      } in
      on_ok_is c.start.result _ (sym c.is_err.ensures.value ∙ c.if-is_err.false) (c.start.ensures.begun arena device image k is holds u);
  dirs = λ arena device image k len shows is holds.
      let scan = c.in_ok-labels.ensures.table device len shows in
      let start : Walk = record { blocks = c.args.setting.blocks; epoch = c.args.setting.s.high; active = true; labels = c.in_ok-labels.labels; noted = None; steps = c.new.result; folders = c.new-2.result; named = c.new-3.result } in
      let u : IsUnbegun device c.args.setting.s start = record {
        size = sym len;
        tree = (refl, refl);
        table = read_table device c.in_ok-labels.labels.known.items c.args.setting.blocks len scan c.in_ok-labels.labels.ascending;
        unreached = read_unreached device c.in_ok-labels.labels.known.items c.args.setting.blocks len scan c.in_ok-labels.labels.ascending;
        nothing = (c.new.ensures.items, c.new-2.ensures.items, refl);
      } in
      on_ok_is c.start.result _ (sym c.is_err.ensures.value ∙ c.if-is_err.false) (c.start.ensures.dirs arena device image k is holds u);
  formed = λ arena device image k len shows is holds.
      let scan = c.in_ok-labels.ensures.table device len shows in
      let start : Walk = record { blocks = c.args.setting.blocks; epoch = c.args.setting.s.high; active = true; labels = c.in_ok-labels.labels; noted = None; steps = c.new.result; folders = c.new-2.result; named = c.new-3.result } in
      let u : IsUnbegun device c.args.setting.s start = record {
        size = sym len;
        tree = (refl, refl);
        table = read_table device c.in_ok-labels.labels.known.items c.args.setting.blocks len scan c.in_ok-labels.labels.ascending;
        unreached = read_unreached device c.in_ok-labels.labels.known.items c.args.setting.blocks len scan c.in_ok-labels.labels.ascending;
        nothing = (c.new.ensures.items, c.new-2.ensures.items, refl);
      } in
      on_ok_is c.start.result _ (sym c.is_err.ensures.value ∙ c.if-is_err.false) (c.start.ensures.formed arena device image k is holds u);
  depths = λ arena device image k len shows is holds.
      let scan = c.in_ok-labels.ensures.table device len shows in
      let start : Walk = record { blocks = c.args.setting.blocks; epoch = c.args.setting.s.high; active = true; labels = c.in_ok-labels.labels; noted = None; steps = c.new.result; folders = c.new-2.result; named = c.new-3.result } in
      let u : IsUnbegun device c.args.setting.s start = record {
        size = sym len;
        tree = (refl, refl);
        table = read_table device c.in_ok-labels.labels.known.items c.args.setting.blocks len scan c.in_ok-labels.labels.ascending;
        unreached = read_unreached device c.in_ok-labels.labels.known.items c.args.setting.blocks len scan c.in_ok-labels.labels.ascending;
        nothing = (c.new.ensures.items, c.new-2.ensures.items, refl);
      } in
      on_ok_is c.start.result _ (sym c.is_err.ensures.value ∙ c.if-is_err.false) (c.start.ensures.depths arena device image k is holds u);
  counts = λ arena device image k len shows is holds above.
      subst (λ (xs : List Number). AreNumbers arena image k c.start.new.walk.labels.known.items xs) (sym c.new-numbers.ensures.items) (numbers_none arena image k c.start.new.walk.labels.known.items);
  eight = λ arena device image k len shows is holds.
      let scan = c.in_ok-labels.ensures.table device len shows in
      let start : Walk = record { blocks = c.args.setting.blocks; epoch = c.args.setting.s.high; active = true; labels = c.in_ok-labels.labels; noted = None; steps = c.new.result; folders = c.new-2.result; named = c.new-3.result } in
      let u : IsUnbegun device c.args.setting.s start = record {
        size = sym len;
        tree = (refl, refl);
        table = read_table device c.in_ok-labels.labels.known.items c.args.setting.blocks len scan c.in_ok-labels.labels.ascending;
        unreached = read_unreached device c.in_ok-labels.labels.known.items c.args.setting.blocks len scan c.in_ok-labels.labels.ascending;
        nothing = (c.new.ensures.items, c.new-2.ensures.items, refl);
      } in
      on_ok_is c.start.result _ (sym c.is_err.ensures.value ∙ c.if-is_err.false) (c.start.ensures.eight arena device image k c.args.setting.s.numbers is holds u);
  heads = λ arena device image k len shows is holds.
      let scan = c.in_ok-labels.ensures.table device len shows in
      let start : Walk = record { blocks = c.args.setting.blocks; epoch = c.args.setting.s.high; active = true; labels = c.in_ok-labels.labels; noted = None; steps = c.new.result; folders = c.new-2.result; named = c.new-3.result } in
      let u : IsUnbegun device c.args.setting.s start = record {
        size = sym len;
        tree = (refl, refl);
        table = read_table device c.in_ok-labels.labels.known.items c.args.setting.blocks len scan c.in_ok-labels.labels.ascending;
        unreached = read_unreached device c.in_ok-labels.labels.known.items c.args.setting.blocks len scan c.in_ok-labels.labels.ascending;
        nothing = (c.new.ensures.items, c.new-2.ensures.items, refl);
      } in
      on_ok_is c.start.result _ (sym c.is_err.ensures.value ∙ c.if-is_err.false) (c.start.ensures.heads arena device image k is holds u);
  grounds = λ arena device image k len shows is holds.
      let scan = c.in_ok-labels.ensures.table device len shows in
      let start : Walk = record { blocks = c.args.setting.blocks; epoch = c.args.setting.s.high; active = true; labels = c.in_ok-labels.labels; noted = None; steps = c.new.result; folders = c.new-2.result; named = c.new-3.result } in
      let u : IsUnbegun device c.args.setting.s start = record {
        size = sym len;
        tree = (refl, refl);
        table = read_table device c.in_ok-labels.labels.known.items c.args.setting.blocks len scan c.in_ok-labels.labels.ascending;
        unreached = read_unreached device c.in_ok-labels.labels.known.items c.args.setting.blocks len scan c.in_ok-labels.labels.ascending;
        nothing = (c.new.ensures.items, c.new-2.ensures.items, refl);
      } in
      on_ok_is c.start.result _ (sym c.is_err.ensures.value ∙ c.if-is_err.false) (c.start.ensures.grounds arena device image k is holds u);
  settled = λ arena device image k len shows is holds.
      let scan = c.in_ok-labels.ensures.table device len shows in
      let start : Walk = record { blocks = c.args.setting.blocks; epoch = c.args.setting.s.high; active = true; labels = c.in_ok-labels.labels; noted = None; steps = c.new.result; folders = c.new-2.result; named = c.new-3.result } in
      let u : IsUnbegun device c.args.setting.s start = record {
        size = sym len;
        tree = (refl, refl);
        table = read_table device c.in_ok-labels.labels.known.items c.args.setting.blocks len scan c.in_ok-labels.labels.ascending;
        unreached = read_unreached device c.in_ok-labels.labels.known.items c.args.setting.blocks len scan c.in_ok-labels.labels.ascending;
        nothing = (c.new.ensures.items, c.new-2.ensures.items, refl);
      } in
      subst (λ (xs : List Number). AreSettled arena image k c.start.new.walk.noted c.start.new.walk.folders.items xs) (sym c.new-numbers.ensures.items)
      (on_ok_is c.start.result _ (sym c.is_err.ensures.value ∙ c.if-is_err.false) (c.start.ensures.pairs arena device image k is holds u));
  rules = λ b e.
      let r : KeepsRules None c.start.new.walk.noted = on_ok_is c.start.result _ (sym c.is_err.ensures.value ∙ c.if-is_err.false) c.start.ensures.rules in
      ⊎_elim (λ (before : None ≡ Some b). absurd (none_some b before)) (λ (now : IsRule b.rule). now) (r.each b e);
  judged = search rules;
  same = search rules;
  reads =
      let left = on_ok_is c.start.result _ (sym c.is_err.ensures.value ∙ c.if-is_err.false) c.start.ensures.left in
      omega (arith, left.0, left.1, reached_left c.in_ok-labels.labels, c.read.ensures.reads);
  once =
      let left = on_ok_is c.start.result _ (sym c.is_err.ensures.value ∙ c.if-is_err.false) (c.start.ensures.watched g.D.Reads.watched) in
      omega (arith, left, c.in_ok-labels.ensures.once);
  few =
      let left = on_ok_is c.start.result _ (sym c.is_err.ensures.value ∙ c.if-is_err.false) c.start.ensures.left in
      omega (arith, left.1, c.in_ok-labels.ensures.few);
  kept = search rules;
  later = search rules;
}

pub loop-folder-preserved : goal.loop-folder-preserved
loop-folder-preserved g c = record {
  size = search rules;
  walks = λ arena device image k len shows is holds.
      let s = c.args.setting.s in
      let before = c.loop-folder.invariant.walks arena device image k len shows is holds in
      let old : Walk = record c.loop-folder.walk { folders = c.pop.new.self } in
      let open' : Walking arena device image s k (tops c.in-Some.folder) old = opened arena device image s k c.loop-folder.walk old (record { blocks = refl; epoch = refl; active = refl; labels = refl; noted = refl }) c.in-Some.folder c.in-Some.ensures.items refl before.0 in
      (c.in_ok-walk_folder.ensures.walks arena device image s k (subst (λ (s : DiskState). Shows s.holds device) (sym c.loop-folder.invariant.kept) shows) open', c.in_ok-walk_folder.ensures.done);
  dirs = λ arena device image k len shows is holds.
      let s = c.args.setting.s in
      let f = c.in-Some.folder in
      let before = c.loop-folder.invariant.walks arena device image k len shows is holds in
      let old : Walk = record c.loop-folder.walk { folders = c.pop.new.self } in
      let open' : Walking arena device image s k (tops f) old = opened arena device image s k c.loop-folder.walk old (record { blocks = refl; epoch = refl; active = refl; labels = refl; noted = refl }) f c.in-Some.ensures.items refl before.0 in
      let shows' : Shows (g.D.Reads.state c.loop-folder.main).holds device = subst (λ (s : DiskState). Shows s.holds device) (sym c.loop-folder.invariant.kept) shows in
      let left : AreJudged arena image k (f ∷ []) old = judged_open arena device image s k c.loop-folder.walk old f refl refl c.in-Some.ensures.items (c.loop-folder.invariant.dirs arena device image k len shows is holds) in
      let after : AreJudged arena image k (f ∷ []) c.walk_folder.new.walk = c.in_ok-walk_folder.ensures.dirs arena device image s k (f ∷ []) shows' open' left in
      judged_folder arena device image s k c.walk_folder.new.walk f (c.in_ok-walk_folder.ensures.walks arena device image s k shows' open')
      (λ meta of quiet. c.in_ok-walk_folder.ensures.names arena device image s k meta shows' open' of before.1 quiet) after;
  formed = λ arena device image k len shows is holds.
      let s = c.args.setting.s in
      let f = c.in-Some.folder in
      let before = c.loop-folder.invariant.walks arena device image k len shows is holds in
      let old : Walk = record c.loop-folder.walk { folders = c.pop.new.self } in
      let open' : Walking arena device image s k (tops f) old = opened arena device image s k c.loop-folder.walk old (record { blocks = refl; epoch = refl; active = refl; labels = refl; noted = refl }) f c.in-Some.ensures.items refl before.0 in
      let shows' : Shows (g.D.Reads.state c.loop-folder.main).holds device = subst (λ (x : DiskState). Shows x.holds device) (sym c.loop-folder.invariant.kept) shows in
      c.in_ok-walk_folder.ensures.formed arena device image s k [] shows' open'
      (formed_open arena image k c.loop-folder.walk.labels.known.items c.loop-folder.walk.noted c.loop-folder.walk.steps.items c.loop-folder.walk.folders.items c.pop.new.self.items f c.in-Some.ensures.items (c.loop-folder.invariant.formed arena device image k len shows is holds));
  settled = λ arena device image k len shows is holds.
      let s = c.args.setting.s in
      let f = c.in-Some.folder in
      let before = c.loop-folder.invariant.walks arena device image k len shows is holds in
      let old : Walk = record c.loop-folder.walk { folders = c.pop.new.self } in
      let open' : Walking arena device image s k (tops f) old = opened arena device image s k c.loop-folder.walk old (record { blocks = refl; epoch = refl; active = refl; labels = refl; noted = refl }) f c.in-Some.ensures.items refl before.0 in
      let shows' : Shows (g.D.Reads.state c.loop-folder.main).holds device = subst (λ (x : DiskState). Shows x.holds device) (sym c.loop-folder.invariant.kept) shows in
      settled_on arena image k c.loop-folder.walk.noted c.walk_folder.new.walk.noted c.pop.new.self.items c.walk_folder.new.walk.folders.items c.loop-folder.walk.folders.items f c.in-Some.ensures.items
      (c.in_ok-walk_folder.ensures.grows arena device image s k shows' open') c.in_ok-walk_folder.ensures.level c.loop-folder.numbers.items c.walk_folder.new.numbers.items
      (c.loop-folder.invariant.settled arena device image k len shows is holds)
      (λ lead. c.in_ok-walk_folder.ensures.pairs arena device image s k shows' open' before.1 lead)
      c.in_ok-walk_folder.ensures.uncounted;
  depths = λ arena device image k len shows is holds.
      let s = c.args.setting.s in
      let f = c.in-Some.folder in
      let before = c.loop-folder.invariant.walks arena device image k len shows is holds in
      let old : Walk = record c.loop-folder.walk { folders = c.pop.new.self } in
      let open' : Walking arena device image s k (tops f) old = opened arena device image s k c.loop-folder.walk old (record { blocks = refl; epoch = refl; active = refl; labels = refl; noted = refl }) f c.in-Some.ensures.items refl before.0 in
      let shows' : Shows (g.D.Reads.state c.loop-folder.main).holds device = subst (λ (x : DiskState). Shows x.holds device) (sym c.loop-folder.invariant.kept) shows in
      above_on arena image k c.loop-folder.walk.noted c.walk_folder.new.walk.noted c.pop.new.self.items c.walk_folder.new.walk.folders.items c.loop-folder.walk.folders.items f c.in-Some.ensures.items
      (c.in_ok-walk_folder.ensures.grows arena device image s k shows' open') c.in_ok-walk_folder.ensures.level
      (λ deep w source quiet tree j h. c.in_ok-walk_folder.ensures.spread arena device image s k deep w shows' open' before.1 source quiet tree j h)
      (c.loop-folder.invariant.depths arena device image k len shows is holds);
  grounds = λ arena device image k len shows is holds.
      let s = c.args.setting.s in
      let f = c.in-Some.folder in
      let before = c.loop-folder.invariant.walks arena device image k len shows is holds in
      let old : Walk = record c.loop-folder.walk { folders = c.pop.new.self } in
      let open' : Walking arena device image s k (tops f) old = opened arena device image s k c.loop-folder.walk old (record { blocks = refl; epoch = refl; active = refl; labels = refl; noted = refl }) f c.in-Some.ensures.items refl before.0 in
      let shows' : Shows (g.D.Reads.state c.loop-folder.main).holds device = subst (λ (x : DiskState). Shows x.holds device) (sym c.loop-folder.invariant.kept) shows in
      let left = grounds_open arena image k c.loop-folder.walk.noted c.loop-folder.walk.steps.items c.loop-folder.walk.folders.items c.pop.new.self.items f c.in-Some.ensures.items (c.loop-folder.invariant.grounds arena device image k len shows is holds) in
      c.in_ok-walk_folder.ensures.grounds arena device image s k shows' open' before.1 left.1 left.0;
  heads = λ arena device image k len shows is holds.
      let s = c.args.setting.s in
      let f = c.in-Some.folder in
      let before = c.loop-folder.invariant.walks arena device image k len shows is holds in
      let old : Walk = record c.loop-folder.walk { folders = c.pop.new.self } in
      let open' : Walking arena device image s k (tops f) old = opened arena device image s k c.loop-folder.walk old (record { blocks = refl; epoch = refl; active = refl; labels = refl; noted = refl }) f c.in-Some.ensures.items refl before.0 in
      let shows' : Shows (g.D.Reads.state c.loop-folder.main).holds device = subst (λ (x : DiskState). Shows x.holds device) (sym c.loop-folder.invariant.kept) shows in
      let left = heads_open arena image k c.loop-folder.walk.noted c.loop-folder.walk.folders.items c.pop.new.self.items f c.in-Some.ensures.items (c.loop-folder.invariant.heads arena device image k len shows is holds) in
      c.in_ok-walk_folder.ensures.heads arena device image s k shows' open' before.1 left.0 left.1;
  eight = λ arena device image k len shows is holds.
      let s = c.args.setting.s in
      let f = c.in-Some.folder in
      let before = c.loop-folder.invariant.walks arena device image k len shows is holds in
      let old : Walk = record c.loop-folder.walk { folders = c.pop.new.self } in
      let open' : Walking arena device image s k (tops f) old = opened arena device image s k c.loop-folder.walk old (record { blocks = refl; epoch = refl; active = refl; labels = refl; noted = refl }) f c.in-Some.ensures.items refl before.0 in
      let shows' : Shows (g.D.Reads.state c.loop-folder.main).holds device = subst (λ (x : DiskState). Shows x.holds device) (sym c.loop-folder.invariant.kept) shows in
      let left = sources_open arena image k s.numbers c.loop-folder.walk.noted c.loop-folder.walk.folders.items c.pop.new.self.items f c.in-Some.ensures.items (c.loop-folder.invariant.eight arena device image k len shows is holds) in
      c.in_ok-walk_folder.ensures.eight arena device image s k s.numbers shows' open' before.1 left.0 left.1;
  counts = λ arena device image k len shows is holds.
      let s = c.args.setting.s in
      let f = c.in-Some.folder in
      let before = c.loop-folder.invariant.walks arena device image k len shows is holds in
      let old : Walk = record c.loop-folder.walk { folders = c.pop.new.self } in
      let open' : Walking arena device image s k (tops f) old = opened arena device image s k c.loop-folder.walk old (record { blocks = refl; epoch = refl; active = refl; labels = refl; noted = refl }) f c.in-Some.ensures.items refl before.0 in
      let shows' : Shows (g.D.Reads.state c.loop-folder.main).holds device = subst (λ (x : DiskState). Shows x.holds device) (sym c.loop-folder.invariant.kept) shows in
      let left = heads_open arena image k c.loop-folder.walk.noted c.loop-folder.walk.folders.items c.pop.new.self.items f c.in-Some.ensures.items (c.loop-folder.invariant.heads arena device image k len shows is holds) in
      c.in_ok-walk_folder.ensures.counts arena device image s k shows' open' before.1 left.0 (c.loop-folder.invariant.counts arena device image k len shows is holds);
  rules = λ b e. ⊎_elim (λ (before : c.loop-folder.walk.noted ≡ Some b). c.loop-folder.invariant.rules b before) (λ (now : IsRule b.rule). now) (c.in_ok-walk_folder.ensures.rules.each b e);
  judged = judges_later c.in_ok-walk_folder.ensures.level c.loop-folder.invariant.judged;
  same = search rules;
  reads = omega (arith, c.in_ok-walk_folder.ensures.reads.0, c.in_ok-walk_folder.ensures.reads.1, c.loop-folder.invariant.reads);
  once = omega (arith, c.in_ok-walk_folder.ensures.once, c.loop-folder.invariant.once);
  few = omega (arith, c.in_ok-walk_folder.ensures.reads.1, c.loop-folder.invariant.few);
  kept = search rules;
  later = search rules;
}

pub returns-in_err-walk_folder-clause-walked : goal.returns-in_err-walk_folder-clause-walked
returns-in_err-walk_folder-clause-walked g c arena device image k len shows is holds =
    let p = err_from_is_err_and c.from_residual-in_err-walk_folder.result c.from_residual-in_err-walk_folder.ensures.1 in
    let s = c.args.setting.s in
    let before = c.loop-folder.invariant.walks arena device image k len shows is holds in
    let old : Walk = record c.loop-folder.walk { folders = c.pop.new.self } in
    let open' : Walking arena device image s k (tops c.in-Some.folder) old = opened arena device image s k c.loop-folder.walk old (record { blocks = refl; epoch = refl; active = refl; labels = refl; noted = refl }) c.in-Some.folder c.in-Some.ensures.items refl before.0 in
    rw (p.1, p.2) (refuses_tree arena device image k c.in_err-walk_folder.field-0.0 (c.in_err-walk_folder.ensures.walks arena device image s k (subst (λ (s : DiskState). Shows s.holds device) (sym c.loop-folder.invariant.kept) shows) open'))

pub returns-clause-walked : goal.returns-clause-walked
returns-clause-walked g c arena device image k len shows is holds =
    let s = c.args.setting.s in
    let before = c.loop-folder.invariant.walks arena device image k len shows is holds in
    let end : Walk = record c.loop-folder.walk { folders = c.pop.new.self } in
    let none : c.pop.new.self.items ≡ [] = c.pop.ensures.rest ∙ ap (λ (n : ℕ). take (n - 1) c.loop-folder.walk.folders.items) c.in_default.ensures.cases.0 in
    let old_none : c.loop-folder.walk.folders.items ≡ [] = c.in_default.ensures.items ∙ append-nil c.pop.new.self.items ∙ none in
    let empty : Walking arena device image s k [] end = emptied arena device image s k c.loop-folder.walk end (record { blocks = refl; epoch = refl; active = refl; labels = refl; noted = refl }) [] refl (sym (append-nil c.pop.new.self.items) ∙ sym c.in_default.ensures.items) before.0 in
    let n = c.check_numbers.ensures in
    let grounds : HasGrounds arena image k c.loop-folder.walk.noted c.loop-folder.walk.steps.items c.loop-folder.walk.folders.items = c.loop-folder.invariant.grounds arena device image k len shows is holds in
    let five : NamesFormats arena image k c.check_numbers.new.walk.noted = formats_kept arena image k c.loop-folder.walk.noted c.check_numbers.new.walk.noted n.formats grounds.formats in
    let heads : HasHeads arena image k c.loop-folder.walk.noted c.loop-folder.walk.folders.items = c.loop-folder.invariant.heads arena device image k len shows is holds in
    let six : NamesPairs arena image k c.check_numbers.new.walk.noted = names_kept arena image k c.loop-folder.walk.noted c.check_numbers.new.walk.noted n.pairs heads.pairs in
    let depths : HasSources arena image k s.numbers c.loop-folder.walk.noted c.loop-folder.walk.folders.items = c.loop-folder.invariant.eight arena device image k len shows is holds in
    let eight : NamesNumbers arena image k s.numbers c.check_numbers.new.walk.noted = names_numbers arena image k s.numbers c.loop-folder.walk.noted c.check_numbers.new.walk.noted c.loop-folder.walk.labels.known.items c.loop-folder.numbers.items
    (c.loop-folder.invariant.counts arena device image k len shows is holds) n.eight depths.names in
    walked arena device image s k c.check_numbers.new.walk _ five six eight (n.steps ∙ before.1) (n.folders ∙ none) refl c.used.ensures c.leaked.ensures
    (judges_later n.lowers.low (subst (λ (r : RootBlock). JudgesRoot r c.loop-folder.walk.noted) (sym is) c.loop-folder.invariant.judged))
    (judged_like arena device image s k [] end c.check_numbers.new.walk (ap (λ (l : Labels). l.known.items) n.labels) n.folders n.lowers.low
    (judged_like arena device image s k [] c.loop-folder.walk end refl (none ∙ sym old_none) (omega arith) (c.loop-folder.invariant.dirs arena device image k len shows is holds)))
    (formed_like arena image k c.loop-folder.walk.labels.known.items _ c.loop-folder.walk.noted _ c.loop-folder.walk.steps.items _ c.loop-folder.walk.folders.items _ (ap (λ (l : Labels). l.known.items) n.labels) n.lowers.low n.steps (n.folders ∙ none ∙ sym old_none)
    (c.loop-folder.invariant.formed arena device image k len shows is holds))
    c.loop-folder.numbers.items
    (settled_like arena image k c.loop-folder.walk.noted c.check_numbers.new.walk.noted c.loop-folder.walk.folders.items _ c.loop-folder.numbers.items n.lowers.low (n.folders ∙ none ∙ sym old_none) (c.loop-folder.invariant.settled arena device image k len shows is holds))
    n.judged
    (λ quiet tree. tree_depths arena image k c.check_numbers.new.walk.noted
    (above_like arena image k c.loop-folder.walk.noted c.check_numbers.new.walk.noted c.loop-folder.walk.folders.items [] n.lowers.low (sym old_none) (c.loop-folder.invariant.depths arena device image k len shows is holds)) quiet tree)
    (walking_like arena device image s k [] end c.check_numbers.new.walk (record { blocks = n.blocks; epoch = n.tree.0; active = n.tree.1; labels = n.labels; steps = n.steps; folders = n.folders }) n.lowers empty)

pub returns-in_err-labels-clause-exact : goal.returns-in_err-labels-clause-exact
returns-in_err-labels-clause-exact g c arena device image k len shows is root table sound =
    let holds = holds_sound arena device image c.args.setting.s k root sound in
    let p = err_from_is_err_and c.from_residual.result c.from_residual.ensures.1 in
    rw (p.1, p.2) (λ block e. refuses_none arena device image c.args.setting.s k holds sound c.in_err-labels.field-0.0 table (refuses_table arena device image k c.in_err-labels.field-0.0 (c.in_err-labels.ensures.table device len shows)) block e)

pub returns-in_err-walk_folder-clause-exact : goal.returns-in_err-walk_folder-clause-exact
returns-in_err-walk_folder-clause-exact g c arena device image k len shows is root table sound =
    let holds = holds_sound arena device image c.args.setting.s k root sound in
    let p = err_from_is_err_and c.from_residual-in_err-walk_folder.result c.from_residual-in_err-walk_folder.ensures.1 in
    let s = c.args.setting.s in
    let before = c.loop-folder.invariant.walks arena device image k len shows is holds in
    let old : Walk = record c.loop-folder.walk { folders = c.pop.new.self } in
    let open' : Walking arena device image s k (tops c.in-Some.folder) old = opened arena device image s k c.loop-folder.walk old (record { blocks = refl; epoch = refl; active = refl; labels = refl; noted = refl }) c.in-Some.folder c.in-Some.ensures.items refl before.0 in
    rw (p.1, p.2) (λ block e. refuses_none arena device image s k holds sound c.in_err-walk_folder.field-0.0 table (refuses_tree arena device image k c.in_err-walk_folder.field-0.0 (c.in_err-walk_folder.ensures.walks arena device image s k (subst (λ (s : DiskState). Shows s.holds device) (sym c.loop-folder.invariant.kept) shows) open')) block e)

pub returns-clause-exact : goal.returns-clause-exact
returns-clause-exact g c arena device image k len shows is root table sound =
    let holds = holds_sound arena device image c.args.setting.s k root sound in names_none arena device image c.args.setting.s k holds sound _ (returns-clause-walked g c arena device image k len shows is holds)

pub returns-clause-rules : goal.returns-clause-rules
returns-clause-rules g c b e = ⊎_elim (λ (before : c.loop-folder.walk.noted ≡ Some b). c.loop-folder.invariant.rules b before) (λ (now : IsRule b.rule). now) (c.check_numbers.ensures.lowers.rules b e)

pub returns-clause-reads : goal.returns-clause-reads
returns-clause-reads g c =
    let l = c.loop-folder.walk.labels in
    let used = c.used.ensures ∙ ap (λ (x : Labels). reached x.known.items) c.check_numbers.ensures.labels in
    (omega (arith, c.loop-folder.invariant.reads, c.loop-folder.invariant.few, c.requires.least), omega (arith, c.loop-folder.invariant.reads, reached_left l, used))
