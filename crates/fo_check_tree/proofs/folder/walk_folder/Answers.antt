use Rattle.std.proofs.Common.{◌≡◌, ℕ, suc, ◌^◌, ◌-◌, ◌+◌, ◌*◌, ◌<◌, ◌≤◌, Bool, true, false, Option, Some, rules, MatchOption, List, [], ◌∷◌, ◌++◌, refl, sym, ap, ◌∙◌, subst, arith}
use Rattle.std.proofs.lemmas.Result.{err_from_is_err_and}
use Rattle.fo_disk.specs.Disk.{DiskState}
use Rattle.fo_sound.specs.Device.{Shows}
use Rattle.fo_check_tree.specs.declared.walk.Holds.TheVariants.{Bytes}
use Rattle.fo_check_tree.specs.declared.walk.Step.{Step}
use Rattle.fo_check_labels.specs.declared.labels.Labels.{Labels}
use Rattle.fo_check_tree.specs.declared.walk.Folder.{Folder}
use Rattle.fo_check_tree.specs.Formats.{AreFormed}
use Rattle.fo_check_tree.specs.Dirs.{AreJudged}
use Rattle.fo_check_tree.specs.Slots.{top_step}
use Rattle.fo_check_tree.specs.Walking.{Walking, tops}
use Rattle.std.proofs.lemmas.Bool.{false≢true}
use Rattle.std.specs.List.{All, Any, AllByRecursion}
use Rattle.fo_good.specs.Trees.{size_of}
use Rattle.fo_check_names.specs.Names.{IsPaired, IsUnpaired}
use Rattle.fo_check_names.specs.declared.names.Named.{Named}
use Rattle.fo_crash.specs.declared.slot.Slot.{Slot}
use Rattle.fo_check_tree.specs.Answer.{BreaksPairs, NamesPairs}
use Rattle.fo_check_tree.specs.Answer.BreaksPairs.{lacks as lacks_pair}
use Rattle.fo_check_tree.specs.Lower.{level}
use Rattle.fo_check_tree.specs.Pairing.{IsApart, AreInOrder, AreSought, AreAsked, AreLed, IsSettled, IsOfDir}
use Rattle.fo_check_tree.proofs.Lacking.{lacking, names_kept, names_slots, names_lacking, Heads, heads_unnamed, heads_led, asked_first, hidden_first, led_first}
use Rattle.fo_check_tree.proofs.Seeking.{grows_then, grows_like, sought_first}
use Rattle.fo_check_tree.proofs.Fitting.{settled}
use Rattle.fo_check_tree.proofs.Formatting.{formed_like, formed_push}
use Rattle.fo_check_tree.proofs.Judging.{judged_like}
use Rattle.fo_check_labels.proofs.Marking.{is_pushed}
use Rattle.fo_check_tree.proofs.Noting.{lowers_leaf, keeps_leaf, numbers_leaf, rules_then, rules_leaf}
use Rattle.fo_check_names.specs.declared.names.Number.{Number}
use Rattle.fo_check_tree.specs.Numbers.{AreBelow, HasSources, AreFresh, AreNumbers}
use Rattle.fo_check_tree.proofs.Collecting.{numbers_seen, numbers_more}
use Rattle.fo_check_tree.proofs.Deepening.{below_entries, sources_like}
use Rattle.fo_check_tree.specs.Grounds.{HasGrounds}
use Rattle.fo_check_tree.proofs.Grounding.{formats_kept}
use Rattle.fo_check_tree.proofs.Granting.{grounds_like, grounds_push, entries_top}
use Rattle.std.specs.Prelude.{min}
use Rattle.fo_image.specs.declared.types.Kind.TheVariants.{Dir}
use Rattle.fo_crash.specs.Images.{depth_of, entry_of as entry_at}
use Rattle.fo_check_tree.specs.Depths.{IsSourceOf, AreSpread}
use Rattle.fo_check_tree.specs.Listing.{SomeOf}
use Rattle.fo_check_tree.proofs.Spreading.{spread_first, spread_whole}
use Rattle.fo_check_tree.proofs.Stepping.{emptied, pushed, walking_like}
use Rattle.fo_check_tree.proofs.folder.walk_folder.Goals as goal

pub returns-in_err-list-clause-walks : goal.returns-in_err-list-clause-walks
returns-in_err-list-clause-walks g c arena device image s k shows w =
    let p = err_from_is_err_and c.from_residual.result c.from_residual.ensures.1 in
    let f = c.args.folder.now in
    let fresh = emptied arena device image s k c.args.walk.now (record c.args.walk.now { named = c.new.result }) (record { blocks = refl; epoch = refl; active = refl; labels = refl; noted = refl }) (tops f) refl refl w in
    rw (p.1, p.2) (c.in_err-list.ensures.walks arena device image s k shows fresh)

pub returns-in_err-follow_all-clause-walks : goal.returns-in_err-follow_all-clause-walks
returns-in_err-follow_all-clause-walks g c arena device image s k shows w =
    let p = err_from_is_err_and c.from_residual-in_err-follow_all.result c.from_residual-in_err-follow_all.ensures.1 in
    let f = c.args.folder.now in
    let a : Step = top_step f.entries Bytes f.holder in
    let fresh = emptied arena device image s k c.args.walk.now (record c.args.walk.now { named = c.new.result }) (record { blocks = refl; epoch = refl; active = refl; labels = refl; noted = refl }) (tops f) refl refl w in
    let listed : Walking arena device image s k (a ∷ []) c.list.new.walk = c.in_ok-list.ensures.walks arena device image s k shows fresh in
    let items : c.push.new.self.items ≡ c.list.new.walk.steps.items ++ top_step f.entries c.holds_in-holds.result f.holder ∷ [] =
    is_pushed c.push.result c.list.new.walk.steps.items (c.list.new.walk.steps.items ++ c.top-top.result ∷ []) c.push.new.self.items (sym c.is_err.ensures.value ∙ c.if-is_err.false) c.push.ensures.items
    ∙ ap (λ (x : Step). c.list.new.walk.steps.items ++ x ∷ []) c.top-top.ensures in
    let next : Walking arena device image s k [] (record c.list.new.walk { steps = c.push.new.self }) = pushed arena device image s k c.list.new.walk (record c.list.new.walk { steps = c.push.new.self }) (record { blocks = refl; epoch = refl; active = refl; labels = refl; noted = refl }) [] f.entries f.holder Bytes c.holds_in-holds.result items refl listed in
    let still : Shows (g.D.Reads.state c.list.new.main).holds device = subst (λ (s : DiskState). Shows s.holds device) (sym c.list.ensures.kept) shows in
    rw (p.1, p.2) (c.in_err-follow_all.ensures.walks arena device image s k [] still next)

pub returns-then-not-folder-clause-walks : goal.returns-then-not-folder-clause-walks
returns-then-not-folder-clause-walks g c arena device image s k shows w =
    let f = c.args.folder.now in
    let a : Step = top_step f.entries Bytes f.holder in
    let fresh = emptied arena device image s k c.args.walk.now (record c.args.walk.now { named = c.new.result }) (record { blocks = refl; epoch = refl; active = refl; labels = refl; noted = refl }) (tops f) refl refl w in
    let listed : Walking arena device image s k (a ∷ []) c.list.new.walk = c.in_ok-list.ensures.walks arena device image s k shows fresh in
    let items : c.push.new.self.items ≡ c.list.new.walk.steps.items ++ top_step f.entries c.holds_in-holds.result f.holder ∷ [] =
    is_pushed c.push.result c.list.new.walk.steps.items (c.list.new.walk.steps.items ++ c.top-top.result ∷ []) c.push.new.self.items (sym c.is_err.ensures.value ∙ c.if-is_err.false) c.push.ensures.items
    ∙ ap (λ (x : Step). c.list.new.walk.steps.items ++ x ∷ []) c.top-top.ensures in
    let next : Walking arena device image s k [] (record c.list.new.walk { steps = c.push.new.self }) = pushed arena device image s k c.list.new.walk (record c.list.new.walk { steps = c.push.new.self }) (record { blocks = refl; epoch = refl; active = refl; labels = refl; noted = refl }) [] f.entries f.holder Bytes c.holds_in-holds.result items refl listed in
    let still : Shows (g.D.Reads.state c.list.new.main).holds device = subst (λ (s : DiskState). Shows s.holds device) (sym c.list.ensures.kept) shows in
    c.in_ok-follow_all.ensures.walks arena device image s k [] still next

pub returns-clause-walks : goal.returns-clause-walks
returns-clause-walks g c arena device image s k shows w =
    let f = c.args.folder.now in
    let a : Step = top_step f.entries Bytes f.holder in
    let fresh = emptied arena device image s k c.args.walk.now (record c.args.walk.now { named = c.new.result }) (record { blocks = refl; epoch = refl; active = refl; labels = refl; noted = refl }) (tops f) refl refl w in
    let listed : Walking arena device image s k (a ∷ []) c.list.new.walk = c.in_ok-list.ensures.walks arena device image s k shows fresh in
    let items : c.push.new.self.items ≡ c.list.new.walk.steps.items ++ top_step f.entries c.holds_in-holds.result f.holder ∷ [] =
    is_pushed c.push.result c.list.new.walk.steps.items (c.list.new.walk.steps.items ++ c.top-top.result ∷ []) c.push.new.self.items (sym c.is_err.ensures.value ∙ c.if-is_err.false) c.push.ensures.items
    ∙ ap (λ (x : Step). c.list.new.walk.steps.items ++ x ∷ []) c.top-top.ensures in
    let next : Walking arena device image s k [] (record c.list.new.walk { steps = c.push.new.self }) = pushed arena device image s k c.list.new.walk (record c.list.new.walk { steps = c.push.new.self }) (record { blocks = refl; epoch = refl; active = refl; labels = refl; noted = refl }) [] f.entries f.holder Bytes c.holds_in-holds.result items refl listed in
    let still : Shows (g.D.Reads.state c.list.new.main).holds device = subst (λ (s : DiskState). Shows s.holds device) (sym c.list.ensures.kept) shows in
    walking_like arena device image s k [] c.follow_all.new.walk c.note_leaf.new.self
    (record { blocks = c.note_leaf.ensures.blocks; epoch = c.note_leaf.ensures.tree.0; active = c.note_leaf.ensures.tree.1; labels = c.note_leaf.ensures.labels; steps = c.note_leaf.ensures.steps; folders = c.note_leaf.ensures.folders })
    (lowers_leaf c.follow_all.new.walk.noted c.note_leaf.new.self.noted 6 c.without_pair-alone.result (omega arith, omega arith) (λ e. omega (arith, e)) (λ e. omega (arith, e)) c.note_leaf.ensures.level c.note_leaf.ensures.noted)
    (c.in_ok-follow_all.ensures.walks arena device image s k [] still next)

pub returns-then-not-folder-clause-names : goal.returns-then-not-folder-clause-names
returns-then-not-folder-clause-names g c arena device image s k meta shows walking w no_steps quiet =
    let fresh = emptied arena device image s k c.args.walk.now (record c.args.walk.now { named = c.new.result }) (record { blocks = refl; epoch = refl; active = refl; labels = refl; noted = refl }) (tops c.args.folder.now) refl refl walking in
    c.in_ok-list.ensures.names arena device image s k meta shows fresh w no_steps c.new.ensures.items (omega (arith, quiet, c.in_ok-follow_all.ensures.level))

pub returns-clause-names : goal.returns-clause-names
returns-clause-names g c arena device image s k meta shows walking w no_steps quiet =
    let fresh = emptied arena device image s k c.args.walk.now (record c.args.walk.now { named = c.new.result }) (record { blocks = refl; epoch = refl; active = refl; labels = refl; noted = refl }) (tops c.args.folder.now) refl refl walking in
    c.in_ok-list.ensures.names arena device image s k meta shows fresh w no_steps c.new.ensures.items (omega (arith, quiet, c.in_ok-follow_all.ensures.level, c.note_leaf.ensures.level))

pub returns-then-not-folder-clause-dirs : goal.returns-then-not-folder-clause-dirs
returns-then-not-folder-clause-dirs g c arena device image s k others shows walking j =
    let f = c.args.folder.now in
    let a : Step = top_step f.entries Bytes f.holder in
    let fresh = emptied arena device image s k c.args.walk.now (record c.args.walk.now { named = c.new.result }) (record { blocks = refl; epoch = refl; active = refl; labels = refl; noted = refl }) (tops f) refl refl walking in
    let listed : Walking arena device image s k (a ∷ []) c.list.new.walk = c.in_ok-list.ensures.walks arena device image s k shows fresh in
    let items : c.push.new.self.items ≡ c.list.new.walk.steps.items ++ top_step f.entries c.holds_in-holds.result f.holder ∷ [] =
    is_pushed c.push.result c.list.new.walk.steps.items (c.list.new.walk.steps.items ++ c.top-top.result ∷ []) c.push.new.self.items (sym c.is_err.ensures.value ∙ c.if-is_err.false) c.push.ensures.items
    ∙ ap (λ (x : Step). c.list.new.walk.steps.items ++ x ∷ []) c.top-top.ensures in
    let next : Walking arena device image s k [] (record c.list.new.walk { steps = c.push.new.self }) = pushed arena device image s k c.list.new.walk (record c.list.new.walk { steps = c.push.new.self }) (record { blocks = refl; epoch = refl; active = refl; labels = refl; noted = refl }) [] f.entries f.holder Bytes c.holds_in-holds.result items refl listed in
    let still : Shows (g.D.Reads.state c.list.new.main).holds device = subst (λ (s : DiskState). Shows s.holds device) (sym c.list.ensures.kept) shows in
    let fresh' : AreJudged arena image k others (record c.args.walk.now { named = c.new.result }) = judged_like arena device image s k others c.args.walk.now (record c.args.walk.now { named = c.new.result }) refl refl (omega arith) j in
    let listed' : AreJudged arena image k others c.list.new.walk = c.in_ok-list.ensures.dirs arena device image s k others shows fresh fresh' in
    let next' : AreJudged arena image k others (record c.list.new.walk { steps = c.push.new.self }) = judged_like arena device image s k others c.list.new.walk (record c.list.new.walk { steps = c.push.new.self }) refl refl (omega arith) listed' in
    c.in_ok-follow_all.ensures.dirs arena device image s k [] others still next next'

pub returns-clause-dirs : goal.returns-clause-dirs
returns-clause-dirs g c arena device image s k others shows walking j =
    let f = c.args.folder.now in
    let a : Step = top_step f.entries Bytes f.holder in
    let fresh = emptied arena device image s k c.args.walk.now (record c.args.walk.now { named = c.new.result }) (record { blocks = refl; epoch = refl; active = refl; labels = refl; noted = refl }) (tops f) refl refl walking in
    let listed : Walking arena device image s k (a ∷ []) c.list.new.walk = c.in_ok-list.ensures.walks arena device image s k shows fresh in
    let items : c.push.new.self.items ≡ c.list.new.walk.steps.items ++ top_step f.entries c.holds_in-holds.result f.holder ∷ [] =
    is_pushed c.push.result c.list.new.walk.steps.items (c.list.new.walk.steps.items ++ c.top-top.result ∷ []) c.push.new.self.items (sym c.is_err.ensures.value ∙ c.if-is_err.false) c.push.ensures.items
    ∙ ap (λ (x : Step). c.list.new.walk.steps.items ++ x ∷ []) c.top-top.ensures in
    let next : Walking arena device image s k [] (record c.list.new.walk { steps = c.push.new.self }) = pushed arena device image s k c.list.new.walk (record c.list.new.walk { steps = c.push.new.self }) (record { blocks = refl; epoch = refl; active = refl; labels = refl; noted = refl }) [] f.entries f.holder Bytes c.holds_in-holds.result items refl listed in
    let still : Shows (g.D.Reads.state c.list.new.main).holds device = subst (λ (s : DiskState). Shows s.holds device) (sym c.list.ensures.kept) shows in
    let fresh' : AreJudged arena image k others (record c.args.walk.now { named = c.new.result }) = judged_like arena device image s k others c.args.walk.now (record c.args.walk.now { named = c.new.result }) refl refl (omega arith) j in
    let listed' : AreJudged arena image k others c.list.new.walk = c.in_ok-list.ensures.dirs arena device image s k others shows fresh fresh' in
    let next' : AreJudged arena image k others (record c.list.new.walk { steps = c.push.new.self }) = judged_like arena device image s k others c.list.new.walk (record c.list.new.walk { steps = c.push.new.self }) refl refl (omega arith) listed' in
    judged_like arena device image s k others c.follow_all.new.walk c.note_leaf.new.self (ap (λ (x : Labels). x.known.items) c.note_leaf.ensures.labels) c.note_leaf.ensures.folders c.note_leaf.ensures.level
    (c.in_ok-follow_all.ensures.dirs arena device image s k [] others still next next')

pub returns-then-not-folder-clause-formed : goal.returns-then-not-folder-clause-formed
returns-then-not-folder-clause-formed g c arena device image s k others shows walking j =
    let f = c.args.folder.now in
    let a : Step = top_step f.entries Bytes f.holder in
    let fresh = emptied arena device image s k c.args.walk.now (record c.args.walk.now { named = c.new.result }) (record { blocks = refl; epoch = refl; active = refl; labels = refl; noted = refl }) (tops f) refl refl walking in
    let listed : Walking arena device image s k (a ∷ []) c.list.new.walk = c.in_ok-list.ensures.walks arena device image s k shows fresh in
    let items : c.push.new.self.items ≡ c.list.new.walk.steps.items ++ top_step f.entries c.holds_in-holds.result f.holder ∷ [] =
    is_pushed c.push.result c.list.new.walk.steps.items (c.list.new.walk.steps.items ++ c.top-top.result ∷ []) c.push.new.self.items (sym c.is_err.ensures.value ∙ c.if-is_err.false) c.push.ensures.items
    ∙ ap (λ (x : Step). c.list.new.walk.steps.items ++ x ∷ []) c.top-top.ensures in
    let next : Walking arena device image s k [] (record c.list.new.walk { steps = c.push.new.self }) = pushed arena device image s k c.list.new.walk (record c.list.new.walk { steps = c.push.new.self }) (record { blocks = refl; epoch = refl; active = refl; labels = refl; noted = refl }) [] f.entries f.holder Bytes c.holds_in-holds.result items refl listed in
    let still : Shows (g.D.Reads.state c.list.new.main).holds device = subst (λ (s : DiskState). Shows s.holds device) (sym c.list.ensures.kept) shows in
    let listed' = c.in_ok-list.ensures.formed arena device image s k others shows fresh j in
    let grown = formed_push arena image k c.list.new.walk.labels.known.items c.list.new.walk.noted c.list.new.walk.steps.items (top_step f.entries c.holds_in-holds.result f.holder ∷ []) (others ++ c.list.new.walk.folders.items) listed' in
    let next' : AreFormed arena image k c.list.new.walk.labels.known.items c.list.new.walk.noted c.push.new.self.items (others ++ c.list.new.walk.folders.items) =
    subst (λ (xs : List Step). AreFormed arena image k c.list.new.walk.labels.known.items c.list.new.walk.noted xs (others ++ c.list.new.walk.folders.items)) (sym items) grown in
    c.in_ok-follow_all.ensures.formed arena device image s k [] others still next next'

pub returns-clause-formed : goal.returns-clause-formed
returns-clause-formed g c arena device image s k others shows walking j =
    let f = c.args.folder.now in
    let a : Step = top_step f.entries Bytes f.holder in
    let fresh = emptied arena device image s k c.args.walk.now (record c.args.walk.now { named = c.new.result }) (record { blocks = refl; epoch = refl; active = refl; labels = refl; noted = refl }) (tops f) refl refl walking in
    let listed : Walking arena device image s k (a ∷ []) c.list.new.walk = c.in_ok-list.ensures.walks arena device image s k shows fresh in
    let items : c.push.new.self.items ≡ c.list.new.walk.steps.items ++ top_step f.entries c.holds_in-holds.result f.holder ∷ [] =
    is_pushed c.push.result c.list.new.walk.steps.items (c.list.new.walk.steps.items ++ c.top-top.result ∷ []) c.push.new.self.items (sym c.is_err.ensures.value ∙ c.if-is_err.false) c.push.ensures.items
    ∙ ap (λ (x : Step). c.list.new.walk.steps.items ++ x ∷ []) c.top-top.ensures in
    let next : Walking arena device image s k [] (record c.list.new.walk { steps = c.push.new.self }) = pushed arena device image s k c.list.new.walk (record c.list.new.walk { steps = c.push.new.self }) (record { blocks = refl; epoch = refl; active = refl; labels = refl; noted = refl }) [] f.entries f.holder Bytes c.holds_in-holds.result items refl listed in
    let still : Shows (g.D.Reads.state c.list.new.main).holds device = subst (λ (s : DiskState). Shows s.holds device) (sym c.list.ensures.kept) shows in
    let listed' = c.in_ok-list.ensures.formed arena device image s k others shows fresh j in
    let grown = formed_push arena image k c.list.new.walk.labels.known.items c.list.new.walk.noted c.list.new.walk.steps.items (top_step f.entries c.holds_in-holds.result f.holder ∷ []) (others ++ c.list.new.walk.folders.items) listed' in
    let next' : AreFormed arena image k c.list.new.walk.labels.known.items c.list.new.walk.noted c.push.new.self.items (others ++ c.list.new.walk.folders.items) =
    subst (λ (xs : List Step). AreFormed arena image k c.list.new.walk.labels.known.items c.list.new.walk.noted xs (others ++ c.list.new.walk.folders.items)) (sym items) grown in
    formed_like arena image k c.follow_all.new.walk.labels.known.items _ c.follow_all.new.walk.noted _ c.follow_all.new.walk.steps.items _ (others ++ c.follow_all.new.walk.folders.items) _
    (ap (λ (x : Labels). x.known.items) c.note_leaf.ensures.labels) c.note_leaf.ensures.level c.note_leaf.ensures.steps (ap (λ (fs : List Folder). others ++ fs) c.note_leaf.ensures.folders)
    (c.in_ok-follow_all.ensures.formed arena device image s k [] others still next next')

pub returns-then-not-folder-clause-grows : goal.returns-then-not-folder-clause-grows
returns-then-not-folder-clause-grows g c arena device image s k shows w =
    let f = c.args.folder.now in
    let a : Step = top_step f.entries Bytes f.holder in
    let fresh = emptied arena device image s k c.args.walk.now (record c.args.walk.now { named = c.new.result }) (record { blocks = refl; epoch = refl; active = refl; labels = refl; noted = refl }) (tops f) refl refl w in
    let listed : Walking arena device image s k (a ∷ []) c.list.new.walk = c.in_ok-list.ensures.walks arena device image s k shows fresh in
    let items : c.push.new.self.items ≡ c.list.new.walk.steps.items ++ top_step f.entries c.holds_in-holds.result f.holder ∷ [] =
    is_pushed c.push.result c.list.new.walk.steps.items (c.list.new.walk.steps.items ++ c.top-top.result ∷ []) c.push.new.self.items (sym c.is_err.ensures.value ∙ c.if-is_err.false) c.push.ensures.items
    ∙ ap (λ (x : Step). c.list.new.walk.steps.items ++ x ∷ []) c.top-top.ensures in
    let next : Walking arena device image s k [] (record c.list.new.walk { steps = c.push.new.self }) = pushed arena device image s k c.list.new.walk (record c.list.new.walk { steps = c.push.new.self }) (record { blocks = refl; epoch = refl; active = refl; labels = refl; noted = refl }) [] f.entries f.holder Bytes c.holds_in-holds.result items refl listed in
    let still : Shows (g.D.Reads.state c.list.new.main).holds device = subst (λ (s : DiskState). Shows s.holds device) (sym c.list.ensures.kept) shows in
    grows_then c.args.walk.now.folders.items c.list.new.walk.folders.items c.follow_all.new.walk.folders.items (c.in_ok-list.ensures.grows arena device image s k shows fresh) (c.in_ok-follow_all.ensures.grows arena device image s k [] still next)

pub returns-clause-grows : goal.returns-clause-grows
returns-clause-grows g c arena device image s k shows w =
    let f = c.args.folder.now in
    let a : Step = top_step f.entries Bytes f.holder in
    let fresh = emptied arena device image s k c.args.walk.now (record c.args.walk.now { named = c.new.result }) (record { blocks = refl; epoch = refl; active = refl; labels = refl; noted = refl }) (tops f) refl refl w in
    let listed : Walking arena device image s k (a ∷ []) c.list.new.walk = c.in_ok-list.ensures.walks arena device image s k shows fresh in
    let items : c.push.new.self.items ≡ c.list.new.walk.steps.items ++ top_step f.entries c.holds_in-holds.result f.holder ∷ [] =
    is_pushed c.push.result c.list.new.walk.steps.items (c.list.new.walk.steps.items ++ c.top-top.result ∷ []) c.push.new.self.items (sym c.is_err.ensures.value ∙ c.if-is_err.false) c.push.ensures.items
    ∙ ap (λ (x : Step). c.list.new.walk.steps.items ++ x ∷ []) c.top-top.ensures in
    let next : Walking arena device image s k [] (record c.list.new.walk { steps = c.push.new.self }) = pushed arena device image s k c.list.new.walk (record c.list.new.walk { steps = c.push.new.self }) (record { blocks = refl; epoch = refl; active = refl; labels = refl; noted = refl }) [] f.entries f.holder Bytes c.holds_in-holds.result items refl listed in
    let still : Shows (g.D.Reads.state c.list.new.main).holds device = subst (λ (s : DiskState). Shows s.holds device) (sym c.list.ensures.kept) shows in
    grows_like c.args.walk.now.folders.items c.follow_all.new.walk.folders.items c.note_leaf.new.self.folders.items c.note_leaf.ensures.folders
    (grows_then c.args.walk.now.folders.items c.list.new.walk.folders.items c.follow_all.new.walk.folders.items (c.in_ok-list.ensures.grows arena device image s k shows fresh) (c.in_ok-follow_all.ensures.grows arena device image s k [] still next))

pub returns-then-not-folder-clause-pairs : goal.returns-then-not-folder-clause-pairs
returns-then-not-folder-clause-pairs g c arena device image s k shows w no_steps lead = absurd (false≢true (search rules))

pub returns-clause-pairs : goal.returns-clause-pairs
returns-clause-pairs g c arena device image s k shows w no_steps lead =
    let f = c.args.folder.now in
    let a : Step = top_step f.entries Bytes f.holder in
    let fresh = emptied arena device image s k c.args.walk.now (record c.args.walk.now { named = c.new.result }) (record { blocks = refl; epoch = refl; active = refl; labels = refl; noted = refl }) (tops f) refl refl w in
    let listed : Walking arena device image s k (a ∷ []) c.list.new.walk = c.in_ok-list.ensures.walks arena device image s k shows fresh in
    let items : c.push.new.self.items ≡ c.list.new.walk.steps.items ++ top_step f.entries c.holds_in-holds.result f.holder ∷ [] =
    is_pushed c.push.result c.list.new.walk.steps.items (c.list.new.walk.steps.items ++ c.top-top.result ∷ []) c.push.new.self.items (sym c.is_err.ensures.value ∙ c.if-is_err.false) c.push.ensures.items
    ∙ ap (λ (x : Step). c.list.new.walk.steps.items ++ x ∷ []) c.top-top.ensures in
    let next : Walking arena device image s k [] (record c.list.new.walk { steps = c.push.new.self }) = pushed arena device image s k c.list.new.walk (record c.list.new.walk { steps = c.push.new.self }) (record { blocks = refl; epoch = refl; active = refl; labels = refl; noted = refl }) [] f.entries f.holder Bytes c.holds_in-holds.result items refl listed in
    let still : Shows (g.D.Reads.state c.list.new.main).holds device = subst (λ (s : DiskState). Shows s.holds device) (sym c.list.ensures.kept) shows in
    record {
      names = c.list.new.walk.named.items;
      grown = c.in_ok-list.ensures.counted c.new.ensures.items lead;
      each = λ entries meta head.
          let order : AreInOrder arena image k meta f.named c.list.new.walk.noted c.list.new.walk.named.items = c.in_ok-list.ensures.listed arena device image s k meta shows fresh head.records no_steps c.new.ensures.items in
          let order' : AreInOrder arena image k meta true c.list.new.walk.noted c.list.new.walk.named.items = subst (λ (b : Bool). AreInOrder arena image k meta b c.list.new.walk.noted c.list.new.walk.named.items) head.named order in
          let one : c.push.new.self.items ≡ top_step f.entries c.holds_in-holds.result f.holder ∷ [] = items ∙ ap (λ (xs : List Step). xs ++ top_step f.entries c.holds_in-holds.result f.holder ∷ []) (c.in_ok-list.ensures.done no_steps) in
          let start : AreSought arena image entries c.list.new.walk.named.items c.list.new.walk.noted c.push.new.self.items c.list.new.walk.named.items c.list.new.walk.folders.items =
          subst (λ (xs : List Step). AreSought arena image entries c.list.new.walk.named.items c.list.new.walk.noted xs c.list.new.walk.named.items c.list.new.walk.folders.items) (sym one)
          (sought_first arena image entries meta f head c.holds_in-holds.result c.list.new.walk.named.items c.list.new.walk.noted c.list.new.walk.folders.items order.fresh) in
          let sought : AreSought arena image entries c.list.new.walk.named.items c.follow_all.new.walk.noted c.follow_all.new.walk.steps.items c.follow_all.new.walk.named.items c.follow_all.new.walk.folders.items = c.in_ok-follow_all.ensures.pairs arena device image s k entries c.list.new.walk.named.items [] still next head.named start in
          let none : AreSought arena image entries c.list.new.walk.named.items c.follow_all.new.walk.noted [] c.follow_all.new.walk.named.items c.follow_all.new.walk.folders.items = subst (λ (xs : List Step). AreSought arena image entries c.list.new.walk.named.items c.follow_all.new.walk.noted xs c.follow_all.new.walk.named.items c.follow_all.new.walk.folders.items) c.in_ok-follow_all.ensures.done sought in
          let view : c.deref.result.now ≡ c.follow_all.new.walk.named.items = search rules in
          let answer : MatchOption c.without_pair-alone.result (All (IsPaired f.entries.size) c.follow_all.new.walk.named.items) (λ leaf. Any (IsUnpaired f.entries.size leaf) c.follow_all.new.walk.named.items) =
          subst (λ (xs : List Named). MatchOption c.without_pair-alone.result (All (IsPaired f.entries.size) xs) (λ leaf. Any (IsUnpaired f.entries.size leaf) xs)) view c.without_pair-alone.ensures in
          let room : size_of entries.slot ≤ 8192 * 409 ^ depth_of entries.slot = subst (λ (x : Slot). size_of x ≤ 8192 * 409 ^ depth_of x) (sym head.slot) head.room in
          λ quiet.
          let apart : IsApart c.list.new.walk.named.items = c.in_ok-list.ensures.apart c.new.ensures.items lead (omega (arith, quiet, c.in_ok-follow_all.ensures.level, c.note_leaf.ensures.level)) in
          let begin : AreAsked arena image entries c.push.new.self.items c.list.new.walk.named.items = subst (λ (xs : List Step). AreAsked arena image entries xs c.list.new.walk.named.items) (sym one) (asked_first arena image entries meta f head c.holds_in-holds.result c.list.new.walk.named.items) in
          let asked : AreAsked arena image entries [] c.follow_all.new.walk.named.items = subst (λ (xs : List Step). AreAsked arena image entries xs c.follow_all.new.walk.named.items) c.in_ok-follow_all.ensures.done
          (c.in_ok-follow_all.ensures.asked arena device image s k entries c.list.new.walk.named.items [] still next head.named apart start begin) in
          subst (λ (fs : List Folder). IsSettled arena image k entries meta c.list.new.walk.named.items fs) (sym c.note_leaf.ensures.folders)
          (settled arena image w.holds.empty k entries meta c.follow_all.new.walk.folders.items c.list.new.walk.named.items c.follow_all.new.walk.named.items c.list.new.walk.noted c.follow_all.new.walk.noted c.note_leaf.new.self.noted order' none f.entries.size (sym (ap size_of head.slot)) room asked
          (c.in_ok-follow_all.ensures.hidden arena device image s k entries c.list.new.walk.named.items [] still next head.named start (hidden_first arena image k entries c.list.new.walk.named.items order.unmissed)) c.without_pair-alone.result answer c.note_leaf.ensures.noted c.in_ok-follow_all.ensures.level c.note_leaf.ensures.level quiet);
    }

pub returns-then-not-folder-clause-spread : goal.returns-then-not-folder-clause-spread
returns-then-not-folder-clause-spread g c arena device image s k deep link shows w no_steps source quiet tree j h =
    let f = c.args.folder.now in
    let a : Step = top_step f.entries Bytes f.holder in
    let fresh = emptied arena device image s k c.args.walk.now (record c.args.walk.now { named = c.new.result }) (record { blocks = refl; epoch = refl; active = refl; labels = refl; noted = refl }) (tops f) refl refl w in
    let listed : Walking arena device image s k (a ∷ []) c.list.new.walk = c.in_ok-list.ensures.walks arena device image s k shows fresh in
    let items : c.push.new.self.items ≡ c.list.new.walk.steps.items ++ top_step f.entries c.holds_in-holds.result f.holder ∷ [] =
    is_pushed c.push.result c.list.new.walk.steps.items (c.list.new.walk.steps.items ++ c.top-top.result ∷ []) c.push.new.self.items (sym c.is_err.ensures.value ∙ c.if-is_err.false) c.push.ensures.items
    ∙ ap (λ (x : Step). c.list.new.walk.steps.items ++ x ∷ []) c.top-top.ensures in
    let next : Walking arena device image s k [] (record c.list.new.walk { steps = c.push.new.self }) = pushed arena device image s k c.list.new.walk (record c.list.new.walk { steps = c.push.new.self }) (record { blocks = refl; epoch = refl; active = refl; labels = refl; noted = refl }) [] f.entries f.holder Bytes c.holds_in-holds.result items refl listed in
    let still : Shows (g.D.Reads.state c.list.new.main).holds device = subst (λ (s : DiskState). Shows s.holds device) (sym c.list.ensures.kept) shows in
    let one : c.push.new.self.items ≡ top_step f.entries c.holds_in-holds.result f.holder ∷ [] = items ∙ ap (λ (xs : List Step). xs ++ top_step f.entries c.holds_in-holds.result f.holder ∷ []) (c.in_ok-list.ensures.done no_steps) in
    let start : AreSpread arena image k link (suc deep) c.list.new.walk.noted c.push.new.self.items c.list.new.walk.folders.items =
    subst (λ (xs : List Step). AreSpread arena image k link (suc deep) c.list.new.walk.noted xs c.list.new.walk.folders.items) (sym one) (spread_first arena image k deep (suc deep) link f source c.holds_in-holds.result c.list.new.walk.noted c.list.new.walk.folders.items) in
    let deep_is : suc deep ≡ min (f.depth + 1) (2 ^ 32 - 1) = omega (arith, source.depth, source.low) in
    let end : AreSpread arena image k link (suc deep) c.follow_all.new.walk.noted c.follow_all.new.walk.steps.items c.follow_all.new.walk.folders.items = c.in_ok-follow_all.ensures.spread arena device image s k link (suc deep) [] still next deep_is start in
    let none : AreSpread arena image k link (suc deep) c.follow_all.new.walk.noted [] c.follow_all.new.walk.folders.items = subst (λ (xs : List Step). AreSpread arena image k link (suc deep) c.follow_all.new.walk.noted xs c.follow_all.new.walk.folders.items) c.in_ok-follow_all.ensures.done end in
    let kind : link.kind ≡ Dir (depth_of link.slot) = source.kind ∙ ap (λ (n : ℕ). Dir n) (sym (ap depth_of source.slot)) in
    spread_whole arena image w.holds.empty k link (suc deep) c.follow_all.new.walk.noted c.follow_all.new.walk.folders.items kind none quiet tree j h

pub returns-clause-spread : goal.returns-clause-spread
returns-clause-spread g c arena device image s k deep link shows w no_steps source quiet tree j h =
    let f = c.args.folder.now in
    let a : Step = top_step f.entries Bytes f.holder in
    let fresh = emptied arena device image s k c.args.walk.now (record c.args.walk.now { named = c.new.result }) (record { blocks = refl; epoch = refl; active = refl; labels = refl; noted = refl }) (tops f) refl refl w in
    let listed : Walking arena device image s k (a ∷ []) c.list.new.walk = c.in_ok-list.ensures.walks arena device image s k shows fresh in
    let items : c.push.new.self.items ≡ c.list.new.walk.steps.items ++ top_step f.entries c.holds_in-holds.result f.holder ∷ [] =
    is_pushed c.push.result c.list.new.walk.steps.items (c.list.new.walk.steps.items ++ c.top-top.result ∷ []) c.push.new.self.items (sym c.is_err.ensures.value ∙ c.if-is_err.false) c.push.ensures.items
    ∙ ap (λ (x : Step). c.list.new.walk.steps.items ++ x ∷ []) c.top-top.ensures in
    let next : Walking arena device image s k [] (record c.list.new.walk { steps = c.push.new.self }) = pushed arena device image s k c.list.new.walk (record c.list.new.walk { steps = c.push.new.self }) (record { blocks = refl; epoch = refl; active = refl; labels = refl; noted = refl }) [] f.entries f.holder Bytes c.holds_in-holds.result items refl listed in
    let still : Shows (g.D.Reads.state c.list.new.main).holds device = subst (λ (s : DiskState). Shows s.holds device) (sym c.list.ensures.kept) shows in
    let one : c.push.new.self.items ≡ top_step f.entries c.holds_in-holds.result f.holder ∷ [] = items ∙ ap (λ (xs : List Step). xs ++ top_step f.entries c.holds_in-holds.result f.holder ∷ []) (c.in_ok-list.ensures.done no_steps) in
    let start : AreSpread arena image k link (suc deep) c.list.new.walk.noted c.push.new.self.items c.list.new.walk.folders.items =
    subst (λ (xs : List Step). AreSpread arena image k link (suc deep) c.list.new.walk.noted xs c.list.new.walk.folders.items) (sym one) (spread_first arena image k deep (suc deep) link f source c.holds_in-holds.result c.list.new.walk.noted c.list.new.walk.folders.items) in
    let deep_is : suc deep ≡ min (f.depth + 1) (2 ^ 32 - 1) = omega (arith, source.depth, source.low) in
    let end : AreSpread arena image k link (suc deep) c.follow_all.new.walk.noted c.follow_all.new.walk.steps.items c.follow_all.new.walk.folders.items = c.in_ok-follow_all.ensures.spread arena device image s k link (suc deep) [] still next deep_is start in
    let none : AreSpread arena image k link (suc deep) c.follow_all.new.walk.noted [] c.follow_all.new.walk.folders.items = subst (λ (xs : List Step). AreSpread arena image k link (suc deep) c.follow_all.new.walk.noted xs c.follow_all.new.walk.folders.items) c.in_ok-follow_all.ensures.done end in
    let kind : link.kind ≡ Dir (depth_of link.slot) = source.kind ∙ ap (λ (n : ℕ). Dir n) (sym (ap depth_of source.slot)) in
    subst (λ (fs : List Folder). SomeOf (IsSourceOf (suc deep) (entry_at arena image link j)) fs) (sym c.note_leaf.ensures.folders)
    (spread_whole arena image w.holds.empty k link (suc deep) c.follow_all.new.walk.noted c.follow_all.new.walk.folders.items kind none (omega (arith, quiet, c.note_leaf.ensures.level)) tree j h)

pub returns-then-not-folder-clause-grounds : goal.returns-then-not-folder-clause-grounds
returns-then-not-folder-clause-grounds g c arena device image s k shows w no_steps has grounds =
    let f = c.args.folder.now in
    let a : Step = top_step f.entries Bytes f.holder in
    let fresh = emptied arena device image s k c.args.walk.now (record c.args.walk.now { named = c.new.result }) (record { blocks = refl; epoch = refl; active = refl; labels = refl; noted = refl }) (tops f) refl refl w in
    let listed : Walking arena device image s k (a ∷ []) c.list.new.walk = c.in_ok-list.ensures.walks arena device image s k shows fresh in
    let items : c.push.new.self.items ≡ c.list.new.walk.steps.items ++ top_step f.entries c.holds_in-holds.result f.holder ∷ [] =
    is_pushed c.push.result c.list.new.walk.steps.items (c.list.new.walk.steps.items ++ c.top-top.result ∷ []) c.push.new.self.items (sym c.is_err.ensures.value ∙ c.if-is_err.false) c.push.ensures.items
    ∙ ap (λ (x : Step). c.list.new.walk.steps.items ++ x ∷ []) c.top-top.ensures in
    let next : Walking arena device image s k [] (record c.list.new.walk { steps = c.push.new.self }) = pushed arena device image s k c.list.new.walk (record c.list.new.walk { steps = c.push.new.self }) (record { blocks = refl; epoch = refl; active = refl; labels = refl; noted = refl }) [] f.entries f.holder Bytes c.holds_in-holds.result items refl listed in
    let still : Shows (g.D.Reads.state c.list.new.main).holds device = subst (λ (s : DiskState). Shows s.holds device) (sym c.list.ensures.kept) shows in
    let first : HasGrounds arena image k c.list.new.walk.noted c.list.new.walk.steps.items c.list.new.walk.folders.items = c.in_ok-list.ensures.grounds arena device image s k shows fresh no_steps c.new.ensures.items has grounds in
    let start : HasGrounds arena image k c.list.new.walk.noted c.push.new.self.items c.list.new.walk.folders.items =
    grounds_push arena image k c.list.new.walk.noted c.list.new.walk.steps.items c.push.new.self.items (top_step f.entries c.holds_in-holds.result f.holder) c.list.new.walk.folders.items items (entries_top arena image k f.entries c.holds_in-holds.result f.holder c.holds_in-holds.ensures) first in
    let end : HasGrounds arena image k c.follow_all.new.walk.noted c.follow_all.new.walk.steps.items c.follow_all.new.walk.folders.items = c.in_ok-follow_all.ensures.grounds arena device image s k [] still next start in
    end

pub returns-clause-grounds : goal.returns-clause-grounds
returns-clause-grounds g c arena device image s k shows w no_steps has grounds =
    let f = c.args.folder.now in
    let a : Step = top_step f.entries Bytes f.holder in
    let fresh = emptied arena device image s k c.args.walk.now (record c.args.walk.now { named = c.new.result }) (record { blocks = refl; epoch = refl; active = refl; labels = refl; noted = refl }) (tops f) refl refl w in
    let listed : Walking arena device image s k (a ∷ []) c.list.new.walk = c.in_ok-list.ensures.walks arena device image s k shows fresh in
    let items : c.push.new.self.items ≡ c.list.new.walk.steps.items ++ top_step f.entries c.holds_in-holds.result f.holder ∷ [] =
    is_pushed c.push.result c.list.new.walk.steps.items (c.list.new.walk.steps.items ++ c.top-top.result ∷ []) c.push.new.self.items (sym c.is_err.ensures.value ∙ c.if-is_err.false) c.push.ensures.items
    ∙ ap (λ (x : Step). c.list.new.walk.steps.items ++ x ∷ []) c.top-top.ensures in
    let next : Walking arena device image s k [] (record c.list.new.walk { steps = c.push.new.self }) = pushed arena device image s k c.list.new.walk (record c.list.new.walk { steps = c.push.new.self }) (record { blocks = refl; epoch = refl; active = refl; labels = refl; noted = refl }) [] f.entries f.holder Bytes c.holds_in-holds.result items refl listed in
    let still : Shows (g.D.Reads.state c.list.new.main).holds device = subst (λ (s : DiskState). Shows s.holds device) (sym c.list.ensures.kept) shows in
    let first : HasGrounds arena image k c.list.new.walk.noted c.list.new.walk.steps.items c.list.new.walk.folders.items = c.in_ok-list.ensures.grounds arena device image s k shows fresh no_steps c.new.ensures.items has grounds in
    let start : HasGrounds arena image k c.list.new.walk.noted c.push.new.self.items c.list.new.walk.folders.items =
    grounds_push arena image k c.list.new.walk.noted c.list.new.walk.steps.items c.push.new.self.items (top_step f.entries c.holds_in-holds.result f.holder) c.list.new.walk.folders.items items (entries_top arena image k f.entries c.holds_in-holds.result f.holder c.holds_in-holds.ensures) first in
    let end : HasGrounds arena image k c.follow_all.new.walk.noted c.follow_all.new.walk.steps.items c.follow_all.new.walk.folders.items = c.in_ok-follow_all.ensures.grounds arena device image s k [] still next start in
    grounds_like arena image k c.follow_all.new.walk.noted c.note_leaf.new.self.noted c.follow_all.new.walk.steps.items c.note_leaf.new.self.steps.items c.follow_all.new.walk.folders.items c.note_leaf.new.self.folders.items
    (λ n. formats_kept arena image k c.follow_all.new.walk.noted c.note_leaf.new.self.noted (keeps_leaf c.follow_all.new.walk.noted c.note_leaf.new.self.noted 6 c.without_pair-alone.result (λ e. omega (arith, e)) c.note_leaf.ensures.noted) n)
    c.note_leaf.ensures.steps c.note_leaf.ensures.folders end

pub returns-then-not-folder-clause-heads : goal.returns-then-not-folder-clause-heads
returns-then-not-folder-clause-heads g c arena device image s k shows w no_steps dir h =
    let f = c.args.folder.now in
    let a : Step = top_step f.entries Bytes f.holder in
    let fresh = emptied arena device image s k c.args.walk.now (record c.args.walk.now { named = c.new.result }) (record { blocks = refl; epoch = refl; active = refl; labels = refl; noted = refl }) (tops f) refl refl w in
    let listed : Walking arena device image s k (a ∷ []) c.list.new.walk = c.in_ok-list.ensures.walks arena device image s k shows fresh in
    let items : c.push.new.self.items ≡ c.list.new.walk.steps.items ++ top_step f.entries c.holds_in-holds.result f.holder ∷ [] =
    is_pushed c.push.result c.list.new.walk.steps.items (c.list.new.walk.steps.items ++ c.top-top.result ∷ []) c.push.new.self.items (sym c.is_err.ensures.value ∙ c.if-is_err.false) c.push.ensures.items
    ∙ ap (λ (x : Step). c.list.new.walk.steps.items ++ x ∷ []) c.top-top.ensures in
    let next : Walking arena device image s k [] (record c.list.new.walk { steps = c.push.new.self }) = pushed arena device image s k c.list.new.walk (record c.list.new.walk { steps = c.push.new.self }) (record { blocks = refl; epoch = refl; active = refl; labels = refl; noted = refl }) [] f.entries f.holder Bytes c.holds_in-holds.result items refl listed in
    let still : Shows (g.D.Reads.state c.list.new.main).holds device = subst (λ (s : DiskState). Shows s.holds device) (sym c.list.ensures.kept) shows in
    let isnt : f.named ≡ false = search rules in
    record {
      pairs = names_kept arena image k c.list.new.walk.noted c.follow_all.new.walk.noted (c.in_ok-follow_all.ensures.six device image still)
          (names_kept arena image k c.args.walk.now.noted c.list.new.walk.noted (c.in_ok-list.ensures.six device image shows (λ lead. absurd (false≢true (sym isnt ∙ lead)))) h.pairs);
      heads = λ above.
          let first = heads_unnamed arena image k c.args.walk.now.folders.items c.list.new.walk.folders.items (c.in_ok-list.ensures.unnamed arena device image s k shows fresh) (h.heads (omega (arith, above, c.in_ok-follow_all.ensures.level, c.in_ok-list.ensures.level))) in
          heads_unnamed arena image k c.list.new.walk.folders.items c.follow_all.new.walk.folders.items (c.in_ok-follow_all.ensures.unnamed arena device image s k [] still next isnt) first;
    }

pub returns-clause-heads : goal.returns-clause-heads
returns-clause-heads g c arena device image s k shows w no_steps dir h =
    let f = c.args.folder.now in
    let a : Step = top_step f.entries Bytes f.holder in
    let fresh = emptied arena device image s k c.args.walk.now (record c.args.walk.now { named = c.new.result }) (record { blocks = refl; epoch = refl; active = refl; labels = refl; noted = refl }) (tops f) refl refl w in
    let listed : Walking arena device image s k (a ∷ []) c.list.new.walk = c.in_ok-list.ensures.walks arena device image s k shows fresh in
    let items : c.push.new.self.items ≡ c.list.new.walk.steps.items ++ top_step f.entries c.holds_in-holds.result f.holder ∷ [] =
    is_pushed c.push.result c.list.new.walk.steps.items (c.list.new.walk.steps.items ++ c.top-top.result ∷ []) c.push.new.self.items (sym c.is_err.ensures.value ∙ c.if-is_err.false) c.push.ensures.items
    ∙ ap (λ (x : Step). c.list.new.walk.steps.items ++ x ∷ []) c.top-top.ensures in
    let next : Walking arena device image s k [] (record c.list.new.walk { steps = c.push.new.self }) = pushed arena device image s k c.list.new.walk (record c.list.new.walk { steps = c.push.new.self }) (record { blocks = refl; epoch = refl; active = refl; labels = refl; noted = refl }) [] f.entries f.holder Bytes c.holds_in-holds.result items refl listed in
    let still : Shows (g.D.Reads.state c.list.new.main).holds device = subst (λ (s : DiskState). Shows s.holds device) (sym c.list.ensures.kept) shows in
    let lead : f.named ≡ true = search rules in
    let names = c.list.new.walk.named.items in
    let one : c.push.new.self.items ≡ top_step f.entries c.holds_in-holds.result f.holder ∷ [] = items ∙ ap (λ (xs : List Step). xs ++ top_step f.entries c.holds_in-holds.result f.holder ∷ []) (c.in_ok-list.ensures.done no_steps) in
    let order : (d : IsOfDir arena image k f) → AreInOrder arena image k d.meta true c.list.new.walk.noted c.list.new.walk.named.items = λ d.
    subst (λ (b : Bool). AreInOrder arena image k d.meta b c.list.new.walk.noted c.list.new.walk.named.items) lead (c.in_ok-list.ensures.listed arena device image s k d.meta shows fresh d.head.records no_steps c.new.ensures.items) in
    let start : (d : IsOfDir arena image k f) → AreSought arena image d.entries c.list.new.walk.named.items c.list.new.walk.noted c.push.new.self.items c.list.new.walk.named.items c.list.new.walk.folders.items = λ d.
    subst (λ (xs : List Step). AreSought arena image d.entries c.list.new.walk.named.items c.list.new.walk.noted xs c.list.new.walk.named.items c.list.new.walk.folders.items) (sym one)
    (sought_first arena image d.entries d.meta f d.head c.holds_in-holds.result c.list.new.walk.named.items c.list.new.walk.noted c.list.new.walk.folders.items (order d).fresh) in
    let view : c.deref.result.now ≡ c.follow_all.new.walk.named.items = search rules in
    let answer : MatchOption c.without_pair-alone.result (All (IsPaired f.entries.size) c.follow_all.new.walk.named.items) (λ leaf. Any (IsUnpaired f.entries.size leaf) c.follow_all.new.walk.named.items) =
    subst (λ (xs : List Named). MatchOption c.without_pair-alone.result (All (IsPaired f.entries.size) xs) (λ leaf. Any (IsUnpaired f.entries.size leaf) xs)) view c.without_pair-alone.ensures in
    let lacks' : (block : ℕ) → 6 < level c.follow_all.new.walk.noted → c.without_pair-alone.result ≡ Some block → BreaksPairs arena image k block = λ block above some.
    let d : IsOfDir arena image k f = dir (omega (arith, above, c.in_ok-follow_all.ensures.level, c.in_ok-list.ensures.level)) lead in
    let sought : AreSought arena image d.entries c.list.new.walk.named.items c.follow_all.new.walk.noted [] c.follow_all.new.walk.named.items c.follow_all.new.walk.folders.items =
    subst (λ (xs : List Step). AreSought arena image d.entries c.list.new.walk.named.items c.follow_all.new.walk.noted xs c.follow_all.new.walk.named.items c.follow_all.new.walk.folders.items) c.in_ok-follow_all.ensures.done
    (c.in_ok-follow_all.ensures.pairs arena device image s k d.entries c.list.new.walk.named.items [] still next lead (start d)) in
    let apart : IsApart c.list.new.walk.named.items = c.in_ok-list.ensures.apart c.new.ensures.items lead (omega (arith, above, c.in_ok-follow_all.ensures.level)) in
    let begin : AreAsked arena image d.entries c.push.new.self.items c.list.new.walk.named.items = subst (λ (xs : List Step). AreAsked arena image d.entries xs c.list.new.walk.named.items) (sym one) (asked_first arena image d.entries d.meta f d.head c.holds_in-holds.result c.list.new.walk.named.items) in
    let asked : AreAsked arena image d.entries [] c.follow_all.new.walk.named.items = subst (λ (xs : List Step). AreAsked arena image d.entries xs c.follow_all.new.walk.named.items) c.in_ok-follow_all.ensures.done
    (c.in_ok-follow_all.ensures.asked arena device image s k d.entries c.list.new.walk.named.items [] still next lead apart (start d) begin) in
    let room : size_of d.entries.slot ≤ 8192 * 409 ^ depth_of d.entries.slot = subst (λ (x : Slot). size_of x ≤ 8192 * 409 ^ depth_of x) (sym d.head.slot) d.head.room in
    lacks_pair d.trail d.entries d.meta block d.dir (lacking arena image w.holds.empty k d.entries d.meta sought.kind room c.list.new.walk.noted c.follow_all.new.walk.noted c.follow_all.new.walk.folders.items c.list.new.walk.named.items c.follow_all.new.walk.named.items (order d) sought asked f.entries.size (sym (ap size_of d.head.slot)) block
    (subst (λ (o : Option ℕ). MatchOption o (All (IsPaired f.entries.size) c.follow_all.new.walk.named.items) (λ leaf. Any (IsUnpaired f.entries.size leaf) c.follow_all.new.walk.named.items)) some answer)) in
    let first : NamesPairs arena image k c.list.new.walk.noted = names_slots arena image k f c.args.walk.now.noted c.list.new.walk.noted (λ above. dir above lead)
    (λ meta entries head. c.in_ok-list.ensures.slots arena device image s k meta shows fresh head.records no_steps c.new.ensures.items) (λ low. c.in_ok-list.ensures.six device image shows (λ is. low)) h.pairs in
    let second : NamesPairs arena image k c.follow_all.new.walk.noted = names_kept arena image k c.list.new.walk.noted c.follow_all.new.walk.noted (c.in_ok-follow_all.ensures.six device image still) first in
    record {
      pairs = names_lacking arena image k c.follow_all.new.walk.noted c.note_leaf.new.self.noted c.without_pair-alone.result c.note_leaf.ensures.noted lacks' second;
      heads = λ above.
          let above' : 6 < level c.follow_all.new.walk.noted = omega (arith, above, c.note_leaf.ensures.level) in
          let before : 6 < level c.args.walk.now.noted = omega (arith, above', c.in_ok-follow_all.ensures.level, c.in_ok-list.ensures.level) in
          let d : IsOfDir arena image k f = dir before lead in
          let led : AreLed arena image d.entries c.list.new.walk.named.items c.follow_all.new.walk.noted c.list.new.walk.folders.items c.follow_all.new.walk.folders.items =
          c.in_ok-follow_all.ensures.heads arena device image s k d.entries c.list.new.walk.named.items [] c.list.new.walk.folders.items still next lead (start d) (led_first arena image d.entries c.list.new.walk.named.items c.list.new.walk.noted c.list.new.walk.folders.items) in
          subst (λ (fs : List Folder). AllByRecursion (Heads arena image k) fs) (sym c.note_leaf.ensures.folders)
          (heads_led arena image k f d c.list.new.walk.noted c.follow_all.new.walk.noted c.list.new.walk.named.items (order d) c.list.new.walk.folders.items c.follow_all.new.walk.folders.items led (omega (arith, above'))
          (heads_unnamed arena image k c.args.walk.now.folders.items c.list.new.walk.folders.items (c.in_ok-list.ensures.unnamed arena device image s k shows fresh) (h.heads before)));
    }

pub returns-then-not-folder-clause-eight : goal.returns-then-not-folder-clause-eight
returns-then-not-folder-clause-eight g c arena device image s k limit shows w no_steps source h =
    let f = c.args.folder.now in
    let a : Step = top_step f.entries Bytes f.holder in
    let fresh = emptied arena device image s k c.args.walk.now (record c.args.walk.now { named = c.new.result }) (record { blocks = refl; epoch = refl; active = refl; labels = refl; noted = refl }) (tops f) refl refl w in
    let listed : Walking arena device image s k (a ∷ []) c.list.new.walk = c.in_ok-list.ensures.walks arena device image s k shows fresh in
    let items : c.push.new.self.items ≡ c.list.new.walk.steps.items ++ top_step f.entries c.holds_in-holds.result f.holder ∷ [] =
    is_pushed c.push.result c.list.new.walk.steps.items (c.list.new.walk.steps.items ++ c.top-top.result ∷ []) c.push.new.self.items (sym c.is_err.ensures.value ∙ c.if-is_err.false) c.push.ensures.items
    ∙ ap (λ (x : Step). c.list.new.walk.steps.items ++ x ∷ []) c.top-top.ensures in
    let next : Walking arena device image s k [] (record c.list.new.walk { steps = c.push.new.self }) = pushed arena device image s k c.list.new.walk (record c.list.new.walk { steps = c.push.new.self }) (record { blocks = refl; epoch = refl; active = refl; labels = refl; noted = refl }) [] f.entries f.holder Bytes c.holds_in-holds.result items refl listed in
    let still : Shows (g.D.Reads.state c.list.new.main).holds device = subst (λ (s : DiskState). Shows s.holds device) (sym c.list.ensures.kept) shows in
    let one : c.push.new.self.items ≡ top_step f.entries c.holds_in-holds.result f.holder ∷ [] = items ∙ ap (λ (xs : List Step). xs ++ top_step f.entries c.holds_in-holds.result f.holder ∷ []) (c.in_ok-list.ensures.done no_steps) in
    let begin : 8 < level c.list.new.walk.noted → AreBelow arena image k f.depth c.push.new.self.items = λ above. subst (λ (xs : List Step). AreBelow arena image k f.depth xs) (sym one) (below_entries arena image k f c.holds_in-holds.result (source (omega (arith, above, c.in_ok-list.ensures.level)))) in
    let first : HasSources arena image k limit c.list.new.walk.noted c.list.new.walk.folders.items = c.in_ok-list.ensures.eight arena device image s k limit shows fresh no_steps source h in
    let end : HasSources arena image k limit c.follow_all.new.walk.noted c.follow_all.new.walk.folders.items = c.in_ok-follow_all.ensures.eight arena device image s k [] limit still next begin first in
    end

pub returns-clause-eight : goal.returns-clause-eight
returns-clause-eight g c arena device image s k limit shows w no_steps source h =
    let f = c.args.folder.now in
    let a : Step = top_step f.entries Bytes f.holder in
    let fresh = emptied arena device image s k c.args.walk.now (record c.args.walk.now { named = c.new.result }) (record { blocks = refl; epoch = refl; active = refl; labels = refl; noted = refl }) (tops f) refl refl w in
    let listed : Walking arena device image s k (a ∷ []) c.list.new.walk = c.in_ok-list.ensures.walks arena device image s k shows fresh in
    let items : c.push.new.self.items ≡ c.list.new.walk.steps.items ++ top_step f.entries c.holds_in-holds.result f.holder ∷ [] =
    is_pushed c.push.result c.list.new.walk.steps.items (c.list.new.walk.steps.items ++ c.top-top.result ∷ []) c.push.new.self.items (sym c.is_err.ensures.value ∙ c.if-is_err.false) c.push.ensures.items
    ∙ ap (λ (x : Step). c.list.new.walk.steps.items ++ x ∷ []) c.top-top.ensures in
    let next : Walking arena device image s k [] (record c.list.new.walk { steps = c.push.new.self }) = pushed arena device image s k c.list.new.walk (record c.list.new.walk { steps = c.push.new.self }) (record { blocks = refl; epoch = refl; active = refl; labels = refl; noted = refl }) [] f.entries f.holder Bytes c.holds_in-holds.result items refl listed in
    let still : Shows (g.D.Reads.state c.list.new.main).holds device = subst (λ (s : DiskState). Shows s.holds device) (sym c.list.ensures.kept) shows in
    let one : c.push.new.self.items ≡ top_step f.entries c.holds_in-holds.result f.holder ∷ [] = items ∙ ap (λ (xs : List Step). xs ++ top_step f.entries c.holds_in-holds.result f.holder ∷ []) (c.in_ok-list.ensures.done no_steps) in
    let begin : 8 < level c.list.new.walk.noted → AreBelow arena image k f.depth c.push.new.self.items = λ above. subst (λ (xs : List Step). AreBelow arena image k f.depth xs) (sym one) (below_entries arena image k f c.holds_in-holds.result (source (omega (arith, above, c.in_ok-list.ensures.level)))) in
    let first : HasSources arena image k limit c.list.new.walk.noted c.list.new.walk.folders.items = c.in_ok-list.ensures.eight arena device image s k limit shows fresh no_steps source h in
    let end : HasSources arena image k limit c.follow_all.new.walk.noted c.follow_all.new.walk.folders.items = c.in_ok-follow_all.ensures.eight arena device image s k [] limit still next begin first in
    sources_like arena image k limit c.follow_all.new.walk.noted c.note_leaf.new.self.noted c.follow_all.new.walk.folders.items c.note_leaf.new.self.folders.items c.note_leaf.ensures.level
    (numbers_leaf c.follow_all.new.walk.noted c.note_leaf.new.self.noted 6 c.without_pair-alone.result (λ e. omega (arith, e)) c.note_leaf.ensures.noted) c.note_leaf.ensures.folders end

pub returns-then-not-folder-clause-counts : goal.returns-then-not-folder-clause-counts
returns-then-not-folder-clause-counts g c arena device image s k shows w no_steps dir h above =
    let f = c.args.folder.now in
    let a : Step = top_step f.entries Bytes f.holder in
    let fresh = emptied arena device image s k c.args.walk.now (record c.args.walk.now { named = c.new.result }) (record { blocks = refl; epoch = refl; active = refl; labels = refl; noted = refl }) (tops f) refl refl w in
    let listed : Walking arena device image s k (a ∷ []) c.list.new.walk = c.in_ok-list.ensures.walks arena device image s k shows fresh in
    let items : c.push.new.self.items ≡ c.list.new.walk.steps.items ++ top_step f.entries c.holds_in-holds.result f.holder ∷ [] =
    is_pushed c.push.result c.list.new.walk.steps.items (c.list.new.walk.steps.items ++ c.top-top.result ∷ []) c.push.new.self.items (sym c.is_err.ensures.value ∙ c.if-is_err.false) c.push.ensures.items
    ∙ ap (λ (x : Step). c.list.new.walk.steps.items ++ x ∷ []) c.top-top.ensures in
    let next : Walking arena device image s k [] (record c.list.new.walk { steps = c.push.new.self }) = pushed arena device image s k c.list.new.walk (record c.list.new.walk { steps = c.push.new.self }) (record { blocks = refl; epoch = refl; active = refl; labels = refl; noted = refl }) [] f.entries f.holder Bytes c.holds_in-holds.result items refl listed in
    let still : Shows (g.D.Reads.state c.list.new.main).holds device = subst (λ (s : DiskState). Shows s.holds device) (sym c.list.ensures.kept) shows in
    let isnt : f.named ≡ false = search rules in
    subst (λ (xs : List Number). AreNumbers arena image k c.follow_all.new.walk.labels.known.items xs) (sym (c.in_ok-list.ensures.uncounted isnt))
    (numbers_seen arena image k c.args.walk.now.labels.known.items c.follow_all.new.walk.labels.known.items c.args.numbers.now.items
    (λ at l x. c.in_ok-follow_all.ensures.reached arena device image s k [] still next at l (c.in_ok-list.ensures.reached arena device image s k shows fresh at l x))
    (h (omega (arith, above, c.in_ok-follow_all.ensures.level, c.in_ok-list.ensures.level))))

pub returns-clause-counts : goal.returns-clause-counts
returns-clause-counts g c arena device image s k shows w no_steps dir h above =
    let f = c.args.folder.now in
    let a : Step = top_step f.entries Bytes f.holder in
    let fresh = emptied arena device image s k c.args.walk.now (record c.args.walk.now { named = c.new.result }) (record { blocks = refl; epoch = refl; active = refl; labels = refl; noted = refl }) (tops f) refl refl w in
    let listed : Walking arena device image s k (a ∷ []) c.list.new.walk = c.in_ok-list.ensures.walks arena device image s k shows fresh in
    let items : c.push.new.self.items ≡ c.list.new.walk.steps.items ++ top_step f.entries c.holds_in-holds.result f.holder ∷ [] =
    is_pushed c.push.result c.list.new.walk.steps.items (c.list.new.walk.steps.items ++ c.top-top.result ∷ []) c.push.new.self.items (sym c.is_err.ensures.value ∙ c.if-is_err.false) c.push.ensures.items
    ∙ ap (λ (x : Step). c.list.new.walk.steps.items ++ x ∷ []) c.top-top.ensures in
    let next : Walking arena device image s k [] (record c.list.new.walk { steps = c.push.new.self }) = pushed arena device image s k c.list.new.walk (record c.list.new.walk { steps = c.push.new.self }) (record { blocks = refl; epoch = refl; active = refl; labels = refl; noted = refl }) [] f.entries f.holder Bytes c.holds_in-holds.result items refl listed in
    let still : Shows (g.D.Reads.state c.list.new.main).holds device = subst (λ (s : DiskState). Shows s.holds device) (sym c.list.ensures.kept) shows in
    let lead : f.named ≡ true = search rules in
    let before : 6 < level c.args.walk.now.noted = omega (arith, above, c.note_leaf.ensures.level, c.in_ok-follow_all.ensures.level, c.in_ok-list.ensures.level) in
    let d : IsOfDir arena image k f = dir before lead in
    let order : AreInOrder arena image k d.meta true c.list.new.walk.noted c.list.new.walk.named.items =
    subst (λ (b : Bool). AreInOrder arena image k d.meta b c.list.new.walk.noted c.list.new.walk.named.items) lead (c.in_ok-list.ensures.listed arena device image s k d.meta shows fresh d.head.records no_steps c.new.ensures.items) in
    let news : AreFresh c.args.walk.now.labels.known.items c.list.new.walk.labels.known.items c.list.new.walk.named.items = c.in_ok-list.ensures.news arena device image s k d.meta shows fresh d.head.records no_steps c.new.ensures.items in
    let more' : AreNumbers arena image k c.list.new.walk.labels.known.items c.list.new.numbers.items = subst (λ (xs : List Number). AreNumbers arena image k c.list.new.walk.labels.known.items xs) (sym (c.in_ok-list.ensures.counted c.new.ensures.items lead))
    (numbers_more arena image k c.args.walk.now.labels.known.items c.list.new.walk.labels.known.items c.args.numbers.now.items (h before) f d c.list.new.walk.noted c.list.new.walk.named.items order news) in
    subst (λ (x : Labels). AreNumbers arena image k x.known.items c.list.new.numbers.items) (sym c.note_leaf.ensures.labels)
    (numbers_seen arena image k c.list.new.walk.labels.known.items c.follow_all.new.walk.labels.known.items c.list.new.numbers.items (λ at l x. c.in_ok-follow_all.ensures.reached arena device image s k [] still next at l x) more')

pub returns-then-not-folder-clause-rules : goal.returns-then-not-folder-clause-rules
returns-then-not-folder-clause-rules g c = rules_then c.args.walk.now.noted c.list.new.walk.noted c.follow_all.new.walk.noted c.in_ok-list.ensures.rules c.in_ok-follow_all.ensures.rules

pub returns-clause-rules : goal.returns-clause-rules
returns-clause-rules g c = rules_then c.args.walk.now.noted c.follow_all.new.walk.noted c.note_leaf.new.self.noted
    (rules_then c.args.walk.now.noted c.list.new.walk.noted c.follow_all.new.walk.noted c.in_ok-list.ensures.rules c.in_ok-follow_all.ensures.rules)
    (rules_leaf c.follow_all.new.walk.noted c.note_leaf.new.self.noted 6 c.without_pair-alone.result (omega arith, omega arith) c.note_leaf.ensures.noted)
