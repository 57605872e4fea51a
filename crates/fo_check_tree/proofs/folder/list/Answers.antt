use Rattle.std.proofs.Common.{◌≡◌, ◌<◌, ◌≤◌, ℕ, false, List, [], ◌∷◌, ◌++◌, append-nil, map, IsPermutation, length, Option, Some, None, refl, sym, ap, ◌∙◌, subst, rules, arith}
use Rattle.std.proofs.lemmas.Result.{err_from_is_err_and}
use Rattle.fo_image.specs.declared.types.Entry.{Entry}
use Rattle.fo_check_tree.specs.declared.walk.Holds.TheVariants.{Bytes, Records}
use Rattle.fo_check_tree.specs.declared.walk.Step.{Step}
use Rattle.std.specs.Prelude.{MatchOption}
use Rattle.fo_check_names.specs.Names.{number_in, name_of, slot_of, leaf_of, Differ, IsTwice}
use Rattle.fo_check_names.proofs.Moved.{moved}
use Rattle.fo_check_tree.specs.Pairing.{IsApart, AreInOrder}
use Rattle.fo_check_tree.specs.Lower.{level}
use Rattle.fo_check_tree.specs.Numbers.{AreBelow, HasSources, AreFresh}
use Rattle.fo_check_tree.proofs.Collecting.{fresh_first, fresh_moved}
use Rattle.fo_check_tree.proofs.Deepening.{below_records, sources_like}
use Rattle.fo_check_tree.proofs.Heading.{unnamed_none, unnamed_like}
use Rattle.fo_check_tree.proofs.Searching.{written}
use Rattle.fo_check_names.specs.declared.names.Named.{Named}
use Rattle.fo_check_labels.specs.declared.labels.Labels.{Labels}
use Rattle.fo_check_tree.specs.declared.walk.Folder.{Folder}
use Rattle.fo_check_tree.specs.Formats.{AreFormed}
use Rattle.fo_check_tree.specs.Dirs.{AreJudged}
use Rattle.fo_check_tree.specs.Listing.{IsListing, IsMetaOf, JudgesNames}
use Rattle.fo_check_tree.specs.Notes.{NotesLeaf}
use Rattle.fo_crash.specs.Images.{Link}
use Rattle.fo_image.specs.declared.types.Kind.TheVariants.{Data}
use Rattle.fo_crash.specs.declared.slot.Slot.TheVariants.{Entry as Head}
use Rattle.fo_check_tree.specs.Grounds.{IsRecordsOf, HasGrounds}
use Rattle.fo_check_tree.proofs.Grounding.{formats_kept}
use Rattle.fo_check_tree.proofs.Granting.{grounds_like, grounds_push, records_top as placed_top, is_meta, formats_named, of_file}
use Rattle.fo_check_tree.specs.Slots.{top_step}
use Rattle.fo_check_tree.specs.Walking.{Reached, Walking, tops, records_top}
use Rattle.fo_check_tree.proofs.Formatting.{formed_like, formed_alone, formed_top}
use Rattle.fo_check_tree.proofs.Judging.{judged_like}
use Rattle.fo_check_tree.proofs.Listed.{listing_at}
use Rattle.fo_check_labels.proofs.Marking.{is_pushed}
use Rattle.fo_check_tree.proofs.Naming.{begins, judged, names_by}
use Rattle.fo_check_tree.proofs.Noting.{lowers_then, lowers_leaf, keeps_leaf, pairs_same, pairs_then, pairs_leaf, pairs_low, numbers_leaf, rules_same, rules_then, rules_leaf}
use Rattle.std.proofs.lemmas.Bool.{false≢true}
use Rattle.fo_check_tree.proofs.Seeking.{grows_none, grows_like}
use Rattle.fo_check_tree.proofs.Settling.{in_order, in_apart, none_apart, notes_before, notes_kept, notes_twice}
use Rattle.fo_check_tree.proofs.Stepping.{turned, pushed, walking_like}
use Rattle.fo_check_tree.proofs.folder.list.Goals as goal

pub returns-in_err-follow_all-clause-walks : goal.returns-in_err-follow_all-clause-walks
returns-in_err-follow_all-clause-walks g c arena device image s k shows w =
    let p = err_from_is_err_and c.from_residual.result c.from_residual.ensures.1 in
    let f = c.args.folder.now in
    let a : Step = top_step f.entries Bytes f.holder in
    let b : Step = top_step c.in-Some.records Records f.holder in
    let both : tops f ≡ a ∷ b ∷ [] = ap (λ (o : Option Entry). top_step f.entries Bytes f.holder ∷ records_top f.holder o) c.in-Some.is in
    let first : Walking arena device image s k (b ∷ a ∷ []) c.args.walk.now = turned arena device image s k c.args.walk.now c.args.walk.now (record { blocks = refl; epoch = refl; active = refl; labels = refl; noted = refl }) (tops f) a b both refl refl w in
    let items : c.push.new.self.items ≡ c.args.walk.now.steps.items ++ b ∷ [] =
    is_pushed c.push.result c.args.walk.now.steps.items (c.args.walk.now.steps.items ++ c.top-top.result ∷ []) c.push.new.self.items (sym c.is_err.ensures.value ∙ c.if-is_err.false) c.push.ensures.items
    ∙ ap (λ (x : Step). c.args.walk.now.steps.items ++ x ∷ []) c.top-top.ensures in
    let next : Walking arena device image s k (a ∷ []) (record c.args.walk.now { steps = c.push.new.self }) = pushed arena device image s k c.args.walk.now (record c.args.walk.now { steps = c.push.new.self }) (record { blocks = refl; epoch = refl; active = refl; labels = refl; noted = refl }) (a ∷ []) c.in-Some.records f.holder Records Records items refl first in
    rw (p.1, p.2) (c.in_err-follow_all.ensures.walks arena device image s k (a ∷ []) shows next)

pub returns-then-not-folder-clause-walks : goal.returns-then-not-folder-clause-walks
returns-then-not-folder-clause-walks g c arena device image s k shows w =
    let f = c.args.folder.now in
    let a : Step = top_step f.entries Bytes f.holder in
    let b : Step = top_step c.in-Some.records Records f.holder in
    let both : tops f ≡ a ∷ b ∷ [] = ap (λ (o : Option Entry). top_step f.entries Bytes f.holder ∷ records_top f.holder o) c.in-Some.is in
    let first : Walking arena device image s k (b ∷ a ∷ []) c.args.walk.now = turned arena device image s k c.args.walk.now c.args.walk.now (record { blocks = refl; epoch = refl; active = refl; labels = refl; noted = refl }) (tops f) a b both refl refl w in
    let items : c.push.new.self.items ≡ c.args.walk.now.steps.items ++ b ∷ [] =
    is_pushed c.push.result c.args.walk.now.steps.items (c.args.walk.now.steps.items ++ c.top-top.result ∷ []) c.push.new.self.items (sym c.is_err.ensures.value ∙ c.if-is_err.false) c.push.ensures.items
    ∙ ap (λ (x : Step). c.args.walk.now.steps.items ++ x ∷ []) c.top-top.ensures in
    let next : Walking arena device image s k (a ∷ []) (record c.args.walk.now { steps = c.push.new.self }) = pushed arena device image s k c.args.walk.now (record c.args.walk.now { steps = c.push.new.self }) (record { blocks = refl; epoch = refl; active = refl; labels = refl; noted = refl }) (a ∷ []) c.in-Some.records f.holder Records Records items refl first in
    let then' : Walking arena device image s k (a ∷ []) c.follow_all.new.walk = c.in_ok-follow_all.ensures.walks arena device image s k (a ∷ []) shows next in
    walking_like arena device image s k (a ∷ []) c.follow_all.new.walk _
    (record { blocks = c.note_leaf.ensures.blocks; epoch = c.note_leaf.ensures.tree.0; active = c.note_leaf.ensures.tree.1; labels = c.note_leaf.ensures.labels; steps = c.note_leaf.ensures.steps; folders = c.note_leaf.ensures.folders })
    (lowers_leaf c.follow_all.new.walk.noted c.note_leaf.new.self.noted 5 c.leaf_unless-named_twice.result (omega arith, omega arith) (λ e. omega (arith, e)) (λ e. omega (arith, e)) c.note_leaf.ensures.level c.note_leaf.ensures.noted)
    then'

pub returns-in-Ok-clause-walks : goal.returns-in-Ok-clause-walks
returns-in-Ok-clause-walks g c arena device image s k shows w =
    let f = c.args.folder.now in
    let a : Step = top_step f.entries Bytes f.holder in
    let b : Step = top_step c.in-Some.records Records f.holder in
    let both : tops f ≡ a ∷ b ∷ [] = ap (λ (o : Option Entry). top_step f.entries Bytes f.holder ∷ records_top f.holder o) c.in-Some.is in
    let first : Walking arena device image s k (b ∷ a ∷ []) c.args.walk.now = turned arena device image s k c.args.walk.now c.args.walk.now (record { blocks = refl; epoch = refl; active = refl; labels = refl; noted = refl }) (tops f) a b both refl refl w in
    let items : c.push.new.self.items ≡ c.args.walk.now.steps.items ++ b ∷ [] =
    is_pushed c.push.result c.args.walk.now.steps.items (c.args.walk.now.steps.items ++ c.top-top.result ∷ []) c.push.new.self.items (sym c.is_err.ensures.value ∙ c.if-is_err.false) c.push.ensures.items
    ∙ ap (λ (x : Step). c.args.walk.now.steps.items ++ x ∷ []) c.top-top.ensures in
    let next : Walking arena device image s k (a ∷ []) (record c.args.walk.now { steps = c.push.new.self }) = pushed arena device image s k c.args.walk.now (record c.args.walk.now { steps = c.push.new.self }) (record { blocks = refl; epoch = refl; active = refl; labels = refl; noted = refl }) (a ∷ []) c.in-Some.records f.holder Records Records items refl first in
    let then' : Walking arena device image s k (a ∷ []) c.follow_all.new.walk = c.in_ok-follow_all.ensures.walks arena device image s k (a ∷ []) shows next in
    walking_like arena device image s k (a ∷ []) c.follow_all.new.walk _
    (record {
      blocks = c.note_leaf-2.ensures.blocks ∙ c.note_leaf.ensures.blocks;
      epoch = c.note_leaf-2.ensures.tree.0 ∙ c.note_leaf.ensures.tree.0;
      active = c.note_leaf-2.ensures.tree.1 ∙ c.note_leaf.ensures.tree.1;
      labels = c.note_leaf-2.ensures.labels ∙ c.note_leaf.ensures.labels;
      steps = c.note_leaf-2.ensures.steps ∙ c.note_leaf.ensures.steps;
      folders = c.note_leaf-2.ensures.folders ∙ c.note_leaf.ensures.folders;
    })
    (lowers_then c.follow_all.new.walk.noted c.note_leaf.new.self.noted c.note_leaf-2.new.self.noted
    (lowers_leaf c.follow_all.new.walk.noted c.note_leaf.new.self.noted 5 c.leaf_unless-named_twice.result (omega arith, omega arith) (λ e. omega (arith, e)) (λ e. omega (arith, e)) c.note_leaf.ensures.level c.note_leaf.ensures.noted)
    (lowers_leaf c.note_leaf.new.self.noted c.note_leaf-2.new.self.noted 6 c.same_pair-twice.result (omega arith, omega arith) (λ e. omega (arith, e)) (λ e. omega (arith, e)) c.note_leaf-2.ensures.level c.note_leaf-2.ensures.noted))
    then'

some_is : (x y : Entry) → Some x ≡ Some y → x ≡ y
some_is x y e = cc

none_is : (x : Entry) {o : Option Entry} → o ≡ None → o ≡ Some x → ⊥
none_is x is e = let no : None ≡ Some x = sym is ∙ e in cc

pub returns-then-not-folder-clause-names : goal.returns-then-not-folder-clause-names
returns-then-not-folder-clause-names g c arena device image s k meta shows walking w no_steps no_names quiet =
    let f = c.args.folder.now in
    let e : Entry = c.in-Some.records in
    let same : w.entry ≡ e = some_is w.entry e (sym w.is ∙ c.in-Some.is) in
    let a : Step = top_step f.entries Bytes f.holder in
    let b : Step = top_step c.in-Some.records Records f.holder in
    let both : tops f ≡ a ∷ b ∷ [] = ap (λ (o : Option Entry). top_step f.entries Bytes f.holder ∷ records_top f.holder o) c.in-Some.is in
    let first : Walking arena device image s k (b ∷ a ∷ []) c.args.walk.now = turned arena device image s k c.args.walk.now c.args.walk.now (record { blocks = refl; epoch = refl; active = refl; labels = refl; noted = refl }) (tops f) a b both refl refl walking in
    let items : c.push.new.self.items ≡ c.args.walk.now.steps.items ++ b ∷ [] =
    is_pushed c.push.result c.args.walk.now.steps.items (c.args.walk.now.steps.items ++ c.top-top.result ∷ []) c.push.new.self.items (sym c.is_err.ensures.value ∙ c.if-is_err.false) c.push.ensures.items
    ∙ ap (λ (x : Step). c.args.walk.now.steps.items ++ x ∷ []) c.top-top.ensures in
    let next : Walking arena device image s k (a ∷ []) (record c.args.walk.now { steps = c.push.new.self }) = pushed arena device image s k c.args.walk.now (record c.args.walk.now { steps = c.push.new.self }) (record { blocks = refl; epoch = refl; active = refl; labels = refl; noted = refl }) (a ∷ []) c.in-Some.records f.holder Records Records items refl first in
    let top : c.push.new.self.items ≡ top_step w.entry Records f.holder ∷ [] = items ∙ ap (λ (xs : List Step). xs ++ b ∷ []) no_steps ∙ ap (λ (x : Entry). top_step x Records f.holder ∷ []) (sym same) in
    let start : IsListing arena image k meta c.args.walk.now.labels.known.items c.push.new.self.items c.args.walk.now.named.items = listing_at arena device image s k meta c.args.walk.now.labels.known.items c.args.walk.now.labels.known.items (top_step w.entry Records f.holder ∷ []) c.push.new.self.items [] c.args.walk.now.named.items refl top no_names (begins arena image k f meta w c.args.walk.now.labels.known.items) in
    let end : IsListing arena image k meta c.follow_all.new.walk.labels.known.items c.follow_all.new.walk.steps.items c.follow_all.new.walk.named.items = c.in_ok-follow_all.ensures.lists arena device image s k meta (a ∷ []) shows next start in
    let whole : IsListing arena image k meta c.follow_all.new.walk.labels.known.items [] c.follow_all.new.walk.named.items = subst (λ (xs : List Step). IsListing arena image k meta c.follow_all.new.walk.labels.known.items xs c.follow_all.new.walk.named.items) c.in_ok-follow_all.ensures.done end in
    let view : c.deref_mut.result.now ≡ c.follow_all.new.walk.named.items = search rules in
    let judges = judged arena image walking.holds.empty k meta c.follow_all.new.walk.labels.known.items c.follow_all.new.walk.named.items whole c.same_name-repeated.result (subst (λ (xs : List Named). MatchOption c.same_name-repeated.result (Differ name_of xs) (IsTwice name_of leaf_of xs)) view c.same_name-repeated.ensures.answer) in
    let file : c.in-Some.records.dir ≡ false = subst (λ (x : Entry). x.dir ≡ false) same w.file in
    let noted : NotesLeaf 5 c.same_name-repeated.result c.follow_all.new.walk.noted c.note_leaf.new.self.noted = subst (λ (o : Option ℕ). NotesLeaf 5 o c.follow_all.new.walk.noted c.note_leaf.new.self.noted) (of_file c.in-Some.records.dir file c.same_name-repeated.result c.leaf_unless-named_twice.result c.leaf_unless-named_twice.ensures) c.note_leaf.ensures.noted in
    names_by arena image k meta c.same_name-repeated.result c.follow_all.new.walk.noted c.note_leaf.new.self.noted judges noted quiet

pub returns-in-Ok-clause-names : goal.returns-in-Ok-clause-names
returns-in-Ok-clause-names g c arena device image s k meta shows walking w no_steps no_names quiet =
    let f = c.args.folder.now in
    let e : Entry = c.in-Some.records in
    let same : w.entry ≡ e = some_is w.entry e (sym w.is ∙ c.in-Some.is) in
    let a : Step = top_step f.entries Bytes f.holder in
    let b : Step = top_step c.in-Some.records Records f.holder in
    let both : tops f ≡ a ∷ b ∷ [] = ap (λ (o : Option Entry). top_step f.entries Bytes f.holder ∷ records_top f.holder o) c.in-Some.is in
    let first : Walking arena device image s k (b ∷ a ∷ []) c.args.walk.now = turned arena device image s k c.args.walk.now c.args.walk.now (record { blocks = refl; epoch = refl; active = refl; labels = refl; noted = refl }) (tops f) a b both refl refl walking in
    let items : c.push.new.self.items ≡ c.args.walk.now.steps.items ++ b ∷ [] =
    is_pushed c.push.result c.args.walk.now.steps.items (c.args.walk.now.steps.items ++ c.top-top.result ∷ []) c.push.new.self.items (sym c.is_err.ensures.value ∙ c.if-is_err.false) c.push.ensures.items
    ∙ ap (λ (x : Step). c.args.walk.now.steps.items ++ x ∷ []) c.top-top.ensures in
    let next : Walking arena device image s k (a ∷ []) (record c.args.walk.now { steps = c.push.new.self }) = pushed arena device image s k c.args.walk.now (record c.args.walk.now { steps = c.push.new.self }) (record { blocks = refl; epoch = refl; active = refl; labels = refl; noted = refl }) (a ∷ []) c.in-Some.records f.holder Records Records items refl first in
    let top : c.push.new.self.items ≡ top_step w.entry Records f.holder ∷ [] = items ∙ ap (λ (xs : List Step). xs ++ b ∷ []) no_steps ∙ ap (λ (x : Entry). top_step x Records f.holder ∷ []) (sym same) in
    let start : IsListing arena image k meta c.args.walk.now.labels.known.items c.push.new.self.items c.args.walk.now.named.items = listing_at arena device image s k meta c.args.walk.now.labels.known.items c.args.walk.now.labels.known.items (top_step w.entry Records f.holder ∷ []) c.push.new.self.items [] c.args.walk.now.named.items refl top no_names (begins arena image k f meta w c.args.walk.now.labels.known.items) in
    let end : IsListing arena image k meta c.follow_all.new.walk.labels.known.items c.follow_all.new.walk.steps.items c.follow_all.new.walk.named.items = c.in_ok-follow_all.ensures.lists arena device image s k meta (a ∷ []) shows next start in
    let whole : IsListing arena image k meta c.follow_all.new.walk.labels.known.items [] c.follow_all.new.walk.named.items = subst (λ (xs : List Step). IsListing arena image k meta c.follow_all.new.walk.labels.known.items xs c.follow_all.new.walk.named.items) c.in_ok-follow_all.ensures.done end in
    let view : c.deref_mut.result.now ≡ c.follow_all.new.walk.named.items = search rules in
    let judges = judged arena image walking.holds.empty k meta c.follow_all.new.walk.labels.known.items c.follow_all.new.walk.named.items whole c.same_name-repeated.result (subst (λ (xs : List Named). MatchOption c.same_name-repeated.result (Differ name_of xs) (IsTwice name_of leaf_of xs)) view c.same_name-repeated.ensures.answer) in
    let file : c.in-Some.records.dir ≡ false = subst (λ (x : Entry). x.dir ≡ false) same w.file in
    let noted : NotesLeaf 5 c.same_name-repeated.result c.follow_all.new.walk.noted c.note_leaf.new.self.noted = subst (λ (o : Option ℕ). NotesLeaf 5 o c.follow_all.new.walk.noted c.note_leaf.new.self.noted) (of_file c.in-Some.records.dir file c.same_name-repeated.result c.leaf_unless-named_twice.result c.leaf_unless-named_twice.ensures) c.note_leaf.ensures.noted in
    names_by arena image k meta c.same_name-repeated.result c.follow_all.new.walk.noted c.note_leaf.new.self.noted judges noted (omega (arith, quiet, c.note_leaf-2.ensures.level))

pub returns-then-not-folder-clause-dirs : goal.returns-then-not-folder-clause-dirs
returns-then-not-folder-clause-dirs g c arena device image s k others shows walking j =
    let f = c.args.folder.now in
    let a : Step = top_step f.entries Bytes f.holder in
    let b : Step = top_step c.in-Some.records Records f.holder in
    let both : tops f ≡ a ∷ b ∷ [] = ap (λ (o : Option Entry). top_step f.entries Bytes f.holder ∷ records_top f.holder o) c.in-Some.is in
    let first : Walking arena device image s k (b ∷ a ∷ []) c.args.walk.now = turned arena device image s k c.args.walk.now c.args.walk.now (record { blocks = refl; epoch = refl; active = refl; labels = refl; noted = refl }) (tops f) a b both refl refl walking in
    let items : c.push.new.self.items ≡ c.args.walk.now.steps.items ++ b ∷ [] =
    is_pushed c.push.result c.args.walk.now.steps.items (c.args.walk.now.steps.items ++ c.top-top.result ∷ []) c.push.new.self.items (sym c.is_err.ensures.value ∙ c.if-is_err.false) c.push.ensures.items
    ∙ ap (λ (x : Step). c.args.walk.now.steps.items ++ x ∷ []) c.top-top.ensures in
    let next : Walking arena device image s k (a ∷ []) (record c.args.walk.now { steps = c.push.new.self }) = pushed arena device image s k c.args.walk.now (record c.args.walk.now { steps = c.push.new.self }) (record { blocks = refl; epoch = refl; active = refl; labels = refl; noted = refl }) (a ∷ []) c.in-Some.records f.holder Records Records items refl first in
    let pushed' : AreJudged arena image k others (record c.args.walk.now { steps = c.push.new.self }) = judged_like arena device image s k others c.args.walk.now (record c.args.walk.now { steps = c.push.new.self }) refl refl (omega arith) j in
    let after : AreJudged arena image k others c.follow_all.new.walk = c.in_ok-follow_all.ensures.dirs arena device image s k (a ∷ []) others shows next pushed' in
    judged_like arena device image s k others c.follow_all.new.walk _ (ap (λ (x : Labels). x.known.items) c.note_leaf.ensures.labels) c.note_leaf.ensures.folders c.note_leaf.ensures.level after

pub returns-in-Ok-clause-dirs : goal.returns-in-Ok-clause-dirs
returns-in-Ok-clause-dirs g c arena device image s k others shows walking j =
    let f = c.args.folder.now in
    let a : Step = top_step f.entries Bytes f.holder in
    let b : Step = top_step c.in-Some.records Records f.holder in
    let both : tops f ≡ a ∷ b ∷ [] = ap (λ (o : Option Entry). top_step f.entries Bytes f.holder ∷ records_top f.holder o) c.in-Some.is in
    let first : Walking arena device image s k (b ∷ a ∷ []) c.args.walk.now = turned arena device image s k c.args.walk.now c.args.walk.now (record { blocks = refl; epoch = refl; active = refl; labels = refl; noted = refl }) (tops f) a b both refl refl walking in
    let items : c.push.new.self.items ≡ c.args.walk.now.steps.items ++ b ∷ [] =
    is_pushed c.push.result c.args.walk.now.steps.items (c.args.walk.now.steps.items ++ c.top-top.result ∷ []) c.push.new.self.items (sym c.is_err.ensures.value ∙ c.if-is_err.false) c.push.ensures.items
    ∙ ap (λ (x : Step). c.args.walk.now.steps.items ++ x ∷ []) c.top-top.ensures in
    let next : Walking arena device image s k (a ∷ []) (record c.args.walk.now { steps = c.push.new.self }) = pushed arena device image s k c.args.walk.now (record c.args.walk.now { steps = c.push.new.self }) (record { blocks = refl; epoch = refl; active = refl; labels = refl; noted = refl }) (a ∷ []) c.in-Some.records f.holder Records Records items refl first in
    let pushed' : AreJudged arena image k others (record c.args.walk.now { steps = c.push.new.self }) = judged_like arena device image s k others c.args.walk.now (record c.args.walk.now { steps = c.push.new.self }) refl refl (omega arith) j in
    let after : AreJudged arena image k others c.follow_all.new.walk = c.in_ok-follow_all.ensures.dirs arena device image s k (a ∷ []) others shows next pushed' in
    judged_like arena device image s k others c.follow_all.new.walk _ (ap (λ (x : Labels). x.known.items) (c.note_leaf-2.ensures.labels ∙ c.note_leaf.ensures.labels)) (c.note_leaf-2.ensures.folders ∙ c.note_leaf.ensures.folders) (omega (arith, c.note_leaf-2.ensures.level, c.note_leaf.ensures.level)) after

pub returns-in_default-clause-formed : goal.returns-in_default-clause-formed
returns-in_default-clause-formed g c arena device image s k others shows walking j =
    formed_alone arena image k c.args.walk.now.labels.known.items c.args.walk.now.noted c.args.walk.now.steps.items c.args.folder.now (others ++ c.args.walk.now.folders.items) (search rules) j

pub returns-then-not-folder-clause-formed : goal.returns-then-not-folder-clause-formed
returns-then-not-folder-clause-formed g c arena device image s k others shows walking j =
    let f = c.args.folder.now in
    let a : Step = top_step f.entries Bytes f.holder in
    let b : Step = top_step c.in-Some.records Records f.holder in
    let both : tops f ≡ a ∷ b ∷ [] = ap (λ (o : Option Entry). top_step f.entries Bytes f.holder ∷ records_top f.holder o) c.in-Some.is in
    let first : Walking arena device image s k (b ∷ a ∷ []) c.args.walk.now = turned arena device image s k c.args.walk.now c.args.walk.now (record { blocks = refl; epoch = refl; active = refl; labels = refl; noted = refl }) (tops f) a b both refl refl walking in
    let items : c.push.new.self.items ≡ c.args.walk.now.steps.items ++ b ∷ [] =
    is_pushed c.push.result c.args.walk.now.steps.items (c.args.walk.now.steps.items ++ c.top-top.result ∷ []) c.push.new.self.items (sym c.is_err.ensures.value ∙ c.if-is_err.false) c.push.ensures.items
    ∙ ap (λ (x : Step). c.args.walk.now.steps.items ++ x ∷ []) c.top-top.ensures in
    let next : Walking arena device image s k (a ∷ []) (record c.args.walk.now { steps = c.push.new.self }) = pushed arena device image s k c.args.walk.now (record c.args.walk.now { steps = c.push.new.self }) (record { blocks = refl; epoch = refl; active = refl; labels = refl; noted = refl }) (a ∷ []) c.in-Some.records f.holder Records Records items refl first in
    let given : AreFormed arena image k c.args.walk.now.labels.known.items c.args.walk.now.noted (c.args.walk.now.steps.items ++ b ∷ []) (others ++ c.args.walk.now.folders.items) =
    formed_top arena image k c.args.walk.now.labels.known.items c.args.walk.now.noted c.args.walk.now.steps.items f c.in-Some.records (others ++ c.args.walk.now.folders.items) c.in-Some.is j in
    let pushed' : AreFormed arena image k c.args.walk.now.labels.known.items c.args.walk.now.noted c.push.new.self.items (others ++ c.args.walk.now.folders.items) =
    subst (λ (xs : List Step). AreFormed arena image k c.args.walk.now.labels.known.items c.args.walk.now.noted xs (others ++ c.args.walk.now.folders.items)) (sym items) given in
    let after = c.in_ok-follow_all.ensures.formed arena device image s k (a ∷ []) others shows next pushed' in
    formed_like arena image k c.follow_all.new.walk.labels.known.items _ c.follow_all.new.walk.noted _ c.follow_all.new.walk.steps.items _ (others ++ c.follow_all.new.walk.folders.items) _ (ap (λ (x : Labels). x.known.items) c.note_leaf.ensures.labels) c.note_leaf.ensures.level c.note_leaf.ensures.steps (ap (λ (fs : List Folder). others ++ fs) c.note_leaf.ensures.folders) after

pub returns-in-Ok-clause-formed : goal.returns-in-Ok-clause-formed
returns-in-Ok-clause-formed g c arena device image s k others shows walking j =
    let f = c.args.folder.now in
    let a : Step = top_step f.entries Bytes f.holder in
    let b : Step = top_step c.in-Some.records Records f.holder in
    let both : tops f ≡ a ∷ b ∷ [] = ap (λ (o : Option Entry). top_step f.entries Bytes f.holder ∷ records_top f.holder o) c.in-Some.is in
    let first : Walking arena device image s k (b ∷ a ∷ []) c.args.walk.now = turned arena device image s k c.args.walk.now c.args.walk.now (record { blocks = refl; epoch = refl; active = refl; labels = refl; noted = refl }) (tops f) a b both refl refl walking in
    let items : c.push.new.self.items ≡ c.args.walk.now.steps.items ++ b ∷ [] =
    is_pushed c.push.result c.args.walk.now.steps.items (c.args.walk.now.steps.items ++ c.top-top.result ∷ []) c.push.new.self.items (sym c.is_err.ensures.value ∙ c.if-is_err.false) c.push.ensures.items
    ∙ ap (λ (x : Step). c.args.walk.now.steps.items ++ x ∷ []) c.top-top.ensures in
    let next : Walking arena device image s k (a ∷ []) (record c.args.walk.now { steps = c.push.new.self }) = pushed arena device image s k c.args.walk.now (record c.args.walk.now { steps = c.push.new.self }) (record { blocks = refl; epoch = refl; active = refl; labels = refl; noted = refl }) (a ∷ []) c.in-Some.records f.holder Records Records items refl first in
    let given : AreFormed arena image k c.args.walk.now.labels.known.items c.args.walk.now.noted (c.args.walk.now.steps.items ++ b ∷ []) (others ++ c.args.walk.now.folders.items) =
    formed_top arena image k c.args.walk.now.labels.known.items c.args.walk.now.noted c.args.walk.now.steps.items f c.in-Some.records (others ++ c.args.walk.now.folders.items) c.in-Some.is j in
    let pushed' : AreFormed arena image k c.args.walk.now.labels.known.items c.args.walk.now.noted c.push.new.self.items (others ++ c.args.walk.now.folders.items) =
    subst (λ (xs : List Step). AreFormed arena image k c.args.walk.now.labels.known.items c.args.walk.now.noted xs (others ++ c.args.walk.now.folders.items)) (sym items) given in
    let after = c.in_ok-follow_all.ensures.formed arena device image s k (a ∷ []) others shows next pushed' in
    formed_like arena image k c.follow_all.new.walk.labels.known.items _ c.follow_all.new.walk.noted _ c.follow_all.new.walk.steps.items _ (others ++ c.follow_all.new.walk.folders.items) _ (ap (λ (x : Labels). x.known.items) (c.note_leaf-2.ensures.labels ∙ c.note_leaf.ensures.labels)) (omega (arith, c.note_leaf-2.ensures.level, c.note_leaf.ensures.level)) (c.note_leaf-2.ensures.steps ∙ c.note_leaf.ensures.steps) (ap (λ (fs : List Folder). others ++ fs) (c.note_leaf-2.ensures.folders ∙ c.note_leaf.ensures.folders)) after

pub returns-in_default-clause-listed : goal.returns-in_default-clause-listed
returns-in_default-clause-listed g c arena device image s k meta shows walking w no_steps no_names = absurd (none_is w.entry (search rules) w.is)

pub returns-then-not-folder-clause-listed : goal.returns-then-not-folder-clause-listed
returns-then-not-folder-clause-listed g c arena device image s k meta shows walking w no_steps no_names =
    let f = c.args.folder.now in
    let e : Entry = c.in-Some.records in
    let same : w.entry ≡ e = some_is w.entry e (sym w.is ∙ c.in-Some.is) in
    let a : Step = top_step f.entries Bytes f.holder in
    let b : Step = top_step c.in-Some.records Records f.holder in
    let both : tops f ≡ a ∷ b ∷ [] = ap (λ (o : Option Entry). top_step f.entries Bytes f.holder ∷ records_top f.holder o) c.in-Some.is in
    let first : Walking arena device image s k (b ∷ a ∷ []) c.args.walk.now = turned arena device image s k c.args.walk.now c.args.walk.now (record { blocks = refl; epoch = refl; active = refl; labels = refl; noted = refl }) (tops f) a b both refl refl walking in
    let items : c.push.new.self.items ≡ c.args.walk.now.steps.items ++ b ∷ [] =
    is_pushed c.push.result c.args.walk.now.steps.items (c.args.walk.now.steps.items ++ c.top-top.result ∷ []) c.push.new.self.items (sym c.is_err.ensures.value ∙ c.if-is_err.false) c.push.ensures.items
    ∙ ap (λ (x : Step). c.args.walk.now.steps.items ++ x ∷ []) c.top-top.ensures in
    let next : Walking arena device image s k (a ∷ []) (record c.args.walk.now { steps = c.push.new.self }) = pushed arena device image s k c.args.walk.now (record c.args.walk.now { steps = c.push.new.self }) (record { blocks = refl; epoch = refl; active = refl; labels = refl; noted = refl }) (a ∷ []) c.in-Some.records f.holder Records Records items refl first in
    let top : c.push.new.self.items ≡ top_step w.entry Records f.holder ∷ [] = items ∙ ap (λ (xs : List Step). xs ++ b ∷ []) no_steps ∙ ap (λ (x : Entry). top_step x Records f.holder ∷ []) (sym same) in
    let start : IsListing arena image k meta c.args.walk.now.labels.known.items c.push.new.self.items c.args.walk.now.named.items = listing_at arena device image s k meta c.args.walk.now.labels.known.items c.args.walk.now.labels.known.items (top_step w.entry Records f.holder ∷ []) c.push.new.self.items [] c.args.walk.now.named.items refl top no_names (begins arena image k f meta w c.args.walk.now.labels.known.items) in
    let end : IsListing arena image k meta c.follow_all.new.walk.labels.known.items c.follow_all.new.walk.steps.items c.follow_all.new.walk.named.items = c.in_ok-follow_all.ensures.lists arena device image s k meta (a ∷ []) shows next start in
    let whole : IsListing arena image k meta c.follow_all.new.walk.labels.known.items [] c.follow_all.new.walk.named.items = subst (λ (xs : List Step). IsListing arena image k meta c.follow_all.new.walk.labels.known.items xs c.follow_all.new.walk.named.items) c.in_ok-follow_all.ensures.done end in
    let items0 = c.follow_all.new.walk.named.items in
    let new1 = c.same_name-repeated.new.named in
    let new2 = c.same_pair-twice.new.named in
    let view1 : c.deref_mut.result.now ≡ items0 = search rules in
    let p : IsPermutation items0 new1 = subst (λ (xs : List Named). IsPermutation xs new1) view1 c.same_name-repeated.ensures.permutation in
    let len1 : c.follow_all.new.walk.named.len ≡ length items0 = search rules in
    let after1 : c.note_leaf.new.self.named.items ≡ new1 = c.note_leaf.ensures.named ∙ written items0 new1 c.follow_all.new.walk.named.len len1 (moved items0 new1 p).long in
    let view2 : c.deref_mut-2.result.now ≡ c.note_leaf.new.self.named.items = search rules in
    let q' : IsPermutation c.note_leaf.new.self.named.items new2 = subst (λ (xs : List Named). IsPermutation xs new2) view2 c.same_pair-twice.ensures.permutation in
    let q : IsPermutation new1 new2 = subst (λ (xs : List Named). IsPermutation xs new2) after1 q' in
    let len2 : c.note_leaf.new.self.named.len ≡ length c.note_leaf.new.self.named.items = search rules in
    let after2 = written c.note_leaf.new.self.named.items new2 c.note_leaf.new.self.named.len len2 (moved c.note_leaf.new.self.named.items new2 q').long in
    let answer : MatchOption c.same_pair-twice.result (Differ slot_of new1) (IsTwice slot_of leaf_of new1) = subst (λ (xs : List Named). MatchOption c.same_pair-twice.result (Differ slot_of xs) (IsTwice slot_of leaf_of xs)) (view2 ∙ after1) c.same_pair-twice.ensures.answer in
    let ordered : AreInOrder arena image k meta f.named c.note_leaf.new.self.noted new2 = in_order arena image k meta walking.holds.empty c.follow_all.new.walk.labels.known.items items0 new1 new2 whole p q f.named c.same_pair-twice.result c.note_leaf.new.self.noted c.note_leaf.new.self.noted answer (λ lead. absurd (false≢true (search rules))) in
    subst (λ (xs : List Named). AreInOrder arena image k meta f.named c.note_leaf.new.self.noted xs) (sym after2) ordered

pub returns-in-Ok-clause-listed : goal.returns-in-Ok-clause-listed
returns-in-Ok-clause-listed g c arena device image s k meta shows walking w no_steps no_names =
    let f = c.args.folder.now in
    let e : Entry = c.in-Some.records in
    let same : w.entry ≡ e = some_is w.entry e (sym w.is ∙ c.in-Some.is) in
    let a : Step = top_step f.entries Bytes f.holder in
    let b : Step = top_step c.in-Some.records Records f.holder in
    let both : tops f ≡ a ∷ b ∷ [] = ap (λ (o : Option Entry). top_step f.entries Bytes f.holder ∷ records_top f.holder o) c.in-Some.is in
    let first : Walking arena device image s k (b ∷ a ∷ []) c.args.walk.now = turned arena device image s k c.args.walk.now c.args.walk.now (record { blocks = refl; epoch = refl; active = refl; labels = refl; noted = refl }) (tops f) a b both refl refl walking in
    let items : c.push.new.self.items ≡ c.args.walk.now.steps.items ++ b ∷ [] =
    is_pushed c.push.result c.args.walk.now.steps.items (c.args.walk.now.steps.items ++ c.top-top.result ∷ []) c.push.new.self.items (sym c.is_err.ensures.value ∙ c.if-is_err.false) c.push.ensures.items
    ∙ ap (λ (x : Step). c.args.walk.now.steps.items ++ x ∷ []) c.top-top.ensures in
    let next : Walking arena device image s k (a ∷ []) (record c.args.walk.now { steps = c.push.new.self }) = pushed arena device image s k c.args.walk.now (record c.args.walk.now { steps = c.push.new.self }) (record { blocks = refl; epoch = refl; active = refl; labels = refl; noted = refl }) (a ∷ []) c.in-Some.records f.holder Records Records items refl first in
    let top : c.push.new.self.items ≡ top_step w.entry Records f.holder ∷ [] = items ∙ ap (λ (xs : List Step). xs ++ b ∷ []) no_steps ∙ ap (λ (x : Entry). top_step x Records f.holder ∷ []) (sym same) in
    let start : IsListing arena image k meta c.args.walk.now.labels.known.items c.push.new.self.items c.args.walk.now.named.items = listing_at arena device image s k meta c.args.walk.now.labels.known.items c.args.walk.now.labels.known.items (top_step w.entry Records f.holder ∷ []) c.push.new.self.items [] c.args.walk.now.named.items refl top no_names (begins arena image k f meta w c.args.walk.now.labels.known.items) in
    let end : IsListing arena image k meta c.follow_all.new.walk.labels.known.items c.follow_all.new.walk.steps.items c.follow_all.new.walk.named.items = c.in_ok-follow_all.ensures.lists arena device image s k meta (a ∷ []) shows next start in
    let whole : IsListing arena image k meta c.follow_all.new.walk.labels.known.items [] c.follow_all.new.walk.named.items = subst (λ (xs : List Step). IsListing arena image k meta c.follow_all.new.walk.labels.known.items xs c.follow_all.new.walk.named.items) c.in_ok-follow_all.ensures.done end in
    let items0 = c.follow_all.new.walk.named.items in
    let new1 = c.same_name-repeated.new.named in
    let new2 = c.same_pair-twice.new.named in
    let view1 : c.deref_mut.result.now ≡ items0 = search rules in
    let p : IsPermutation items0 new1 = subst (λ (xs : List Named). IsPermutation xs new1) view1 c.same_name-repeated.ensures.permutation in
    let len1 : c.follow_all.new.walk.named.len ≡ length items0 = search rules in
    let after1 : c.note_leaf.new.self.named.items ≡ new1 = c.note_leaf.ensures.named ∙ written items0 new1 c.follow_all.new.walk.named.len len1 (moved items0 new1 p).long in
    let view2 : c.deref_mut-2.result.now ≡ c.note_leaf.new.self.named.items = search rules in
    let q' : IsPermutation c.note_leaf.new.self.named.items new2 = subst (λ (xs : List Named). IsPermutation xs new2) view2 c.same_pair-twice.ensures.permutation in
    let q : IsPermutation new1 new2 = subst (λ (xs : List Named). IsPermutation xs new2) after1 q' in
    let len2 : c.note_leaf.new.self.named.len ≡ length c.note_leaf.new.self.named.items = search rules in
    let after2 = written c.note_leaf.new.self.named.items new2 c.note_leaf.new.self.named.len len2 (moved c.note_leaf.new.self.named.items new2 q').long in
    let answer : MatchOption c.same_pair-twice.result (Differ slot_of new1) (IsTwice slot_of leaf_of new1) = subst (λ (xs : List Named). MatchOption c.same_pair-twice.result (Differ slot_of xs) (IsTwice slot_of leaf_of xs)) (view2 ∙ after1) c.same_pair-twice.ensures.answer in
    let ordered : AreInOrder arena image k meta f.named c.note_leaf-2.new.self.noted new2 = in_order arena image k meta walking.holds.empty c.follow_all.new.walk.labels.known.items items0 new1 new2 whole p q f.named c.same_pair-twice.result c.note_leaf.new.self.noted c.note_leaf-2.new.self.noted answer (λ lead. c.note_leaf-2.ensures.noted) in
    subst (λ (xs : List Named). AreInOrder arena image k meta f.named c.note_leaf-2.new.self.noted xs) (sym (c.note_leaf-2.ensures.named ∙ after2)) ordered

pub returns-in_default-clause-grows : goal.returns-in_default-clause-grows
returns-in_default-clause-grows g c arena device image s k shows walking = grows_none c.args.walk.now.folders.items

pub returns-then-not-folder-clause-grows : goal.returns-then-not-folder-clause-grows
returns-then-not-folder-clause-grows g c arena device image s k shows w' =
    let f = c.args.folder.now in
    let a : Step = top_step f.entries Bytes f.holder in
    let b : Step = top_step c.in-Some.records Records f.holder in
    let both : tops f ≡ a ∷ b ∷ [] = ap (λ (o : Option Entry). top_step f.entries Bytes f.holder ∷ records_top f.holder o) c.in-Some.is in
    let first : Walking arena device image s k (b ∷ a ∷ []) c.args.walk.now = turned arena device image s k c.args.walk.now c.args.walk.now (record { blocks = refl; epoch = refl; active = refl; labels = refl; noted = refl }) (tops f) a b both refl refl w' in
    let items : c.push.new.self.items ≡ c.args.walk.now.steps.items ++ b ∷ [] =
    is_pushed c.push.result c.args.walk.now.steps.items (c.args.walk.now.steps.items ++ c.top-top.result ∷ []) c.push.new.self.items (sym c.is_err.ensures.value ∙ c.if-is_err.false) c.push.ensures.items
    ∙ ap (λ (x : Step). c.args.walk.now.steps.items ++ x ∷ []) c.top-top.ensures in
    let next : Walking arena device image s k (a ∷ []) (record c.args.walk.now { steps = c.push.new.self }) = pushed arena device image s k c.args.walk.now (record c.args.walk.now { steps = c.push.new.self }) (record { blocks = refl; epoch = refl; active = refl; labels = refl; noted = refl }) (a ∷ []) c.in-Some.records f.holder Records Records items refl first in
    grows_like c.args.walk.now.folders.items c.follow_all.new.walk.folders.items _ c.note_leaf.ensures.folders (c.in_ok-follow_all.ensures.grows arena device image s k (a ∷ []) shows next)

pub returns-in-Ok-clause-grows : goal.returns-in-Ok-clause-grows
returns-in-Ok-clause-grows g c arena device image s k shows w' =
    let f = c.args.folder.now in
    let a : Step = top_step f.entries Bytes f.holder in
    let b : Step = top_step c.in-Some.records Records f.holder in
    let both : tops f ≡ a ∷ b ∷ [] = ap (λ (o : Option Entry). top_step f.entries Bytes f.holder ∷ records_top f.holder o) c.in-Some.is in
    let first : Walking arena device image s k (b ∷ a ∷ []) c.args.walk.now = turned arena device image s k c.args.walk.now c.args.walk.now (record { blocks = refl; epoch = refl; active = refl; labels = refl; noted = refl }) (tops f) a b both refl refl w' in
    let items : c.push.new.self.items ≡ c.args.walk.now.steps.items ++ b ∷ [] =
    is_pushed c.push.result c.args.walk.now.steps.items (c.args.walk.now.steps.items ++ c.top-top.result ∷ []) c.push.new.self.items (sym c.is_err.ensures.value ∙ c.if-is_err.false) c.push.ensures.items
    ∙ ap (λ (x : Step). c.args.walk.now.steps.items ++ x ∷ []) c.top-top.ensures in
    let next : Walking arena device image s k (a ∷ []) (record c.args.walk.now { steps = c.push.new.self }) = pushed arena device image s k c.args.walk.now (record c.args.walk.now { steps = c.push.new.self }) (record { blocks = refl; epoch = refl; active = refl; labels = refl; noted = refl }) (a ∷ []) c.in-Some.records f.holder Records Records items refl first in
    grows_like c.args.walk.now.folders.items c.follow_all.new.walk.folders.items _ (c.note_leaf-2.ensures.folders ∙ c.note_leaf.ensures.folders) (c.in_ok-follow_all.ensures.grows arena device image s k (a ∷ []) shows next)

pub returns-in_default-clause-counted : goal.returns-in_default-clause-counted
returns-in_default-clause-counted g c no_names lead = sym (append-nil c.args.numbers.now.items) ∙ ap (λ (xs : List Named). c.args.numbers.now.items ++ map number_in xs) (sym no_names)

pub returns-in_default-clause-grounds : goal.returns-in_default-clause-grounds
returns-in_default-clause-grounds g c arena device image s k shows walking no_steps no_names has grounds = grounds

pub returns-then-not-folder-clause-grounds : goal.returns-then-not-folder-clause-grounds
returns-then-not-folder-clause-grounds g c arena device image s k shows walking no_steps no_names has grounds =
    let f = c.args.folder.now in
    let e : Entry = c.in-Some.records in
    let a : Step = top_step f.entries Bytes f.holder in
    let b : Step = top_step c.in-Some.records Records f.holder in
    let both : tops f ≡ a ∷ b ∷ [] = ap (λ (o : Option Entry). top_step f.entries Bytes f.holder ∷ records_top f.holder o) c.in-Some.is in
    let first : Walking arena device image s k (b ∷ a ∷ []) c.args.walk.now = turned arena device image s k c.args.walk.now c.args.walk.now (record { blocks = refl; epoch = refl; active = refl; labels = refl; noted = refl }) (tops f) a b both refl refl walking in
    let items : c.push.new.self.items ≡ c.args.walk.now.steps.items ++ b ∷ [] =
    is_pushed c.push.result c.args.walk.now.steps.items (c.args.walk.now.steps.items ++ c.top-top.result ∷ []) c.push.new.self.items (sym c.is_err.ensures.value ∙ c.if-is_err.false) c.push.ensures.items
    ∙ ap (λ (x : Step). c.args.walk.now.steps.items ++ x ∷ []) c.top-top.ensures in
    let next : Walking arena device image s k (a ∷ []) (record c.args.walk.now { steps = c.push.new.self }) = pushed arena device image s k c.args.walk.now (record c.args.walk.now { steps = c.push.new.self }) (record { blocks = refl; epoch = refl; active = refl; labels = refl; noted = refl }) (a ∷ []) c.in-Some.records f.holder Records Records items refl first in
    let own : IsRecordsOf arena image k e = has.each e c.in-Some.is in
    let meta : Link = record { kind = Data e.depth; slot = Head e } in
    let start' : HasGrounds arena image k c.args.walk.now.noted c.push.new.self.items c.args.walk.now.folders.items = grounds_push arena image k c.args.walk.now.noted c.args.walk.now.steps.items c.push.new.self.items b c.args.walk.now.folders.items items (placed_top arena image k e own f.holder) grounds in
    let end' : HasGrounds arena image k c.follow_all.new.walk.noted c.follow_all.new.walk.steps.items c.follow_all.new.walk.folders.items = c.in_ok-follow_all.ensures.grounds arena device image s k (a ∷ []) shows next start' in
    let judges : e.dir ≡ false → JudgesNames arena image k meta c.same_name-repeated.result = λ file.
    let w : IsMetaOf f meta = is_meta arena image k e own f c.in-Some.is file in
    let top : c.push.new.self.items ≡ top_step e Records f.holder ∷ [] = items ∙ ap (λ (xs : List Step). xs ++ b ∷ []) no_steps in
    let start : IsListing arena image k meta c.args.walk.now.labels.known.items c.push.new.self.items c.args.walk.now.named.items = listing_at arena device image s k meta c.args.walk.now.labels.known.items c.args.walk.now.labels.known.items (top_step e Records f.holder ∷ []) c.push.new.self.items [] c.args.walk.now.named.items refl top no_names (begins arena image k f meta w c.args.walk.now.labels.known.items) in
    let end : IsListing arena image k meta c.follow_all.new.walk.labels.known.items c.follow_all.new.walk.steps.items c.follow_all.new.walk.named.items = c.in_ok-follow_all.ensures.lists arena device image s k meta (a ∷ []) shows next start in
    let whole : IsListing arena image k meta c.follow_all.new.walk.labels.known.items [] c.follow_all.new.walk.named.items = subst (λ (xs : List Step). IsListing arena image k meta c.follow_all.new.walk.labels.known.items xs c.follow_all.new.walk.named.items) c.in_ok-follow_all.ensures.done end in
    let view : c.deref_mut.result.now ≡ c.follow_all.new.walk.named.items = search rules in
    judged arena image walking.holds.empty k meta c.follow_all.new.walk.labels.known.items c.follow_all.new.walk.named.items whole c.same_name-repeated.result (subst (λ (xs : List Named). MatchOption c.same_name-repeated.result (Differ name_of xs) (IsTwice name_of leaf_of xs)) view c.same_name-repeated.ensures.answer) in
    let named : HasGrounds arena image k c.note_leaf.new.self.noted c.note_leaf.new.self.steps.items c.note_leaf.new.self.folders.items =
    grounds_like arena image k c.follow_all.new.walk.noted c.note_leaf.new.self.noted c.follow_all.new.walk.steps.items c.note_leaf.new.self.steps.items c.follow_all.new.walk.folders.items c.note_leaf.new.self.folders.items
    (λ n. formats_named arena image k e own walking.holds.empty c.same_name-repeated.result c.leaf_unless-named_twice.result c.follow_all.new.walk.noted c.note_leaf.new.self.noted c.leaf_unless-named_twice.ensures judges c.note_leaf.ensures.noted n)
    c.note_leaf.ensures.steps c.note_leaf.ensures.folders end' in
    named

pub returns-in-Ok-clause-grounds : goal.returns-in-Ok-clause-grounds
returns-in-Ok-clause-grounds g c arena device image s k shows walking no_steps no_names has grounds =
    let f = c.args.folder.now in
    let e : Entry = c.in-Some.records in
    let a : Step = top_step f.entries Bytes f.holder in
    let b : Step = top_step c.in-Some.records Records f.holder in
    let both : tops f ≡ a ∷ b ∷ [] = ap (λ (o : Option Entry). top_step f.entries Bytes f.holder ∷ records_top f.holder o) c.in-Some.is in
    let first : Walking arena device image s k (b ∷ a ∷ []) c.args.walk.now = turned arena device image s k c.args.walk.now c.args.walk.now (record { blocks = refl; epoch = refl; active = refl; labels = refl; noted = refl }) (tops f) a b both refl refl walking in
    let items : c.push.new.self.items ≡ c.args.walk.now.steps.items ++ b ∷ [] =
    is_pushed c.push.result c.args.walk.now.steps.items (c.args.walk.now.steps.items ++ c.top-top.result ∷ []) c.push.new.self.items (sym c.is_err.ensures.value ∙ c.if-is_err.false) c.push.ensures.items
    ∙ ap (λ (x : Step). c.args.walk.now.steps.items ++ x ∷ []) c.top-top.ensures in
    let next : Walking arena device image s k (a ∷ []) (record c.args.walk.now { steps = c.push.new.self }) = pushed arena device image s k c.args.walk.now (record c.args.walk.now { steps = c.push.new.self }) (record { blocks = refl; epoch = refl; active = refl; labels = refl; noted = refl }) (a ∷ []) c.in-Some.records f.holder Records Records items refl first in
    let own : IsRecordsOf arena image k e = has.each e c.in-Some.is in
    let meta : Link = record { kind = Data e.depth; slot = Head e } in
    let start' : HasGrounds arena image k c.args.walk.now.noted c.push.new.self.items c.args.walk.now.folders.items = grounds_push arena image k c.args.walk.now.noted c.args.walk.now.steps.items c.push.new.self.items b c.args.walk.now.folders.items items (placed_top arena image k e own f.holder) grounds in
    let end' : HasGrounds arena image k c.follow_all.new.walk.noted c.follow_all.new.walk.steps.items c.follow_all.new.walk.folders.items = c.in_ok-follow_all.ensures.grounds arena device image s k (a ∷ []) shows next start' in
    let judges : e.dir ≡ false → JudgesNames arena image k meta c.same_name-repeated.result = λ file.
    let w : IsMetaOf f meta = is_meta arena image k e own f c.in-Some.is file in
    let top : c.push.new.self.items ≡ top_step e Records f.holder ∷ [] = items ∙ ap (λ (xs : List Step). xs ++ b ∷ []) no_steps in
    let start : IsListing arena image k meta c.args.walk.now.labels.known.items c.push.new.self.items c.args.walk.now.named.items = listing_at arena device image s k meta c.args.walk.now.labels.known.items c.args.walk.now.labels.known.items (top_step e Records f.holder ∷ []) c.push.new.self.items [] c.args.walk.now.named.items refl top no_names (begins arena image k f meta w c.args.walk.now.labels.known.items) in
    let end : IsListing arena image k meta c.follow_all.new.walk.labels.known.items c.follow_all.new.walk.steps.items c.follow_all.new.walk.named.items = c.in_ok-follow_all.ensures.lists arena device image s k meta (a ∷ []) shows next start in
    let whole : IsListing arena image k meta c.follow_all.new.walk.labels.known.items [] c.follow_all.new.walk.named.items = subst (λ (xs : List Step). IsListing arena image k meta c.follow_all.new.walk.labels.known.items xs c.follow_all.new.walk.named.items) c.in_ok-follow_all.ensures.done end in
    let view : c.deref_mut.result.now ≡ c.follow_all.new.walk.named.items = search rules in
    judged arena image walking.holds.empty k meta c.follow_all.new.walk.labels.known.items c.follow_all.new.walk.named.items whole c.same_name-repeated.result (subst (λ (xs : List Named). MatchOption c.same_name-repeated.result (Differ name_of xs) (IsTwice name_of leaf_of xs)) view c.same_name-repeated.ensures.answer) in
    let named : HasGrounds arena image k c.note_leaf.new.self.noted c.note_leaf.new.self.steps.items c.note_leaf.new.self.folders.items =
    grounds_like arena image k c.follow_all.new.walk.noted c.note_leaf.new.self.noted c.follow_all.new.walk.steps.items c.note_leaf.new.self.steps.items c.follow_all.new.walk.folders.items c.note_leaf.new.self.folders.items
    (λ n. formats_named arena image k e own walking.holds.empty c.same_name-repeated.result c.leaf_unless-named_twice.result c.follow_all.new.walk.noted c.note_leaf.new.self.noted c.leaf_unless-named_twice.ensures judges c.note_leaf.ensures.noted n)
    c.note_leaf.ensures.steps c.note_leaf.ensures.folders end' in
    grounds_like arena image k c.note_leaf.new.self.noted c.note_leaf-2.new.self.noted c.note_leaf.new.self.steps.items c.note_leaf-2.new.self.steps.items c.note_leaf.new.self.folders.items c.note_leaf-2.new.self.folders.items
    (λ n. formats_kept arena image k c.note_leaf.new.self.noted c.note_leaf-2.new.self.noted (keeps_leaf c.note_leaf.new.self.noted c.note_leaf-2.new.self.noted 6 c.same_pair-twice.result (λ e. omega (arith, e)) c.note_leaf-2.ensures.noted) n)
    c.note_leaf-2.ensures.steps c.note_leaf-2.ensures.folders named

pub returns-in_default-clause-slots : goal.returns-in_default-clause-slots
returns-in_default-clause-slots g c arena device image s k meta shows walking w no_steps no_names = notes_kept arena image k meta c.args.walk.now.noted c.args.walk.now.noted (pairs_same c.args.walk.now.noted c.args.walk.now.noted refl)

pub returns-then-not-folder-clause-slots : goal.returns-then-not-folder-clause-slots
returns-then-not-folder-clause-slots g c arena device image s k meta shows walking w no_steps no_names =
    notes_kept arena image k meta c.args.walk.now.noted c.note_leaf.new.self.noted
    (pairs_then c.args.walk.now.noted c.follow_all.new.walk.noted c.note_leaf.new.self.noted (c.in_ok-follow_all.ensures.six device image shows)
    (pairs_leaf c.follow_all.new.walk.noted c.note_leaf.new.self.noted 5 c.leaf_unless-named_twice.result (λ e. omega (arith, e)) c.note_leaf.ensures.noted))

pub returns-in-Ok-clause-slots : goal.returns-in-Ok-clause-slots
returns-in-Ok-clause-slots g c arena device image s k meta shows walking w no_steps no_names =
    let f = c.args.folder.now in
    let e : Entry = c.in-Some.records in
    let same : w.entry ≡ e = some_is w.entry e (sym w.is ∙ c.in-Some.is) in
    let a : Step = top_step f.entries Bytes f.holder in
    let b : Step = top_step c.in-Some.records Records f.holder in
    let both : tops f ≡ a ∷ b ∷ [] = ap (λ (o : Option Entry). top_step f.entries Bytes f.holder ∷ records_top f.holder o) c.in-Some.is in
    let first : Walking arena device image s k (b ∷ a ∷ []) c.args.walk.now = turned arena device image s k c.args.walk.now c.args.walk.now (record { blocks = refl; epoch = refl; active = refl; labels = refl; noted = refl }) (tops f) a b both refl refl walking in
    let items : c.push.new.self.items ≡ c.args.walk.now.steps.items ++ b ∷ [] =
    is_pushed c.push.result c.args.walk.now.steps.items (c.args.walk.now.steps.items ++ c.top-top.result ∷ []) c.push.new.self.items (sym c.is_err.ensures.value ∙ c.if-is_err.false) c.push.ensures.items
    ∙ ap (λ (x : Step). c.args.walk.now.steps.items ++ x ∷ []) c.top-top.ensures in
    let next : Walking arena device image s k (a ∷ []) (record c.args.walk.now { steps = c.push.new.self }) = pushed arena device image s k c.args.walk.now (record c.args.walk.now { steps = c.push.new.self }) (record { blocks = refl; epoch = refl; active = refl; labels = refl; noted = refl }) (a ∷ []) c.in-Some.records f.holder Records Records items refl first in
    let top : c.push.new.self.items ≡ top_step w.entry Records f.holder ∷ [] = items ∙ ap (λ (xs : List Step). xs ++ b ∷ []) no_steps ∙ ap (λ (x : Entry). top_step x Records f.holder ∷ []) (sym same) in
    let start : IsListing arena image k meta c.args.walk.now.labels.known.items c.push.new.self.items c.args.walk.now.named.items = listing_at arena device image s k meta c.args.walk.now.labels.known.items c.args.walk.now.labels.known.items (top_step w.entry Records f.holder ∷ []) c.push.new.self.items [] c.args.walk.now.named.items refl top no_names (begins arena image k f meta w c.args.walk.now.labels.known.items) in
    let end : IsListing arena image k meta c.follow_all.new.walk.labels.known.items c.follow_all.new.walk.steps.items c.follow_all.new.walk.named.items = c.in_ok-follow_all.ensures.lists arena device image s k meta (a ∷ []) shows next start in
    let whole : IsListing arena image k meta c.follow_all.new.walk.labels.known.items [] c.follow_all.new.walk.named.items = subst (λ (xs : List Step). IsListing arena image k meta c.follow_all.new.walk.labels.known.items xs c.follow_all.new.walk.named.items) c.in_ok-follow_all.ensures.done end in
    let items0 = c.follow_all.new.walk.named.items in
    let new1 = c.same_name-repeated.new.named in
    let new2 = c.same_pair-twice.new.named in
    let view1 : c.deref_mut.result.now ≡ items0 = search rules in
    let p : IsPermutation items0 new1 = subst (λ (xs : List Named). IsPermutation xs new1) view1 c.same_name-repeated.ensures.permutation in
    let len1 : c.follow_all.new.walk.named.len ≡ length items0 = search rules in
    let after1 : c.note_leaf.new.self.named.items ≡ new1 = c.note_leaf.ensures.named ∙ written items0 new1 c.follow_all.new.walk.named.len len1 (moved items0 new1 p).long in
    let view2 : c.deref_mut-2.result.now ≡ c.note_leaf.new.self.named.items = search rules in
    let q' : IsPermutation c.note_leaf.new.self.named.items new2 = subst (λ (xs : List Named). IsPermutation xs new2) view2 c.same_pair-twice.ensures.permutation in
    let q : IsPermutation new1 new2 = subst (λ (xs : List Named). IsPermutation xs new2) after1 q' in
    let len2 : c.note_leaf.new.self.named.len ≡ length c.note_leaf.new.self.named.items = search rules in
    let after2 = written c.note_leaf.new.self.named.items new2 c.note_leaf.new.self.named.len len2 (moved c.note_leaf.new.self.named.items new2 q').long in
    let answer : MatchOption c.same_pair-twice.result (Differ slot_of new1) (IsTwice slot_of leaf_of new1) = subst (λ (xs : List Named). MatchOption c.same_pair-twice.result (Differ slot_of xs) (IsTwice slot_of leaf_of xs)) (view2 ∙ after1) c.same_pair-twice.ensures.answer in
    notes_before arena image k meta c.args.walk.now.noted c.note_leaf.new.self.noted c.note_leaf-2.new.self.noted (omega (arith, c.note_leaf.ensures.level, c.in_ok-follow_all.ensures.level))
    (pairs_then c.args.walk.now.noted c.follow_all.new.walk.noted c.note_leaf.new.self.noted (c.in_ok-follow_all.ensures.six device image shows)
    (pairs_leaf c.follow_all.new.walk.noted c.note_leaf.new.self.noted 5 c.leaf_unless-named_twice.result (λ e. omega (arith, e)) c.note_leaf.ensures.noted))
    (notes_twice arena image k meta walking.holds.empty c.follow_all.new.walk.labels.known.items items0 new1 whole p c.same_pair-twice.result c.note_leaf.new.self.noted c.note_leaf-2.new.self.noted answer c.note_leaf-2.ensures.noted)

pub returns-in_default-clause-unnamed : goal.returns-in_default-clause-unnamed
returns-in_default-clause-unnamed g c arena device image s k shows w' = unnamed_none c.args.walk.now.folders.items c.args.walk.now.folders.items refl

pub returns-then-not-folder-clause-unnamed : goal.returns-then-not-folder-clause-unnamed
returns-then-not-folder-clause-unnamed g c arena device image s k shows w' =
    let f = c.args.folder.now in
    let a : Step = top_step f.entries Bytes f.holder in
    let b : Step = top_step c.in-Some.records Records f.holder in
    let both : tops f ≡ a ∷ b ∷ [] = ap (λ (o : Option Entry). top_step f.entries Bytes f.holder ∷ records_top f.holder o) c.in-Some.is in
    let first : Walking arena device image s k (b ∷ a ∷ []) c.args.walk.now = turned arena device image s k c.args.walk.now c.args.walk.now (record { blocks = refl; epoch = refl; active = refl; labels = refl; noted = refl }) (tops f) a b both refl refl w' in
    let items : c.push.new.self.items ≡ c.args.walk.now.steps.items ++ b ∷ [] =
    is_pushed c.push.result c.args.walk.now.steps.items (c.args.walk.now.steps.items ++ c.top-top.result ∷ []) c.push.new.self.items (sym c.is_err.ensures.value ∙ c.if-is_err.false) c.push.ensures.items
    ∙ ap (λ (x : Step). c.args.walk.now.steps.items ++ x ∷ []) c.top-top.ensures in
    let next : Walking arena device image s k (a ∷ []) (record c.args.walk.now { steps = c.push.new.self }) = pushed arena device image s k c.args.walk.now (record c.args.walk.now { steps = c.push.new.self }) (record { blocks = refl; epoch = refl; active = refl; labels = refl; noted = refl }) (a ∷ []) c.in-Some.records f.holder Records Records items refl first in
    unnamed_like c.args.walk.now.folders.items c.follow_all.new.walk.folders.items _ c.note_leaf.ensures.folders (c.in_ok-follow_all.ensures.unnamed arena device image s k (a ∷ []) shows next refl)

pub returns-in-Ok-clause-unnamed : goal.returns-in-Ok-clause-unnamed
returns-in-Ok-clause-unnamed g c arena device image s k shows w' =
    let f = c.args.folder.now in
    let a : Step = top_step f.entries Bytes f.holder in
    let b : Step = top_step c.in-Some.records Records f.holder in
    let both : tops f ≡ a ∷ b ∷ [] = ap (λ (o : Option Entry). top_step f.entries Bytes f.holder ∷ records_top f.holder o) c.in-Some.is in
    let first : Walking arena device image s k (b ∷ a ∷ []) c.args.walk.now = turned arena device image s k c.args.walk.now c.args.walk.now (record { blocks = refl; epoch = refl; active = refl; labels = refl; noted = refl }) (tops f) a b both refl refl w' in
    let items : c.push.new.self.items ≡ c.args.walk.now.steps.items ++ b ∷ [] =
    is_pushed c.push.result c.args.walk.now.steps.items (c.args.walk.now.steps.items ++ c.top-top.result ∷ []) c.push.new.self.items (sym c.is_err.ensures.value ∙ c.if-is_err.false) c.push.ensures.items
    ∙ ap (λ (x : Step). c.args.walk.now.steps.items ++ x ∷ []) c.top-top.ensures in
    let next : Walking arena device image s k (a ∷ []) (record c.args.walk.now { steps = c.push.new.self }) = pushed arena device image s k c.args.walk.now (record c.args.walk.now { steps = c.push.new.self }) (record { blocks = refl; epoch = refl; active = refl; labels = refl; noted = refl }) (a ∷ []) c.in-Some.records f.holder Records Records items refl first in
    unnamed_like c.args.walk.now.folders.items c.follow_all.new.walk.folders.items _ (c.note_leaf-2.ensures.folders ∙ c.note_leaf.ensures.folders) (c.in_ok-follow_all.ensures.unnamed arena device image s k (a ∷ []) shows next refl)

pub returns-in_default-clause-six : goal.returns-in_default-clause-six
returns-in_default-clause-six g c device image shows low = pairs_same c.args.walk.now.noted c.args.walk.now.noted refl

pub returns-then-not-folder-clause-six : goal.returns-then-not-folder-clause-six
returns-then-not-folder-clause-six g c device image shows low =
    pairs_then c.args.walk.now.noted c.follow_all.new.walk.noted c.note_leaf.new.self.noted (c.in_ok-follow_all.ensures.six device image shows)
    (pairs_leaf c.follow_all.new.walk.noted c.note_leaf.new.self.noted 5 c.leaf_unless-named_twice.result (λ e. omega (arith, e)) c.note_leaf.ensures.noted)

pub returns-in-Ok-clause-six : goal.returns-in-Ok-clause-six
returns-in-Ok-clause-six g c device image shows low =
    let below : level c.args.walk.now.noted ≤ 6 = low (search rules) in
    pairs_then c.args.walk.now.noted c.note_leaf.new.self.noted c.note_leaf-2.new.self.noted
    (pairs_then c.args.walk.now.noted c.follow_all.new.walk.noted c.note_leaf.new.self.noted (c.in_ok-follow_all.ensures.six device image shows)
    (pairs_leaf c.follow_all.new.walk.noted c.note_leaf.new.self.noted 5 c.leaf_unless-named_twice.result (λ e. omega (arith, e)) c.note_leaf.ensures.noted))
    (pairs_low c.note_leaf.new.self.noted c.note_leaf-2.new.self.noted c.same_pair-twice.result (omega (arith, below, c.note_leaf.ensures.level, c.in_ok-follow_all.ensures.level)) c.note_leaf-2.ensures.noted)

pub returns-in_default-clause-apart : goal.returns-in_default-clause-apart
returns-in_default-clause-apart g c no_names lead quiet = subst (λ (xs : List Named). IsApart xs) (sym no_names) none_apart

pub returns-then-not-folder-clause-apart : goal.returns-then-not-folder-clause-apart
returns-then-not-folder-clause-apart g c no_names lead quiet = absurd (false≢true (search rules))

pub returns-in-Ok-clause-apart : goal.returns-in-Ok-clause-apart
returns-in-Ok-clause-apart g c no_names lead quiet =
    let items0 = c.follow_all.new.walk.named.items in
    let new1 = c.same_name-repeated.new.named in
    let new2 = c.same_pair-twice.new.named in
    let view1 : c.deref_mut.result.now ≡ items0 = search rules in
    let p : IsPermutation items0 new1 = subst (λ (xs : List Named). IsPermutation xs new1) view1 c.same_name-repeated.ensures.permutation in
    let len1 : c.follow_all.new.walk.named.len ≡ length items0 = search rules in
    let after1 : c.note_leaf.new.self.named.items ≡ new1 = c.note_leaf.ensures.named ∙ written items0 new1 c.follow_all.new.walk.named.len len1 (moved items0 new1 p).long in
    let view2 : c.deref_mut-2.result.now ≡ c.note_leaf.new.self.named.items = search rules in
    let q' : IsPermutation c.note_leaf.new.self.named.items new2 = subst (λ (xs : List Named). IsPermutation xs new2) view2 c.same_pair-twice.ensures.permutation in
    let q : IsPermutation new1 new2 = subst (λ (xs : List Named). IsPermutation xs new2) after1 q' in
    let len2 : c.note_leaf.new.self.named.len ≡ length c.note_leaf.new.self.named.items = search rules in
    let after2 = written c.note_leaf.new.self.named.items new2 c.note_leaf.new.self.named.len len2 (moved c.note_leaf.new.self.named.items new2 q').long in
    let answer : MatchOption c.same_pair-twice.result (Differ slot_of new1) (IsTwice slot_of leaf_of new1) = subst (λ (xs : List Named). MatchOption c.same_pair-twice.result (Differ slot_of xs) (IsTwice slot_of leaf_of xs)) (view2 ∙ after1) c.same_pair-twice.ensures.answer in
    subst (λ (xs : List Named). IsApart xs) (sym (c.note_leaf-2.ensures.named ∙ after2))
    (in_apart new1 new2 q c.same_pair-twice.ensures.sorted c.same_pair-twice.result c.note_leaf.new.self.noted c.note_leaf-2.new.self.noted answer c.note_leaf-2.ensures.noted quiet)

pub returns-in_default-clause-eight : goal.returns-in_default-clause-eight
returns-in_default-clause-eight g c arena device image s k limit shows w' no_steps source h = h

pub returns-then-not-folder-clause-eight : goal.returns-then-not-folder-clause-eight
returns-then-not-folder-clause-eight g c arena device image s k limit shows w' no_steps source h =
    let f = c.args.folder.now in
    let a : Step = top_step f.entries Bytes f.holder in
    let b : Step = top_step c.in-Some.records Records f.holder in
    let both : tops f ≡ a ∷ b ∷ [] = ap (λ (o : Option Entry). top_step f.entries Bytes f.holder ∷ records_top f.holder o) c.in-Some.is in
    let first : Walking arena device image s k (b ∷ a ∷ []) c.args.walk.now = turned arena device image s k c.args.walk.now c.args.walk.now (record { blocks = refl; epoch = refl; active = refl; labels = refl; noted = refl }) (tops f) a b both refl refl w' in
    let items : c.push.new.self.items ≡ c.args.walk.now.steps.items ++ b ∷ [] =
    is_pushed c.push.result c.args.walk.now.steps.items (c.args.walk.now.steps.items ++ c.top-top.result ∷ []) c.push.new.self.items (sym c.is_err.ensures.value ∙ c.if-is_err.false) c.push.ensures.items
    ∙ ap (λ (x : Step). c.args.walk.now.steps.items ++ x ∷ []) c.top-top.ensures in
    let next : Walking arena device image s k (a ∷ []) (record c.args.walk.now { steps = c.push.new.self }) = pushed arena device image s k c.args.walk.now (record c.args.walk.now { steps = c.push.new.self }) (record { blocks = refl; epoch = refl; active = refl; labels = refl; noted = refl }) (a ∷ []) c.in-Some.records f.holder Records Records items refl first in
    let one : c.push.new.self.items ≡ b ∷ [] = items ∙ ap (λ (xs : List Step). xs ++ b ∷ []) no_steps in
    let start : 8 < level c.args.walk.now.noted → AreBelow arena image k f.depth c.push.new.self.items = λ above. subst (λ (xs : List Step). AreBelow arena image k f.depth xs) (sym one) (below_records arena image k f c.in-Some.records Records c.in-Some.is (source above)) in
    let end : HasSources arena image k limit c.follow_all.new.walk.noted c.follow_all.new.walk.folders.items = c.in_ok-follow_all.ensures.eight arena device image s k (a ∷ []) limit shows next start h in
    sources_like arena image k limit c.follow_all.new.walk.noted c.note_leaf.new.self.noted c.follow_all.new.walk.folders.items c.note_leaf.new.self.folders.items c.note_leaf.ensures.level
    (numbers_leaf c.follow_all.new.walk.noted c.note_leaf.new.self.noted 5 c.leaf_unless-named_twice.result (λ e. omega (arith, e)) c.note_leaf.ensures.noted) c.note_leaf.ensures.folders end

pub returns-in-Ok-clause-eight : goal.returns-in-Ok-clause-eight
returns-in-Ok-clause-eight g c arena device image s k limit shows w' no_steps source h =
    let f = c.args.folder.now in
    let a : Step = top_step f.entries Bytes f.holder in
    let b : Step = top_step c.in-Some.records Records f.holder in
    let both : tops f ≡ a ∷ b ∷ [] = ap (λ (o : Option Entry). top_step f.entries Bytes f.holder ∷ records_top f.holder o) c.in-Some.is in
    let first : Walking arena device image s k (b ∷ a ∷ []) c.args.walk.now = turned arena device image s k c.args.walk.now c.args.walk.now (record { blocks = refl; epoch = refl; active = refl; labels = refl; noted = refl }) (tops f) a b both refl refl w' in
    let items : c.push.new.self.items ≡ c.args.walk.now.steps.items ++ b ∷ [] =
    is_pushed c.push.result c.args.walk.now.steps.items (c.args.walk.now.steps.items ++ c.top-top.result ∷ []) c.push.new.self.items (sym c.is_err.ensures.value ∙ c.if-is_err.false) c.push.ensures.items
    ∙ ap (λ (x : Step). c.args.walk.now.steps.items ++ x ∷ []) c.top-top.ensures in
    let next : Walking arena device image s k (a ∷ []) (record c.args.walk.now { steps = c.push.new.self }) = pushed arena device image s k c.args.walk.now (record c.args.walk.now { steps = c.push.new.self }) (record { blocks = refl; epoch = refl; active = refl; labels = refl; noted = refl }) (a ∷ []) c.in-Some.records f.holder Records Records items refl first in
    let one : c.push.new.self.items ≡ b ∷ [] = items ∙ ap (λ (xs : List Step). xs ++ b ∷ []) no_steps in
    let start : 8 < level c.args.walk.now.noted → AreBelow arena image k f.depth c.push.new.self.items = λ above. subst (λ (xs : List Step). AreBelow arena image k f.depth xs) (sym one) (below_records arena image k f c.in-Some.records Records c.in-Some.is (source above)) in
    let end : HasSources arena image k limit c.follow_all.new.walk.noted c.follow_all.new.walk.folders.items = c.in_ok-follow_all.ensures.eight arena device image s k (a ∷ []) limit shows next start h in
    sources_like arena image k limit c.note_leaf.new.self.noted c.note_leaf-2.new.self.noted c.note_leaf.new.self.folders.items c.note_leaf-2.new.self.folders.items c.note_leaf-2.ensures.level
    (numbers_leaf c.note_leaf.new.self.noted c.note_leaf-2.new.self.noted 6 c.same_pair-twice.result (λ e. omega (arith, e)) c.note_leaf-2.ensures.noted) c.note_leaf-2.ensures.folders
    (sources_like arena image k limit c.follow_all.new.walk.noted c.note_leaf.new.self.noted c.follow_all.new.walk.folders.items c.note_leaf.new.self.folders.items c.note_leaf.ensures.level
    (numbers_leaf c.follow_all.new.walk.noted c.note_leaf.new.self.noted 5 c.leaf_unless-named_twice.result (λ e. omega (arith, e)) c.note_leaf.ensures.noted) c.note_leaf.ensures.folders end)

pub returns-in_default-clause-reached : goal.returns-in_default-clause-reached
returns-in_default-clause-reached g c arena device image s k shows w' at l h = h

pub returns-then-not-folder-clause-reached : goal.returns-then-not-folder-clause-reached
returns-then-not-folder-clause-reached g c arena device image s k shows w' at l h =
    let f = c.args.folder.now in
    let a : Step = top_step f.entries Bytes f.holder in
    let b : Step = top_step c.in-Some.records Records f.holder in
    let both : tops f ≡ a ∷ b ∷ [] = ap (λ (o : Option Entry). top_step f.entries Bytes f.holder ∷ records_top f.holder o) c.in-Some.is in
    let first : Walking arena device image s k (b ∷ a ∷ []) c.args.walk.now = turned arena device image s k c.args.walk.now c.args.walk.now (record { blocks = refl; epoch = refl; active = refl; labels = refl; noted = refl }) (tops f) a b both refl refl w' in
    let items : c.push.new.self.items ≡ c.args.walk.now.steps.items ++ b ∷ [] =
    is_pushed c.push.result c.args.walk.now.steps.items (c.args.walk.now.steps.items ++ c.top-top.result ∷ []) c.push.new.self.items (sym c.is_err.ensures.value ∙ c.if-is_err.false) c.push.ensures.items
    ∙ ap (λ (x : Step). c.args.walk.now.steps.items ++ x ∷ []) c.top-top.ensures in
    let next : Walking arena device image s k (a ∷ []) (record c.args.walk.now { steps = c.push.new.self }) = pushed arena device image s k c.args.walk.now (record c.args.walk.now { steps = c.push.new.self }) (record { blocks = refl; epoch = refl; active = refl; labels = refl; noted = refl }) (a ∷ []) c.in-Some.records f.holder Records Records items refl first in
    subst (λ (x : Labels). Reached x.known.items at l) (sym c.note_leaf.ensures.labels) (c.in_ok-follow_all.ensures.reached arena device image s k (a ∷ []) shows next at l h)

pub returns-in-Ok-clause-reached : goal.returns-in-Ok-clause-reached
returns-in-Ok-clause-reached g c arena device image s k shows w' at l h =
    let f = c.args.folder.now in
    let a : Step = top_step f.entries Bytes f.holder in
    let b : Step = top_step c.in-Some.records Records f.holder in
    let both : tops f ≡ a ∷ b ∷ [] = ap (λ (o : Option Entry). top_step f.entries Bytes f.holder ∷ records_top f.holder o) c.in-Some.is in
    let first : Walking arena device image s k (b ∷ a ∷ []) c.args.walk.now = turned arena device image s k c.args.walk.now c.args.walk.now (record { blocks = refl; epoch = refl; active = refl; labels = refl; noted = refl }) (tops f) a b both refl refl w' in
    let items : c.push.new.self.items ≡ c.args.walk.now.steps.items ++ b ∷ [] =
    is_pushed c.push.result c.args.walk.now.steps.items (c.args.walk.now.steps.items ++ c.top-top.result ∷ []) c.push.new.self.items (sym c.is_err.ensures.value ∙ c.if-is_err.false) c.push.ensures.items
    ∙ ap (λ (x : Step). c.args.walk.now.steps.items ++ x ∷ []) c.top-top.ensures in
    let next : Walking arena device image s k (a ∷ []) (record c.args.walk.now { steps = c.push.new.self }) = pushed arena device image s k c.args.walk.now (record c.args.walk.now { steps = c.push.new.self }) (record { blocks = refl; epoch = refl; active = refl; labels = refl; noted = refl }) (a ∷ []) c.in-Some.records f.holder Records Records items refl first in
    subst (λ (x : Labels). Reached x.known.items at l) (sym (c.note_leaf-2.ensures.labels ∙ c.note_leaf.ensures.labels)) (c.in_ok-follow_all.ensures.reached arena device image s k (a ∷ []) shows next at l h)

pub returns-in_default-clause-news : goal.returns-in_default-clause-news
returns-in_default-clause-news g c arena device image s k meta shows w' v no_steps no_names = absurd (none_is v.entry (search rules) v.is)

pub returns-then-not-folder-clause-news : goal.returns-then-not-folder-clause-news
returns-then-not-folder-clause-news g c arena device image s k meta shows w' v no_steps no_names =
    let f = c.args.folder.now in
    let a : Step = top_step f.entries Bytes f.holder in
    let b : Step = top_step c.in-Some.records Records f.holder in
    let both : tops f ≡ a ∷ b ∷ [] = ap (λ (o : Option Entry). top_step f.entries Bytes f.holder ∷ records_top f.holder o) c.in-Some.is in
    let first : Walking arena device image s k (b ∷ a ∷ []) c.args.walk.now = turned arena device image s k c.args.walk.now c.args.walk.now (record { blocks = refl; epoch = refl; active = refl; labels = refl; noted = refl }) (tops f) a b both refl refl w' in
    let items : c.push.new.self.items ≡ c.args.walk.now.steps.items ++ b ∷ [] =
    is_pushed c.push.result c.args.walk.now.steps.items (c.args.walk.now.steps.items ++ c.top-top.result ∷ []) c.push.new.self.items (sym c.is_err.ensures.value ∙ c.if-is_err.false) c.push.ensures.items
    ∙ ap (λ (x : Step). c.args.walk.now.steps.items ++ x ∷ []) c.top-top.ensures in
    let next : Walking arena device image s k (a ∷ []) (record c.args.walk.now { steps = c.push.new.self }) = pushed arena device image s k c.args.walk.now (record c.args.walk.now { steps = c.push.new.self }) (record { blocks = refl; epoch = refl; active = refl; labels = refl; noted = refl }) (a ∷ []) c.in-Some.records f.holder Records Records items refl first in
    let e : Entry = c.in-Some.records in
    let same : v.entry ≡ e = some_is v.entry e (sym v.is ∙ c.in-Some.is) in
    let top : c.push.new.self.items ≡ top_step v.entry Records f.holder ∷ [] = items ∙ ap (λ (xs : List Step). xs ++ b ∷ []) no_steps ∙ ap (λ (x : Entry). top_step x Records f.holder ∷ []) (sym same) in
    let start : IsListing arena image k meta c.args.walk.now.labels.known.items c.push.new.self.items c.args.walk.now.named.items = listing_at arena device image s k meta c.args.walk.now.labels.known.items c.args.walk.now.labels.known.items (top_step v.entry Records f.holder ∷ []) c.push.new.self.items [] c.args.walk.now.named.items refl top no_names (begins arena image k f meta v c.args.walk.now.labels.known.items) in
    let none' : AreFresh c.args.walk.now.labels.known.items c.args.walk.now.labels.known.items c.args.walk.now.named.items = subst (λ (xs : List Named). AreFresh c.args.walk.now.labels.known.items c.args.walk.now.labels.known.items xs) (sym no_names) (fresh_first c.args.walk.now.labels.known.items) in
    let end : AreFresh c.args.walk.now.labels.known.items c.follow_all.new.walk.labels.known.items c.follow_all.new.walk.named.items = c.in_ok-follow_all.ensures.news arena device image s k meta (a ∷ []) c.args.walk.now.labels.known.items shows next start none' in
    let items0 = c.follow_all.new.walk.named.items in
    let new1 = c.same_name-repeated.new.named in
    let new2 = c.same_pair-twice.new.named in
    let view1 : c.deref_mut.result.now ≡ items0 = search rules in
    let p : IsPermutation items0 new1 = subst (λ (xs : List Named). IsPermutation xs new1) view1 c.same_name-repeated.ensures.permutation in
    let len1 : c.follow_all.new.walk.named.len ≡ length items0 = search rules in
    let after1 : c.note_leaf.new.self.named.items ≡ new1 = c.note_leaf.ensures.named ∙ written items0 new1 c.follow_all.new.walk.named.len len1 (moved items0 new1 p).long in
    let view2 : c.deref_mut-2.result.now ≡ c.note_leaf.new.self.named.items = search rules in
    let q' : IsPermutation c.note_leaf.new.self.named.items new2 = subst (λ (xs : List Named). IsPermutation xs new2) view2 c.same_pair-twice.ensures.permutation in
    let q : IsPermutation new1 new2 = subst (λ (xs : List Named). IsPermutation xs new2) after1 q' in
    let len2 : c.note_leaf.new.self.named.len ≡ length c.note_leaf.new.self.named.items = search rules in
    let after2 = written c.note_leaf.new.self.named.items new2 c.note_leaf.new.self.named.len len2 (moved c.note_leaf.new.self.named.items new2 q').long in
    let both : AreFresh c.args.walk.now.labels.known.items c.follow_all.new.walk.labels.known.items new2 = fresh_moved c.args.walk.now.labels.known.items c.follow_all.new.walk.labels.known.items new1 new2 q (fresh_moved c.args.walk.now.labels.known.items c.follow_all.new.walk.labels.known.items items0 new1 p end) in
    subst (λ (xs : List Named). AreFresh c.args.walk.now.labels.known.items c.note_leaf.new.self.labels.known.items xs) (sym after2)
    (subst (λ (x : Labels). AreFresh c.args.walk.now.labels.known.items x.known.items new2) (sym c.note_leaf.ensures.labels) both)

pub returns-in-Ok-clause-news : goal.returns-in-Ok-clause-news
returns-in-Ok-clause-news g c arena device image s k meta shows w' v no_steps no_names =
    let f = c.args.folder.now in
    let a : Step = top_step f.entries Bytes f.holder in
    let b : Step = top_step c.in-Some.records Records f.holder in
    let both : tops f ≡ a ∷ b ∷ [] = ap (λ (o : Option Entry). top_step f.entries Bytes f.holder ∷ records_top f.holder o) c.in-Some.is in
    let first : Walking arena device image s k (b ∷ a ∷ []) c.args.walk.now = turned arena device image s k c.args.walk.now c.args.walk.now (record { blocks = refl; epoch = refl; active = refl; labels = refl; noted = refl }) (tops f) a b both refl refl w' in
    let items : c.push.new.self.items ≡ c.args.walk.now.steps.items ++ b ∷ [] =
    is_pushed c.push.result c.args.walk.now.steps.items (c.args.walk.now.steps.items ++ c.top-top.result ∷ []) c.push.new.self.items (sym c.is_err.ensures.value ∙ c.if-is_err.false) c.push.ensures.items
    ∙ ap (λ (x : Step). c.args.walk.now.steps.items ++ x ∷ []) c.top-top.ensures in
    let next : Walking arena device image s k (a ∷ []) (record c.args.walk.now { steps = c.push.new.self }) = pushed arena device image s k c.args.walk.now (record c.args.walk.now { steps = c.push.new.self }) (record { blocks = refl; epoch = refl; active = refl; labels = refl; noted = refl }) (a ∷ []) c.in-Some.records f.holder Records Records items refl first in
    let e : Entry = c.in-Some.records in
    let same : v.entry ≡ e = some_is v.entry e (sym v.is ∙ c.in-Some.is) in
    let top : c.push.new.self.items ≡ top_step v.entry Records f.holder ∷ [] = items ∙ ap (λ (xs : List Step). xs ++ b ∷ []) no_steps ∙ ap (λ (x : Entry). top_step x Records f.holder ∷ []) (sym same) in
    let start : IsListing arena image k meta c.args.walk.now.labels.known.items c.push.new.self.items c.args.walk.now.named.items = listing_at arena device image s k meta c.args.walk.now.labels.known.items c.args.walk.now.labels.known.items (top_step v.entry Records f.holder ∷ []) c.push.new.self.items [] c.args.walk.now.named.items refl top no_names (begins arena image k f meta v c.args.walk.now.labels.known.items) in
    let none' : AreFresh c.args.walk.now.labels.known.items c.args.walk.now.labels.known.items c.args.walk.now.named.items = subst (λ (xs : List Named). AreFresh c.args.walk.now.labels.known.items c.args.walk.now.labels.known.items xs) (sym no_names) (fresh_first c.args.walk.now.labels.known.items) in
    let end : AreFresh c.args.walk.now.labels.known.items c.follow_all.new.walk.labels.known.items c.follow_all.new.walk.named.items = c.in_ok-follow_all.ensures.news arena device image s k meta (a ∷ []) c.args.walk.now.labels.known.items shows next start none' in
    let items0 = c.follow_all.new.walk.named.items in
    let new1 = c.same_name-repeated.new.named in
    let new2 = c.same_pair-twice.new.named in
    let view1 : c.deref_mut.result.now ≡ items0 = search rules in
    let p : IsPermutation items0 new1 = subst (λ (xs : List Named). IsPermutation xs new1) view1 c.same_name-repeated.ensures.permutation in
    let len1 : c.follow_all.new.walk.named.len ≡ length items0 = search rules in
    let after1 : c.note_leaf.new.self.named.items ≡ new1 = c.note_leaf.ensures.named ∙ written items0 new1 c.follow_all.new.walk.named.len len1 (moved items0 new1 p).long in
    let view2 : c.deref_mut-2.result.now ≡ c.note_leaf.new.self.named.items = search rules in
    let q' : IsPermutation c.note_leaf.new.self.named.items new2 = subst (λ (xs : List Named). IsPermutation xs new2) view2 c.same_pair-twice.ensures.permutation in
    let q : IsPermutation new1 new2 = subst (λ (xs : List Named). IsPermutation xs new2) after1 q' in
    let len2 : c.note_leaf.new.self.named.len ≡ length c.note_leaf.new.self.named.items = search rules in
    let after2 = written c.note_leaf.new.self.named.items new2 c.note_leaf.new.self.named.len len2 (moved c.note_leaf.new.self.named.items new2 q').long in
    let both : AreFresh c.args.walk.now.labels.known.items c.follow_all.new.walk.labels.known.items new2 = fresh_moved c.args.walk.now.labels.known.items c.follow_all.new.walk.labels.known.items new1 new2 q (fresh_moved c.args.walk.now.labels.known.items c.follow_all.new.walk.labels.known.items items0 new1 p end) in
    subst (λ (x : Labels). AreFresh c.args.walk.now.labels.known.items x.known.items c.note_leaf-2.new.self.named.items) (sym (c.note_leaf-2.ensures.labels ∙ c.note_leaf.ensures.labels)) (subst (λ (xs : List Named). AreFresh c.args.walk.now.labels.known.items c.follow_all.new.walk.labels.known.items xs) (sym (c.note_leaf-2.ensures.named ∙ after2)) both)

pub returns-in_default-clause-rules : goal.returns-in_default-clause-rules
returns-in_default-clause-rules g c = rules_same c.args.walk.now.noted c.args.walk.now.noted refl

pub returns-then-not-folder-clause-rules : goal.returns-then-not-folder-clause-rules
returns-then-not-folder-clause-rules g c = rules_then c.args.walk.now.noted c.follow_all.new.walk.noted c.note_leaf.new.self.noted c.in_ok-follow_all.ensures.rules
    (rules_leaf c.follow_all.new.walk.noted c.note_leaf.new.self.noted 5 c.leaf_unless-named_twice.result (omega arith, omega arith) c.note_leaf.ensures.noted)

pub returns-in-Ok-clause-rules : goal.returns-in-Ok-clause-rules
returns-in-Ok-clause-rules g c = rules_then c.args.walk.now.noted c.note_leaf.new.self.noted c.note_leaf-2.new.self.noted
    (rules_then c.args.walk.now.noted c.follow_all.new.walk.noted c.note_leaf.new.self.noted c.in_ok-follow_all.ensures.rules
    (rules_leaf c.follow_all.new.walk.noted c.note_leaf.new.self.noted 5 c.leaf_unless-named_twice.result (omega arith, omega arith) c.note_leaf.ensures.noted))
    (rules_leaf c.note_leaf.new.self.noted c.note_leaf-2.new.self.noted 6 c.same_pair-twice.result (omega arith, omega arith) c.note_leaf-2.ensures.noted)
