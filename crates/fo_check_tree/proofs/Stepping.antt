-- The walk with one step more: what a step leaves, and what is popped and pushed.
use Rattle.std.proofs.Common.{◌≡◌, ℕ, ◌+◌, ◌<◌, ◌≤◌, Bool, true, List, [], ◌∷◌, ◌++◌, append-nil, length, Option, refl, sym, ap, ◌∙◌, subst, arith}
use Rattle.std.specs.List.{All, Any}
use Rattle.fo_disk.specs.Disk.{Block}
use Rattle.fo_image.specs.declared.types.Kind.{Kind}
use Rattle.fo_image.specs.declared.types.Label.{Label}
use Rattle.fo_image.specs.declared.types.Entry.{Entry}
use Rattle.fo_image.specs.declared.types.Super.{Super}
use Rattle.fo_image.specs.declared.types.Score.{Score}
use Rattle.fo_image.specs.declared.types.Pointer.{Pointer}
use Rattle.fo_image.specs.declared.types.Pointer.TheVariants.{Nil, Local, Score as Held}
use Rattle.fo_crash.specs.Images.{Image, Arena, target}
use Rattle.fo_sound.specs.Image.{block_of, IsDataBlock, HasLabel}
use Rattle.fo_good.specs.Means.{IsRead}
use Rattle.fo_good.specs.Trees.{MayHave, HasLabelBelow, LeadsTo, place_of}
use Rattle.fo_good.specs.Sound.{Kept}
use Rattle.fo_check_tree.specs.declared.broken.Broken.{Broken}
use Rattle.fo_check_labels.specs.declared.error.TreeError.{TreeError}
use Rattle.fo_check_labels.specs.declared.error.TreeError.TheVariants.{Label as BadLabel, Read, Memory}
use Rattle.fo_check_labels.specs.declared.labels.Known.{Known}
use Rattle.fo_check_labels.specs.declared.labels.Labels.{Labels}
use Rattle.fo_check_tree.specs.declared.walk.Folder.{Folder}
use Rattle.fo_check_tree.specs.declared.walk.Holder.{Holder}
use Rattle.fo_check_tree.specs.declared.walk.Holds.{Holds}
use Rattle.fo_check_tree.specs.declared.walk.Step.{Step}
use Rattle.fo_check_tree.specs.declared.walk.Walk.{Walk}
use Rattle.fo_check_tree.specs.Answer.{BreaksLabels, BreaksOnce, RefusesTree}
use Rattle.fo_check_tree.specs.Answer.BreaksLabels.{outside, label}
use Rattle.fo_check_tree.specs.Follows.{Reaches, Follows, RefusesFollow}
use Rattle.fo_check_tree.specs.Follows.Reaches.{again, enters}
use Rattle.fo_check_tree.specs.Follows.Follows.{nowhere, held, local}
use Rattle.fo_check_labels.specs.Known.{IsKnown}
use Rattle.fo_check_tree.specs.Lower.{lower, level}
use Rattle.fo_check_tree.specs.Notes.{Lowers}
use Rattle.fo_check_tree.specs.Slots.{HasSlots, top_step}
use Rattle.fo_check_tree.specs.Steps.{BreaksStep}
use Rattle.fo_check_tree.specs.Steps.BreaksStep.{outside as step_outside, label as step_label}
use Rattle.fo_check_tree.specs.Steps.{place_of as place_to}
use Rattle.fo_check_tree.specs.Walking.{Reached, IsTaken, IsTable, HasPath, IsStepOf, place_under, one, Fits, tops, all_tops, Goes, Walking}
use Rattle.fo_check_tree.proofs.Going.{goes_nowhere, goes_held, goes_again, goes_on, goes_lower, named_at, breaks_once}
use Rattle.fo_check_tree.proofs.Paths.{end_kind, end_tag, end_slot}
use Rattle.fo_check_tree.proofs.Reaching.{is_known}
use Rattle.fo_check_tree.proofs.Spelled.{only_has}
use Rattle.fo_check_tree.proofs.Sprouting.{enters_by}
use Rattle.fo_check_tree.proofs.Waiting.{one_here, fits_join, fits_part, fits_one, fits_single, all_tops_join}

nil_local : {a : ℕ} → Nil ≡ Local a → ⊥
nil_local e = cc

pub taken_of : (device : List Block) (known : List Known) (at : ℕ) (l : Label) → IsTable device known → Any (IsKnown at l) known → IsDataBlock (length device) at × HasLabel device at l
taken_of device known at l t a =
    let r : IsTaken device a.1 = subst (λ (k : Known). IsTaken device k) a.3 (t.right a.0 a.1 a.2) in (
      subst (λ (n : ℕ). IsDataBlock (length device) n) a.4.address_is r.place,
      subst (λ (n : ℕ). HasLabel device n l) a.4.address_is (subst (λ (m : Label). HasLabel device a.1.address m) a.4.label_is r.has),
    )

-- ---- the same walk

module _ (arena : Arena) (device : List Block) (image : Image) (s : Super) (k : Kept) where
  goes_same : (known : List Known) (noted : Option Broken) (n n' : ℕ → ℕ → ℕ) → ((b j : ℕ) → n b j ≡ n' b j) → Goes arena device image s k known noted n → Goes arena device image s k known noted n'
  goes_same known noted n n' same g = subst (λ (m : ℕ → ℕ → ℕ). Goes arena device image s k known noted m) (λ t. λ b j. same b j t) g

  goes_at : (known known' : List Known) (noted noted' : Option Broken) (n : ℕ → ℕ → ℕ) → known' ≡ known → noted' ≡ noted → Goes arena device image s k known noted n → Goes arena device image s k known' noted' n
  goes_at known known' noted noted' n is is' g = subst (λ (ks : List Known). Goes arena device image s k ks noted' n) (sym is) (subst (λ (o : Option Broken). Goes arena device image s k known o n) (sym is') g)

  -- the two walks differ at most in what was noted and in what the walk's contract does not speak of
  pub record IsLike (old new : Walk) : Type 0 where
    pub blocks : new.blocks ≡ old.blocks
    pub epoch : new.epoch ≡ old.epoch
    pub active : new.active ≡ old.active
    pub labels : new.labels ≡ old.labels
    pub steps : new.steps.items ≡ old.steps.items
    pub folders : new.folders.items ≡ old.folders.items

  pub walking_like : (rest : List Step) (old new : Walk) → IsLike old new → Lowers old.noted new.noted → Walking arena device image s k rest old → Walking arena device image s k rest new
  walking_like rest old new like low w = record {
    holds = w.holds;
    size = like.blocks ∙ w.size;
    tree = (like.epoch ∙ w.tree.0, like.active ∙ w.tree.1);
    others = w.others;
    steps = w.steps;
    folders = w.folders;
    others_fit = w.others_fit;
    steps_fit = subst (λ (xs : List Step). Fits device image xs w.steps) (sym like.steps) w.steps_fit;
    folders_fit = subst (λ (xs : List Folder). Fits device image (all_tops xs) w.folders) (sym like.folders) w.folders_fit;
    goes = goes_at old.labels.known.items new.labels.known.items new.noted new.noted (λ b j. w.others b j + w.steps b j + w.folders b j) (ap (λ (l : Labels). l.known.items) like.labels) refl
        (goes_lower arena device image s k old.labels.known.items old.noted (λ b j. w.others b j + w.steps b j + w.folders b j) w.goes new.noted low);
  }

  -- ---- what is popped and pushed

  pub record IsBut (old new : Walk) : Type 0 where
    pub blocks : new.blocks ≡ old.blocks
    pub epoch : new.epoch ≡ old.epoch
    pub active : new.active ≡ old.active
    pub labels : new.labels ≡ old.labels
    pub noted : new.noted ≡ old.noted

  module _ (old new : Walk) (but : IsBut old new) where
    moved : (rest rest' : List Step) (others steps folders : ℕ → ℕ → ℕ) (w : Walking arena device image s k rest old) → Fits device image rest' others → Fits device image new.steps.items steps → Fits device image (all_tops new.folders.items) folders
        → ((b j : ℕ) → w.others b j + w.steps b j + w.folders b j ≡ others b j + steps b j + folders b j) → Walking arena device image s k rest' new
    moved rest rest' others steps folders w a b c same = record {
      holds = w.holds;
      size = but.blocks ∙ w.size;
      tree = (but.epoch ∙ w.tree.0, but.active ∙ w.tree.1);
      others = others;
      steps = steps;
      folders = folders;
      others_fit = a;
      steps_fit = b;
      folders_fit = c;
      goes = goes_at old.labels.known.items new.labels.known.items old.noted new.noted (λ b j. others b j + steps b j + folders b j) (ap (λ (l : Labels). l.known.items) but.labels) but.noted
          (goes_same old.labels.known.items old.noted (λ b j. w.others b j + w.steps b j + w.folders b j) (λ b j. others b j + steps b j + folders b j) same w.goes);
    }

    pub popped : (rest : List Step) (step : Step) → old.steps.items ≡ new.steps.items ++ step ∷ [] → new.folders.items ≡ old.folders.items → Walking arena device image s k rest old → Walking arena device image s k (step ∷ rest) new
    popped rest step is same w =
        let p = fits_part device image new.steps.items (step ∷ []) w.steps (subst (λ (xs : List Step). Fits device image xs w.steps) is w.steps_fit) in
        let o = fits_single device image step p.second p.second_fits in
        moved rest (step ∷ rest) (λ b j. one o.at o.slot b j + w.others b j) p.first w.folders w
        (record { at = o.at; label = o.label; slot = o.slot; is = o.is; others = w.others; rest = w.others_fit; sum = λ b j. refl })
        p.first_fits
        (subst (λ (xs : List Folder). Fits device image (all_tops xs) w.folders) (sym same) w.folders_fit)
        (λ b j. omega (arith, p.sum b j, o.count b j))

    pub emptied : (rest : List Step) → new.steps.items ≡ old.steps.items → new.folders.items ≡ old.folders.items → Walking arena device image s k rest old → Walking arena device image s k rest new
    emptied rest same same' w = moved rest rest w.others w.steps w.folders w w.others_fit
        (subst (λ (xs : List Step). Fits device image xs w.steps) (sym same) w.steps_fit)
        (subst (λ (xs : List Folder). Fits device image (all_tops xs) w.folders) (sym same') w.folders_fit)
        (λ b j. refl)

    -- a step to the top of a source, whatever that holds
    pub pushed : (rest : List Step) (e : Entry) (here : Holder) (old_holds new_holds : Holds) → new.steps.items ≡ old.steps.items ++ top_step e new_holds here ∷ [] → new.folders.items ≡ old.folders.items
        → Walking arena device image s k (top_step e old_holds here ∷ rest) old → Walking arena device image s k rest new
    pushed rest e here old_holds new_holds is same w =
        let f = w.others_fit in
        let step : IsStepOf device image f.at f.label f.slot (top_step e new_holds here) = record { has = f.is.has; holder = f.is.holder; pointer = f.is.pointer; kind = f.is.kind; tag = f.is.tag; not_root = f.is.not_root } in
        moved (top_step e old_holds here ∷ rest) rest f.others (λ b j. w.steps b j + one f.at f.slot b j) w.folders w
        f.rest
        (subst (λ (xs : List Step). Fits device image xs (λ b j. w.steps b j + one f.at f.slot b j)) (sym is) (fits_join device image old.steps.items (top_step e new_holds here ∷ []) w.steps (one f.at f.slot) w.steps_fit (fits_one device image (top_step e new_holds here) f.at f.label f.slot step)))
        (subst (λ (xs : List Folder). Fits device image (all_tops xs) w.folders) (sym same) w.folders_fit)
        (λ b j. omega (arith, f.sum b j))

    -- the two steps of a folder
    pub opened : (f : Folder) → old.folders.items ≡ new.folders.items ++ f ∷ [] → new.steps.items ≡ old.steps.items → Walking arena device image s k [] old → Walking arena device image s k (tops f) new
    opened f is same w =
        let all : all_tops old.folders.items ≡ all_tops new.folders.items ++ tops f = ap (λ (fs : List Folder). all_tops fs) is ∙ all_tops_join new.folders.items (f ∷ []) ∙ ap (λ (xs : List Step). all_tops new.folders.items ++ xs) (append-nil (tops f)) in
        let p = fits_part device image (all_tops new.folders.items) (tops f) w.folders (subst (λ (xs : List Step). Fits device image xs w.folders) all w.folders_fit) in
        moved [] (tops f) p.second w.steps p.first w
        p.second_fits
        (subst (λ (xs : List Step). Fits device image xs w.steps) (sym same) w.steps_fit)
        p.first_fits
        (λ b j. omega (arith, p.sum b j, w.others_fit.each b j))

    -- the second of two steps first
    pub turned : (rest : List Step) (a b : Step) → rest ≡ a ∷ b ∷ [] → new.steps.items ≡ old.steps.items → new.folders.items ≡ old.folders.items → Walking arena device image s k rest old → Walking arena device image s k (b ∷ a ∷ []) new
    turned rest a b is same same' w =
        let v : Fits device image (a ∷ b ∷ []) w.others = subst (λ (xs : List Step). Fits device image xs w.others) is w.others_fit in
        let f = v.rest in
        moved rest (b ∷ a ∷ []) w.others w.steps w.folders w
        (record {
          at = f.at;
          label = f.label;
          slot = f.slot;
          is = f.is;
          others = λ c j. one v.at v.slot c j + f.others c j;
          rest = record { at = v.at; label = v.label; slot = v.slot; is = v.is; others = f.others; rest = f.rest; sum = λ c j. refl };
          sum = λ c j. omega (arith, v.sum c j, f.sum c j);
        })
        (subst (λ (xs : List Step). Fits device image xs w.steps) (sym same) w.steps_fit)
        (subst (λ (xs : List Folder). Fits device image (all_tops xs) w.folders) (sym same') w.folders_fit)
        (λ c j. refl)

  -- ---- a step that was followed

  module _ (rest : List Step) (step : Step) (old new : Walk) (w : Walking arena device image s k (step ∷ rest) old) where
    abbrev left_before : ℕ → ℕ → ℕ
    left_before = λ b j. w.others b j + w.steps b j + w.folders b j

    abbrev left_then : ℕ → ℕ → ℕ
    left_then = λ b j. w.others_fit.others b j + w.steps b j + w.folders b j

    sum : (b j : ℕ) → w.others b j + w.steps b j + w.folders b j ≡ one w.others_fit.at w.others_fit.slot b j + (w.others_fit.others b j + w.steps b j + w.folders b j)
    sum b j = omega (arith, w.others_fit.sum b j)

    leads : (p : Pointer) → step.pointer ≡ p → target ((image w.others_fit.at).slot w.others_fit.slot) ≡ p
    leads p is = sym w.others_fit.is.pointer ∙ is

    block_is : step.holder.block ≡ w.others_fit.at
    block_is = ap (λ (h : Holder). h.block) w.others_fit.is.holder

    -- a path leads to the block of the step
    way_to : (at : ℕ) → step.pointer ≡ Local at → (path : List ℕ) × LeadsTo arena image k.at path at
    way_to at is =
        let h = w.goes.holders w.others_fit.at w.others_fit.slot (omega (arith, sum w.others_fit.at w.others_fit.slot, one_here w.others_fit.at w.others_fit.slot)) in
        let p : HasPath arena image k w.others_fit.at h.0 = w.goes.paths w.others_fit.at h.0 h.1 in
        (p.path ++ w.others_fit.slot ∷ [], ap target (end_slot arena image k w.others_fit.at w.others_fit.slot h.0 p) ∙ leads (Local at) is)

    pub slots_on : (at : ℕ) (m : Label) → step.pointer ≡ Local at → IsDataBlock (length device) at × HasLabel device at m → HasSlots m.kind (image at) (block_of device at)
    slots_on at m is t = let v = way_to at is in w.holds.slots v.0 at m v.1 t.0 t.1

    after_nowhere : step.pointer ≡ Nil → Walking arena device image s k rest old
    after_nowhere nil = record {
      holds = w.holds;
      size = w.size;
      tree = w.tree;
      others = w.others_fit.others;
      steps = w.steps;
      folders = w.folders;
      others_fit = w.others_fit.rest;
      steps_fit = w.steps_fit;
      folders_fit = w.folders_fit;
      goes = goes_nowhere arena device image s k old.labels.known.items old.noted left_before w.goes left_then w.others_fit.at w.others_fit.slot sum (leads Nil nil);
    }

    after_held : (x : Score) → step.pointer ≡ Held x → Walking arena device image s k rest (record old { noted = lower old.noted 9 step.holder.block })
    after_held x is = record {
      holds = w.holds;
      size = w.size;
      tree = w.tree;
      others = w.others_fit.others;
      steps = w.steps;
      folders = w.folders;
      others_fit = w.others_fit.rest;
      steps_fit = w.steps_fit;
      folders_fit = w.folders_fit;
      goes = subst (λ (b : ℕ). Goes arena device image s k old.labels.known.items (lower old.noted 9 b) left_then) (sym block_is)
          (goes_held arena device image s k old.labels.known.items old.noted left_before w.goes left_then w.others_fit.at w.others_fit.slot x sum (leads (Held x) is));
    }

    -- the label may stand below the block that holds the slot
    may_below : (step.pointer ≡ Nil → ⊥) → (m : Label) → MayHave old.epoch old.active (place_to step) step.holder.label m → MayHave k.root.epoch true (place_under w.others_fit.label ((image w.others_fit.at).slot w.others_fit.slot)) w.others_fit.label m
    may_below some m may =
        let above : step.holder.label ≡ w.others_fit.label = ap (λ (h : Holder). h.label) w.others_fit.is.holder in
        record {
          kind = may.kind ∙ w.others_fit.is.kind some;
          tag = may.tag ∙ w.others_fit.is.tag some;
          used = may.used;
          falls = subst (λ (l : Label). m.epoch ≤ l.epoch) above may.falls;
          begun = subst (λ (e : ℕ). m.epoch ≤ e) w.tree.0 may.begun;
          not_closed = λ closed. subst (λ (e : ℕ). e < m.closing) w.tree.0 (may.not_closed closed);
          live = λ yes. may.live w.tree.1;
        }

    may_of : (step.pointer ≡ Nil → ⊥) → (m : Label) → MayHave old.epoch old.active (place_to step) step.holder.label m → (l : Label) → Reached old.labels.known.items w.others_fit.at l → MayHave k.root.epoch true (place_under l ((image w.others_fit.at).slot w.others_fit.slot)) l m
    may_of some m may l reached =
        let has = (taken_of device old.labels.known.items w.others_fit.at l w.goes.table (is_known old.labels.known.items w.others_fit.at l reached)).1 in
        subst (λ (x : Label). MayHave k.root.epoch true (place_under x ((image w.others_fit.at).slot w.others_fit.slot)) x m) (only_has device w.others_fit.at w.others_fit.label l w.others_fit.is.has has) (may_below some m may)

    -- all blocks of this address were reached
    was_reached : (at : ℕ) (m : Label) → All (λ (x : Known). x.address ≡ at → x.reached ≡ true) old.labels.known.items → Any (IsKnown at m) old.labels.known.items → Reached old.labels.known.items at m
    was_reached at m all a =
        let yes : a.1.reached ≡ true = subst (λ (x : Known). x.address ≡ at → x.reached ≡ true) a.3 (all a.0 a.1 a.2) a.4.address_is in
        (a.0, a.1, a.2, a.3, record { address_is = a.4.address_is; label_is = a.4.label_is; reached_is = yes })

    pub again_breaks : (at : ℕ) (m : Label) → step.pointer ≡ Local at → All (λ (x : Known). x.address ≡ at → x.reached ≡ true) old.labels.known.items → Any (IsKnown at m) old.labels.known.items → BreaksOnce arena image k at
    again_breaks at m is all a = breaks_once arena device image s k old.labels.known.items old.noted left_before w.goes w.others_fit.at w.others_fit.slot at m
        (omega (arith, sum w.others_fit.at w.others_fit.slot, one_here w.others_fit.at w.others_fit.slot)) (leads (Local at) is) (was_reached at m all a)

    module _ (depth : ℕ) (named : Bool) (size : new.blocks ≡ old.blocks) (tree : (new.epoch ≡ old.epoch) × (new.active ≡ old.active)) (low : level new.noted ≤ level old.noted) where
      after_block : (at : ℕ) → step.pointer ≡ Local at → Reaches device image depth named step at old new → Walking arena device image s k rest new
      after_block at is (again m allowed marks same same' noted kept) = record {
        holds = w.holds;
        size = size ∙ w.size;
        tree = (tree.0 ∙ w.tree.0, tree.1 ∙ w.tree.1);
        others = w.others_fit.others;
        steps = w.steps;
        folders = w.folders;
        others_fit = w.others_fit.rest;
        steps_fit = subst (λ (xs : List Step). Fits device image xs w.steps) (sym same) w.steps_fit;
        folders_fit = subst (λ (xs : List Folder). Fits device image (all_tops xs) w.folders) (sym same') w.folders_fit;
        goes = goes_at old.labels.known.items new.labels.known.items (lower old.noted 7 at) new.noted left_then marks.same noted
            (goes_again arena device image s k old.labels.known.items old.noted left_before w.goes left_then w.others_fit.at w.others_fit.slot at m sum (leads (Local at) is)
            (was_reached at m marks.none allowed.known) (may_of (λ nil. nil_local (sym nil ∙ is)) m allowed.may));
      }
      after_block at is (enters m allowed marks steps folders notes read adds leafs seeks bytes deeps clean asks eights heads) =
          let known = old.labels.known.items in
          let t = taken_of device known at m w.goes.table allowed.known in
          let slots : HasSlots step.kind (image at) (block_of device at) = subst (λ (d : Kind). HasSlots d (image at) (block_of device at)) allowed.may.kind (slots_on at m is t) in
          let e = enters_by device image at m t.1 old.steps.items new.steps.items old.folders.items new.folders.items step step.kind depth named allowed.may.kind allowed.may.tag w.others_fit.is.not_root slots (steps slots) (folders slots) in
          let g = goes_on arena device image s k known old.noted left_before w.goes new.labels.known.items new.noted left_then (λ b j. e.first b j + e.second b j) w.others_fit.at w.others_fit.slot at m low
          (named_at arena image k at old.noted new.noted notes w.goes.notes) sum (leads (Local at) is) marks allowed.known (may_of (λ nil. nil_local (sym nil ∙ is)) m allowed.may)
          (λ quiet. subst (λ (d : Kind). IsRead d (image at) (block_of device at)) (sym allowed.may.kind) (read w.others_fit.is.not_root slots (w.holds.bytes at) quiet)) e.apart e.few e.all in
          record {
            holds = w.holds;
            size = size ∙ w.size;
            tree = (tree.0 ∙ w.tree.0, tree.1 ∙ w.tree.1);
            others = w.others_fit.others;
            steps = λ b j. w.steps b j + e.first b j;
            folders = λ b j. w.folders b j + e.second b j;
            others_fit = w.others_fit.rest;
            steps_fit = subst (λ (xs : List Step). Fits device image xs (λ b j. w.steps b j + e.first b j)) (sym e.steps_are) (fits_join device image old.steps.items e.added w.steps e.first w.steps_fit e.first_fits);
            folders_fit = subst (λ (xs : List Step). Fits device image xs (λ b j. w.folders b j + e.second b j)) (sym (ap (λ (fs : List Folder). all_tops fs) e.folders_are ∙ all_tops_join old.folders.items e.added'))
                (fits_join device image (all_tops old.folders.items) (all_tops e.added') w.folders e.second w.folders_fit e.second_fits);
            goes = goes_same new.labels.known.items new.noted (λ b j. left_then b j + (e.first b j + e.second b j)) (λ b j. w.others_fit.others b j + (w.steps b j + e.first b j) + (w.folders b j + e.second b j)) (λ b j. omega arith) g;
          }

      pub followed : Follows device image depth named step old new → Walking arena device image s k rest new
      followed (nowhere nil same) = subst (λ (x : Walk). Walking arena device image s k rest x) (sym same) (after_nowhere nil)
      followed (held x is same) = subst (λ (v : Walk). Walking arena device image s k rest v) (sym same) (after_held x is)
      followed (local at is r) = after_block at is r

    -- ---- a step that was refused

    above_is : (l : Label) → Reached old.labels.known.items w.others_fit.at l → w.others_fit.label ≡ l
    above_is l reached = only_has device w.others_fit.at w.others_fit.label l w.others_fit.is.has (taken_of device old.labels.known.items w.others_fit.at l w.goes.table (is_known old.labels.known.items w.others_fit.at l reached)).1

    broken : (at block : ℕ) → step.pointer ≡ Local at → BreaksStep old step at block → BreaksLabels arena device image k block
    broken at block is b =
        let f = w.others_fit in
        let h = w.goes.holders f.at f.slot (omega (arith, sum f.at f.slot, one_here f.at f.slot)) in
        let same : h.0 ≡ f.label = sym (above_is h.0 h.1) in
        let p : HasPath arena image k f.at f.label = subst (λ (l : Label). HasPath arena image k f.at l) same (w.goes.paths f.at h.0 h.1) in
        let down : LeadsTo arena image k.at (p.path ++ f.slot ∷ []) at = ap target (end_slot arena image k f.at f.slot f.label p) ∙ leads (Local at) is in
        by_step at block (λ nil. nil_local (sym nil ∙ is)) p down b
      where
        by_step : (at block : ℕ) → (step.pointer ≡ Nil → ⊥) → (p : HasPath arena image k w.others_fit.at w.others_fit.label) → LeadsTo arena image k.at (p.path ++ w.others_fit.slot ∷ []) at → BreaksStep old step at block → BreaksLabels arena device image k block
        by_step at block some p down (step_outside here none) = subst (λ (n : ℕ). BreaksLabels arena device image k n) (sym (here ∙ block_is))
            (outside p.path w.others_fit.slot w.others_fit.at at p.leads down (λ place. none (subst (λ (n : ℕ). IsDataBlock n at) (sym w.size) place)))
        by_step at block some p down (step_label here place isnt) = subst (λ (n : ℕ). BreaksLabels arena device image k n) (sym here)
            (label p.path w.others_fit.slot w.others_fit.at at w.others_fit.label p.leads w.others_fit.is.has down (subst (λ (n : ℕ). IsDataBlock n at) w.size place)
            (λ (b : HasLabelBelow device k.root.epoch true (place_of arena image k.at (p.path ++ w.others_fit.slot ∷ [])) w.others_fit.label at).
            isnt b.label (w.goes.table.listed at b.label b.place b.has b.may.used) (record {
              kind = b.may.kind ∙ end_kind arena image k w.others_fit.at w.others_fit.slot w.others_fit.label p ∙ sym (w.others_fit.is.kind some);
              tag = b.may.tag ∙ end_tag arena image k w.others_fit.at w.others_fit.slot w.others_fit.label p ∙ sym (w.others_fit.is.tag some);
              used = b.may.used;
              falls = subst (λ (l : Label). b.label.epoch ≤ l.epoch) (sym (ap (λ (x : Holder). x.label) w.others_fit.is.holder)) b.may.falls;
              begun = subst (λ (e : ℕ). b.label.epoch ≤ e) (sym w.tree.0) b.may.begun;
              not_closed = λ closed. subst (λ (e : ℕ). e < b.label.closing) (sym w.tree.0) (b.may.not_closed closed);
              live = λ yes. b.may.live refl;
            })))

    pub refused : (e : TreeError) → RefusesFollow old step e → RefusesTree arena device image k e
    refused (BadLabel block) r = broken r.0 block r.1 r.2
    refused Read r = tt
    refused Memory r = tt
