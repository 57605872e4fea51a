-- The walk at its root.
use Rattle.std.proofs.Common.{◌≡◌, ⊎_elim, inl, inr, ℕ, zero, suc, ◌+◌, ◌*◌, ◌%◌, ◌^◌, ◌<◌, ◌≤◌, Bool, true, false, List, [], ◌∷◌, ◌++◌, drop, length, get_or, Option, Some, refl, sym, ap, ◌∙◌, subst, arith}
use Rattle.std.specs.Prelude.{cond, MatchBool, MatchOption}
use Rattle.std.specs.List.{All, Any, AllByRecursion}
use Rattle.std.proofs.lemmas.Bool.{false≢true}
use Rattle.fo_disk.specs.Disk.{Block}
use Rattle.fo_image.specs.declared.types.Kind.TheVariants.{Data, Dir, Root}
use Rattle.fo_image.specs.declared.types.State.TheVariants.{Free, Live}
use Rattle.fo_image.specs.declared.types.Label.{Label}
use Rattle.fo_image.specs.declared.types.Entry.{Entry}
use Rattle.fo_image.specs.declared.types.Super.{Super}
use Rattle.fo_image.specs.declared.types.Pointer.TheVariants.{Nil, Local}
use Rattle.fo_image.specs.Place.{label_blocks}
use Rattle.fo_crash.specs.declared.slot.Slot.{Slot}
use Rattle.fo_crash.specs.declared.slot.Slot.TheVariants.{Entry as Head}
use Rattle.fo_crash.specs.Images.{Image, Arena, target, goes as goes_to, kind_below, kind_of_top}
use Rattle.fo_sound.specs.Image.{block_of, IsDataBlock, HasLabel}
use Rattle.fo_sound.specs.Sound.{root_label, HasRootEntries}
use Rattle.fo_good.specs.Sound.{Kept}
use Rattle.fo_check_tree.specs.declared.broken.Broken.{Broken}
use Rattle.fo_check_labels.specs.declared.labels.Known.{Known}
use Rattle.fo_check_labels.specs.declared.labels.Labels.{Labels}
use Rattle.fo_check_tree.specs.declared.walk.Folder.{Folder}
use Rattle.fo_check_tree.specs.declared.walk.Holder.{Holder}
use Rattle.fo_check_tree.specs.declared.walk.Holds.{Holds}
use Rattle.fo_check_tree.specs.declared.walk.Holds.TheVariants.{Bytes, Records}
use Rattle.fo_check_tree.specs.declared.walk.Step.{Step}
use Rattle.fo_check_tree.specs.declared.walk.Walk.{Walk}
use Rattle.fo_check_tree.specs.Answer.{IsShallow, HoldsAny, IsNamed}
use Rattle.fo_check_tree.specs.Dirs.{link_at, HasMeta, AreJudged}
use Rattle.fo_check_tree.specs.Formats.{IsFormed, AreFormed}
use Rattle.fo_check_tree.specs.Listing.{SomeOf}
use Rattle.fo_check_labels.specs.Known.{Ascend, IsKnown, Marks, MarksNone}
use Rattle.fo_good.specs.Means.{IsRead}
use Rattle.fo_image.specs.Record.{SpellsRoot}
use Rattle.fo_check_tree.specs.Lower.{level, JudgesRoot}
use Rattle.fo_good.specs.Trees.IsDir.{top as dir_top}
use Rattle.fo_good.specs.Trees.InTree.{top as tree_top}
use Rattle.fo_check_tree.specs.Numbers.{IsSourceIn}
use Rattle.fo_check_tree.proofs.Lacking.{Heads}
use Rattle.fo_check_tree.specs.Notes.{Lowers}
use Rattle.fo_check_tree.specs.Depths.{IsSourceOf, AreAbove}
use Rattle.fo_check_tree.proofs.Spreading.{above_first}
use Rattle.fo_check_tree.specs.Pairing.{IsHeadOf, AreSettled}
use Rattle.fo_check_tree.specs.Slots.{top_step}
use Rattle.fo_check_names.specs.Pairs.{no_entry}
use Rattle.fo_check_labels.specs.Table.{IsScanned}
use Rattle.fo_check_tree.specs.Walking.{Reached, IsTable, HasPath, IsStepOf, tag_below, one, Fits, all_tops, IsDone, Goes, IsUnbegun, Walking}
use Rattle.fo_check_tree.specs.Walking.IsDone.{nowhere, left}
use Rattle.fo_check_tree.proofs.Going.{named_lowers}
use Rattle.fo_check_tree.proofs.Judging.{holds_active}
use Rattle.fo_check_tree.proofs.Leaves.{lost}
use Rattle.fo_check_tree.proofs.Reaching.{same_label, reached_cases, reached_new, table_kept}
use Rattle.fo_check_tree.proofs.Settling.{settled_first}
use Rattle.fo_check_tree.proofs.Spelled.{only_has}
use Rattle.fo_check_tree.proofs.Sprouting.{top_not_root}
use Rattle.fo_check_tree.proofs.Waiting.{one_here, one_slot, one_most, one_is}

-- ---- the table that was read

module _ (device : List Block) (known : List Known) (blocks : ℕ) (len : length device ≡ blocks) (w : IsScanned device (label_blocks blocks) (585 * label_blocks blocks) known) (up : Ascend known) where
  pub read_table : IsTable device known
  read_table = record {
    right = λ i d lt. let r = w.right i d lt in record { place = r.place; has = r.has; used = r.used };
    listed = λ at l place has used.
        let x = w.labels at (omega (arith, place.to, len)) place in
        let same : x.label ≡ l = only_has device at x.label l x.has has in
        subst (λ (m : Label). Any (IsKnown at m) known) same (x.listed (λ free. used (ap (λ (m : Label). m.state) (sym same) ∙ free)));
    up = up;
  }

  pub read_unreached : All (λ (m : Known). m.reached ≡ false) known
  read_unreached i d lt = (w.right i d lt).fresh

-- ---- the root

-- an entry of the root, or none where that is too deep
pub record IsEntryOf (given e : Entry) : Type 0 where
  pub shallow : given.depth ≤ 4 → e ≡ given
  pub deep : 4 < given.depth → e ≡ no_entry

module _ (arena : Arena) (device : List Block) (image : Image) (s : Super) (k : Kept) (holds : HoldsAny arena device image s k) where
  has_root : HasLabel device k.at (root_label s)
  has_root = subst (λ (a : ℕ). HasLabel device a (root_label s)) (sym holds.at) holds.active.label

  place_root : IsDataBlock (length device) k.at
  place_root = subst (λ (a : ℕ). IsDataBlock (length device) a) (sym holds.at) holds.active.place

  live_free : Live ≡ Free → ⊥
  live_free e = cc

  abbrev here : Holder
  here = record { block = s.active; label = root_label s }

  here_is : here ≡ record { block = k.at; label = root_label s }
  here_is = ap (λ (a : ℕ). record { block = a; label = root_label s }) (sym holds.at)

  step_by : (i : ℕ) (given e : Entry) (h : Holds) → IsShallow (image k.at) i given → IsEntryOf given e → IsStepOf device image k.at (root_label s) i (top_step e h here)
  step_by i given e h slot w = ⊎_elim
      (λ low. subst (λ (x : Entry). IsStepOf device image k.at (root_label s) i (top_step x h here)) (sym (w.shallow low.1)) (record {
        has = has_root;
        holder = here_is;
        pointer = sym (ap target low.0);
        kind = λ some. sym (ap (λ (x : Slot). kind_below Root x) low.0);
        tag = λ some. sym (ap (λ (x : Slot). tag_below Root 1 x) low.0);
        not_root = top_not_root given.dir given.depth;
      }))
      (λ high. subst (λ (x : Entry). IsStepOf device image k.at (root_label s) i (top_step x h here)) (sym (w.deep high.1)) (record {
        has = has_root;
        holder = here_is;
        pointer = sym (ap target high.0);
        kind = λ some. absurd (some refl);
        tag = λ some. absurd (some refl);
        not_root = λ e'. cc;
      }))
      slot

  abbrev two : ℕ → ℕ → ℕ
  two b j = one k.at 0 b j + one k.at 1 b j

  two_first : two k.at 0 ≡ 1
  two_first = omega (arith, one_here k.at 0, one_slot k.at 1 k.at 0 (λ e. omega (arith, e)))

  two_second : two k.at 1 ≡ 1
  two_second = omega (arith, one_here k.at 1, one_slot k.at 0 k.at 1 (λ e. omega (arith, e)))

  two_few : (b j : ℕ) → two b j ≤ 1
  two_few b zero = omega (arith, one_most k.at 0 b zero, one_slot k.at 1 b zero (λ e. omega (arith, e)))
  two_few b (suc j) = omega (arith, one_most k.at 1 b (suc j), one_slot k.at 0 b (suc j) (λ e. omega (arith, e)))

  two_at : (b j : ℕ) → 1 ≤ two b j → b ≡ k.at
  two_at b zero some = (one_is k.at 0 b zero (omega (arith, some, one_slot k.at 1 b zero (λ e. omega (arith, e))))).0
  two_at b (suc j) some = (one_is k.at 1 b (suc j) (omega (arith, some, one_slot k.at 0 b (suc j) (λ e. omega (arith, e))))).0

  -- all other slots of the root lead nowhere
  others_nil : (j : ℕ) → 2 ≤ j → target ((image k.at).slot j) ≡ Nil
  others_nil zero le = absurd (omega (arith, le))
  others_nil (suc zero) le = absurd (omega (arith, le))
  others_nil (suc (suc zero)) le = ap target holds.before
  others_nil (suc (suc (suc j))) le = holds.ends.each (suc (suc (suc j))) (omega arith)

  module _ (old new : Walk) (u : IsUnbegun device s old) where
    listed : Any (IsKnown k.at (root_label s)) old.labels.known.items
    listed = u.table.listed k.at (root_label s) place_root has_root live_free

    marked : (t : Bool) → MatchBool t (Marks s.active old.labels.known.items new.labels.known.items) (MarksNone s.active old.labels.known.items new.labels.known.items) → Marks k.at old.labels.known.items new.labels.known.items
    marked true m = subst (λ (a : ℕ). Marks a old.labels.known.items new.labels.known.items) (sym holds.at) m
    marked false m =
        let a = listed in
        let yes : (get_or old.labels.known.items a.0 a.1).reached ≡ true = m.none a.0 a.1 a.2 (ap (λ (x : Known). x.address) a.3 ∙ a.4.address_is ∙ holds.at) in
        absurd (false≢true (sym (u.unreached a.0 a.1 a.2) ∙ yes))

    is_head : (i : ℕ) (e : Entry) → 5 < level new.noted → (4 < e.depth → level new.noted ≤ 5) → IsShallow (image k.at) i e → ((image k.at).slot i ≡ Head e) × (e.depth ≤ 4)
    is_head i e quiet judged slot = ⊎_elim (λ low. low) (λ high. absurd (omega (arith, quiet, judged high.1))) slot

    module _ (judged : JudgesRoot k.root new.noted) (marks : Marks k.at old.labels.known.items new.labels.known.items) (low : Lowers old.noted new.noted) where
      root_reached : Reached new.labels.known.items k.at (root_label s)
      root_reached = reached_new old.labels.known.items new.labels.known.items k.at u.table.up marks (root_label s) listed

      only_root : (b : ℕ) (l : Label) → Reached new.labels.known.items b l → b ≡ k.at
      only_root b l r = ⊎_elim
          (λ same. same)
          (λ before. absurd (false≢true (sym (u.unreached before.0 before.1 before.2) ∙ ap (λ (x : Known). x.reached) before.3 ∙ before.4.reached_is)))
          (reached_cases old.labels.known.items new.labels.known.items k.at u.table.up marks b l r)

      table : IsTable device new.labels.known.items
      table = table_kept old.labels.known.items new.labels.known.items k.at u.table.up marks device u.table

      only_label' : (b : ℕ) (l : Label) → Reached new.labels.known.items b l → root_label s ≡ l
      only_label' b l r = same_label new.labels.known.items k.at (root_label s) l table.up root_reached (subst (λ (a : ℕ). Reached new.labels.known.items a l) (only_root b l r) r)

      -- a slot that is not left leads nowhere
      gone_nil : (b j : ℕ) (l : Label) → Reached new.labels.known.items b l → two b j ≡ 0 → target ((image b).slot j) ≡ Nil
      gone_nil b zero l r gone = absurd (omega (arith, gone, ap (λ (a : ℕ). two a zero) (only_root b l r), two_first))
      gone_nil b (suc zero) l r gone = absurd (omega (arith, gone, ap (λ (a : ℕ). two a 1) (only_root b l r), two_second))
      gone_nil b (suc (suc j)) l r gone = ap (λ (a : ℕ). target ((image a).slot (suc (suc j)))) (only_root b l r) ∙ others_nil (suc (suc j)) (omega arith)

      nil_local : {a : ℕ} → Nil ≡ Local a → ⊥
      nil_local e = cc

      done_root : (j : ℕ) → IsDone image k new.labels.known.items new.noted (λ b i. 0 + 0 + two b i) k.at (root_label s) j
      done_root zero = left (omega (arith, two_first))
      done_root (suc zero) = left (omega (arith, two_second))
      done_root (suc (suc j)) = nowhere (others_nil (suc (suc j)) (omega arith))

      goes : Goes arena device image s k new.labels.known.items new.noted (λ b j. 0 + 0 + two b j)
      goes = record {
        table = table;
        root = root_reached;
        holders = λ b j some. (root_label s, subst (λ (a : ℕ). Reached new.labels.known.items a (root_label s)) (sym (two_at b j (omega (arith, some)))) root_reached);
        few = λ b j. omega (arith, two_few b j);
        done = λ b l j r. subst (λ (a : ℕ). IsDone image k new.labels.known.items new.noted (λ c i. 0 + 0 + two c i) a l j) (sym (only_root b l r))
            (subst (λ (m : Label). IsDone image k new.labels.known.items new.noted (λ c i. 0 + 0 + two c i) k.at m j) (only_label' b l r) (done_root j));
        paths = λ b l r. subst (λ (a : ℕ). HasPath arena image k a l) (sym (only_root b l r)) (subst (λ (m : Label). HasPath arena image k k.at m) (only_label' b l r)
            (record { path = []; leads = refl; kind = refl; tag = refl; link = refl }));
        read = λ quiet b l r. subst (λ (a : ℕ). IsRead l.kind (image a) (block_of device a)) (sym (only_root b l r)) (subst (λ (m : Label). IsRead m.kind (image k.at) (block_of device k.at)) (only_label' b l r) (record {
          root = k.root;
          spelled = subst (λ (a : ℕ). SpellsRoot k.root (block_of device a)) (sym holds.at) holds.active.block;
          entries = is_head 0 k.root.entries quiet judged.first holds.entries;
          meta = is_head 1 k.root.meta quiet judged.second holds.meta;
          before = holds.before;
          ends = holds.ends;
          own = ap (λ (bytes : List ℕ). drop 104 bytes) (holds.bytes k.at);
        }));
        parents = λ b l r. inl (only_root b l r);
        once = λ quiet a i b j below l m ra rb za zb ta tb. absurd (nil_local (sym (gone_nil a i l ra (omega (arith, za))) ∙ ta));
        top = λ quiet a i l ra za ta. nil_local (sym (gone_nil a i l ra (omega (arith, za))) ∙ ta);
        notes = named_lowers arena image k old.noted new.noted low (subst (λ (o : Option Broken). MatchOption o (Unit {0}) (IsNamed arena image k)) (sym u.nothing.2) tt);
      }

    pub begun : (t : Bool) (l : Labels) → new.labels ≡ l → MatchBool t (Marks s.active old.labels.known.items l.known.items) (MarksNone s.active old.labels.known.items l.known.items) → Lowers old.noted new.noted
        → new.blocks ≡ old.blocks → (new.epoch ≡ old.epoch) × (new.active ≡ old.active) → new.steps.items ≡ old.steps.items → (e r : Entry) → IsEntryOf k.root.entries e → IsEntryOf k.root.meta r
        → new.folders.items ≡ old.folders.items ++ record { entries = e; records = Some r; holder = record { block = s.active; label = root_label s }; depth = 0; named = true } ∷ []
        → JudgesRoot k.root new.noted
        → Walking arena device image s k [] new × (new.steps.items ≡ [])
    begun t l labels found low size tree steps e r we wr folders judged =
        let m = subst (λ (x : Labels). MatchBool t (Marks s.active old.labels.known.items x.known.items) (MarksNone s.active old.labels.known.items x.known.items)) (sym labels) found in
        let f : Folder = record { entries = e; records = Some r; holder = record { block = s.active; label = root_label s }; depth = 0; named = true } in
        let first = step_by 0 k.root.entries e Bytes holds.entries we in
        let second = step_by 1 k.root.meta r Records holds.meta wr in
        let fits : Fits device image (top_step e Bytes (record { block = s.active; label = root_label s }) ∷ top_step r Records (record { block = s.active; label = root_label s }) ∷ []) two = record {
          at = k.at;
          label = root_label s;
          slot = 0;
          is = first;
          others = one k.at 1;
          rest = record { at = k.at; label = root_label s; slot = 1; is = second; others = λ b j. 0; rest = record { each = λ b j. refl }; sum = λ b j. omega arith };
          sum = λ b j. refl;
        } in
        let one_folder : new.folders.items ≡ f ∷ [] = folders ∙ ap (λ (fs : List Folder). fs ++ f ∷ []) u.nothing.1 in
        let no_steps : new.steps.items ≡ [] = steps ∙ u.nothing.0 in (
          record {
            holds = holds;
            size = size ∙ u.size;
            tree = (tree.0 ∙ u.tree.0 ∙ sym holds.active.epoch, tree.1 ∙ u.tree.1);
            others = λ b j. 0;
            steps = λ b j. 0;
            folders = two;
            others_fit = record { each = λ b j. refl };
            steps_fit = subst (λ (xs : List Step). Fits device image xs (λ b j. 0)) (sym no_steps) (record { each = λ b j. refl });
            folders_fit = subst (λ (fs : List Folder). Fits device image (all_tops fs) two) (sym one_folder) fits;
            goes = goes judged (marked t m) low;
          },
          no_steps,
        )

    pub directories : (t : Bool) (l : Labels) → new.labels ≡ l → MatchBool t (Marks s.active old.labels.known.items l.known.items) (MarksNone s.active old.labels.known.items l.known.items) → Lowers old.noted new.noted
        → (e r : Entry) → IsEntryOf k.root.meta r
        → new.folders.items ≡ old.folders.items ++ record { entries = e; records = Some r; holder = record { block = s.active; label = root_label s }; depth = 0; named = true } ∷ []
        → JudgesRoot k.root new.noted → AreJudged arena image k [] new
    directories t l labels found low e r wr folders judged =
        let m = subst (λ (x : Labels). MatchBool t (Marks s.active old.labels.known.items x.known.items) (MarksNone s.active old.labels.known.items x.known.items)) (sym labels) found in
        let f : Folder = record { entries = e; records = Some r; holder = record { block = s.active; label = root_label s }; depth = 0; named = true } in
        let one_folder : new.folders.items ≡ f ∷ [] = folders ∙ ap (λ (fs : List Folder). fs ++ f ∷ []) u.nothing.1 in
        record {
          top = λ records quiet.
              let head = is_head 1 k.root.meta quiet judged.second holds.meta in
              let slot : (image k.at).slot 1 ≡ Head r = head.0 ∙ ap (λ (x : Entry). Head x) (sym (wr.shallow head.1)) in
              inl (subst (λ (fs : List Folder). SomeOf (HasMeta image k.at 1) fs) (sym one_folder) (inl (record { entry = r; is = refl; slot = slot })));
          pairs = λ quiet at p l' reached leaf lt a b.
              let kind : Root ≡ Dir zero = ap (λ (x : Label). x.kind) (only_label' judged (marked t m) low at l' reached) ∙ leaf in
              absurd (cc);
        }

    pub formats : (t : Bool) (l : Labels) → new.labels ≡ l → MatchBool t (Marks s.active old.labels.known.items l.known.items) (MarksNone s.active old.labels.known.items l.known.items) → Lowers old.noted new.noted
        → (e r : Entry) → IsEntryOf k.root.meta r
        → new.folders.items ≡ old.folders.items ++ record { entries = e; records = Some r; holder = record { block = s.active; label = root_label s }; depth = 0; named = true } ∷ []
        → JudgesRoot k.root new.noted → AreFormed arena image k new.labels.known.items new.noted new.steps.items new.folders.items
    formats t l labels found low e r wr folders judged = record {
      each = λ quiet at i l' reached has odd records path b kind leads alone.
          let m = subst (λ (x : Labels). MatchBool t (Marks s.active old.labels.known.items x.known.items) (MarksNone s.active old.labels.known.items x.known.items)) (sym labels) found in
          let same : at ≡ k.at = only_root judged (marked t m) low at l' reached in
          subst (λ (a : ℕ). IsFormed arena image new.steps.items new.folders.items a i path b) (sym same) (by quiet path b i odd (subst (λ (a : ℕ). target ((goes_to arena image (link_at image a i) path).slot) ≡ Local b) same leads));
    }
      where
        f : Folder
        f = record { entries = e; records = Some r; holder = record { block = s.active; label = root_label s }; depth = 0; named = true }

        one_folder : new.folders.items ≡ record { entries = e; records = Some r; holder = record { block = s.active; label = root_label s }; depth = 0; named = true } ∷ []
        one_folder = folders ∙ ap (λ (fs : List Folder). fs ++ record { entries = e; records = Some r; holder = record { block = s.active; label = root_label s }; depth = 0; named = true } ∷ []) u.nothing.1

        nil_is : (a : ℕ) → Nil ≡ Local a → ⊥
        nil_is a x = cc

        by : 5 < level new.noted → (path : List ℕ) (b i : ℕ) → i % 2 ≡ 1 → target ((goes_to arena image (link_at image k.at i) path).slot) ≡ Local b → IsFormed arena image new.steps.items new.folders.items k.at i path b
        by quiet path b zero odd leads = absurd (omega (arith, odd))
        by quiet path b (suc zero) odd leads =
            let head = is_head 1 k.root.meta quiet judged.second holds.meta in
            let slot : (image k.at).slot 1 ≡ Head r = head.0 ∙ ap (λ (x : Entry). Head x) (sym (wr.shallow head.1)) in
            inr (inr (subst (λ (fs : List Folder). SomeOf (HasMeta image k.at 1) fs) (sym one_folder) (inl (record { entry = r; is = refl; slot = slot }))))
        by quiet path b (suc (suc i)) odd leads = absurd (lost arena image holds.empty path (link_at image k.at (suc (suc i))) (λ a x. nil_is a (sym (others_nil (suc (suc i)) (omega arith)) ∙ x)) b leads)

    head_of : (e r : Entry) → IsEntryOf k.root.entries e → IsEntryOf k.root.meta r → JudgesRoot k.root new.noted
        → 6 < level new.noted → IsHeadOf (link_at image k.at 0) (link_at image k.at 1) (record { entries = e; records = Some r; holder = record { block = s.active; label = root_label s }; depth = 0; named = true })
    head_of e r we wr judged quiet =
        let root : HasRootEntries k.root = judged.entries quiet in
        let a = is_head 0 k.root.entries (omega (arith, quiet)) judged.first holds.entries in
        let b = is_head 1 k.root.meta (omega (arith, quiet)) judged.second holds.meta in
        let first : k.root.entries ≡ e = sym (we.shallow a.1) in
        let second : k.root.meta ≡ r = sym (wr.shallow b.1) in
        record {
          named = refl;
          slot = a.0 ∙ ap (λ (x : Entry). Head x) first;
          dir = subst (λ (x : Entry). x.dir ≡ true) first root.entries_dir;
          kind = ap kind_of_top a.0 ∙ ap (λ (d : Bool). cond d (Dir k.root.entries.depth) (Data k.root.entries.depth)) root.entries_dir ∙ ap (λ (x : Entry). Dir x.depth) first;
          shallow = subst (λ (x : Entry). x.depth ≤ 4) first a.1;
          room = subst (λ (x : Entry). x.size ≤ 8192 * 409 ^ x.depth) first (holds_active k.root.entries k.root.entries.active root.entries_active holds.active.block.holds.entries_hold.active_holds);
          records = record {
            entry = r;
            is = refl;
            slot = b.0 ∙ ap (λ (x : Entry). Head x) second;
            file = subst (λ (x : Entry). x.dir ≡ false) second root.meta_dir;
            kind = ap kind_of_top b.0 ∙ ap (λ (d : Bool). cond d (Dir k.root.meta.depth) (Data k.root.meta.depth)) root.meta_dir ∙ ap (λ (x : Entry). Data x.depth) second;
            room = subst (λ (x : Entry). x.size ≤ 8192 * 409 ^ x.depth) second (holds_active k.root.meta k.root.meta.active root.meta_active holds.active.block.holds.meta_holds.active_holds);
            shallow = subst (λ (x : Entry). x.depth ≤ 4) second b.1;
          };
        }

    one_head : (e r : Entry) → new.folders.items ≡ old.folders.items ++ record { entries = e; records = Some r; holder = record { block = s.active; label = root_label s }; depth = 0; named = true } ∷ [] → new.folders.items ≡ record { entries = e; records = Some r; holder = record { block = s.active; label = root_label s }; depth = 0; named = true } ∷ []
    one_head e r folders = folders ∙ ap (λ (fs : List Folder). fs ++ record { entries = e; records = Some r; holder = record { block = s.active; label = root_label s }; depth = 0; named = true } ∷ []) u.nothing.1

    pub settles : (e r : Entry) → IsEntryOf k.root.entries e → IsEntryOf k.root.meta r
        → new.folders.items ≡ old.folders.items ++ record { entries = e; records = Some r; holder = record { block = s.active; label = root_label s }; depth = 0; named = true } ∷ []
        → JudgesRoot k.root new.noted → AreSettled arena image k new.noted new.folders.items []
    settles e r we wr folders judged = settled_first arena image k new.noted new.folders.items (λ quiet. subst (λ (fs : List Folder). SomeOf (IsHeadOf (link_at image k.at 0) (link_at image k.at 1)) fs) (sym (one_head e r folders)) (inl (head_of e r we wr judged quiet)))

    pub heads_begin : (e r : Entry) → IsEntryOf k.root.entries e → IsEntryOf k.root.meta r
        → new.folders.items ≡ old.folders.items ++ record { entries = e; records = Some r; holder = record { block = s.active; label = root_label s }; depth = 0; named = true } ∷ []
        → JudgesRoot k.root new.noted → 6 < level new.noted → AllByRecursion (Heads arena image k) new.folders.items
    heads_begin e r we wr folders judged quiet = subst (λ (fs : List Folder). AllByRecursion (Heads arena image k) fs) (sym (one_head e r folders))
        (λ lead. record { trail = []; entries = link_at image k.at 0; meta = link_at image k.at 1; dir = dir_top; head = head_of e r we wr judged quiet }, tt)

    pub depths_begin : (e r : Entry) → IsEntryOf k.root.entries e
        → new.folders.items ≡ old.folders.items ++ record { entries = e; records = Some r; holder = record { block = s.active; label = root_label s }; depth = 0; named = true } ∷ []
        → JudgesRoot k.root new.noted → AreAbove arena image k new.noted new.folders.items
    depths_begin e r we folders judged = above_first arena image k new.noted new.folders.items (λ quiet. subst (λ (fs : List Folder). SomeOf (IsSourceOf 0 (link_at image k.at 0)) fs) (sym one_folder) (inl (head quiet)))
      where
        one_folder : new.folders.items ≡ record { entries = e; records = Some r; holder = record { block = s.active; label = root_label s }; depth = 0; named = true } ∷ []
        one_folder = folders ∙ ap (λ (fs : List Folder). fs ++ record { entries = e; records = Some r; holder = record { block = s.active; label = root_label s }; depth = 0; named = true } ∷ []) u.nothing.1

        head : 8 < level new.noted → IsSourceOf 0 (link_at image k.at 0) (record { entries = e; records = Some r; holder = record { block = s.active; label = root_label s }; depth = 0; named = true })
        head quiet =
            let root : HasRootEntries k.root = judged.entries (omega (arith, quiet)) in
            let a = is_head 0 k.root.entries (omega (arith, quiet)) judged.first holds.entries in
            let first : k.root.entries ≡ e = sym (we.shallow a.1) in
            record {
              slot = a.0 ∙ ap (λ (x : Entry). Head x) first;
              dir = subst (λ (x : Entry). x.dir ≡ true) first root.entries_dir;
              kind = ap kind_of_top a.0 ∙ ap (λ (d : Bool). cond d (Dir k.root.entries.depth) (Data k.root.entries.depth)) root.entries_dir ∙ ap (λ (x : Entry). Dir x.depth) first;
              depth = refl;
              low = omega arith;
            }

    pub sources_begin : (e r : Entry) → IsEntryOf k.root.entries e → IsEntryOf k.root.meta r
        → new.folders.items ≡ old.folders.items ++ record { entries = e; records = Some r; holder = record { block = s.active; label = root_label s }; depth = 0; named = true } ∷ []
        → JudgesRoot k.root new.noted → 8 < level new.noted → AllByRecursion (IsSourceIn arena image k) new.folders.items
    sources_begin e r we wr folders judged above = subst (λ (fs : List Folder). AllByRecursion (IsSourceIn arena image k) fs) (sym (one_head e r folders)) (
      record {
        above = 0;
        source = link_at image k.at 0;
        tree = tree_top;
        least = omega arith;
        slot = head.slot;
        dir = head.dir;
        kind = head.kind;
        shallow = head.shallow;
        records = λ x is. subst (λ (y : Entry). y.dir ≡ false) (some_is r x is) (subst (λ (y : Entry). y.dir ≡ false) (sym (wr.shallow meta.1)) root.meta_dir);
      },
      tt,
    )
      where
        head : IsHeadOf (link_at image k.at 0) (link_at image k.at 1) (record { entries = e; records = Some r; holder = record { block = s.active; label = root_label s }; depth = 0; named = true })
        head = head_of e r we wr judged (omega (arith, above))

        root : HasRootEntries k.root
        root = judged.entries (omega (arith, above))

        meta : ((image k.at).slot 1 ≡ Head k.root.meta) × (k.root.meta.depth ≤ 4)
        meta = is_head 1 k.root.meta (omega (arith, above)) judged.second holds.meta

        some_is : (x y : Entry) → Some x ≡ Some y → x ≡ y
        some_is x y h = cc
