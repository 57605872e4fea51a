-- A made block comes into the tree: a new one, or one in the place of another; and levels are lost.
use Rattle.std.proofs.Common.{◌≡◌, ◌⊎◌, inl, inr, ⊎_elim, ℕ, zero, suc, Bool, List, [], ◌++◌, refl, sym, ◌∙◌, ap, subst, arith}
use Rattle.std.proofs.lemmas.Bool.{cases_eq}
use Rattle.fo_disk.specs.Disk.{Content as Holds}
use Rattle.fo_image.specs.declared.types.Pointer.TheVariants.{Local}
use Rattle.fo_crash.specs.declared.slot.Slot.{Slot}
use Rattle.fo_crash.specs.Images.{Reaches, target, to_block}
use Rattle.fo_crash.proofs.Reach.{lost, reaches_on}
use Rattle.fo_cells.specs.Known.{Known}
use Rattle.fo_cells.specs.Device.{known}
use Rattle.fo_cells.proofs.Standing.{at_b}
use Rattle.fo_cells_out.specs.Removals.{Pending}
use Rattle.fo_cells_out.specs.Parents.{Tree, Points, IsTree, IsForest, Moves, Links, blocks_of, linked}
use Rattle.fo_cells_out.specs.Origins.{Origins, LinkedBy, SharedBy, OutAt, Out, PutsMade, LosesMany, GoneAt, Goes, copied_tree, lost_tree}
use Rattle.fo_cells_out.proofs.Takeout.{same_block, replaced_tree}
use Rattle.fo_cells_out.proofs.Dividing.{replaced_divided}
use Rattle.fo_cells_out.proofs.Asked.{walk_keeps, new_links, link_origins}
use Rattle.fo_cells_out.proofs.Shapes.{link_replaces, link_divided}
use Rattle.fo_cells_out.proofs.MadePuts.{made_replaces, made_origins}
use Rattle.fo_cells_out.proofs.Lost.{lost_replaces, lost_kept}
use Rattle.fo_cells_held.specs.Room.{Used}
use Rattle.fo_cells_epochs.specs.Epochs.{KeepsTrees}
use Rattle.fo_cells_steps.specs.of_cells_queue.Queue.{past_blocks}
use Rattle.fo_cells_steps.proofs.of_cells_queue.Queue.{moves_view}
use Rattle.fo_cells_steps.specs.of_cells_all.All.{Kept, Format}
use Rattle.fo_cells_steps.specs.Division.{SameTree, HoldsMade, division}
use Rattle.fo_cells_steps.specs.Calls.{Beside}
use Rattle.fo_cells_puts.specs.Putting.{PutsOne, AddsThat, ComesNew, QueuesAll, seen_from, made_after, put_after}
use Rattle.fo_cells_steps.proofs.Still.{older_on, older_off, pointers_on, pointers_off}
use Rattle.fo_cells_steps.proofs.Paths.{last_use, still_there}
use Rattle.fo_cells_steps.proofs.Facts.{unled}
use Rattle.fo_cells_steps.proofs.Moving.{moved_made, listed_in, listed_from}
use Rattle.fo_cells_puts.proofs.Puts.{put_is_safe, put_is_moves, put_keeps_trees, put_adds_that}
use Rattle.fo_cells_puts.proofs.Linking.{reached_within, all_inside, come_moves, come_trees, linked_reached, uncovered_put}

module _ {c d : Kept} {f : Format} {x : Used} {Made : ℕ → Type 0} {h : Origins} {unsure : List Bool} {holds : Holds} (all : HoldsMade c f Made h unsure holds) (b : Beside c d f x holds) where
  abbrev T : Tree
  T = division c Made

  abbrev V : Known
  V = seen_from c holds

  abbrev W : Known
  W = seen_from d holds

  tree : IsTree V T
  tree = all.all.queue.now.tree

  forest : IsForest V T
  forest = all.all.queue.now.forest

  -- A NEW BLOCK
  module _ {at i : ℕ} {s : Slot} {y : ℕ} (p : PutsOne at i s c d (made_after c Made holds y) (put_after h y).Apart [] holds) (new : ComesNew at i s y c Made h holds) where
    abbrev L : ℕ → Type 0
    L z = LinkedBy V T y z

    y_made : Made y
    y_made = all.origins.made y new.apart

    pub new_moves : Moves at i s (known c.mind holds) (known d.mind holds)
    new_moves = come_moves all p new.within new.put y_made

    new_trees : KeepsTrees (known c.mind holds) (known d.mind holds) c.active d.active c.roots
    new_trees = come_trees all p new.within new.put y_made

    links : Links at i s V W T L y
    links = new_links y tree forest all.origins y_made new.none at i s (moves_view new_moves new_trees) new.within (λ q. let lt = q.2 in let e : (c.mind.label at).epoch ≡ c.high = p.current in omega (arith, lt, e)) new.empty new.put new.apart new.decided

    after : IsTree W (linked T L)
    after = replaced_tree (link_replaces links tree) tree forest

    pub new_same : SameTree (linked T L) (division d (made_after c Made holds y))
    new_same = record {
      within = λ a w. ⊎_elim
          (λ was. ⊎_elim
          (λ now. now)
          (λ none. absurd (lost d.mind.memory none.path ((c.mind.memory at).slot i) (λ z e. new.empty z e) a none.leads))
          (last_use c.mind.memory d.mind.memory at i new_moves.others was))
          (λ l. linked_reached all p new.within new.put y_made a l)
          w;
      within_back = λ a w. reached_within (linked T L) (λ v j z e. e) after (inl (record { path = []; leads = refl })) a w;
      made = λ a m. m;
      made_back = λ a m. m;
      covered = λ a is. listed_from {c = c} {d = d} [] p.epoch p.queue a (inl is);
      covered_back = λ a is. ⊎_elim (λ old. old) (λ none. absurd none) (listed_in {c = c} {d = d} [] p.epoch p.queue a is);
      older = λ a is q. older_on p.epoch Made Made a (at_b a p.puts.label) q;
      older_back = λ a is q. older_off p.epoch Made Made a (at_b a p.puts.label) q;
      pointers = λ a is q. pointers_on p.epoch Made Made a (at_b a p.puts.label) q;
      pointers_back = λ a is q. pointers_off p.epoch Made Made a (at_b a p.puts.label) q;
    }

    pub linked_made : AddsThat at i s c d holds × HoldsMade d f (made_after c Made holds y) (put_after h y) unsure holds
    linked_made = (
      put_adds_that p all,
      moved_made [] p.epoch p.queue b (put_is_safe p all) new_trees (record {
        moves = new_moves;
        label = p.puts.label;
        uncovered = uncovered_put all p new.within new.put y_made;
        now = link_divided links tree (past_blocks c.past) c.queue all.all.queue.now;
        reached = λ a w. new_same.within a w;
        made = λ a m. m.0;
        inside = λ a none. absurd none;
        once = tt;
      }) new_same (link_origins links tree forest after all.origins) p.keeps (λ a q. q.0) all,
    )

  -- IN THE PLACE OF ANOTHER
  module _ {at i : ℕ} {s : Slot} {top old y : ℕ} {Lost : ℕ → Type 0} {rs : List Pending} (p : PutsOne at i s c d (made_after c Made holds y) (put_after h y).Apart rs holds) (m : PutsMade at i s V W T h top old y Lost) (q : QueuesAll s c d T (copied_tree V T h top y Lost) rs holds) where
    m_made : Made y
    m_made = all.origins.made y m.apart

    pub m_moves : Moves at i s (known c.mind holds) (known d.mind holds)
    m_moves = come_moves all p m.within m.put m_made

    m_trees : KeepsTrees (known c.mind holds) (known d.mind holds) c.active d.active c.roots
    m_trees = come_trees all p m.within m.put m_made

    m_after : IsTree W (copied_tree V T h top y Lost)
    m_after = replaced_tree (made_replaces m tree forest all.origins) tree forest

    out_inside : (n z : ℕ) → OutAt V T top y n z → T.Within z
    out_inside zero z o = subst (λ a. T.Within a) (sym o.0) (tree.closed at i top m.within m.points)
    out_inside (suc n) z o = tree.closed o.0 o.1 z (out_inside n o.0 o.2) o.3

    one_stays : (n : ℕ) → OutAt V T top y n 1 → ⊥
    one_stays zero o = unled all at i m.within (m.points ∙ ap (λ z. Local z) (sym o.0))
    one_stays (suc n) o = unled all o.0 o.1 (out_inside n o.0 o.2) o.3

    abbrev Goes_on : ℕ → Type 0
    Goes_on a = Reaches d.mind.memory (to_block 1) a ⊎ Out V T top y a

    -- what is shared with a block that comes hangs from that one
    shared_reached : (a : ℕ) → SharedBy V T y a → Reaches d.mind.memory (to_block 1) a
    shared_reached a k = reaches_on k.1 (linked_reached all p m.within m.put m_made k.0 k.2) (ap target (m_moves.others k.0 k.1 (inl (λ e. tree.apart k.0 (k.2).0 (subst (λ z. T.Within z) (sym e) m.within)))) ∙ k.3)

    go_on : (a j z : ℕ) → Goes_on a → target ((d.mind.memory a).slot j) ≡ Local z → Goes_on z
    go_on a j z g e = ⊎_elim
        (λ r. inl (reaches_on j r e))
        (λ o.
        let was : Points V a j z = ap target (sym (m_moves.others a j (inl (λ k. m.falls (subst (λ v. Out V T top y v) k o))))) ∙ e in
        ⊎_elim
        (λ k. inl (shared_reached z k))
        (λ un. inr (suc o.0, (a, j, o.1, was, un)))
        (m.shared z))
        g

    stays_reached : (a : ℕ) → T.Within a → (Out V T top y a → ⊥) → Reaches d.mind.memory (to_block 1) a
    stays_reached a w not = ⊎_elim
        (λ now. now)
        (λ r. ⊎_elim
        (λ now. now)
        (λ o. absurd (not o))
        (walk_keeps d.mind.memory Goes_on go_on r.path ((c.mind.memory at).slot i) a (λ z e.
        let is : z ≡ top = same_block e m.points in
        ⊎_elim
        (λ k. inl (shared_reached z k))
        (λ un. inr (0, (is, un)))
        (m.shared z)) r.leads))
        (last_use c.mind.memory d.mind.memory at i m_moves.others w)

    pub m_same : SameTree (copied_tree V T h top y Lost) (division d (made_after c Made holds y))
    m_same = record {
      within = λ a w. ⊎_elim (λ k. stays_reached a k.0 k.1) (λ l. linked_reached all p m.within m.put m_made a l) w;
      within_back = λ a w. reached_within (copied_tree V T h top y Lost) (λ v j z e. e) m_after (inl (record { path = []; leads = refl }, λ o. one_stays o.0 o.1)) a w;
      made = λ a k. k;
      made_back = λ a k. k;
      covered = λ a is. listed_from {c = c} {d = d} rs p.epoch p.queue a (q.listed a is);
      covered_back = λ a is. ⊎_elim (λ old. inl old) (λ own. q.covered a own) (listed_in {c = c} {d = d} rs p.epoch p.queue a is);
      older = λ a is k. older_on p.epoch Made Made a (at_b a p.puts.label) k;
      older_back = λ a is k. older_off p.epoch Made Made a (at_b a p.puts.label) k;
      pointers = λ a is k. pointers_on p.epoch Made Made a (at_b a p.puts.label) k;
      pointers_back = λ a is k. pointers_off p.epoch Made Made a (at_b a p.puts.label) k;
    }

    pub come_made : AddsThat at i s c d holds × HoldsMade d f (made_after c Made holds y) (put_after h y) unsure holds
    come_made = (
      put_adds_that p all,
      moved_made rs p.epoch p.queue b (put_is_safe p all) m_trees (record {
        moves = m_moves;
        label = p.puts.label;
        uncovered = uncovered_put all p m.within m.put m_made;
        now = replaced_divided (past_blocks c.past) c.queue rs (made_replaces m tree forest all.origins) all.all.queue.now q.leaving q.listed q.covered;
        reached = λ a w. m_same.within a w;
        made = λ a k. k.0;
        inside = λ a own. all_inside s V W T (past_blocks c.past ++ blocks_of c.queue) rs q.leaving a own;
        once = q.once;
      }) m_same (made_origins m tree forest all.origins) p.keeps (λ a k. k.0) all,
    )

  -- LEVELS ARE LOST
  module _ {at i : ℕ} {s : Slot} {old z : ℕ} {Lost : ℕ → Type 0} {rs : List Pending} (p : PutsOne at i s c d Made h.Apart rs holds) (m : LosesMany at i s V W T h old z Lost) (q : QueuesAll s c d T (lost_tree V T old z Lost) rs holds) where
    z_within : T.Within z
    z_within = tree.closed m.levels.0 0 z m.levels.1 m.levels.3

    pub l_moves : Moves at i s (known c.mind holds) (known d.mind holds)
    l_moves = put_is_moves p all

    l_trees : KeepsTrees (known c.mind holds) (known d.mind holds) c.active d.active c.roots
    l_trees = put_keeps_trees p all (λ a e. inl (subst (λ v. T.Within v) (same_block m.put e) z_within))

    l_after : IsTree W (lost_tree V T old z Lost)
    l_after = replaced_tree (lost_replaces m tree forest all.origins) tree forest

    gone_inside : (n a : ℕ) → GoneAt V old z n a → T.Within a
    gone_inside zero a g = subst (λ v. T.Within v) (sym g) (tree.closed at i old m.head.within m.head.points)
    gone_inside (suc n) a g = tree.closed g.0 g.1 a (gone_inside n g.0 g.2) g.3

    one_left : (n : ℕ) → GoneAt V old z n 1 → ⊥
    one_left zero g = unled all at i m.head.within (m.head.points ∙ ap (λ v. Local v) (sym g))
    one_left (suc n) g = unled all g.0 g.1 (gone_inside n g.0 g.2) g.3

    z_reached : Reaches d.mind.memory (to_block 1) z
    z_reached = reaches_on i (still_there c.mind.memory d.mind.memory at i l_moves.others m.head.within) (ap target l_moves.here ∙ m.put)

    abbrev Left_on : ℕ → Type 0
    Left_on a = Reaches d.mind.memory (to_block 1) a ⊎ Goes V old z a

    left_on : (a j v : ℕ) → Left_on a → target ((d.mind.memory a).slot j) ≡ Local v → Left_on v
    left_on a j v g e = ⊎_elim
        (λ r. inl (reaches_on j r e))
        (λ o.
        let was : Points V a j v = ap target (sym (l_moves.others a j (inl (λ k. m.falls (subst (λ t. Goes V old z t) k o))))) ∙ e in
        ⊎_elim
        (λ is. inl (subst (λ t. Reaches d.mind.memory (to_block 1) t) (sym is) z_reached))
        (λ ne. inr (suc o.0, (a, j, o.1, was, ne)))
        (cases_eq v z))
        g

    left_reached : (a : ℕ) → T.Within a → (Goes V old z a → ⊥) → Reaches d.mind.memory (to_block 1) a
    left_reached a w not = ⊎_elim
        (λ now. now)
        (λ r. ⊎_elim
        (λ now. now)
        (λ o. absurd (not o))
        (walk_keeps d.mind.memory Left_on left_on r.path ((c.mind.memory at).slot i) a (λ v e. inr (0, same_block e m.head.points)) r.leads))
        (last_use c.mind.memory d.mind.memory at i l_moves.others w)

    pub l_same : SameTree (lost_tree V T old z Lost) (division d Made)
    l_same = record {
      within = λ a w. left_reached a w.0 w.1;
      within_back = λ a w. reached_within (lost_tree V T old z Lost) (λ v j t e. e) l_after (record { path = []; leads = refl }, λ o. one_left o.0 o.1) a w;
      made = λ a k. k;
      made_back = λ a k. k;
      covered = λ a is. listed_from {c = c} {d = d} rs p.epoch p.queue a (q.listed a is);
      covered_back = λ a is. ⊎_elim (λ was. inl was) (λ own. q.covered a own) (listed_in {c = c} {d = d} rs p.epoch p.queue a is);
      older = λ a is k. older_on p.epoch Made Made a (at_b a p.puts.label) k;
      older_back = λ a is k. older_off p.epoch Made Made a (at_b a p.puts.label) k;
      pointers = λ a is k. pointers_on p.epoch Made Made a (at_b a p.puts.label) k;
      pointers_back = λ a is k. pointers_off p.epoch Made Made a (at_b a p.puts.label) k;
    }

    pub left_made : AddsThat at i s c d holds × HoldsMade d f Made h unsure holds
    left_made = (
      put_adds_that p all,
      moved_made rs p.epoch p.queue b (put_is_safe p all) l_trees (record {
        moves = l_moves;
        label = p.puts.label;
        uncovered = λ a e is. tree.gone a is (subst (λ v. T.Within v) (same_block m.put e) z_within);
        now = replaced_divided (past_blocks c.past) c.queue rs (lost_replaces m tree forest all.origins) all.all.queue.now q.leaving q.listed q.covered;
        reached = λ a w. l_same.within a w;
        made = λ a k. k;
        inside = λ a own. all_inside s V W T (past_blocks c.past ++ blocks_of c.queue) rs q.leaving a own;
        once = q.once;
      }) l_same (lost_kept m tree forest all.origins) p.keeps (λ a k. k) all,
    )
