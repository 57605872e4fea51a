-- A snapshot is given up.
use Rattle.std.proofs.Common.{◌≡◌, ◌≢◌, ◌⊎◌, inl, inr, ⊎_elim, ℕ, zero, suc, ◌≤◌, Bool, List, [], ◌∷◌, ◌++◌, map, refl, sym, ◌∙◌, ap, subst}
use Rattle.std.proofs.lemmas.Bool.{cases_eq}
use Rattle.std.proofs.lemmas.List.Elements.{Contains-append_left, Contains-append_right}
use Rattle.std.specs.List.{Contains}
use Rattle.fo_disk.specs.Disk.{Content as Holds}
use Rattle.fo_image.specs.declared.types.Label.{Label}
use Rattle.fo_image.specs.declared.types.Pointer.TheVariants.{Local}
use Rattle.fo_crash.specs.declared.slot.Slot.{Slot}
use Rattle.fo_crash.specs.declared.place.Place.{Place}
use Rattle.fo_crash.specs.Images.{Reaches, target, to_block}
use Rattle.fo_crash.specs.Places.{super_place}
use Rattle.fo_crash.proofs.Reach.{reaches_on}
use Rattle.fo_cells.specs.Known.{Known, Top, MaySlot, Stands}
use Rattle.fo_cells.specs.Safe.{super_top}
use Rattle.fo_cells.specs.Device.{Mind, known}
use Rattle.fo_cells.proofs.Standing.{stands_by, stands_top, stands_below, among_cases, first_among}
use Rattle.fo_cells_out.specs.Removals.{Pending}
use Rattle.fo_cells_out.specs.Parents.{Tree, Over, IsDivided, blocks_of, view}
use Rattle.fo_cells_out.proofs.Queue.{among_either, nothing_among, push}
use Rattle.fo_cells_out.proofs.Dividing.{covered_one, more_listed, covered_either}
use Rattle.fo_cells_out.proofs.Steps.{view_stands}
use Rattle.fo_cells_out.proofs.Asked.{walk_keeps, nothing_made}
use Rattle.fo_cells_epochs.specs.Epochs.{Root, root_top, HasEpochs, KeepsTrees}
use Rattle.fo_cells_epochs.proofs.Trees.{only_one}
use Rattle.fo_cells_epochs.proofs.Epochs.{by_trees}
use Rattle.fo_cells_queue.specs.Queue.{Queued, IsOnce, IsQueue, tops_from, past_blocks}
use Rattle.fo_cells_queue.proofs.Queue.{once_both, assoc, blocks_both}
use Rattle.fo_cells_queue.proofs.Seen.{PassesOne, past_each, block_among, from_cases}
use Rattle.fo_cells_all.specs.All.{Kept, Format}
use Rattle.fo_cells_all.proofs.All.{together}
use Rattle.fo_cells_steps.specs.Division.{SameTree, HoldsMade, division}
use Rattle.fo_cells_steps.specs.Calls.{SameEpoch}
use Rattle.fo_cells_steps.proofs.Same.{queue_same}
use Rattle.fo_cells_steps.proofs.Still.{older_on, older_off, pointers_on, pointers_off}
use Rattle.fo_cells_blocks.proofs.of_cells_puts.Linking.{reached_within}
use Rattle.fo_cells_steps.proofs.Moving.{listed_in, listed_from}
use Rattle.fo_cells_blocks.proofs.Aside.{view_safe}
use Rattle.fo_cells_blocks.proofs.Indexing.{behind_each, one_covered}
use Rattle.fo_cells_turns.specs.Opening.{none_made, no_origins}
use Rattle.fo_cells_snapshot.specs.Abandon.{AbandonsQueue, Abandons}

-- THE REMOVALS
module _ {next : ℕ} {first new : Known} {t : Tree} {roots : List Root} {high : ℕ} {past : List Queued} {queue : List Pending} (x : AbandonsQueue next first new t roots) (unmade : (b : ℕ) → t.Made b → ⊥) (one_within : t.Within 1) (one_above : (b : ℕ) → Reaches first.memory (to_block 1) b → t.Within b) (q : IsQueue first t high (super_top ∷ []) roots past queue) (tops : (y : Top) → Contains (super_top ∷ map root_top roots) y → Contains new.tops y) where
  abbrev Ones : List Top
  Ones = super_top ∷ []

  abbrev One : List Pending
  One = record { blocks = next ∷ []; after = 1 } ∷ []

  abbrev U : Tree
  U = record t { Covered = λ a. t.Covered a ⊎ (a ≡ next) }

  within_ne : (a : ℕ) → t.Within a → a ≢ next
  within_ne a w e = x.fresh.0 (subst (λ v. t.Within v) e w)

  -- what is seen from tops that are not the new root stood, and is another block
  seen_still : (ts : List Top) → ((y : Top) → Contains ts y → Contains new.tops y × (y.at ≢ next)) → (b : ℕ) (p : Place) → Stands (view new ts) b p → Stands (view first ts) b p × (b ≢ next)
  seen_still ts sub b p st = (was b p st, not b p st)
    where
      not : (b : ℕ) (p : Place) → Stands (view new ts) b p → b ≢ next
      not b p st = along st.path st.top.at st.top.place (stands_top st.top st.is_top) (sub st.top st.is_top).1 st.leads
        where
          along : (path : List (ℕ × Slot)) (a : ℕ) (r : Place) → Stands (view new ts) a r → a ≢ next → Rattle.fo_cells.specs.Known.Leads (view new ts) path a r b p → b ≢ next
          along [] a r here ne l = λ e. ne (l.0 ∙ e)
          along ((i, s) ∷ path) a r here ne l = along path l.1.0 (Rattle.fo_crash.specs.Places.place_below r i s) (stands_below i s l.1.0 here l.0 l.1.1) (λ e. x.unled a i s r (view_stands new ts (λ y is. (sub y is).0) a r here) l.0 (l.1.1 ∙ ap (λ v. Local v) e)) l.1.2

      was : (b : ℕ) (p : Place) → Stands (view new ts) b p → Stands (view first ts) b p
      was b p st = (along st.path st.top.at st.top.place (stands_top st.top st.is_top) (stands_top st.top st.is_top) st.leads)
        where
          along : (path : List (ℕ × Slot)) (a : ℕ) (r : Place) → Stands (view new ts) a r → Stands (view first ts) a r → Rattle.fo_cells.specs.Known.Leads (view new ts) path a r b p → Stands (view first ts) b p
          along [] a r here old l = subst (λ v. Stands (view first ts) v p) l.0 (subst (λ v. Stands (view first ts) a v) l.1 old)
          along ((i, s) ∷ path) a r here old l = along path l.1.0 (Rattle.fo_crash.specs.Places.place_below r i s) (stands_below i s l.1.0 here l.0 l.1.1) (stands_below i s l.1.0 old (x.may a i l.1.0 s (not a r here) l.0 l.1.1) l.1.1) l.1.2

  ones_other : (y : Top) → Contains Ones y → Contains new.tops y × (y.at ≢ next)
  ones_other y is =
      let e = only_one super_top y is in
      (tops y (subst (λ (z : Top). Contains (super_top ∷ map root_top roots) z) e (first_among super_top (map root_top roots))), λ at. x.other (sym at ∙ ap (λ (z : Top). z.at) (sym e)))

  from_other : (epoch : ℕ) (y : Top) → Contains (tops_from Ones roots epoch) y → Contains new.tops y × (y.at ≢ next)
  from_other epoch y is = ⊎_elim
      (λ a. ones_other y a)
      (λ r. (
        tops y (subst (λ (z : Top). Contains (super_top ∷ map root_top roots) z) r.is (Rattle.fo_cells.proofs.Standing.next_among super_top (root_top r.root) (map root_top roots) (Rattle.fo_cells.proofs.Calls.map_among root_top roots r.root r.among))),
        λ at. x.root r.root r.among (ap (λ (z : Top). z.at) r.is ∙ at),
      ))
      (from_cases Ones roots epoch y is)

  -- a removal of before is behind what it was behind
  passes : (ts : List Top) → ((y : Top) → Contains ts y → Contains new.tops y × (y.at ≢ next)) → (r : Pending) → ((b : ℕ) → Contains r.blocks b → t.Covered b) → PassesOne (view first ts) (view new ts) r
  passes ts sub r covered = record {
    led = λ a i b s p st m e own. let was = seen_still ts sub a p st in ((p, was.0), x.may a i b s was.1 m e);
    memory = λ i b e own. ⊎_elim
        (λ is. absurd (q.now.tree.gone b (covered b own) (x.leads i b (subst (λ v. target ((new.memory v).slot i) ≡ Local b) is e))))
        (λ ne. ap target (sym (x.memory r.after i ne)) ∙ e)
        (cases_eq r.after next);
    tops = λ y is own. is;
  }

  points_old : (a i b : ℕ) → t.Within a → target ((new.memory a).slot i) ≡ Local b → target ((first.memory a).slot i) ≡ Local b
  points_old a i b w e = ap target (sym (x.memory a i (within_ne a w))) ∙ e

  over_new : (n a b : ℕ) → t.Within a → Over (view first Ones) t n a b → Over (view new Ones) U n a b
  over_new zero a b w o = (o.0, ap target (x.memory a o.0 (within_ne a w)) ∙ o.1)
  over_new (suc n) a b w o = (o.0, o.1, o.2, ap target (x.memory o.0 0 (within_ne o.0 o.1)) ∙ o.3, over_new n a o.0 w o.4)

  divided : IsDivided (view new Ones) U (past_blocks past) (queue ++ One)
  divided = record {
    tree = record {
      one = λ a b i j z wa wb ea eb. q.now.tree.one a b i j z wa wb (points_old a i z wa ea) (points_old b j z wb eb);
      closed = λ a i b w e. q.now.tree.closed a i b w (points_old a i b w e);
      older = λ a i b w e old. q.now.tree.older a i b w (points_old a i b w e) old;
      apart = q.now.tree.apart;
      gone = λ a is w. ⊎_elim (λ c. q.now.tree.gone a c w) (λ e. within_ne a w e) is;
    };
    forest = record { leads = λ a j b m e. absurd (unmade a m); one = λ a b j l z ma mb mz ea eb. absurd (unmade a ma); young = λ a m old. unmade a m; uncovered = λ a m c. unmade a m };
    parents = record {
      tree = λ a i b s p st m e w.
          let was = seen_still Ones ones_other a p st in ⊎_elim
          (λ h. inl (record { within = h.within; levels = h.levels; over = over_new h.levels a b h.within h.over; older = h.older }))
          (λ r. inr (⊎_elim (λ c. inl (inl c)) (λ made. inr made) r))
          (q.now.parents.tree a i b s p was.0 (x.may a i b s was.1 m e) e w);
      made = λ a i b s p st m e mb. absurd (unmade b mb);
      unwritten = λ a m. absurd (unmade a m);
    };
    behind = push queue (past_blocks past) (record { blocks = next ∷ []; after = 1 }) (behind_each (view first Ones) (view new Ones) queue (past_blocks past) (λ r is. passes Ones ones_other r (λ b own. q.now.covered b (inr (one_covered queue r b is own)))) q.now.behind) (λ earlier sub. record {
      only = λ a i b s p st m e own. absurd (x.unled a i s p (view_stands new Ones (λ y is. (ones_other y is).0) a p st) m (e ∙ ap (λ v. Local v) (is_next b own)));
      away = λ i b e own. x.unled 1 i ((new.memory 1).slot i) super_place (stands_top super_top (ones_other super_top (first_among super_top [])).0) (inr (inl refl)) (e ∙ ap (λ v. Local v) (is_next b own));
      tops = λ y is own. (ones_other y is).1 (is_next y.at own);
    });
    listed = λ b c. more_listed (past_blocks past) queue One b (⊎_elim (λ was. inl (q.now.listed b was)) (λ e. inr (inl (subst (λ v. Contains (next ∷ []) v) (sym e) (first_among next [])))) c);
    covered = λ b c. ⊎_elim
        (λ l. inl (q.now.covered b (inl l)))
        (λ r. ⊎_elim (λ was. inl (q.now.covered b (inr was))) (λ own. inr (⊎_elim (λ is. is_next b is) (λ none. absurd none) own)) (covered_either queue One b r))
        c;
  }
    where
      is_next : (b : ℕ) → Contains (next ∷ []) b → b ≡ next
      is_next b own = ⊎_elim (λ e. sym e) (λ none. absurd (nothing_among b none)) (among_cases next [] b own)

  -- the tree is reached as before
  still_reached : (b : ℕ) → Reaches first.memory (to_block 1) b → Reaches new.memory (to_block 1) b
  still_reached b r = (walk_keeps first.memory (λ a. t.Within a × Reaches new.memory (to_block 1) a) (λ a j z k e. (q.now.tree.closed a j z k.0 e, reaches_on j k.1 (ap target (x.memory a j (within_ne a k.0)) ∙ e))) r.path (to_block 1) b (λ a e. let is : 1 ≡ a = cc in (subst (λ v. t.Within v) is one_within, record { path = []; leads = e })) r.leads).1

  abandoned : IsQueue new U high Ones roots past (queue ++ One)
  abandoned = record {
    now = divided;
    behind = past_each first new Ones Ones roots roots past [] (λ r is. passes (tops_from Ones roots r.epoch) (from_other r.epoch) r.pending (λ b own. q.now.covered b (inl (block_among past r b is own)))) q.behind;
    order = q.order;
    before = q.before;
    within = λ b w. still_reached b (q.within b w);
    once = subst (λ (l : List ℕ). IsOnce l) (assoc (past_blocks past) (blocks_of queue) (next ∷ []) ∙ ap (λ (l : List ℕ). past_blocks past ++ l) (sym (blocks_both queue One))) (once_both (past_blocks past ++ blocks_of queue) (next ∷ []) q.once (λ none. nothing_among next none, tt) (λ z was own. ⊎_elim
        (λ e. x.fresh.1 (q.now.covered next (⊎_elim (λ l. inl l) (λ r. inr (covered_one queue next r)) (among_either (past_blocks past) (blocks_of queue) next (subst (λ v. Contains (past_blocks past ++ blocks_of queue) v) (sym e) was)))))
        (λ none. nothing_among z none)
        (among_cases next [] z own)));
    live = λ b is. ⊎_elim
        (λ e. ap (λ v. (new.label v).state) e ∙ x.live)
        (λ ne. ap (λ (l : Label). l.state) (x.label b ne) ∙ q.live b (⊎_elim (λ c. ⊎_elim (λ was. inl was) (λ e. absurd (ne e)) c) (λ m. inr m) is))
        (cases_eq b next);
    begun = λ r b is own. subst (λ (l : Label). l.epoch ≤ r.epoch) (sym (x.label b (λ e. x.fresh.1 (subst (λ v. t.Covered v) e (q.now.covered b (inl (block_among past r b is own))))))) (q.begun r b is own);
  }

-- THE WHOLE
module _ {next : ℕ} {first c d : Kept} {f : Format} {unsure later : List Bool} {before holds : Holds} (o : Abandons next first c d f later before holds) (all : HoldsMade first f none_made no_origins unsure before) where
  abbrev New : Known
  New = known d.mind holds

  abbrev T : Tree
  T = division first none_made

  abbrev Tops : List Top
  Tops = super_top ∷ map root_top first.roots

  new_is : New ≡ view (known c.mind holds) Tops
  new_is = ap (λ (m : Mind). known m holds) o.mind

  sub : (y : Top) → Contains Tops y → Contains (known c.mind holds).tops y
  sub y is = subst (λ (ts : List Top). Contains ts y) (sym o.epochs.trees.tops) (⊎_elim
      (λ e. Contains-append_left c.active (map root_top first.roots) y (subst (λ (z : Top). Contains c.active z) e (o.fewer.fewer super_top (first_among super_top []))))
      (λ r. Contains-append_right c.active (map root_top first.roots) y r)
      (among_cases super_top (map root_top first.roots) y is))

  trees : KeepsTrees (known c.mind holds) (view (known c.mind holds) Tops) c.active (super_top ∷ []) first.roots
  trees = record {
    tops = refl;
    fewer = o.fewer;
    low = refl;
    may = λ a i z v m e. inl m;
    label = λ z q st. inl refl;
    labels = λ z l is. inl is;
    written = λ a i t v is e. inl (v, is, e);
  }

  epochs_new : HasEpochs New first.high f.high_of d.doubts (super_top ∷ []) first.roots
  epochs_new = subst (λ (k : Known). HasEpochs k first.high f.high_of d.doubts (super_top ∷ []) first.roots) (sym new_is) (by_trees (view_safe (known c.mind holds) Tops first.high sub (first_among super_top (map root_top first.roots))) trees o.read o.epochs)

  abbrev Aside : Tree
  Aside = record T { Covered = λ a. T.Covered a ⊎ (a ≡ next) }

  queue_new : IsQueue New Aside first.high (super_top ∷ []) first.roots first.past (first.queue ++ record { blocks = next ∷ []; after = 1 } ∷ [])
  queue_new = abandoned o.queue (λ b m. m) (record { path = []; leads = refl }) (λ b w. w) (subst (λ (ts : List Top). IsQueue (known first.mind before) T first.high ts first.roots first.past first.queue) o.active all.all.queue) (λ y is. subst (λ (k : Known). Contains k.tops y) (sym new_is) is)

  epoch : SameEpoch first (record d { doubts = first.doubts })
  epoch = record { high = o.high_now; doubts = refl; roots = o.roots_now; past = o.past_now }

  same_label : (a : ℕ) → T.Within a ⊎ none_made a → d.mind.label a ≡ first.mind.label a
  same_label a is = ⊎_elim (λ w. o.queue.label a (λ e. o.queue.fresh.0 (subst (λ v. T.Within v) e w))) (λ none. absurd none) is

  same : SameTree Aside (division d none_made)
  same = record {
    within = λ a w. queue_new.within a w;
    within_back = λ a w. reached_within Aside (λ v j z e. e) queue_new.now.tree (record { path = []; leads = refl }) a w;
    made = λ a m. m;
    made_back = λ a m. m;
    covered = λ a is. listed_from {c = first} {d = record d { doubts = first.doubts }} (record { blocks = next ∷ []; after = 1 } ∷ []) epoch o.queue_now a (⊎_elim (λ was. inl was) (λ e. inr (inl (subst (λ v. Contains (next ∷ []) v) (sym e) (first_among next [])))) is);
    covered_back = λ a is. ⊎_elim
        (λ was. inl was)
        (λ own. inr (⊎_elim (λ one. ⊎_elim (λ e. sym e) (λ none. absurd (nothing_among a none)) (among_cases next [] a one)) (λ none. absurd none) own))
        (listed_in {c = first} {d = record d { doubts = first.doubts }} (record { blocks = next ∷ []; after = 1 } ∷ []) epoch o.queue_now a is);
    older = λ a is q. older_on epoch none_made none_made a (same_label a is) q;
    older_back = λ a is q. older_off epoch none_made none_made a (same_label a is) q;
    pointers = λ a is q. pointers_on epoch none_made none_made a (same_label a is) q;
    pointers_back = λ a is q. pointers_off epoch none_made none_made a (same_label a is) q;
  }

  pub abandon_made : HoldsMade d f none_made no_origins later holds
  abandon_made = record {
    all = together
        (subst (λ n. HasEpochs New n f.high_of d.doubts d.active d.roots) (sym o.high_now) (subst (λ (ts : List Top). HasEpochs New first.high f.high_of d.doubts ts d.roots) (sym o.active_now) (subst (λ (rs : List Root). HasEpochs New first.high f.high_of d.doubts (super_top ∷ []) rs) (sym o.roots_now) epochs_new)))
        (subst (λ n. IsQueue New (division d none_made) n d.active d.roots d.past d.queue) (sym o.high_now) (subst (λ (ts : List Top). IsQueue New (division d none_made) first.high ts d.roots d.past d.queue) (sym o.active_now) (subst (λ (rs : List Root). IsQueue New (division d none_made) first.high (super_top ∷ []) rs d.past d.queue) (sym o.roots_now) (subst (λ (ps : List Queued). IsQueue New (division d none_made) first.high (super_top ∷ []) first.roots ps d.queue) (sym o.past_now) (subst (λ (qs : List Pending). IsQueue New (division d none_made) first.high (super_top ∷ []) first.roots first.past qs) (sym o.queue_now) (queue_same same queue_new))))))
        o.beside;
    origins = nothing_made (view New d.active) (division d none_made) (λ a m. m);
    tops = λ y is. inl (ap (λ (z : Top). z.at) (sym (only_one super_top y (subst (λ (ts : List Top). Contains ts y) o.active_now is))));
    apart = λ b none. absurd none;
  }
