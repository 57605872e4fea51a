-- A made block is queued alone.
use Rattle.std.proofs.Common.{◌≡◌, ◌≢◌, inl, inr, ⊎_elim, ℕ, zero, suc, Bool, List, [], ◌∷◌, ◌++◌, map, refl, sym, ◌∙◌, ap, subst}
use Rattle.std.proofs.lemmas.List.Elements.{Contains-append_cases, Contains-append_left, Contains-append_right}
use Rattle.std.specs.List.{Contains}
use Rattle.fo_disk.specs.Disk.{Content as Holds}
use Rattle.fo_image.specs.declared.types.Pointer.TheVariants.{Local}
use Rattle.fo_crash.specs.Images.{Reaches, target, to_block}
use Rattle.fo_crash.specs.Steps.{AddsNothing}
use Rattle.fo_crash.proofs.Sure.{same_if}
use Rattle.fo_cells.specs.Known.{Known, Top, Stands}
use Rattle.fo_cells.specs.Safe.{super_top, KeepsSafe}
use Rattle.fo_cells.specs.Device.{Mind, known}
use Rattle.fo_cells.proofs.Standing.{first_among}
use Rattle.fo_cells_out.specs.Removals.{Pending}
use Rattle.fo_cells_out.specs.Parents.{Tree, Points, Stays, blocks_of, set_aside, view}
use Rattle.fo_cells_out.specs.Origins.{Origins, Under, ByCopy, ByTop, HasOrigins}
use Rattle.fo_cells_out.proofs.Queue.{among_either, nothing_among}
use Rattle.fo_cells_out.proofs.Dividing.{covered_one, still_divided}
use Rattle.fo_cells_out.proofs.Shapes.{aside_divided}
use Rattle.fo_cells_out.proofs.Steps.{view_stands, view_kept}
use Rattle.fo_cells_held.specs.Room.{Used}
use Rattle.fo_cells_epochs.specs.Epochs.{root_top, HasEpochs, KeepsTrees}
use Rattle.fo_cells_epochs.proofs.Epochs.{by_trees}
use Rattle.fo_cells_queue.specs.Queue.{IsOnce, IsQueue, past_blocks}
use Rattle.fo_cells_queue.proofs.Queue.{once_both, assoc, blocks_both, fewer_from, stays_view}
use Rattle.fo_cells_queue.proofs.Seen.{past_each, seen_still}
use Rattle.fo_cells_all.specs.All.{Kept, Format}
use Rattle.fo_cells_all.proofs.All.{beside, beside_step, together}
use Rattle.fo_cells_steps.specs.Division.{SameTree, HoldsMade, division}
use Rattle.fo_cells_steps.specs.Calls.{Beside, images}
use Rattle.fo_cells_puts.specs.Putting.{put_after}
use Rattle.fo_cells_steps.proofs.Same.{queue_same, origins_same}
use Rattle.fo_cells_steps.proofs.Still.{epochs_rest, queue_rest, older_on, older_off, pointers_on, pointers_off}
use Rattle.fo_cells_steps.proofs.Moving.{listed_in, listed_from}
use Rattle.fo_cells_blocks.specs.Indexing.{SetsAside}

-- FEWER TOPS keep the whole of what is known.
pub view_safe : (k : Known) (ts : List Top) (high : ℕ) → ((y : Top) → Contains ts y → Contains k.tops y) → Contains ts super_top → KeepsSafe k (view k ts) high
view_safe k ts high sub top = record {
  kept = λ kept. view_kept k ts sub kept;
  some = record { versions = λ b some. some; labels = λ b some. some };
  top = λ was. top;
  stands = λ b q st. view_stands k ts sub b q st;
  label = λ b q st. refl;
  set = λ b q ne st old set. record { newborn = set.newborn; versions = set.versions; clears = set.clears };
  may = λ a i b s p ne st m e. inl m;
  live = λ b ne r. inl (r, refl);
  newborn = λ b e. e;
  supers = record { memory = same_if refl; versions = λ z is. inl is };
  waits = λ leaf on j is. inl is;
  clears = λ at i leaf is. (inl is, refl);
}

module _ {b after : ℕ} {c d : Kept} {f : Format} {x : Used} {Made : ℕ → Type 0} {h : Origins} {unsure : List Bool} {holds : Holds} (all : HoldsMade c f Made h unsure holds) (s : Beside c d f x holds) (o : SetsAside b after c d Made h.Apart) where
  abbrev Old : Known
  Old = known c.mind holds

  abbrev Tops : List Top
  Tops = d.active ++ map root_top c.roots

  abbrev New : Known
  New = view Old Tops

  abbrev T : Tree
  T = division c Made

  abbrev After : ℕ → Type 0
  After a = Made a × (a ≢ b)

  abbrev One : List Pending
  One = record { blocks = b ∷ []; after = after } ∷ []

  made : Made b
  made = all.origins.made b o.apart

  fewer_tops : (y : Top) → Contains Tops y → Contains Old.tops y
  fewer_tops y is = subst (λ (ts : List Top). Contains ts y) (sym all.all.epochs.trees.tops) (⊎_elim
      (λ a. Contains-append_left c.active (map root_top c.roots) y (o.keeps.fewer.fewer y a))
      (λ r. Contains-append_right c.active (map root_top c.roots) y r)
      (Contains-append_cases d.active (map root_top c.roots) y is))

  trees : KeepsTrees Old New c.active d.active c.roots
  trees = record {
    tops = refl;
    fewer = o.keeps.fewer;
    low = refl;
    may = λ a i z v m e. inl m;
    label = λ z q st. inl refl;
    labels = λ z l is. inl is;
    written = λ a i t v is e. inl (v, is, e);
  }

  stays : Stays Old New T
  stays = record {
    slots = λ a j. refl;
    stands = λ z q st. view_stands Old Tops fewer_tops z q st;
    may = λ a i z v m e. m;
    unwritten = λ a m u. record { newborn = u.newborn; late = u.late; clears = u.clears };
    tops = fewer_tops;
  }

  -- it is a top no more
  no_top : (y : Top) → Contains d.active y → y.at ≡ b → ⊥
  no_top y is e = ⊎_elim
      (λ one. all.all.queue.now.tree.apart b made (subst (λ z. T.Within z) (sym one ∙ e) (record { path = []; leads = refl })))
      (λ m. m.1 e)
      (o.keeps.made y is)

  unhung : (a j : ℕ) → T.Made a → Points Old a j b → ⊥
  unhung a j m e = all.origins.unhung b a j o.apart m e

  queue : IsQueue New (set_aside T b) c.high d.active c.roots c.past (c.queue ++ One)
  queue = record {
    now = aside_divided (view New d.active) T (past_blocks c.past) c.queue b after made o.within unhung o.leads no_top (still_divided T (past_blocks c.past) c.queue (stays_view stays trees) all.all.queue.now);
    behind = past_each Old New c.active d.active c.roots c.roots c.past [] (λ r is. record {
      led = λ a i z v p st m e own. ((p, seen_still trees r.epoch a p st), m);
      memory = λ i z e own. e;
      tops = λ y in_y own. fewer_from c.active d.active c.roots r.epoch o.keeps.fewer y in_y;
    }) all.all.queue.behind;
    order = all.all.queue.order;
    before = all.all.queue.before;
    within = all.all.queue.within;
    once = subst (λ (l : List ℕ). IsOnce l) (assoc (past_blocks c.past) (blocks_of c.queue) (b ∷ []) ∙ ap (λ (l : List ℕ). past_blocks c.past ++ l) (sym (blocks_both c.queue One))) (once_both (past_blocks c.past ++ blocks_of c.queue) (b ∷ []) all.all.queue.once (λ none. nothing_among b none, tt) (λ z was own. ⊎_elim
        (λ e. all.all.queue.now.forest.uncovered b made (all.all.queue.now.covered b (⊎_elim (λ l. inl l) (λ r. inr (covered_one c.queue b r)) (among_either (past_blocks c.past) (blocks_of c.queue) b (subst (λ v. Contains (past_blocks c.past ++ blocks_of c.queue) v) (sym e) was)))))
        (λ none. nothing_among z none)
        (Rattle.fo_cells.proofs.Standing.among_cases b [] z own)));
    live = λ z is. ⊎_elim
        (λ cov. ⊎_elim (λ was. all.all.queue.live z (inl was)) (λ e. all.all.queue.live z (inr (subst (λ v. Made v) (sym e) made))) cov)
        (λ m. all.all.queue.live z (inr m.0))
        is;
    begun = all.all.queue.begun;
  }

  -- nothing but itself hangs from it
  alone : (n a : ℕ) → Under (view Old c.active) T n b a → Made a → a ≡ b
  alone zero a u m = u
  alone (suc n) a u m = absurd (all.all.queue.now.tree.apart a m (o.leads u.1 a (subst (λ v. target ((c.mind.memory v).slot u.1) ≡ Local a) (alone n u.0 u.4 u.2) u.3)))

  under_stays : (n y a : ℕ) → (Made a × (a ≢ b)) → Under (view Old c.active) T n y a → Under (view New d.active) (set_aside T b) n y a
  under_stays zero y a m u = u
  under_stays (suc n) y a m u =
      let ne : u.0 ≢ b = λ e. all.all.queue.now.tree.apart a m.0 (o.leads u.1 a (subst (λ v. target ((c.mind.memory v).slot u.1) ≡ Local a) e u.3)) in
      (u.0, u.1, (u.2, ne), u.3, under_stays n y u.0 (u.2, ne) u.4)

  by_stays : (a j z : ℕ) → ByCopy (view Old c.active) T h a j z → ByCopy (view New d.active) (set_aside T b) (put_after h b) a j z
  by_stays a j z k = record { original = k.original; copied = k.copied; leads = k.leads }

  top_stays : (a j z : ℕ) → ByTop T h a j z → ByTop (set_aside T b) (put_after h b) a j z
  top_stays a j z k = record { first = k.first; pointers = k.pointers; instead = k.instead; raised = k.raised }

  origins : HasOrigins (view New d.active) (set_aside T b) (put_after h b)
  origins = record {
    made = λ y q. (all.origins.made y q.0, q.1);
    unhung = λ y a j q m e. all.origins.unhung y a j q.0 m.0 e;
    hangs = λ a m.
        let top = all.origins.hangs a m.0 in
        (top.0, top.1, (top.2, λ e. m.1 (alone top.1 a (subst (λ v. Under (view Old c.active) T top.1 v a) e top.3) m.0)), under_stays top.1 top.0 a m top.3);
    copied = λ y z m k. all.origins.copied y z m.0 k;
    instead = λ y z m q. all.origins.instead y z m.0 q;
    one = λ y z v m p q. all.origins.one y z v m.0 p q;
    slots = λ a j z m e. ⊎_elim
        (λ w. inl (w.0, ⊎_elim (λ k. inl (by_stays a j z k)) (λ k. inr (top_stays a j z k.0, k.1)) w.1))
        (λ k. inr ((k.0, λ is. unhung a j m.0 (subst (λ v. Points Old a j v) is e)), ⊎_elim (λ r. inl (r.0, r.1, ⊎_elim (λ y. inl (by_stays a j r.0 y)) (λ y. inr (top_stays a j r.0 y)) r.2)) (λ none. inr none) k.1))
        (all.origins.slots a j z m.0 e);
    head = λ y z j e v my me k q i up p. all.origins.head y z j e v my.0 me.0 k q i up p;
  }

  mind_label : (a : ℕ) → d.mind.label a ≡ c.mind.label a
  mind_label a = ap (λ (m : Mind). m.label a) o.mind

  same : SameTree (set_aside T b) (division d After)
  same = record {
    within = λ a w. subst (λ (m : Mind). Reaches m.memory (to_block 1) a) (sym o.mind) w;
    within_back = λ a w. subst (λ (m : Mind). Reaches m.memory (to_block 1) a) o.mind w;
    made = λ a m. m;
    made_back = λ a m. m;
    covered = λ a is. listed_from {c = c} {d = d} One o.epoch o.queue a (⊎_elim (λ was. inl was) (λ e. inr (inl (subst (λ v. Contains (b ∷ []) v) (sym e) (first_among b [])))) is);
    covered_back = λ a is. ⊎_elim
        (λ was. inl was)
        (λ own. inr (⊎_elim (λ one. ⊎_elim (λ e. sym e) (λ none. absurd (nothing_among a none)) (Rattle.fo_cells.proofs.Standing.among_cases b [] a one)) (λ none. absurd none) own))
        (listed_in {c = c} {d = d} One o.epoch o.queue a is);
    older = λ a is q. older_on o.epoch Made Made a (mind_label a) q;
    older_back = λ a is q. older_off o.epoch Made Made a (mind_label a) q;
    pointers = λ a is q. pointers_on o.epoch Made Made a (mind_label a) q;
    pointers_back = λ a is q. pointers_off o.epoch Made Made a (mind_label a) q;
  }

  new_is : known d.mind holds ≡ New
  new_is = ap (λ (m : Mind). known m holds) o.mind

  pub aside_made : AddsNothing (images c holds) (images d holds) × HoldsMade d f After (put_after h b) unsure holds
  aside_made =
      let e : HasEpochs New c.high f.high_of c.doubts d.active c.roots = by_trees (view_safe Old Tops c.high fewer_tops (Contains-append_left d.active (map root_top c.roots) super_top o.keeps.fewer.top)) trees s.read all.all.epochs in
      let q : IsQueue New (division d After) c.high d.active c.roots c.past (c.queue ++ One) = queue_same same queue in (
        record { each = λ image r. let y = subst (λ (m : Mind). Rattle.fo_cells.specs.Known.Remains (known m holds) image) o.mind r in record { cells = y.cells; super = y.super } },
        record {
          all = together
              (epochs_rest f o.epoch (subst (λ (k : Known). HasEpochs k c.high f.high_of c.doubts d.active c.roots) (sym new_is) e))
              (queue_rest o.epoch (subst (λ (k : Known). IsQueue k (division d After) c.high d.active c.roots c.past d.queue) (sym new_is) (subst (λ (qs : List Pending). IsQueue New (division d After) c.high d.active c.roots c.past qs) (sym o.queue) q)))
              (beside_step s.steps (beside all.all));
          origins = subst (λ (k : Known). HasOrigins (view k d.active) (division d After) (put_after h b)) (sym new_is) (origins_same (view New d.active) same origins);
          tops = o.keeps.made;
          apart = λ a is. let y = all.apart a is.0 in (y.0, o.keeps.apart y.0 y.1 (subst (λ v. h.Apart v × (v ≢ b)) (sym y.2) is), y.2);
        },
      )
