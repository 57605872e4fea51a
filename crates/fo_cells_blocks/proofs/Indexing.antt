-- A made block gets its index.
use Rattle.std.proofs.Common.{◌≡◌, inl, inr, ⊎_elim, ℕ, ◌≤◌, zero, suc, Bool, List, [], ◌∷◌, ◌++◌, refl, sym, ◌∙◌, ap, subst}
use Rattle.std.proofs.lemmas.Bool.{cases_eq}
use Rattle.std.specs.List.{Contains}
use Rattle.fo_disk.specs.Disk.{Content as Holds}
use Rattle.fo_image.specs.declared.types.Label.{Label}
use Rattle.fo_image.specs.declared.types.Pointer.TheVariants.{Local}
use Rattle.fo_crash.specs.declared.slot.Slot.{Slot}
use Rattle.fo_crash.specs.declared.place.Place.{Place}
use Rattle.fo_crash.specs.Images.{Content, Image, Reaches, target, to_block}
use Rattle.fo_crash.specs.Steps.{AddsNothing}
use Rattle.fo_cells.specs.Known.{Known, Clear, Top, IsClear, MaySlot, Stands}
use Rattle.fo_cells.specs.Calls.{Indexes}
use Rattle.fo_cells.specs.Device.{known}
use Rattle.fo_cells.proofs.Standing.{at_b, stands_top, stands_by, stands_below}
use Rattle.fo_cells.proofs.Indexing.{index_adds, may_index, stands_index}
use Rattle.fo_cells_out.specs.Removals.{Pending, AreBehind}
use Rattle.fo_cells_out.specs.Parents.{Tree, Points, Over, IsUnwritten, IsDivided, view}
use Rattle.fo_cells_out.specs.Origins.{Origins}
use Rattle.fo_cells_held.specs.Room.{Used}
use Rattle.fo_cells_epochs.specs.Epochs.{Root, tree_of}
use Rattle.fo_cells_epochs.proofs.Trees.{active_stands}
use Rattle.fo_cells_epochs.proofs.Epochs.{index_epochs}
use Rattle.fo_cells_queue.specs.Queue.{IsQueue, tops_from, past_blocks}
use Rattle.fo_cells_queue.proofs.Seen.{PassesOne, behind_one, past_each, block_among, seen_cases, seen_active, seen_tree, from_active, from_root, from_cases}
use Rattle.fo_cells_all.specs.All.{Kept, Format}
use Rattle.fo_cells_all.proofs.All.{beside, beside_step, together}
use Rattle.fo_cells_steps.specs.Division.{SameTree, HoldsMade, division}
use Rattle.fo_cells_steps.specs.Calls.{Beside, images}
use Rattle.fo_cells_steps.proofs.Same.{queue_same, origins_alike}
use Rattle.fo_cells_steps.proofs.Still.{epochs_rest, queue_rest, division_same}
use Rattle.fo_cells_blocks.specs.Indexing.{IndexesOne}

-- REMOVALS over a step in which blocks stand at other places
pub behind_each : (old new : Known) (queue : List Pending) (earlier : List ℕ) → ((r : Pending) → Contains queue r → PassesOne old new r) → AreBehind old earlier queue → AreBehind new earlier queue
behind_each old new [] earlier one h = tt
behind_each old new (r ∷ rs) earlier one h = (behind_one earlier (one r (Rattle.fo_cells.proofs.Standing.first_among r rs)) h.0, behind_each old new rs (earlier ++ r.blocks) (λ y is. one y (Rattle.fo_cells.proofs.Standing.next_among r y rs is)) h.1)

pub one_covered : (queue : List Pending) (r : Pending) (b : ℕ) → Contains queue r → Contains r.blocks b → Rattle.fo_cells_out.specs.Removals.IsCovered queue b
one_covered [] r b is own = absurd (Rattle.fo_cells_out.proofs.Queue.nothing_among r is)
one_covered (x ∷ xs) r b is own = ⊎_elim
    (λ e. inl (subst (λ (y : Pending). Contains y.blocks b) (sym e) own))
    (λ more. inr (one_covered xs r b more own))
    (Rattle.fo_cells.proofs.Standing.among_cases x xs r is)

over_alike : (old new : Known) (t : Tree) → ((a j b : ℕ) → Points old a j b → Points new a j b) → (n a b : ℕ) → Over old t n a b → Over new t n a b
over_alike old new t on zero a b o = (o.0, on a o.0 b o.1)
over_alike old new t on (suc n) a b o = (o.0, o.1, o.2, on o.0 0 b o.3, over_alike old new t on n a o.0 o.4)

-- the division stays where slots stay, and what stands stood somewhere
pub placed_divided : {old new : Known} {t : Tree} (before : List ℕ) (queue : List Pending) → ((a j b : ℕ) → Points old a j b → Points new a j b) → ((a j b : ℕ) → Points new a j b → Points old a j b) → ((a i : ℕ) (s : Slot) → MaySlot new a i s → MaySlot old a i s) → ((b : ℕ) (p : Place) → Stands new b p → (q : Place) × Stands old b q) → ((a : ℕ) → t.Made a → IsUnwritten old a → IsUnwritten new a) → ((r : Pending) → Contains queue r → PassesOne old new r) → IsDivided old t before queue → IsDivided new t before queue
placed_divided {old} {new} {t} before queue on off may stands unwritten passes d = record {
  tree = record {
    one = λ a c i j b wa wc ea ec. d.tree.one a c i j b wa wc (off a i b ea) (off c j b ec);
    closed = λ a i b w e. d.tree.closed a i b w (off a i b e);
    older = λ a i b w e q. d.tree.older a i b w (off a i b e) q;
    apart = d.tree.apart;
    gone = d.tree.gone;
  };
  forest = record {
    leads = λ a j b m e. d.forest.leads a j b m (off a j b e);
    one = λ a c j l b ma mc mb ea ec. d.forest.one a c j l b ma mc mb (off a j b ea) (off c l b ec);
    young = d.forest.young;
    uncovered = d.forest.uncovered;
  };
  parents = record {
    tree = λ a i b s p st m e w.
        let was = stands a p st in ⊎_elim
        (λ h. inl (record { within = h.within; levels = h.levels; over = over_alike old new t on h.levels a b h.over; older = h.older }))
        (λ r. inr r)
        (d.parents.tree a i b s was.0 was.1 (may a i s m) e w);
    made = λ a i b s p st m e mb. let was = stands a p st in d.parents.made a i b s was.0 was.1 (may a i s m) e mb;
    unwritten = λ a m. unwritten a m (d.parents.unwritten a m);
  };
  behind = behind_each old new queue before passes d.behind;
  listed = d.listed;
  covered = d.covered;
}

module _ {at : ℕ} {q : Place} {c d : Kept} {f : Format} {x : Used} {Made : ℕ → Type 0} {h : Origins} {unsure : List Bool} {holds : Holds} (all : HoldsMade c f Made h unsure holds) (b : Beside c d f x holds) (o : IndexesOne at q c d h.Apart holds) where
  abbrev Old : Known
  Old = known c.mind holds

  abbrev New : Known
  New = known d.mind holds

  abbrev T : Tree
  T = division c Made

  made : Made at
  made = all.origins.made at o.apart

  stood_at : (r : Place) × Stands (view Old c.active) at r
  stood_at = let y = all.apart at o.apart in ((y.0).place, subst (λ z. Stands (view Old c.active) z (y.0).place) y.2 (stands_top y.0 y.1))

  uncovered : T.Covered at → ⊥
  uncovered is = all.all.queue.now.forest.uncovered at made is

  index_view : Indexes at q (view Old c.active) (view New d.active)
  index_view = record {
    of_device = o.indexes.of_device;
    memory = o.indexes.memory;
    device = record { versions = o.indexes.device.versions; newborn = o.indexes.device.newborn; late = o.indexes.device.late; labels = o.indexes.device.labels };
    label = o.indexes.label;
    low = o.indexes.low;
    waits = o.indexes.waits;
    clears = o.indexes.clears;
    tops = o.moves.each;
    unled = λ a i s p st m e. o.indexes.unled a i s p (active_stands all.all.epochs.trees a p st) m e;
    empty = o.indexes.empty;
    fits = o.indexes.fits;
  }

  index_tree : (r : Root) (a : ℕ) (p : Place) → Stands (tree_of New r) a p → Stands (tree_of Old r) a p
  index_tree r = stands_by (λ y is. stands_top y is) (λ a i s p z st m e. stands_below i s z st (may_index o.indexes a i s m) e)

  -- what is seen stood in the active trees, or in those of kept roots as before
  stood : (a : ℕ) (p : Place) → Stands (view New d.active) a p → (r : Place) × Stands (view Old c.active) a r
  stood a p st = ⊎_elim
      (λ was. (p, was.0))
      (λ n. (stood_at.0, subst (λ y. Stands (view Old c.active) y stood_at.0) (sym n.0) stood_at.1))
      (stands_index index_view a p st)

  seen : (epoch a : ℕ) (p : Place) → Stands (view New (tops_from d.active c.roots epoch)) a p → (r : Place) × Stands (view Old (tops_from c.active c.roots epoch)) a r
  seen epoch a p st = ⊎_elim
      (λ y. let was = stood a p y in (was.0, seen_active Old c.active c.roots epoch a was.0 was.1))
      (λ y. (p, seen_tree Old c.active c.roots epoch a p (record { root = y.root; among = y.among; from = y.from; stands = index_tree y.root a p y.stands })))
      (seen_cases New d.active c.roots epoch a p st)

  points_on : (a j z : ℕ) → Points (view Old c.active) a j z → Points (view New d.active) a j z
  points_on a j z e = subst (λ (m : Image). target ((m a).slot j) ≡ Local z) (sym o.indexes.memory) e

  points_off : (a j z : ℕ) → Points (view New d.active) a j z → Points (view Old c.active) a j z
  points_off a j z e = subst (λ (m : Image). target ((m a).slot j) ≡ Local z) o.indexes.memory e

  unwritten_on : (a : ℕ) → IsUnwritten (view Old c.active) a → IsUnwritten (view New d.active) a
  unwritten_on a u = record {
    newborn = at_b a o.indexes.device.newborn ∙ u.newborn;
    late = λ z is. u.late z (subst (λ (zs : List Content). Contains zs z) (at_b a o.indexes.device.late) is);
    clears = λ j leaf is. u.clears j leaf (subst (λ (cs : List Clear). IsClear cs a j leaf) o.indexes.clears is);
  }

  -- a top whose block waits was one before
  top_was : (y : Top) → Contains d.active y → T.Covered y.at → Contains c.active y
  top_was y is cov = ⊎_elim (λ was. was.0) (λ n. absurd (uncovered (subst (λ z. T.Covered z) n.0 cov))) (o.moves.each y is)

  top_from : (epoch : ℕ) (y : Top) → Contains (tops_from d.active c.roots epoch) y → T.Covered y.at → Contains (tops_from c.active c.roots epoch) y
  top_from epoch y is cov = ⊎_elim
      (λ a. from_active c.active c.roots epoch y (top_was y a cov))
      (λ z. subst (λ (w : Top). Contains (tops_from c.active c.roots epoch) w) z.is (from_root c.active c.roots epoch z.root z.among z.from))
      (from_cases d.active c.roots epoch y is)

  queue : IsQueue New T c.high d.active c.roots c.past c.queue
  queue = record {
    now = placed_divided (past_blocks c.past) c.queue points_on points_off (λ a i s m. may_index o.indexes a i s m) stood (λ a m u. unwritten_on a u) (λ r is. record {
      led = λ a i z s p st m e own. (stood a p st, may_index o.indexes a i s m);
      memory = λ i z e own. points_off r.after i z e;
      tops = λ y in_y own. top_was y in_y (all.all.queue.now.covered y.at (inr (one_covered c.queue r y.at is own)));
    }) all.all.queue.now;
    behind = past_each Old New c.active d.active c.roots c.roots c.past [] (λ r is. record {
      led = λ a i z s p st m e own. (seen r.epoch a p st, may_index o.indexes a i s m);
      memory = λ i z e own. points_off r.pending.after i z e;
      tops = λ y in_y own. top_from r.epoch y in_y (all.all.queue.now.covered y.at (inl (block_among c.past r y.at is own)));
    }) all.all.queue.behind;
    order = all.all.queue.order;
    before = all.all.queue.before;
    within = λ z w. subst (λ (m : Image). Reaches m (to_block 1) z) (sym o.indexes.memory) w;
    once = all.all.queue.once;
    live = λ z is. ap (λ (l : Label). l.state) (at_b z o.indexes.label) ∙ all.all.queue.live z is;
    begun = λ r z is own. subst (λ (l : Label). l.epoch ≤ r.epoch) (sym (at_b z o.indexes.label)) (all.all.queue.begun r z is own);
  }

  same : SameTree T (division d Made)
  same = division_same {c = c} {d = record d { active = c.active }} Made (record { epoch = record { high = o.epoch.high; doubts = o.epoch.doubts; roots = o.epoch.roots; past = o.epoch.past }; active = refl; queue = o.queue }) (λ a i. ap (λ (m : Image). (m a).slot i) o.indexes.memory) (λ a. at_b a o.indexes.label)

  pub indexed_made : AddsNothing (images c holds) (images d holds) × HoldsMade d f Made h unsure holds
  indexed_made = (
    index_adds o.indexes,
    record {
      all = together
          (epochs_rest f o.epoch (index_epochs o.indexes o.moves o.tops o.current stood_at o.unwaited all.all.epochs))
          (queue_rest o.epoch (subst (λ (qs : List Pending). IsQueue New (division d Made) c.high d.active c.roots c.past qs) (sym o.queue) (queue_same same queue)))
          (beside_step b.steps (beside all.all));
      origins = origins_alike (view Old c.active) (view New d.active) points_on points_off same all.origins;
      tops = λ y is. ⊎_elim (λ was. all.tops y was.0) (λ n. inr (subst (λ z. Made z) (sym n.0) made)) (o.moves.each y is);
      apart = λ z is. ⊎_elim
          (λ e. (record { at = at; place = q }, o.here, sym e))
          (λ ne. let y = all.apart z is in (y.0, o.others y.0 y.1 (λ e. ne (sym y.2 ∙ e)), y.2))
          (cases_eq z at);
    },
  )
